-- Lines that are neither blank nor a Name line go to the record that is open.
use Rattle.std.proofs.Common.{◌≡◌, ℕ, Bool, true, false, cond, List, ◌++◌, Some, None, Option, refl, subst, sym, ap, ◌∙◌}
use Rattle.std.specs.Prelude.{codes, ◌==◌}
use Rattle.std.specs.List.{list_all, list_any, before_first, after_first}
use Rattle.std.specs.Option.{option_map_or}
use Rattle.std.specs.Str.{bytes_eq}
use Rattle.dc_text.specs.Ascii.{equals_sign}
use Rattle.dc_text.specs.Bytes.{is_blank as are_blank, is_indented, trimmed, without_space}
use Rattle.dc_text.specs.Names.{is_name, is_field_key, is_flag_name, is_variable_key}
use Rattle.dc_text.specs.Settled.{settled}
use Rattle.dc_item.specs.Grammar.{pieces, line_said, headed_line, indented_line, name_line, owners_line, flags_line, variables_line, field_line, variable_line, RecordLine, Owners, Flags, Variables, Variable, Field, Nothing}
use Rattle.dc_item.specs.Heads.{front_of, head_said}
use Rattle.dc_item.specs.Reader.{added, step, with_current}
use Rattle.dc_parts.specs.declared.usual.UsualKey.TheVariants as usual
use Rattle.dc_item.specs.declared.reading.Head.{Head}
use Rattle.dc_item.specs.declared.reading.Head.TheVariants as head
use Rattle.dc_item.specs.declared.reader.Open.{Open}
use Rattle.dc_item.specs.declared.reader.Reader.{Reader}

-- the line goes to the record that is open, whatever its number
abbrev GoesOn : RecordLine → Type 0
GoesOn p = (r : Reader) (n : ℕ) → step r n p ≡ with_current r (λ o. added o p)

none_added : (r : Reader) (c : Option Open) → None ≡ option_map_or (λ o. option_map_or (λ p. Some (record r { current = Some p })) None None) c None
none_added r None = refl
none_added r (Some o) = refl

nothing_goes_on : GoesOn Nothing
nothing_goes_on r n = none_added r r.current

either_goes_on : (b : Bool) (p q : RecordLine) → GoesOn p → GoesOn q → GoesOn (cond b p q)
either_goes_on true p q one other = one
either_goes_on false p q one other = other

owners_go_on : (rest : List ℕ) → GoesOn (owners_line rest)
owners_go_on rest = either_goes_on (list_all is_name (pieces rest)) (Owners (pieces rest)) Nothing (λ r n. refl) nothing_goes_on

flags_go_on : (rest : List ℕ) → GoesOn (flags_line rest)
flags_go_on rest = either_goes_on (list_all is_flag_name (pieces rest)) (Flags (pieces rest)) Nothing (λ r n. refl) nothing_goes_on

variables_go_on : (rest : List ℕ) → GoesOn (variables_line rest)
variables_go_on rest = either_goes_on (are_blank rest) Variables Nothing (λ r n. refl) nothing_goes_on

field_goes_on : (key rest : List ℕ) → GoesOn (field_line key rest)
field_goes_on key rest = either_goes_on (is_field_key key) (Field key (settled (without_space rest))) Nothing (λ r n. refl) nothing_goes_on

variable_goes_on : (key rest : List ℕ) → GoesOn (variable_line key rest)
variable_goes_on key rest = either_goes_on (is_variable_key key) (Variable key (settled (without_space rest))) Nothing (λ r n. refl) nothing_goes_on

-- what a headed line says if it is no Name line
abbrev other_line : List ℕ → List ℕ → RecordLine
other_line word rest =
    cond (bytes_eq word (codes "owners")) (owners_line rest)
    (cond (bytes_eq word (codes "flags")) (flags_line rest)
    (cond (bytes_eq word (codes "variables")) (variables_line rest) (field_line word rest)))

other_goes_on : (word rest : List ℕ) → GoesOn (other_line word rest)
other_goes_on word rest =
    either_goes_on (bytes_eq word (codes "owners")) (owners_line rest) _ (owners_go_on rest)
    (either_goes_on (bytes_eq word (codes "flags")) (flags_line rest) _ (flags_go_on rest)
    (either_goes_on (bytes_eq word (codes "variables")) (variables_line rest) (field_line word rest) (variables_go_on rest) (field_goes_on word rest)))

pub headed_goes_on : (r : Reader) (n : ℕ) (word rest : List ℕ) → bytes_eq word (codes "name") ≡ false → step r n (headed_line word rest) ≡ with_current r (λ o. added o (headed_line word rest))
headed_goes_on r n word rest other =
    subst (λ b. step r n (cond b (name_line rest) (other_line word rest)) ≡ with_current r (λ o. added o (cond b (name_line rest) (other_line word rest)))) (sym other) (other_goes_on word rest r n)

indented_said : (line : List ℕ) → are_blank line ≡ false → is_indented line ≡ true → line_said line ≡ indented_line line
indented_said line unblank indented = rw (unblank, indented) refl

pub indented_goes_on : (r : Reader) (n : ℕ) (line : List ℕ) → are_blank line ≡ false → is_indented line ≡ true → step r n (line_said line) ≡ with_current r (λ o. added o (indented_line line))
indented_goes_on r n line unblank indented =
    ap (step r n) (indented_said line unblank indented)
    ∙ either_goes_on (list_any (λ byte. byte == equals_sign) line) (variable_line (trimmed (before_first (λ byte. byte == equals_sign) line)) (after_first (λ byte. byte == equals_sign) line)) Nothing
    (variable_goes_on (trimmed (before_first (λ byte. byte == equals_sign) line)) (after_first (λ byte. byte == equals_sign) line)) nothing_goes_on r n

-- ---- a line with a usual head

pub usual_said : (h : Head) (rest : List ℕ) → line_said (front_of h ++ rest) ≡ head_said h rest
usual_said head.Name rest = refl
usual_said head.Owners rest = refl
usual_said head.Flags rest = refl
usual_said head.Variables rest = refl
usual_said (head.Field usual.Default) rest = refl
usual_said (head.Field usual.Description) rest = refl
usual_said (head.Field usual.ExtendedDescription) rest = refl
usual_said (head.Field usual.Template) rest = refl
usual_said (head.Field usual.«Type») rest = refl
usual_said (head.Field usual.Value) rest = refl
