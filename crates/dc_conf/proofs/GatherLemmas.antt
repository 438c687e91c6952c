-- The stanzas of a text, one line after another, and the faults of its lines.
use Rattle.std.proofs.Common.{◌≡◌, ℕ, ◌+◌, ◌≤◌, Bool, true, false, not, cond, List, [], ◌∷◌, ◌++◌, map as each, refl, sym, ap, ◌∙◌, subst, append_assoc, arith}
use Rattle.std.specs.List.{AllByRecursion, filter, list_any, slice_split, onto_first}
use Rattle.std.specs.Str.{bytes_eq}
use Rattle.std.proofs.lemmas.List.{append-nil}
use Rattle.dc_text.specs.Bytes.{is_blank, is_nil}
use Rattle.dc_text.specs.Lines.{lines_of}
use Rattle.dc_conf.specs.declared.faults.Fault.{Fault}
use Rattle.dc_conf.specs.declared.faults.ConfKind.TheVariants.{NoColon, Twice}
use Rattle.dc_conf.specs.Stanzas.{Line, numbered, is_comment, has_colon, field_in, fields_of, stanzas}
use Rattle.dc_conf.specs.ConfFaults.{fault, fault_if, along, line_faults, first_pass}
use Rattle.dc_conf.specs.Machine.{IsBetween, Rise}
use Rattle.dc_conf.proofs.TestLemmas.{all_each, all-append, nil-append}

abbrev blank : Line → Bool
blank line = is_blank line.text

abbrev solid : Line → Bool
solid line = not (is_comment line.text)

abbrev some : List Line → Bool
some lines = not (is_nil lines)

-- lines that go on, as a list of one where they are some
abbrev pub kept_lines : List Line → List (List Line)
kept_lines [] = []
kept_lines (line ∷ lines) = (line ∷ lines) ∷ []

-- the stanzas, where some lines of one came already
abbrev pub gather : List Line → List Line → List (List Line)
gather begun [] = kept_lines begun
gather begun (line ∷ lines) =
    cond (is_comment line.text) (gather begun lines) (cond (is_blank line.text) (kept_lines begun ++ gather [] lines) (gather (begun ++ line ∷ []) lines))

-- the faults of the lines that come
abbrev pub rest_faults : List Line → List Line → List Fault
rest_faults begun [] = []
rest_faults begun (line ∷ lines) =
    cond (is_comment line.text) (rest_faults begun lines) (cond (is_blank line.text) (rest_faults [] lines) (line_faults begun line ++ rest_faults (begun ++ line ∷ []) lines))

-- ---- the stanzas

abbrev onto : List Line → List (List Line) → List (List Line)
onto begun [] = begun ∷ []
onto begun (first ∷ more) = (begun ++ first) ∷ more

onto-nil : (parts : List (List Line)) → filter some (onto [] parts) ≡ filter some parts
onto-nil [] = refl
onto-nil (first ∷ more) = refl

onto-first : (begun : List Line) (line : Line) (parts : List (List Line)) → onto begun (onto_first line parts) ≡ onto (begun ++ line ∷ []) parts
onto-first begun line [] = refl
onto-first begun line (first ∷ more) = ap (λ part. part ∷ more) (sym (append_assoc begun (line ∷ []) first))

keep_first : (begun : List Line) (more : List (List Line)) → filter some ((begun ++ []) ∷ more) ≡ kept_lines begun ++ filter some more
keep_first [] more = refl
keep_first (line ∷ begun) more = ap (λ ls. (line ∷ ls) ∷ filter some more) (append-nil begun)

gather-split : (begun lines : List Line) → gather begun lines ≡ filter some (onto begun (slice_split blank (filter solid lines)))
gather-split begun [] = sym (keep_first begun [] ∙ append-nil (kept_lines begun))
gather-split begun (line ∷ lines) =
    elim (is_comment line.text) as (λ t. cond t (gather begun lines) (cond (is_blank line.text) (kept_lines begun ++ gather [] lines) (gather (begun ++ line ∷ []) lines))
    ≡ filter some (onto begun (slice_split blank (cond (not t) (line ∷ filter solid lines) (filter solid lines))))) [
      | true ↦ gather-split begun lines
      | false ↦ elim (is_blank line.text) as (λ t. cond t (kept_lines begun ++ gather [] lines) (gather (begun ++ line ∷ []) lines)
          ≡ filter some (onto begun (cond t ([] ∷ slice_split blank (filter solid lines)) (onto_first line (slice_split blank (filter solid lines)))))) [
            | true ↦ ap (λ ls. kept_lines begun ++ ls) (gather-split [] lines ∙ onto-nil (slice_split blank (filter solid lines))) ∙ sym (keep_first begun (slice_split blank (filter solid lines)))
            | false ↦ gather-split (begun ++ line ∷ []) lines ∙ ap (filter some) (sym (onto-first begun line (slice_split blank (filter solid lines))))
          ]
    ]

pub stanzas-gather : (text : List ℕ) → stanzas text ≡ gather [] (numbered 1 (lines_of text))
stanzas-gather text =
    sym (gather-split [] (numbered 1 (lines_of text)) ∙ onto-nil (slice_split blank (filter solid (numbered 1 (lines_of text)))))

-- ---- the faults of lines

along-push : {X : Type 0} (faults : List X → X → List Fault) (before xs : List X) (x : X) → along faults before (xs ++ x ∷ []) ≡ along faults before xs ++ faults (before ++ xs) x
along-push faults before [] x = append-nil (faults before x) ∙ ap (λ b. faults b x) (sym (append-nil before))
along-push faults before (y ∷ xs) x =
    ap (λ fs. faults before y ++ fs) (along-push faults (before ++ y ∷ []) xs x ∙ ap (λ b. along faults (before ++ y ∷ []) xs ++ faults b x) (append_assoc before (y ∷ []) xs))
    ∙ sym (append_assoc (faults before y) (along faults (before ++ y ∷ []) xs) (faults (before ++ y ∷ xs) x))

kept-faults : (begun : List Line) (more : List (List Line)) → along line_faults [] begun ++ first_pass more ≡ first_pass (kept_lines begun ++ more)
kept-faults [] more = refl
kept-faults (line ∷ begun) more = refl

rest-faults : (begun lines : List Line) → along line_faults [] begun ++ rest_faults begun lines ≡ first_pass (gather begun lines)
rest-faults begun [] = kept-faults begun [] ∙ ap first_pass (append-nil (kept_lines begun))
rest-faults begun (line ∷ lines) =
    elim (is_comment line.text) as (λ t. along line_faults [] begun ++ cond t (rest_faults begun lines) (cond (is_blank line.text) (rest_faults [] lines) (line_faults begun line ++ rest_faults (begun ++ line ∷ []) lines))
    ≡ first_pass (cond t (gather begun lines) (cond (is_blank line.text) (kept_lines begun ++ gather [] lines) (gather (begun ++ line ∷ []) lines)))) [
      | true ↦ rest-faults begun lines
      | false ↦ elim (is_blank line.text) as (λ t. along line_faults [] begun ++ cond t (rest_faults [] lines) (line_faults begun line ++ rest_faults (begun ++ line ∷ []) lines)
          ≡ first_pass (cond t (kept_lines begun ++ gather [] lines) (gather (begun ++ line ∷ []) lines))) [
            | true ↦ ap (λ fs. along line_faults [] begun ++ fs) (rest-faults [] lines) ∙ kept-faults begun (gather [] lines)
            | false ↦
                sym (append_assoc (along line_faults [] begun) (line_faults begun line) (rest_faults (begun ++ line ∷ []) lines))
                ∙ ap (λ fs. fs ++ rest_faults (begun ++ line ∷ []) lines) (sym (along-push line_faults [] begun line))
                ∙ rest-faults (begun ++ line ∷ []) lines
          ]
    ]

pub first_pass-rest : (text : List ℕ) → first_pass (stanzas text) ≡ rest_faults [] (numbered 1 (lines_of text))
first_pass-rest text = ap first_pass (stanzas-gather text) ∙ sym (rest-faults [] (numbered 1 (lines_of text)))

-- ---- the lines of the faults

pub line_above : (n : ℕ) (begun : List Line) (line : Line) → n ≤ line.number → AllByRecursion (λ f. n ≤ f.line) (line_faults begun line)
line_above n begun line h =
    elim (has_colon line.text) as (λ t. AllByRecursion (λ f. n ≤ f.line) (cond t (fault_if (list_any (λ field. bytes_eq field.key (field_in line).key) (fields_of begun)) line.number Twice) (fault line.number NoColon ∷ []))) [
      | true ↦ elim (list_any (λ field. bytes_eq field.key (field_in line).key) (fields_of begun)) as (λ t. AllByRecursion (λ f. n ≤ f.line) (fault_if t line.number Twice)) [ true ↦ (h, tt) | false ↦ tt ]
      | false ↦ (h, tt)
    ]

pub rest_above : (n : ℕ) (begun : List Line) (texts : List (List ℕ)) → AllByRecursion (λ f. n ≤ f.line) (rest_faults begun (numbered n texts))
rest_above n begun [] = tt
rest_above n begun (text ∷ texts) =
    let line : Line = record { number = n; text = text } in
    let up : (b : List Line) → AllByRecursion (λ f. n ≤ f.line) (rest_faults b (numbered (n + 1) texts)) =
    λ b. all_each (λ f. n + 1 ≤ f.line) (λ f. n ≤ f.line) (λ f h. omega arith) (rest_faults b (numbered (n + 1) texts)) (rest_above (n + 1) b texts) in
    elim (is_comment text) as (λ t. AllByRecursion (λ f. n ≤ f.line) (cond t (rest_faults begun (numbered (n + 1) texts)) (cond (is_blank text) (rest_faults [] (numbered (n + 1) texts)) (line_faults begun line ++ rest_faults (begun ++ line ∷ []) (numbered (n + 1) texts))))) [
      | true ↦ up begun
      | false ↦ elim (is_blank text) as (λ t. AllByRecursion (λ f. n ≤ f.line) (cond t (rest_faults [] (numbered (n + 1) texts)) (line_faults begun line ++ rest_faults (begun ++ line ∷ []) (numbered (n + 1) texts)))) [
        | true ↦ up []
        | false ↦ all-append (λ f. n ≤ f.line) (line_faults begun line) (rest_faults (begun ++ line ∷ []) (numbered (n + 1) texts)) (line_above n begun line (omega arith)) (up (begun ++ line ∷ []))
      ]
    ]

-- ---- stanzas without faults stand one after another

-- a line with a colon, from the first number to the second
pub record IsPlaced (low high : ℕ) (line : Line) : Type 0 where
  pub colon : has_colon line.text ≡ true
  pub above : low ≤ line.number
  pub below : line.number ≤ high

colon_of : (begun : List Line) (line : Line) → line_faults begun line ≡ [] → has_colon line.text ≡ true
colon_of begun line e =
    elim (has_colon line.text) as (λ t. cond t (fault_if (list_any (λ field. bytes_eq field.key (field_in line).key) (fields_of begun)) line.number Twice) (fault line.number NoColon ∷ []) ≡ [] → t ≡ true) [
      | true ↦ λ h. refl
      | false ↦ λ h. absurd (cc)
    ] e

-- where each line has a colon, each is a field
pub fields-each : (lines : List Line) → AllByRecursion (λ line. has_colon line.text ≡ true) lines → fields_of lines ≡ each field_in lines
fields-each [] all = refl
fields-each (line ∷ lines) all =
    ap (λ t. each field_in (cond t (line ∷ filter (λ l. has_colon l.text) lines) (filter (λ l. has_colon l.text) lines))) all.0
    ∙ ap (λ fs. field_in line ∷ fs) (fields-each lines all.1)

within_each : (low high : ℕ) (lines : List Line) → AllByRecursion (IsPlaced low high) lines → AllByRecursion (λ field. (low ≤ field.line) × (field.line ≤ high)) (each field_in lines)
within_each low high [] all = tt
within_each low high (line ∷ lines) all = ((all.0.above, all.0.below), within_each low high lines all.1)

between : (low high : ℕ) (line : Line) (lines : List Line) → AllByRecursion (IsPlaced low high) (line ∷ lines) → IsBetween low high (fields_of (line ∷ lines))
between low high line lines all =
    subst (IsBetween low high) (sym (fields-each (line ∷ lines) (all_each (IsPlaced low high) (λ l. has_colon l.text ≡ true) (λ l p. p.colon) (line ∷ lines) all))) (record { some = λ e. cc; within = within_each low high (line ∷ lines) all })

rise_kept : (low mid : ℕ) (begun : List Line) (more : List (List Line)) → low ≤ mid → AllByRecursion (IsPlaced low mid) begun → ((from : ℕ) → from ≤ mid → Rise from (each fields_of more))
    → Rise low (each fields_of (kept_lines begun ++ more))
rise_kept low mid [] more h all rise = rise low h
rise_kept low mid (line ∷ begun) more h all rise = (mid, h, between low mid line begun all, rise mid (omega arith))

pub rise-gather : (low mid n : ℕ) (begun : List Line) (texts : List (List ℕ)) → low ≤ mid → mid ≤ n → AllByRecursion (IsPlaced low mid) begun → rest_faults begun (numbered n texts) ≡ []
    → Rise low (each fields_of (gather begun (numbered n texts)))
rise-gather low mid n begun [] h k all none = subst (λ ls. Rise low (each fields_of ls)) (append-nil (kept_lines begun)) (rise_kept low mid begun [] h all (λ from below. tt))
rise-gather low mid n begun (text ∷ texts) h k all none =
    let line : Line = record { number = n; text = text } in
    let lines : List Line = numbered (n + 1) texts in
    elim (is_comment text) as (λ t. cond t (rest_faults begun lines) (cond (is_blank text) (rest_faults [] lines) (line_faults begun line ++ rest_faults (begun ++ line ∷ []) lines)) ≡ []
    → Rise low (each fields_of (cond t (gather begun lines) (cond (is_blank text) (kept_lines begun ++ gather [] lines) (gather (begun ++ line ∷ []) lines))))) [
      | true ↦ λ e. rise-gather low mid (n + 1) begun texts h (omega arith) all e
      | false ↦ λ e. elim (is_blank text) as (λ t. cond t (rest_faults [] lines) (line_faults begun line ++ rest_faults (begun ++ line ∷ []) lines) ≡ []
          → Rise low (each fields_of (cond t (kept_lines begun ++ gather [] lines) (gather (begun ++ line ∷ []) lines)))) [
            | true ↦ λ f. rise_kept low mid begun (gather [] lines) h all (λ from below. rise-gather from from (n + 1) [] texts (omega arith) (omega arith) tt f)
            | false ↦ λ f.
                let parts = nil-append (line_faults begun line) (rest_faults (begun ++ line ∷ []) lines) f in
                rise-gather low n (n + 1) (begun ++ line ∷ []) texts (omega arith) (omega arith)
                (all-append (IsPlaced low n) begun (line ∷ [])
                (all_each (IsPlaced low mid) (IsPlaced low n) (λ l p. record { colon = p.colon; above = p.above; below = omega (arith, p.below) }) begun all)
                (record { colon = colon_of begun line parts.0; above = omega arith; below = omega arith }, tt))
                parts.1
          ] e
    ] none
