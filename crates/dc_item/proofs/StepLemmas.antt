-- A record that is open has no owners before the line of its owners, and no flag before that of its flags.
use Rattle.std.proofs.Common.{◌≡◌, ℕ, Bool, true, false, cond, [], ◌∷◌, ◌++◌, Some, None, Option, refl, sym, ap, ◌∙◌, subst}
use Rattle.std.specs.Prelude.{MatchOption, ◌||◌, is_some}
use Rattle.std.specs.Option.{option_map_or}
use Rattle.std.specs.FinMap.{contains_key}
use Rattle.dc_item.specs.Reader.{added, entry_of, has_name, step, IsOpen, IsReading}
use Rattle.dc_item.proofs.ReaderLemmas.{name_kept}
use Rattle.dc_item.specs.Grammar.{RecordLine, Blank, Name, Owners, Flags, Variables, Variable, Field, Nothing}
use Rattle.dc_item.specs.declared.reader.Open.{Open}
use Rattle.dc_item.specs.declared.reader.Reader.{Reader}

set_is : {A : Type 0} → true ≡ false → A
set_is e = absurd (cc)

no_value : {X A : Type 0} (x : X) → None ≡ Some x → A
no_value x e = absurd (cc)

the_value : {X : Type 0} (x y : X) → Some x ≡ Some y → x ≡ y
the_value x y e = cc

unless : {X : Type 0} (P : X → Type 0) (b : Bool) (x y : X) → cond b None (Some x) ≡ Some y → P x → P y
unless P true x y e p = no_value y e
unless P false x y e p = subst P (the_value x y e) p

within : {X : Type 0} (P : X → Type 0) (a b : Bool) (x y : X) → cond a (cond b None (Some x)) None ≡ Some y → P x → P y
within P true b x y e p = unless P b x y e p
within P false b x y e p = no_value y e

open_after : (o p : Open) (line : RecordLine) → added o line ≡ Some p → IsOpen o → IsOpen p
open_after o p Blank e is = no_value p e
open_after o p (Name name) e is = no_value p e
open_after o p Nothing e is = no_value p e
open_after o p (Field key value) e is = unless IsOpen (contains_key o.item.fields key) _ p e is
open_after o p (Owners names) e is = unless IsOpen o.has_owners _ p e (λ t. set_is t, is.1)
open_after o p (Flags names) e is = unless IsOpen o.has_flags _ p e (is.0, λ t. set_is t)
open_after o p Variables e is = unless IsOpen o.has_variables _ p e is
open_after o p (Variable key value) e is = within IsOpen o.in_variables (contains_key o.item.variables key) _ p e is

abbrev IsOpenIn : Reader → Open → Type 0
IsOpenIn r o = IsOpen o × (has_name r.done o.name ≡ false)

opened : (r s : Reader) (o : Open) (made : Option Open) → option_map_or (λ p. Some (record r { current = Some p })) made None ≡ Some s → ((p : Open) → made ≡ Some p → IsOpenIn r p) → IsReading s
opened r s o None e all = no_value s e
opened r s o (Some p) e all = subst IsReading (the_value _ s e) (all p refl)

with_open : (r s : Reader) (line : RecordLine) (current : Option Open) → option_map_or (λ o. option_map_or (λ p. Some (record r { current = Some p })) (added o line) None) current None ≡ Some s
    → MatchOption current (Unit {0}) (IsOpenIn r) → IsReading s
with_open r s line None e is = no_value s e
with_open r s line (Some o) e is = opened r s o (added o line) e (λ p made. (open_after o p line made is.0, ap (has_name r.done) (sym (name_kept line o p made)) ∙ is.1))

-- no record is open behind one that ended
none_open : (r : Reader) (f : Open → Reader) (all : (o : Open) → (f o).current ≡ None) (current : Option Open) → r.current ≡ current → IsReading (option_map_or f current r)
none_open r f all None at = subst (λ c. MatchOption c (Unit {0}) (IsOpenIn r)) (sym at) tt
none_open r f all (Some o) at = subst (λ c. MatchOption c (Unit {0}) (IsOpenIn (f o))) (sym (all o)) tt

-- a record that begins has a new name
begins : (a b : Bool) (r s : Reader) → cond (a || b) None (Some r) ≡ Some s → (b ≡ false → IsReading r) → IsReading s
begins true b r s e is = no_value s e
begins false true r s e is = no_value s e
begins false false r s e is = subst IsReading (the_value r s e) (is refl)

-- what is read keeps to it
pub reading_after : (r s : Reader) (number : ℕ) (line : RecordLine) → step r number line ≡ Some s → IsReading r → IsReading s
reading_after r s number Blank e is = subst IsReading (the_value _ s e) (none_open r (λ o. record r { done = r.done ++ entry_of o ∷ []; current = None }) (λ o. refl) r.current refl)
reading_after r s number (Name name) e is = begins (is_some r.current) (has_name r.done name) _ s e (λ new. ((λ _. refl, λ _. refl), new))
reading_after r s number Nothing e is = no_value s e
reading_after r s number (Field key value) e is = with_open r s (Field key value) r.current e is
reading_after r s number (Owners names) e is = with_open r s (Owners names) r.current e is
reading_after r s number (Flags names) e is = with_open r s (Flags names) r.current e is
reading_after r s number Variables e is = with_open r s Variables r.current e is
reading_after r s number (Variable key value) e is = with_open r s (Variable key value) r.current e is
