-- The parts that a printed record has, and that they are read as the record.
use Rattle.std.proofs.Common.{◌≡◌, ℕ, Bool, true, false, cond, List, [], ◌∷◌, ◌++◌, map, Some, None, Option, refl, sym, ap, ◌∙◌, subst, append_assoc, inl, inr}
use Rattle.std.specs.Prelude.{◌≢◌, T, ◌&&◌}
use Rattle.std.specs.List.{filter_map, flat_map, AllByRecursion, cons_option}
use Rattle.std.specs.Ordering.{nat_cmp, is_lt}
use Rattle.std.specs.Cmp.Lexicographic.{slice_cmp, nat_list_cmp_total}
use Rattle.std.proofs.lemmas.Cmp.{tied_itself}
use Rattle.std.proofs.lemmas.List.{append-nil, map-append}
use Rattle.std.proofs.lemmas.List.Elements.{filter_map-append}
use Rattle.std.proofs.lemmas.Grind.{flat_map-append}
use Rattle.std.specs.FinMap as fin
use Rattle.std.specs.FinMap.{from_entries, entries, entries_sorted}
use Rattle.std.specs.FinMap.Entries.{is_sorted, below_all}
use Rattle.dc_text.specs.Bytes.{is_nil}
use Rattle.dc_text.specs.Faults.{AllStand}
use Rattle.dc_text.proofs.FaultLemmas.{not_in_nil, snoc_apart}
use Rattle.dc_text.specs.Maps.{AreDistinct, Texts, set_of}
use Rattle.dc_text.proofs.MapLemmas.{from_entries-entries}
use Rattle.dc_item.specs.Records.{until_blank, since_blank, name_in, field_in, variable_in, owners_in, flags_in, item_of, lines_said, record_at, records_of, Stands, LineStands, IsNew, IsNewName, EndsInVariables, slot_of, Slot, OfName, OfOwners, OfFlags, OfVariables, OfVariable, OfField}
use Rattle.dc_item.specs.Table.{contents}
use Rattle.dc_item.proofs.Groups.{Line, lines_said-append, IsFurther, since_blank-blank, since_blank-push, until_blank-body}
use Rattle.dc_item.proofs.OpenRecord.{FitsGroup, IsNew-push, ends_to}
use Rattle.dc_item.specs.Grammar.{RecordLine, Blank, Name, Owners, Flags, Variables, Variable, Field, Nothing}
use Rattle.dc_item.specs.Item.{ItemParts}
use Rattle.dc_item.specs.declared.entry.Entry.{Entry}

-- ---- the parts of a record

abbrev pub field_part : List ℕ × List ℕ → RecordLine
field_part e = Field e.0 e.1

abbrev pub variable_part : List ℕ × List ℕ → RecordLine
variable_part e = Variable e.0 e.1

abbrev pub owners_part : List (List ℕ) → List RecordLine
owners_part names = cond (is_nil names) [] (Owners names ∷ [])

abbrev pub flags_part : List (List ℕ) → List RecordLine
flags_part names = cond (is_nil names) [] (Flags names ∷ [])

abbrev pub variables_part : List (List ℕ × List ℕ) → List RecordLine
variables_part es = cond (is_nil es) [] (Variables ∷ map variable_part es)

abbrev pub body_of : ItemParts → List RecordLine
body_of i = ((map field_part (entries i.fields) ++ owners_part (fin.keys i.owners)) ++ flags_part (fin.keys i.flags)) ++ variables_part (entries i.variables)

abbrev pub parts_of : Entry → List RecordLine
parts_of e = (Name e.name ∷ body_of e.item) ++ Blank ∷ []

-- ---- each line stands

-- each part stands after those before it
abbrev pub PartsStand : List RecordLine → Type 0
PartsStand parts = (before after : List RecordLine) (p : RecordLine) → parts ≡ before ++ p ∷ after → Stands before p

pub PartsStand-nil : PartsStand []
PartsStand-nil before after p e = absurd (not_in_nil before after p e)

PartsStand-push : (ps : List RecordLine) (p : RecordLine) → PartsStand ps → Stands ps p → PartsStand (ps ++ p ∷ [])
PartsStand-push ps p all here before after q e =
    elim (snoc_apart ps before after p q e) as (λ _. Stands before q) [
      | inl f ↦ subst (λ b. Stands b q) (sym f.0) (subst (λ x. Stands ps x) (sym f.1) here)
      | inr f ↦ all before f.0 q f.1
    ]

-- lines of such parts stand, whatever their numbers
pub lines_stand : (ls : List Line) → PartsStand (lines_said ls) → AllStand LineStands ls
lines_stand ls all before after line e = all (lines_said before) (lines_said after) line.1 (ap lines_said e ∙ lines_said-append before (line ∷ after))

abbrev pub FitAll : List RecordLine → List RecordLine → Type 0
FitAll g [] = Unit {0}
FitAll g (p ∷ ps) = IsFurther p × FitsGroup g p × FitAll (g ++ p ∷ []) ps

stands_from : (before : List RecordLine) (p : RecordLine) → since_blank before ≢ [] → FitsGroup (since_blank before) p → Stands before p
stands_from before Blank some fits = tt
stands_from before (Name name) some fits = absurd fits
stands_from before (Owners names) some fits = (some, fits)
stands_from before (Flags names) some fits = (some, fits)
stands_from before Variables some fits = (some, fits)
stands_from before (Variable key value) some fits = fits
stands_from before (Field key value) some fits = (some, fits)
stands_from before Nothing some fits = fits

snoc_not_nil : (g : List RecordLine) (p : RecordLine) → g ++ p ∷ [] ≢ []
snoc_not_nil [] p e = cc
snoc_not_nil (q ∷ g) p e = cc

pub stand_all : (before g ps : List RecordLine) → PartsStand before → since_blank before ≡ g → g ≢ [] → FitAll g ps → PartsStand (before ++ ps) × (since_blank (before ++ ps) ≡ g ++ ps)
stand_all before g [] all is some fits = (subst PartsStand (sym (append-nil before)) all, ap since_blank (append-nil before) ∙ is ∙ sym (append-nil g))
stand_all before g (p ∷ ps) all is some fits =
    let here : Stands before p = stands_from before p (λ n. some (sym is ∙ n)) (subst (λ h. FitsGroup h p) (sym is) fits.1) in
    let next : since_blank (before ++ p ∷ []) ≡ g ++ p ∷ [] = since_blank-push before p fits.0.unblank ∙ ap (λ xs. xs ++ p ∷ []) is in
    let rest : PartsStand ((before ++ p ∷ []) ++ ps) × (since_blank ((before ++ p ∷ []) ++ ps) ≡ (g ++ p ∷ []) ++ ps)
    = stand_all (before ++ p ∷ []) (g ++ p ∷ []) ps (PartsStand-push before p all here) next (snoc_not_nil g p) fits.2 in (
      subst PartsStand (append_assoc before (p ∷ []) ps) rest.0,
      ap since_blank (sym (append_assoc before (p ∷ []) ps)) ∙ rest.1 ∙ append_assoc g (p ∷ []) ps,
    )

-- what fits after the first parts, and then after all
FitAll-append : (g ps qs : List RecordLine) → FitAll g ps → FitAll (g ++ ps) qs → FitAll g (ps ++ qs)
FitAll-append g [] qs a b = subst (λ h. FitAll h qs) (append-nil g) b
FitAll-append g (p ∷ ps) qs a b = (a.0, a.1, FitAll-append (g ++ p ∷ []) ps qs a.2 (subst (λ h. FitAll h qs) (sym (append_assoc g (p ∷ []) ps)) b))

IsNew-append : (g ps : List RecordLine) (s : Slot) → IsNew g s → IsNew ps s → IsNew (g ++ ps) s
IsNew-append [] ps s a b = b
IsNew-append (q ∷ g) ps s a b = (a.0, IsNew-append g ps s a.1 b)

none_of_map : (f : List ℕ × List ℕ → RecordLine) (s : Slot) → ((e : List ℕ × List ℕ) → slot_of (f e) ≢ s) → (es : List (List ℕ × List ℕ)) → IsNew (map f es) s
none_of_map f s d [] = tt
none_of_map f s d (e ∷ es) = (d e, none_of_map f s d es)

-- distinct fields fit, one after another
abbrev AllNew : List RecordLine → (List ℕ → Slot) → List (List ℕ) → Type 0
AllNew g mk ks = AllByRecursion (λ k. IsNew g (mk k)) ks

all_new_push : (g : List RecordLine) (p : RecordLine) (mk : List ℕ → Slot) (ks : List (List ℕ)) → AllNew g mk ks → AllByRecursion (λ l. slot_of p ≢ mk l) ks → AllNew (g ++ p ∷ []) mk ks
all_new_push g p mk [] a d = tt
all_new_push g p mk (k ∷ ks) a d = (IsNew-push g p (mk k) a.0 d.0, all_new_push g p mk ks a.1 d.1)

other_slots : (mk : List ℕ → Slot) → ((j k : List ℕ) → mk j ≡ mk k → j ≡ k) → (k : List ℕ) (ks : List (List ℕ)) → AllByRecursion (λ l. l ≢ k) ks → AllByRecursion (λ l. mk k ≢ mk l) ks
other_slots mk inj k [] d = tt
other_slots mk inj k (l ∷ ks) d = ((λ e. d.0 (sym (inj k l e))), other_slots mk inj k ks d.1)

abbrev keys_in : {X : Type 0} → List (List ℕ × X) → List (List ℕ)
keys_in {X} es = map (λ (e : List ℕ × X). e.0) es

fields_fit : (g : List RecordLine) (es : List (List ℕ × List ℕ)) → AllNew g OfField (keys_in es) → AreDistinct (keys_in es) → FitAll g (map field_part es)
fields_fit g [] new apart = tt
fields_fit g (e ∷ es) new apart = (
  record { unblank = refl; nameless = refl },
  new.0,
  fields_fit (g ++ field_part e ∷ []) es (all_new_push g (field_part e) OfField (keys_in es) new.1 (other_slots OfField (λ j k e. cc) e.0 (keys_in es) apart.0)) apart.1,
)

variables_fit : (g : List RecordLine) (es : List (List ℕ × List ℕ)) → EndsInVariables g → AllNew g OfVariable (keys_in es) → AreDistinct (keys_in es) → FitAll g (map variable_part es)
variables_fit g [] ends new apart = tt
variables_fit g (e ∷ es) ends new apart = (
  record { unblank = refl; nameless = refl },
  (ends, new.0),
  variables_fit (g ++ variable_part e ∷ []) es (ends_to g (variable_part e) tt)
      (all_new_push g (variable_part e) OfVariable (keys_in es) new.1 (other_slots OfVariable (λ j k e. cc) e.0 (keys_in es) apart.0)) apart.1,
)

all_new_from : (g : List RecordLine) (mk : List ℕ → Slot) → ((k : List ℕ) → IsNew g (mk k)) → (ks : List (List ℕ)) → AllNew g mk ks
all_new_from g mk h [] = tt
all_new_from g mk h (k ∷ ks) = (h k, all_new_from g mk h ks)

owners_fit : (g : List RecordLine) (names : List (List ℕ)) → IsNew g OfOwners → FitAll g (owners_part names)
owners_fit g [] n = tt
owners_fit g (k ∷ ks) n = (record { unblank = refl; nameless = refl }, n, tt)

flags_fit : (g : List RecordLine) (names : List (List ℕ)) → IsNew g OfFlags → FitAll g (flags_part names)
flags_fit g [] n = tt
flags_fit g (k ∷ ks) n = (record { unblank = refl; nameless = refl }, n, tt)

owners_new : (names : List (List ℕ)) (s : Slot) → OfOwners ≢ s → IsNew (owners_part names) s
owners_new [] s d = tt
owners_new (k ∷ ks) s d = (d, tt)

flags_new : (names : List (List ℕ)) (s : Slot) → OfFlags ≢ s → IsNew (flags_part names) s
flags_new [] s d = tt
flags_new (k ∷ ks) s d = (d, tt)

variables_part_fit : (g : List RecordLine) (es : List (List ℕ × List ℕ)) → IsNew g OfVariables → ((k : List ℕ) → IsNew g (OfVariable k)) → AreDistinct (keys_in es) → FitAll g (variables_part es)
variables_part_fit g [] n h apart = tt
variables_part_fit g (e ∷ es) n h apart = (
  record { unblank = refl; nameless = refl },
  n,
  variables_fit (g ++ Variables ∷ []) (e ∷ es) (ends_to g Variables tt)
      (all_new_from (g ++ Variables ∷ []) OfVariable (λ k. IsNew-push g Variables (OfVariable k) (h k) (λ x. cc)) (keys_in (e ∷ es))) apart,
)

-- keys in order are apart
less_other : (k l : List ℕ) → T (is_lt (slice_cmp nat_cmp k l)) → l ≢ k
less_other k l h e = (let same : T (is_lt (slice_cmp nat_cmp k k)) = subst (λ m. T (is_lt (slice_cmp nat_cmp k m))) e h in
    subst (λ o. T (is_lt o)) (tied_itself nat_list_cmp_total k) same)

first_of_and : (a b : Bool) → T (a && b) → T a
first_of_and true b h = tt
first_of_and false b h = absurd h

second_of_and : (a b : Bool) → T (a && b) → T b
second_of_and true b h = h
second_of_and false b h = absurd h

below_apart : {X : Type 0} (k : List ℕ) (es : List (List ℕ × X)) → T (below_all (slice_cmp nat_cmp) k es) → AllByRecursion (λ l. l ≢ k) (keys_in es)
below_apart k [] h = tt
below_apart k (e ∷ es) h = (less_other k e.0 (first_of_and _ _ h), below_apart k es (second_of_and _ _ h))

sorted_apart : {X : Type 0} (es : List (List ℕ × X)) → T (is_sorted (slice_cmp nat_cmp) es) → AreDistinct (keys_in es)
sorted_apart [] h = tt
sorted_apart (e ∷ es) h = (below_apart e.0 es (first_of_and _ _ h), sorted_apart es (second_of_and _ _ h))

pub keys_apart : {X : Type 0} (m : Texts X) → AreDistinct (keys_in (entries m))
keys_apart m = sorted_apart (entries m) (entries_sorted m)

pub body_fits : (name : List ℕ) (i : ItemParts) → FitAll (Name name ∷ []) (body_of i)
body_fits name i =
    let g : List RecordLine = Name name ∷ [] in
    let f : List RecordLine = map field_part (entries i.fields) in
    let o : List RecordLine = owners_part (fin.keys i.owners) in
    let fl : List RecordLine = flags_part (fin.keys i.flags) in
    let new_f : (s : Slot) → OfName ≢ s → ((k : List ℕ) → OfField k ≢ s) → IsNew (g ++ f) s = λ s d e. (d, none_of_map field_part s (λ x. e x.0) (entries i.fields)) in
    let new_o : (s : Slot) → OfName ≢ s → ((k : List ℕ) → OfField k ≢ s) → OfOwners ≢ s → IsNew (g ++ (f ++ o)) s
    = λ s d e u. subst (λ xs. IsNew xs s) (append_assoc g f o) (IsNew-append (g ++ f) o s (new_f s d e) (owners_new (fin.keys i.owners) s u)) in
    let new_fl : (s : Slot) → OfName ≢ s → ((k : List ℕ) → OfField k ≢ s) → OfOwners ≢ s → OfFlags ≢ s → IsNew (g ++ ((f ++ o) ++ fl)) s
    = λ s d e u v. subst (λ xs. IsNew xs s) (append_assoc g (f ++ o) fl) (IsNew-append (g ++ (f ++ o)) fl s (new_o s d e u) (flags_new (fin.keys i.flags) s v)) in
    FitAll-append g ((f ++ o) ++ fl) (variables_part (entries i.variables))
    (FitAll-append g (f ++ o) fl
    (FitAll-append g f o
    (fields_fit g (entries i.fields) (all_new_from g OfField (λ k. ((λ x. cc), tt)) (keys_in (entries i.fields))) (keys_apart i.fields))
    (owners_fit (g ++ f) (fin.keys i.owners) (new_f OfOwners (λ x. cc) (λ k x. cc))))
    (flags_fit (g ++ (f ++ o)) (fin.keys i.flags) (new_o OfFlags (λ x. cc) (λ k x. cc) (λ x. cc))))
    (variables_part_fit (g ++ ((f ++ o) ++ fl)) (entries i.variables)
    (new_fl OfVariables (λ x. cc) (λ k x. cc) (λ x. cc) (λ x. cc)) (λ k. new_fl (OfVariable k) (λ x. cc) (λ j x. cc) (λ x. cc) (λ x. cc)) (keys_apart i.variables))

-- ---- the item is made again

all_further : (g ps : List RecordLine) → FitAll g ps → AllByRecursion IsFurther ps
all_further g [] f = tt
all_further g (p ∷ ps) f = (f.0, all_further (g ++ p ∷ []) ps f.2)

picked : (h : RecordLine → Option (List ℕ × List ℕ)) (f : List ℕ × List ℕ → RecordLine) → ((e : List ℕ × List ℕ) → h (f e) ≡ Some e) → (es : List (List ℕ × List ℕ)) → filter_map h (map f es) ≡ es
picked h f is [] = refl
picked h f is (e ∷ es) = ap (λ o. cons_option o (filter_map h (map f es))) (is e) ∙ ap (λ xs. e ∷ xs) (picked h f is es)

passed : (h : RecordLine → Option (List ℕ × List ℕ)) (f : List ℕ × List ℕ → RecordLine) → ((e : List ℕ × List ℕ) → h (f e) ≡ None) → (es : List (List ℕ × List ℕ)) → filter_map h (map f es) ≡ []
passed h f is [] = refl
passed h f is (e ∷ es) = ap (λ o. cons_option o (filter_map h (map f es))) (is e) ∙ passed h f is es

unlisted : (h : RecordLine → List (List ℕ)) (f : List ℕ × List ℕ → RecordLine) → ((e : List ℕ × List ℕ) → h (f e) ≡ []) → (es : List (List ℕ × List ℕ)) → flat_map h (map f es) ≡ []
unlisted h f is [] = refl
unlisted h f is (e ∷ es) = ap (λ o. o ++ flat_map h (map f es)) (is e) ∙ unlisted h f is es

-- what four parts after another pick is what each picks
pick_four : (h : RecordLine → Option (List ℕ × List ℕ)) (a b c d : List RecordLine) → filter_map h (((a ++ b) ++ c) ++ d) ≡ ((filter_map h a ++ filter_map h b) ++ filter_map h c) ++ filter_map h d
pick_four h a b c d = filter_map-append h ((a ++ b) ++ c) d ∙ ap (λ xs. xs ++ filter_map h d) (filter_map-append h (a ++ b) c ∙ ap (λ xs. xs ++ filter_map h c) (filter_map-append h a b))

list_four : (h : RecordLine → List (List ℕ)) (a b c d : List RecordLine) → flat_map h (((a ++ b) ++ c) ++ d) ≡ ((flat_map h a ++ flat_map h b) ++ flat_map h c) ++ flat_map h d
list_four h a b c d = flat_map-append h ((a ++ b) ++ c) d ∙ ap (λ xs. xs ++ flat_map h d) (flat_map-append h (a ++ b) c ∙ ap (λ xs. xs ++ flat_map h c) (flat_map-append h a b))

joins : {X : Type 0} (a b c d w x y z : List X) → a ≡ w → b ≡ x → c ≡ y → d ≡ z → ((a ++ b) ++ c) ++ d ≡ ((w ++ x) ++ y) ++ z
joins a b c d w x y z p q r s = λ i. ((p i ++ q i) ++ r i) ++ s i

pick_owners : (h : RecordLine → Option (List ℕ × List ℕ)) → ((ns : List (List ℕ)) → h (Owners ns) ≡ None) → (names : List (List ℕ)) → filter_map h (owners_part names) ≡ []
pick_owners h is [] = refl
pick_owners h is (k ∷ ks) = ap (λ o. cons_option o []) (is (k ∷ ks))

pick_flags : (h : RecordLine → Option (List ℕ × List ℕ)) → ((ns : List (List ℕ)) → h (Flags ns) ≡ None) → (names : List (List ℕ)) → filter_map h (flags_part names) ≡ []
pick_flags h is [] = refl
pick_flags h is (k ∷ ks) = ap (λ o. cons_option o []) (is (k ∷ ks))

fields_of_variables : (es : List (List ℕ × List ℕ)) → filter_map field_in (variables_part es) ≡ []
fields_of_variables [] = refl
fields_of_variables (e ∷ es) = passed field_in variable_part (λ x. refl) (e ∷ es)

variables_of_variables : (es : List (List ℕ × List ℕ)) → filter_map variable_in (variables_part es) ≡ es
variables_of_variables [] = refl
variables_of_variables (e ∷ es) = picked variable_in variable_part (λ x. refl) (e ∷ es)

lists_of_variables : (h : RecordLine → List (List ℕ)) → h Variables ≡ [] → ((e : List ℕ × List ℕ) → h (variable_part e) ≡ []) → (es : List (List ℕ × List ℕ)) → flat_map h (variables_part es) ≡ []
lists_of_variables h v is [] = refl
lists_of_variables h v is (e ∷ es) = ap (λ o. o ++ flat_map h (map variable_part (e ∷ es))) v ∙ unlisted h variable_part is (e ∷ es)

owners_listed : (names : List (List ℕ)) → flat_map owners_in (owners_part names) ≡ names
owners_listed [] = refl
owners_listed (k ∷ ks) = append-nil (k ∷ ks)

flags_listed : (names : List (List ℕ)) → flat_map flags_in (flags_part names) ≡ names
flags_listed [] = refl
flags_listed (k ∷ ks) = append-nil (k ∷ ks)

owners_unlisted : (names : List (List ℕ)) → flat_map flags_in (owners_part names) ≡ []
owners_unlisted [] = refl
owners_unlisted (k ∷ ks) = refl

flags_unlisted : (names : List (List ℕ)) → flat_map owners_in (flags_part names) ≡ []
flags_unlisted [] = refl
flags_unlisted (k ∷ ks) = refl

set_of_keys : (es : List (List ℕ × Unit {0})) → set_of (keys_in es) ≡ from_entries {R = slice_cmp nat_cmp} es
set_of_keys [] = refl
set_of_keys (e ∷ es) = ap (λ s. fin.insert s e.0 tt) (set_of_keys es)

set_again : (s : Texts (Unit {0})) → set_of (fin.keys s) ≡ s
set_again s = set_of_keys (entries s) ∙ from_entries-entries s

pub item_again : (i : ItemParts) → item_of (body_of i) ≡ i
item_again i =
    let f : List RecordLine = map field_part (entries i.fields) in
    let o : List RecordLine = owners_part (fin.keys i.owners) in
    let fl : List RecordLine = flags_part (fin.keys i.flags) in
    let v : List RecordLine = variables_part (entries i.variables) in
    let a : from_entries {R = slice_cmp nat_cmp} (filter_map field_in (((f ++ o) ++ fl) ++ v)) ≡ i.fields
    = ap (from_entries {R = slice_cmp nat_cmp}) (pick_four field_in f o fl v ∙ joins _ _ _ _ (entries i.fields) [] [] [] (picked field_in field_part (λ x. refl) (entries i.fields)) (pick_owners field_in (λ x. refl) (fin.keys i.owners)) (pick_flags field_in (λ x. refl) (fin.keys i.flags)) (fields_of_variables (entries i.variables))
    ∙ append-nil _ ∙ append-nil _ ∙ append-nil _) ∙ from_entries-entries i.fields in
    let b : from_entries {R = slice_cmp nat_cmp} (filter_map variable_in (((f ++ o) ++ fl) ++ v)) ≡ i.variables
    = ap (from_entries {R = slice_cmp nat_cmp}) (pick_four variable_in f o fl v ∙ joins _ _ _ _ [] [] [] (entries i.variables) (passed variable_in field_part (λ x. refl) (entries i.fields)) (pick_owners variable_in (λ x. refl) (fin.keys i.owners)) (pick_flags variable_in (λ x. refl) (fin.keys i.flags)) (variables_of_variables (entries i.variables)))
    ∙ from_entries-entries i.variables in
    let c : set_of (flat_map owners_in (((f ++ o) ++ fl) ++ v)) ≡ i.owners
    = ap set_of (list_four owners_in f o fl v ∙ joins _ _ _ _ [] (fin.keys i.owners) [] [] (unlisted owners_in field_part (λ x. refl) (entries i.fields)) (owners_listed (fin.keys i.owners)) (flags_unlisted (fin.keys i.flags)) (lists_of_variables owners_in refl (λ x. refl) (entries i.variables))
    ∙ append-nil _ ∙ append-nil _) ∙ set_again i.owners in
    let d : set_of (flat_map flags_in (((f ++ o) ++ fl) ++ v)) ≡ i.flags
    = ap set_of (list_four flags_in f o fl v ∙ joins _ _ _ _ [] [] (fin.keys i.flags) [] (unlisted flags_in field_part (λ x. refl) (entries i.fields)) (owners_unlisted (fin.keys i.owners)) (flags_listed (fin.keys i.flags)) (lists_of_variables flags_in refl (λ x. refl) (entries i.variables))
    ∙ append-nil _) ∙ set_again i.flags in
    λ j. record { fields = a j; flags = d j; variables = b j; owners = c j }

-- ---- the records are read again

abbrev pub content_at : RecordLine → List RecordLine → List (List ℕ × ItemParts)
content_at (Name name) after = (name, item_of (until_blank after)) ∷ []
content_at _ after = []

-- the names and items of the records, which the numbers of lines don't matter to
abbrev pub contents_of : List RecordLine → List (List ℕ × ItemParts)
contents_of [] = []
contents_of (p ∷ ps) = content_at p ps ++ contents_of ps

contents-record_at : (n : ℕ) (p : RecordLine) (ps : List RecordLine) → map contents (record_at n p ps) ≡ content_at p ps
contents-record_at n Blank ps = refl
contents-record_at n (Name name) ps = refl
contents-record_at n (Owners names) ps = refl
contents-record_at n (Flags names) ps = refl
contents-record_at n Variables ps = refl
contents-record_at n (Variable key value) ps = refl
contents-record_at n (Field key value) ps = refl
contents-record_at n Nothing ps = refl

pub contents-records_of : (ls : List Line) → map contents (records_of ls) ≡ contents_of (lines_said ls)
contents-records_of [] = refl
contents-records_of (l ∷ ls) =
    map-append contents (record_at l.0 l.1 (lines_said ls)) (records_of ls) ∙ (λ i. contents-record_at l.0 l.1 (lines_said ls) i ++ contents-records_of ls i)

content_at-nameless : (p : RecordLine) (xs : List RecordLine) → name_in p ≡ None → content_at p xs ≡ []
content_at-nameless Blank xs e = refl
content_at-nameless (Name name) xs e = absurd (cc)
content_at-nameless (Owners names) xs e = refl
content_at-nameless (Flags names) xs e = refl
content_at-nameless Variables xs e = refl
content_at-nameless (Variable key value) xs e = refl
content_at-nameless (Field key value) xs e = refl
content_at-nameless Nothing xs e = refl

-- further lines begin no record
contents_of-body : (rest tail : List RecordLine) → AllByRecursion IsFurther rest → contents_of (rest ++ tail) ≡ contents_of tail
contents_of-body [] tail h = refl
contents_of-body (p ∷ rest) tail h = ap (λ xs. xs ++ contents_of (rest ++ tail)) (content_at-nameless p (rest ++ tail) h.0.nameless) ∙ contents_of-body rest tail h.1

pub contents_again : (es : List Entry) → contents_of (flat_map parts_of es) ≡ map contents es
contents_again [] = refl
contents_again (e ∷ es) =
    let body : List RecordLine = body_of e.item in
    let tail : List RecordLine = Blank ∷ flat_map parts_of es in
    let further : AllByRecursion IsFurther body = all_further (Name e.name ∷ []) body (body_fits e.name e.item) in
    let item : item_of (until_blank (body ++ tail)) ≡ e.item = ap item_of (until_blank-body body tail further ∙ append-nil body) ∙ item_again e.item in
    ap contents_of (append_assoc (Name e.name ∷ body) (Blank ∷ []) (flat_map parts_of es))
    ∙ (λ i. (e.name, item i) ∷ (contents_of-body body tail further ∙ contents_again es) i)

-- ---- each part of a table stands

nameless : (ps : List RecordLine) → AllByRecursion IsFurther ps → filter_map name_in ps ≡ []
nameless [] h = refl
nameless (p ∷ ps) h = ap (λ o. cons_option o (filter_map name_in ps)) h.0.nameless ∙ nameless ps h.1

names_of_parts : (e : Entry) → filter_map name_in (parts_of e) ≡ e.name ∷ []
names_of_parts e = ap (λ xs. e.name ∷ xs) (filter_map-append name_in (body_of e.item) (Blank ∷ [])
    ∙ ap (λ xs. xs ++ []) (nameless (body_of e.item) (all_further (Name e.name ∷ []) (body_of e.item) (body_fits e.name e.item))))

all_append : {X : Type 0} (P : X → Type 0) (xs ys : List X) → AllByRecursion P xs → AllByRecursion P ys → AllByRecursion P (xs ++ ys)
all_append P [] ys a b = b
all_append P (x ∷ xs) ys a b = (a.0, all_append P xs ys a.1 b)

later_names : (before : List RecordLine) (e : Entry) (names : List (List ℕ)) → AllByRecursion (IsNewName before) names → AllByRecursion (λ l. l ≢ e.name) names → AllByRecursion (IsNewName (before ++ parts_of e)) names
later_names before e [] a d = tt
later_names before e (n ∷ names) a d = (
  subst (AllByRecursion (λ m. m ≢ n)) (sym (filter_map-append name_in before (parts_of e) ∙ ap (λ xs. filter_map name_in before ++ xs) (names_of_parts e)))
      (all_append (λ m. m ≢ n) (filter_map name_in before) (e.name ∷ []) a.0 ((λ x. d.0 (sym x)), tt)),
  later_names before e names a.1 d.1,
)

pub parts_stand : (before : List RecordLine) (es : List Entry) → PartsStand before → since_blank before ≡ [] → AllByRecursion (IsNewName before) (map (λ (e : Entry). e.name) es)
    → AreDistinct (map (λ (e : Entry). e.name) es) → PartsStand (before ++ flat_map parts_of es)
parts_stand before [] all none new apart = subst PartsStand (sym (append-nil before)) all
parts_stand before (e ∷ es) all none new apart =
    let n : RecordLine = Name e.name in
    let body : List RecordLine = body_of e.item in
    let first : PartsStand (before ++ n ∷ []) = PartsStand-push before n all (none, new.0) in
    let group : since_blank (before ++ n ∷ []) ≡ n ∷ [] = since_blank-push before n refl ∙ ap (λ xs. xs ++ n ∷ []) none in
    let rest : PartsStand ((before ++ n ∷ []) ++ body) × (since_blank ((before ++ n ∷ []) ++ body) ≡ (n ∷ []) ++ body)
    = stand_all (before ++ n ∷ []) (n ∷ []) body first group (λ x. cc) (body_fits e.name e.item) in
    let last : PartsStand (((before ++ n ∷ []) ++ body) ++ Blank ∷ []) = PartsStand-push ((before ++ n ∷ []) ++ body) Blank rest.0 tt in
    let whole : ((before ++ n ∷ []) ++ body) ++ Blank ∷ [] ≡ before ++ parts_of e = append_assoc (before ++ n ∷ []) body (Blank ∷ []) ∙ append_assoc before (n ∷ []) (body ++ Blank ∷ []) in
    subst PartsStand (append_assoc before (parts_of e) (flat_map parts_of es))
    (parts_stand (before ++ parts_of e) es (subst PartsStand whole last) (ap since_blank (sym whole) ∙ since_blank-blank ((before ++ n ∷ []) ++ body))
    (later_names before e (map (λ (x : Entry). x.name) es) new.1 apart.0) apart.1)
