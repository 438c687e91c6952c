-- A record whose lines are being read: what it holds, and what a further line adds.
use Rattle.std.proofs.Common.{◌≡◌, ℕ, Bool, true, false, cond, List, [], ◌∷◌, ◌++◌, Some, None, Option, refl, sym, ap, ◌∙◌, subst}
use Rattle.std.specs.Prelude.{◌≢◌, is_some, MatchOption}
use Rattle.std.specs.List.{filter_map, flat_map, AllByRecursion, cons_option}
use Rattle.std.specs.Ordering.{nat_cmp, eq_by_cmp, is_eq}
use Rattle.std.specs.Cmp.Lexicographic.{slice_cmp, nat_list_cmp_total}
use Rattle.std.specs.FinMap.{get, insert, contains_key, from_entries, find, get-from_entries, from_entries_push}
use Rattle.std.proofs.lemmas.Cmp.{tied_itself}
use Rattle.std.proofs.lemmas.List.{append-nil}
use Rattle.std.proofs.lemmas.List.Elements.{filter_map-append}
use Rattle.std.proofs.lemmas.Grind.{flat_map-append}
use Rattle.std.specs.declared.cmp.Ordering.{Ordering}
use Rattle.std.specs.declared.cmp.Ordering.TheVariants.{Less, Equal, Greater}
use Rattle.dc_text.specs.Maps.{Texts, set_of}
use Rattle.dc_text.proofs.MapLemmas.{exact_texts}
use Rattle.dc_item.specs.Records.{field_in, variable_in, owners_in, flags_in, item_of, IsNew, EndsInVariables, IsOfVariables, Slot, OfName, OfOwners, OfFlags, OfVariables, OfVariable, OfField, slot_of}
use Rattle.dc_item.specs.Reader.{added}
use Rattle.dc_item.proofs.Groups.{IsFurther}
use Rattle.dc_item.specs.Grammar.{RecordLine, Blank, Name, Owners, Flags, Variables, Variable, Field, Nothing}
use Rattle.dc_item.specs.Item.{ItemParts}
use Rattle.dc_item.specs.declared.reader.Open.{Open}

-- ---- what is new in a record

pub IsNew-push : (g : List RecordLine) (p : RecordLine) (s : Slot) → IsNew g s → slot_of p ≢ s → IsNew (g ++ p ∷ []) s
IsNew-push [] p s n d = (d, tt)
IsNew-push (q ∷ g) p s n d = (n.0, IsNew-push g p s n.1 d)

pub IsNew-front : (g : List RecordLine) (p : RecordLine) (s : Slot) → IsNew (g ++ p ∷ []) s → IsNew g s
IsNew-front [] p s n = tt
IsNew-front (q ∷ g) p s n = (n.0, IsNew-front g p s n.1)

pub IsNew-last : (g : List RecordLine) (p : RecordLine) (s : Slot) → IsNew (g ++ p ∷ []) s → slot_of p ≢ s
IsNew-last [] p s n = n.0
IsNew-last (q ∷ g) p s n = IsNew-last g p s n.1

-- whether a record has a line that spells the slot
abbrev pub Marks : Bool → List RecordLine → Slot → Type 0
Marks true g s = IsNew g s → ⊥
Marks false g s = IsNew g s

pub Marks-other : (b : Bool) (g : List RecordLine) (p : RecordLine) (s : Slot) → slot_of p ≢ s → Marks b g s → Marks b (g ++ p ∷ []) s
Marks-other true g p s d m = λ n. m (IsNew-front g p s n)
Marks-other false g p s d m = IsNew-push g p s m d

pub Marks-same : (g : List RecordLine) (p : RecordLine) (s : Slot) → slot_of p ≡ s → Marks true (g ++ p ∷ []) s
Marks-same g p s e = λ n. IsNew-last g p s n e

abbrev pub Tells : Bool → Type 0 → Type 0
Tells true P = P
Tells false P = P → ⊥

pub ends_to : (g : List RecordLine) (p : RecordLine) → IsOfVariables p → EndsInVariables (g ++ p ∷ [])
ends_to [] p h = h
ends_to (x ∷ []) p h = h
ends_to (x ∷ y ∷ g) p h = ends_to (y ∷ g) p h

pub ends_from : (g : List RecordLine) (p : RecordLine) → EndsInVariables (g ++ p ∷ []) → IsOfVariables p
ends_from [] p h = h
ends_from (x ∷ []) p h = h
ends_from (x ∷ y ∷ g) p h = ends_from (y ∷ g) p h

Tells-push : (b : Bool) (g : List RecordLine) (p : RecordLine) → Tells b (IsOfVariables p) → Tells b (EndsInVariables (g ++ p ∷ []))
Tells-push true g p t = ends_to g p t
Tells-push false g p t = λ e. t (ends_from g p e)

-- ---- a map that the lines make

none_from : {X : Type 0} (o : Option X) → is_some o ≡ false → o ≡ None
none_from None e = refl
none_from (Some x) e = absurd (cc)

some_from : {X : Type 0} (o : Option X) → is_some o ≡ true → o ≡ None → ⊥
some_from None e = λ n. cc
some_from (Some x) e = λ n. cc

abbrev R : List ℕ → List ℕ → Ordering
R = slice_cmp nat_cmp

tied : (j k : List ℕ) → j ≡ k → eq_by_cmp R k j ≡ true
tied j k e = ap (λ i. is_eq (R k i)) e ∙ ap is_eq (tied_itself nat_list_cmp_total k)

is_equal : (o : Ordering) → is_eq o ≡ true → o ≡ Equal
is_equal Less e = absurd (cc)
is_equal Equal e = refl
is_equal Greater e = absurd (cc)

module _ (h : RecordLine → Option (List ℕ × List ℕ)) (mk : List ℕ → Slot) (inj : (j k : List ℕ) → mk j ≡ mk k → j ≡ k)
    (is : (p : RecordLine) → MatchOption (h p) ((k : List ℕ) → slot_of p ≢ mk k) (λ e. slot_of p ≡ mk e.0)) where
  new_from_none : (ps : List RecordLine) (k : List ℕ) → find R k (filter_map h ps) ≡ None → IsNew ps (mk k)
  new_from_none [] k e = tt
  new_from_none (p ∷ ps) k e =
      elim (h p) as (λ o. MatchOption o ((k : List ℕ) → slot_of p ≢ mk k) (λ e. slot_of p ≡ mk e.0) → find R k (cons_option o (filter_map h ps)) ≡ None → (slot_of p ≢ mk k) × IsNew ps (mk k)) [
        | None ↦ λ i f. (i k, new_from_none ps k f)
        | Some kv ↦ λ i. elim (eq_by_cmp R k kv.0) as (λ b. eq_by_cmp R k kv.0 ≡ b → cond b (Some kv.1) (find R k (filter_map h ps)) ≡ None → (slot_of p ≢ mk k) × IsNew ps (mk k)) [
          | true ↦ λ b f. absurd (cc)
          | false ↦ λ b f. (λ s. absurd (let t : eq_by_cmp R k kv.0 ≡ true = tied kv.0 k (inj kv.0 k (sym i ∙ s)) in cc), new_from_none ps k f)
        ] refl
      ] (is p) e

  none_from_new : (ps : List RecordLine) (k : List ℕ) → IsNew ps (mk k) → find R k (filter_map h ps) ≡ None
  none_from_new [] k n = refl
  none_from_new (p ∷ ps) k n =
      elim (h p) as (λ o. MatchOption o ((k : List ℕ) → slot_of p ≢ mk k) (λ e. slot_of p ≡ mk e.0) → find R k (cons_option o (filter_map h ps)) ≡ None) [
        | None ↦ λ i. none_from_new ps k n.1
        | Some kv ↦ λ i. elim (eq_by_cmp R k kv.0) as (λ b. eq_by_cmp R k kv.0 ≡ b → cond b (Some kv.1) (find R k (filter_map h ps)) ≡ None) [
          | true ↦ λ b. absurd (n.0 (i ∙ ap mk (sym (exact_texts k kv.0 (is_equal _ b)))))
          | false ↦ λ b. none_from_new ps k n.1
        ] refl
      ] (is p)

  pub new_key : (m : Texts (List ℕ)) (ps : List RecordLine) (k : List ℕ) → m ≡ from_entries (filter_map h ps) → contains_key m k ≡ false → IsNew ps (mk k)
  new_key m ps k e c = new_from_none ps k (sym (get-from_entries nat_list_cmp_total (filter_map h ps) k) ∙ ap (λ n. get n k) (sym e) ∙ none_from (get m k) c)

  pub old_key : (m : Texts (List ℕ)) (ps : List RecordLine) (k : List ℕ) → m ≡ from_entries (filter_map h ps) → contains_key m k ≡ true → IsNew ps (mk k) → ⊥
  old_key m ps k e c n = some_from (get m k) c (ap (λ n. get n k) e ∙ get-from_entries nat_list_cmp_total (filter_map h ps) k ∙ none_from_new ps k n)

  pub key_pushed : (m : Texts (List ℕ)) (ps : List RecordLine) (p : RecordLine) (k v : List ℕ) → m ≡ from_entries (filter_map h ps) → contains_key m k ≡ false → h p ≡ Some (k, v) → insert m k v ≡ from_entries (filter_map h (ps ++ p ∷ []))
  key_pushed m ps p k v e c f =
      ap (λ n. insert n k v) e
      ∙ sym (from_entries_push nat_list_cmp_total exact_texts (filter_map h ps) k v (sym (get-from_entries nat_list_cmp_total (filter_map h ps) k) ∙ ap (λ n. get n k) (sym e) ∙ none_from (get m k) c))
      ∙ ap (λ o. from_entries {R = R} (filter_map h ps ++ cons_option o [])) (sym f)
      ∙ ap (from_entries {R = R}) (sym (filter_map-append h ps (p ∷ [])))

none_pushed : (h : RecordLine → Option (List ℕ × List ℕ)) (ps : List RecordLine) (p : RecordLine) → h p ≡ None → from_entries {R = R} (filter_map h ps) ≡ from_entries (filter_map h (ps ++ p ∷ []))
none_pushed h ps p e = ap (from_entries {R = R}) (sym (append-nil _) ∙ ap (λ o. filter_map h ps ++ cons_option o []) (sym e) ∙ sym (filter_map-append h ps (p ∷ [])))

none_listed : (f : RecordLine → List (List ℕ)) (ps : List RecordLine) (p : RecordLine) → f p ≡ [] → set_of (flat_map f ps) ≡ set_of (flat_map f (ps ++ p ∷ []))
none_listed f ps p e = ap set_of (sym (append-nil _) ∙ ap (λ ns. flat_map f ps ++ (ns ++ [])) (sym e) ∙ sym (flat_map-append f ps (p ∷ [])))

none_yet : (f : RecordLine → List (List ℕ)) (s : Slot) → ((p : RecordLine) → slot_of p ≢ s → f p ≡ []) → (ps : List RecordLine) → IsNew ps s → flat_map f ps ≡ []
none_yet f s not_in [] n = refl
none_yet f s not_in (p ∷ ps) n = ap (λ ns. ns ++ flat_map f ps) (not_in p n.0) ∙ none_yet f s not_in ps n.1

all_listed : (f : RecordLine → List (List ℕ)) (s : Slot) → ((p : RecordLine) → slot_of p ≢ s → f p ≡ []) → (ps : List RecordLine) (p : RecordLine) (names : List (List ℕ)) → f p ≡ names → IsNew ps s → set_of names ≡ set_of (flat_map f (ps ++ p ∷ []))
all_listed f s not_in ps p names e n = ap set_of (sym (append-nil names) ∙ ap (λ ns. ns ++ []) (sym e) ∙ ap (λ ns. ns ++ (f p ++ [])) (sym (none_yet f s not_in ps n)) ∙ sym (flat_map-append f ps (p ∷ [])))

-- ---- the two maps and the two sets of an item

field_inj : (j k : List ℕ) → OfField j ≡ OfField k → j ≡ k
field_inj j k e = cc

field_is : (p : RecordLine) → MatchOption (field_in p) ((k : List ℕ) → slot_of p ≢ OfField k) (λ e. slot_of p ≡ OfField e.0)
field_is Blank = λ k e. cc
field_is (Name name) = λ k e. cc
field_is (Owners names) = λ k e. cc
field_is (Flags names) = λ k e. cc
field_is Variables = λ k e. cc
field_is (Variable key value) = λ k e. cc
field_is (Field key value) = refl
field_is Nothing = λ k e. cc

variable_inj : (j k : List ℕ) → OfVariable j ≡ OfVariable k → j ≡ k
variable_inj j k e = cc

variable_is : (p : RecordLine) → MatchOption (variable_in p) ((k : List ℕ) → slot_of p ≢ OfVariable k) (λ e. slot_of p ≡ OfVariable e.0)
variable_is Blank = λ k e. cc
variable_is (Name name) = λ k e. cc
variable_is (Owners names) = λ k e. cc
variable_is (Flags names) = λ k e. cc
variable_is Variables = λ k e. cc
variable_is (Variable key value) = refl
variable_is (Field key value) = λ k e. cc
variable_is Nothing = λ k e. cc

owners_are : (p : RecordLine) → slot_of p ≢ OfOwners → owners_in p ≡ []
owners_are Blank d = refl
owners_are (Name name) d = refl
owners_are (Owners names) d = absurd (d refl)
owners_are (Flags names) d = refl
owners_are Variables d = refl
owners_are (Variable key value) d = refl
owners_are (Field key value) d = refl
owners_are Nothing d = refl

flags_are : (p : RecordLine) → slot_of p ≢ OfFlags → flags_in p ≡ []
flags_are Blank d = refl
flags_are (Name name) d = refl
flags_are (Owners names) d = refl
flags_are (Flags names) d = absurd (d refl)
flags_are Variables d = refl
flags_are (Variable key value) d = refl
flags_are (Field key value) d = refl
flags_are Nothing d = refl

-- ---- the record that is open

-- the lines of the group, from this line number on, are what was read into o
pub record IsOpen (group : List RecordLine) (line : ℕ) (o : Open) : Type 0 where
  pub rest : List RecordLine
  pub group_is : group ≡ Name o.name ∷ rest
  pub item_is : o.item ≡ item_of rest
  pub line_is : o.line ≡ line
  pub body : AllByRecursion IsFurther rest
  pub owners : Marks o.has_owners group OfOwners
  pub flags : Marks o.has_flags group OfFlags
  pub variables : Marks o.has_variables group OfVariables
  pub under : Tells o.in_variables (EndsInVariables group)

-- a further line fits after the lines of its record
abbrev pub FitsGroup : List RecordLine → RecordLine → Type 0
FitsGroup g Blank = ⊥
FitsGroup g (Name name) = ⊥
FitsGroup g (Owners names) = IsNew g OfOwners
FitsGroup g (Flags names) = IsNew g OfFlags
FitsGroup g Variables = IsNew g OfVariables
FitsGroup g (Variable key value) = EndsInVariables g × IsNew g (OfVariable key)
FitsGroup g (Field key value) = IsNew g (OfField key)
FitsGroup g Nothing = ⊥

body_push : (rest : List RecordLine) (p : RecordLine) → AllByRecursion IsFurther rest → IsFurther p → AllByRecursion IsFurther (rest ++ p ∷ [])
body_push [] p b f = (f, tt)
body_push (q ∷ rest) p b f = (b.0, body_push rest p b.1 f)

-- the record with one more line
more : (g : List RecordLine) (line : ℕ) (o : Open) (p : RecordLine) (item : ItemParts) (ho hf hv iv : Bool) → (is : IsOpen g line o) → IsFurther p → item ≡ item_of (is.rest ++ p ∷ [])
    → Marks ho (g ++ p ∷ []) OfOwners → Marks hf (g ++ p ∷ []) OfFlags → Marks hv (g ++ p ∷ []) OfVariables → Tells iv (IsOfVariables p)
    → IsOpen (g ++ p ∷ []) line (record { name = o.name; item = item; line = o.line; has_owners = ho; has_flags = hf; has_variables = hv; in_variables = iv })
more g line o p item ho hf hv iv is further item_is mo mf mv t = record {
  rest = is.rest ++ p ∷ [];
  group_is = ap (λ xs. xs ++ p ∷ []) is.group_is;
  item_is = item_is;
  line_is = is.line_is;
  body = body_push is.rest p is.body further;
  owners = mo;
  flags = mf;
  variables = mv;
  under = Tells-push iv g p t;
}

new_in_group : (g : List RecordLine) (line : ℕ) (o : Open) (s : Slot) → (is : IsOpen g line o) → OfName ≢ s → IsNew is.rest s → IsNew g s
new_in_group g line o s is d n = subst (λ xs. IsNew xs s) (sym is.group_is) (d, n)

new_in_rest : (g : List RecordLine) (line : ℕ) (o : Open) (s : Slot) → (is : IsOpen g line o) → IsNew g s → IsNew is.rest s
new_in_rest g line o s is n = (let m : IsNew (Name o.name ∷ is.rest) s = subst (λ xs. IsNew xs s) is.group_is n in m.1)

unless_some : {X : Type 0} (b : Bool) (x y : X) → cond b None (Some x) ≡ Some y → (b ≡ false) × (x ≡ y)
unless_some true x y e = absurd (cc)
unless_some false x y e = (refl, cc)

unless_none : {X : Type 0} (b : Bool) (x : X) → cond b None (Some x) ≡ None → b ≡ true
unless_none true x e = refl
unless_none false x e = absurd (cc)

marks_new : (b : Bool) (g : List RecordLine) (s : Slot) → b ≡ false → Marks b g s → IsNew g s
marks_new b g s e m = subst (λ c. Marks c g s) e m

marks_old : (b : Bool) (g : List RecordLine) (s : Slot) → b ≡ true → Marks b g s → IsNew g s → ⊥
marks_old b g s e m = subst (λ c. Marks c g s) e m

abbrev pub Taken : List RecordLine → ℕ → RecordLine → Open → Type 0
Taken g line p q = FitsGroup g p × IsOpen (g ++ p ∷ []) line q

field_taken : (g : List RecordLine) (line : ℕ) (o : Open) (key value : List ℕ) → IsOpen g line o → contains_key o.item.fields key ≡ false
    → Taken g line (Field key value) (record o { item = record o.item { fields = insert o.item.fields key value }; in_variables = false })
field_taken g line o key value is c =
    let p : RecordLine = Field key value in
    let fields : o.item.fields ≡ from_entries {R = R} (filter_map field_in is.rest) = ap (λ (i : ItemParts). i.fields) is.item_is in
    let a : insert o.item.fields key value ≡ from_entries (filter_map field_in (is.rest ++ p ∷ [])) = key_pushed field_in OfField field_inj field_is o.item.fields is.rest p key value fields c refl in
    let b : o.item.flags ≡ set_of (flat_map flags_in (is.rest ++ p ∷ [])) = ap (λ (i : ItemParts). i.flags) is.item_is ∙ none_listed flags_in is.rest p refl in
    let v : o.item.variables ≡ from_entries (filter_map variable_in (is.rest ++ p ∷ [])) = ap (λ (i : ItemParts). i.variables) is.item_is ∙ none_pushed variable_in is.rest p refl in
    let w : o.item.owners ≡ set_of (flat_map owners_in (is.rest ++ p ∷ [])) = ap (λ (i : ItemParts). i.owners) is.item_is ∙ none_listed owners_in is.rest p refl in (
      new_in_group g line o (OfField key) is (λ e. cc) (new_key field_in OfField field_inj field_is o.item.fields is.rest key fields c),
      more g line o p _ o.has_owners o.has_flags o.has_variables false is (record { unblank = refl; nameless = refl })
          (λ j. record { fields = a j; flags = b j; variables = v j; owners = w j })
          (Marks-other o.has_owners g p OfOwners (λ e. cc) is.owners) (Marks-other o.has_flags g p OfFlags (λ e. cc) is.flags) (Marks-other o.has_variables g p OfVariables (λ e. cc) is.variables) (λ t. t),
    )

variable_taken : (g : List RecordLine) (line : ℕ) (o : Open) (key value : List ℕ) → IsOpen g line o → o.in_variables ≡ true → contains_key o.item.variables key ≡ false
    → Taken g line (Variable key value) (record o { item = record o.item { variables = insert o.item.variables key value } })
variable_taken g line o key value is u c =
    let p : RecordLine = Variable key value in
    let vars : o.item.variables ≡ from_entries {R = R} (filter_map variable_in is.rest) = ap (λ (i : ItemParts). i.variables) is.item_is in
    let a : o.item.fields ≡ from_entries (filter_map field_in (is.rest ++ p ∷ [])) = ap (λ (i : ItemParts). i.fields) is.item_is ∙ none_pushed field_in is.rest p refl in
    let b : o.item.flags ≡ set_of (flat_map flags_in (is.rest ++ p ∷ [])) = ap (λ (i : ItemParts). i.flags) is.item_is ∙ none_listed flags_in is.rest p refl in
    let v : insert o.item.variables key value ≡ from_entries (filter_map variable_in (is.rest ++ p ∷ [])) = key_pushed variable_in OfVariable variable_inj variable_is o.item.variables is.rest p key value vars c refl in
    let w : o.item.owners ≡ set_of (flat_map owners_in (is.rest ++ p ∷ [])) = ap (λ (i : ItemParts). i.owners) is.item_is ∙ none_listed owners_in is.rest p refl in (
      (subst (λ d. Tells d (EndsInVariables g)) u is.under, new_in_group g line o (OfVariable key) is (λ e. cc) (new_key variable_in OfVariable variable_inj variable_is o.item.variables is.rest key vars c)),
      more g line o p _ o.has_owners o.has_flags o.has_variables o.in_variables is (record { unblank = refl; nameless = refl })
          (λ j. record { fields = a j; flags = b j; variables = v j; owners = w j })
          (Marks-other o.has_owners g p OfOwners (λ e. cc) is.owners) (Marks-other o.has_flags g p OfFlags (λ e. cc) is.flags) (Marks-other o.has_variables g p OfVariables (λ e. cc) is.variables)
          (subst (λ d. Tells d (Unit {0})) (sym u) tt),
    )

variables_taken : (g : List RecordLine) (line : ℕ) (o : Open) → IsOpen g line o → o.has_variables ≡ false → Taken g line Variables (record o { has_variables = true; in_variables = true })
variables_taken g line o is c =
    let p : RecordLine = Variables in
    let a : o.item.fields ≡ from_entries (filter_map field_in (is.rest ++ p ∷ [])) = ap (λ (i : ItemParts). i.fields) is.item_is ∙ none_pushed field_in is.rest p refl in
    let b : o.item.flags ≡ set_of (flat_map flags_in (is.rest ++ p ∷ [])) = ap (λ (i : ItemParts). i.flags) is.item_is ∙ none_listed flags_in is.rest p refl in
    let v : o.item.variables ≡ from_entries (filter_map variable_in (is.rest ++ p ∷ [])) = ap (λ (i : ItemParts). i.variables) is.item_is ∙ none_pushed variable_in is.rest p refl in
    let w : o.item.owners ≡ set_of (flat_map owners_in (is.rest ++ p ∷ [])) = ap (λ (i : ItemParts). i.owners) is.item_is ∙ none_listed owners_in is.rest p refl in (
      marks_new o.has_variables g OfVariables c is.variables,
      more g line o p o.item o.has_owners o.has_flags true true is (record { unblank = refl; nameless = refl })
          (λ j. record { fields = a j; flags = b j; variables = v j; owners = w j })
          (Marks-other o.has_owners g p OfOwners (λ e. cc) is.owners) (Marks-other o.has_flags g p OfFlags (λ e. cc) is.flags) (Marks-same g p OfVariables refl) tt,
    )

owners_taken : (g : List RecordLine) (line : ℕ) (o : Open) (names : List (List ℕ)) → IsOpen g line o → o.has_owners ≡ false
    → Taken g line (Owners names) (record o { item = record o.item { owners = set_of names }; has_owners = true; in_variables = false })
owners_taken g line o names is c =
    let p : RecordLine = Owners names in
    let new : IsNew g OfOwners = marks_new o.has_owners g OfOwners c is.owners in
    let a : o.item.fields ≡ from_entries (filter_map field_in (is.rest ++ p ∷ [])) = ap (λ (i : ItemParts). i.fields) is.item_is ∙ none_pushed field_in is.rest p refl in
    let b : o.item.flags ≡ set_of (flat_map flags_in (is.rest ++ p ∷ [])) = ap (λ (i : ItemParts). i.flags) is.item_is ∙ none_listed flags_in is.rest p refl in
    let v : o.item.variables ≡ from_entries (filter_map variable_in (is.rest ++ p ∷ [])) = ap (λ (i : ItemParts). i.variables) is.item_is ∙ none_pushed variable_in is.rest p refl in
    let w : set_of names ≡ set_of (flat_map owners_in (is.rest ++ p ∷ [])) = all_listed owners_in OfOwners owners_are is.rest p names refl (new_in_rest g line o OfOwners is new) in (
      new,
      more g line o p _ true o.has_flags o.has_variables false is (record { unblank = refl; nameless = refl })
          (λ j. record { fields = a j; flags = b j; variables = v j; owners = w j })
          (Marks-same g p OfOwners refl) (Marks-other o.has_flags g p OfFlags (λ e. cc) is.flags) (Marks-other o.has_variables g p OfVariables (λ e. cc) is.variables) (λ t. t),
    )

flags_taken : (g : List RecordLine) (line : ℕ) (o : Open) (names : List (List ℕ)) → IsOpen g line o → o.has_flags ≡ false
    → Taken g line (Flags names) (record o { item = record o.item { flags = set_of names }; has_flags = true; in_variables = false })
flags_taken g line o names is c =
    let p : RecordLine = Flags names in
    let new : IsNew g OfFlags = marks_new o.has_flags g OfFlags c is.flags in
    let a : o.item.fields ≡ from_entries (filter_map field_in (is.rest ++ p ∷ [])) = ap (λ (i : ItemParts). i.fields) is.item_is ∙ none_pushed field_in is.rest p refl in
    let b : set_of names ≡ set_of (flat_map flags_in (is.rest ++ p ∷ [])) = all_listed flags_in OfFlags flags_are is.rest p names refl (new_in_rest g line o OfFlags is new) in
    let v : o.item.variables ≡ from_entries (filter_map variable_in (is.rest ++ p ∷ [])) = ap (λ (i : ItemParts). i.variables) is.item_is ∙ none_pushed variable_in is.rest p refl in
    let w : o.item.owners ≡ set_of (flat_map owners_in (is.rest ++ p ∷ [])) = ap (λ (i : ItemParts). i.owners) is.item_is ∙ none_listed owners_in is.rest p refl in (
      new,
      more g line o p _ o.has_owners true o.has_variables false is (record { unblank = refl; nameless = refl })
          (λ j. record { fields = a j; flags = b j; variables = v j; owners = w j })
          (Marks-other o.has_owners g p OfOwners (λ e. cc) is.owners) (Marks-same g p OfFlags refl) (Marks-other o.has_variables g p OfVariables (λ e. cc) is.variables) (λ t. t),
    )

variable_some : {X : Type 0} (u b : Bool) (x y : X) → cond u (cond b None (Some x)) None ≡ Some y → (u ≡ true) × (b ≡ false) × (x ≡ y)
variable_some true true x y e = absurd (cc)
variable_some true false x y e = (refl, refl, cc)
variable_some false b x y e = absurd (cc)

-- a line that is added fits, and the record with it is the record of all its lines
pub added_taken : (p : RecordLine) (g : List RecordLine) (line : ℕ) (o q : Open) → IsOpen g line o → added o p ≡ Some q → Taken g line p q
added_taken Blank g line o q is e = absurd (cc)
added_taken (Name name) g line o q is e = absurd (cc)
added_taken (Owners names) g line o q is e = let f : (o.has_owners ≡ false) × (_ ≡ q) = unless_some o.has_owners _ q e in subst (Taken g line (Owners names)) f.1 (owners_taken g line o names is f.0)
added_taken (Flags names) g line o q is e = let f : (o.has_flags ≡ false) × (_ ≡ q) = unless_some o.has_flags _ q e in subst (Taken g line (Flags names)) f.1 (flags_taken g line o names is f.0)
added_taken Variables g line o q is e = let f : (o.has_variables ≡ false) × (_ ≡ q) = unless_some o.has_variables _ q e in subst (Taken g line Variables) f.1 (variables_taken g line o is f.0)
added_taken (Variable key value) g line o q is e =
    let f : (o.in_variables ≡ true) × (contains_key o.item.variables key ≡ false) × (_ ≡ q) = variable_some o.in_variables (contains_key o.item.variables key) _ q e in
    subst (Taken g line (Variable key value)) f.2 (variable_taken g line o key value is f.0 f.1)
added_taken (Field key value) g line o q is e =
    let f : (contains_key o.item.fields key ≡ false) × (_ ≡ q) = unless_some (contains_key o.item.fields key) _ q e in
    subst (Taken g line (Field key value)) f.1 (field_taken g line o key value is f.0)
added_taken Nothing g line o q is e = absurd (cc)

variable_none : {X : Type 0} (u b : Bool) (x : X) (P Q : Type 0) → cond u (cond b None (Some x)) None ≡ None → Tells u P → (b ≡ true → Q → ⊥) → P → Q → ⊥
variable_none true true x P Q e t old p q = old refl q
variable_none true false x P Q e t old p q = absurd (cc)
variable_none false b x P Q e t old p q = t p

-- a line that is not added does not fit
pub added_refused : (p : RecordLine) (g : List RecordLine) (line : ℕ) (o : Open) → IsOpen g line o → added o p ≡ None → FitsGroup g p → ⊥
added_refused Blank g line o is e fits = fits
added_refused (Name name) g line o is e fits = fits
added_refused (Owners names) g line o is e fits = marks_old o.has_owners g OfOwners (unless_none o.has_owners _ e) is.owners fits
added_refused (Flags names) g line o is e fits = marks_old o.has_flags g OfFlags (unless_none o.has_flags _ e) is.flags fits
added_refused Variables g line o is e fits = marks_old o.has_variables g OfVariables (unless_none o.has_variables _ e) is.variables fits
added_refused (Variable key value) g line o is e fits =
    variable_none o.in_variables (contains_key o.item.variables key) _ (EndsInVariables g) (IsNew g (OfVariable key)) e is.under
    (λ c n. old_key variable_in OfVariable variable_inj variable_is o.item.variables is.rest key (ap (λ (i : ItemParts). i.variables) is.item_is) c (new_in_rest g line o (OfVariable key) is n)) fits.0 fits.1
added_refused (Field key value) g line o is e fits =
    old_key field_in OfField field_inj field_is o.item.fields is.rest key (ap (λ (i : ItemParts). i.fields) is.item_is) (unless_none (contains_key o.item.fields key) _ e) (new_in_rest g line o (OfField key) is fits)
added_refused Nothing g line o is e fits = fits
