-- When items are equal, and what an operation makes of them.
use Rattle.std.proofs.Common.{◌≡◌, ℕ, Bool, true, false, cond, List, [], ◌∷◌, None, Option, map as each, refl, sym, ap, ◌∙◌, inl, inr}
use Rattle.std.specs.Prelude.{◌&&◌, ◌||◌, ◌⊎◌, ◌↔◌, is_some, not}
use Rattle.std.specs.Bool.{Decides}
use Rattle.std.specs.List.{list_any}
use Rattle.std.specs.Str.{bytes_eq}
use Rattle.std.specs.Cmp.Lexicographic.{nat_list_cmp_total}
use Rattle.std.specs.Ordering.{eq_by_cmp, is_eq}
use Rattle.std.proofs.lemmas.Cmp.{tied_itself}
use Rattle.std.proofs.lemmas.Slice.Eq.{bytes_eq-Decides, slice_eq-Decides}
use Rattle.std.specs.FinMap.{entries, keys, contains_key, get, contains_key-keys, get-retain_keys, same_entries_map}
use Rattle.dc_text.specs.Bytes.{is_nil}
use Rattle.dc_text.specs.Maps.{Texts, TextSet, set_of, text_cmp}
use Rattle.dc_text.proofs.MapLemmas.{exact_texts}
use Rattle.dc_item.specs.Item.{ItemParts}
use Rattle.dc_item.specs.After.{entry_eq, map_eq, set_eq, parts_eq, without, asked, after, after_none, drops_owners, TakesAllOwners}
use Rattle.dc_item.specs.declared.op.Op.{Op}
use Rattle.dc_item.specs.declared.op.Op.TheVariants.{Put, SetField, DropField, SetFlag, SetVar, AddOwner, DropOwners}
use Rattle.dc_item.specs.declared.op.After.TheVariants.{Same, Changed, Gone}

-- ---- the tests decide equality

both_decide : {P Q R : Type 0} (a b : Bool) → Decides a P → Decides b Q → (P → Q → R) → (R → P × Q) → Decides (a && b) R
both_decide true true p q join split = (λ h. join (p.0 refl) (q.0 refl), λ r. refl)
both_decide true false p q join split = (λ h. absurd (no h), λ r. q.1 (split r).1) where
  no : false ≡ true → ⊥
  no h = cc
both_decide false b p q join split = (λ h. absurd (no h), λ r. p.1 (split r).0) where
  no : false ≡ true → ⊥
  no h = cc

texts_entry_decides : (a b : List ℕ × List ℕ) → Decides (entry_eq bytes_eq a b) (a ≡ b)
texts_entry_decides a b =
    both_decide (bytes_eq a.0 b.0) (bytes_eq a.1 b.1) (bytes_eq-Decides a.0 b.0) (bytes_eq-Decides a.1 b.1) (λ p q i. (p i, q i))
    (λ r. (ap (λ (e : List ℕ × List ℕ). e.0) r, ap (λ (e : List ℕ × List ℕ). e.1) r))

pub map_eq-Decides : (m n : Texts (List ℕ)) → Decides (map_eq bytes_eq m n) (m ≡ n)
map_eq-Decides m n =
    let lists = slice_eq-Decides texts_entry_decides (entries m) (entries n) (map_eq bytes_eq m n) refl in
    (λ h. same_entries_map m n (lists.0 h), λ r. lists.1 (ap entries r))

firsts_same : (es fs : List (List ℕ × Unit {0})) → each (λ e. e.0) es ≡ each (λ e. e.0) fs → es ≡ fs
firsts_same [] [] h = refl
firsts_same [] (f ∷ fs) h = absurd (cc)
firsts_same (e ∷ es) [] h = absurd (cc)
firsts_same (e ∷ es) (f ∷ fs) h =
    let first : e.0 ≡ f.0 = cc in
    let rest : each (λ (x : List ℕ × Unit {0}). x.0) es ≡ each (λ x. x.0) fs = cc in
    λ i. (first i, tt) ∷ firsts_same es fs rest i

set_eq-Decides : (s t : TextSet) → Decides (set_eq s t) (s ≡ t)
set_eq-Decides s t =
    let lists = slice_eq-Decides bytes_eq-Decides (keys s) (keys t) (set_eq s t) refl in
    (λ h. same_entries_map s t (firsts_same (entries s) (entries t) (lists.0 h)), λ r. lists.1 (ap keys r))

sets_and_texts : (f g s t : TextSet) (v w : Texts (List ℕ)) → Decides (set_eq f g && (map_eq bytes_eq v w && set_eq s t)) ((f ≡ g) × ((v ≡ w) × (s ≡ t)))
sets_and_texts f g s t v w =
    let inner : Decides (map_eq bytes_eq v w && set_eq s t) ((v ≡ w) × (s ≡ t)) = both_decide (map_eq bytes_eq v w) (set_eq s t) (map_eq-Decides v w) (set_eq-Decides s t) (λ p q. (p, q)) (λ r. r) in
    both_decide (set_eq f g) (map_eq bytes_eq v w && set_eq s t) (set_eq-Decides f g) inner (λ p q. (p, q)) (λ r. r)

pub parts_eq-Decides : (a b : ItemParts) → Decides (parts_eq a b) (a ≡ b)
parts_eq-Decides a b =
    both_decide (map_eq bytes_eq a.fields b.fields) (set_eq a.flags b.flags && (map_eq bytes_eq a.variables b.variables && set_eq a.owners b.owners))
    (map_eq-Decides a.fields b.fields) (sets_and_texts a.flags b.flags a.owners b.owners a.variables b.variables)
    (λ p q i. record { fields = p i; flags = q.0 i; variables = q.1.0 i; owners = q.1.1 i })
    (λ r. (ap (λ (p : ItemParts). p.fields) r, (ap (λ (p : ItemParts). p.flags) r, (ap (λ (p : ItemParts). p.variables) r, ap (λ (p : ItemParts). p.owners) r))))

-- ---- the three answers

chosen_same : (a b : Bool) (item : ItemParts) → cond a Same (cond b Gone (Changed item)) ≡ Same → a ≡ true
chosen_same true b item e = refl
chosen_same false true item e = absurd (cc)
chosen_same false false item e = absurd (cc)

chosen_gone : (a b : Bool) (item : ItemParts) → cond a Same (cond b Gone (Changed item)) ≡ Gone → (a ≡ false) × (b ≡ true)
chosen_gone true b item e = absurd (cc)
chosen_gone false true item e = (refl, refl)
chosen_gone false false item e = absurd (cc)

chosen_changed : (a b : Bool) (made item : ItemParts) → cond a Same (cond b Gone (Changed made)) ≡ Changed item → item ≡ made
chosen_changed true b made item e = absurd (cc)
chosen_changed false true made item e = absurd (cc)
chosen_changed false false made item e = cc

abbrev goes : Op → ItemParts → Bool
goes op parts = drops_owners op && is_nil (keys (asked op parts).owners)

pub after_same : (op : Op) (parts : ItemParts) → (after op parts ≡ Same) ↔ (asked op parts ≡ parts)
after_same op parts =
    let d : Decides (parts_eq (asked op parts) parts) (asked op parts ≡ parts) = parts_eq-Decides (asked op parts) parts in (
      λ e. d.0 (chosen_same (parts_eq (asked op parts) parts) (goes op parts) (asked op parts) e),
      λ s. ap (λ b. cond b Same (cond (goes op parts) Gone (Changed (asked op parts)))) (d.1 s),
    )

pub after_changed : (op : Op) (parts item : ItemParts) → after op parts ≡ Changed item → item ≡ asked op parts
after_changed op parts item e = chosen_changed (parts_eq (asked op parts) parts) (goes op parts) (asked op parts) item e

pub after_none_makes : (op : Op) → (after_none op ≡ Same) ⊎ ((item : ItemParts) × (op ≡ Put item) × (after_none op ≡ Changed item))
after_none_makes (Put item) = inr (item, refl, refl)
after_none_makes (SetField key value) = inl refl
after_none_makes (DropField key) = inl refl
after_none_makes (SetFlag flag is_set) = inl refl
after_none_makes (SetVar key value) = inl refl
after_none_makes (AddOwner name) = inl refl
after_none_makes (DropOwners names) = inl refl

-- ---- owners that go

and_some : (b : Bool) (o : Option (Unit {0})) → is_some (cond b o None) ≡ (b && is_some o)
and_some true o = refl
and_some false o = refl

pub has-without : (s : TextSet) (names : List (List ℕ)) (q : List ℕ) → contains_key (without s names) q ≡ (not (contains_key (set_of names) q) && contains_key s q)
has-without s names q =
    ap is_some (get-retain_keys s (λ owner. not (contains_key (set_of names) owner)) q (λ x t. ap (λ owner. not (contains_key (set_of names) owner)) (sym (exact_texts q x t))))
    ∙ and_some (not (contains_key (set_of names) q)) (get s q)

has-first : (s : TextSet) (k : List ℕ) (ks : List (List ℕ)) → keys s ≡ k ∷ ks → contains_key s k ≡ true
has-first s k ks e = contains_key-keys s k ∙ ap (list_any (eq_by_cmp text_cmp k)) e ∙ ap (λ o. is_eq o || list_any (eq_by_cmp text_cmp k) ks) (tied_itself nat_list_cmp_total k)

has-none : (s : TextSet) (q : List ℕ) → keys s ≡ [] → contains_key s q ≡ false
has-none s q e = contains_key-keys s q ∙ ap (list_any (eq_by_cmp text_cmp q)) e

from_nil : {X : Type 0} (xs : List X) → is_nil xs ≡ true → xs ≡ []
from_nil [] e = refl
from_nil (x ∷ xs) e = absurd (cc)

left_over : (n h : Bool) → h ≡ true → (not n && h) ≡ false → n ≡ true
left_over true h is e = refl
left_over false h is e = absurd (cc)

both_true : (a b : Bool) → (a && b) ≡ true → (a ≡ true) × (b ≡ true)
both_true true b e = (refl, e)
both_true false b e = absurd (cc)

not_named : (b : Bool) → not b ≡ true → b ≡ true → ⊥
not_named true n e = cc
not_named false n e = cc

-- a set that loses nothing, since it is empty
loses_nothing : (s : TextSet) (names : List (List ℕ)) → keys s ≡ [] → keys (without s names) ≡ [] → without s names ≡ s
loses_nothing s names e f = same_entries_map (without s names) s (firsts_same (entries (without s names)) (entries s) (f ∙ sym e))

some_owner : (parts : ItemParts) (names : List (List ℕ)) (ks : List (List ℕ)) → keys parts.owners ≡ ks → parts_eq (asked (DropOwners names) parts) parts ≡ false → keys (without parts.owners names) ≡ []
    → (owner : List ℕ) × (contains_key parts.owners owner ≡ true)
some_owner parts names [] e differs none =
    let d : Decides (parts_eq (asked (DropOwners names) parts) parts) (asked (DropOwners names) parts ≡ parts) = parts_eq-Decides (asked (DropOwners names) parts) parts in
    let equal : parts_eq (asked (DropOwners names) parts) parts ≡ true = d.1 (ap (λ s. record parts { owners = s }) (loses_nothing parts.owners names e none)) in
    absurd (cc)
some_owner parts names (k ∷ ks) e differs none = (k, has-first parts.owners k ks e)

goes_from : (parts : ItemParts) (names : List (List ℕ)) → after (DropOwners names) parts ≡ Gone → TakesAllOwners (DropOwners names) parts
goes_from parts names e =
    let f : (parts_eq (asked (DropOwners names) parts) parts ≡ false) × (is_nil (keys (without parts.owners names)) ≡ true) = chosen_gone (parts_eq (asked (DropOwners names) parts) parts) (goes (DropOwners names) parts) _ e in
    let none : keys (without parts.owners names) ≡ [] = from_nil _ f.1 in (
      some_owner parts names (keys parts.owners) refl f.0 none,
      λ owner has. left_over (contains_key (set_of names) owner) (contains_key parts.owners owner) has (sym (has-without parts.owners names owner) ∙ has-none (without parts.owners names) owner none),
    )

no_first : (parts : ItemParts) (names : List (List ℕ)) (ks : List (List ℕ)) → TakesAllOwners (DropOwners names) parts → keys (without parts.owners names) ≡ ks → is_nil ks ≡ true
no_first parts names [] t e = refl
no_first parts names (k ∷ ks) t e =
    let h : (not (contains_key (set_of names) k) ≡ true) × (contains_key parts.owners k ≡ true) = both_true _ _ (sym (has-without parts.owners names k) ∙ has-first (without parts.owners names) k ks e) in
    absurd (not_named (contains_key (set_of names) k) h.0 (t.1 k h.1))

pub false_from : (b : Bool) → (b ≡ true → ⊥) → b ≡ false
false_from true h = absurd (h refl)
false_from false h = refl

pub named_out : (n h : Bool) → n ≡ true → (not n && h) ≡ false
named_out true h e = refl
named_out false h e = absurd (cc)

goes_to : (parts : ItemParts) (names : List (List ℕ)) → TakesAllOwners (DropOwners names) parts → after (DropOwners names) parts ≡ Gone
goes_to parts names t =
    let op : Op = DropOwners names in
    let owner : List ℕ = t.0.0 in
    let gone : contains_key (without parts.owners names) owner ≡ false = has-without parts.owners names owner ∙ named_out (contains_key (set_of names) owner) (contains_key parts.owners owner) (t.1 owner t.0.1) in
    let d : Decides (parts_eq (asked op parts) parts) (asked op parts ≡ parts) = parts_eq-Decides (asked op parts) parts in
    let differs : parts_eq (asked op parts) parts ≡ false = false_from _ (λ e. (let same : contains_key (without parts.owners names) owner ≡ contains_key parts.owners owner = ap (λ (p : ItemParts). contains_key p.owners owner) (d.0 e) in let there : contains_key parts.owners owner ≡ true = t.0.1 in cc)) in
    (λ i. cond (differs i) Same (cond (no_first parts names (keys (without parts.owners names)) t refl i) Gone (Changed (asked op parts))))

stays_there : (op : Op) (parts : ItemParts) → drops_owners op ≡ false → after op parts ≡ Gone → ⊥
stays_there op parts stays e =
    let f : (_ ≡ false) × (goes op parts ≡ true) = chosen_gone (parts_eq (asked op parts) parts) (goes op parts) (asked op parts) e in
    let g : (drops_owners op ≡ true) × (_ ≡ true) = both_true (drops_owners op) _ f.1 in
    let drops : drops_owners op ≡ true = g.0 in
    cc

pub after_gone : (op : Op) (parts : ItemParts) → (after op parts ≡ Gone) ↔ TakesAllOwners op parts
after_gone (Put item) parts = (λ e. stays_there (Put item) parts refl e, λ t. absurd t)
after_gone (SetField key value) parts = (λ e. stays_there (SetField key value) parts refl e, λ t. absurd t)
after_gone (DropField key) parts = (λ e. stays_there (DropField key) parts refl e, λ t. absurd t)
after_gone (SetFlag flag is_set) parts = (λ e. stays_there (SetFlag flag is_set) parts refl e, λ t. absurd t)
after_gone (SetVar key value) parts = (λ e. stays_there (SetVar key value) parts refl e, λ t. absurd t)
after_gone (AddOwner name) parts = (λ e. stays_there (AddOwner name) parts refl e, λ t. absurd t)
after_gone (DropOwners names) parts = (goes_from parts names, goes_to parts names)
