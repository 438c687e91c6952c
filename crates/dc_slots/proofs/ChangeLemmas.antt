-- What becomes of the table that parts show where one of them changes.
use Rattle.std.proofs.Common.{◌≡◌, ◌≢◌, ◌⊎◌, ℕ, ◌+◌, ◌-◌, true, false, cond, List, [], ◌∷◌, ◌++◌, nat_eq, map as each, Option, Some, None, option_map, unwrap_or, refl, sym, ap, ◌∙◌, inl, inr, arith}
use Rattle.std.specs.Prelude.{is_some, not, ◌||◌, ◌==◌}
use Rattle.std.specs.Str.{bytes_eq}
use Rattle.std.specs.Cmp.Lexicographic.{nat_list_cmp_total}
use Rattle.std.specs.FinMap.{get, insert, entries}
use Rattle.std.proofs.lemmas.Bool.{cases_eq, eqb-true}
use Rattle.std.proofs.lemmas.List.{map-append}
use Rattle.dc_text.specs.Maps.{Texts}
use Rattle.dc_text.proofs.MapLemmas.{exact_texts}
use Rattle.dc_slots.specs.Chains.{has}
use Rattle.dc_slots.specs.Slots.{Slots, list_of, with_at, without, if_any}
use Rattle.dc_slots.specs.Numbered.{Kept, Numbered, IsKept, name_in, value_in, owners_in, name_at, value_at, owners_at, with_kept, with_value, with_owners}
use Rattle.dc_slots.specs.Parts.{values_of, lists_of, one_if, count_in, AreTied}
use Rattle.dc_slots.proofs.KeyLemmas.{cases_key, insert-here, insert-other, is_insert}
use Rattle.dc_slots.proofs.ChainLemmas.{each_same, has_tail, has_last, has_pushed, has_push, lacks_push, either, untied, or_first}
use Rattle.dc_slots.proofs.LinkLemmas.{with-here, with-other, is_with}
use Rattle.dc_slots.proofs.TableLemmas.{at_number, get-values, get-lists, list_of-lists, count_with, count_insert}
use Rattle.dc_slots.proofs.TiedLemmas.{put-here, put-other, stays_put, kept_put, was_kept, same_without, names_stay, lists_stay, values_stay, AreUsedBut, IsNearly, yes_or_no}

pub same_text : (q k : List ℕ) → (q ≡ k) ⊎ (q ≢ k)
same_text = cases_key nat_list_cmp_total exact_texts

-- ---- numbers of a list without one of them

has_without : (m n : ℕ) (ns : List ℕ) → has m (without nat_eq ns n) ≡ true → has m ns ≡ true
has_without m n [] there = there
has_without m n (k ∷ ns) there = elim (yes_or_no (nat_eq n k)) [
  | inl yes_is ↦ has_tail m k ns (has_without m n ns (ap (λ b. has m (cond (not b) (k ∷ without nat_eq ns n) (without nat_eq ns n))) (sym yes_is) ∙ there))
  | inr no_is ↦ elim (either (nat_eq m k) (has m (without nat_eq ns n)) (ap (λ b. has m (cond (not b) (k ∷ without nat_eq ns n) (without nat_eq ns n))) (sym no_is) ∙ there)) [
    | inl here ↦ or_first (nat_eq m k) (has m ns) here
    | inr later ↦ has_tail m k ns (has_without m n ns later)
  ]
]

others_without : (m n : ℕ) (ns : List ℕ) → m ≢ n → has m (without nat_eq ns n) ≡ has m ns
others_without m n [] differ = refl
others_without m n (k ∷ ns) differ = elim (yes_or_no (nat_eq n k)) [
  | inl yes_is ↦
      let out : nat_eq m k ≡ false = untied m k (λ same. differ (same ∙ sym (eqb-true n k yes_is))) in
      ap (λ b. has m (cond (not b) (k ∷ without nat_eq ns n) (without nat_eq ns n))) yes_is ∙ others_without m n ns differ ∙ ap (λ b. b || has m ns) (sym out)
  | inr no_is ↦ ap (λ b. has m (cond (not b) (k ∷ without nat_eq ns n) (without nat_eq ns n))) no_is ∙ ap (λ b. nat_eq m k || b) (others_without m n ns differ)
]

none_without : (n : ℕ) (ns : List ℕ) → has n (without nat_eq ns n) ≡ false
none_without n [] = refl
none_without n (k ∷ ns) = elim (yes_or_no (nat_eq n k)) [
  | inl yes_is ↦ ap (λ b. has n (cond (not b) (k ∷ without nat_eq ns n) (without nat_eq ns n))) yes_is ∙ none_without n ns
  | inr no_is ↦ ap (λ b. has n (cond (not b) (k ∷ without nat_eq ns n) (without nat_eq ns n))) no_is ∙ (λ i. no_is i || none_without n ns i)
]

others_pushed : (m n : ℕ) (ns : List ℕ) → m ≢ n → has m (ns ++ n ∷ []) ≡ has m ns
others_pushed m n ns differ = elim (yes_or_no (has m ns)) [
  | inl there ↦ has_push m ns n there ∙ sym there
  | inr out ↦ lacks_push m ns n differ out ∙ sym out
]

list_any_is : {X : Type 0} (xs : List X) → unwrap_or (if_any xs) [] ≡ xs
list_any_is [] = refl
list_any_is (x ∷ xs) = refl

pub each_any : {X Y : Type 0} (f : X → Y) (xs : List X) → option_map (each f) (if_any xs) ≡ if_any (each f xs)
each_any f [] = refl
each_any f (x ∷ xs) = refl

module _ {T : Type 0} (places : Texts ℕ) (s : Numbered T) (lists : Texts (List ℕ)) (table : Slots T) (n : ℕ) (near : IsNearly places s lists table n) (at : IsKept s n) where
  -- ---- another slot is put at the number, with the same name

  tied_put : (k : Kept T) (later : Texts (List ℕ)) → k.name ≡ name_at s n → ((owner : List ℕ) (m : ℕ) → has m (list_of later owner) ≡ true → IsKept s m)
      → ((owner : List ℕ) → get later owner ≡ if_any (list_of later owner))
      → ((m : ℕ) → IsKept s m → owners_at (with_kept s n k) m ≡ count_in m (entries later)) → AreTied places (with_kept s n k) later
  tied_put k later name listed full counted =
      let t : AreTied places s lists = near.tied in
      let names : (m : ℕ) → name_at (with_kept s n k) m ≡ name_at s m = stays_put s n name_in k name in
      record {
        named = λ q m is. (kept_put s n k m (t.named q m is).0, names m ∙ (t.named q m is).1);
        placed = λ m there. ap (get places) (names m) ∙ t.placed m (was_kept s n k at m there);
        touched = λ m there. kept_put s n k m (t.touched m there);
        listed = λ owner m there. kept_put s n k m (listed owner m there);
        full = full;
        counted = λ m there. counted m (was_kept s n k at m there);
      }

  used_put : (k : Kept T) → AreUsedBut (with_kept s n k) n
  used_put k m differ there = ap (λ o. is_some (value_in o) || (has m s.touched || not (owners_in o == 0))) (put-other s n k m differ) ∙ near.used m differ (was_kept s n k at m there)

  touched_put : (k : Kept T) → k.name ≡ name_at s n → each (name_at (with_kept s n k)) s.touched ≡ table.touched
  touched_put k name = names_stay s (with_kept s n k) s.touched (λ m _. stays_put s n name_in k name m) ∙ ap (λ t. t.touched) near.shown

  -- ---- it has this value

  pub value_near : (name : List ℕ) (v : Option T) → get places name ≡ Some n → IsNearly places (with_value s n v) lists (record table { values = with_at table.values name v }) n
  value_near name v is =
      let k : Kept T = record { name = name_at s n; value = v; owners = owners_at s n } in
      let t : AreTied places s lists = near.tied in
      let values : values_of (value_at (with_kept s n k)) (entries places) ≡ with_at (values_of (value_at s) (entries places)) name v
      = is_with (values_of (value_at s) (entries places)) name _ v
      (get-values (value_at (with_kept s n k)) places name ∙ ap (at_number (value_at (with_kept s n k))) is ∙ ap value_in (put-here s n k))
      (λ q differ. get-values (value_at (with_kept s n k)) places q ∙ by t q differ (get places q) refl ∙ sym (get-values (value_at s) places q)) in
      record {
        tied = tied_put k lists refl t.listed t.full (λ m there. stays_put s n owners_in k refl m ∙ t.counted m there);
        used = used_put k;
        shown =
            let whole : with_at (values_of (value_at s) (entries places)) name v ≡ with_at table.values name v = ap (λ x. with_at x.values name v) near.shown in
            let owned : lists_of (name_at (with_kept s n k)) (entries lists) ≡ table.owned = lists_stay s (with_kept s n k) lists (λ _ m _. stays_put s n name_in k refl m) ∙ ap (λ x. x.owned) near.shown in
            λ i. record { values = (values ∙ whole) i; touched = touched_put k refl i; owned = owned i };
      } where
        by : AreTied places s lists → (q : List ℕ) → q ≢ name → (o : Option ℕ) → get places q ≡ o → at_number (value_at (with_kept s n (record { name = name_at s n; value = v; owners = owners_at s n }))) o ≡ at_number (value_at s) o
        by t q differ None found = refl
        by t q differ (Some m) found = ap value_in (put-other s n _ m (λ same. differ (sym (t.named q m found).1 ∙ ap (name_at s) same ∙ (t.named name n is).1)))

  -- ---- it is touched

  pub touch_near : has n s.touched ≡ false → IsNearly places (record s { touched = s.touched ++ n ∷ [] }) lists (record table { touched = table.touched ++ name_at s n ∷ [] }) n
  touch_near new =
      let t : AreTied places s lists = near.tied in
      record {
        tied = record {
          named = t.named;
          placed = t.placed;
          touched = λ m there. elim (has_pushed m s.touched n there) [ inl same ↦ ap (λ j. is_some (get s.kept j)) same ∙ at | inr old ↦ t.touched m old ];
          listed = t.listed;
          full = t.full;
          counted = t.counted;
        };
        used = λ m differ there. ap (λ b. is_some (value_at s m) || (b || not (owners_at s m == 0))) (others_pushed m n s.touched differ) ∙ near.used m differ there;
        shown = λ i. record {
          values = (near.shown i).values;
          touched = (map-append (name_at s) s.touched (n ∷ []) ∙ ap (λ x. x.touched ++ name_at s n ∷ []) near.shown) i;
          owned = (near.shown i).owned;
        };
      }

  -- ---- an owner gets it

  pub join_near : (owner : List ℕ) → has n (list_of lists owner) ≡ false
      → IsNearly places (with_owners s n (owners_at s n + 1)) (insert lists owner (list_of lists owner ++ n ∷ [])) (record table { owned = insert table.owned owner (list_of table.owned owner ++ name_at s n ∷ []) }) n
  join_near owner new =
      let k : Kept T = record { name = name_at s n; value = value_at s n; owners = owners_at s n + 1 } in
      let t : AreTied places s lists = near.tied in
      let ns : List ℕ = list_of lists owner ++ n ∷ [] in
      let later : Texts (List ℕ) = insert lists owner ns in
      let names : (m : ℕ) → name_at (with_kept s n k) m ≡ name_at s m = stays_put s n name_in k refl in
      let here : get later owner ≡ Some ns = insert-here nat_list_cmp_total exact_texts lists owner ns in
      let other : (q : List ℕ) → q ≢ owner → get later q ≡ get lists q = insert-other nat_list_cmp_total exact_texts lists owner ns in
      let each_name : (ms : List ℕ) → each (name_at (with_kept s n k)) ms ≡ each (name_at s) ms = (λ ms. each_same (name_at (with_kept s n k)) (name_at s) ms (λ m _. names m)) in
      let owned : lists_of (name_at (with_kept s n k)) (entries later) ≡ insert (lists_of (name_at s) (entries lists)) owner (list_of (lists_of (name_at s) (entries lists)) owner ++ name_at s n ∷ [])
      = is_insert nat_list_cmp_total exact_texts (lists_of (name_at s) (entries lists)) owner _ _
      (get-lists (name_at (with_kept s n k)) later owner ∙ ap (option_map (each (name_at (with_kept s n k)))) here
      ∙ ap Some (each_name ns ∙ map-append (name_at s) (list_of lists owner) (n ∷ []) ∙ ap (λ l. l ++ name_at s n ∷ []) (sym (list_of-lists (name_at s) lists owner))))
      (λ q differ. get-lists (name_at (with_kept s n k)) later q ∙ ap (option_map (each (name_at (with_kept s n k)))) (other q differ) ∙ each_names (name_at (with_kept s n k)) names (get lists q) ∙ sym (get-lists (name_at s) lists q)) in
      record {
        tied = tied_put k later refl
            (λ q m there. elim (same_text q owner) [
              | inl same ↦ elim (has_pushed m (list_of lists owner) n (ap (has m) (sym (ap (list_of later) same ∙ ap (λ o. unwrap_or o []) here)) ∙ there)) [
                | inl is ↦ ap (λ j. is_some (get s.kept j)) is ∙ at
                | inr old ↦ t.listed owner m old
              ]
              | inr differ ↦ t.listed q m (ap (λ o. has m (unwrap_or o [])) (sym (other q differ)) ∙ there)
            ])
            (λ q. elim (same_text q owner) [
              | inl same ↦ ap (get later) same ∙ here ∙ sym (any_pushed (list_of lists owner)) ∙ ap (λ o. if_any (unwrap_or o [])) (sym here) ∙ ap (λ p. if_any (list_of later p)) (sym same)
              | inr differ ↦ other q differ ∙ t.full q ∙ ap (λ o. if_any (unwrap_or o [])) (sym (other q differ))
            ])
            (λ m there. elim (cases_eq m n) [
              | inl same ↦
                  let count = count_insert n lists owner ns in
                  let out : one_if (has n (list_of lists owner)) ≡ 0 = ap one_if new in
                  let in_it : one_if (has n ns) ≡ 1 = ap one_if (has_last (list_of lists owner) n) in
                  let was : owners_at s n ≡ count_in n (entries lists) = t.counted n at in
                  let sum : owners_at s n + 1 ≡ count_in n (entries later) = omega (arith, count, out, in_it, was) in
                  ap (λ j. owners_at (with_kept s n k) j) same ∙ ap owners_in (put-here s n k) ∙ sum ∙ ap (λ j. count_in j (entries later)) (sym same)
              | inr differ ↦
                  let count = count_insert m lists owner ns in
                  let same : one_if (has m ns) ≡ one_if (has m (list_of lists owner)) = ap one_if (others_pushed m n (list_of lists owner) differ) in
                  let stays : count_in m (entries lists) ≡ count_in m (entries later) = omega (arith, count, same) in
                  ap owners_in (put-other s n k m differ) ∙ t.counted m there ∙ stays
            ]);
        used = used_put k;
        shown =
            let whole = ap (λ x. insert x.owned owner (list_of x.owned owner ++ name_at s n ∷ [])) near.shown in
            let values : values_of (value_at (with_kept s n k)) (entries places) ≡ table.values = values_stay s (with_kept s n k) places (λ _ m _. stays_put s n value_in k refl m) ∙ ap (λ x. x.values) near.shown in
            λ i. record { values = values i; touched = touched_put k refl i; owned = (owned ∙ whole) i };
      } where
        any_pushed : (l : List ℕ) → if_any (l ++ n ∷ []) ≡ Some (l ++ n ∷ [])
        any_pushed [] = refl
        any_pushed (x ∷ l) = refl

        each_names : (f : ℕ → List ℕ) → ((m : ℕ) → f m ≡ name_at s m) → (o : Option (List ℕ)) → option_map (each f) o ≡ option_map (each (name_at s)) o
        each_names f names None = refl
        each_names f names (Some ms) = ap Some (each_same f (name_at s) ms (λ m _. names m))

  -- ---- an owner has it no more

  pub leave_near : (owner : List ℕ) → has n (list_of lists owner) ≡ true
      → IsNearly places (with_owners s n (owners_at s n - 1)) (with_at lists owner (if_any (without nat_eq (list_of lists owner) n))) (record table { owned = with_at table.owned owner (if_any (without bytes_eq (list_of table.owned owner) (name_at s n))) }) n
  leave_near owner there_it =
      let k : Kept T = record { name = name_at s n; value = value_at s n; owners = owners_at s n - 1 } in
      let t : AreTied places s lists = near.tied in
      let ns : List ℕ = without nat_eq (list_of lists owner) n in
      let later : Texts (List ℕ) = with_at lists owner (if_any ns) in
      let names : (m : ℕ) → name_at (with_kept s n k) m ≡ name_at s m = stays_put s n name_in k refl in
      let here : get later owner ≡ if_any ns = with-here lists owner (if_any ns) in
      let other : (q : List ℕ) → q ≢ owner → get later q ≡ get lists q = with-other lists owner (if_any ns) in
      let each_name : (ms : List ℕ) → each (name_at (with_kept s n k)) ms ≡ each (name_at s) ms = (λ ms. each_same (name_at (with_kept s n k)) (name_at s) ms (λ m _. names m)) in
      let owned : lists_of (name_at (with_kept s n k)) (entries later) ≡ with_at (lists_of (name_at s) (entries lists)) owner (if_any (without bytes_eq (list_of (lists_of (name_at s) (entries lists)) owner) (name_at s n)))
      = is_with (lists_of (name_at s) (entries lists)) owner _ _
      (get-lists (name_at (with_kept s n k)) later owner ∙ ap (option_map (each (name_at (with_kept s n k)))) here ∙ each_any (name_at (with_kept s n k)) ns
      ∙ ap if_any (each_name ns ∙ same_without places s lists t n (list_of lists owner) at (t.listed owner) ∙ ap (λ l. without bytes_eq l (name_at s n)) (sym (list_of-lists (name_at s) lists owner))))
      (λ q differ. get-lists (name_at (with_kept s n k)) later q ∙ ap (option_map (each (name_at (with_kept s n k)))) (other q differ) ∙ each_names (name_at (with_kept s n k)) names (get lists q) ∙ sym (get-lists (name_at s) lists q)) in
      record {
        tied = tied_put k later refl
            (λ q m there. elim (same_text q owner) [
              | inl same ↦ t.listed owner m (has_without m n (list_of lists owner) (ap (has m) (sym (ap (list_of later) same ∙ ap (λ o. unwrap_or o []) here ∙ list_any_is ns)) ∙ there))
              | inr differ ↦ t.listed q m (ap (λ o. has m (unwrap_or o [])) (sym (other q differ)) ∙ there)
            ])
            (λ q. elim (same_text q owner) [
              | inl same ↦ ap (get later) same ∙ here ∙ ap if_any (sym (list_any_is ns)) ∙ ap (λ o. if_any (unwrap_or o [])) (sym here) ∙ ap (λ p. if_any (list_of later p)) (sym same)
              | inr differ ↦ other q differ ∙ t.full q ∙ ap (λ o. if_any (unwrap_or o [])) (sym (other q differ))
            ])
            (λ m there. elim (cases_eq m n) [
              | inl same ↦
                  let count = count_with n lists owner ns in
                  let out : one_if (has n ns) ≡ 0 = ap one_if (none_without n (list_of lists owner)) in
                  let in_it : one_if (has n (list_of lists owner)) ≡ 1 = ap one_if there_it in
                  let was : owners_at s n ≡ count_in n (entries lists) = t.counted n at in
                  let sum : owners_at s n - 1 ≡ count_in n (entries later) = omega (arith, count, out, in_it, was) in
                  ap (λ j. owners_at (with_kept s n k) j) same ∙ ap owners_in (put-here s n k) ∙ sum ∙ ap (λ j. count_in j (entries later)) (sym same)
              | inr differ ↦
                  let count = count_with m lists owner ns in
                  let same : one_if (has m ns) ≡ one_if (has m (list_of lists owner)) = ap one_if (others_without m n (list_of lists owner) differ) in
                  let stays : count_in m (entries lists) ≡ count_in m (entries later) = omega (arith, count, same) in
                  ap owners_in (put-other s n k m differ) ∙ t.counted m there ∙ stays
            ]);
        used = used_put k;
        shown =
            let whole = ap (λ x. with_at x.owned owner (if_any (without bytes_eq (list_of x.owned owner) (name_at s n)))) near.shown in
            let values : values_of (value_at (with_kept s n k)) (entries places) ≡ table.values = values_stay s (with_kept s n k) places (λ _ m _. stays_put s n value_in k refl m) ∙ ap (λ x. x.values) near.shown in
            λ i. record { values = values i; touched = touched_put k refl i; owned = (owned ∙ whole) i };
      } where
        each_names : (f : ℕ → List ℕ) → ((m : ℕ) → f m ≡ name_at s m) → (o : Option (List ℕ)) → option_map (each f) o ≡ option_map (each (name_at s)) o
        each_names f names None = refl
        each_names f names (Some ms) = ap Some (each_same f (name_at s) ms (λ m _. names m))
