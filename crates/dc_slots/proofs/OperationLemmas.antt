-- What each operation of a slot table makes of the parts, and of the table that they show.
use Rattle.std.proofs.Common.{Result, Ok, Err, OnErr, ◌≡◌, ℕ, ◌+◌, ◌-◌, ◌<◌, Bool, true, false, cond, List, [], ◌∷◌, ◌++◌, nat_eq, map as each, Option, Some, None, option_map, unwrap_or, refl, sym, ap, ◌∙◌, subst, inl, inr, arith}
use Rattle.std.specs.Prelude.{is_some, not, ◌||◌, ◌&&◌, ◌==◌, T}
use Rattle.std.specs.List.{list_any}
use Rattle.std.specs.Str.{bytes_eq}
use Rattle.std.specs.declared.cmp.Ordering.{Ordering}
use Rattle.std.specs.declared.cmp.Ordering.TheVariants.{Less, Equal, Greater}
use Rattle.std.specs.FinMap.Entries.{below_all, by_order}
use Rattle.std.specs.Ordering.{nat_cmp, is_lt}
use Rattle.std.specs.Cmp.{nat_cmp_total, eq_by_cmp_equiv}
use Rattle.std.specs.Cmp.Lexicographic.{nat_list_cmp_total}
use Rattle.std.specs.FinMap.{get, insert, remove, empty, entries, entries_sorted, entries-insert, find, put, is_sorted, get-entries, get-empty, nat_cmp-IsAntisymmetric}
use Rattle.dc_text.specs.Maps.{Texts, text_cmp}
use Rattle.dc_text.proofs.MapLemmas.{exact_texts, entries-in_order}
use Rattle.dc_slots.specs.Chains.{has}
use Rattle.dc_slots.specs.Slots.{Slots, list_of, with_at, without, put_last, if_any, IsUnused}
use Rattle.dc_slots.specs.Numbered.{Kept, Numbered, IsKept, name_in, value_in, owners_in, name_at, value_at, owners_at, with_kept, with_value, with_owners}
use Rattle.dc_slots.specs.Parts.{values_of, lists_of, table_of, count_in, AreTied, AreSound, IsPlaced, IsReleased}
use Rattle.dc_slots.proofs.KeyLemmas.{insert-here, is_insert, is_remove}
use Rattle.dc_slots.proofs.ChainLemmas.{has_last, not_both, untied, or_first, or_second}
use Rattle.dc_slots.proofs.LinkLemmas.{with_same, without_none}
use Rattle.dc_slots.proofs.ChangeLemmas.{same_text}
use Rattle.dc_slots.proofs.TableLemmas.{first_half, second_half, none_below, differs, get-listed, at_number, get-values, get-lists, list_of-lists, listed_is_counted}
use Rattle.dc_slots.proofs.TiedLemmas.{put-here, put-other, same_has, IsNearly}
use Rattle.dc_slots.proofs.TiedLemmas.{nearly_sound, sound_nearly, IsSeen, unused_name}
use Rattle.dc_slots.proofs.ChangeLemmas.{each_any, value_near, touch_near, join_near, leave_near}
use Rattle.dc_slots.proofs.PlaceLemmas.{HasPlace, has_place, is_left}

both : (a b : Bool) → T a → T b → T (a && b)
both true b p q = q
both false b p q = p

less : (o : Ordering) → T (is_lt o) → o ≡ Less
less Less p = refl
less Equal p = absurd p
less Greater p = absurd p

-- where a call failed anyhow
pub on_err : {A E P : Type 0} (r : Result A E) → P → OnErr r P
on_err (Ok x) p = tt
on_err (Err e) p = p

-- one slot after another at the same number
module _ {T : Type 0} (s : Numbered T) (n : ℕ) where
  pub removed_again : (k : Kept T) → get s.kept n ≡ None → remove (with_kept s n k).kept n ≡ s.kept
  removed_again k vacant = sym (is_remove nat_cmp_total nat_cmp-IsAntisymmetric (with_kept s n k).kept n s.kept vacant (λ m differ. sym (put-other s n k m differ)))

  some_of : (o : Option (Kept T)) → is_some o ≡ true → Some (record { name = name_in o; value = value_in o; owners = owners_in o }) ≡ o
  some_of None there = absurd (cc)
  some_of (Some k) there = refl

  pub owner_dropped : IsKept s n → with_owners (with_owners s n (owners_at s n + 1)) n (owners_at (with_owners s n (owners_at s n + 1)) n - 1) ≡ s
  owner_dropped at =
      let more : Numbered T = with_owners s n (owners_at s n + 1) in
      let here : get more.kept n ≡ Some (record { name = name_at s n; value = value_at s n; owners = owners_at s n + 1 }) = put-here s n _ in
      let count : owners_at more n - 1 ≡ owners_at s n = (let e : owners_at more n ≡ owners_at s n + 1 = ap owners_in here in omega arith) in
      let whole : insert more.kept n (record { name = name_at more n; value = value_at more n; owners = owners_at more n - 1 }) ≡ s.kept
      = (λ i. insert more.kept n (record { name = name_in (here i); value = value_in (here i); owners = count i }))
      ∙ sym (is_insert nat_cmp_total nat_cmp-IsAntisymmetric more.kept n s.kept _ (sym (some_of (get s.kept n) at)) (λ m differ. sym (put-other s n _ m differ))) in
      λ i. record { kept = whole i; touched = s.touched }

module _ {T : Type 0} (places : Texts ℕ) (s : Numbered T) (lists : Texts (List ℕ)) (table : Slots T) (sound : AreSound places s lists) (shows : table_of places s lists ≡ table) (name : List ℕ) (n : ℕ) where
  -- ---- a value is put or taken

  pub put_old : (later : Texts ℕ) (mid : Numbered T) → IsPlaced places later s mid name n → value_at mid n ≡ get table.values name
  put_old later mid placed =
      let p = has_place places later s mid lists table sound shows name n placed in
      sym (ap (λ t. get t.values name) (sym p.near.shown) ∙ get-values (value_at mid) later name ∙ ap (at_number (value_at mid)) p.place)

  pub put_seen : (later : Texts ℕ) (mid after : Numbered T) (v : T) → IsPlaced places later s mid name n → after ≡ with_value mid n (Some v) → IsSeen later after lists (record table { values = insert table.values name v })
  put_seen later mid after v placed is =
      let p = has_place places later s mid lists table sound shows name n placed in
      let near = value_near later mid lists table n p.near p.kept name (Some v) p.place in
      subst (λ x. IsSeen later x lists (record table { values = insert table.values name v })) (sym is) (record {
        sound = nearly_sound later (with_value mid n (Some v)) lists _ n near (ap (λ o. is_some (value_in o) || (has n mid.touched || not (owners_in o == 0))) (put-here mid n _));
        shown = near.shown;
      })

  pub take_seen : (later : Texts ℕ) (mid after : Numbered T) → get places name ≡ Some n → mid ≡ with_value s n None → IsReleased places later mid after n → IsSeen later after lists (record table { values = remove table.values name })
  take_seen later mid after at is released =
      let there : IsKept s n = (sound.tied.named name n at).0 in
      let near = value_near places s lists table n (sound_nearly places s lists table n sound shows) there name None at in
      is_left places later mid after lists (record table { values = remove table.values name }) n (subst (λ x. IsNearly places x lists (record table { values = remove table.values name }) n) (sym is) near)
      (ap (λ x. is_some (get x.kept n)) is ∙ ap is_some (put-here s n _)) released

  pub take_old : get places name ≡ Some n → value_at s n ≡ get table.values name
  take_old at = sym (ap (λ t. get t.values name) (sym shows) ∙ get-values (value_at s) places name ∙ ap (at_number (value_at s)) at)

  -- ---- it is touched

  has_touched : (later : Texts ℕ) (mid : Numbered T) (p : HasPlace places later s mid lists table sound shows name n) → has n mid.touched ≡ list_any (bytes_eq name) table.touched
  has_touched later mid p =
      same_has later mid lists p.near.tied n mid.touched p.kept p.near.tied.touched ∙ (λ i. list_any (bytes_eq (p.named i)) (p.near.shown i).touched)

  pub touched_seen_new : (later : Texts ℕ) (mid after : Numbered T) → IsPlaced places later s mid name n → has n mid.touched ≡ false → after ≡ record mid { touched = mid.touched ++ n ∷ [] }
      → IsSeen later after lists (record table { touched = put_last bytes_eq table.touched name })
  touched_seen_new later mid after placed new is =
      let p = has_place places later s mid lists table sound shows name n placed in
      let near = touch_near later mid lists table n p.near p.kept new in
      let put : table.touched ++ name_at mid n ∷ [] ≡ put_last bytes_eq table.touched name
      = (λ i. table.touched ++ p.named i ∷ []) ∙ ap (λ b. cond b table.touched (table.touched ++ name ∷ [])) (sym new ∙ has_touched later mid p) in
      subst (λ x. IsSeen later x lists (record table { touched = put_last bytes_eq table.touched name })) (sym is) (record {
        sound = nearly_sound later (record mid { touched = mid.touched ++ n ∷ [] }) lists _ n near (or_second (is_some (value_at mid n)) _ (or_first _ (not (owners_at mid n == 0)) (has_last mid.touched n)));
        shown = near.shown ∙ (λ i. record table { touched = put i });
      })

  pub touched_seen_old : (later : Texts ℕ) (mid : Numbered T) → IsPlaced places later s mid name n → has n mid.touched ≡ true → IsSeen later mid lists (record table { touched = put_last bytes_eq table.touched name })
  touched_seen_old later mid placed old =
      let p = has_place places later s mid lists table sound shows name n placed in
      let put : table.touched ≡ put_last bytes_eq table.touched name = ap (λ b. cond b table.touched (table.touched ++ name ∷ [])) (sym old ∙ has_touched later mid p) in
      record {
        sound = nearly_sound later mid lists table n p.near (or_second (is_some (value_at mid n)) _ (or_first _ (not (owners_at mid n == 0)) old));
        shown = p.near.shown ∙ (λ i. record table { touched = put i });
      }

  -- ---- an owner gets it

  has_listed : (later : Texts ℕ) (mid : Numbered T) (owner : List ℕ) (p : HasPlace places later s mid lists table sound shows name n) → has n (list_of lists owner) ≡ list_any (bytes_eq name) (list_of table.owned owner)
  has_listed later mid owner p =
      same_has later mid lists p.near.tied n (list_of lists owner) p.kept (p.near.tied.listed owner) ∙ ap (list_any (bytes_eq (name_at mid n))) (sym (list_of-lists (name_at mid) lists owner))
      ∙ (λ i. list_any (bytes_eq (p.named i)) (list_of (p.near.shown i).owned owner))

  counts_on : (later : Texts ℕ) (mid : Numbered T) (ls : Texts (List ℕ)) (owner : List ℕ) → AreTied later mid ls → IsKept mid n → has n (list_of ls owner) ≡ true → not (owners_at mid n == 0) ≡ true
  counts_on later mid ls owner t at there =
      let some : 0 < count_in n (entries ls) = listed_is_counted n ls owner there in
      let is : owners_at mid n ≡ count_in n (entries ls) = t.counted n at in
      ap not (untied (owners_at mid n) 0 (λ none. omega arith))

  pub joined_seen_new : (later : Texts ℕ) (mid after : Numbered T) (owner : List ℕ) (more : Texts (List ℕ)) → IsPlaced places later s mid name n → has n (list_of lists owner) ≡ false
      → after ≡ with_owners mid n (owners_at mid n + 1) → more ≡ insert lists owner (list_of lists owner ++ n ∷ []) → IsSeen later after more (record table { owned = insert table.owned owner (put_last bytes_eq (list_of table.owned owner) name) })
  joined_seen_new later mid after owner more placed new is more_is =
      let p = has_place places later s mid lists table sound shows name n placed in
      let near = join_near later mid lists table n p.near p.kept owner new in
      let put : list_of table.owned owner ++ name_at mid n ∷ [] ≡ put_last bytes_eq (list_of table.owned owner) name
      = (λ i. list_of table.owned owner ++ p.named i ∷ []) ∙ ap (λ b. cond b (list_of table.owned owner) (list_of table.owned owner ++ name ∷ [])) (sym new ∙ has_listed later mid owner p) in
      let there : has n (list_of (insert lists owner (list_of lists owner ++ n ∷ [])) owner) ≡ true
      = ap (λ o. has n (unwrap_or o [])) (insert-here nat_list_cmp_total exact_texts lists owner (list_of lists owner ++ n ∷ [])) ∙ has_last (list_of lists owner) n in
      let kept : IsKept (with_owners mid n (owners_at mid n + 1)) n = ap is_some (put-here mid n _) in
      subst (λ x. IsSeen later x more (record table { owned = insert table.owned owner (put_last bytes_eq (list_of table.owned owner) name) })) (sym is)
      (subst (λ ls. IsSeen later (with_owners mid n (owners_at mid n + 1)) ls (record table { owned = insert table.owned owner (put_last bytes_eq (list_of table.owned owner) name) })) (sym more_is) (record {
        sound = nearly_sound later (with_owners mid n (owners_at mid n + 1)) _ _ n near (or_second (is_some (value_at (with_owners mid n (owners_at mid n + 1)) n)) _ (or_second (has n mid.touched) _ (counts_on later _ _ owner near.tied kept there)));
        shown = near.shown ∙ (λ i. record table { owned = insert table.owned owner (put i) });
      }))

  pub joined_seen_old : (later : Texts ℕ) (mid : Numbered T) (owner : List ℕ) → IsPlaced places later s mid name n → has n (list_of lists owner) ≡ true
      → IsSeen later mid lists (record table { owned = insert table.owned owner (put_last bytes_eq (list_of table.owned owner) name) })
  joined_seen_old later mid owner placed old =
      let p = has_place places later s mid lists table sound shows name n placed in
      let here : get table.owned owner ≡ Some (put_last bytes_eq (list_of table.owned owner) name)
      = some_list (get table.owned owner) (sym (has_listed later mid owner p) ∙ old) ∙ ap (λ b. Some (cond b (list_of table.owned owner) (list_of table.owned owner ++ name ∷ []))) (sym old ∙ has_listed later mid owner p) in
      let put : table.owned ≡ insert table.owned owner (put_last bytes_eq (list_of table.owned owner) name) = is_insert nat_list_cmp_total exact_texts table.owned owner table.owned _ here (λ q _. refl) in
      record {
        sound = nearly_sound later mid lists table n p.near (or_second (is_some (value_at mid n)) _ (or_second (has n mid.touched) _ (counts_on later mid lists owner p.near.tied p.kept old)));
        shown = p.near.shown ∙ (λ i. record table { owned = put i });
      } where
        some_list : (o : Option (List (List ℕ))) → list_any (bytes_eq name) (unwrap_or o []) ≡ true → o ≡ Some (unwrap_or o [])
        some_list None there = absurd (cc)
        some_list (Some l) there = refl

  -- where memory failed
  pub join_failed : (later last : Texts ℕ) (mid same after : Numbered T) (more : Texts (List ℕ)) → IsPlaced places later s mid name n → same ≡ mid → more ≡ lists → IsReleased later last same after n → IsSeen last after more table
  join_failed later last mid same after more placed same_is more_is released =
      let p = has_place places later s mid lists table sound shows name n placed in
      subst (λ ls. IsSeen last after ls table) (sym more_is) (is_left later last mid after lists table n p.near p.kept (subst (λ x. IsReleased later last x after n) same_is released))

  -- ---- an owner has it no more

  pub left_seen : (later : Texts ℕ) (mid after : Numbered T) (owner : List ℕ) (less : Texts (List ℕ)) → get places name ≡ Some n → has n (list_of lists owner) ≡ true → less ≡ with_at lists owner (if_any (without nat_eq (list_of lists owner) n))
      → mid ≡ with_owners s n (owners_at s n - 1) → IsReleased places later mid after n → IsSeen later after less (record table { owned = with_at table.owned owner (if_any (without bytes_eq (list_of table.owned owner) name)) })
  left_seen later mid after owner less at there less_is is released =
      let was : IsKept s n × (name_at s n ≡ name) = sound.tied.named name n at in
      let near = leave_near places s lists table n (sound_nearly places s lists table n sound shows) was.0 owner there in
      let goal : Slots T = record table { owned = with_at table.owned owner (if_any (without bytes_eq (list_of table.owned owner) name)) } in
      let named : IsNearly places (with_owners s n (owners_at s n - 1)) (with_at lists owner (if_any (without nat_eq (list_of lists owner) n))) goal n
      = subst (λ q. IsNearly places (with_owners s n (owners_at s n - 1)) (with_at lists owner (if_any (without nat_eq (list_of lists owner) n))) (record table { owned = with_at table.owned owner (if_any (without bytes_eq (list_of table.owned owner) q)) }) n) was.1 near in
      is_left places later mid after less goal n
      (subst (λ ls. IsNearly places mid ls goal n) (sym less_is) (subst (λ x. IsNearly places x (with_at lists owner (if_any (without nat_eq (list_of lists owner) n))) goal n) (sym is) named))
      (ap (λ x. is_some (get x.kept n)) is ∙ ap is_some (put-here s n _)) released

module _ {T : Type 0} (places : Texts ℕ) (s : Numbered T) (lists : Texts (List ℕ)) (table : Slots T) (sound : AreSound places s lists) (shows : table_of places s lists ≡ table) (name : List ℕ) where
  -- where the name isn't in the owner's list
  pub nothing_to_leave : (owner : List ℕ) → list_any (bytes_eq name) (list_of table.owned owner) ≡ false → table ≡ record table { owned = with_at table.owned owner (if_any (without bytes_eq (list_of table.owned owner) name)) }
  nothing_to_leave owner out =
      let full : get table.owned owner ≡ if_any (list_of table.owned owner)
      = ap (λ t. get t.owned owner) (sym shows) ∙ get-lists (name_at s) lists owner ∙ ap (option_map (each (name_at s))) (sound.tied.full owner) ∙ each_any (name_at s) (list_of lists owner)
      ∙ ap if_any (sym (list_of-lists (name_at s) lists owner)) ∙ ap (λ t. if_any (list_of t.owned owner)) shows in
      let put : table.owned ≡ with_at table.owned owner (if_any (without bytes_eq (list_of table.owned owner) name))
      = with_same table.owned owner _ (full ∙ ap if_any (sym (without_none bytes_eq (list_of table.owned owner) name out))) in
      λ i. record table { owned = put i }

  pub not_listed : (owner : List ℕ) (n : ℕ) → get places name ≡ Some n → has n (list_of lists owner) ≡ false → list_any (bytes_eq name) (list_of table.owned owner) ≡ false
  not_listed owner n at out =
      let was : IsKept s n × (name_at s n ≡ name) = sound.tied.named name n at in
      sym (same_has places s lists sound.tied n (list_of lists owner) was.0 (sound.tied.listed owner) ∙ ap (list_any (bytes_eq (name_at s n))) (sym (list_of-lists (name_at s) lists owner))
      ∙ (λ i. list_any (bytes_eq (was.1 i)) (list_of (shows i).owned owner))) ∙ out

  pub unused : get places name ≡ None → IsUnused table name
  unused none = subst (λ t. IsUnused t name) shows (unused_name places s lists sound.tied name none)

  pub nothing_to_take : get places name ≡ None → table ≡ record table { values = remove table.values name }
  nothing_to_take none =
      let put : table.values ≡ remove table.values name = is_remove nat_list_cmp_total exact_texts table.values name table.values (unused none).value (λ q _. refl) in
      λ i. record table { values = put i }

-- ---- no part

no_entry : {X : Type 0} → entries (empty {X = X} {R = text_cmp}) ≡ []
no_entry {X} = entries-in_order [] tt

module _ {T : Type 0} where
  none_sound : AreSound {T = T} empty (record { kept = empty; touched = [] }) empty
  none_sound = record {
    tied = record {
      named = λ q n is. absurd (let e : None ≡ Some n = sym (get-empty text_cmp q) ∙ is in cc);
      placed = λ n at. not_both (is_some (get (empty {X = Kept T} {R = nat_cmp}) n)) at (ap is_some (get-empty nat_cmp n));
      touched = λ n at. absurd (cc);
      listed = λ q n at. absurd (let e : has n [] ≡ true = sym (ap (λ o. has n (unwrap_or o [])) (get-empty text_cmp q)) ∙ at in cc);
      full = λ q. get-empty text_cmp q ∙ ap (λ o. if_any (unwrap_or o [])) (sym (get-empty text_cmp q));
      counted = λ n at. not_both (is_some (get (empty {X = Kept T} {R = nat_cmp}) n)) at (ap is_some (get-empty nat_cmp n));
    };
    used = λ n at. not_both (is_some (get (empty {X = Kept T} {R = nat_cmp}) n)) at (ap is_some (get-empty nat_cmp n));
  }

  none_shown : table_of {T = T} empty (record { kept = empty; touched = [] }) empty ≡ record { values = empty; touched = []; owned = empty }
  none_shown = λ i. record { values = values_of (value_at (record { kept = empty; touched = [] })) (no_entry i); touched = []; owned = lists_of (name_at {T = T} (record { kept = empty; touched = [] })) (no_entry i) }

  pub none_seen : (places : Texts ℕ) (s : Numbered T) (lists : Texts (List ℕ)) → places ≡ empty → s ≡ record { kept = empty; touched = [] } → lists ≡ empty → IsSeen places s lists (record { values = empty; touched = []; owned = empty })
  none_seen places s lists no_place no_slot no_list =
      subst (λ p. IsSeen {T = T} p s lists (record { values = empty; touched = []; owned = empty })) (sym no_place)
      (subst (λ x. IsSeen {T = T} empty x lists (record { values = empty; touched = []; owned = empty })) (sym no_slot)
      (subst (λ l. IsSeen {T = T} empty (record { kept = empty; touched = [] }) l (record { values = empty; touched = []; owned = empty })) (sym no_list) (record { sound = none_sound; shown = none_shown })))

-- ---- the names that have a value, in order

module _ {X : Type 0} (value : ℕ → Option X) where
  abbrev pub chosen_by : Option X → List ℕ → List (List ℕ × X) → List (List ℕ × X)
  chosen_by None q rest = rest
  chosen_by (Some v) q rest = (q, v) ∷ rest

  abbrev pub chosen : List (List ℕ × ℕ) → List (List ℕ × X)
  chosen [] = []
  chosen (e ∷ es) = chosen_by (value e.1) e.0 (chosen es)

  below_chosen : (k : List ℕ) (es : List (List ℕ × ℕ)) → T (below_all text_cmp k es) → T (below_all text_cmp k (chosen es))
  below_chosen k [] below = tt
  below_chosen k (e ∷ es) below = by (value e.1) (below_chosen k es (second_half _ _ below)) where
    by : (o : Option X) → T (below_all text_cmp k (chosen es)) → T (below_all text_cmp k (chosen_by o e.0 (chosen es)))
    by None rest = rest
    by (Some v) rest = both (is_lt (text_cmp k e.0)) (below_all text_cmp k (chosen es)) (first_half _ _ below) rest

  put_front : (k : List ℕ) (v : X) (es : List (List ℕ × X)) → T (below_all text_cmp k es) → put text_cmp k v es ≡ (k, v) ∷ es
  put_front k v [] below = refl
  put_front k v (e ∷ es) below = ap (λ o. by_order o ((k, v) ∷ e ∷ es) ((e.0, v) ∷ es) (e ∷ put text_cmp k v es)) (less (text_cmp k e.0) (first_half _ _ below))

  pub entries_chosen : (es : List (List ℕ × ℕ)) → T (is_sorted text_cmp es) → entries (values_of value es) ≡ chosen es
  entries_chosen [] sorted = no_entry
  entries_chosen (e ∷ es) sorted = by (value e.1) (entries_chosen es (second_half _ _ sorted)) where
    by : (o : Option X) → entries (values_of value es) ≡ chosen es → entries (with_at (values_of value es) e.0 o) ≡ chosen_by o e.0 (chosen es)
    by None rest = ap entries (sym (is_remove nat_list_cmp_total exact_texts (values_of value es) e.0 (values_of value es) (get-listed value es e.0 ∙ ap (at_number value) (none_below e.0 es (first_half _ _ sorted))) (λ q _. refl))) ∙ rest
    by (Some v) rest = entries-insert nat_list_cmp_total (values_of value es) e.0 v ∙ ap (put text_cmp e.0 v) rest ∙ put_front e.0 v (chosen es) (below_chosen e.0 es (first_half _ _ sorted))

module _ {V : Type 0} (s : Numbered V) where
  abbrev pub named_by : Option V → List ℕ → List (List ℕ) → List (List ℕ)
  named_by None name rest = rest
  named_by (Some v) name rest = name ∷ rest

  -- the names of the slots that have a value
  abbrev pub names_with_value : List (List ℕ × ℕ) → List (List ℕ)
  names_with_value [] = []
  names_with_value (e ∷ es) = named_by (value_at s e.1) (name_at s e.1) (names_with_value es)

  names_chosen : (es : List (List ℕ × ℕ)) → T (is_sorted text_cmp es) → ((q : List ℕ) (n : ℕ) → find text_cmp q es ≡ Some n → name_at s n ≡ q) → names_with_value es ≡ each (λ e. e.0) (chosen (value_at s) es)
  names_chosen [] sorted named = refl
  names_chosen (e ∷ es) sorted named =
      let here : name_at s e.1 ≡ e.0 = named e.0 e.1 (ap (λ b. cond b (Some e.1) (find text_cmp e.0 es)) ((eq_by_cmp_equiv nat_list_cmp_total).refl e.0)) in
      by (value_at s e.1) here (names_chosen es (second_half _ _ sorted) (λ q n found. named q n (later q n found))) where
        by : (o : Option V) → name_at s e.1 ≡ e.0 → names_with_value es ≡ each (λ e. e.0) (chosen (value_at s) es) → named_by o (name_at s e.1) (names_with_value es) ≡ each (λ e. e.0) (chosen_by (value_at s) o e.0 (chosen (value_at s) es))
        by None here rest = rest
        by (Some v) here rest = λ i. here i ∷ rest i

        later : (q : List ℕ) (n : ℕ) → find text_cmp q es ≡ Some n → find text_cmp q (e ∷ es) ≡ Some n
        later q n found = elim (same_text q e.0) [
          | inl same ↦ absurd (let none : None ≡ Some n = sym (ap (λ k. find text_cmp k es) same ∙ none_below e.0 es (first_half _ _ sorted)) ∙ found in cc)
          | inr differ ↦ ap (λ b. cond b (Some e.1) (find text_cmp q es)) (differs q e.0 differ) ∙ found
        ]

  pub names_are_keys : (places : Texts ℕ) (lists : Texts (List ℕ)) → AreTied places s lists → names_with_value (entries places) ≡ each (λ e. e.0) (entries (values_of (value_at s) (entries places)))
  names_are_keys places lists t =
      names_chosen (entries places) (entries_sorted places) (λ q n found. (t.named q n (get-entries places q ∙ found)).1)
      ∙ ap (each (λ e. e.0)) (sym (entries_chosen (value_at s) (entries places) (entries_sorted places)))
