-- What is seen of the questions once an owner is purged.
use Rattle.std.proofs.Common.{◌≡◌, ◌≢◌, ℕ, Bool, true, false, cond, not, List, [], ◌∷◌, ◌++◌, Option, Some, None, Ok, is_some, map as each, refl, sym, ap, ◌∙◌, inl, inr, ⊎_elim}
use Rattle.std.specs.Prelude.{◌||◌, if◌then◌else◌}
use Rattle.std.specs.List.{All, AllByRecursion, filter, list_any}
use Rattle.std.specs.Ordering.{eq_by_cmp}
use Rattle.std.specs.FinMap.{contains_key, keys, get, get-retain_keys}
use Rattle.std.specs.Cmp.Lexicographic.{nat_list_cmp_total}
use Rattle.std.proofs.lemmas.Cmp.{eq_by_cmp_equiv}
use Rattle.std.proofs.lemmas.List.Elements.{All-nil, All-cons, All-append, All-map, All-weaker, All-from_recursion}
use Rattle.dc_text.specs.Bytes.{is_nil}
use Rattle.dc_text.specs.Maps.{TextSet, set_of, text_cmp, AreDistinct as AllDiffer}
use Rattle.dc_text.proofs.MapLemmas.{exact_texts}
use Rattle.dc_item.specs.Item.{ItemParts}
use Rattle.dc_item.specs.After.{after_at, asked, parts_eq, without}
use Rattle.dc_item.specs.declared.op.After.TheVariants.{Same, Changed, Gone}
use Rattle.dc_item.specs.declared.op.Op.TheVariants.{DropOwners}
use Rattle.dc_item.proofs.AfterLemmas.{parts_eq-Decides}
use Rattle.dc_item.proofs.ItemLemmas.{contains_key-set_of}
use Rattle.dc_conf.specs.Plans.{are_disjoint}
use Rattle.dc_store.specs.Plans.{StoreState, look, look_below, seen_after, is_owned, owned}
use Rattle.dc_store.specs.Batches.{Write, AreDistinct, is_refused, all_done}
use Rattle.dc_store.specs.StoreLaws.{KeepsApart}
use Rattle.dc_store.proofs.ListingLemmas.{is_in, same_text, owned_listed}
use Rattle.dc_store.proofs.TakenLemmas.{row_stays, row_seen}
use Rattle.dc_question.specs.Ownership.{template_write, write_beside, losers, lost_by, losses, leave_batch, purged}
use Rattle.dc_question.specs.Questions.{QuestionContext}
use Rattle.dc_question.proofs.ApartLemmas.{apart_too}
use Rattle.dc_question.proofs.LeaveLemmas.{owned_differ}
use Rattle.dc_question.proofs.RefusalLemmas.{row_taken}

-- ---- one name among several

-- the name parts the list
record PartsAt (n : List ℕ) (ks : List (List ℕ)) : Type 0 where
  pub higher : List (List ℕ)
  pub lower : List (List ℕ)
  pub stands : ks ≡ higher ++ n ∷ lower
  pub above : All (λ k. k ≢ n) higher
  pub below : All (λ k. k ≢ n) lower

parts_by : (b : Bool) (n k : List ℕ) (ks : List (List ℕ)) → eq_by_cmp text_cmp n k ≡ b → AllByRecursion (λ other. other ≢ k) ks → (b || is_in n ks) ≡ true → (is_in n ks ≡ true → PartsAt n ks)
    → PartsAt n (k ∷ ks)
parts_by true n k ks t d h rest =
    let same : n ≡ k = same_text n k t in
    record {
      higher = [];
      lower = ks;
      stands = ap (λ x. x ∷ ks) (sym same);
      above = All-nil (λ k. k ≢ n);
      below = All-weaker (λ other. other ≢ k) (λ other. other ≢ n) (λ other ne e. ne (e ∙ same)) ks (All-from_recursion (λ other. other ≢ k) ks d);
    }
parts_by false n k ks t d h rest =
    let r = rest h in
    record {
      higher = k ∷ r.higher;
      lower = r.lower;
      stands = ap (λ l. k ∷ l) r.stands;
      above = All-cons (λ k. k ≢ n) k r.higher (λ e. clash (sym t ∙ ap (eq_by_cmp text_cmp n) e ∙ itself)) r.above;
      below = r.below;
    } where
      itself : eq_by_cmp text_cmp n n ≡ true
      itself = (eq_by_cmp_equiv nat_list_cmp_total).refl n

      clash : false ≡ true → ⊥
      clash e = cc

parts : (n : List ℕ) (ks : List (List ℕ)) → AllDiffer ks → is_in n ks ≡ true → PartsAt n ks
parts n [] d h = cc
parts n (k ∷ ks) d h = parts_by (eq_by_cmp text_cmp n k) n k ks refl d.0 h (λ h. parts n ks d.1 h)

-- ---- an owner that is taken away

without_it : (s : TextSet) (o : List ℕ) → contains_key (without s (o ∷ [])) o ≡ false
without_it s o =
    ap is_some (get-retain_keys s (λ owner. not (contains_key (set_of (o ∷ [])) owner)) o (λ x t. ap (λ owner. not (contains_key (set_of (o ∷ [])) owner)) (sym (exact_texts o x t)))
    ∙ ap (λ b. cond (not b) (get s o) None) (contains_key-set_of (o ∷ []) o ∙ ap (λ b. b || false) ((eq_by_cmp_equiv nat_list_cmp_total).refl o)))

dropped_by : (o : List ℕ) (parts : ItemParts) (below : Option ItemParts) (same gone : Bool) → parts_eq (asked (DropOwners (o ∷ [])) parts) parts ≡ same
    → is_owned o (seen_after (Some parts) below (if same then Same else if gone then Gone else Changed (asked (DropOwners (o ∷ [])) parts))) ≡ true → is_owned o below ≡ true
dropped_by o parts below true gone e h = absurd (clash (sym (without_it parts.owners o) ∙ ap (λ (p : ItemParts). contains_key p.owners o) ((parts_eq-Decides (asked (DropOwners (o ∷ [])) parts) parts).0 e) ∙ h)) where
  clash : false ≡ true → ⊥
  clash e = cc
dropped_by o parts below false true e h = h
dropped_by o parts below false false e h = absurd (clash (sym (without_it parts.owners o) ∙ h)) where
  clash : false ≡ true → ⊥
  clash e = cc

-- what is seen then has the owner only where it was below
dropped : (o : List ℕ) (item below : Option ItemParts) → is_owned o (seen_after item below (after_at (DropOwners (o ∷ [])) item)) ≡ true → is_owned o below ≡ true
dropped o None below h = absurd (cc)
dropped o (Some parts) below h =
    dropped_by o parts below (parts_eq (asked (DropOwners (o ∷ [])) parts) parts) (is_nil (keys (asked (DropOwners (o ∷ [])) parts).owners)) refl h

-- ---- the row

passes : (has : List ℕ → Bool) (ks : List (List ℕ)) → All (λ k. has k ≡ true) (filter has ks)
passes has [] = All-nil (λ k. has k ≡ true)
passes has (k ∷ ks) = elim (has k) as (λ b. has k ≡ b → All (λ k. has k ≡ true) (cond b (k ∷ filter has ks) (filter has ks))) [
  | true ↦ λ e. All-cons (λ k. has k ≡ true) k (filter has ks) e (passes has ks)
  | false ↦ λ e. passes has ks
] refl

each_parts : (f : List ℕ → Write) (higher lower : List (List ℕ)) (n : List ℕ) (rest : List Write) → each f (higher ++ n ∷ lower) ++ rest ≡ each f higher ++ f n ∷ (each f lower ++ rest)
each_parts f [] lower n rest = refl
each_parts f (k ∷ higher) lower n rest = ap (λ l. f k ∷ l) (each_parts f higher lower n rest)

free_there : (p : Write → Bool) (before rest : List Write) (w : Write) → list_any p (before ++ w ∷ rest) ≡ false → p w ≡ false
free_there p [] rest w h = (or_false (p w) (list_any p rest) h).0 where
  or_false : (a b : Bool) → (a || b) ≡ false → (a ≡ false) × (b ≡ false)
  or_false true b e = cc
  or_false false b e = (refl, e)
free_there p (v ∷ before) rest w h = free_there p before rest w ((or_false (p v) (list_any p (before ++ w ∷ rest)) h).1) where
  or_false : (a b : Bool) → (a || b) ≡ false → (a ≡ false) × (b ≡ false)
  or_false true b e = cc
  or_false false b e = (refl, e)

module _ (store : StoreState) (at : QuestionContext) (owner name : List ℕ) (disjoint : are_disjoint at.config at.templates ≡ true) (alone : KeepsApart at.config) where
  abbrev names : List (List ℕ)
  names = owned store.layers at.config owner

  abbrev lost : List Write
  lost = losses store.layers at owner names

  abbrev own : List ℕ → Write
  own n = write_beside store.layers at lost n (DropOwners (owner ∷ []))

  own_apart : (ks : List (List ℕ)) → All (λ k. k ≢ name) ks → All (λ v. AreDistinct v (own name)) (each own ks)
  own_apart ks all = All-map (λ v. AreDistinct v (own name)) own ks (All-weaker (λ k. k ≢ name) (λ k. AreDistinct (own k) (own name)) (λ k ne. inl ne) ks all)

  lost_apart : All (λ v. AreDistinct v (own name)) lost
  lost_apart =
      All-map (λ v. AreDistinct v (own name)) (λ t. template_write store.layers at t (DropOwners (lost_by store.layers at owner names t)) (lost_by store.layers at owner names t))
      (losers store.layers at owner names) (λ i e b. inr (apart_too at.config at.templates disjoint))

  rest_apart : (ks : List (List ℕ)) → All (λ k. k ≢ name) ks → All (λ v. AreDistinct v (own name)) (each own ks ++ lost)
  rest_apart ks all = All-append (λ v. AreDistinct v (own name)) (each own ks) lost (own_apart ks all) lost_apart

  -- the item had the owner
  had : is_owned owner (look store.layers at.config name) ≡ true → list_any (is_refused store.layers) (each own names ++ lost) ≡ false
      → is_owned owner (look (all_done store (each own names ++ lost)).layers at.config name) ≡ true → is_owned owner (look_below store.layers at.config name) ≡ true
  had has free seen =
      let p = parts name names (owned_differ store.layers at owner) (owned_listed store.layers at.config owner name has) in
      let batch : each own names ++ lost ≡ each own p.higher ++ own name ∷ (each own p.lower ++ lost) = ap (λ ks. each own ks ++ lost) p.stands ∙ each_parts own p.higher p.lower name lost in
      let taken = free_there (is_refused store.layers) (each own p.higher) (each own p.lower ++ lost) (own name) (ap (list_any (is_refused store.layers)) (sym batch) ∙ free) in
      let then' = ap (λ r. is_owned owner (look (all_done store r).layers at.config name)) (sym batch) ∙ seen in
      ⊎_elim (λ left. dropped owner (look store.layers at.config name) (look_below store.layers at.config name) (ap (is_owned owner) (sym left) ∙ then'))
      (λ itself. ap (is_owned owner) itself.1 ∙ has)
      (row_seen store (each own p.higher) (each own p.lower ++ lost) (own name) alone taken (own_apart p.higher p.above) (rest_apart p.lower p.below))

  -- it hadn't
  had_not : is_owned owner (look store.layers at.config name) ≡ false → is_owned owner (look (all_done store (each own names ++ lost)).layers at.config name) ≡ false
  had_not none =
      ap (is_owned owner)
      (row_stays store (each own names ++ lost) (own name)
      (rest_apart names (All-weaker (λ k. is_owned owner (look store.layers at.config k) ≡ true) (λ k. k ≢ name)
      (λ k has e. clash (sym none ∙ ap (λ n. is_owned owner (look store.layers at.config n)) (sym e) ∙ has)) names
      (passes (λ k. is_owned owner (look store.layers at.config k)) _))))
      ∙ none where
        clash : false ≡ true → ⊥
        clash e = cc

  either : (b : Bool) → is_owned owner (look store.layers at.config name) ≡ b → list_any (is_refused store.layers) (each own names ++ lost) ≡ false
      → is_owned owner (look (all_done store (each own names ++ lost)).layers at.config name) ≡ true → is_owned owner (look_below store.layers at.config name) ≡ true
  either true has free seen = had has free seen
  either false none free seen = absurd (clash (sym (had_not none) ∙ seen)) where
    clash : false ≡ true → ⊥
    clash e = cc

  pub purged_below : (new : StoreState) → purged store at owner ≡ Ok new → is_owned owner (look new.layers at.config name) ≡ true → is_owned owner (look_below store.layers at.config name) ≡ true
  purged_below new h seen =
      let done = row_taken store names (leave_batch store.layers at owner names) new h in
      either (is_owned owner (look store.layers at.config name)) refl done.0 (ap (λ (s : StoreState). is_owned owner (look s.layers at.config name)) (sym done.1) ∙ seen)
