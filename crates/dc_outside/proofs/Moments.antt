-- What crashes leave from step to step.
use Rattle.std.proofs.Common.{◌≡◌, ◌⊎◌, inl, inr, ⊎_elim, ℕ, ◌≤◌, Bool, true, false, cond, List, [], ◌∷◌, ◌++◌, Option, None, Some, refl, sym, ap, subst, ◌∙◌, drop, arith, length-append}
use Rattle.std.proofs.lemmas.List.{drop-append-le}
use Rattle.std.proofs.Math.Seq.{drop-length}
use Rattle.std.specs.Prelude.{unwrap_or}
use Rattle.std.specs.Cmp.Lexicographic.{nat_list_cmp_total}
use Rattle.std.specs.FinMap as map
use Rattle.std.specs.FinMap.{get-empty, get-insert, get-remove, get-retain_keys, same_map}
use Rattle.dc_text.specs.Maps.{Texts}
use Rattle.dc_text.proofs.MapLemmas.{exact_texts}
use Rattle.dc_outside.specs.Disk.{File, CrashOutcome, OneOf, Anything, DiskState, Disk, outcome_at, Among, Allows, MayLeave, IsDurable, IsSound, HasLeft, moment, Left, MayLeaveMore, HasLeftMore, then_stands, with_entry, renamed, either, with_outcome, open_at, durable_at, with_rename, with_removal, is_anything, moved_outcome, names_durable}
use Rattle.dc_outside.proofs.DiskLemmas.{same, same-true, same_refl, get-with_entry, get-here, get-renamed}

-- ---- time

pub has_left_push : (past : List DiskState) (last : DiskState) (path : List ℕ) (entry : Option File) → HasLeft (past ++ last ∷ []) path entry → HasLeft past path entry ⊎ MayLeave last path entry
has_left_push [] last path entry (inl now) = inr now
has_left_push [] last path entry (inr none) = absurd none
has_left_push (first ∷ past) last path entry (inl now) = inl (inl now)
has_left_push (first ∷ past) last path entry (inr more) = ⊎_elim (λ l. inl (inr l)) (λ r. inr r) (has_left_push past last path entry more)

-- what a crash would have left by the next moment
pub left_then : (disk : Disk) (current : DiskState) (since : ℕ) (path : List ℕ) (entry : Option File) → since ≤ moment disk → Left (then_stands disk current) since path entry → Left disk since path entry ⊎ MayLeave current path entry
left_then disk current since path entry le (inl had) =
    inl (has_left_push (drop since disk.past) disk.current path entry (subst (λ (l : List DiskState). HasLeft l path entry) (drop-append-le since disk.past (disk.current ∷ []) le) had))
left_then disk current since path entry le (inr now) = inr now

module _ (more : List ℕ → Option File → Type 0) where
  pub none_more : (disk : Disk) → HasLeftMore more disk disk
  none_more disk = record { later = omega arith; at_most = λ since path entry le left. inl left }

  -- one moment more, at which a crash may leave at most that
  pub more_then : (old mid : Disk) (current : DiskState) → HasLeftMore more old mid → MayLeaveMore more old.current current → HasLeftMore more old (then_stands mid current)
  more_then old mid current so_far here = record {
    later = omega (arith, so_far.later, length-append mid.past (mid.current ∷ []));
    at_most = λ since path entry le left. ⊎_elim (so_far.at_most since path entry le) (λ now. ⊎_elim (λ l. inl (inr l)) (λ r. inr r) (here path entry now))
        (left_then mid current since path entry (omega (arith, le, so_far.later)) left);
  }

pub more_more : (first second both : List ℕ → Option File → Type 0) → ((path : List ℕ) (entry : Option File) → first path entry → both path entry) → ((path : List ℕ) (entry : Option File) → second path entry → both path entry)
    → (old mid new : Disk) → HasLeftMore first old mid → HasLeftMore second mid new → HasLeftMore both old new
more_more first second both one other old mid new a b = record {
  later = omega (arith, a.later, b.later);
  at_most = λ since path entry le left. ⊎_elim (λ l. ⊎_elim (λ f. inl f) (λ r. inr (one path entry r)) (a.at_most since path entry le l)) (λ r. inr (other path entry r)) (b.at_most since path entry (omega (arith, le, a.later)) left);
}

-- ---- what a crash may leave after each change

pub among_one : (one entry : Option File) → Among (one ∷ []) entry → entry ≡ one
among_one one entry (inl e) = e
among_one one entry (inr none) = absurd none

among_append : (xs ys : List (Option File)) (entry : Option File) → Among (xs ++ ys) entry → Among xs entry ⊎ Among ys entry
among_append [] ys entry a = inr a
among_append (x ∷ xs) ys entry (inl e) = inl (inl e)
among_append (x ∷ xs) ys entry (inr a) = ⊎_elim (λ l. inl (inr l)) (λ r. inr r) (among_append xs ys entry a)

among_left : (xs ys : List (Option File)) (entry : Option File) → Among xs entry → Among (xs ++ ys) entry
among_left [] ys entry none = absurd none
among_left (x ∷ xs) ys entry (inl e) = inl e
among_left (x ∷ xs) ys entry (inr a) = inr (among_left xs ys entry a)

among_right : (xs ys : List (Option File)) (entry : Option File) → Among ys entry → Among (xs ++ ys) entry
among_right [] ys entry a = a
among_right (x ∷ xs) ys entry a = inr (among_right xs ys entry a)

allows_either : (one other : CrashOutcome) (entry : Option File) → Allows (either one other) entry → Allows one entry ⊎ Allows other entry
allows_either (OneOf xs) (OneOf ys) entry a = among_append xs ys entry a
allows_either (OneOf xs) Anything entry a = inr a
allows_either Anything other entry a = inl a

either_left : (one other : CrashOutcome) (entry : Option File) → Allows one entry → Allows (either one other) entry
either_left (OneOf xs) (OneOf ys) entry a = among_left xs ys entry a
either_left (OneOf xs) Anything entry a = tt
either_left Anything other entry a = tt

either_right : (one other : CrashOutcome) (entry : Option File) → Allows other entry → Allows (either one other) entry
either_right (OneOf xs) (OneOf ys) entry a = among_right xs ys entry a
either_right (OneOf xs) Anything entry a = tt
either_right Anything other entry a = tt

cond_out : {A : Type 0} (P : A → Type 0) (b : Bool) (x y : A) → P (cond b x y) → (b ≡ true) × P x ⊎ (b ≡ false) × P y
cond_out P true x y p = inl (refl, p)
cond_out P false x y p = inr (refl, p)

-- the outcome at each path
outcome_open : (current : DiskState) (path : List ℕ) (entry : Option File) (q : List ℕ) → outcome_at (open_at current path entry) q ≡ cond (same q path) Anything (outcome_at current q)
outcome_open current path entry q =
    ap (λ o. unwrap_or o (OneOf (map.get (with_entry current.files path entry) q ∷ []))) (get-insert nat_list_cmp_total current.pending path Anything q)
    ∙ ap (λ f. unwrap_or (cond (same q path) (Some Anything) (map.get current.pending q)) (OneOf (f ∷ []))) (get-with_entry current.files path entry q)
    ∙ elim (same q path) as (λ b. unwrap_or (cond b (Some Anything) (map.get current.pending q)) (OneOf (cond b entry (map.get current.files q) ∷ [])) ≡ cond b Anything (outcome_at current q)) [ true ↦ refl | false ↦ refl ]

outcome_settled : (current : DiskState) (path q : List ℕ) → outcome_at (durable_at current path) q ≡ cond (same q path) (OneOf (map.get current.files q ∷ [])) (outcome_at current q)
outcome_settled current path q =
    ap (λ o. unwrap_or o (OneOf (map.get current.files q ∷ []))) (get-remove nat_list_cmp_total current.pending path q)
    ∙ elim (same q path) as (λ b. unwrap_or (cond b None (map.get current.pending q)) (OneOf (map.get current.files q ∷ [])) ≡ cond b (OneOf (map.get current.files q ∷ [])) (outcome_at current q)) [ true ↦ refl | false ↦ refl ]

outcome_with : (current : DiskState) (path : List ℕ) (outcome : CrashOutcome) (q : List ℕ) → outcome_at (with_outcome current path outcome) q ≡ cond (same q path) (either (outcome_at current path) outcome) (outcome_at current q)
outcome_with current path outcome q =
    ap (λ o. unwrap_or o (OneOf (map.get current.files q ∷ []))) (get-insert nat_list_cmp_total current.pending path (either (outcome_at current path) outcome) q)
    ∙ elim (same q path) as (λ b. unwrap_or (cond b (Some (either (outcome_at current path) outcome)) (map.get current.pending q)) (OneOf (map.get current.files q ∷ [])) ≡ cond b (either (outcome_at current path) outcome) (outcome_at current q)) [ true ↦ refl | false ↦ refl ]

outcome_renamed : (current : DiskState) (from to q : List ℕ) → outcome_at (record (with_rename current from to) { files = renamed current.files from to }) q ≡ outcome_at (with_rename current from to) q
outcome_renamed current from to q =
    let first : CrashOutcome = either (outcome_at current to) (moved_outcome current from) in
    let mid : DiskState = with_outcome current to (moved_outcome current from) in
    let second : CrashOutcome = either (outcome_at mid from) (OneOf (None ∷ [])) in
    let at : map.get (with_rename current from to).pending q ≡ cond (same q from) (Some second) (cond (same q to) (Some first) (map.get current.pending q)) =
    get-insert nat_list_cmp_total mid.pending from second q ∙ ap (cond (same q from) (Some second)) (get-insert nat_list_cmp_total current.pending to first q) in
    ap (λ o. unwrap_or o (OneOf (map.get (renamed current.files from to) q ∷ []))) at
    ∙ ap (λ f. unwrap_or (cond (same q from) (Some second) (cond (same q to) (Some first) (map.get current.pending q))) (OneOf (f ∷ []))) (get-renamed current.files from to q)
    ∙ elim (same q from) as (λ b. unwrap_or (cond b (Some second) (cond (same q to) (Some first) (map.get current.pending q))) (OneOf (cond (same q to) (map.get current.files from) (cond b None (map.get current.files q)) ∷ []))
    ≡ unwrap_or (cond b (Some second) (cond (same q to) (Some first) (map.get current.pending q))) (OneOf (map.get current.files q ∷ []))) [
      | true ↦ refl
      | false ↦ elim (same q to) as (λ b. unwrap_or (cond b (Some first) (map.get current.pending q)) (OneOf (cond b (map.get current.files from) (map.get current.files q) ∷ [])) ≡ unwrap_or (cond b (Some first) (map.get current.pending q)) (OneOf (map.get current.files q ∷ []))) [ true ↦ refl | false ↦ refl ]
    ]
    ∙ ap (λ o. unwrap_or o (OneOf (map.get current.files q ∷ []))) (sym at)

outcome_removed : (current : DiskState) (path q : List ℕ) → outcome_at (record (with_removal current path) { files = map.remove current.files path }) q ≡ outcome_at (with_removal current path) q
outcome_removed current path q =
    let now : CrashOutcome = either (outcome_at current path) (OneOf (None ∷ [])) in
    let at : map.get (with_removal current path).pending q ≡ cond (same q path) (Some now) (map.get current.pending q) = get-insert nat_list_cmp_total current.pending path now q in
    ap (λ o. unwrap_or o (OneOf (map.get (map.remove current.files path) q ∷ []))) at
    ∙ ap (λ f. unwrap_or (cond (same q path) (Some now) (map.get current.pending q)) (OneOf (f ∷ []))) (get-remove nat_list_cmp_total current.files path q)
    ∙ elim (same q path) as (λ b. unwrap_or (cond b (Some now) (map.get current.pending q)) (OneOf (cond b None (map.get current.files q) ∷ [])) ≡ unwrap_or (cond b (Some now) (map.get current.pending q)) (OneOf (map.get current.files q ∷ []))) [ true ↦ refl | false ↦ refl ]
    ∙ ap (λ o. unwrap_or o (OneOf (map.get current.files q ∷ []))) (sym at)

kept_open : Option CrashOutcome → CrashOutcome → CrashOutcome
kept_open (Some Anything) other = Anything
kept_open (Some (OneOf entries)) other = other
kept_open None other = other

outcome_names : (current : DiskState) (q : List ℕ) → outcome_at (names_durable current) q ≡ kept_open (map.get current.pending q) (OneOf (map.get current.files q ∷ []))
unfolding kept_open
outcome_names current q =
    ap (λ o. unwrap_or o (OneOf (map.get current.files q ∷ []))) (get-retain_keys current.pending (λ path. is_anything (map.get current.pending path)) q (λ x e. ap (λ p. is_anything (map.get current.pending p)) (sym (exact_texts q x e))))
    ∙ elim (map.get current.pending q) as (λ o. unwrap_or (cond (is_anything o) o None) (OneOf (map.get current.files q ∷ [])) ≡ kept_open o (OneOf (map.get current.files q ∷ []))) [
      | None ↦ refl
      | Some outcome ↦ elim outcome as (λ o. unwrap_or (cond (is_anything (Some o)) (Some o) None) (OneOf (map.get current.files q ∷ [])) ≡ kept_open (Some o) (OneOf (map.get current.files q ∷ []))) [ OneOf entries ↦ refl | Anything ↦ refl ]
    ]

-- ---- what stands may be left

-- where nothing is kept as pending nothing is
pub at_rest : (current : DiskState) → current.pending ≡ map.empty → IsDurable current
at_rest current none =
    let here : (path : List ℕ) → outcome_at current path ≡ OneOf (map.get current.files path ∷ []) =
    λ path. ap (λ o. unwrap_or o (OneOf (map.get current.files path ∷ []))) (ap (λ (p : Texts CrashOutcome). map.get p path) none ∙ get-empty _ path) in
    record {
      sound = λ path. subst (λ (o : CrashOutcome). Allows o (map.get current.files path)) (sym (here path)) (inl refl);
      alone = λ path entry left. among_one (map.get current.files path) entry (subst (λ (o : CrashOutcome). Allows o entry) (here path) left);
    }

pub sound_open : (current : DiskState) (path : List ℕ) (entry : Option File) → IsSound current → IsSound (open_at current path entry)
sound_open current path entry sound q =
    subst (λ (o : CrashOutcome). Allows o (map.get (with_entry current.files path entry) q)) (sym (outcome_open current path entry q))
    (subst (λ (f : Option File). Allows (cond (same q path) Anything (outcome_at current q)) f) (sym (get-with_entry current.files path entry q))
    (elim (same q path) as (λ b. Allows (cond b Anything (outcome_at current q)) (cond b entry (map.get current.files q))) [ true ↦ tt | false ↦ sound q ]))

pub sound_settled : (current : DiskState) (path : List ℕ) → IsSound current → IsSound (durable_at current path)
sound_settled current path sound q = subst (λ (o : CrashOutcome). Allows o (map.get current.files q)) (sym (outcome_settled current path q))
    (elim (same q path) as (λ b. Allows (cond b (OneOf (map.get current.files q ∷ [])) (outcome_at current q)) (map.get current.files q)) [ true ↦ inl refl | false ↦ sound q ])

pub sound_with : (current : DiskState) (path : List ℕ) (outcome : CrashOutcome) → IsSound current → IsSound (with_outcome current path outcome)
sound_with current path outcome sound q = subst (λ (o : CrashOutcome). Allows o (map.get current.files q)) (sym (outcome_with current path outcome q))
    (elim (same q path) as (λ b. same q path ≡ b → Allows (cond b (either (outcome_at current path) outcome) (outcome_at current q)) (map.get current.files q)) [
      | true ↦ λ e. either_left (outcome_at current path) outcome (map.get current.files q) (subst (λ (p : List ℕ). Allows (outcome_at current p) (map.get current.files q)) (same-true q path e) (sound q))
      | false ↦ λ e. sound q
    ] refl)

pub moved_allows : (current : DiskState) (from : List ℕ) → Allows (moved_outcome current from) (map.get current.files from)
moved_allows current from = elim (is_anything (map.get current.pending from)) as (λ b. Allows (cond b Anything (OneOf (map.get current.files from ∷ []))) (map.get current.files from)) [ true ↦ tt | false ↦ inl refl ]

pub sound_renamed : (current : DiskState) (from to : List ℕ) → IsSound current → IsSound (record (with_rename current from to) { files = renamed current.files from to })
sound_renamed current from to sound q =
    let first : CrashOutcome = either (outcome_at current to) (moved_outcome current from) in
    let mid : DiskState = with_outcome current to (moved_outcome current from) in
    subst (λ (o : CrashOutcome). Allows o (map.get (renamed current.files from to) q)) (sym (outcome_renamed current from to q ∙ outcome_with mid from (OneOf (None ∷ [])) q ∙ ap (cond (same q from) (either (outcome_at mid from) (OneOf (None ∷ [])))) (outcome_with current to (moved_outcome current from) q)))
    (subst (λ (f : Option File). Allows (cond (same q from) (either (outcome_at mid from) (OneOf (None ∷ []))) (cond (same q to) first (outcome_at current q))) f) (sym (get-renamed current.files from to q))
    (elim (same q from) as (λ b. Allows (cond b (either (outcome_at mid from) (OneOf (None ∷ []))) (cond (same q to) first (outcome_at current q))) (cond (same q to) (map.get current.files from) (cond b None (map.get current.files q)))) [
      | true ↦ elim (same q to) as (λ b. Allows (either (outcome_at mid from) (OneOf (None ∷ []))) (cond b (map.get current.files from) None)) [
        | true ↦ either_left (outcome_at mid from) (OneOf (None ∷ [])) (map.get current.files from) (sound_with current to (moved_outcome current from) sound from)
        | false ↦ either_right (outcome_at mid from) (OneOf (None ∷ [])) None (inl refl)
      ]
      | false ↦ elim (same q to) as (λ b. Allows (cond b first (outcome_at current q)) (cond b (map.get current.files from) (map.get current.files q))) [
        | true ↦ either_right (outcome_at current to) (moved_outcome current from) (map.get current.files from) (moved_allows current from)
        | false ↦ sound q
      ]
    ]))

pub sound_removed : (current : DiskState) (path : List ℕ) → IsSound current → IsSound (record (with_removal current path) { files = map.remove current.files path })
sound_removed current path sound q =
    let now : CrashOutcome = either (outcome_at current path) (OneOf (None ∷ [])) in
    subst (λ (o : CrashOutcome). Allows o (map.get (map.remove current.files path) q)) (sym (outcome_removed current path q ∙ outcome_with current path (OneOf (None ∷ [])) q))
    (subst (λ (f : Option File). Allows (cond (same q path) now (outcome_at current q)) f) (sym (get-remove nat_list_cmp_total current.files path q))
    (elim (same q path) as (λ b. Allows (cond b now (outcome_at current q)) (cond b None (map.get current.files q))) [ true ↦ either_right (outcome_at current path) (OneOf (None ∷ [])) None (inl refl) | false ↦ sound q ]))

pub sound_names : (current : DiskState) → IsSound current → IsSound (names_durable current)
unfolding kept_open
sound_names current sound q = subst (λ (o : CrashOutcome). Allows o (map.get current.files q)) (sym (outcome_names current q))
    (elim (map.get current.pending q) as (λ o. Allows (kept_open o (OneOf (map.get current.files q ∷ []))) (map.get current.files q)) [
      | None ↦ inl refl
      | Some outcome ↦ elim outcome as (λ o. Allows (kept_open (Some o) (OneOf (map.get current.files q ∷ []))) (map.get current.files q)) [ OneOf entries ↦ inl refl | Anything ↦ tt ]
    ])

-- ---- at most this more

module _ (more : List ℕ → Option File → Type 0) (old : DiskState) where
  pub same_more : MayLeaveMore more old old
  same_more path entry left = inl left

  pub open_more : (current : DiskState) (path : List ℕ) (entry : Option File) → ((e : Option File) → more path e) → MayLeaveMore more old current → MayLeaveMore more old (open_at current path entry)
  open_more current path entry any within q e left =
      ⊎_elim (λ here. inr (subst (λ (p : List ℕ). more p e) (sym (same-true q path here.0)) (any e))) (λ there. within q e there.1)
      (cond_out (λ (o : CrashOutcome). Allows o e) (same q path) Anything (outcome_at current q) (subst (λ (o : CrashOutcome). Allows o e) (outcome_open current path entry q) left))

  pub settled_more : (current : DiskState) (path : List ℕ) → ((e : Option File) → more path e) → MayLeaveMore more old current → MayLeaveMore more old (durable_at current path)
  settled_more current path any within q e left =
      ⊎_elim (λ here. inr (subst (λ (p : List ℕ). more p e) (sym (same-true q path here.0)) (any e))) (λ there. within q e there.1)
      (cond_out (λ (o : CrashOutcome). Allows o e) (same q path) (OneOf (map.get current.files q ∷ [])) (outcome_at current q) (subst (λ (o : CrashOutcome). Allows o e) (outcome_settled current path q) left))

  pub with_more : (current : DiskState) (path : List ℕ) (outcome : CrashOutcome) → ((e : Option File) → Allows outcome e → MayLeave old path e ⊎ more path e) → MayLeaveMore more old current → MayLeaveMore more old (with_outcome current path outcome)
  with_more current path outcome here within q e left =
      ⊎_elim (λ is. subst (λ (p : List ℕ). MayLeave old p e ⊎ more p e) (sym (same-true q path is.0)) (⊎_elim (within path e) (here e) (allows_either (outcome_at current path) outcome e is.1))) (λ there. within q e there.1)
      (cond_out (λ (o : CrashOutcome). Allows o e) (same q path) (either (outcome_at current path) outcome) (outcome_at current q) (subst (λ (o : CrashOutcome). Allows o e) (outcome_with current path outcome q) left))

  pub rename_more : (current : DiskState) (from to : List ℕ) → ((e : Option File) → Allows (moved_outcome current from) e → MayLeave old to e ⊎ more to e) → ((e : Option File) → more from e) → MayLeaveMore more old current → MayLeaveMore more old (with_rename current from to)
  rename_more current from to moved any within = with_more (with_outcome current to (moved_outcome current from)) from (OneOf (None ∷ [])) (λ e left. inr (any e)) (with_more current to (moved_outcome current from) moved within)

  pub renamed_more : (current : DiskState) (from to : List ℕ) → ((e : Option File) → Allows (moved_outcome current from) e → MayLeave old to e ⊎ more to e) → ((e : Option File) → more from e) → MayLeaveMore more old current → MayLeaveMore more old (record (with_rename current from to) { files = renamed current.files from to })
  renamed_more current from to moved any within q e left = rename_more current from to moved any within q e (subst (λ (o : CrashOutcome). Allows o e) (outcome_renamed current from to q) left)

  pub removal_more : (current : DiskState) (path : List ℕ) → more path None → MayLeaveMore more old current → MayLeaveMore more old (with_removal current path)
  removal_more current path gone within = with_more current path (OneOf (None ∷ [])) (λ e left. inr (subst (λ (f : Option File). more path f) (sym (among_one None e left)) gone)) within

  pub removed_more : (current : DiskState) (path : List ℕ) → more path None → MayLeaveMore more old current → MayLeaveMore more old (record (with_removal current path) { files = map.remove current.files path })
  removed_more current path gone within q e left = removal_more current path gone within q e (subst (λ (o : CrashOutcome). Allows o e) (outcome_removed current path q) left)

  pub names_more : (current : DiskState) → IsSound current → MayLeaveMore more old current → MayLeaveMore more old (names_durable current)
  unfolding kept_open
  names_more current sound within q e left =
      elim (map.get current.pending q) as (λ o. map.get current.pending q ≡ o → Allows (kept_open o (OneOf (map.get current.files q ∷ []))) e → MayLeave old q e ⊎ more q e) [
        | None ↦ λ is now. within q e (subst (λ (f : Option File). MayLeave current q f) (sym (among_one (map.get current.files q) e now)) (sound q))
        | Some outcome ↦ elim outcome as (λ o. map.get current.pending q ≡ Some o → Allows (kept_open (Some o) (OneOf (map.get current.files q ∷ []))) e → MayLeave old q e ⊎ more q e) [
          | OneOf entries ↦ λ is now. within q e (subst (λ (f : Option File). MayLeave current q f) (sym (among_one (map.get current.files q) e now)) (sound q))
          | Anything ↦ λ is now. within q e (subst (λ (o : Option CrashOutcome). Allows (unwrap_or o (OneOf (map.get current.files q ∷ []))) e) (sym is) tt)
        ]
      ] refl (subst (λ (o : CrashOutcome). Allows o e) (outcome_names current q) left)

-- a crash leaves the file that was written and synced
pub outcome_written : (current : DiskState) (path : List ℕ) (file : File) → outcome_at (durable_at (open_at current path (Some file)) path) path ≡ OneOf (Some file ∷ [])
outcome_written current path file = outcome_settled (open_at current path (Some file)) path path
    ∙ ap (λ b. cond b (OneOf (map.get (with_entry current.files path (Some file)) path ∷ [])) (outcome_at (open_at current path (Some file)) path)) (same_refl path)
    ∙ ap (λ f. OneOf (f ∷ [])) (get-here current.files path (Some file))

pub moved_written : (current : DiskState) (path : List ℕ) (file : File) → moved_outcome (durable_at (open_at current path (Some file)) path) path ≡ OneOf (Some file ∷ [])
moved_written current path file =
    let entry : Option File = map.get (with_entry current.files path (Some file)) path in
    ap (λ o. cond (is_anything o) Anything (OneOf (entry ∷ []))) (get-remove nat_list_cmp_total (map.insert current.pending path Anything) path path ∙ ap (λ b. cond b None (map.get (map.insert current.pending path Anything) path)) (same_refl path))
    ∙ ap (λ f. OneOf (f ∷ [])) (get-here current.files path (Some file))

-- ---- all is settled again

pub NoneOpen : DiskState → Type 0
NoneOpen current = (path : List ℕ) → is_anything (map.get current.pending path) ≡ false

none_both : (there : Option File) → None ≡ there → Some (record { bytes = []; mode = 0 }) ≡ there → ⊥
none_both there none some = absurd (cc)

pub none_open : (current : DiskState) → IsDurable current → NoneOpen current
unfolding NoneOpen
none_open current durable path =
    let ends : Allows (outcome_at current path) None → Allows (outcome_at current path) (Some (record { bytes = []; mode = 0 })) → ⊥ =
    λ none some. none_both (map.get current.files path) (durable.alone path None none) (durable.alone path (Some (record { bytes = []; mode = 0 })) some) in
    elim (map.get current.pending path) as (λ o. (Allows (unwrap_or o (OneOf (map.get current.files path ∷ []))) None → Allows (unwrap_or o (OneOf (map.get current.files path ∷ []))) (Some (record { bytes = []; mode = 0 })) → ⊥) → is_anything o ≡ false) [
      | None ↦ λ e. refl
      | Some outcome ↦ elim outcome as (λ o. (Allows o None → Allows o (Some (record { bytes = []; mode = 0 })) → ⊥) → is_anything (Some o) ≡ false) [ OneOf entries ↦ λ e. refl | Anything ↦ λ e. absurd (e tt tt) ]
    ] ends

pub none_written : (current : DiskState) (path : List ℕ) (entry : Option File) → NoneOpen current → NoneOpen (durable_at (open_at current path entry) path)
unfolding NoneOpen
none_written current path entry none q =
    ap is_anything (get-remove nat_list_cmp_total (map.insert current.pending path Anything) path q ∙ ap (cond (same q path) None) (get-insert nat_list_cmp_total current.pending path Anything q))
    ∙ elim (same q path) as (λ b. is_anything (cond b None (cond b (Some Anything) (map.get current.pending q))) ≡ false) [ true ↦ refl | false ↦ none q ]

open_outcome : (current : DiskState) (path : List ℕ) → NoneOpen current → is_anything (Some (outcome_at current path)) ≡ false
unfolding NoneOpen
open_outcome current path none = elim (map.get current.pending path) as (λ o. is_anything o ≡ false → is_anything (Some (unwrap_or o (OneOf (map.get current.files path ∷ [])))) ≡ false) [ None ↦ λ e. refl | Some outcome ↦ λ e. e ] (none path)

either_none : (one other : CrashOutcome) → is_anything (Some one) ≡ false → is_anything (Some other) ≡ false → is_anything (Some (either one other)) ≡ false
either_none (OneOf xs) (OneOf ys) a b = refl
either_none (OneOf xs) Anything a b = b
either_none Anything other a b = a

pub none_with : (current : DiskState) (path : List ℕ) (outcome : CrashOutcome) → is_anything (Some outcome) ≡ false → NoneOpen current → NoneOpen (with_outcome current path outcome)
unfolding NoneOpen
none_with current path outcome one none q = ap is_anything (get-insert nat_list_cmp_total current.pending path (either (outcome_at current path) outcome) q)
    ∙ elim (same q path) as (λ b. is_anything (cond b (Some (either (outcome_at current path) outcome)) (map.get current.pending q)) ≡ false) [ true ↦ either_none (outcome_at current path) outcome (open_outcome current path none) one | false ↦ none q ]

moved_none : (current : DiskState) (from : List ℕ) → NoneOpen current → is_anything (Some (moved_outcome current from)) ≡ false
unfolding NoneOpen
moved_none current from none = ap (λ b. is_anything (Some (cond b Anything (OneOf (map.get current.files from ∷ []))))) (none from)

pub none_renamed : (current : DiskState) (from to : List ℕ) → NoneOpen current → NoneOpen (record (with_rename current from to) { files = renamed current.files from to })
unfolding NoneOpen
none_renamed current from to none = none_with (with_outcome current to (moved_outcome current from)) from (OneOf (None ∷ [])) refl (none_with current to (moved_outcome current from) (moved_none current from none) none)

pub none_removed : (current : DiskState) (path : List ℕ) → NoneOpen current → NoneOpen (record (with_removal current path) { files = map.remove current.files path })
unfolding NoneOpen
none_removed current path none = none_with current path (OneOf (None ∷ [])) refl none

pub none_pending : (current : DiskState) → NoneOpen current → (names_durable current).pending ≡ map.empty
unfolding NoneOpen
none_pending current none = same_map nat_list_cmp_total exact_texts _ _ (λ q.
    get-retain_keys current.pending (λ path. is_anything (map.get current.pending path)) q (λ x e. ap (λ p. is_anything (map.get current.pending p)) (sym (exact_texts q x e)))
    ∙ ap (λ b. cond b (map.get current.pending q) None) (none q)
    ∙ sym (get-empty _ q))

-- from now on a crash leaves what it may leave now
pub left_now : (disk : Disk) (path : List ℕ) (entry : Option File) → Left disk (moment disk) path entry → MayLeave disk.current path entry
left_now disk path entry (inl had) = absurd (subst (λ (l : List DiskState). HasLeft l path entry) (drop-length disk.past) had)
left_now disk path entry (inr now) = now
