-- Where an item lands that is put, and where the writes of a row do.
use Rattle.std.proofs.Common.{◌≡◌, ◌<◌, ℕ, suc, ◌+◌, Bool, true, false, not, length, List, [], ◌∷◌, ◌++◌, Option, Some, None, is_some, refl, sym, ap, subst, ◌∙◌, ⊎_elim, inl, inr, arith}
use Rattle.std.specs.Prelude.{◌⊎◌, ◌||◌, slice_get, option_and_then, if◌then◌else◌, MatchOption, IfSome}
use Rattle.std.specs.List.{All, list_any}
use Rattle.std.proofs.lemmas.List.{append_assoc}
use Rattle.std.proofs.Math.ListN.{drop, get_or}
use Rattle.std.proofs.Math.Seq.{drop-cons}
use Rattle.std.proofs.lemmas.List.Elements.{All-head, All-tail, All-from_get_or}
use Rattle.dc_conf.specs.Plans.{leaves}
use Rattle.dc_item.specs.Item.{ItemParts}
use Rattle.dc_item.specs.declared.op.Op.TheVariants.{Put}
use Rattle.dc_template.specs.declared.kinds.Kind.{Kind}
use Rattle.dc_layer.specs.State.{LayerState, with_made, made_at, refusal}
use Rattle.dc_store.specs.Holders.{holder_of}
use Rattle.dc_store.specs.Targets.{LandsAt, IsTarget, AreTargets}
use Rattle.dc_store.specs.Plans.{StoreState, stored, write, would_take}
use Rattle.dc_store.specs.Batches.{Write, AreDistinct, AllDistinct, is_refused}
use Rattle.dc_store.specs.declared.batch.Target.{Target}
use Rattle.dc_store.specs.declared.batch.Target.TheVariants.{Nowhere, Anywhere, At}
use Rattle.dc_store.specs.Writes.{is_writable_at, writable_holder, copy_target, put_target, change_at}
use Rattle.dc_store.proofs.Searches.{open_holder_within, open_holder_taken, home_within, home_taken, put_is}
use Rattle.dc_store.proofs.Plain.{plain_lands}
use Rattle.dc_store.proofs.TestLemmas.{all_alike, landing_alike, leaves_alike, tests_apart}

module _ (ls : List LayerState) (ps n : List ℕ) (k : Option Kind) (p : ℕ) where
  -- home, where there is no holder, or to the holder
  cases : put_target ls ps n k ≡ Some p → ((None ≡ holder_of ls ps n) × (Some p ≡ copy_target ls ps n k)) ⊎ (Some p ≡ writable_holder ls ps n)
  cases h = by_holder (holder_of ls ps n) refl h where
    by_holder : (o : Option ℕ) → o ≡ holder_of ls ps n → (if is_some o then writable_holder ls ps n else copy_target ls ps n k) ≡ Some p
        → ((None ≡ holder_of ls ps n) × (Some p ≡ copy_target ls ps n k)) ⊎ (Some p ≡ writable_holder ls ps n)
    by_holder None e h = inl (e, sym h)
    by_holder (Some q) e h = inr (sym h)

  pub landed_within : (P : ℕ → Type 0) → All P ps → put_target ls ps n k ≡ Some p → P p
  landed_within P all h = ⊎_elim (λ up. home_within P ls ps n k p all (sym up.1)) (λ held. open_holder_within P ls ps n p all held) (cases h)

  pub landed_taken : (item : ItemParts) → put_target ls ps n k ≡ Some p → (layer : LayerState) → slice_get ls p ≡ Some layer → refusal layer n (Put item) ≡ None
  landed_taken item h = ⊎_elim (λ up. home_taken ls ps n k p item up.1) (λ held. open_holder_taken ls ps n p (Put item) held) (cases h)

-- without a holder
pub landing_home : (ls : List LayerState) (ps n : List ℕ) (k : Option Kind) → None ≡ holder_of ls ps n → copy_target ls ps n k ≡ put_target ls ps n k
landing_home ls ps n k h = ap (λ o. if is_some o then writable_holder ls ps n else copy_target ls ps n k) h

-- with one
pub landing_held : (ls : List LayerState) (ps n : List ℕ) (k : Option Kind) (p : ℕ) → Some p ≡ holder_of ls ps n → (if is_writable_at ls p then Some p else None) ≡ put_target ls ps n k
landing_held ls ps n k p h =
    ap (option_and_then (λ q. if is_writable_at ls q then Some q else None)) h ∙ ap (λ o. if is_some o then writable_holder ls ps n else copy_target ls ps n k) h

-- ---- the writes of a row

no_landings : (ls : List LayerState) (batch : List Write) → AreTargets ls batch []
no_landings ls [] = tt
no_landings ls (w ∷ batch) = tt

-- the write of an item that lands, on a plan of databases and stacks alone
pub lands_as : (store : StoreState) (w : Write) (p : ℕ) → LandsAt store.layers w p → (item : ItemParts) → w.op ≡ Put item → (new : List LayerState)
    → new ≡ change_at store.layers p (λ layer. with_made layer w.name (made_at layer w.name (Put item))) → write store w.plan w.name w.kind w.op ≡ Some (stored new store.told)
lands_as store w p at item is new made =
    ap (write store w.plan w.name w.kind) is ∙ (plain_lands store w.name w.kind w.plan p item at.plain at.stands ∙ ap (λ ls. Some (stored ls store.told)) (sym made))

-- a write that isn't refused would be taken
pub would_be_taken : (ls : List LayerState) (w : Write) → is_refused ls w ≡ false → would_take ls w.plan w.name w.kind w.op ≡ true
would_be_taken ls w h = by_test (would_take ls w.plan w.name w.kind w.op) h where
  by_test : (b : Bool) → not b ≡ false → b ≡ true
  by_test true h = refl
  by_test false h = cc

-- a write that lands somewhere isn't refused
pub lands_taken : (ls : List LayerState) (w : Write) (p : ℕ) → LandsAt ls w p → is_refused ls w ≡ false
lands_taken ls w p at =
    let put = put_is w.op at.puts in
    ap (λ o. not (is_some o)) (lands_as (stored ls []) w p at put.0 put.1 (change_at ls p (λ layer. with_made layer w.name (made_at layer w.name (Put put.0)))) refl)

-- a write with a target isn't refused
pub target_taken : (ls : List LayerState) (w : Write) (l : Target) → (l ≡ Nowhere → ⊥) → IsTarget ls w l → is_refused ls w ≡ false
target_taken ls w Nowhere d h = absurd (d refl)
target_taken ls w Anywhere d h = h
target_taken ls w (At p) d h = lands_taken ls w p h

-- once another write is done, it lands there still
is_still : (store new : StoreState) (v w : Write) (l : Target) → AreDistinct v w → write store v.plan v.name v.kind v.op ≡ Some new → IsTarget store.layers w l → IsTarget new.layers w l
is_still store new v w Nowhere distinct did h = tests_apart store new v w distinct did ∙ h
is_still store new v w Anywhere distinct did h = tests_apart store new v w distinct did ∙ h
is_still store new v w (At p) distinct did h = record {
  puts = h.puts;
  plain = h.plain;
  stands = sym (landing_alike store.layers new.layers w.name w.kind (leaves w.plan) (leaves_alike store.layers new.layers w.name w.kind w.plan (all_alike store new v w distinct did))) ∙ h.stands;
}

are_still : (store new : StoreState) (v : Write) (batch : List Write) (targets : List Target) → All (AreDistinct v) batch → write store v.plan v.name v.kind v.op ≡ Some new
    → AreTargets store.layers batch targets → AreTargets new.layers batch targets
are_still store new v [] targets all did h = tt
are_still store new v (w ∷ batch) [] all did h = tt
are_still store new v (w ∷ batch) (l ∷ targets) all did h = (
  is_still store new v w l (All-head (AreDistinct v) w batch all) did h.0,
  are_still store new v batch targets (All-tail (AreDistinct v) w batch all) did h.1,
)

-- once the first is done, the rest land where they did
pub rest_landings : (w : Write) (batch : List Write) (targets : List Target) (store new : StoreState) → AllDistinct (w ∷ batch) → write store w.plan w.name w.kind w.op ≡ Some new
    → AreTargets store.layers batch targets → AreTargets new.layers batch targets
rest_landings w batch targets store new distinct did h =
    are_still store new w batch targets (All-from_get_or (AreDistinct w) batch w (λ k within. distinct 0 (suc k) w (omega arith) (omega arith))) did h

-- the landing of the first, if it is told, and those of the rest
pub first_landing : (ls : List LayerState) (w : Write) (batch : List Write) (targets rest : List Target) (l : Option Target) → MatchOption l ((targets ≡ []) × (rest ≡ [])) (λ first. targets ≡ first ∷ rest)
    → AreTargets ls (w ∷ batch) targets → IfSome l (IsTarget ls w) × AreTargets ls batch rest
first_landing ls w batch targets rest None is h = (tt, subst (AreTargets ls batch) (sym is.1) (no_landings ls batch))
first_landing ls w batch targets rest (Some l) is h = subst (AreTargets ls (w ∷ batch)) is h

-- ---- one write more is tested, and it has a target

module _ (ls : List LayerState) (batch : List Write) (i : ℕ) (w : Write) (l : Target) (within : i < length batch) (here : w ≡ get_or batch i w) where
  next_parts : drop i batch ≡ w ∷ drop (i + 1) batch
  next_parts = drop-cons batch i w within ∙ (λ j. sym here j ∷ drop (one j) batch) where
    one : suc i ≡ i + 1
    one = omega arith

  pub next_tests : (l ≡ Nowhere → ⊥) → IsTarget ls w l → list_any (is_refused ls) batch ≡ list_any (is_refused ls) (drop i batch) → list_any (is_refused ls) batch ≡ list_any (is_refused ls) (drop (i + 1) batch)
  next_tests d at h = h ∙ (ap (list_any (is_refused ls)) next_parts ∙ ap (λ b. b || list_any (is_refused ls) (drop (i + 1) batch)) (target_taken ls w l d at))

  pub next_targets : (targets next : List Target) → IsTarget ls w l → next ≡ targets ++ l ∷ [] → ((more : List Target) → AreTargets ls (drop i batch) more → AreTargets ls batch (targets ++ more))
      → (more : List Target) → AreTargets ls (drop (i + 1) batch) more → AreTargets ls batch (next ++ more)
  next_targets targets next at pushed h more rest =
      subst (AreTargets ls batch) (sym (ap (λ ts. ts ++ more) pushed ∙ append_assoc targets (l ∷ []) more))
      (h (l ∷ more) (subst (λ ws. AreTargets ls ws (l ∷ more)) (sym next_parts) (at, rest)))
