-- What is seen on a plan once a write is taken.
use Rattle.std.proofs.Common.{◌≡◌, true, false, List, [], ◌∷◌, ◌++◌, Option, Some, None, is_some, refl, sym, ap, ◌∙◌, inl, inr, ⊎_elim}
use Rattle.std.specs.Prelude.{unwrap_or, not, ◌⊎◌}
use Rattle.std.specs.List.{All}
use Rattle.std.proofs.lemmas.List.Elements.{All-head, All-tail}
use Rattle.dc_conf.specs.Plans.{leaves}
use Rattle.dc_item.specs.After.{after_at}
use Rattle.dc_item.specs.declared.op.After.TheVariants.{Gone}
use Rattle.dc_store.specs.Plans.{StoreState, look, look_below, look_after, seen_after, write}
use Rattle.dc_store.specs.Batches.{Write, AreDistinct, is_refused, all_done}
use Rattle.dc_store.specs.StoreLaws.{KeepsApart}
use Rattle.dc_store.proofs.Seen.{taken_seen}
use Rattle.dc_store.proofs.TestLemmas.{look_alike, below_alike, same_items, all_alike, tests_apart, taken_is}

-- ---- among other writes

-- what is seen at the end is what the operation of a write left, or it took away an item that was below itself too
abbrev pub IsLeftBy : StoreState → StoreState → Write → Type 0
IsLeftBy store final w = (look final.layers w.plan w.name ≡ look_after store.layers w.plan w.name w.op)
    ⊎ ((after_at w.op (look store.layers w.plan w.name) ≡ Gone) × (look_below store.layers w.plan w.name ≡ look store.layers w.plan w.name))

-- a write on another item leaves what is seen, what is below it, and whether it is refused
record StaysFor (store new : StoreState) (w : Write) : Type 0 where
  pub seen : look new.layers w.plan w.name ≡ look store.layers w.plan w.name
  pub below : look_below new.layers w.plan w.name ≡ look_below store.layers w.plan w.name
  pub test : is_refused new.layers w ≡ is_refused store.layers w

stays_by : (store : StoreState) (v w : Write) → AreDistinct v w → (o : Option StoreState) → write store v.plan v.name v.kind v.op ≡ o → StaysFor store (unwrap_or o store) w
stays_by store v w distinct None e = record { seen = refl; below = refl; test = refl }
stays_by store v w distinct (Some new) e = record {
  seen = sym (look_alike store.layers new.layers w.name w.kind (leaves w.plan) (same_items store.layers new.layers w.name w.kind w.plan (all_alike store new v w distinct e)));
  below = sym (below_alike store.layers new.layers w.name w.kind (leaves w.plan) (same_items store.layers new.layers w.name w.kind w.plan (all_alike store new v w distinct e)));
  test = tests_apart store new v w distinct e;
}

stays : (store : StoreState) (v w : Write) → AreDistinct v w → StaysFor store (unwrap_or (write store v.plan v.name v.kind v.op) store) w
stays store v w distinct = stays_by store v w distinct (write store v.plan v.name v.kind v.op) refl

-- a row of writes on other items leaves what is seen
pub row_stays : (store : StoreState) (batch : List Write) (w : Write) → All (λ v. AreDistinct v w) batch → look (all_done store batch).layers w.plan w.name ≡ look store.layers w.plan w.name
row_stays store [] w all = refl
row_stays store (v ∷ batch) w all =
    row_stays (unwrap_or (write store v.plan v.name v.kind v.op) store) batch w (All-tail (λ v. AreDistinct v w) v batch all)
    ∙ (stays store v w (All-head (λ v. AreDistinct v w) v batch all)).seen

taken_there : (store : StoreState) (w : Write) → KeepsApart w.plan → is_refused store.layers w ≡ false → IsLeftBy store (unwrap_or (write store w.plan w.name w.kind w.op) store) w
taken_there store w apart taken = by_write (write store w.plan w.name w.kind w.op) refl where
  by_write : (o : Option StoreState) → write store w.plan w.name w.kind w.op ≡ o → IsLeftBy store (unwrap_or o store) w
  by_write None e = let bad : true ≡ false = sym (ap not (sym (taken_is store w.plan w.name w.kind w.op) ∙ ap is_some e)) ∙ taken in cc
  by_write (Some new) e = taken_seen store new w.plan w.name w.kind w.op apart e

left_later : (store new final : StoreState) (w : Write) → StaysFor store new w → IsLeftBy new final w → IsLeftBy store final w
left_later store new final w same left =
    ⊎_elim (λ seen. inl (seen ∙ (λ i. seen_after (same.seen i) (same.below i) (after_at w.op (same.seen i)))))
    (λ itself. inr (ap (after_at w.op) (sym same.seen) ∙ itself.0, sym same.below ∙ itself.1 ∙ same.seen)) left

-- a write that isn't refused, among others that are on other items
pub row_seen : (store : StoreState) (before rest : List Write) (w : Write) → KeepsApart w.plan → is_refused store.layers w ≡ false → All (λ v. AreDistinct v w) before → All (λ v. AreDistinct v w) rest
    → IsLeftBy store (all_done store (before ++ w ∷ rest)) w
row_seen store [] rest w apart taken earlier later =
    ⊎_elim (λ seen. inl (row_stays (unwrap_or (write store w.plan w.name w.kind w.op) store) rest w later ∙ seen)) (λ itself. inr itself) (taken_there store w apart taken)
row_seen store (v ∷ before) rest w apart taken earlier later =
    let same = stays store v w (All-head (λ v. AreDistinct v w) v before earlier) in
    left_later store (unwrap_or (write store v.plan v.name v.kind v.op) store) (all_done store (v ∷ before ++ w ∷ rest)) w same
    (row_seen (unwrap_or (write store v.plan v.name v.kind v.op) store) before rest w apart (same.test ∙ taken) (All-tail (λ v. AreDistinct v w) v before earlier) later)
