-- What a copy leaves.
use Rattle.std.proofs.Common.{◌≡◌, ◌≤◌, ℕ, ◌-◌, zero, suc, get_or, take, drop, true, List, [], ◌∷◌, Option, Some, None, refl, sym, ap, subst, ◌∙◌, inr, arith}
use Rattle.std.specs.Prelude.{◌<◌, length, slice_index_or, option_and_then, unwrap_or, if◌then◌else◌}
use Rattle.std.specs.List.{Contains, filter_map, cons_option}
use Rattle.std.proofs.lemmas.List.{take_all, length-drop}
use Rattle.std.proofs.lemmas.List.Elements.{All-nil, All-cons}
use Rattle.dc_conf.specs.Plans.{are_disjoint}
use Rattle.dc_item.specs.Item.{ItemParts, no_parts}
use Rattle.dc_item.specs.declared.op.Op.TheVariants.{Put}
use Rattle.dc_layer.specs.State.{LayerState}
use Rattle.dc_store.specs.Batches.{Write, AreDistinct, names_of, commit, write_done}
use Rattle.dc_store.specs.Plans.{StoreState, stored, look}
use Rattle.dc_store.specs.StoreLaws.{AreSameBut, AreSameButAll, IsSameStoreBut, IsSameStoreButAll}
use Rattle.dc_store.proofs.Frames.{same_layers}
use Rattle.dc_store.proofs.RowLemmas.{row_of_one}
use Rattle.dc_store.proofs.TakenLemmas.{row_stays}
use Rattle.dc_question.proofs.ApartLemmas.{apart_too}
use Rattle.dc_tools.specs.Copying.{Copying, CopyState, is_chosen, chosen_at, copy_write, with_written, after_copy, after_copies}

-- ---- frames

pub same_store : (n : List ℕ) (store : StoreState) → IsSameStoreBut n store store
same_store n store = record { others = same_layers n store.layers; count = refl }

pub kept_store : (n : List ℕ) (store new : StoreState) → new ≡ store → IsSameStoreBut n store new
kept_store n store new e = subst (IsSameStoreBut n store) (sym e) (same_store n store)

only_one : (n other : List ℕ) → Contains (n ∷ []) other → other ≡ n
only_one n other in' = by_place in'.0 in'.1 in'.2 where
  by_place : (k : ℕ) → k < 1 → slice_index_or (n ∷ []) k other ≡ other → other ≡ n
  by_place zero h e = sym e
  by_place (suc k) h e = absurd (omega arith)

same_of_one : (n : List ℕ) (xs ys : List LayerState) → AreSameButAll (n ∷ []) xs ys → AreSameBut n xs ys
same_of_one n [] [] s = tt
same_of_one n [] (y ∷ ys) s = absurd s
same_of_one n (x ∷ xs) [] s = absurd s
same_of_one n (x ∷ xs) (y ∷ ys) s = (
  record {
    sort = s.0.sort;
    spec = s.0.spec;
    left_out = s.0.left_out;
    text = s.0.text;
    items = λ other apart. s.0.items other (λ in'. apart (only_one n other in'));
  },
  same_of_one n xs ys s.1,
)

pub frame_of_one : (n : List ℕ) (old new : StoreState) → IsSameStoreButAll (n ∷ []) old new → IsSameStoreBut n old new
frame_of_one n old new s = record { others = same_of_one n old.layers new.layers s.others; count = s.count }

-- of a row of one write
pub frame_of_copy : (w : Write) (batch : List Write) (old new : StoreState) → batch ≡ w ∷ [] → IsSameStoreButAll (names_of batch) old new → IsSameStoreBut w.name old new
frame_of_copy w batch old new is s = frame_of_one w.name old new (subst (λ ws. IsSameStoreButAll (names_of ws) old new) is s)

-- ---- one item

-- a row of one write, as it was committed
pub write_is : (store : StoreState) (w : Write) (batch : List Write) (o : Option StoreState) → batch ≡ w ∷ [] → commit store batch ≡ o → write_done store w ≡ o
write_is store w batch o is e = sym (row_of_one store w) ∙ ap (commit store) (sym is) ∙ e

-- ---- the source stays

-- the layers are those that the write left, or as they were
pub layers_left : (at : CopyState) (n : List ℕ) (o : Option StoreState) → (with_written at n o).layers ≡ (unwrap_or o (stored at.layers [])).layers
layers_left at n None = refl
layers_left at n (Some new) = refl

-- what is seen on other items stays
pub others_seen : (copy : Copying) (at : CopyState) (entry : List ℕ × ItemParts) (w : Write) → AreDistinct (copy_write at.layers copy entry) w
    → look (after_copy copy at entry).layers w.plan w.name ≡ look at.layers w.plan w.name
others_seen copy at entry w distinct =
    let v : Write = copy_write at.layers copy entry in
    let store : StoreState = stored at.layers [] in
    ap (λ layers. look layers w.plan w.name) (layers_left at entry.0 (write_done store v))
    ∙ row_stays store (v ∷ []) w (All-cons (λ u. AreDistinct u w) v [] distinct (All-nil (λ u. AreDistinct u w)))

-- what is seen in the source stays
pub source_stays : (copy : Copying) (at : CopyState) (entry : List ℕ × ItemParts) (n : List ℕ) → are_disjoint copy.source copy.dest ≡ true
    → look (after_copy copy at entry).layers copy.source n ≡ look at.layers copy.source n
source_stays copy at entry n apart =
    others_seen copy at entry (record { plan = copy.source; name = n; kind = None; op = Put no_parts; reported_for = [] }) (inr (apart_too copy.source copy.dest apart))

-- and so does what is chosen of it
pub chosen_stays : (copy : Copying) (at : CopyState) (entry : List ℕ × ItemParts) (ns : List (List ℕ)) → are_disjoint copy.source copy.dest ≡ true
    → filter_map (chosen_at (after_copy copy at entry).layers copy) ns ≡ filter_map (chosen_at at.layers copy) ns
chosen_stays copy at entry [] apart = refl
chosen_stays copy at entry (n ∷ ns) apart =
    ap (λ o. cons_option (option_and_then (λ item. if is_chosen copy n item then Some (n, item) else None) o) (filter_map (chosen_at (after_copy copy at entry).layers copy) ns))
    (source_stays copy at entry n apart)
    ∙ ap (cons_option (chosen_at at.layers copy n)) (chosen_stays copy at entry ns apart)

-- ---- one name after the other

next_by : (copy : Copying) (at : CopyState) (ns : List (List ℕ)) (o : Option (List ℕ × ItemParts)) → are_disjoint copy.source copy.dest ≡ true
    → after_copies copy (after_copies copy at (cons_option o [])) (filter_map (chosen_at (after_copies copy at (cons_option o [])).layers copy) ns)
    ≡ after_copies copy at (cons_option o (filter_map (chosen_at at.layers copy) ns))
next_by copy at ns None apart = refl
next_by copy at ns (Some e) apart = ap (after_copies copy (after_copy copy at e)) (chosen_stays copy at e ns apart)

-- the names from the first on, copied as they are chosen
pub next : (copy : Copying) (at new : CopyState) (n : List ℕ) (ns : List (List ℕ)) → are_disjoint copy.source copy.dest ≡ true
    → new ≡ after_copies copy at (filter_map (chosen_at at.layers copy) (n ∷ []))
    → after_copies copy new (filter_map (chosen_at new.layers copy) ns) ≡ after_copies copy at (filter_map (chosen_at at.layers copy) (n ∷ ns))
next copy at new n ns apart e =
    ap (λ (s : CopyState). after_copies copy s (filter_map (chosen_at s.layers copy) ns)) e ∙ next_by copy at ns (chosen_at at.layers copy n) apart

-- ---- the names that are left

-- what is left once the first of the names is copied
turn_by : (copy : Copying) (at new final : CopyState) (rs : List (List ℕ)) (x : List ℕ) → are_disjoint copy.source copy.dest ≡ true → 1 ≤ length rs → x ≡ get_or rs 0 x
    → new ≡ after_copies copy at (filter_map (chosen_at at.layers copy) (x ∷ [])) → after_copies copy at (filter_map (chosen_at at.layers copy) rs) ≡ final
    → after_copies copy new (filter_map (chosen_at new.layers copy) (drop 1 rs)) ≡ final
turn_by copy at new final [] x apart some is did left = absurd (omega (arith, some))
turn_by copy at new final (r ∷ rs) x apart some is did left =
    next copy at new r rs apart (did ∙ ap (λ y. after_copies copy at (filter_map (chosen_at at.layers copy) (y ∷ []))) is) ∙ left

-- the names but the first, as a pattern on slices gives them
rest_is : (rs : List (List ℕ)) → take (length rs - 1) (drop 1 rs) ≡ drop 1 rs
rest_is rs = take_all (length rs - 1) (drop 1 rs) (omega (arith, length-drop 1 rs))

-- the same of those
pub turn : (copy : Copying) (at new final : CopyState) (rs : List (List ℕ)) (x : List ℕ) → are_disjoint copy.source copy.dest ≡ true → 1 ≤ length rs → x ≡ get_or rs 0 x
    → new ≡ after_copies copy at (filter_map (chosen_at at.layers copy) (x ∷ [])) → after_copies copy at (filter_map (chosen_at at.layers copy) rs) ≡ final
    → after_copies copy new (filter_map (chosen_at new.layers copy) (take (length rs - 1) (drop 1 rs))) ≡ final
turn copy at new final rs x apart some is did left =
    ap (λ ns. after_copies copy new (filter_map (chosen_at new.layers copy) ns)) (rest_is rs) ∙ turn_by copy at new final rs x apart some is did left

-- the first of the names is one of them
pub first_among : (rs : List (List ℕ)) (x : List ℕ) → 1 ≤ length rs → x ≡ get_or rs 0 x → Contains rs x
first_among rs x some is = (0, omega (arith, some), sym is)

among_by : (rs : List (List ℕ)) (name : List ℕ) → Contains (drop 1 rs) name → Contains rs name
among_by [] name in' = in'
among_by (r ∷ rs) name in' = (suc in'.0, omega (arith, in'.1), in'.2)

-- and so are the rest
pub rest_among : (rs : List (List ℕ)) (name : List ℕ) → Contains (take (length rs - 1) (drop 1 rs)) name → Contains rs name
rest_among rs name in' = among_by rs name (subst (λ ns. Contains ns name) (rest_is rs) in')
