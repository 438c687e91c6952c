-- What is seen of a copy.
use Rattle.std.proofs.Common.{◌≡◌, ◌≢◌, ℕ, zero, suc, not, is_some, Bool, true, false, List, [], ◌∷◌, Option, Some, None, map as each, refl, sym, ap, ◌∙◌, inl, inr, ⊎_elim}
use Rattle.std.specs.Prelude.{◌&&◌, slice_get, option_map, option_and_then, if◌then◌else◌, codes}
use Rattle.std.specs.List.{AllByRecursion, filter_map, cons_option}
use Rattle.std.specs.Option.{option_map_or}
use Rattle.std.specs.FinMap as map
use Rattle.std.proofs.lemmas.List.Elements.{All-nil}
use Rattle.dc_text.specs.Bytes.{is_nil}
use Rattle.dc_text.specs.Lines.{text_of}
use Rattle.dc_text.specs.Maps.{AreDistinct as AllDiffer}
use Rattle.dc_conf.specs.Plans.{are_disjoint}
use Rattle.dc_conf.specs.Trees.{Tree, Leaf}
use Rattle.dc_item.specs.After.{after_at, parts_eq, drops_owners}
use Rattle.dc_item.specs.Item.{ItemParts, no_parts}
use Rattle.dc_item.specs.declared.op.Op.TheVariants.{Put}
use Rattle.dc_item.specs.declared.op.After.TheVariants.{Same, Changed, Gone}
use Rattle.dc_item.proofs.AfterLemmas.{parts_eq-Decides}
use Rattle.dc_item.proofs.PrintedLines.{keys_apart}
use Rattle.dc_layer.specs.State.{LayerState, is_writable, admits}
use Rattle.dc_template.specs.declared.kinds.Kind.{Kind}
use Rattle.dc_store.specs.Batches.{Write, AreDistinct, is_refused, write_done}
use Rattle.dc_store.specs.Holders.{has_at, item_at}
use Rattle.dc_store.specs.Plans.{StoreState, stored, write, look, look_below, seen_after, names}
use Rattle.dc_store.specs.StoreLaws.{AreSameBut, KeepsApart}
use Rattle.dc_store.specs.Writes.{is_writable_at, takes_at, is_open_at, put_at}
use Rattle.dc_store.proofs.LeafLemmas.{leaf_open}
use Rattle.dc_store.proofs.SameLemmas.{writable_same, admits_same}
use Rattle.dc_store.proofs.TakenLemmas.{row_seen}
use Rattle.dc_store.proofs.Walks.{plan_keeps}
use Rattle.dc_question.specs.Questions.{QuestionContext}
use Rattle.dc_question.specs.Readings.{template_of}
use Rattle.dc_question.proofs.ApartLemmas.{apart_too}
use Rattle.dc_tools.specs.Copying.{Copying, CopyState, IsCopied, IsOpen, is_chosen, chosen_at, chosen, copy_write, with_written, after_copy, after_copies, so_far, first_report}
use Rattle.dc_tools.specs.Showing.{item_line, line_of, show_text_of}
use Rattle.dc_tools.specs.declared.report.CopyReport.{CopyReport}
use Rattle.dc_tools.proofs.CopyLemmas.{layers_left, others_seen}

-- ---- what a put leaves

put_by : (item parts : ItemParts) (below : Option ItemParts) (b : Bool) → parts_eq item parts ≡ b
    → seen_after (Some parts) below (if b then Same else if drops_owners (Put item) && is_nil (map.keys item.owners) then Gone else Changed item) ≡ Some item
put_by item parts below true e = ap Some (sym ((parts_eq-Decides item parts).0 e))
put_by item parts below false e = refl

put_left : (item : ItemParts) (o below : Option ItemParts) → seen_after o below (after_at (Put item) o) ≡ Some item
put_left item None below = refl
put_left item (Some parts) below = put_by item parts below (parts_eq item parts) refl

stays_by : (item : ItemParts) (b : Bool) → (if b then Same else if drops_owners (Put item) && is_nil (map.keys item.owners) then Gone else Changed item) ≡ Gone → ⊥
stays_by item true e = cc
stays_by item false e = cc

put_stays : (item : ItemParts) (o : Option ItemParts) → after_at (Put item) o ≡ Gone → ⊥
put_stays item None e = cc
put_stays item (Some parts) e = stays_by item (parts_eq item parts) e

-- ---- one copy

-- where nothing is refused that far, the item isn't, and none was before
free_by : (at : CopyState) (n : List ℕ) (o : Option StoreState) → (with_written at n o).report.refused ≡ false → (not (is_some o) ≡ false) × (at.report.refused ≡ false)
free_by at n None e = cc
free_by at n (Some new) e = (refl, e)

module _ (copy : Copying) where
  -- a write that looks at a name in a plan
  abbrev at_name : Tree → List ℕ → Write
  at_name plan n = record { plan = plan; name = n; kind = None; op = Put no_parts; reported_for = [] }

  -- an item that isn't refused is seen in the destination
  put_seen : (at : CopyState) (e : List ℕ × ItemParts) → KeepsApart copy.dest → is_refused at.layers (copy_write at.layers copy e) ≡ false
      → look (after_copy copy at e).layers copy.dest e.0 ≡ Some e.1
  put_seen at e alone taken =
      let w = copy_write at.layers copy e in
      let store = stored at.layers [] in
      ap (λ layers. look layers copy.dest e.0) (layers_left at e.0 (write_done store w))
      ∙ ⊎_elim (λ left. left ∙ put_left e.1 (look at.layers copy.dest e.0) (look_below at.layers copy.dest e.0))
      (λ gone. absurd (put_stays e.1 (look at.layers copy.dest e.0) gone.0))
      (row_seen store [] [] w alone taken (All-nil (λ v. AreDistinct v w)) (All-nil (λ v. AreDistinct v w)))

  -- ---- all copies

  others_stay : (es : List (List ℕ × ItemParts)) (at : CopyState) (n : List ℕ) → AllByRecursion (λ other. other ≢ n) (each (λ (e : List ℕ × ItemParts). e.0) es)
      → look (after_copies copy at es).layers copy.dest n ≡ look at.layers copy.dest n
  others_stay [] at n d = refl
  others_stay (e ∷ es) at n d = others_stay es (after_copy copy at e) n d.1 ∙ others_seen copy at e (at_name copy.dest n) (inl d.0)

  templates_stay : (es : List (List ℕ × ItemParts)) (at : CopyState) (n : List ℕ) → are_disjoint copy.templates copy.dest ≡ true
      → look (after_copies copy at es).layers copy.templates n ≡ look at.layers copy.templates n
  templates_stay [] at n apart = refl
  templates_stay (e ∷ es) at n apart =
      templates_stay es (after_copy copy at e) n apart ∙ others_seen copy at e (at_name copy.templates n) (inr (apart_too copy.templates copy.dest apart))

  step_free : (at : CopyState) (e : List ℕ × ItemParts) → (after_copy copy at e).report.refused ≡ false
      → (is_refused at.layers (copy_write at.layers copy e) ≡ false) × (at.report.refused ≡ false)
  step_free at e free = free_by at e.0 (write_done (stored at.layers []) (copy_write at.layers copy e)) free

  free_before : (es : List (List ℕ × ItemParts)) (at : CopyState) → (after_copies copy at es).report.refused ≡ false → at.report.refused ≡ false
  free_before [] at free = free
  free_before (e ∷ es) at free = (step_free at e (free_before es (after_copy copy at e) free)).1

  all_there : (es : List (List ℕ × ItemParts)) (at : CopyState) → AllDiffer (each (λ (e : List ℕ × ItemParts). e.0) es) → KeepsApart copy.dest → (after_copies copy at es).report.refused ≡ false
      → AllByRecursion (λ e. look (after_copies copy at es).layers copy.dest e.0 ≡ Some e.1) es
  all_there [] at d alone free = tt
  all_there (e ∷ es) at d alone free =
      let taken = (step_free at e (free_before es (after_copy copy at e) free)).0 in
      (others_stay es (after_copy copy at e) e.0 d.0 ∙ put_seen at e alone taken, all_there es (after_copy copy at e) d.1 alone free)

  -- ---- what is chosen

  module _ (ls : List LayerState) where
    apart_by : (o : Option (List ℕ × ItemParts)) (n : List ℕ) (es : List (List ℕ × ItemParts)) → ((e : List ℕ × ItemParts) → o ≡ Some e → e.0 ≢ n)
        → AllByRecursion (λ other. other ≢ n) (each (λ (e : List ℕ × ItemParts). e.0) es) → AllByRecursion (λ other. other ≢ n) (each (λ (e : List ℕ × ItemParts). e.0) (cons_option o es))
    apart_by None n es ne rest = rest
    apart_by (Some e) n es ne rest = (ne e refl, rest)

    named_by : (n : List ℕ) (o : Option ItemParts) (e : List ℕ × ItemParts) → option_and_then (λ item. if is_chosen copy n item then Some (n, item) else None) o ≡ Some e
        → (e.0 ≡ n) × (o ≡ Some e.1)
    named_by n None e h = absurd (cc)
    named_by n (Some item) e h = by_test (is_chosen copy n item) h where
      by_test : (b : Bool) → (if b then Some (n, item) else None) ≡ Some e → (e.0 ≡ n) × (Some item ≡ Some e.1)
      by_test true h = let same : (n, item) ≡ e = cc in (ap (λ (x : List ℕ × ItemParts). x.0) (sym same), ap (λ (x : List ℕ × ItemParts). Some x.1) same)
      by_test false h = absurd (cc)

    chosen_apart : (n : List ℕ) (ns : List (List ℕ)) → AllByRecursion (λ other. other ≢ n) ns
        → AllByRecursion (λ other. other ≢ n) (each (λ (e : List ℕ × ItemParts). e.0) (filter_map (chosen_at ls copy) ns))
    chosen_apart n [] d = tt
    chosen_apart n (m ∷ ns) d =
        apart_by (chosen_at ls copy m) n (filter_map (chosen_at ls copy) ns) (λ e is same. d.0 (sym (named_by m (look ls copy.source m) e is).0 ∙ same)) (chosen_apart n ns d.1)

    differ_by : (o : Option (List ℕ × ItemParts)) (n : List ℕ) (es : List (List ℕ × ItemParts)) → ((e : List ℕ × ItemParts) → o ≡ Some e → e.0 ≡ n)
        → AllByRecursion (λ other. other ≢ n) (each (λ (e : List ℕ × ItemParts). e.0) es) → AllDiffer (each (λ (e : List ℕ × ItemParts). e.0) es)
        → AllDiffer (each (λ (e : List ℕ × ItemParts). e.0) (cons_option o es))
    differ_by None n es named d rest = rest
    differ_by (Some e) n es named d rest = (along n e.0 (named e refl) es d, rest) where
      along : (n m : List ℕ) → m ≡ n → (xs : List (List ℕ × ItemParts)) → AllByRecursion (λ other. other ≢ n) (each (λ (e : List ℕ × ItemParts). e.0) xs)
          → AllByRecursion (λ other. other ≢ m) (each (λ (e : List ℕ × ItemParts). e.0) xs)
      along n m same [] d = tt
      along n m same (x ∷ xs) d = (λ e. d.0 (e ∙ same), along n m same xs d.1)

    chosen_differ : (ns : List (List ℕ)) → AllDiffer ns → AllDiffer (each (λ (e : List ℕ × ItemParts). e.0) (filter_map (chosen_at ls copy) ns))
    chosen_differ [] d = tt
    chosen_differ (n ∷ ns) d =
        differ_by (chosen_at ls copy n) n (filter_map (chosen_at ls copy) ns) (λ e is. (named_by n (look ls copy.source n) e is).0) (chosen_apart n ns d.0) (chosen_differ ns d.1)

    seen_by : (o : Option (List ℕ × ItemParts)) (es : List (List ℕ × ItemParts)) → ((e : List ℕ × ItemParts) → o ≡ Some e → look ls copy.source e.0 ≡ Some e.1)
        → AllByRecursion (λ e. look ls copy.source e.0 ≡ Some e.1) es → AllByRecursion (λ e. look ls copy.source e.0 ≡ Some e.1) (cons_option o es)
    seen_by None es seen rest = rest
    seen_by (Some e) es seen rest = (seen e refl, rest)

    -- what is chosen is seen in the source
    chosen_seen : (ns : List (List ℕ)) → AllByRecursion (λ e. look ls copy.source e.0 ≡ Some e.1) (filter_map (chosen_at ls copy) ns)
    chosen_seen [] = tt
    chosen_seen (n ∷ ns) =
        seen_by (chosen_at ls copy n) (filter_map (chosen_at ls copy) ns)
        (λ e is. let both = named_by n (look ls copy.source n) e is in ap (look ls copy.source) both.0 ∙ both.1) (chosen_seen ns)

-- ---- the laws

-- what isn't refused is seen in the destination
pub copies_there : (copy : Copying) (old new : StoreState) (report : CopyReport) → IsCopied copy old new report → report.refused ≡ false → KeepsApart copy.dest
    → AllByRecursion (λ e. look new.layers copy.dest e.0 ≡ Some e.1) (chosen old.layers copy)
copies_there copy old new report h free alone =
    let start = so_far old (first_report old.told) in
    let final = after_copies copy start (chosen old.layers copy) in
    along new.layers final.layers (ap (λ (s : CopyState). s.layers) h.copied) (chosen old.layers copy)
    (all_there copy (chosen old.layers copy) start (chosen_differ copy old.layers (names old.layers copy.source) (keys_apart _)) alone
    (sym (ap (λ (s : CopyState). s.report.refused) h.copied) ∙ free)) where
      along : (a b : List LayerState) → a ≡ b → (es : List (List ℕ × ItemParts)) → AllByRecursion (λ e. look b copy.dest e.0 ≡ Some e.1) es
          → AllByRecursion (λ e. look a copy.dest e.0 ≡ Some e.1) es
      along a b same [] all = tt
      along a b same (e ∷ es) all = (ap (λ layers. look layers copy.dest e.0) same ∙ all.0, along a b same es all.1)

template_same : (f g : List ℕ → Option ItemParts) (o : Option (List ℕ)) → ((n : List ℕ) → f n ≡ g n) → option_and_then f o ≡ option_and_then g o
template_same f g None same = refl
template_same f g (Some n) same = same n

lines_same : (new old : List LayerState) (to from : QuestionContext) (es : List (List ℕ × ItemParts)) → to.lang ≡ from.lang
    → ((n : List ℕ) → look new to.templates n ≡ look old from.templates n)
    → AllByRecursion (λ e. look new to.config e.0 ≡ Some e.1) es → AllByRecursion (λ e. look old from.config e.0 ≡ Some e.1) es
    → filter_map (line_of new to) (each (λ (e : List ℕ × ItemParts). e.0) es) ≡ filter_map (line_of old from) (each (λ (e : List ℕ × ItemParts). e.0) es)
lines_same new old to from [] said same there here = refl
lines_same new old to from (e ∷ es) said same there here =
    (λ i. cons_option (line i) (lines_same new old to from es said same there.1 here.1 i)) where
      line : line_of new to e.0 ≡ line_of old from e.0
      line =
          ap (option_map (λ item. item_line to.lang e.0 item (template_of (look new to.templates) item))) there.0
          ∙ (λ i. Some (item_line (said i) e.0 e.1 (template_same (look new to.templates) (look old from.templates) (map.get e.1.fields (codes "template")) same i)))
          ∙ sym (ap (option_map (λ item. item_line from.lang e.0 item (template_of (look old from.templates) item))) here.0)

-- they are shown as their sources
pub copies_shown : (copy : Copying) (old new : StoreState) (report : CopyReport) (lang : List ℕ) → IsCopied copy old new report → report.refused ≡ false → KeepsApart copy.dest
    → are_disjoint copy.templates copy.dest ≡ true
    → show_text_of new.layers (record { config = copy.dest; templates = copy.templates; lang = lang }) (each (λ (e : List ℕ × ItemParts). e.0) (chosen old.layers copy))
    ≡ show_text_of old.layers (record { config = copy.source; templates = copy.templates; lang = lang }) (each (λ (e : List ℕ × ItemParts). e.0) (chosen old.layers copy))
copies_shown copy old new report lang h free alone apart =
    ap text_of
    (lines_same new.layers old.layers (record { config = copy.dest; templates = copy.templates; lang = lang }) (record { config = copy.source; templates = copy.templates; lang = lang })
    (chosen old.layers copy) refl
    (λ n. ap (λ (s : CopyState). look s.layers copy.templates n) h.copied ∙ templates_stay copy (chosen old.layers copy) (so_far old (first_report old.told)) n apart)
    (copies_there copy old new report h free alone) (chosen_seen copy old.layers (names old.layers copy.source)))

-- ---- a destination that takes each item

writable_by : (n : List ℕ) (k : Option Kind) (o : Option LayerState) → option_map_or (λ layer. is_writable layer && admits layer n k) o false ≡ true → option_map_or is_writable o false ≡ true
writable_by n k None h = h
writable_by n k (Some layer) h = first (is_writable layer) (admits layer n k) h where
  first : (a b : Bool) → (a && b) ≡ true → a ≡ true
  first true b h = refl
  first false b h = h

-- a layer that takes each item is open to it
open_by : (ls : List LayerState) (p : ℕ) (n : List ℕ) (k : Option Kind) → takes_at ls n k p ≡ true → is_open_at ls n k p ≡ true
open_by ls p n k takes = elim (has_at ls n p) as (λ b. (if b then is_writable_at ls p else takes_at ls n k p) ≡ true) [
  | true ↦ writable_by n k (slice_get ls p) takes
  | false ↦ takes
]

-- what a layer takes stays
takes_same : (n : List ℕ) (xs ys : List LayerState) → AreSameBut n xs ys → (m : List ℕ) (k : Option Kind) (p : ℕ) → takes_at ys m k p ≡ takes_at xs m k p
takes_same n [] [] s m k p = refl
takes_same n [] (y ∷ ys) s m k p = absurd s
takes_same n (x ∷ xs) [] s m k p = absurd s
takes_same n (x ∷ xs) (y ∷ ys) s m k zero = λ i. writable_same n x y s.0 i && admits_same n m x y k s.0 i
takes_same n (x ∷ xs) (y ∷ ys) s m k (suc p) = takes_same n xs ys s.1 m k p

none_refused : (copy : Copying) (p : ℕ) (es : List (List ℕ × ItemParts)) (at : CopyState) → copy.dest ≡ Leaf p
    → ((n : List ℕ) (k : Option Kind) → takes_at at.layers n k p ≡ true) → at.report.refused ≡ false → (after_copies copy at es).report.refused ≡ false
none_refused copy p [] at alone takes free = free
none_refused copy p (e ∷ es) at alone takes free =
    let store : StoreState = stored at.layers [] in
    let w : Write = copy_write at.layers copy e in
    let made = after_at w.op (item_at at.layers p w.name) in
    let new : StoreState = stored (put_at at.layers p w.name made) [] in
    let did : write_done store w ≡ Some new
    = ap (λ plan. write store plan w.name w.kind w.op) alone ∙ leaf_open store p w.name w.kind made (open_by at.layers p w.name w.kind (takes w.name w.kind)) in
    none_refused copy p es (after_copy copy at e) alone
    (λ n k. ap (λ o. takes_at (with_written at e.0 o).layers n k p) did ∙ (takes_same w.name at.layers new.layers (plan_keeps store new w.plan w.name w.kind w.op did) n k p ∙ takes n k))
    (ap (λ o. (with_written at e.0 o).report.refused) did ∙ free)

pub open_refuses_none : (copy : Copying) (old new : StoreState) (report : CopyReport) → IsCopied copy old new report → IsOpen old.layers copy.dest → report.refused ≡ false
open_refuses_none copy old new report h open' =
    ap (λ (s : CopyState). s.report.refused) h.copied
    ∙ none_refused copy open'.place (chosen old.layers copy) (so_far old (first_report old.told)) open'.alone open'.takes refl
