use Rattle.std.proofs.Common.{◌≡◌, ◌++◌, ◌∷◌, [], drop, map as each, cond, ℕ, List}
use Rattle.std.specs.List.{flat_map}
use Rattle.dc_text.specs.Lines.{text_of}
use Rattle.dc_item.specs.Printed.{list_lines}
use Rattle.dc_item.specs.Sections.{keys_under}
use Rattle.dc_item.proofs.printing.print_list.Given as goal

abbrev pub invariant-loop-key : goal.invariant-loop-key
invariant-loop-key l =
    let left : List (List ℕ) = keys_under l.mark (each (λ e. (e.0.now, e.1.now)) (drop l.key-index l.entries)) in
    l.text ++ cond l.is_first (text_of (list_lines l.head left)) (flat_map (λ k. 44 ∷ 32 ∷ k) left ++ 10 ∷ [])
    ≡ l.initial.text ++ text_of (list_lines l.head (keys_under l.mark (each (λ e. (e.0.now, e.1.now)) l.entries)))
