use Rattle.std.proofs.Common.{ap, ◌∙◌, ◌++◌, map as each}
use Rattle.std.specs.List.{list_all}
use Rattle.dc_text.specs.Names.{is_name}
use Rattle.dc_item.proofs.ItemLemmas.{second-selves, second-seen}
use Rattle.dc_item.proofs.owners.sorted.Goals as goal

pub loop-name-init : goal.loop-name-init
loop-name-init c = record {
  so_far = ap (λ l. l ++ each (λ e. e.1) c.into_iter-name-iterator.result) c.new-list.ensures
      ∙ ap (each (λ e. e.1)) c.into_iter-name-iterator.ensures.into_iter_gives ∙ second-seen (λ k. k.items) c.iter-name-items.result
      ∙ ap (each (λ e. e.1)) (c.iter-name-items.ensures ∙ c.in_ok-held.ensures) ∙ second-selves _;
  good = ap (list_all is_name) c.new-list.ensures;
}
