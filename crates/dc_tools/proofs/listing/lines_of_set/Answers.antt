use Rattle.std.proofs.Common.{◌++◌, map as each, ap, ◌∙◌}
use Rattle.dc_text.specs.Lines.{text_of}
use Rattle.dc_tools.proofs.ListLemmas.{seen_keys}
use Rattle.dc_tools.proofs.listing.lines_of_set.Goals as goal

pub loop-member-init : goal.loop-member-init
loop-member-init c =
    ap (λ t. t ++ text_of (each (λ e. e.0.items) c.into_iter-member-iterator.result)) c.new-text.ensures
    ∙ ap text_of
    (ap (each (λ e. e.0.items)) c.into_iter-member-iterator.ensures.into_iter_gives
    ∙ seen_keys (λ k. k.items) c.iter-member-items.result ∙ ap (each (λ e. e.0)) c.iter-member-items.ensures)
