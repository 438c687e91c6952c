use Rattle.std.proofs.Common.{◌∷◌, rules}
use Rattle.std.proofs.lemmas.Fn.{always_returns_same}
use Rattle.dc_text.specs.Maps.{text_cmp}
use Rattle.dc_parts.proofs.PlaceLemmas.{searched}
use Rattle.dc_parts.proofs.many.search.Goals as goal

pub returns : goal.returns
returns c =
    let facts = c.binary_search_by.ensures in
    let compared = facts.position (λ e. text_cmp e.0 (c.args.mark ∷ c.args.key.now)) (always_returns_same _ _ _ (λ a r f' called. search rules)) in
    searched c.args.pairs.now c.requires (c.args.mark ∷ c.args.key.now) c.binary_search_by.result facts.bound compared
