use Rattle.std.proofs.Common.{◌≡◌, true, sym, ◌∙◌}
use Rattle.dc_layer.specs.Patterns.{stands}
use Rattle.dc_layer.proofs.PatternLemmas.{somewhere_at_front}
use Rattle.dc_layer.proofs.plain.stands_somewhere.Goals as goal

pub returns : goal.returns
returns c =
    let here : stands c.args.ignore_case c.args.at_end c.args.core.now c.loop-rest.rest.now ≡ true = cc in
    sym (sym c.loop-rest.invariant ∙ somewhere_at_front c.args.ignore_case c.args.at_end c.args.core.now c.loop-rest.rest.now here)
