use Rattle.std.proofs.Common.{◌++◌, sym, ap, ◌∙◌}
use Rattle.std.proofs.lemmas.List.{append-nil}
use Rattle.dc_layer.specs.State.{image_in}
use Rattle.dc_layer.proofs.PrefixLemmas.{files, files_next}
use Rattle.dc_layer.proofs.imaging.images_of.Goals as goal

pub loop-front-preserved : goal.loop-front-preserved
loop-front-preserved c =
    files_next c.args.spec.now c.loop-front.images c.push.new.self c.in_ok-image_in.field-0 (c.in-Some.front, c.in-Some.text) c.next.new.self c.loop-front.front-iterator c.in_ok-push.ensures.ok
    (c.in_ok-image_in.ensures ∙ (λ i. image_in c.args.spec.now (c.bytes.ensures i) (c.unless_empty.ensures i))) c.in-Some.ensures.steps
    ∙ c.loop-front.invariant

pub returns : goal.returns
returns c =
    sym (append-nil c.loop-front.images) ∙ ap (λ it. c.loop-front.images ++ files c.args.spec.now it) (sym c.in-None.ensures.steps.0) ∙ c.loop-front.invariant
    ∙ ap (files c.args.spec.now) c.into_iter-front-iterator.ensures.into_iter_gives.0
