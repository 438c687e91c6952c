use Rattle.std.proofs.Common.{refl, subst}
use Rattle.dc_run.specs.EndLines.{HasSaid}
use Rattle.dc_run.proofs.Saying.{named_said}
use Rattle.dc_run.proofs.telling.+tell_names.Goals as goal

pub returns-in-len1-up : goal.returns-in-len1-up
returns-in-len1-up g t c =
    named_said c.args.words.now c.args.names.now _ c.name-item.result _ _ _ _ c.in-len1-up.len_at_least c.name-item.is refl
    (subst (λ b. HasSaid b (g.E.Link.link c.args.err.now) (g.E.Link.link c.say.new.err)) c.bytes.ensures.value c.say.ensures) c.say-in-len1-up.ensures c.tell_names.ensures
