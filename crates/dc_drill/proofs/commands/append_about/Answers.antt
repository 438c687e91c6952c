use Rattle.dc_drill.proofs.CommandLemmas.{about_put}
use Rattle.dc_drill.proofs.commands.append_about.Goals as goal

pub returns : goal.returns
returns c = about_put _ _ _ _ _ _ _ _ c.in_ok-append.ensures.ok c.in_ok-append_question.ensures c.in_ok-append-2.ensures.ok c.in_ok-push.ensures.ok
