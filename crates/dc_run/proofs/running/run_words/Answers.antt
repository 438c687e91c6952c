use Rattle.std.proofs.Common.{Err, refl, inr, subst}
use Rattle.dc_cli.specs.declared.tool.ToolError.{ToolError}
use Rattle.dc_cli.specs.Tools.{IsToolAnswer}
use Rattle.dc_run.proofs.ProgramLemmas.{is_run}
use Rattle.dc_run.proofs.RunLemmas.{refused_words, unread_words}
use Rattle.dc_run.proofs.running.run_words.Goals as goal

pub returns-in-Err-Refused : goal.returns-in-Err-Refused
returns-in-Err-Refused g c = record { ran = is_run c.args.words.now c.args.settings.now _ _ c.end_run.result _ (refused_words _ _ _ _ _ c.in-Err-Refused.word (rw c.in-Err-Refused.field-0-is at c.in-Err-Refused.ensures) refl refl (rw c.in-Err-Refused.field-0-is at c.end_run.ensures.said) (rw c.in-Err-Refused.field-0-is at c.end_run.ensures.outcome)) }

pub returns-in-Err-OutOfMemory : goal.returns-in-Err-OutOfMemory
returns-in-Err-OutOfMemory g c = record {
  ran = is_run c.args.words.now c.args.settings.now _ _ c.end_run-in-Err-OutOfMemory.result _ (unread_words _ _ _ _ _ (subst (λ (e : ToolError). IsToolAnswer c.args.words.now (Err e)) c.in-Err-OutOfMemory.field-0-is c.in-Err-OutOfMemory.ensures) refl refl c.end_run-in-Err-OutOfMemory.ensures.said c.end_run-in-Err-OutOfMemory.ensures.outcome);
}

pub returns-in-Ok : goal.returns-in-Ok
returns-in-Ok g c = record { ran = is_run c.args.words.now c.args.settings.now _ _ c.run_tool.result c.run_tool.ensures.ran.0 (inr (c.in-Ok.tool, c.in-Ok.ensures, c.run_tool.ensures.ran.1)) }
