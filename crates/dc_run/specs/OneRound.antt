-- A run of one round, as it is said of it at once.
use Rattle.std.specs.Prelude.{◌≡◌, ℕ, List, ◌++◌}
use Rattle.dc_session.specs.Serving.{Resources}
use Rattle.dc_run.specs.declared.outcome.End.{End}
use Rattle.dc_run.specs.declared.outcome.Outcome.{Outcome}
use Rattle.dc_run.specs.declared.outcome.ToolAnswer.{ToolAnswer}
use Rattle.dc_run.specs.declared.settings.Settings.{Settings}
use Rattle.dc_run.specs.Roots.{Roots}
use Rattle.dc_cli.specs.declared.tool.Tool.{Tool}
use Rattle.dc_run.specs.EndLines.{end_line, HasSaid}
use Rattle.dc_run.specs.Ends.{status_of}
use Rattle.dc_run.specs.Finishing.{FinishesWhere}
use Rattle.dc_run.specs.Jobs.{Uses}
use Rattle.dc_run.specs.Running.{Awaits}
use Rattle.dc_run.specs.Saves.{Save}
use Rattle.dc_run.specs.Starting.{HasStarted, begun, keeps_changes}
use Rattle.dc_run.specs.World.{Ground, Links, World, before_rounds, ground_in, ground_of, on_ground}

-- The layers were loaded, the tool ran over them, perhaps with saves in its middle, and what it left was saved, or not, by how it ended. A program that
-- was started is waited for then. The end is told behind what the tool told.
pub record HasUsed (tool : Tool) (settings : Settings) (old new : World) (outcome : Outcome) : Type 0 where
  pub mid : Ground
  pub roots : Roots
  pub started : HasStarted tool settings.conf_path (ground_in old).sources mid roots
  pub answer : ToolAnswer
  pub told : List ℕ
  pub left : Resources
  pub links : Links
  pub inner : List Save
  pub uses : Uses tool roots (begun tool (before_rounds (on_ground old mid)) roots settings) (on_ground old mid).links links 0 answer told left inner
  pub how : End
  pub finishes : FinishesWhere (keeps_changes tool) (ground_of left.files links.io left.layers) (ground_in new) answer.ended how
  pub status : ℕ
  pub awaits : Awaits answer.is_started links.child new.links.child how outcome.end answer.status status
  pub said : HasSaid (told ++ end_line outcome.end) left.err new.err
  pub code_is : outcome.last_code ≡ answer.last_code
  pub status_is : outcome.status ≡ status_of outcome.end status
