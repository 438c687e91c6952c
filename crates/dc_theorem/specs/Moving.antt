-- The answers of one machine, which a run of `get-selections` prints there, as a run of `set-selections` sets them on a second machine.
use Rattle.std.specs.Prelude.{◌≡◌, ℕ, true, false, List, ◌++◌, Some, None}
use Rattle.dc_text.specs.Settled.{is_settled}
use Rattle.dc_outside.specs.State.{LinkState}
use Rattle.dc_outside.specs.Talk.{sent}
use Rattle.dc_outside.specs.declared.link.Piece.{Piece}
use Rattle.dc_layer.specs.State.{LayerState}
use Rattle.dc_question.specs.Questions.{QuestionContext, exists, question}
use Rattle.dc_dump.specs.AnswerLines.{is_sayable}
use Rattle.dc_dump.specs.Saying.{answer_at, is_left_out}
use Rattle.dc_dump.specs.SetAgain.{IsNew}
use Rattle.dc_dump.specs.declared.answers.Answer.{Answer}
use Rattle.dc_cli.specs.declared.tool.Tool.{Tool}
use Rattle.dc_run.specs.OneRound.{HasUsed}
use Rattle.dc_run.specs.Starting.{context_of}
use Rattle.dc_run.specs.World.{World}
use Rattle.dc_run.specs.declared.outcome.Outcome.{Outcome}
use Rattle.dc_run.specs.declared.settings.Settings.{Settings}

-- ---- the two machines

-- the databases of a machine: its layers, and where questions and templates stand in them
pub record Databases : Type 0 where
  pub layers : List LayerState
  pub at : QuestionContext

-- the databases as a run loaded them
abbrev pub loaded : {tool : Tool} {settings : Settings} {old new : World} {outcome : Outcome} → HasUsed tool settings old new outcome → Databases
loaded {tool} {settings} run = record { layers = run.mid.used; at = context_of run.roots settings }

-- and as it left them
abbrev pub left_by : {tool : Tool} {settings : Settings} {old new : World} {outcome : Outcome} → HasUsed tool settings old new outcome → Databases
left_by {tool} {settings} {old} {new} run = record { layers = new.stock.used; at = context_of run.roots settings }

-- ---- what goes from one to the other

-- all that the first run sent on its link, and nothing else, comes on the link of the second, whose state is this before it
pub record IsHandedOver (old new other : LinkState) : Type 0 where
  pub talk : List Piece
  pub pieces : List Piece
  pub old_is : old.talk ≡ Some talk
  pub new_is : new.talk ≡ Some (talk ++ pieces)
  pub input_is : other.input ≡ Some (sent pieces)

-- the questions of the first are new to the second: neither a question nor a template there has the name of one
abbrev pub AreNewTo : Databases → Databases → Type 0
AreNewTo from to = (name : List ℕ) → exists from.layers from.at name ≡ true → IsNew to.layers to.at name

-- ---- what is left

-- Each question of the first that can be said answers on the second, as it is left, what it answered on the first, unless the pair of a backslash and
-- an n stands in its name. Of each that can't be said there is none on the second. Any other name has the question there that it had.
pub record AreMoved (from to left : Databases) : Type 0 where
  pub said : (name : List ℕ) (answer : Answer) → answer_at from.layers from.at name ≡ Some answer → is_sayable name answer ≡ true
      → is_settled name ≡ true → answer_at left.layers left.at name ≡ Some answer
  pub unsaid : (name : List ℕ) → is_left_out from.layers from.at name ≡ true → question left.layers left.at name ≡ None
  pub others : (name : List ℕ) → exists from.layers from.at name ≡ false
      → question left.layers left.at name ≡ question to.layers to.at name
