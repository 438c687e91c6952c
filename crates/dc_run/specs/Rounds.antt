-- A run in rounds: each job is done, saved and waited for, before the next is begun.
use Rattle.std.specs.Prelude.{◌≡◌, ◌≢◌, ◌&&◌, ℕ, Bool, List, [], ◌∷◌, ◌++◌, max, Result, Ok, Err}
use Rattle.dc_run.specs.declared.outcome.End.{End}
use Rattle.dc_run.specs.declared.outcome.End.TheVariants.{Done}
use Rattle.dc_run.specs.declared.outcome.ToolAnswer.{ToolAnswer}
use Rattle.dc_run.specs.declared.outcome.ToolEnd.{ToolEnd}
use Rattle.dc_run.specs.declared.settings.Settings.{Settings}
use Rattle.dc_run.specs.Roots.{Roots}
use Rattle.dc_cli.specs.declared.tool.Tool.{Tool}
use Rattle.dc_run.specs.EndLines.{HasSaid}
use Rattle.dc_run.specs.Ends.{comes_to_save}
use Rattle.dc_run.specs.Jobs.{Uses}
use Rattle.dc_run.specs.Running.{Awaits}
use Rattle.dc_run.specs.Saves.{Save, Commits}
use Rattle.dc_run.specs.Starting.{begun, keeps_changes}
use Rattle.dc_run.specs.World.{RunState, ground_in, stock_of}
use Rattle.dc_session.specs.Serving.{Resources}

-- the work of one round: all that a tool does
pub data Job : Type 0 where
  Whole : (used : Tool) → Job

-- What a run finds to do, once its databases are loaded, and what it leaves and tells as its status in finding it: its jobs in order, or an end
-- that comes before the first. Each tool of today is one job, and nothing is to be found.
abbrev pub FindsJobs : Tool → RunState → RunState → Result (List Job) End → ℕ → Type 0
FindsJobs used old new (Ok jobs) status = (jobs ≡ Whole used ∷ []) × (new ≡ old) × (status ≡ 0)
FindsJobs used old new (Err how) status = ⊥

-- ---- one round

-- The tool did what it does from the state that the round found, with these saves in its middle, and told what it tells behind its session.
pub record HasDone (used : Tool) (roots : Roots) (settings : Settings) (old new : RunState) (answer : ToolAnswer) (saves : List Save) : Type 0 where
  pub told : List ℕ
  pub left : Resources
  pub uses : Uses used roots (begun used old roots settings) old.world.links new.world.links old.code answer told left saves
  pub stock_is : new.world.stock ≡ stock_of left.files left.layers
  pub said : HasSaid told left.err new.world.err
  pub ahead_is : new.ahead ≡ left.terminal.ahead
  pub code_is : new.code ≡ answer.last_code

-- What a job does to what its round found: what it leaves before its save, its answer, and the saves in its middle.
abbrev pub Works : Job → Roots → Settings → RunState → RunState → ToolAnswer → List Save → Type 0
Works (Whole used) roots settings old new answer saves = HasDone used roots settings old new answer saves

-- whether a round comes to its save
abbrev pub is_saved_at : Job → ToolEnd → Bool
is_saved_at (Whole used) ended = keeps_changes used && comes_to_save ended

-- what a round's status counts for in the run's
abbrev pub status_by : Job → ℕ → ℕ
status_by (Whole used) status = status

-- what a round tells on standard error behind its wait
abbrev pub report : Job → End → ℕ → List ℕ
report (Whole used) how status = []

-- A job, what it answered and left before its save, the saves in its middle and the one at its end, its end before the wait, and then its
-- status, its end, and what it left.
pub record Round : Type 0 where
  pub job : Job
  pub answer : ToolAnswer
  pub left : RunState
  pub inner : List Save
  pub last : List Save
  pub finish : End
  pub status : ℕ
  pub how : End
  pub new : RunState

-- The job was done from what the round found. What it changed was saved, or not, by how it ended. Then a program that it started was waited
-- for, and what is to be told of it was told. Nothing else was done.
pub record IsRound (roots : Roots) (settings : Settings) (old : RunState) (round : Round) : Type 0 where
  pub works : Works round.job roots settings old round.left round.answer round.inner
  pub commits : Commits (is_saved_at round.job round.answer.ended) round.answer.ended (ground_in round.left.world) (ground_in round.new.world) round.last round.finish
  pub awaits : Awaits round.answer.is_started round.left.world.links.child round.new.world.links.child round.finish round.how round.answer.status round.status
  pub told : HasSaid (report round.job round.how round.status) round.left.world.err round.new.world.err
  pub ahead_is : round.new.ahead ≡ round.left.ahead
  pub code_is : round.new.code ≡ round.left.code

-- ---- rounds, one after another

-- each begins where the one before it left off, and none follows one that didn't do all
abbrev pub AreRounds : Roots → Settings → RunState → List Round → Type 0
AreRounds roots settings old [] = Unit {0}
AreRounds roots settings old (round ∷ rounds) = IsRound roots settings old round × (round.how ≢ Done → rounds ≡ []) × AreRounds roots settings round.new rounds

abbrev pub jobs_done : List Round → List Job
jobs_done [] = []
jobs_done (round ∷ rounds) = round.job ∷ jobs_done rounds

-- what the rounds leave
abbrev pub state_after : RunState → List Round → RunState
state_after old [] = old
state_after old (round ∷ rounds) = state_after round.new rounds

-- how they end
abbrev pub end_after : End → List Round → End
end_after how [] = how
end_after how (round ∷ rounds) = end_after round.how rounds

-- all their saves, in order
abbrev pub saves_of : List Round → List Save
saves_of [] = []
saves_of (round ∷ rounds) = (round.inner ++ round.last) ++ saves_of rounds

-- the greatest of what their statuses count for
abbrev pub status_in : List Round → ℕ
status_in [] = 0
status_in (round ∷ rounds) = max (status_by round.job round.status) (status_in rounds)

-- The jobs had their rounds, in order: all of them, or up to the first that didn't do all.
pub record HaveRounds (roots : Roots) (settings : Settings) (jobs : List Job) (old new : RunState) (how : End) (status : ℕ) (saves : List Save) : Type 0 where
  pub rounds : List Round
  pub rest : List Job
  pub jobs_are : jobs ≡ jobs_done rounds ++ rest
  pub are : AreRounds roots settings old rounds
  pub all : how ≡ Done → rest ≡ []
  pub new_is : new ≡ state_after old rounds
  pub how_is : how ≡ end_after Done rounds
  pub status_is : status ≡ status_in rounds
  pub saves_are : saves ≡ saves_of rounds

-- ---- all that a run does between loading and its end

-- the jobs that were found had their rounds; or none were, and the run ends so
abbrev pub DoesFound : Result (List Job) End → Roots → Settings → RunState → RunState → End → ℕ → List Save → Type 0
DoesFound (Ok jobs) roots settings ready left how status saves = HaveRounds roots settings jobs ready left how status saves
DoesFound (Err error) roots settings ready left how status saves = (left ≡ ready) × (how ≡ error) × (status ≡ 0) × (saves ≡ [])

-- Its jobs were found, and had their rounds. Its status is the greatest of those of the finding and of the rounds.
pub record HasDoneJobs (used : Tool) (roots : Roots) (settings : Settings) (old left : RunState) (how : End) (status : ℕ) (saves : List Save) : Type 0 where
  pub found : Result (List Job) End
  pub ready : RunState
  pub first : ℕ
  pub finds : FindsJobs used old ready found first
  pub later : ℕ
  pub does : DoesFound found roots settings ready left how later saves
  pub status_is : status ≡ max first later

-- A run of one job as its one round: what it left, how it ended and its saves are the run's.
pub record IsOneRound (roots : Roots) (settings : Settings) (job : Job) (old new : RunState) (how : End) (status : ℕ) (saves : List Save) : Type 0 where
  pub round : Round
  pub job_is : round.job ≡ job
  pub is : IsRound roots settings old round
  pub new_is : new ≡ round.new
  pub how_is : how ≡ round.how
  pub status_is : status ≡ status_by job round.status
  pub saves_are : saves ≡ round.inner ++ round.last
