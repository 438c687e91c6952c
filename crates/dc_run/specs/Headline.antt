-- What a run of the program does, by its end, in three parts: its words are refused; or it ends before its tool, silently and with
-- nothing written; or the jobs of its tool had their rounds over the layers as they were loaded.
use Rattle.std.specs.Prelude.{◌≡◌, ◌⊎◌, ℕ, List, []}
use Rattle.dc_run.specs.declared.outcome.End.TheVariants as end
use Rattle.dc_run.specs.declared.outcome.Outcome.{Outcome}
use Rattle.dc_run.specs.declared.settings.Settings.{Settings}
use Rattle.dc_run.specs.Roots.{Roots}
use Rattle.dc_cli.specs.Tools.{Names, AreRefusedAt}
use Rattle.dc_cli.specs.declared.tool.Tool.{Tool}
use Rattle.dc_run.specs.Crashes.{KeepsDatabases}
use Rattle.dc_run.specs.EndLines.{end_line, HasSaid}
use Rattle.dc_run.specs.Ends.{status_of, CountsCalls, ProgramCounts}
use Rattle.dc_run.specs.Rounds.{HasDoneJobs}
use Rattle.dc_run.specs.Saves.{Save}
use Rattle.dc_run.specs.Starting.{HasStarted, EndsBefore}
use Rattle.dc_run.specs.World.{Ground, Links, RunState, World, before_rounds, ground_in, on_ground, stock_of}
use Rattle.dc_layer.specs.State.{LayerState}
use Rattle.dc_outside.specs.State.{FilesState, LinkState}

-- ---- a run of a tool

-- no program was started, and no tool told anything
pub record IsSilent (old new : World) (outcome : Outcome) : Type 0 where
  pub child_is : new.links.child ≡ old.links.child
  pub said : HasSaid (end_line outcome.end) old.err new.err
  pub code_is : outcome.last_code ≡ 0
  pub status_is : outcome.status ≡ status_of outcome.end 0

-- The layers were loaded, the jobs of the tool were found and had their rounds over them, and the end is told behind all else.
pub record HasWorked (tool : Tool) (settings : Settings) (old new : World) (outcome : Outcome) (saves : List Save) : Type 0 where
  pub mid : Ground
  pub roots : Roots
  pub started : HasStarted tool settings.conf_path (ground_in old).sources mid roots
  pub left : RunState
  pub status : ℕ
  pub does : HasDoneJobs tool roots settings (before_rounds (on_ground old mid)) left outcome.end status saves
  pub said : HasSaid (end_line outcome.end) left.world.err new.err
  pub rest_is : new ≡ record left.world { err = new.err }
  pub code_is : outcome.last_code ≡ left.code
  pub status_is : outcome.status ≡ status_of outcome.end status

-- a run of a tool under these settings, with the saves that it began
abbrev pub HasRunTool : Tool → Settings → World → World → Outcome → List Save → Type 0
HasRunTool tool settings old new outcome saves =
    (EndsBefore tool settings.conf_path (ground_in old).sources (ground_in new) outcome.end × IsSilent old new outcome × (saves ≡ []))
    ⊎ HasWorked tool settings old new outcome saves

-- ---- the program

-- the words are refused at a place, which the end tells, and nothing else was done
pub record AreRefused (words : List (List ℕ)) (old new : World) (outcome : Outcome) : Type 0 where
  pub word : ℕ
  pub end_is : outcome.end ≡ end.Usage word
  pub refused : AreRefusedAt words word
  pub silent : IsSilent old new outcome
  pub untouched : ground_in new ≡ ground_in old

-- What the program does with its words, under these settings: they are refused, or the tool that they name ran, and began these saves.
abbrev pub HasRunWords : List (List ℕ) → Settings → World → World → Outcome → List Save → Type 0
HasRunWords words settings old new outcome saves =
    (AreRefused words old new outcome × (saves ≡ [])) ⊎ ((tool : Tool) × Names words tool × HasRunTool tool settings old new outcome saves)

-- A run of the program: what it did, how its links counted their calls, and what a kill at any moment of it leaves.
pub record IsRun (words : List (List ℕ)) (settings : Settings) (old new : World) (outcome : Outcome) : Type 0 where
  pub saves : List Save
  pub ran : HasRunWords words settings old new outcome saves
  pub links_count : CountsCalls outcome.end old.links new.links
  pub program_counts : ProgramCounts outcome.end old.links.child.program.failures new.links.child.program.failures
  pub keeps : KeepsDatabases words settings.conf_path old.stock.files new.stock.files outcome.end saves

-- A run of the program over layers of its own, of which none was in use: it ended so, whatever it left in them, and this is its exit status.
pub record IsProgramRun (words : List (List ℕ)) (settings : Settings) (old : World)
    (links : Links) (err : LinkState) (files : FilesState) (status : ℕ) : Type 0 where
  pub used : List LayerState
  pub outcome : Outcome
  pub ran : IsRun words settings old (record { stock = stock_of files used; links = links; err = err }) outcome
  pub status_is : status ≡ outcome.status
