-- The ends of a run, their statuses and the counts that go with them.
use Rattle.std.specs.Prelude.{◌≡◌, ◌⊎◌, ℕ, codes, Bool, true, false, Result, Ok, Err}
use Rattle.dc_outside.specs.Counts.{Rose, FaultRose, RefusalRose}
use Rattle.dc_outside.specs.Counts.{Counts}
use Rattle.dc_outside.specs.State.{LinkState}
use Rattle.dc_answer.specs.declared.answerer.AnswerBreak.{AnswerBreak}
use Rattle.dc_answer.specs.declared.answerer.AnswerBreak.TheVariants as broken
use Rattle.dc_conf.specs.declared.faults.ConfError.{ConfError}
use Rattle.dc_conf.specs.declared.faults.ConfError.TheVariants as conf
use Rattle.dc_layer.specs.declared.pattern.PatternError.{PatternError}
use Rattle.dc_layer.specs.declared.pattern.PatternError.TheVariants as pattern
use Rattle.dc_outside.specs.declared.link.LinkError.{LinkError}
use Rattle.dc_outside.specs.declared.link.LinkError.TheVariants.{Failed, OutOfMemory}
use Rattle.dc_save.specs.declared.pipe_loading.PipeError.TheVariants as pipe
use Rattle.dc_shelf.specs.declared.loading.SourceError.{SourceError}
use Rattle.dc_shelf.specs.declared.loading.SourceError.TheVariants as source
use Rattle.dc_save.specs.declared.loading.LoadError.TheVariants as load
use Rattle.dc_save.specs.declared.saving.SaveError.{SaveError}
use Rattle.dc_save.specs.declared.saving.SaveError.TheVariants as save
use Rattle.dc_serve.specs.declared.outcome.LinkEnd.{LinkEnd}
use Rattle.dc_serve.specs.declared.outcome.LinkEnd.TheVariants as link
use Rattle.dc_session.specs.declared.stepped.StepError.TheVariants as step
use Rattle.dc_run.specs.declared.outcome.End.{End}
use Rattle.dc_run.specs.declared.outcome.End.TheVariants as end
use Rattle.dc_run.specs.declared.outcome.ToolEnd.{ToolEnd}
use Rattle.dc_run.specs.declared.outcome.ToolEnd.TheVariants as tool
use Rattle.dc_run.specs.declared.saving_session.SavingBreak.{SavingBreak}
use Rattle.dc_run.specs.declared.saving_session.SavingBreak.TheVariants as saving
use Rattle.dc_run.specs.declared.outcome.PatternAt.{PatternAt}
use Rattle.dc_run.specs.declared.outcome.PatternAt.TheVariants.{Database}
use Rattle.dc_run.specs.World.{Links}
use Rattle.dc_shelf.specs.declared.shelf.NotSetUp.{NotSetUp}

-- the exit status of an end, of a tool that gives this one where it did all that it was to do
abbrev pub status_of : End → ℕ → ℕ
status_of end.Done status = status
status_of (end.Usage word) status = 120
status_of (end.ConfRefused line kind) status = 121
status_of (end.BadPattern place) status = 121
status_of (end.PatternTooLarge place) status = 121
status_of (end.Damaged path line) status = 121
status_of end.OutOfMemory status = 122
status_of (end.FilesFault path) status = 123
status_of end.LinkFault status = 124
status_of end.TermFault status = 124
status_of end.ChildFault status = 124
status_of end.TooLong status = 125
status_of (end.BadWire line) status = 124

-- the end of a run whose configuration is refused
abbrev pub end_of_conf : ConfError → End
end_of_conf (conf.Refused line kind) = end.ConfRefused line kind
end_of_conf conf.OutOfMemory = end.OutOfMemory

-- the end of a run of which a pattern isn't built
abbrev pub end_of_pattern : PatternAt → PatternError → End
end_of_pattern at pattern.Bad = end.BadPattern at
end_of_pattern at pattern.TooLarge = end.PatternTooLarge at
end_of_pattern at pattern.OutOfMemory = end.OutOfMemory

-- the end of a run of which a layer isn't set up
abbrev pub end_of_patterns : NotSetUp → End
end_of_patterns refused = end_of_pattern (Database refused.place) refused.error

-- the end of a run of which a layer isn't loaded; the path of what comes through a pipe is `-`
abbrev pub end_of_load : SourceError → End
end_of_load (source.Files (load.Failed path)) = end.FilesFault path
end_of_load (source.Files (load.Damaged path line)) = end.Damaged path line
end_of_load (source.Files load.OutOfMemory) = end.OutOfMemory
end_of_load (source.Pipe pipe.Failed) = end.LinkFault
end_of_load (source.Pipe (pipe.Damaged line)) = end.Damaged (codes "-") line
end_of_load (source.Pipe pipe.TooLong) = end.TooLong
end_of_load (source.Pipe pipe.OutOfMemory) = end.OutOfMemory

-- the end of a run of which a text wasn't sent through a pipe
abbrev pub end_unsent : LinkError → End
end_unsent Failed = end.LinkFault
end_unsent OutOfMemory = end.OutOfMemory

-- how a tool ended that serves a session with its saves, by the end of the link
abbrev pub tool_end_of : LinkEnd SavingBreak → ToolEnd
tool_end_of link.Done = tool.Done
tool_end_of link.LinkFault = tool.LinkFault
tool_end_of link.TooLong = tool.TooLong
tool_end_of link.OutOfMemory = tool.OutOfMemory
tool_end_of (link.Broken (saving.Step step.Term)) = tool.TermFault
tool_end_of (link.Broken (saving.Step (step.Wire line))) = tool.BadWire line
tool_end_of (link.Broken (saving.Step step.OutOfMemory)) = tool.OutOfMemory
tool_end_of (link.Broken (saving.Save (save.Failed path))) = tool.FilesFault path
tool_end_of (link.Broken (saving.Save save.OutOfMemory)) = tool.OutOfMemory

-- how `answer` ended, by the end of its wire
abbrev pub answer_end : LinkEnd AnswerBreak → ToolEnd
answer_end link.Done = tool.Done
answer_end link.LinkFault = tool.LinkFault
answer_end link.TooLong = tool.TooLong
answer_end link.OutOfMemory = tool.OutOfMemory
answer_end (link.Broken (broken.Wire line)) = tool.BadWire line
answer_end (link.Broken broken.Term) = tool.TermFault
answer_end (link.Broken broken.OutOfMemory) = tool.OutOfMemory

-- the end of a run whose tool ended so
abbrev pub end_of : ToolEnd → End
end_of tool.Done = end.Done
end_of tool.LinkFault = end.LinkFault
end_of tool.PrintFault = end.LinkFault
end_of tool.TermFault = end.TermFault
end_of tool.ChildFault = end.ChildFault
end_of tool.TooLong = end.TooLong
end_of tool.OutOfMemory = end.OutOfMemory
end_of (tool.FilesFault path) = end.FilesFault path
end_of (tool.BadWire line) = end.BadWire line

-- The end of a run whose tool ended so, and whose layers weren't saved. A fault of the link and too long an input came first and
-- stay.
abbrev pub end_unsaved : ToolEnd → SaveError → End
end_unsaved tool.Done (save.Failed path) = end.FilesFault path
end_unsaved ended (save.Failed path) = end_of ended
end_unsaved ended save.OutOfMemory = end.OutOfMemory

-- the end of a run whose tool ended so, by the answer of the save
abbrev pub end_by : ToolEnd → Result (Unit {0}) SaveError → End
end_by ended (Ok done) = end_of ended
end_by ended (Err error) = end_unsaved ended error

-- whether the layers are saved after a tool that ended so
abbrev pub comes_to_save : ToolEnd → Bool
comes_to_save tool.Done = true
comes_to_save tool.LinkFault = true
comes_to_save tool.TooLong = true
comes_to_save tool.PrintFault = false
comes_to_save tool.TermFault = false
comes_to_save tool.ChildFault = false
comes_to_save tool.OutOfMemory = false
comes_to_save (tool.FilesFault path) = false
comes_to_save (tool.BadWire line) = false

-- the ends of a tool after which the layers are saved
abbrev pub IsEnded : ToolEnd → Type 0
IsEnded tool.Done = Unit {0}
IsEnded tool.LinkFault = Unit {0}
IsEnded tool.TooLong = Unit {0}
IsEnded tool.PrintFault = ⊥
IsEnded tool.TermFault = ⊥
IsEnded tool.ChildFault = ⊥
IsEnded tool.OutOfMemory = ⊥
IsEnded (tool.FilesFault path) = ⊥
IsEnded (tool.BadWire line) = ⊥

-- the end of a run that did all, but for a wait for its program that failed; another end stays
abbrev pub end_unwaited : End → End
end_unwaited end.Done = end.ChildFault
end_unwaited how = how

-- ---- counts

-- how both links counted their calls, of which none failed, or that of one end of the run
pub record Both (io child : Counts → Counts → Type 0) (before now : Links) : Type 0 where
  pub on_io : io before.io.counts now.io.counts
  pub on_child : child before.child.counts now.child.counts

abbrev pub Stays : Counts → Counts → Type 0
Stays before now = now ≡ before

-- it may have failed, or found no memory
abbrev pub MayRise : Counts → Counts → Type 0
MayRise before now = (now ≡ before) ⊎ FaultRose before now ⊎ RefusalRose before now

-- How the links count the calls of a run, by its end: a fault where the served one failed, which the end tells unless what came after it found
-- no memory; a fault of the terminal or the wire, which is the program's own link; and a refusal where one found no memory itself.
abbrev pub LinksCount : End → Links → Links → Type 0
LinksCount end.LinkFault before now = Both FaultRose Stays before now ⊎ Both Stays FaultRose before now
LinksCount end.TermFault before now = Both FaultRose Stays before now
LinksCount end.OutOfMemory before now = Both MayRise MayRise before now
LinksCount how before now = Both Stays Stays before now

-- how the loads of a run are counted on the program's own link: as a fault where what comes through a pipe was left out, and else not at all
abbrev pub CountsLoads : Counts → Counts → Type 0
CountsLoads before now = (now ≡ before) ⊎ FaultRose before now

-- how the links count all calls of a run: those of its loads, and by its end those behind them
pub record CountsCalls (how : End) (before now : Links) : Type 0 where
  pub mid : LinkState
  pub loads : CountsLoads before.io.counts mid.counts
  pub behind : LinksCount how (record before { io = mid }) now

-- how often a start of the program or a wait for it failed: never where the run did all, and once where that is its end
abbrev pub ProgramCounts : End → ℕ → ℕ → Type 0
ProgramCounts end.Done before now = now ≡ before
ProgramCounts end.ChildFault before now = Rose before now
ProgramCounts how before now = (now ≡ before) ⊎ Rose before now
