-- How the terminal's link counts what was done at a line that isn't heeded to its end.
use Rattle.std.specs.Prelude.{◌≡◌, ◌⊎◌}
use Rattle.dc_outside.specs.Counts.{Counts, FaultRose, RefusalRose}
use Rattle.dc_answer.specs.declared.answerer.AnswerBreak.{AnswerBreak}
use Rattle.dc_answer.specs.declared.answerer.AnswerBreak.TheVariants as break

-- A line that is unreadable is no fault of the terminal. Where memory ran out a refusal was counted, or none if it was the program's own that did.
abbrev pub TermCounts : AnswerBreak → Counts → Counts → Type 0
TermCounts (break.Wire line) before now = now ≡ before
TermCounts break.Term before now = FaultRose before now
TermCounts break.OutOfMemory before now = RefusalRose before now ⊎ (now ≡ before)
