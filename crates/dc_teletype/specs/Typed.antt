-- What is typed on a terminal, as lines, and what a dialogue comes to by them, however the bytes came.
use Rattle.std.specs.Prelude.{◌≡◌, ℕ, Bool, true, ◌==◌, nat_lt, List, [], ◌∷◌, ◌++◌, Some, Ok, length, option_to_list, if◌then◌else◌}
use Rattle.dc_text.specs.Ascii.{newline}
use Rattle.dc_frontend.specs.declared.shown.Shown.{Shown}
use Rattle.dc_teletype.specs.declared.teletype.Answer.{Answer}
use Rattle.dc_teletype.specs.declared.teletype.Answer.TheVariants.{Keep}
use Rattle.dc_teletype.specs.declared.teletype.Asked.{Asked}
use Rattle.dc_teletype.specs.declared.teletype.Asked.TheVariants.{Answers}
use Rattle.dc_teletype.specs.declared.terminal.TerminalLine.{TerminalLine}
use Rattle.dc_teletype.specs.declared.terminal.TerminalLine.TheVariants.{Whole, Cut}
use Rattle.dc_outside.specs.declared.link.Piece.{Piece}
use Rattle.dc_outside.specs.Talk.{sent}
use Rattle.dc_teletype.specs.TerminalLines.{TypeAhead, TerminalState, EndsWell, longest, last_line}
use Rattle.dc_teletype.specs.Dialogue.{Step, Stage, Waits, Over, IsDialogue, after_reading, reading_of, answered}

-- ---- lines

-- The lines of these bytes, behind this front of the first one. A newline ends a line; of a line that is longer than the longest so many
-- bytes are cut off; and what stands behind the last newline is a line where it isn't empty.
abbrev pub lines_behind : List ℕ → List ℕ → List TerminalLine
lines_behind front [] = option_to_list (last_line front)
lines_behind front (byte ∷ bytes) =
    if byte == newline then Whole front ∷ lines_behind [] bytes
    else if nat_lt (length front) longest then lines_behind (front ++ byte ∷ []) bytes
    else Cut ∷ lines_behind (byte ∷ []) bytes

-- the lines that are typed
abbrev pub typed_lines : List ℕ → List TerminalLine
typed_lines bytes = lines_behind [] bytes

-- ---- the dialogue

-- what a dialogue comes to: all that is said, how it ends, and the lines that aren't used
pub record DialogueOutcome : Type 0 where
  pub said : List ℕ
  pub asked : Asked
  pub unused : List TerminalLine

-- this is said first
abbrev pub saying : List ℕ → DialogueOutcome → DialogueOutcome
saying said outcome = record outcome { said = said ++ outcome.said }

-- The input has ended: the question that waits keeps its value, and so do those behind it.
abbrev pub all_kept : List ℕ → List Shown → List Answer → DialogueOutcome
all_kept said [] answers = record { said = said ++ newline ∷ []; asked = Answers (answers ++ Keep ∷ []); unused = [] }
all_kept said (shown ∷ others) answers = saying said (all_kept (answered Keep (shown ∷ others) answers).said others (answers ++ Keep ∷ []))

-- what it comes to by these lines, where this is to be said; a line is used where one is waited for
abbrev pub dialogue_from : Bool → List TerminalLine → List ℕ → Stage → DialogueOutcome
dialogue_from backup [] said (Over asked) = record { said = said; asked = asked; unused = [] }
dialogue_from backup [] said (Waits shown unusable others answers) = all_kept said others answers
dialogue_from backup (line ∷ lines) said (Over asked) = record { said = said; asked = asked; unused = line ∷ lines }
dialogue_from backup (line ∷ lines) said (Waits shown unusable others answers) =
    let next = after_reading (reading_of shown backup (Some line)) shown unusable others answers in
    saying said (dialogue_from backup lines next.said next.stage)

-- What a dialogue comes to from a step, by the lines that are typed.
abbrev pub dialogue : Bool → Step → List TerminalLine → DialogueOutcome
dialogue backup step lines = dialogue_from backup lines step.said step.stage

-- ---- terminals

-- a terminal of which all is told: what came and wasn't used, the talk, and the input that is left
pub record ToldTerminal : Type 0 where
  pub ahead : TypeAhead
  pub talk : List Piece
  pub input : List ℕ

-- all that is typed there and wasn't used
abbrev pub typed : ToldTerminal → List ℕ
typed terminal = terminal.ahead.held ++ terminal.input

-- its input has ended only where none of it is left
abbrev pub IsUsedUp : TypeAhead → List ℕ → Type 0
IsUsedUp ahead input = ahead.has_ended ≡ true → input ≡ []

-- a dialogue was held there, and ended so
pub record IsAsked (backup : Bool) (start : Step) (old new : ToldTerminal) (asked : Asked) : Type 0 where
  pub held : IsDialogue backup start old.ahead new.ahead (Some old.talk) (Some new.talk) (Some old.input) (Some new.input) (Ok asked)
  pub ends : EndsWell old.ahead new.ahead (Some new.input)
  pub used_up : IsUsedUp old.ahead old.input

-- all that was said there, how the dialogue ended, and the lines that are left are these
pub record ComesTo (outcome : DialogueOutcome) (old new : ToldTerminal) (asked : Asked) : Type 0 where
  pub said : sent new.talk ≡ sent old.talk ++ outcome.said
  pub asked_is : asked ≡ outcome.asked
  pub unused : typed_lines (typed new) ≡ outcome.unused

-- all is told of the terminal, and it is this
pub record IsToldAs (terminal : TerminalState) (told : ToldTerminal) : Type 0 where
  pub ahead : terminal.ahead ≡ told.ahead
  pub talk : terminal.link.talk ≡ Some told.talk
  pub input : terminal.link.input ≡ Some told.input
  pub used_up : IsUsedUp told.ahead told.input

-- all is told of both terminals: the same was said there, and the same is typed and wasn't used
pub record AreTerminalsAlike (one other : TerminalState) : Type 0 where
  pub first : ToldTerminal
  pub second : ToldTerminal
  pub one_is : IsToldAs one first
  pub other_is : IsToldAs other second
  pub said : sent first.talk ≡ sent second.talk
  pub same : typed first ≡ typed second
