-- The reading of a session's lines, a line at a time. No public clause cites this module.
use Rattle.std.specs.Prelude.{◌≡◌, ⊤, ℕ, Bool, true, false, not, ◌&&◌, ◌||◌, ◌==◌, List, [], ◌∷◌, ◌++◌, map as each, Option, Some, None, option_map, Result, Ok, Err, codes, if◌then◌else◌}
use Rattle.std.specs.List.{list_any, list_all, flat_map, before_first, after_first}
use Rattle.std.specs.Str.{bytes_eq}
use Rattle.dc_text.specs.Ascii.{newline, space, backslash, letter_n}
use Rattle.dc_text.specs.Bytes.{is_nil}
use Rattle.dc_text.specs.Names.{is_name}
use Rattle.dc_words.specs.declared.stream.Line.{Line}
use Rattle.dc_words.specs.declared.stream.Line.TheVariants as line
use Rattle.dc_template.specs.Kinds.{kind_of, kind_word}
use Rattle.dc_template.specs.declared.kinds.Kind.{Kind}
use Rattle.dc_frontend.specs.declared.shown.Shown.{Shown}
use Rattle.dc_pass.specs.declared.calls.WireCall.TheVariants.{Ask, Tell}
use Rattle.dc_pass.specs.declared.calls.WireError.{WireError}
use Rattle.dc_pass.specs.declared.calls.WireError.TheVariants.{Bad, OutOfMemory}
use Rattle.dc_pass.specs.declared.lines.WireLine.{WireLine}
use Rattle.dc_pass.specs.declared.begun.Begun.{Begun}
use Rattle.dc_pass.specs.declared.begun.Begun.TheVariants.{Nothing, Titled, Asking}
use Rattle.dc_pass.specs.declared.begun.Step.{Step}
use Rattle.dc_pass.specs.declared.begun.Step.TheVariants.{Begins, Completes}
use Rattle.dc_pass.specs.declared.question_part.QuestionPart.{QuestionPart}
use Rattle.dc_pass.specs.declared.question_part.QuestionPart.TheVariants as part
use Rattle.dc_pass.specs.declared.question_part.PartStep.{PartStep}
use Rattle.dc_pass.specs.declared.question_part.PartStep.TheVariants as step
use Rattle.dc_pass.specs.Wire.{wire_line, choice_lines, heading_lines, question_lines, opening_lines, is_question}

-- ---- what a line says

-- what a backslash and this byte stand for
abbrev pub escape_meant : ℕ → Option ℕ
escape_meant next = if next == backslash then Some backslash else if next == letter_n then Some newline else None

-- a byte in front
abbrev pub with_byte : Option ℕ → Option (List ℕ) → Option (List ℕ)
with_byte None text = None
with_byte (Some byte) text = option_map (λ bytes. byte ∷ bytes) text

-- the text that is escaped so
abbrev pub unescaped : List ℕ → Option (List ℕ)
unescaped [] = Some []
unescaped (byte ∷ []) = if byte == backslash || byte == newline then None else Some (byte ∷ [])
unescaped (byte ∷ next ∷ bytes) =
    if byte == backslash then with_byte (escape_meant next) (unescaped bytes)
    else if byte == newline then None else with_byte (Some byte) (unescaped (next ∷ bytes))

abbrev pub saying : List ℕ → List ℕ → WireLine
saying word text = record { word = word; text = text }

-- what a word and an escaped text behind a space say
abbrev pub said_behind : List ℕ → List ℕ → Option WireLine
said_behind word [] = None
said_behind word (byte ∷ bytes) = option_map (saying word) (unescaped (byte ∷ bytes))

-- what a line says
abbrev pub said : List ℕ → Option WireLine
said line =
    if list_any (λ byte. byte == space) line
    then said_behind (before_first (λ byte. byte == space) line) (after_first (λ byte. byte == space) line)
    else Some (saying line [])

-- ---- a question

-- the lines that came of a question
abbrev pub part_lines : QuestionPart → List (List ℕ)
part_lines part.Nothing = []
part_lines (part.Named name) = wire_line (codes "question") name ∷ []
part_lines (part.OfKind name kind) = wire_line (codes "question") name ∷ wire_line (codes "kind") (kind_word kind) ∷ []
part_lines (part.Described name kind description) =
    wire_line (codes "question") name ∷ wire_line (codes "kind") (kind_word kind) ∷ wire_line (codes "description") description ∷ []
part_lines (part.Explained shown) =
    heading_lines shown.name shown.kind shown.description shown.extended ++ choice_lines shown.choices shown.labels
part_lines (part.Chosen shown choice) =
    heading_lines shown.name shown.kind shown.description shown.extended ++ choice_lines shown.choices shown.labels
    ++ wire_line (codes "choice") choice ∷ []

-- its value didn't come yet
abbrev pub is_open : Shown → Bool
is_open shown = is_question shown && is_nil shown.value

-- they are lines of a question
abbrev pub is_part : QuestionPart → Bool
is_part part.Nothing = true
is_part (part.Named name) = is_name name
is_part (part.OfKind name kind) = is_name name
is_part (part.Described name kind description) = is_name name
is_part (part.Explained shown) = is_open shown
is_part (part.Chosen shown choice) = is_open shown

abbrev pub of_kind : List ℕ → Option Kind → Option PartStep
of_kind name None = None
of_kind name (Some kind) = Some (step.More (part.OfKind name kind))

abbrev pub explained : List ℕ → Kind → List ℕ → List ℕ → Shown
explained name kind description extended =
    record { name = name; kind = kind; description = description; extended = extended; choices = []; labels = []; value = [] }

abbrev pub with_choice : Shown → List ℕ → List ℕ → Shown
with_choice shown choice label = record shown { choices = shown.choices ++ choice ∷ []; labels = shown.labels ++ label ∷ [] }

-- what one more line makes of them
abbrev pub part_step : QuestionPart → List ℕ → List ℕ → Option PartStep
part_step part.Nothing word text = if bytes_eq word (codes "question") && is_name text then Some (step.More (part.Named text)) else None
part_step (part.Named name) word text = if bytes_eq word (codes "kind") then of_kind name (kind_of text) else None
part_step (part.OfKind name kind) word text =
    if bytes_eq word (codes "description") then Some (step.More (part.Described name kind text)) else None
part_step (part.Described name kind description) word text =
    if bytes_eq word (codes "extended") then Some (step.More (part.Explained (explained name kind description text))) else None
part_step (part.Explained shown) word text =
    if bytes_eq word (codes "choice") then Some (step.More (part.Chosen shown text))
    else if bytes_eq word (codes "value") then Some (step.Whole (record shown { value = text })) else None
part_step (part.Chosen shown choice) word text =
    if bytes_eq word (codes "label") then Some (step.More (part.Explained (with_choice shown choice text))) else None

-- ---- a call

-- the lines that came of a call
abbrev pub begun_lines : Begun → List (List ℕ)
begun_lines Nothing = []
begun_lines (Titled title) = wire_line (codes "title") title ∷ []
begun_lines (Asking title backup shown part) = opening_lines title backup ++ flat_map question_lines shown ++ part_lines part

-- the same as they came
abbrev pub lines_begun : Begun → List Line
lines_begun begun = each line.Whole (begun_lines begun)

-- they are lines of a call
abbrev pub is_begun : Begun → Bool
is_begun Nothing = true
is_begun (Titled title) = true
is_begun (Asking title backup shown part) = list_all is_question shown && is_part part

abbrev pub first_step : List ℕ → List ℕ → Option Step
first_step word text =
    if bytes_eq word (codes "title") then Some (Begins (Titled text))
    else if bytes_eq word (codes "tell") then Some (Completes (Tell text)) else None

abbrev pub titled_step : List ℕ → List ℕ → List ℕ → Option Step
titled_step title word text =
    if bytes_eq word (codes "backup") && bytes_eq text (codes "true") then Some (Begins (Asking title true [] part.Nothing))
    else if bytes_eq word (codes "backup") && bytes_eq text (codes "false") then Some (Begins (Asking title false [] part.Nothing))
    else None

-- no question is begun
abbrev pub is_between : QuestionPart → Bool
is_between part.Nothing = true
is_between part = false

abbrev pub with_part : List ℕ → Bool → List Shown → Option PartStep → Option Step
with_part title backup shown None = None
with_part title backup shown (Some (step.More part)) = Some (Begins (Asking title backup shown part))
with_part title backup shown (Some (step.Whole question)) = Some (Begins (Asking title backup (shown ++ question ∷ []) part.Nothing))

-- `ask` may come behind at least one question
abbrev pub asks : List Shown → QuestionPart → List ℕ → List ℕ → Bool
asks shown part word text = bytes_eq word (codes "ask") && is_nil text && not (is_nil shown) && is_between part

abbrev pub asking_step : List ℕ → Bool → List Shown → QuestionPart → List ℕ → List ℕ → Option Step
asking_step title backup shown part word text =
    if asks shown part word text then Some (Completes (Ask title backup shown)) else with_part title backup shown (part_step part word text)

abbrev pub said_step : Begun → WireLine → Option Step
said_step Nothing said = first_step said.word said.text
said_step (Titled title) said = titled_step title said.word said.text
said_step (Asking title backup shown part) said = asking_step title backup shown part said.word said.text

abbrev pub maybe_said_step : Begun → Option WireLine → Option Step
maybe_said_step begun None = None
maybe_said_step begun (Some said) = said_step begun said

-- what one more line makes of the lines that came
abbrev pub step_by : Begun → Line → Option Step
step_by begun line.TooLong = None
step_by begun (line.Whole bytes) = maybe_said_step begun (said bytes)

-- a function answers what the machine does, unless memory runs out
abbrev pub Gives : {S : Type 0} → Result S WireError → Option S → Type 0
Gives (Ok s) found = found ≡ Some s
Gives (Err Bad) found = found ≡ None
Gives (Err OutOfMemory) found = ⊤
