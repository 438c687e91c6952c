-- The wire between a session and the program that holds its dialogue: which lines each end sends.
use Rattle.std.specs.Prelude.{ℕ, Bool, true, false, not, ◌&&◌, ◌||◌, ◌==◌, nat_le, List, [], ◌∷◌, ◌++◌, length, map as each, Option, Some, None, codes, if◌then◌else◌}
use Rattle.std.specs.List.{flat_map, list_all}
use Rattle.dc_text.specs.Bytes.{is_nil}
use Rattle.dc_text.specs.Names.{is_name}
use Rattle.dc_words.specs.Stream.{max_line}
use Rattle.dc_words.specs.Choices.{choice_text}
use Rattle.dc_proto.specs.Replies.{told_text}
use Rattle.dc_template.specs.Kinds.{kind_word}
use Rattle.dc_template.specs.declared.kinds.Kind.{Kind}
use Rattle.dc_template.specs.declared.kinds.Kind.TheVariants.{Str, Bool as Boolean, Select, Multiselect, Password}
use Rattle.dc_frontend.specs.declared.shown.Shown.{Shown}
use Rattle.dc_teletype.specs.Keys.{is_one_of}
use Rattle.dc_teletype.specs.declared.teletype.Answer.{Answer}
use Rattle.dc_teletype.specs.declared.teletype.Answer.TheVariants.{Keep, Value}
use Rattle.dc_teletype.specs.declared.teletype.Asked.{Asked}
use Rattle.dc_teletype.specs.declared.teletype.Asked.TheVariants.{Answers, Back}
use Rattle.dc_pass.specs.declared.calls.WireCall.{WireCall}
use Rattle.dc_pass.specs.declared.calls.WireCall.TheVariants.{Ask, Tell}

-- a line: a word, and where the text isn't empty a space and the text, escaped
abbrev pub wire_line : List ℕ → List ℕ → List ℕ
wire_line word text = word ++ told_text true text

-- a line that isn't too long
abbrev pub fits : List ℕ → Bool
fits line = nat_le (length line) max_line

-- ---- what the session sends

-- each choice, and its label
abbrev pub choice_lines : List (List ℕ) → List (List ℕ) → List (List ℕ)
choice_lines [] labels = []
choice_lines (choice ∷ choices) [] = []
choice_lines (choice ∷ choices) (label ∷ labels) = wire_line (codes "choice") choice ∷ wire_line (codes "label") label ∷ choice_lines choices labels

-- what stands before the choices of a question
abbrev pub heading_lines : List ℕ → Kind → List ℕ → List ℕ → List (List ℕ)
heading_lines name kind description extended =
    wire_line (codes "question") name ∷ wire_line (codes "kind") (kind_word kind) ∷ wire_line (codes "description") description
    ∷ wire_line (codes "extended") extended ∷ []

-- a question
abbrev pub question_lines : Shown → List (List ℕ)
question_lines shown =
    heading_lines shown.name shown.kind shown.description shown.extended ++ choice_lines shown.choices shown.labels
    ++ wire_line (codes "value") shown.value ∷ []

-- how it is said whether the user can go back
abbrev pub backup_word : Bool → List ℕ
backup_word backup = if backup then codes "true" else codes "false"

-- the title, and whether the user can go back
abbrev pub opening_lines : List ℕ → Bool → List (List ℕ)
opening_lines title backup = wire_line (codes "title") title ∷ wire_line (codes "backup") (backup_word backup) ∷ []

-- a request: it is opened, the questions stand in order, and they are asked
abbrev pub request_lines : List ℕ → Bool → List Shown → List (List ℕ)
request_lines title backup shown = opening_lines title backup ++ flat_map question_lines shown ++ codes "ask" ∷ []

-- what the session calls for: a request, or a line that is told
abbrev pub call_lines : WireCall → List (List ℕ)
call_lines (Ask title backup shown) = request_lines title backup shown
call_lines (Tell text) = wire_line (codes "tell") text ∷ []

-- a question that can be asked: it has a name, and each choice a label
abbrev pub is_question : Shown → Bool
is_question shown = is_name shown.name && length shown.labels == length shown.choices

-- a request asks at least one question
abbrev pub is_call : WireCall → Bool
is_call (Ask title backup shown) = not (is_nil shown) && list_all is_question shown
is_call (Tell text) = true

-- ---- what the other end sends

-- an answer
abbrev pub answer_line : Answer → List ℕ
answer_line Keep = codes "keep"
answer_line (Value value) = wire_line (codes "value") value

-- a reply: the answers in order, and `done`; or `back`
abbrev pub reply_lines : Asked → List (List ℕ)
reply_lines (Answers answers) = each answer_line answers ++ codes "done" ∷ []
reply_lines Back = codes "back" ∷ []

-- an answer as it is sent: one whose line is too long, as though the value were kept
abbrev pub sent_answer : Answer → Answer
sent_answer answer = if fits (answer_line answer) then answer else Keep

abbrev pub sent_reply : Asked → Asked
sent_reply (Answers answers) = Answers (each sent_answer answers)
sent_reply Back = Back

-- what stands behind this front of the bytes, where they have it
abbrev pub behind : List ℕ → List ℕ → Option (List ℕ)
behind [] bytes = Some bytes
behind (byte ∷ front) [] = None
behind (byte ∷ front) (other ∷ bytes) = if byte == other then behind front bytes else None

-- there is something, and it passes
abbrev pub some_passes : (List ℕ → Bool) → Option (List ℕ) → Bool
some_passes test None = false
some_passes test (Some bytes) = test bytes

-- a choice as it is joined to those before it
abbrev pub further : List ℕ → List ℕ
further choice = codes ", " ++ choice_text true choice

-- the text is some of the choices in order, each once, and each with a comma and a space before it
abbrev pub are_further : List (List ℕ) → List ℕ → Bool
are_further [] text = is_nil text
are_further (choice ∷ choices) text = are_further choices text || some_passes (are_further choices) (behind (further choice) text)

-- the value is some of the choices in order, each once, joined
abbrev pub are_joined : List (List ℕ) → List ℕ → Bool
are_joined choices value = is_nil value || are_further choices (codes ", " ++ value)

-- a value that a question of a kind can be answered over the wire
abbrev pub is_value : Kind → List (List ℕ) → List ℕ → Bool
is_value Str choices value = true
is_value Password choices value = true
is_value Boolean choices value = is_one_of (codes "true" ∷ codes "false" ∷ []) value
is_value Select choices value = is_one_of choices value
is_value Multiselect choices value = are_joined choices value
is_value kind choices value = false

-- an answer to a question
abbrev pub can_answer : Shown → Answer → Bool
can_answer shown Keep = true
can_answer shown (Value value) = is_value shown.kind shown.choices value

-- an answer to each question
abbrev pub answer_all : List Shown → List Answer → Bool
answer_all [] [] = true
answer_all [] (answer ∷ others) = false
answer_all (shown ∷ questions) [] = false
answer_all (shown ∷ questions) (answer ∷ others) = can_answer shown answer && answer_all questions others

-- a reply to these questions; the user can go back only where that was said
abbrev pub is_reply : Bool → List Shown → Asked → Bool
is_reply backup shown (Answers all) = answer_all shown all
is_reply backup shown Back = backup
