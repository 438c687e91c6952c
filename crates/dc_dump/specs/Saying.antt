-- What is said of questions (debconf-get-selections(1)), over the layers of a store.
use Rattle.std.specs.Prelude.{ℕ, Bool, false, not, List, [], Option, Some, None, option_map, option_and_then, codes, if◌then◌else◌}
use Rattle.std.specs.FinMap as map
use Rattle.std.specs.List.{filter, flat_map}
use Rattle.std.specs.Option.{option_map_or}
use Rattle.dc_text.specs.Lines.{text_of}
use Rattle.dc_item.specs.Item.{ItemParts}
use Rattle.dc_layer.specs.State.{LayerState}
use Rattle.dc_question.specs.Readings.{kind_by, value_of}
use Rattle.dc_question.specs.Questions.{QuestionContext, question, template}
use Rattle.dc_dump.specs.AnswerLines.{is_sayable, lines_of}
use Rattle.dc_dump.specs.declared.answers.Answer.{Answer}
use Rattle.dc_dump.specs.declared.saying.Said.{Said}

-- the answer of a question of this item: its owners in byte order, its kind and its value, and whether it was seen
abbrev pub answer_of : List LayerState → QuestionContext → ItemParts → Answer
answer_of layers at item = record {
  owners = map.keys item.owners;
  kind = kind_by (template layers at item);
  value = value_of at.lang item (template layers at item);
  seen = map.contains_key item.flags (codes "seen");
}

-- the answer of a name, where a question has it
abbrev pub answer_at : List LayerState → QuestionContext → List ℕ → Option Answer
answer_at layers at name = option_map (answer_of layers at) (question layers at name)

-- the answer of a name, where it can be said
abbrev pub said_at : List LayerState → QuestionContext → List ℕ → Option Answer
said_at layers at name = option_and_then (λ answer. if is_sayable name answer then Some answer else None) (answer_at layers at name)

-- the lines of a name, which has none where nothing is said of it
abbrev pub lines_at : List LayerState → QuestionContext → List ℕ → List (List ℕ)
lines_at layers at name = option_map_or (lines_of name) (said_at layers at name) []

-- a question has the name, and can't be said
abbrev pub is_left_out : List LayerState → QuestionContext → List ℕ → Bool
is_left_out layers at name = option_map_or (λ answer. not (is_sayable name answer)) (answer_at layers at name) false

-- the lines of those of the questions that can be said, as one text
abbrev pub said_text : List LayerState → QuestionContext → List (List ℕ) → List ℕ
said_text layers at names = text_of (flat_map (lines_at layers at) names)

-- those of which nothing can be said
abbrev pub left_out : List LayerState → QuestionContext → List (List ℕ) → List (List ℕ)
left_out layers at names = filter (is_left_out layers at) names

-- what is said of questions
abbrev pub said_of : List LayerState → QuestionContext → List (List ℕ) → Said
said_of layers at names = record { text = said_text layers at names; left_out = left_out layers at names }
