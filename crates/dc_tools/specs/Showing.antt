-- What `show` writes of questions (debconf-show(1)): a line for each.
use Rattle.std.specs.Prelude.{ℕ, Bool, true, false, List, [], ◌∷◌, ◌++◌, Option, Some, option_map, codes, if◌then◌else◌}
use Rattle.std.specs.List.{filter_map}
use Rattle.std.specs.FinMap as map
use Rattle.dc_text.specs.Ascii.{space, colon}
use Rattle.dc_text.specs.Bytes.{is_nil}
use Rattle.dc_text.specs.Lines.{text_of}
use Rattle.dc_text.specs.Settled.{newlines_shown}
use Rattle.dc_item.specs.Item.{ItemParts}
use Rattle.dc_template.specs.declared.kinds.Kind.{Kind}
use Rattle.dc_template.specs.declared.kinds.Kind.TheVariants.{Password}
use Rattle.dc_layer.specs.State.{LayerState}
use Rattle.dc_store.specs.Plans.{owned}
use Rattle.dc_question.specs.Readings.{kind_by, value_of}
use Rattle.dc_question.specs.Questions.{QuestionContext, question, template}

abbrev pub is_password : Option Kind → Bool
is_password (Some Password) = true
is_password _ = false

-- the mark in front of a question: a star where the user has seen it
abbrev pub mark : Bool → List ℕ
mark true = codes "* "
mark false = codes "  "

-- a value that isn't empty, behind a space, in one line
abbrev pub shown_value : List ℕ → List ℕ
shown_value value = if is_nil value then [] else space ∷ newlines_shown value

-- what stands behind the name: the value, but of a password, whatever it is, that it is left out
abbrev pub shown_answer : Option Kind → List ℕ → List ℕ
shown_answer kind value = if is_password kind then codes " (password omitted)" else shown_value value

-- the line of a question, by whether it was seen, its name, its kind and its value
abbrev pub question_line : Bool → List ℕ → Option Kind → List ℕ → List ℕ
question_line seen name kind value = mark seen ++ (name ++ (colon ∷ shown_answer kind value))

-- the line of a question of this item and this template
abbrev pub item_line : List ℕ → List ℕ → ItemParts → Option ItemParts → List ℕ
item_line lang name item template =
    question_line (map.contains_key item.flags (codes "seen")) name (kind_by template) (value_of lang item template)

-- the line of a name, where a question has it
abbrev pub line_of : List LayerState → QuestionContext → List ℕ → Option (List ℕ)
line_of layers at name = option_map (λ item. item_line at.lang name item (template layers at item)) (question layers at name)

-- a line for each of the questions
abbrev pub show_lines : List LayerState → QuestionContext → List (List ℕ) → List (List ℕ)
show_lines layers at names = filter_map (line_of layers at) names

-- what is written of some questions
abbrev pub show_text_of : List LayerState → QuestionContext → List (List ℕ) → List ℕ
show_text_of layers at names = text_of (show_lines layers at names)

-- what is written of an owner: of each question that it has, in byte order
abbrev pub owner_text : List LayerState → QuestionContext → List ℕ → List ℕ
owner_text layers at owner = show_text_of layers at (owned layers at.config owner)
