-- What a question says, from its own item and from its template (debconf-devel(7)).
use Rattle.std.specs.Prelude.{ℕ, Bool, ◌||◌, nat_eq, List, [], ◌∷◌, length, Option, None, option_map, option_and_then, unwrap_or, codes, if◌then◌else◌}
use Rattle.std.specs.Option.{option_or}
use Rattle.std.specs.Str.{bytes_eq}
use Rattle.std.specs.FinMap as map
use Rattle.dc_words.specs.Choices.{choices_of}
use Rattle.dc_text.specs.Maps.{Texts}
use Rattle.dc_item.specs.Item.{ItemParts}
use Rattle.dc_template.specs.Expansion.{expanded}
use Rattle.dc_template.specs.Forms.{is_field_of, is_description, is_extended}
use Rattle.dc_template.specs.Kinds.{kind_of}
use Rattle.dc_template.specs.Languages.{keys_tried_of}
use Rattle.dc_template.specs.declared.kinds.Kind.{Kind}
use Rattle.dc_question.specs.declared.choices.ChoicePair.{ChoicePair}

-- ---- the template

-- the template of a question: the item that its field `template` names, if there is one of this name
abbrev pub template_of : (List ℕ → Option ItemParts) → ItemParts → Option ItemParts
template_of templates question = option_and_then templates (map.get question.fields (codes "template"))

-- the kind of a question: what the field `type` of its template says
abbrev pub kind_by : Option ItemParts → Option Kind
kind_by template = option_and_then (λ item. option_and_then kind_of (map.get item.fields (codes "type"))) template

-- ---- fields

-- what stands under the first of the keys that is there
abbrev pub first_of_keys : Texts (List ℕ) → List (List ℕ) → Option (List ℕ)
first_of_keys fields [] = None
first_of_keys fields (key ∷ keys) = option_or (map.get fields key) (first_of_keys fields keys)

-- the keys under which a field is looked for: those of the user's language, but `type` is in no language
abbrev pub keys_of : List ℕ → List ℕ → List (List ℕ)
keys_of lang key = if bytes_eq key (codes "type") then key ∷ [] else keys_tried_of lang key

-- a field of a template in the user's language
abbrev pub localised : List ℕ → ItemParts → List ℕ → Option (List ℕ)
localised lang template key = first_of_keys template.fields (keys_of lang key)

-- the fields whose text may refer to the question's variables: descriptions, extended descriptions and choices
abbrev pub has_references : List ℕ → Bool
has_references key = is_description key || (is_extended key || is_field_of (codes "choices") key)

-- the text of a field with the question's variables put in
abbrev pub filled_in : ItemParts → List ℕ → List ℕ → List ℕ
filled_in question key text = if has_references key then expanded question.variables text else text

-- a field of the template in the user's language, with the question's variables put in
abbrev pub field_of : List ℕ → ItemParts → ItemParts → List ℕ → Option (List ℕ)
field_of lang question template key = option_map (filled_in question key) (localised lang template key)

-- ---- values

-- the default that a template gives
abbrev pub default_of : List ℕ → Option ItemParts → Option (List ℕ)
default_of lang template = option_and_then (λ item. localised lang item (codes "default")) template

-- the value of a question: its own, else the default in the user's language, else the empty text
abbrev pub value_of : List ℕ → ItemParts → Option ItemParts → List ℕ
value_of lang question template = unwrap_or (option_or (map.get question.fields (codes "value")) (default_of lang template)) []

-- ---- choices

-- the choices that values are made of, which are in no language
abbrev pub plain_choices : ItemParts → ItemParts → List (List ℕ)
plain_choices question template = choices_of (filled_in question (codes "choices") (unwrap_or (map.get template.fields (codes "choices")) []))

-- the choices as the user reads them
abbrev pub shown_choices : List ℕ → ItemParts → ItemParts → List (List ℕ)
shown_choices lang question template = choices_of (unwrap_or (field_of lang question template (codes "choices")) [])

-- labels pair with plain choices where there are as many, and else the plain choices are their own labels
abbrev pub paired : List (List ℕ) → List (List ℕ) → ChoicePair
paired plain labels = record { plain = plain; labels = if nat_eq (length labels) (length plain) then labels else plain }

-- the choices of a question, each with its label
abbrev pub choices_by : List ℕ → ItemParts → ItemParts → ChoicePair
choices_by lang question template = paired (plain_choices question template) (shown_choices lang question template)
