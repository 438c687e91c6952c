-- The kinds of questions, and the words for them in a template's field `type`.
use Rattle.std.specs.Prelude.{ℕ, List, [], ◌∷◌, Option, codes}
use Rattle.std.specs.List.{find}
use Rattle.std.specs.Str.{bytes_eq}
use Rattle.dc_template.specs.declared.kinds.Kind.{Kind}
use Rattle.dc_template.specs.declared.kinds.Kind.TheVariants.{Str, Bool, Select, Multiselect, Password, Note, Txt, Error, Title}

abbrev pub kind_word : Kind → List ℕ
kind_word Str = codes "string"
kind_word Bool = codes "boolean"
kind_word Select = codes "select"
kind_word Multiselect = codes "multiselect"
kind_word Password = codes "password"
kind_word Note = codes "note"
kind_word Txt = codes "text"
kind_word Error = codes "error"
kind_word Title = codes "title"

abbrev pub all_kinds : List Kind
all_kinds = Str ∷ Bool ∷ Select ∷ Multiselect ∷ Password ∷ Note ∷ Txt ∷ Error ∷ Title ∷ []

-- the kind that has this word
abbrev pub kind_of : List ℕ → Option Kind
kind_of word = find (λ kind. bytes_eq (kind_word kind) word) all_kinds
