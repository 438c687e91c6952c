-- What is written of more questions.
use Rattle.std.proofs.Common.{◌≡◌, ℕ, ◌+◌, ◌<◌, List, [], ◌∷◌, ◌++◌, length, take, get_or, Option, Some, sym, ap, ◌∙◌}
use Rattle.std.specs.Prelude.{option_map, codes}
use Rattle.std.specs.FinMap.{contains_key}
use Rattle.std.specs.List.{filter_map, cons_option}
use Rattle.std.proofs.lemmas.List.{append-nil, take_more}
use Rattle.std.proofs.lemmas.List.Elements.{filter_map-append}
use Rattle.dc_text.specs.Ascii.{newline}
use Rattle.dc_text.specs.Lines.{text_of}
use Rattle.dc_text.proofs.LineLaws.{text_of-append}
use Rattle.dc_item.specs.Item.{ItemParts, with_field}
use Rattle.dc_layer.specs.State.{LayerState}
use Rattle.dc_question.specs.Questions.{QuestionContext, question, template}
use Rattle.dc_question.specs.Readings.{kind_by, value_of}
use Rattle.dc_template.specs.declared.kinds.Kind.TheVariants.{Password}
use Rattle.dc_tools.specs.Showing.{question_line, item_line, line_of, show_text_of}

pub show-append : (ls : List LayerState) (at : QuestionContext) (xs ys : List (List ℕ)) → show_text_of ls at (xs ++ ys) ≡ show_text_of ls at xs ++ show_text_of ls at ys
show-append ls at xs ys = ap text_of (filter_map-append (line_of ls at) xs ys) ∙ text_of-append (filter_map (line_of ls at) xs) (filter_map (line_of ls at) ys)

-- the next name
pub show_more : (ls : List LayerState) (at : QuestionContext) (xs : List (List ℕ)) (i : ℕ) (x : List ℕ) → i < length xs → x ≡ get_or xs i x
    → show_text_of ls at (take i xs) ++ show_text_of ls at (x ∷ []) ≡ show_text_of ls at (take (i + 1) xs)
show_more ls at xs i x lt is =
    sym (show-append ls at (take i xs) (x ∷ [])) ∙ ap (show_text_of ls at) (ap (λ y. take i xs ++ y ∷ []) is ∙ sym (take_more xs i x lt))

-- the same of a list that is the same
pub show_turn : (ls : List LayerState) (at : QuestionContext) (xs ys : List (List ℕ)) (i : ℕ) (x text new : List ℕ) → ys ≡ xs → i < length ys → x ≡ get_or ys i x
    → text ≡ show_text_of ls at (take i xs) → new ≡ text ++ show_text_of ls at (x ∷ []) → new ≡ show_text_of ls at (take (i + 1) xs)
show_turn ls at xs ys i x text new same lt is was more =
    more ∙ ap (λ t. t ++ show_text_of ls at (x ∷ [])) (was ∙ ap (λ zs. show_text_of ls at (take i zs)) (sym same))
    ∙ show_more ls at ys i x lt is ∙ ap (λ zs. show_text_of ls at (take (i + 1) zs)) same

-- of a name that a question has its line is written
pub show_some : (ls : List LayerState) (at : QuestionContext) (lang n : List ℕ) (item : ItemParts) (of : Option ItemParts) → lang ≡ at.lang → Some item ≡ question ls at n
    → of ≡ template ls at item → item_line lang n item of ++ newline ∷ [] ≡ show_text_of ls at (n ∷ [])
show_some ls at lang n item of said is same =
    (λ i. item_line (said i) n item (same i) ++ newline ∷ [])
    ∙ sym (append-nil (item_line at.lang n item (template ls at item) ++ newline ∷ []))
    ∙ ap (λ o. text_of (cons_option (option_map (λ item. item_line at.lang n item (template ls at item)) o) [])) is

-- of a password no value is written
pub hidden : (lang name value : List ℕ) (item : ItemParts) (of : Option ItemParts) → kind_by of ≡ Some Password
    → item_line lang name (with_field item (codes "value") value) of ≡ item_line lang name item of
hidden lang name value item of is =
    let seen = contains_key item.flags (codes "seen") in
    ap (λ k. question_line seen name k (value_of lang (with_field item (codes "value") value) of)) is
    ∙ sym (ap (λ k. question_line seen name k (value_of lang item of)) is)
