-- What is said, as `set-selections` sets it again where nothing of it stood.
use Rattle.std.specs.Prelude.{◌≡◌, ◌≢◌, ℕ, true, false, List, Option, None, IfSome}
use Rattle.std.specs.List.{AllByRecursion}
use Rattle.dc_text.specs.Names.{is_name}
use Rattle.dc_text.specs.Settled.{is_settled}
use Rattle.dc_conf.specs.Plans.{are_disjoint}
use Rattle.dc_item.specs.Item.{IsItem}
use Rattle.dc_layer.specs.State.{LayerState}
use Rattle.dc_store.specs.Plans.{look}
use Rattle.dc_question.specs.Questions.{QuestionContext, question, template}
use Rattle.dc_preseed.specs.Selecting.{SelectorState, DoesText}
use Rattle.dc_dump.specs.Saying.{answer_at, said_at}
use Rattle.dc_dump.specs.declared.answers.Answer.{Answer}

-- ---- what is said

-- where a question has the name, that is a name, and the question and its template are items
abbrev pub IsHeld : List LayerState → QuestionContext → List ℕ → Type 0
IsHeld layers at name = IfSome (question layers at name) (λ item. (is_name name ≡ true) × IsItem item × IfSome (template layers at item) IsItem)

-- ---- where it is set

-- neither a question nor a template has the name
pub record IsNew (layers : List LayerState) (at : QuestionContext) (name : List ℕ) : Type 0 where
  pub question : question layers at name ≡ None
  pub template : look layers at.templates name ≡ None

-- selections without options, over plans that share no layer, in which none of the names is there
pub record BeginsAnew (names : List (List ℕ)) (start : SelectorState) : Type 0 where
  pub checks : start.choices.check ≡ false
  pub leaves_unseen : start.choices.unseen ≡ false
  pub apart : are_disjoint start.at.config start.at.templates ≡ true
  pub names_are : AllByRecursion (IsNew start.store.layers start.at) names

-- ---- what is left

-- A name of which this was said answers the same, unless the pair of a backslash and an n stands in it. Where nothing was said of it, no
-- question has it.
pub record IsSetAgain (said : Option Answer) (layers : List LayerState) (at : QuestionContext) (name : List ℕ) : Type 0 where
  pub same : is_settled name ≡ true → answer_at layers at name ≡ said
  pub none : said ≡ None → question layers at name ≡ None

-- each of the names answers what was said of it, and any other name has the question that it had
pub record AreSetAgain (said : List ℕ → Option Answer) (names : List (List ℕ)) (start left : SelectorState) : Type 0 where
  pub named : AllByRecursion (λ name. IsSetAgain (said name) left.store.layers start.at name) names
  pub others : (name : List ℕ) → AllByRecursion (λ other. other ≢ name) names
      → question left.store.layers start.at name ≡ question start.store.layers start.at name

-- wherever selections begin anew, do the text and refuse no line of it, they set again what is said of the names
abbrev pub SetsAgain : List LayerState → QuestionContext → List (List ℕ) → List ℕ → Type 0
SetsAgain layers at names text =
    (start left : SelectorState) → BeginsAnew names start → DoesText text start left → left.refused ≡ false → AreSetAgain (said_at layers at) names start left
