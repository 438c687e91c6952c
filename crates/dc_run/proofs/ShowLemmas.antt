-- What is printed of more owners, and of all answers.
use Rattle.std.proofs.Common.{◌≡◌, inr, ℕ, ◌+◌, ◌<◌, List, [], ◌∷◌, ◌++◌, length, take, get_or, refl, sym, ap, subst, ◌∙◌}
use Rattle.std.proofs.lemmas.List.{take_more}
use Rattle.std.proofs.Common.{append_assoc}
use Rattle.dc_layer.specs.State.{LayerState}
use Rattle.dc_question.specs.Questions.{QuestionContext}
use Rattle.dc_tools.specs.Showing.{owner_text}
use Rattle.std.specs.Prelude.{Result, Ok, Err, IfOk}
use Rattle.dc_conf.specs.Configuration.{Configuration}
use Rattle.dc_cli.specs.declared.tool.Shown.{Shown}
use Rattle.dc_cli.specs.declared.tool.Shown.TheVariants.{Questions}
use Rattle.dc_dump.specs.declared.saying.Said.{Said}
use Rattle.dc_outside.specs.State.{LinkState}
use Rattle.dc_run.specs.EndLines.{HasSaid}
use Rattle.dc_run.specs.Inside.{HasPrintedAnswers, PrintsAnswers, owners_texts}
use Rattle.dc_run.specs.declared.outcome.ToolAnswer.{ToolAnswer}
use Rattle.dc_run.proofs.Saying.{none_said}
use Rattle.dc_run.specs.Jobs.{shown_text}

owners-append : (ls : List LayerState) (at : QuestionContext) (xs ys : List (List ℕ)) → owners_texts ls at (xs ++ ys) ≡ owners_texts ls at xs ++ owners_texts ls at ys
owners-append ls at [] ys = refl
owners-append ls at (x ∷ xs) ys = ap (λ t. owner_text ls at x ++ t) (owners-append ls at xs ys) ∙ sym (append_assoc (owner_text ls at x) (owners_texts ls at xs) (owners_texts ls at ys))

owners_more : (ls : List LayerState) (at : QuestionContext) (xs : List (List ℕ)) (i : ℕ) (x : List ℕ) → i < length xs → x ≡ get_or xs i x
    → owners_texts ls at (take i xs) ++ owners_texts ls at (x ∷ []) ≡ owners_texts ls at (take (i + 1) xs)
owners_more ls at xs i x lt is =
    sym (owners-append ls at (take i xs) (x ∷ [])) ∙ ap (owners_texts ls at) (ap (λ y. take i xs ++ y ∷ []) is ∙ sym (take_more xs i x lt))

-- the next owner
pub owners_turn : (ls : List LayerState) (at : QuestionContext) (xs ys : List (List ℕ)) (i : ℕ) (x text new : List ℕ) → ys ≡ xs → i < length ys → x ≡ get_or ys i x
    → text ≡ owners_texts ls at (take i xs) → new ≡ text ++ owners_texts ls at (x ∷ []) → new ≡ owners_texts ls at (take (i + 1) xs)
owners_turn ls at xs ys i x text new same lt is was more =
    more ∙ ap (λ t. t ++ owners_texts ls at (x ∷ [])) (was ∙ ap (λ zs. owners_texts ls at (take i zs)) (sym same))
    ∙ owners_more ls at ys i x lt is ∙ ap (λ zs. owners_texts ls at (take (i + 1) zs)) same

-- what is shown of owners
pub shown_questions : {E : Type 0} (shown : Shown) (owners : List (List ℕ)) (conf : Configuration) (ls old : List LayerState) (made at : QuestionContext) (result : Result (List ℕ) E) → shown ≡ Questions owners
    → ls ≡ old → made ≡ at → IfOk result (λ text. text ≡ owners_texts ls made owners) → IfOk result (λ text. text ≡ shown_text shown conf old at)
shown_questions shown owners conf ls old made at (Ok text) is same context text_is = text_is ∙ (λ i. owners_texts (same i) (context i) owners) ∙ ap (λ (s : Shown). shown_text s conf old at) (sym is)
shown_questions shown owners conf ls old made at (Err error) is same context text_is = tt

-- the answers were printed that were made, or none, for want of memory
pub was_printed : {E : Type 0} (made : Result Said E) (answers : Said) (old new err new_err : LinkState) (before : ℕ) (answer : ToolAnswer) → IfOk made (λ said. said ≡ answers)
    → PrintsAnswers made old new err new_err before answer → HasPrintedAnswers answers old new err new_err before answer
was_printed (Ok said) answers old new err new_err before answer is printed = subst (λ (s : Said). HasPrintedAnswers s old new err new_err before answer) is printed
was_printed (Err error) answers old new err new_err before answer is none =
    subst (λ (a : ToolAnswer). HasPrintedAnswers answers old new err new_err before a) (sym none.2)
    (record {
      prints = inr none.0;
      told = record { said = []; tells = refl; telling = subst (HasSaid [] err) (sym none.1) (none_said err) };
      code_is = refl;
      waits = refl;
    })
