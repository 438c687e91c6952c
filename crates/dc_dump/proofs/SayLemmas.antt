-- What is said of names that are read one after another.
use Rattle.std.proofs.Common.{◌≡◌, ℕ, ◌+◌, ◌<◌, ◌≤◌, length, take, get_or, List, [], ◌∷◌, ◌++◌, sym, ap, subst, ◌∙◌}
use Rattle.std.proofs.lemmas.Grind.{flat_map-append}
use Rattle.std.proofs.lemmas.List.{take_all, take_more}
use Rattle.std.proofs.lemmas.List.Elements.{All-append, All-cons, All-nil, filter-append, recursion_from_All}
use Rattle.std.specs.List.{All, flat_map}
use Rattle.dc_text.specs.Lines.{text_of}
use Rattle.dc_text.specs.Maps.{AreDistinct}
use Rattle.dc_layer.specs.State.{LayerState}
use Rattle.dc_question.specs.Questions.{QuestionContext}
use Rattle.dc_dump.proofs.AgainLemmas.{set_again}
use Rattle.dc_dump.specs.Saying.{is_left_out, left_out, lines_at, said_of, said_text}
use Rattle.dc_dump.specs.SetAgain.{IsHeld, SetsAgain}
use Rattle.dc_dump.specs.declared.saying.Said.{Said}

-- what is read of so many of the names: what is said of them, and that they are held
pub record AreRead (layers : List LayerState) (at : QuestionContext) (names : List (List ℕ)) (count : ℕ) (said : Said) : Type 0 where
  pub text : said.text ≡ said_text layers at (take count names)
  pub left_out : said.left_out ≡ left_out layers at (take count names)
  pub held : All (IsHeld layers at) (take count names)

module _ (layers : List LayerState) (at : QuestionContext) (names items : List (List ℕ)) (same : items ≡ names) (count : ℕ) where
  pub read_more : (name : List ℕ) (old new : Said) → count < length items → name ≡ get_or items count name → AreRead layers at names count old
      → new.text ≡ old.text ++ said_text layers at (name ∷ []) → new.left_out ≡ old.left_out ++ left_out layers at (name ∷ []) → IsHeld layers at name → AreRead layers at names (count + 1) new
  read_more name old new below is read text left held =
      let more : take (count + 1) names ≡ take count names ++ name ∷ [] = ap (take (count + 1)) (sym same) ∙ take_more items count name below ∙ (λ i. take count (same i) ++ sym is i ∷ []) in
      let lines : flat_map (lines_at layers at) (take count names ++ name ∷ []) ≡ flat_map (lines_at layers at) (take count names) ++ flat_map (lines_at layers at) (name ∷ []) =
      flat_map-append (lines_at layers at) (take count names) (name ∷ []) in
      record {
        text = text ∙ ap (λ t. t ++ said_text layers at (name ∷ [])) read.text
            ∙ sym (ap (said_text layers at) more ∙ ap text_of lines ∙ flat_map-append (λ line. line ++ 10 ∷ []) (flat_map (lines_at layers at) (take count names)) (flat_map (lines_at layers at) (name ∷ [])));
        left_out = left ∙ ap (λ l. l ++ left_out layers at (name ∷ [])) read.left_out ∙ sym (ap (left_out layers at) more ∙ filter-append (is_left_out layers at) (take count names) (name ∷ []));
        held = subst (All (IsHeld layers at)) (sym more) (All-append (IsHeld layers at) (take count names) (name ∷ []) read.held (All-cons (IsHeld layers at) name [] held (All-nil (IsHeld layers at))));
      }

  module _ (said : Said) (all : length items ≤ count) (read : AreRead layers at names count said) where
    whole : take count names ≡ names
    whole = ap (take count) (sym same) ∙ take_all count items all ∙ same

    pub read_said : said ≡ said_of layers at names
    read_said = λ i. record { text = (read.text ∙ ap (said_text layers at) whole) i; left_out = (read.left_out ∙ ap (left_out layers at) whole) i }

    pub read_again : AreDistinct names → SetsAgain layers at names said.text
    read_again apart =
        subst (SetsAgain layers at names) (sym (read.text ∙ ap (said_text layers at) whole))
        (set_again layers at names (recursion_from_All (IsHeld layers at) names (subst (All (IsHeld layers at)) whole read.held)) apart)
