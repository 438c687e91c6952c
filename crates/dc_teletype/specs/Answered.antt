-- What the questions of a dialogue are answered.
use Rattle.std.specs.Prelude.{◌≡◌, ⊤, ℕ, Bool, List, [], ◌∷◌}
use Rattle.dc_frontend.specs.declared.shown.Shown.{Shown}
use Rattle.dc_teletype.specs.Answers.{answer_to}
use Rattle.dc_teletype.specs.declared.teletype.Answer.{Answer}
use Rattle.dc_teletype.specs.declared.teletype.Answer.TheVariants.{Keep, Value}
use Rattle.dc_teletype.specs.declared.answering.Reading.TheVariants as reading

-- what a question can be answered: it keeps its value, or has one that a line says
abbrev pub CanBe : Bool → Shown → Answer → Type 0
CanBe backup shown Keep = ⊤
CanBe backup shown (Value value) = (line : List ℕ) × (answer_to shown backup line ≡ reading.Value value)

-- each question has an answer, in order
abbrev pub HaveAnswers : Bool → List Shown → List Answer → Type 0
HaveAnswers backup [] [] = ⊤
HaveAnswers backup [] (answer ∷ answers) = ⊥
HaveAnswers backup (shown ∷ others) [] = ⊥
HaveAnswers backup (shown ∷ others) (answer ∷ answers) = CanBe backup shown answer × HaveAnswers backup others answers
