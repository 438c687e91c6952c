-- Answerers that differ in how what was typed came, and in nothing else.
use Rattle.std.specs.Prelude.{◌≡◌, ⊤, List, [], ◌∷◌}
use Rattle.dc_serve.specs.Execution.{Transition}
use Rattle.dc_teletype.specs.Typed.{AreTerminalsAlike}
use Rattle.dc_answer.specs.Answering.{AnswererState}

-- the same lines are of a call that isn't whole yet, as many came, and the terminals are alike
pub record AreAlike (one other : AnswererState) : Type 0 where
  pub lines : one.lines ≡ other.lines
  pub got : one.got ≡ other.got
  pub terminals : AreTerminalsAlike one.terminal other.terminal

-- turn by turn the same is replied, and what is left is alike
abbrev pub AreTransitionsAlike : List (Transition AnswererState) → List (Transition AnswererState) → Type 0
AreTransitionsAlike [] [] = ⊤
AreTransitionsAlike [] (other ∷ others) = ⊥
AreTransitionsAlike (one ∷ ones) [] = ⊥
AreTransitionsAlike (one ∷ ones) (other ∷ others) = (one.did ≡ other.did) × AreAlike one.new other.new × AreTransitionsAlike ones others
