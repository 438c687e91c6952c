-- A line that ends the reading as unreadable is the first that is.
use Rattle.std.proofs.Common.{◌≡◌, ℕ, ◌+◌, List, [], ◌∷◌, ◌++◌, length, ap, ◌∙◌, arith}
use Rattle.dc_words.specs.declared.stream.Line.{Line}
use Rattle.dc_serve.specs.Execution.{Transition, state_after, IsExecution}
use Rattle.dc_serve.specs.declared.machine.Response.{Response}
use Rattle.dc_pass.specs.Passing.{counted}
use Rattle.dc_pass.proofs.AgainLemmas.{takes_apart}
use Rattle.dc_answer.specs.Answering.{AnswererState, IsUnreadable, TakesWireLine}

pub not_both : (old new other : AnswererState) (line : Line) (did : Response) (number : ℕ) → TakesWireLine old line did new → IsUnreadable old line number other → ⊥
not_both old new other line did number takes bad = takes_apart old.lines new.lines other.lines line takes.completed takes.takes bad.takes

pub none_before : (start other : AnswererState) (gone later : List (Transition AnswererState)) (one : Transition AnswererState) (number : ℕ)
    → IsExecution TakesWireLine start (gone ++ one ∷ later) → IsUnreadable (state_after start gone) one.line number other → ⊥
none_before start other [] later one number course bad = not_both start one.new other one.line one.did number course.0 bad
none_before start other (first ∷ gone) later one number course bad = none_before first.new other gone later one number course.2 bad

-- one more line, and then so many
one_more : (before more : ℕ) → counted (counted before 1) (more + 1) ≡ counted before (1 + more + 1)
one_more before more = omega arith

pub number_after : (start new : AnswererState) (transitions : List (Transition AnswererState)) (line : Line) (number : ℕ) → IsExecution TakesWireLine start transitions
    → IsUnreadable (state_after start transitions) line number new → number ≡ counted start.got (length transitions + 1)
number_after start new [] line number course bad = bad.number_is ∙ ap (λ n. counted start.got n) (omega arith)
number_after start new (first ∷ transitions) line number course bad =
    number_after first.new new transitions line number course.2 bad ∙ ap (λ n. counted n (length transitions + 1)) course.0.got_is ∙ one_more start.got (length transitions)
    ∙ ap (λ n. counted start.got n) (omega arith)
