-- What the definition of "in step" refuses.
use Rattle.std.proofs.Common.{◌≡◌, ℕ, List, [], ◌∷◌, ◌++◌, refl, ap, sym, subst, ◌∙◌}
use Rattle.std.proofs.lemmas.List.{append-nil}
use Rattle.dc_words.specs.declared.stream.Line.{Line}
use Rattle.dc_words.specs.Stream.{whole_lines}
use Rattle.dc_outside.specs.declared.link.Piece.{Piece}
use Rattle.dc_outside.specs.declared.link.Piece.TheVariants.{Got, Sent}
use Rattle.dc_serve.specs.declared.machine.Response.{Response}
use Rattle.dc_serve.specs.declared.machine.Response.TheVariants.{Replied}
use Rattle.dc_serve.specs.Execution.{Transition, lines_of, add_reply, replies, IsExecution}
use Rattle.dc_serve.specs.Answering.{IsRead, AnswersBeforeReads}
use Rattle.dc_session.specs.SessionState.{SessionState}
use Rattle.dc_session.specs.Machine.{TakesLine}

-- the line has a reply, whatever the files give
abbrev IsReplied : SessionState → Line → Type 0
IsReplied start line = (did : Response) (new : SessionState) → TakesLine start line did new → (code : ℕ) × (text : List ℕ) × (did ≡ Replied code text)

nothing_is_sent : (piece : Piece) (later : List Piece) → [] ≡ piece ∷ later → ⊥
nothing_is_sent piece later is = cc

-- some first turn at a line with a reply says something
says : (start : SessionState) (transitions gone later : List (Transition SessionState)) (line : Line) → IsExecution TakesLine start transitions → transitions ≡ gone ++ later → lines_of gone ≡ line ∷ [] → IsReplied start line
    → [] ≡ replies gone → ⊥
says start transitions [] later line course parts lines is none = cc
says start [] (transition ∷ gone) later line course parts lines is none = cc
says start (first ∷ transitions) (transition ∷ gone) later line course parts lines is none =
    let same : first ≡ transition = cc in
    let at : transition.line ≡ line = cc in
    let reply = is first.did first.new (subst (λ (l : Line). TakesLine start l first.did first.new) (ap (λ (t : Transition SessionState). t.line) same ∙ at) course.0) in
    let does : transition.did ≡ Replied reply.0 reply.1 = ap (λ (t : Transition SessionState). t.did) (sym same) ∙ reply.2 in
    nothing_is_sent (Sent reply.1) (replies gone) (none ∙ ap (λ (d : Response). add_reply d (replies gone)) does)

-- a line came whose reply wasn't sent before a read
pub unanswered : (start : SessionState) (transitions : List (Transition SessionState)) (bytes : List ℕ) (line : Line) (piece : Piece) → IsExecution TakesLine start transitions → whole_lines bytes ≡ line ∷ [] → IsReplied start line
    → IsRead piece → AnswersBeforeReads transitions (Got bytes ∷ piece ∷ []) → ⊥
unanswered start transitions bytes line piece course one is read step =
    let here = step (Got bytes ∷ []) piece [] refl read in
    says start transitions here.gone here.later line course here.turns_are (here.lines_are ∙ ap whole_lines (append-nil bytes) ∙ one) is here.all_sent
