-- The state of a link, part by part.
use Rattle.std.proofs.Common.{◌≡◌, ℕ, List, [], ◌∷◌, ◌++◌, Option, Result, Ok, Err, refl, ap, ◌∙◌}
use Rattle.dc_outside.specs.Counts.{LinkCounted}
use Rattle.dc_outside.specs.LinkCalls.{Reads, Sends}
use Rattle.dc_outside.specs.State.{LinkState}
use Rattle.dc_outside.specs.Talk.{then_pieces}
use Rattle.dc_outside.specs.declared.link.LinkError.{LinkError}
use Rattle.dc_outside.specs.declared.link.LinkError.TheVariants.{Failed, OutOfMemory}
use Rattle.dc_outside.specs.declared.link.Piece.{Piece}
use Rattle.dc_outside.specs.declared.link.Piece.TheVariants.{Sent, Cut}

-- two states of a link are one where their parts are
pub link_is : (a b : LinkState) → a.talk ≡ b.talk → a.input ≡ b.input → a.counts ≡ b.counts → a.program ≡ b.program → a ≡ b
link_is a b talk input counts program = λ i. record { talk = talk i; input = input i; counts = counts i; program = program i }

-- a call that keeps the input and the program changes the talk and the counts alone
pub only_said : (old new is : LinkState) → new ≡ is → is.input ≡ old.input → is.program ≡ old.program → new ≡ record old { talk = new.talk; counts = new.counts }
only_said old new is state input program =
    link_is new _ refl (ap (λ (s : LinkState). s.input) state ∙ input) refl (ap (λ (s : LinkState). s.program) state ∙ program)

-- and so do two, one after another
pub only_said_more : (old mid new : LinkState) → mid ≡ record old { talk = mid.talk; counts = mid.counts }
    → new ≡ record mid { talk = new.talk; counts = new.counts } → new ≡ record old { talk = new.talk; counts = new.counts }
only_said_more old mid new first second =
    only_said old new _ second (ap (λ (s : LinkState). s.input) first) (ap (λ (s : LinkState). s.program) first)

-- ---- what a write does to each part

-- what it adds to the talk
abbrev pub AddsWrite : {T : Type 0} → Option (List Piece) → Option (List Piece) → Result T LinkError → List ℕ → Type 0
AddsWrite old new (Ok done) bytes = new ≡ then_pieces old (Sent bytes ∷ [])
AddsWrite old new (Err Failed) bytes = (front : List ℕ) × (back : List ℕ) × (bytes ≡ front ++ back) × (new ≡ then_pieces old (Cut front ∷ []))
AddsWrite old new (Err OutOfMemory) bytes = new ≡ old

module _ {T : Type 0} where
  pub sends_talk : (result : Result T LinkError) (bytes : List ℕ) (old new : LinkState) → Sends bytes old new result → AddsWrite old.talk new.talk result bytes
  sends_talk (Ok done) bytes old new sends = ap (λ (s : LinkState). s.talk) sends
  sends_talk (Err Failed) bytes old new sends = (sends.front, sends.back, sends.bytes_are, ap (λ (s : LinkState). s.talk) sends.state)
  sends_talk (Err OutOfMemory) bytes old new sends = ap (λ (s : LinkState). s.talk) sends.state

  pub sends_input : (result : Result T LinkError) (bytes : List ℕ) (old new : LinkState) → Sends bytes old new result → new.input ≡ old.input
  sends_input (Ok done) bytes old new sends = ap (λ (s : LinkState). s.input) sends
  sends_input (Err Failed) bytes old new sends = ap (λ (s : LinkState). s.input) sends.state
  sends_input (Err OutOfMemory) bytes old new sends = ap (λ (s : LinkState). s.input) sends.state

  pub sends_counts : (result : Result T LinkError) (bytes : List ℕ) (old new : LinkState) → Sends bytes old new result → LinkCounted old.counts new.counts result
  sends_counts (Ok done) bytes old new sends = ap (λ (s : LinkState). s.counts) sends
  sends_counts (Err Failed) bytes old new sends = sends.rose
  sends_counts (Err OutOfMemory) bytes old new sends = sends.rose

  pub sends_program : (result : Result T LinkError) (bytes : List ℕ) (old new : LinkState) → Sends bytes old new result → new.program ≡ old.program
  sends_program (Ok done) bytes old new sends = ap (λ (s : LinkState). s.program) sends
  sends_program (Err Failed) bytes old new sends = ap (λ (s : LinkState). s.program) sends.state
  sends_program (Err OutOfMemory) bytes old new sends = ap (λ (s : LinkState). s.program) sends.state

-- ---- what a read does to each part

pub reads_counts : (result : Result ℕ LinkError) (buf : List ℕ) (old new : LinkState) → Reads buf old new result → LinkCounted old.counts new.counts result
reads_counts (Ok count) buf old new reads = ap (λ (s : LinkState). s.counts) reads.state
reads_counts (Err Failed) buf old new reads = reads.rose
reads_counts (Err OutOfMemory) buf old new reads = reads.rose

pub reads_program : (result : Result ℕ LinkError) (buf : List ℕ) (old new : LinkState) → Reads buf old new result → new.program ≡ old.program
reads_program (Ok count) buf old new reads = ap (λ (s : LinkState). s.program) reads.state
reads_program (Err Failed) buf old new reads = ap (λ (s : LinkState). s.program) reads.state
reads_program (Err OutOfMemory) buf old new reads = ap (λ (s : LinkState). s.program) reads.state
