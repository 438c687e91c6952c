-- What the calls of a link in memory do to what it tells.
use Rattle.std.proofs.Common.{◌≡◌, ◌≤◌, ℕ, List, [], ◌++◌, Some, Result, Ok, Err, length, refl, sym, ap, ◌∙◌}
use Rattle.std.specs.Prelude.{IfOk}
use Rattle.dc_outside.specs.Counts.{LinkCounted}
use Rattle.dc_outside.specs.LinkCalls.{Reads, Sends}
use Rattle.dc_outside.specs.Memory.{MemLinkState, MemChildState, link_of, child_link_of, read_pieces, write_pieces, EndsAtNone}
use Rattle.dc_outside.specs.State.{LinkState}
use Rattle.dc_outside.specs.Talk.{got}
use Rattle.dc_outside.proofs.LinkLemmas.{link_is}
use Rattle.dc_outside.specs.declared.link.LinkError.{LinkError}
use Rattle.dc_outside.specs.declared.link.LinkError.TheVariants.{Failed, OutOfMemory}
use Rattle.std.proofs.lemmas.List.{append-nil}

pub reads_in_memory : (result : Result ℕ LinkError) (buf : List ℕ) (old new : MemLinkState) → IfOk result (λ count. count ≤ length buf)
    → new.talk ≡ old.talk ++ read_pieces result buf → old.input ≡ got (read_pieces result buf) ++ new.input → EndsAtNone result new.input
    → LinkCounted old.counts new.counts result → Reads buf (link_of old) (link_of new) result
reads_in_memory (Ok count) buf old new bound talk input end counts =
    record { bound = bound; took = ap Some input; end = end; state = link_is _ _ (ap Some talk) refl counts refl }
reads_in_memory (Err Failed) buf old new bound talk input end counts =
    record { state = link_is _ _ (ap Some talk) (ap Some (sym input)) refl refl; rose = counts }
reads_in_memory (Err OutOfMemory) buf old new bound talk input end counts =
    record { state = link_is _ _ (ap Some (talk ∙ append-nil old.talk)) (ap Some (sym input)) refl refl; rose = counts }

pub sends_in_memory : {T : Type 0} (result : Result T LinkError) (bytes : List ℕ) (old new : MemLinkState)
    → new.talk ≡ old.talk ++ write_pieces result bytes → new.input ≡ old.input → LinkCounted old.counts new.counts result → Sends bytes (link_of old) (link_of new) result
sends_in_memory (Ok done) bytes old new talk input counts = link_is _ _ (ap Some talk) (ap Some input) counts refl
sends_in_memory (Err Failed) bytes old new talk input counts = record {
  front = [];
  back = bytes;
  bytes_are = refl;
  state = link_is _ _ (ap Some talk) (ap Some input) refl refl;
  rose = counts;
}
sends_in_memory (Err OutOfMemory) bytes old new talk input counts =
    record { state = link_is _ _ (ap Some (talk ∙ append-nil old.talk)) (ap Some input) refl refl; rose = counts }

-- ---- a link with a program behind it

-- what stays of a link, with another program
with_program : (old new : MemChildState) (is : LinkState) → link_of new.link ≡ is → new.program ≡ old.program
    → child_link_of new ≡ record is { program = old.program }
with_program old new is state program =
    link_is _ _ (ap (λ (s : LinkState). s.talk) state) (ap (λ (s : LinkState). s.input) state) (ap (λ (s : LinkState). s.counts) state) program

pub child_reads : (result : Result ℕ LinkError) (buf : List ℕ) (old new : MemChildState) → Reads buf (link_of old.link) (link_of new.link) result
    → new.program ≡ old.program → Reads buf (child_link_of old) (child_link_of new) result
child_reads (Ok count) buf old new reads program =
    record { bound = reads.bound; took = reads.took; end = reads.end; state = with_program old new _ reads.state program }
child_reads (Err Failed) buf old new reads program = record { state = with_program old new _ reads.state program; rose = reads.rose }
child_reads (Err OutOfMemory) buf old new reads program = record { state = with_program old new _ reads.state program; rose = reads.rose }

pub child_sends : {T : Type 0} (result : Result T LinkError) (bytes : List ℕ) (old new : MemChildState) → Sends bytes (link_of old.link) (link_of new.link) result
    → new.program ≡ old.program → Sends bytes (child_link_of old) (child_link_of new) result
child_sends (Ok done) bytes old new sends program = with_program old new _ sends program
child_sends (Err Failed) bytes old new sends program = record {
  front = sends.front;
  back = sends.back;
  bytes_are = sends.bytes_are;
  state = with_program old new _ sends.state program;
  rose = sends.rose;
}
child_sends (Err OutOfMemory) bytes old new sends program = record { state = with_program old new _ sends.state program; rose = sends.rose }
