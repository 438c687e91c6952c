-- Machines whose state and line say what comes of it.
use Rattle.std.specs.Prelude.{◌≡◌}
use Rattle.dc_words.specs.declared.stream.Line.{Line}
use Rattle.dc_serve.specs.declared.machine.Response.{Response}

-- a line does one thing in a state, and leaves one state
abbrev pub IsFunction : {S : Type 0} → (S → Line → Response → S → Type 0) → Type 0
IsFunction {S} steps = (old : S) (line : Line) (did other : Response) (new left : S) → steps old line did new → steps old line other left → (did ≡ other) × (new ≡ left)
