-- What asking over the wire comes to.
use Rattle.std.proofs.Common.{ℕ, Bool, List, Ok, Err, Option, Result, inr}
use Rattle.dc_frontend.specs.declared.shown.Shown.{Shown}
use Rattle.dc_teletype.specs.TerminalLines.{TerminalState}
use Rattle.dc_teletype.specs.declared.teletype.Asked.{Asked}
use Rattle.dc_pass.specs.declared.pass.PassError.{PassError}
use Rattle.dc_pass.specs.declared.pass.PassError.TheVariants.{Failed, Bad, OutOfMemory}
use Rattle.dc_pass.specs.Passing.{IsAsked, Requests}

pub requested : (backup : Bool) (title : List ℕ) (sent : List Shown) (before : ℕ) (old new : TerminalState) (result : Result (Option Asked) PassError) (now : ℕ)
    → IsAsked backup title sent before old new result now → Requests backup title sent before old new result now
requested backup title sent before old new (Ok heard) now is = is
requested backup title sent before old new (Err (Bad line)) now is = is
requested backup title sent before old new (Err Failed) now is = inr is
requested backup title sent before old new (Err OutOfMemory) now is = inr (inr is)
