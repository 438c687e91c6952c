-- A machine that tells on standard error what it is given, as the tests have one.
use Rattle.std.specs.Prelude.{◌≡◌, ℕ, List, [], ◌++◌, Result, codes}
use Rattle.dc_text.specs.declared.memory.OutOfMemory.{OutOfMemory}
use Rattle.dc_words.specs.declared.stream.Line.{Line}
use Rattle.dc_words.specs.declared.stream.Line.TheVariants.{Whole, TooLong}
use Rattle.dc_outside.specs.LinkCalls.{Sends}
use Rattle.dc_outside.specs.State.{LinkState}
use Rattle.dc_outside.specs.declared.link.LinkError.{LinkError}
use Rattle.dc_serve.specs.declared.machine.Response.{Response}
use Rattle.dc_serve.specs.declared.machine.Response.TheVariants.{Replied}

-- what it works on, standard error, and what it has to tell there yet
pub record TellerState : Type 0 where
  pub err : LinkState
  pub untold : List ℕ

-- what it tells of a line
abbrev pub told_of : Line → List ℕ
told_of TooLong = codes "debug: a long line\n"
told_of (Whole text) = codes "debug: " ++ text ++ codes "\n"

-- the line has a reply, and is to be told
abbrev pub IsToTell : TellerState → Line → Response → TellerState → Type 0
IsToTell old line did new = (new ≡ record old { untold = told_of line }) × (did ≡ Replied 0 (codes "0 ok\n"))

-- The line has a reply, and is told in the same transition, behind all that was said before on standard error, as far as that takes it.
pub record Tells (old : TellerState) (line : Line) (did : Response) (new : TellerState) : Type 0 where
  pub answer : Result (Unit {0}) LinkError
  pub told : Sends (told_of line) old.err new.err answer
  pub all_told : new.untold ≡ []
  pub did_is : did ≡ Replied 0 (codes "0 ok\n")

-- there was no memory, and nothing was told
abbrev pub TellsNothing : TellerState → Line → OutOfMemory → TellerState → Type 0
TellsNothing old line error new = new ≡ old
