-- The calls of talks that grow.
use Rattle.std.proofs.Common.{List, [], ◌∷◌, ◌++◌}
use Rattle.dc_outside.specs.declared.link.Piece.{Piece}
use Rattle.dc_serve.specs.declared.machine.Response.{Response}
use Rattle.dc_serve.specs.declared.machine.Response.TheVariants.{Silent, Replied, Stopped}
use Rattle.dc_serve.specs.Execution.{Transition, add_reply, replies}
use Rattle.dc_serve.specs.Calls.{AreSound}

pub sound-append : (a b : List Piece) → AreSound a → AreSound b → AreSound (a ++ b)
sound-append [] b first second = second
sound-append (piece ∷ a) b first second = (first.0, sound-append a b first.1 second)

sound_reply : (did : Response) (later : List Piece) → AreSound later → AreSound (add_reply did later)
sound_reply Silent later sound = sound
sound_reply (Replied code text) later sound = (tt, sound)
sound_reply Stopped later sound = sound

pub sound_replies : {S : Type 0} (transitions : List (Transition S)) → AreSound (replies transitions)
sound_replies [] = tt
sound_replies (transition ∷ transitions) = sound_reply transition.did (replies transitions) (sound_replies transitions)
