-- The calls of a run on its link.
use Rattle.std.specs.Prelude.{◌≡◌, ◌<◌, ◌≤◌, ⊤, List, [], ◌∷◌, ◌++◌, length}
use Rattle.std.specs.List.{AllByRecursion}
use Rattle.dc_outside.specs.declared.link.Piece.{Piece}
use Rattle.dc_outside.specs.declared.link.Piece.TheVariants.{Got, Sent, Cut, Lost}
use Rattle.dc_serve.specs.declared.outcome.LinkEnd.{LinkEnd}
use Rattle.dc_serve.specs.declared.outcome.LinkEnd.TheVariants.{Done, LinkFault, TooLong, OutOfMemory, Broken}

-- a call that was done: a read brought a byte at least and at most 65,536, or a write sent all
abbrev pub IsSound : Piece → Type 0
IsSound (Got bytes) = (0 < length bytes) × (length bytes ≤ 65536)
IsSound (Sent bytes) = ⊤
IsSound (Cut bytes) = ⊥
IsSound Lost = ⊥

abbrev pub AreSound : List Piece → Type 0
AreSound talk = AllByRecursion IsSound talk

-- no call but the last one failed
pub record AreSoundToLast (talk : List Piece) : Type 0 where
  pub before : List Piece
  pub last : Piece
  pub talk_is : talk ≡ before ++ last ∷ []
  pub sound : AreSound before

-- each call was done, but for the last one of a run that ended at a fault of its link
abbrev pub FailsAtLast : {B : Type 0} → LinkEnd B → List Piece → Type 0
FailsAtLast Done talk = AreSound talk
FailsAtLast LinkFault talk = AreSoundToLast talk
FailsAtLast TooLong talk = AreSound talk
FailsAtLast OutOfMemory talk = AreSound talk
FailsAtLast (Broken error) talk = AreSound talk
