-- The ends of a link, and the counts that go with them.
use Rattle.std.specs.Prelude.{◌≡◌, ◌⊎◌}
use Rattle.dc_outside.specs.Counts.{Counts, FaultRose, RefusalRose}
use Rattle.dc_serve.specs.declared.outcome.LinkEnd.{LinkEnd}
use Rattle.dc_serve.specs.declared.outcome.LinkEnd.TheVariants.{Done, LinkFault, TooLong, OutOfMemory, Broken}

-- A link fault was counted. Where memory ran out, a refusal was counted if the link itself found none, and nothing if it was the
-- program's own. At every other end the counts stay.
abbrev pub LinkCounts : {B : Type 0} → LinkEnd B → Counts → Counts → Type 0
LinkCounts Done before now = now ≡ before
LinkCounts LinkFault before now = FaultRose before now
LinkCounts TooLong before now = now ≡ before
LinkCounts OutOfMemory before now = RefusalRose before now ⊎ (now ≡ before)
LinkCounts (Broken error) before now = now ≡ before
