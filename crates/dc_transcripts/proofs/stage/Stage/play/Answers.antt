-- The program that the run may start isn't started.
use Rattle.std.proofs.Common.{sym, subst}
use Rattle.dc_outside.specs.Programs.{IsIdle}
use Rattle.dc_transcripts.proofs.stage.Stage.play.Goals as goal

pub play-requires : goal.play-requires
play-requires c = subst IsIdle (sym c.requires) tt
