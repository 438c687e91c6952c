use Rattle.std.proofs.Common.{refl}
use Rattle.std.specs.Str.{is_utf8, chars}
use lib.Utf8.{encode}
use Rattle.dc_conf.proofs.laws.faults_are_worked_out.Goals as goal

pub returns : goal.returns
unfolding is_utf8 chars encode
returns c = record { empty = refl; alone = refl; driver = refl; shared = refl; lines = refl; missing = refl; below = refl; folder = refl; modes = refl; values = refl; pipes = refl; nested = refl; cycle = refl; twice = refl; below_too = refl; backed_up = refl; shared_below = refl; tree = refl; pipe = refl }
