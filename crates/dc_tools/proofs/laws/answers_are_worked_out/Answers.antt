use Rattle.std.proofs.Common.{refl}
use Rattle.dc_tools.proofs.laws.answers_are_worked_out.Goals as goal

pub returns-clause-lines : goal.returns-clause-lines
returns-clause-lines c = record { valued = refl; secret = refl; seen = refl; unset = refl; long = refl; kindless = refl; no_secret = refl }

pub returns-clause-databases : goal.returns-clause-databases
returns-clause-databases c = record { usual = refl }

pub returns-clause-chosen : goal.returns-clause-chosen
returns-clause-chosen c = record { named = refl; other = refl; case = refl; owned = refl; not_owned = refl }
