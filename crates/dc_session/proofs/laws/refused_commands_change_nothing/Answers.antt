use Rattle.dc_session.proofs.LineLaws.{line_meek}
use Rattle.dc_session.proofs.laws.refused_commands_change_nothing.Goals as goal

pub returns-clause-store : goal.returns-clause-store
returns-clause-store c old new line reply steps other = let meek = line_meek old new reply line steps in (meek.store other, meek.err, meek.at, meek.owner, meek.policy)

pub returns-clause-asking : goal.returns-clause-asking
returns-clause-asking c old new line reply steps other skipped = (line_meek old new reply line steps).asking other skipped
