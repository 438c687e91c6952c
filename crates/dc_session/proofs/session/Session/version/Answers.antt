use Rattle.std.proofs.Common.{true, false, sym, ◌∙◌}
use Rattle.dc_session.proofs.AskingLemmas.{version_does}
use Rattle.dc_session.proofs.session.Session.version.Goals as goal

pub returns-then-is_supported : goal.returns-then-is_supported
returns-then-is_supported g c = version_does _ c.args.version.now true (sym c.is_supported.ensures ∙ c.if-is_supported.true) c.says.result c.says.ensures

pub returns-else-is_supported : goal.returns-else-is_supported
returns-else-is_supported g c = version_does _ c.args.version.now false (sym c.is_supported.ensures ∙ c.if-is_supported.false) c.says-else-is_supported.result c.says-else-is_supported.ensures
