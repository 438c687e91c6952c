use Rattle.std.proofs.Common.{sym, subst}
use Rattle.dc_template.specs.Fields.{AreApart}
use Rattle.dc_template.proofs.reading.read_template.Goals as goal

pub in_order-requires : goal.in_order-requires
in_order-requires c = subst AreApart (sym c.in_ok-read_fields.ensures) c.requires.fit.apart
