use Rattle.std.proofs.Common.{subst, sym}
use Rattle.std.specs.Prelude.{◌==◌}
use Rattle.dc_item.specs.Plain.{PlainIf}
use Rattle.dc_item.proofs.PlainLines.{plain_after}
use Rattle.dc_item.proofs.reader.Open.add_indented.Goals as goal

pub add_variable-requires : goal.add_variable-requires
add_variable-requires c = subst (PlainIf c.args.is_plain) (sym c.in-Some.ensures.2) (plain_after (λ byte. byte == 61) c.args.is_plain c.args.line.now c.requires)
