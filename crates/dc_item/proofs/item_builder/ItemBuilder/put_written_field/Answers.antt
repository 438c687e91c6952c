use Rattle.std.proofs.Common.{ap, sym, ◌∙◌}
use Rattle.dc_text.specs.Settled.{is_settled}
use Rattle.dc_text.proofs.SettledLemmas.{settled-none, is_settled-settled}
use Rattle.dc_item.proofs.item_builder.ItemBuilder.put_written_field.Goals as goal

-- without a backslash the value is settled as it stands
pub put_new_field-requires-clause-value : goal.put_new_field-requires-clause-value
put_new_field-requires-clause-value c = ap is_settled (sym (settled-none c.args.written.now c.in-None.ensures)) ∙ is_settled-settled c.args.written.now

pub returns-in-None-clause-put : goal.returns-in-None-clause-put
returns-in-None-clause-put c = rw (settled-none c.args.written.now c.in-None.ensures) c.put_new_field.ensures.put
