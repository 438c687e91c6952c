use Rattle.std.proofs.Common.{ap, sym, ◌∙◌}
use Rattle.dc_text.specs.Settled.{is_settled}
use Rattle.dc_text.proofs.SettledLemmas.{settled-none, is_settled-settled}
use Rattle.dc_item.proofs.reader.put_usual_field.Goals as goal

-- without a backslash the value is settled as it stands
pub put_new_usual_field-requires : goal.put_new_usual_field-requires
put_new_usual_field-requires c = ap is_settled (sym (settled-none c.args.value.now (c.requires c.if-is_plain.true))) ∙ is_settled-settled c.args.value.now

pub returns-then-is_plain-clause-put : goal.returns-then-is_plain-clause-put
returns-then-is_plain-clause-put c = rw (settled-none c.args.value.now (c.requires c.if-is_plain.true)) c.put_new_usual_field.ensures.put
