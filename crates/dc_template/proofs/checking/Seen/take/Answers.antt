use Rattle.std.proofs.Common.{◌≡◌, sym, ap, ◌∙◌, subst}
use Rattle.std.specs.Prelude.{IfOk}
use Rattle.dc_template.specs.Forms.{forms}
use Rattle.dc_template.specs.Machine.{fault_seen}
use Rattle.dc_template.proofs.checking.Seen.take.Goals as goal

pub returns-in-Indented-clause-fault : goal.returns-in-Indented-clause-fault
returns-in-Indented-clause-fault c =
    c.fault_of_indented.ensures c.in-Indented.field-0 (forms c.args.after.now) ∙ ap (λ f. fault_seen c.args.self.now f (forms c.args.after.now)) (sym c.in-Indented.is)

pub returns-in-Sets-clause-fault : goal.returns-in-Sets-clause-fault
returns-in-Sets-clause-fault c =
    subst (λ f. IfOk c.take_key.result (λ fault. fault ≡ fault_seen c.args.self.now f (forms c.args.after.now))) (sym c.in-Sets.is) (c.take_key.ensures.fault (forms c.args.after.now))
