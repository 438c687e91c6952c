use Rattle.std.proofs.Common.{ℕ, List, [], ◌++◌, ap, ◌∙◌}
use Rattle.std.specs.Prelude.{codes}
use Rattle.std.specs.Option.{option_map_or}
use Rattle.dc_conf.specs.declared.faults.Fault.{Fault}
use Rattle.dc_conf.specs.declared.faults.ConfKind.TheVariants.{SharedDatabase}
use Rattle.dc_conf.specs.declared.fields.Field.{Field}
use Rattle.dc_conf.specs.ConfFaults.{at_field, fault_if, one_faults, value_at}
use Rattle.dc_conf.specs.Machine.{least_of}
use Rattle.dc_conf.specs.Nodes.{names_meet}
use Rattle.dc_conf.proofs.LeastLemmas.{least_join}
use Rattle.dc_conf.proofs.naming.backup_fault.Goals as goal

pub returns : goal.returns
returns c =
    let db : List ℕ = value_at (codes "db") c.args.stanza.now in
    let first : List Fault = one_faults c.args.web.now (codes "db") c.args.stanza.now in
    let second : List Fault = one_faults c.args.web.now (codes "backupdb") c.args.stanza.now in
    let shared : List Fault = at_field (codes "backupdb") c.args.stanza.now (λ field. names_meet c.args.web.now db field.value) SharedDatabase in
    least_join (first ++ second) shared _ _ _ c.earlier.ensures
    (least_join first second _ _ _ c.earlier-both.ensures c.in_ok-first.ensures c.in_ok-second.ensures)
    (c.fault_if.ensures
    ∙ ap (λ b. least_of (fault_if b c.in-Some.field.now.line SharedDatabase)) (c.meet-meet.ensures ∙ (λ i. names_meet c.args.web.now (c.value_at.ensures i) (c.bytes.ensures i)))
    ∙ ap (λ r. least_of (option_map_or (λ (field : Field). fault_if (names_meet c.args.web.now db field.value) field.line SharedDatabase) r [])) c.in-Some.ensures)
