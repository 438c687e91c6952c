use Rattle.std.proofs.Common.{◌≡◌, ℕ, List, [], ◌++◌, ap, ◌∙◌}
use Rattle.std.specs.Prelude.{codes}
use Rattle.std.specs.Option.{option_map_or}
use Rattle.dc_conf.specs.declared.faults.ConfKind.TheVariants.{SharedDatabase}
use Rattle.dc_conf.specs.declared.fields.Field.{Field}
use Rattle.dc_conf.specs.ConfFaults.{fault_if, naming_faults, value_at}
use Rattle.dc_conf.specs.Machine.{least_of}
use Rattle.dc_conf.specs.Nodes.{two_meet}
use Rattle.dc_conf.specs.Values.{names_in}
use Rattle.dc_conf.proofs.LeastLemmas.{least_join}
use Rattle.dc_conf.proofs.naming.stack_fault.Goals as goal

pub returns : goal.returns
returns c =
    let line : ℕ = c.in-Some.field.now.line in
    let name : List ℕ = value_at (codes "name") c.args.stanza.now in
    let names : List (List ℕ) = names_in c.in-Some.field.now.value in
    let read : c.in_ok-names.names ≡ names = c.in_ok-names.ensures ∙ ap names_in c.bytes.ensures in
    least_join (naming_faults c.args.web.now name names line) (fault_if (two_meet c.args.web.now names) line SharedDatabase) _ _ _ c.earlier.ensures
    (c.naming_fault-named.ensures ∙ (λ i. least_of (naming_faults c.args.web.now (c.value_at.ensures i) ((c.as_slice.ensures ∙ read) i) line)))
    (c.fault_if.ensures
    ∙ ap (λ b. least_of (fault_if b line SharedDatabase)) (c.in_ok-meet.ensures ∙ ap (two_meet c.args.web.now) (c.as_slice-2.ensures ∙ read)))
    ∙ ap (λ r. least_of (option_map_or (λ (field : Field). naming_faults c.args.web.now name (names_in field.value) field.line
    ++ fault_if (two_meet c.args.web.now (names_in field.value)) field.line SharedDatabase) r [])) c.in-Some.ensures
