use Rattle.std.proofs.Common.{◌++◌, List, ap, ◌∙◌}
use Rattle.dc_conf.specs.Stanzas.{Stanza}
use Rattle.dc_conf.specs.ConfFaults.{is_too_many, lone_faults, repeated_name, same_place}
use Rattle.dc_conf.specs.Machine.{least_of}
use Rattle.dc_conf.proofs.LeastLemmas.{least_join}
use Rattle.dc_conf.proofs.checking.database_fault.Goals as goal

pub returns : goal.returns
returns c =
    let before : List Stanza = c.args.before.now in
    let s : Stanza = c.args.stanza.now in
    least_join (lone_faults (is_too_many before s) s ++ repeated_name before s) (same_place before s) _ _ _ c.earlier.ensures
    (least_join (lone_faults (is_too_many before s) s) (repeated_name before s) _ _ _ c.earlier-named.ensures (c.lone_fault-lone.ensures ∙ ap (λ b. least_of (lone_faults b s)) c.is_too_many.ensures) c.repeated_name.ensures) c.in_ok-same_place.ensures
