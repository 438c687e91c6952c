use Rattle.std.proofs.Common.{List, sym, ap, ◌∙◌, subst}
use Rattle.dc_conf.specs.Stanzas.{Stanza}
use Rattle.dc_conf.specs.ConfFaults.{head_faults, second_pass}
use Rattle.dc_conf.specs.Machine.{least_of, Rise}
use Rattle.dc_conf.proofs.RiseLemmas.{first_head, rise_from}
use Rattle.dc_conf.proofs.TestLemmas.{list_apart}
use Rattle.dc_conf.proofs.checking.second_pass.Goals as goal

pub databases_fault-requires : goal.databases_fault-requires
databases_fault-requires c =
    let rise = subst (Rise 1) (list_apart c.args.stanzas.now c.head-item.result c.in-len1-up.len_at_least c.head-item.is) c.requires in
    rise_from 1 rise.0 _ rise.1 rise.3

pub returns-in-Some : goal.returns-in-Some
returns-in-Some c =
    let whole = list_apart c.args.stanzas.now c.head-item.result c.in-len1-up.len_at_least c.head-item.is in
    sym (ap (λ (ss : List Stanza). least_of (second_pass ss)) whole
    ∙ first_head _ c.head-item.result c.in-Some.fault (subst (Rise 1) whole c.requires)
    (ap (λ (s : Stanza). least_of (head_faults s)) (sym c.as_slice.ensures) ∙ sym c.in-Some.ensures))
