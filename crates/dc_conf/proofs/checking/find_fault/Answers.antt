use Rattle.std.proofs.Common.{◌≡◌, ◌-◌, List, [], take, drop, length, sym, ap, ◌∙◌}
use Rattle.dc_conf.specs.Stanzas.{Stanza}
use Rattle.dc_conf.specs.ConfFaults.{second_pass}
use Rattle.dc_conf.proofs.LeastLemmas.{least_none}
use Rattle.dc_conf.proofs.SoundLemmas.{alone}
use Rattle.dc_conf.proofs.TestLemmas.{list_apart, not_some}
use Rattle.dc_conf.proofs.checking.find_fault.Goals as goal

pub later_fault-requires : goal.later_fault-requires
later_fault-requires c =
    let stanzas : List Stanza = c.args.stanzas.now in
    let clean : second_pass stanzas ≡ [] = least_none (second_pass stanzas) (sym c.in_ok-fault.ensures ∙ not_some _ c.in_default.not-Some) in
    let whole = list_apart stanzas c.head-item.result c.in-len1-up.len_at_least c.head-item.is in
    alone c.head-item.result (take (length stanzas - 1) (drop 1 stanzas)) (sym (ap second_pass whole) ∙ clean)
