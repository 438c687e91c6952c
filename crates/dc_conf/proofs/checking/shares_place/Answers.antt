use Rattle.std.proofs.Common.{◌≡◌, ◌-◌, true, false, List, take, drop, length, sym, ap, ◌∙◌}
use Rattle.std.specs.List.{list_any}
use Rattle.dc_conf.specs.Stanzas.{Stanza}
use Rattle.dc_conf.specs.ConfFaults.{share_place, meet, paths_in}
use Rattle.dc_conf.proofs.TestLemmas.{list_apart, any_found, any_turn}
use Rattle.dc_conf.proofs.checking.shares_place.Goals as goal

pub returns-then-some_meet : goal.returns-then-some_meet
returns-then-some_meet c =
    let rest : List Stanza = c.loop-rest.rest.now in
    let found : share_place c.earlier-item.result c.args.stanza.now ≡ true =
    (λ i. list_any (λ path. list_any (meet path) (sym (c.as_slice-in-len1-up-2.ensures ∙ c.in_ok-paths.ensures) i)) (sym (c.as_slice-in-len1-up.ensures ∙ c.in_ok-others.ensures ∙ ap paths_in c.as_slice.ensures) i))
    ∙ sym c.some_meet.ensures ∙ c.if-some_meet.true in
    any_found (λ earlier. share_place earlier c.args.stanza.now) rest (take (length rest - 1) (drop 1 rest)) c.earlier-item.result _
    (list_apart rest c.earlier-item.result c.in-len1-up.len_at_least c.earlier-item.is) found c.loop-rest.invariant

pub loop-rest-preserved : goal.loop-rest-preserved
loop-rest-preserved c =
    let rest : List Stanza = c.loop-rest.rest.now in
    let none : share_place c.earlier-item.result c.args.stanza.now ≡ false =
    (λ i. list_any (λ path. list_any (meet path) (sym (c.as_slice-in-len1-up-2.ensures ∙ c.in_ok-paths.ensures) i)) (sym (c.as_slice-in-len1-up.ensures ∙ c.in_ok-others.ensures ∙ ap paths_in c.as_slice.ensures) i))
    ∙ sym c.some_meet.ensures ∙ c.if-some_meet.false in
    any_turn (λ earlier. share_place earlier c.args.stanza.now) rest (take (length rest - 1) (drop 1 rest)) c.earlier-item.result _
    (list_apart rest c.earlier-item.result c.in-len1-up.len_at_least c.earlier-item.is) none c.loop-rest.invariant
