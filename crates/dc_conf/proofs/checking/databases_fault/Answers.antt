use Rattle.std.proofs.Common.{◌≡◌, ◌+◌, ◌-◌, ◌++◌, ◌∷◌, [], List, Some, None, take, drop, length, sym, ap, ◌∙◌, subst, append_assoc, arith}
use Rattle.dc_conf.specs.Stanzas.{Stanza}
use Rattle.dc_conf.specs.ConfFaults.{along, database_faults}
use Rattle.dc_conf.specs.Machine.{least_of, Rise}
use Rattle.dc_conf.proofs.RiseLemmas.{first_database, databases_turn}
use Rattle.dc_conf.proofs.TestLemmas.{list_apart, take_turn, not_some}
use Rattle.dc_conf.proofs.checking.databases_fault.Goals as goal

pub returns-in-Some : goal.returns-in-Some
returns-in-Some c =
    let rest : List Stanza = c.loop-rest.rest.now in
    let s : Stanza = c.stanza-item.result in
    let before : List Stanza = take c.loop-rest.place c.args.databases.now in
    let whole = list_apart rest s c.in-len1-up.len_at_least c.stanza-item.is in
    let here : least_of (database_faults before s) ≡ Some c.in-Some.fault =
    ap (λ (x : Stanza). least_of (database_faults before x)) (sym c.as_slice.ensures) ∙ sym c.in_ok-fault.ensures ∙ c.in-Some.is in
    sym (sym c.loop-rest.invariant.least ∙ ap (λ (ss : List Stanza). least_of (along database_faults before ss)) whole
    ∙ first_database c.loop-rest.invariant.rise.0 before (take (length rest - 1) (drop 1 rest)) s c.in-Some.fault
    (subst (Rise c.loop-rest.invariant.rise.0) whole c.loop-rest.invariant.rise.1) here)

pub loop-rest-preserved : goal.loop-rest-preserved
loop-rest-preserved c =
    let databases : List Stanza = c.args.databases.now in
    let rest : List Stanza = c.loop-rest.rest.now in
    let tail : List Stanza = take (length rest - 1) (drop 1 rest) in
    let s : Stanza = c.stanza-item.result in
    let before : List Stanza = take c.loop-rest.place databases in
    let whole = list_apart rest s c.in-len1-up.len_at_least c.stanza-item.is in
    let none : least_of (database_faults before s) ≡ None =
    ap (λ (x : Stanza). least_of (database_faults before x)) (sym c.as_slice.ensures) ∙ sym c.in_ok-fault.ensures ∙ not_some _ c.in_default-2.not-Some in
    let more : take (c.loop-rest.place + 1) databases ≡ before ++ s ∷ [] = take_turn databases rest tail s c.loop-rest.place c.loop-rest.invariant.before c.loop-rest.invariant.counted whole in
    let rise = subst (Rise c.loop-rest.invariant.rise.0) whole c.loop-rest.invariant.rise.1 in
    record {
      before = ap (λ b. b ++ tail) more ∙ append_assoc before (s ∷ []) tail ∙ ap (λ ys. before ++ ys) (sym whole) ∙ c.loop-rest.invariant.before;
      counted = omega (arith, ap length whole);
      least = ap (λ (ss : List Stanza). least_of (along database_faults ss tail)) more ∙ databases_turn before tail rest s _ whole none c.loop-rest.invariant.least;
      rise = (rise.0, rise.3);
    }
