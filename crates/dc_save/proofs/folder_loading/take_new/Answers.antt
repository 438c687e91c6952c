use Rattle.std.proofs.Common.{[], sym, ◌∙◌}
use Rattle.std.proofs.lemmas.List.{append-nil}
use Rattle.dc_save.proofs.FileTurnLemmas.{nothing_new, had_step, taken_step}
use Rattle.dc_save.proofs.folder_loading.take_new.Goals as goal

pub loop-entry-init : goal.loop-entry-init
loop-entry-init g c = ([], sym (append-nil c.args.records), nothing_new _)

pub loop-entry-preserved-in-Continue-1 : goal.loop-entry-preserved-in-Continue-1
loop-entry-preserved-in-Continue-1 g c =
    let inv = c.loop-entry.invariant in
    taken_step _ _ c.args.records c.loop-entry.left c.pop.new.self inv.0 c.in-Some.entry c.requires.apart inv.1 c.in-Some.ensures inv.2 _ (sym c.has.ensures ∙ c.if-not-has.true) c.in_ok-take_entry.ensures.ok

pub loop-entry-preserved : goal.loop-entry-preserved
loop-entry-preserved g c =
    let inv = c.loop-entry.invariant in
    had_step _ _ c.args.records c.loop-entry.left c.pop.new.self inv.0 c.in-Some.entry c.requires.apart inv.1 c.in-Some.ensures inv.2 (sym c.has.ensures ∙ c.if-not-has.false)
