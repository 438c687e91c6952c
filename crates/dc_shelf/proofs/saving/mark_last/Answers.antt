use Rattle.std.proofs.Common.{add-one, sym, ◌∙◌}
use Rattle.std.proofs.lemmas.List.{length-map}
use Rattle.dc_shelf.proofs.MarkLemmas.{last_asked}
use Rattle.dc_shelf.proofs.saving.mark_last.Goals as goal

pub mark_at-requires-clause-asked : goal.mark_at-requires-clause-asked
mark_at-requires-clause-asked g c = (last_asked _ c.args.place c.pop.new.self c.in-Some.asked (rw length-map c.requires.within) (rw (← add-one) (sym c.requires.asked ∙ c.in-Some.ensures))).0

pub returns-clause-left : goal.returns-clause-left
returns-clause-left g c = (last_asked _ c.args.place c.pop.new.self c.in-Some.asked (rw length-map c.requires.within) (rw (← add-one) (sym c.requires.asked ∙ c.in-Some.ensures))).1
