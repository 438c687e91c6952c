use Rattle.dc_shelf.proofs.saving.+mark_to.Given as goal

abbrev pub decreases-mark_to : goal.decreases-mark_to
decreases-mark_to g l = l.count
