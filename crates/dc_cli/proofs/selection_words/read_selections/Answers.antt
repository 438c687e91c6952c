use Rattle.std.proofs.Common.{subst, ◌≡◌}
use Rattle.std.specs.Prelude.{codes, Some}
use Rattle.dc_cli.specs.DatabaseReading.{after, IsStopped, nothing_selected, selection_next, is_selections}
use Rattle.dc_cli.proofs.ReadingLemmas.{refused_word}
use Rattle.dc_cli.proofs.SelectionLemmas.{read_selected, selections_named}
use Rattle.dc_cli.proofs.selection_words.read_selections.Goals as goal

pub returns-in-Ok : goal.returns-in-Ok
returns-in-Ok c = selections_named c.args.words.now c.in-Ok.seen (subst (λ first. after selection_next (Some first) c.args.words.now ≡ Some c.in-Ok.seen) c.nothing.ensures c.in-Ok.ensures)

pub returns-in-Err : goal.returns-in-Err
returns-in-Err c =
    refused_word (codes "set-selections") selection_next nothing_selected is_selections c.args.words.now c.in-Err.place read_selected
    (subst (λ first. IsStopped selection_next first c.args.words.now c.in-Err.place) c.nothing.ensures c.in-Err.ensures)
