use Rattle.std.proofs.Common.{ap, sym, subst, ◌∙◌, ◌≡◌}
use Rattle.std.specs.Prelude.{codes, Some}
use Rattle.dc_cli.specs.DatabaseReading.{after, IsStopped, show_next, nothing_shown, is_show}
use Rattle.dc_cli.proofs.ShowLemmas.{read_shown}
use Rattle.dc_cli.proofs.ReadingLemmas.{ends_words, refused_word, refused_end, answer_named}
use Rattle.dc_cli.proofs.show_words.read_show.Goals as goal

pub returns-in-Err : goal.returns-in-Err
returns-in-Err c =
    refused_word (codes "show") show_next nothing_shown is_show c.args.words.now c.in-Err.place read_shown
    (subst (λ first. IsStopped show_next first c.args.words.now c.in-Err.place) c.nothing.ensures c.in-Err.ensures)

pub show_for-requires-clause-seen : goal.show_for-requires-clause-seen
show_for-requires-clause-seen c = subst (λ first. after show_next (Some first) c.args.words.now ≡ Some c.in-Ok.seen) c.nothing.ensures c.in-Ok.ensures

pub returns-then-is_show : goal.returns-then-is_show
returns-then-is_show c =
    let all = subst (λ first. after show_next (Some first) c.args.words.now ≡ Some c.in-Ok.seen) c.nothing.ensures c.in-Ok.ensures in
    answer_named (codes "show") c.args.words.now c.show_for.result (read_shown.named c.args.words.now (ap (ends_words is_show) all ∙ sym c.is_show.ensures ∙ c.if-is_show.true)) c.show_for.ensures

pub returns-else-is_show : goal.returns-else-is_show
returns-else-is_show c =
    refused_end (codes "show") show_next nothing_shown is_show c.args.words.now c.in-Ok.seen read_shown
    (subst (λ first. after show_next (Some first) c.args.words.now ≡ Some c.in-Ok.seen) c.nothing.ensures c.in-Ok.ensures) (sym c.is_show.ensures ∙ c.if-is_show.false)
