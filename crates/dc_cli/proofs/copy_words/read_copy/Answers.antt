use Rattle.std.proofs.Common.{ap, sym, subst, ◌∙◌, ◌≡◌}
use Rattle.std.specs.Prelude.{codes, Some}
use Rattle.dc_cli.specs.DatabaseReading.{after, IsStopped, copy_next, nothing_copied, is_copy}
use Rattle.dc_cli.proofs.CopyLemmas.{read_copied, seen_fits}
use Rattle.dc_cli.proofs.ReadingLemmas.{ends_words, refused_word, refused_end, answer_named}
use Rattle.dc_cli.proofs.copy_words.read_copy.Goals as goal

pub returns-in-Err : goal.returns-in-Err
returns-in-Err c =
    refused_word (codes "copydb") copy_next nothing_copied is_copy c.args.words.now c.in-Err.place read_copied
    (subst (λ first. IsStopped copy_next first c.args.words.now c.in-Err.place) c.nothing.ensures c.in-Err.ensures)

pub copy_for-requires : goal.copy_for-requires
copy_for-requires c =
    seen_fits c.args.words.now c.in-Ok.seen (subst (λ first. after copy_next (Some first) c.args.words.now ≡ Some c.in-Ok.seen) c.nothing.ensures c.in-Ok.ensures) (sym c.is_copy.ensures ∙ c.if-is_copy.true)

pub returns-then-is_copy : goal.returns-then-is_copy
returns-then-is_copy c =
    let all = subst (λ first. after copy_next (Some first) c.args.words.now ≡ Some c.in-Ok.seen) c.nothing.ensures c.in-Ok.ensures in
    answer_named (codes "copydb") c.args.words.now c.copy_for.result (read_copied.named c.args.words.now (ap (ends_words is_copy) all ∙ sym c.is_copy.ensures ∙ c.if-is_copy.true)) c.copy_for.ensures

pub returns-else-is_copy : goal.returns-else-is_copy
returns-else-is_copy c =
    refused_end (codes "copydb") copy_next nothing_copied is_copy c.args.words.now c.in-Ok.seen read_copied
    (subst (λ first. after copy_next (Some first) c.args.words.now ≡ Some c.in-Ok.seen) c.nothing.ensures c.in-Ok.ensures) (sym c.is_copy.ensures ∙ c.if-is_copy.false)
