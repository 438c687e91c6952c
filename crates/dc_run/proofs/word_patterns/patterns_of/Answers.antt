use Rattle.std.proofs.Common.{option_to_list}
use Rattle.std.proofs.lemmas.Result.{err_from_is_err_and}
use Rattle.dc_run.proofs.PatternLemmas.{unbuilt_first, unbuilt_later}
use Rattle.dc_run.proofs.word_patterns.patterns_of.Goals as goal

pub returns-in_err-pattern-clause-unbuilt : goal.returns-in_err-pattern-clause-unbuilt
returns-in_err-pattern-clause-unbuilt c =
    let p = err_from_is_err_and c.from_residual.result c.from_residual.ensures.1 in
    rw (p.1, p.2) (unbuilt_first (option_to_list c.args.one.now) (option_to_list c.args.other.now) _ c.in_err-pattern.ensures.unbuilt)

pub returns-in_err-later-clause-unbuilt : goal.returns-in_err-later-clause-unbuilt
returns-in_err-later-clause-unbuilt c =
    let p = err_from_is_err_and c.from_residual-in_err-later.result c.from_residual-in_err-later.ensures.1 in
    rw (p.1, p.2) (unbuilt_later (option_to_list c.args.one.now) (option_to_list c.args.other.now) _ c.in_ok-pattern.ensures.patterns c.in_err-later.ensures.unbuilt)
