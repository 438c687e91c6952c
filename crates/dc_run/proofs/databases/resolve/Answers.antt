use Rattle.std.proofs.Common.{Err, sym, ap, ◌∙◌, subst}
use Rattle.dc_conf.specs.Configuration.{IsResolved}
use Rattle.dc_run.specs.Inside.{overlap_in}
use Rattle.dc_run.proofs.DatabaseLemmas.{resolved_for, wrong_dest, unknown_root}
use Rattle.dc_run.proofs.databases.resolve.Goals as goal

pub returns-in-None-clause-resolved : goal.returns-in-None-clause-resolved
returns-in-None-clause-resolved c =
    let told = c.in-Ok-resolve.ensures in
    resolved_for c.args.used.now c.args.conf.now c.in-Ok.roots c.in-Ok.ensures _ c.requires told.answer told.over told.once told.made told.disjoint
    (sym (c.overlap_at.ensures ∙ ap (overlap_in c.args.used.now) c.as_slice.ensures) ∙ c.in-None.is)

pub returns-in-Ok-resolve-clause-wrong : goal.returns-in-Ok-resolve-clause-wrong
returns-in-Ok-resolve-clause-wrong c =
    wrong_dest c.args.used.now c.args.conf.now c.in-Ok.roots c.in-Ok.ensures _ c.in-Some.word c.in-Ok-resolve.ensures.answer
    (sym (c.overlap_at.ensures ∙ ap (overlap_in c.args.used.now) c.as_slice.ensures) ∙ c.in-Some.is)

pub returns-in-Err-Unknown-clause-wrong : goal.returns-in-Err-Unknown-clause-wrong
returns-in-Err-Unknown-clause-wrong c =
    unknown_root c.args.used.now c.args.conf.now c.in-Ok.roots c.in-Ok.ensures c.in-Err-Unknown.root c.end_of_unknown.result c.end_of_unknown.ensures
    (subst (λ error. IsResolved c.args.conf.now c.in-Ok.roots (Err error)) c.in-Err-Unknown.field-0-is c.in-Err-Unknown.ensures.answer)
