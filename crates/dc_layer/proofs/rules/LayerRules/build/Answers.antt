use Rattle.std.proofs.Common.{Err, ap}
use Rattle.std.proofs.lemmas.Result.{err_from_is_err_and}
use Rattle.dc_layer.specs.Rules.{rules_of}
use Rattle.dc_layer.proofs.RuleLemmas.{first_refused, second_refused, third_refused, fourth_refused}
use Rattle.dc_layer.proofs.rules.LayerRules.build.Goals as goal

pub returns-in_err-accept_name-clause-first : goal.returns-in_err-accept_name-clause-first
returns-in_err-accept_name-clause-first c =
    let p = err_from_is_err_and c.from_residual.result c.from_residual.ensures.1 in
    rw (p.1, p.2) (first_refused (rules_of c.args.spec.now) _ (λ is. c.in_err-accept_name.ensures.bad (ap Err is)) (λ is. c.in_err-accept_name.ensures.too_large (ap Err is)))

pub returns-in_err-reject_name-clause-first : goal.returns-in_err-reject_name-clause-first
returns-in_err-reject_name-clause-first c =
    let p = err_from_is_err_and c.from_residual-in_err-reject_name.result c.from_residual-in_err-reject_name.ensures.1 in
    rw (p.1, p.2)
    (second_refused (rules_of c.args.spec.now) _ c.in_ok-accept_name.ensures.ok (λ is. c.in_err-reject_name.ensures.bad (ap Err is)) (λ is. c.in_err-reject_name.ensures.too_large (ap Err is)))

pub returns-in_err-accept_type-clause-first : goal.returns-in_err-accept_type-clause-first
returns-in_err-accept_type-clause-first c =
    let p = err_from_is_err_and c.from_residual-in_err-accept_type.result c.from_residual-in_err-accept_type.ensures.1 in
    rw (p.1, p.2)
    (third_refused (rules_of c.args.spec.now) _ c.in_ok-accept_name.ensures.ok c.in_ok-reject_name.ensures.ok (λ is. c.in_err-accept_type.ensures.bad (ap Err is)) (λ is. c.in_err-accept_type.ensures.too_large (ap Err is)))

pub returns-in_err-reject_type-clause-first : goal.returns-in_err-reject_type-clause-first
returns-in_err-reject_type-clause-first c =
    let p = err_from_is_err_and c.from_residual-in_err-reject_type.result c.from_residual-in_err-reject_type.ensures.1 in
    rw (p.1, p.2)
    (fourth_refused (rules_of c.args.spec.now) _ c.in_ok-accept_name.ensures.ok c.in_ok-reject_name.ensures.ok c.in_ok-accept_type.ensures.ok
    (λ is. c.in_err-reject_type.ensures.bad (ap Err is)) (λ is. c.in_err-reject_type.ensures.too_large (ap Err is)))
