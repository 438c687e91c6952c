use Rattle.std.proofs.Common.{◌∷◌, ◌++◌, ◌-◌, ◌<◌, [], length, take, drop, sym, ap, ◌∙◌, arith}
use Rattle.std.proofs.lemmas.Result.{on_ok_weaker}
use Rattle.dc_text.proofs.LineLemmas.{head_apart}
use Rattle.dc_template.specs.Expansion.{variable_or_nothing}
use Rattle.dc_template.proofs.ExpansionLemmas.{variable_end, quoted_end, empty_end, behind_is}
use Rattle.dc_template.proofs.expansion.append_expanded.Goals as goal
use Rattle.dc_template.proofs.expansion.append_expanded.Goals.{in_default, in-len1-up+else-opens+then-first-eq92+then-opens-2+in_ok-append}

pub returns-then-opens : goal.returns-then-opens
returns-then-opens g c =
    let v = g.V.Variables.values c.args.variables.now in
    let opened = sym c.opens.ensures ∙ c.if-opens.true in
    on_ok_weaker c.append_value.result
    (λ e. e ∙ ap (λ k. c.loop-rest.out ++ variable_or_nothing v k) (sym (behind_is c.loop-rest.rest.now opened))
    ∙ variable_end v c.loop-rest.rest.now c.loop-rest.out _ opened c.loop-rest.invariant.closed c.loop-rest.invariant.so_far)
    c.append_value.ensures

pub returns : goal.returns
returns g c =
    let v = g.V.Variables.values c.args.variables.now in
    on_ok_weaker c.push-2.result (λ e. e ∙ elim c.if-rest-lt1.branch [
      | in_default w ↦ ap (λ t. t ++ 125 ∷ []) w.out-is ∙ empty_end v c.loop-rest.rest.now c.loop-rest.out _ w.in_default.len_below c.loop-rest.invariant.so_far
      | in-len1-up+else-opens+then-first-eq92+then-opens-2+in_ok-append w ↦
          let some : 0 < length c.loop-rest.rest.now = omega (arith, w.in-len1-up.len_at_least) in
          ap (λ t. t ++ 125 ∷ []) (w.out-is ∙ w.in_ok-append.ensures.ok)
          ∙ quoted_end v c.loop-rest.rest.now (take (length c.loop-rest.rest.now - 1) (drop 1 c.loop-rest.rest.now)) c.loop-rest.out _
          (head_apart c.loop-rest.rest.now some ∙ ap (λ b. b ∷ take (length c.loop-rest.rest.now - 1) (drop 1 c.loop-rest.rest.now)) w.if-first-eq92.true)
          (sym w.opens-then-first-eq92.ensures ∙ w.if-opens-2.true) c.loop-rest.invariant.closed c.loop-rest.invariant.so_far
    ]) c.push-2.ensures.ok
