use Rattle.std.proofs.Common.{ℕ, ◌+◌, ◌-◌, ◌*◌, List, length, take, drop, sym, subst, arith}
use Rattle.dc_conf.specs.Values.{octal}
use Rattle.dc_conf.proofs.OctalLemmas.{Goes, first_digit, room_at, octal_turn}
use Rattle.dc_conf.proofs.values.octal.Goals as goal

pub overflow_mul-number : goal.overflow_mul-number
overflow_mul-number c =
    let room = room_at c.loop-rest.number c.loop-rest.rest.now c.in-len1-up.len_at_least c.loop-rest.invariant.room in
    omega arith

pub overflow_add-number : goal.overflow_add-number
overflow_add-number c =
    let digit = first_digit c.loop-rest.rest.now c.in-len1-up.len_at_least c.loop-rest.invariant.digits in
    let room = room_at c.loop-rest.number c.loop-rest.rest.now c.in-len1-up.len_at_least c.loop-rest.invariant.room in
    omega (arith, c.from.ensures)

pub loop-rest-preserved : goal.loop-rest-preserved
loop-rest-preserved c =
    let rest : List ℕ = c.loop-rest.rest.now in
    let turn = octal_turn c.loop-rest.number rest (octal c.args.value.now) c.in-len1-up.len_at_least (record { spelled = c.loop-rest.invariant.spelled; digits = c.loop-rest.invariant.digits; room = c.loop-rest.invariant.room }) in
    let next = subst (λ d. Goes (c.loop-rest.number * 8 + d) (take (length rest - 1) (drop 1 rest)) (octal c.args.value.now)) (sym c.from.ensures) turn in
    record { spelled = next.spelled; digits = next.digits; room = next.room }
