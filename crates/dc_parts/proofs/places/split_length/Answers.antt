use Rattle.std.proofs.Common.{sym, ◌∙◌, arith}
use Rattle.dc_parts.proofs.PackedLemmas.{bounded, length_ends, length_goes_on, no_length}
use Rattle.dc_parts.proofs.places.split_length.Goals as goal

-- the length ends here
pub overflow_add-result : goal.overflow_add-result
overflow_add-result c =
    let ends = length_ends c.loop-byte.rest.now c.in-Some.byte.now c.in-Some.more.now c.in-Some.ensures.cases.0 c.if-byte.true in
    let fits = bounded c.args.bytes.now c.requires in
    omega (arith, ends.0, fits)

pub returns-then-byte-clause-length : goal.returns-then-byte-clause-length
returns-then-byte-clause-length c =
    let ends = length_ends c.loop-byte.rest.now c.in-Some.byte.now c.in-Some.more.now c.in-Some.ensures.cases.0 c.if-byte.true in
    omega (arith, ends.0)

pub returns-then-byte-clause-rest : goal.returns-then-byte-clause-rest
returns-then-byte-clause-rest c =
    let ends = length_ends c.loop-byte.rest.now c.in-Some.byte.now c.in-Some.more.now c.in-Some.ensures.cases.0 c.if-byte.true in
    sym ends.1 ∙ c.loop-byte.invariant.left

-- more of it comes
pub overflow_add-length : goal.overflow_add-length
overflow_add-length c =
    let more = length_goes_on c.loop-byte.rest.now c.in-Some.byte.now c.in-Some.more.now c.in-Some.ensures.cases.0 c.if-byte.false in
    let fits = bounded c.args.bytes.now c.requires in
    omega (arith, more.0, fits)

pub loop-byte-preserved : goal.loop-byte-preserved
loop-byte-preserved c =
    let more = length_goes_on c.loop-byte.rest.now c.in-Some.byte.now c.in-Some.more.now c.in-Some.ensures.cases.0 c.if-byte.false in
    record { so_far = omega (arith, more.0); left = sym more.1 ∙ c.loop-byte.invariant.left }

-- there are no bytes
pub returns-clause-length : goal.returns-clause-length
returns-clause-length c =
    let none = no_length c.loop-byte.rest.now (c.in_default.ensures.cases) in
    omega (arith, none.0)

pub returns-clause-rest : goal.returns-clause-rest
returns-clause-rest c =
    let none = no_length c.loop-byte.rest.now (c.in_default.ensures.cases) in
    sym none.1 ∙ c.loop-byte.invariant.left
