use Rattle.std.proofs.Common.{ℕ, ◌≡◌, ◌+◌, ◌-◌, ◌++◌, List, length, take, drop, arith, sym, ap, ◌∙◌}
use Rattle.std.proofs.lemmas.List.{take-take}
use Rattle.dc_parts.specs.Writing.{short_entry}
use Rattle.dc_parts.proofs.writing.put_short.Goals as goal

-- what stands before and behind the wider span is as it was
pub returns-clause-ok : goal.returns-clause-ok
returns-clause-ok c =
    let old : List ℕ = c.args.bytes.now.items in
    let new : List ℕ = c.open_gap.new.bytes.items in
    let count : ℕ = c.args.span.start + length c.args.key.rest.now + length c.args.value.now + 3 in
    let front : take c.args.span.start new ≡ take c.args.span.start old =
    sym (take-take c.args.span.start c.args.span.end new c.requires.ordered) ∙ ap (take c.args.span.start) c.in_ok-open_gap.ensures.front
    ∙ take-take c.args.span.start c.args.span.end old c.requires.ordered in
    let end : count ≡ c.args.span.end + (count - c.args.span.end) = omega (arith, c.if-end-span.false) in
    let rest : drop count new ≡ drop c.args.span.end old = ap (λ n. drop n new) end ∙ c.in_ok-open_gap.ensures.rest in
    c.put_within-2.ensures ∙ (λ i. front i ++ (short_entry c.args.key c.args.value.now ++ rest i))
