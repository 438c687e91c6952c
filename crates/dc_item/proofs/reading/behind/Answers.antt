use Rattle.std.proofs.Common.{◌≡◌, ℕ, ◌+◌, ◌<◌, ◌++◌, ◌∷◌, [], List, length, take, drop, get_or, sym, ap, ◌∙◌, subst, arith}
use Rattle.std.proofs.lemmas.List.{take-append-drop, take_more, take_all}
use Rattle.std.proofs.Math.Nat.{le_refl}
use Rattle.dc_text.proofs.LineLemmas.{to_end}
use Rattle.dc_item.specs.Heads.{front_of}
use Rattle.dc_item.proofs.reading.behind.Goals as goal

-- one byte more that is the same
one_more : (xs ys : List ℕ) (i : ℕ) → i < length xs → i < length ys → take i xs ≡ take i ys → get_or xs i 0 ≡ get_or ys i 0 → take (i + 1) xs ≡ take (i + 1) ys
one_more xs ys i short within same here = take_more xs i 0 short ∙ (λ k. same k ++ here k ∷ []) ∙ sym (take_more ys i 0 within)

pub loop-at-preserved : goal.loop-at-preserved
loop-at-preserved c =
    one_more c.args.line.now c.args.printed.now c.loop-at.at (omega arith) c.loop-at-test.true c.loop-at.invariant c.if-line-at.false

pub returns : goal.returns
returns c =
    let line = c.args.line.now in
    let printed = c.args.printed.now in
    let n : ℕ = length printed in
    let all : c.loop-at.at ≡ n = omega arith in
    let same : take n line ≡ take n printed = subst (λ k. take k line ≡ take k printed) all c.loop-at.invariant in
    sym (take-append-drop n line)
    ∙ ap (λ front. front ++ drop n line) (same ∙ take_all n printed (le_refl n) ∙ c.requires)
    ∙ ap (λ rest. front_of c.args.head ++ rest) (sym (to_end n line))
