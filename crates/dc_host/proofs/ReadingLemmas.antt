-- What is read of a file up to a limit.
use Rattle.std.proofs.Common.{◌≡◌, ℕ, ◌<◌, List, [], ◌++◌, length, take, take_all, Option, Some, None, IfSome, ap, ◌∙◌, arith, length-take}
use Rattle.std.specs.Prelude.{option_map}

-- fewer bytes than the limit are all
pub whole : (left : Option (List ℕ)) (limit : ℕ) (before got bytes : List ℕ) → before ≡ [] → bytes ≡ got
    → IfSome (option_map (take limit) left) (λ front. got ≡ before ++ front) → length bytes < limit → IfSome left (λ all. bytes ≡ all)
whole None limit before got bytes none same read few = tt
whole (Some all) limit before got bytes none same read few =
    let front : bytes ≡ take limit all = same ∙ read ∙ ap (λ (start : List ℕ). start ++ take limit all) none in
    front ∙ take_all limit all (omega (arith, few, ap length front, length-take limit all))
