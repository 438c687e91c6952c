use Rattle.std.proofs.Common.{◌≡◌, ◌-◌, ℕ, List, Some, drop, length, sym, ap, ◌∙◌, arith}
use Rattle.dc_pass.specs.Wire.{behind}
use Rattle.dc_pass.proofs.WayLemmas.{behind_place}
use Rattle.dc_pass.proofs.replies.place_behind.Goals as goal

pub returns-in-Some : goal.returns-in-Some
returns-in-Some c =
    let piece : List ℕ = c.args.piece.now in
    let text : List ℕ = c.args.text.now in
    let after : List ℕ = c.in-Some.after.now in
    let found : behind piece (drop c.args.at text) ≡ Some after = sym (c.in-Some.ensures ∙ ap (behind piece) c.rest_from.ensures) in
    let place : c.saturating_sub.result ≡ length text - length after = omega arith in
    found ∙ ap (λ (t : List ℕ). Some t) (behind_place piece text after c.args.at found ∙ ap (λ (n : ℕ). drop n text) (sym place))
