use Rattle.std.proofs.Common.{◌≡◌, ◌++◌, ◌∷◌, [], List, ℕ, ap, ◌∙◌}
use Rattle.std.specs.Prelude.{option_map}
use Rattle.dc_pass.specs.Machine.{unescaped}
use Rattle.dc_pass.proofs.LineLemmas.{meant_more}
use Rattle.dc_pass.proofs.lines.unescape.Goals as goal

pub loop-rest-preserved : goal.loop-rest-preserved
loop-rest-preserved c =
    let pushed : c.push.new.self ≡ c.loop-rest.text ++ c.in-Some.byte ∷ [] = c.in_ok-push-in-Some.ensures.ok in
    ap (λ (t : List ℕ). option_map (λ (more : List ℕ). t ++ more) (unescaped c.in-Some.after.now)) pushed
    ∙ meant_more c.loop-rest.text c.loop-rest.rest.now c.in-Some.after.now c.in-Some.byte (unescaped c.args.escaped.now) c.in-Some.ensures.0 c.loop-rest.invariant
