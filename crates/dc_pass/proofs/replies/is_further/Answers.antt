use Rattle.std.proofs.Common.{◌-◌, ℕ, List, drop, take, length, sym, ap, ◌∙◌}
use Rattle.std.specs.List.{list_any}
use Rattle.dc_teletype.proofs.AskLemmas.{list_apart}
use Rattle.dc_pass.specs.Wire.{are_further}
use Rattle.dc_pass.specs.Hearing.{goes_further}
use Rattle.dc_pass.proofs.replies.is_further.Goals as goal

pub loop-rest-preserved : goal.loop-rest-preserved
loop-rest-preserved c =
    let text : List ℕ = c.args.text.now in
    let tail : List (List ℕ) = take (length c.loop-rest.rest.now - 1) (drop 1 c.loop-rest.rest.now) in
    let whole = list_apart c.loop-rest.rest.now c.choice-item.result c.in-len1-up.len_at_least c.choice-item.is in
    c.in_ok-ways.ensures tail
    ∙ ap (λ (p : List ℕ). list_any (goes_further tail p text) c.loop-rest.ways) (c.bytes.ensures ∙ c.in_ok-piece.ensures)
    ∙ ap (λ (r : List (List ℕ)). list_any (λ (at : ℕ). are_further r (drop at text)) c.loop-rest.ways) (sym whole)
    ∙ c.loop-rest.invariant
