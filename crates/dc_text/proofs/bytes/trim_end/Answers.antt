use Rattle.std.proofs.Common.{◌-◌, sym, ◌∙◌, ap, length, take, get_or, List, ℕ}
use Rattle.dc_text.specs.Bytes.{is_space, drop_back}
use Rattle.dc_text.proofs.LineLemmas.{last_apart, drop_back-passes, drop_back-stays}
use Rattle.dc_text.proofs.bytes.trim_end.Goals as goal

pub loop-rest-preserved : goal.loop-rest-preserved
loop-rest-preserved c =
    let xs : List ℕ = c.loop-rest.rest.now in
    sym (drop_back-passes is_space (take (length xs - 1) xs) (get_or xs (length xs - 1) 0) (sym c.is_space.ensures ∙ c.if-is_space.true))
    ∙ ap (drop_back is_space) (sym (last_apart xs 0 c.in-len1-up.len_at_least)) ∙ c.loop-rest.invariant

pub returns-else-is_space : goal.returns-else-is_space
returns-else-is_space c =
    let xs : List ℕ = c.loop-rest.rest.now in
    last_apart xs 0 c.in-len1-up.len_at_least
    ∙ sym (drop_back-stays is_space (take (length xs - 1) xs) (get_or xs (length xs - 1) 0) (sym c.is_space.ensures ∙ c.if-is_space.false))
    ∙ ap (drop_back is_space) (sym (last_apart xs 0 c.in-len1-up.len_at_least)) ∙ c.loop-rest.invariant
