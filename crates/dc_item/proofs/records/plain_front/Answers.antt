use Rattle.std.proofs.Common.{◌≡◌, false, length, arith, ap, ◌∙◌}
use Rattle.std.specs.Prelude.{nat_le}
use Rattle.std.specs.Option.{unwrap_or}
use Rattle.std.proofs.lemmas.Bool.Decides.{nat_tests}
use Rattle.dc_item.proofs.PlainLines.{is_backslash, place_or_end}
use Rattle.dc_item.proofs.records.plain_front.Goals as goal

pub returns-else-wanted-known : goal.returns-else-wanted-known
returns-else-wanted-known c =
    let more : nat_le c.args.wanted c.args.known ≡ false = grind (arith, nat_tests) in
    rw more (c.unwrap_or.ensures ∙ ap (λ o. unwrap_or o (length c.args.bytes.now)) c.place_of.ensures ∙ place_or_end is_backslash c.args.bytes.now)
