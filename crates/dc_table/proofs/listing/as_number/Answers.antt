use Rattle.std.proofs.Common.{rules, ◌∙◌}
use Rattle.std.proofs.lemmas.Nat.{be_bytes_8}
use Rattle.dc_table.proofs.FrontLemmas.{eight_spell}
use Rattle.dc_table.proofs.listing.as_number.Goals as goal

pub returns : goal.returns
returns c = record {
  number = c.from_be_bytes.ensures ∙ eight_spell c.args.bytes (search rules);
  alone = be_bytes_8 c.args.bytes _ (search rules) (search rules) c.from_be_bytes.ensures;
}
