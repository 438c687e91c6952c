use Rattle.std.proofs.Common.{◌≡◌, true, sym, ap, ◌∙◌}
use Rattle.std.specs.FinMap as map
use Rattle.dc_text.specs.Bytes.{trimmed}
use Rattle.dc_text.specs.Maps.{set_of}
use Rattle.dc_text.specs.Names.{is_name}
use Rattle.dc_item.specs.Grammar.{pieces}
use Rattle.dc_item.proofs.PieceLemmas.{pieces-name, all-one}
use Rattle.dc_item.proofs.reader.put_owners.Goals as goal

-- the text is one piece
pub returns-then-is_name-clause-good : goal.returns-then-is_name-clause-good
returns-then-is_name-clause-good c =
    let text = c.args.text.now in
    let good : is_name (trimmed text) ≡ true = ap is_name (sym c.trim-one.ensures) ∙ sym c.is_name.ensures ∙ c.if-is_name.true in
    sym (all-one is_name (pieces text) (trimmed text) (pieces-name text good) good)

pub returns-then-is_name-clause-put : goal.returns-then-is_name-clause-put
returns-then-is_name-clause-put c =
    let text = c.args.text.now in
    let item = c.args.item.now in
    let good : is_name (trimmed text) ≡ true = ap is_name (sym c.trim-one.ensures) ∙ sym c.is_name.ensures ∙ c.if-is_name.true in
    c.in_ok-put_owner.ensures.ok ∙ (λ i. record item { owners = map.insert (c.requires i) (c.trim-one.ensures i) tt })
    ∙ ap (λ ps. record item { owners = set_of ps }) (sym (pieces-name text good))
