use Rattle.std.proofs.Common.{ap, ◌∙◌, sym, subst, ◌∷◌}
use Rattle.dc_parts.specs.Packed.{HasText, IsPacked, text_at, behind_text, entries_in}
use Rattle.dc_parts.proofs.PackedLemmas.{has_key, has_value, later_packed, opened}
use Rattle.dc_parts.proofs.places.split_entry.Goals as goal

pub split_key-requires : goal.split_key-requires
split_key-requires c = has_key c.args.bytes.now c.requires.some c.requires.packed

pub split_text-requires : goal.split_text-requires
split_text-requires c = subst HasText (sym c.split_key.ensures.rest) (has_value c.args.bytes.now c.requires.some c.requires.packed)

pub returns-clause-first : goal.returns-clause-first
returns-clause-first c =
    let value = c.split_text.ensures.text ∙ ap text_at c.split_key.ensures.rest in
    let rest = c.split_text.ensures.rest ∙ ap behind_text c.split_key.ensures.rest in
    opened c.args.bytes.now c.requires.some c.requires.packed ∙ (λ i. (sym c.split_key.ensures.key i, sym value i) ∷ entries_in (sym rest i))

pub returns-clause-rest : goal.returns-clause-rest
returns-clause-rest c =
    let rest = c.split_text.ensures.rest ∙ ap behind_text c.split_key.ensures.rest in
    subst IsPacked (sym rest) (later_packed c.args.bytes.now c.requires.some c.requires.packed)
