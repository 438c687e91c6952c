use Rattle.std.proofs.Common.{take, drop, ◌∙◌}
use Rattle.dc_parts.specs.Packed.{text_at, behind_text, HasText}
use Rattle.dc_parts.proofs.places.split_text.Goals as goal

pub split_at-requires : goal.split_at-requires
unfolding HasText
split_at-requires c = rw (c.split_length-length.ensures.length, c.split_length-length.ensures.rest) c.requires

pub returns-clause-text : goal.returns-clause-text
unfolding text_at
returns-clause-text c = c.split_at.ensures.front ∙ (λ i. take (c.split_length-length.ensures.length i) (c.split_length-length.ensures.rest i))

pub returns-clause-rest : goal.returns-clause-rest
unfolding behind_text
returns-clause-rest c = c.split_at.ensures.back ∙ (λ i. drop (c.split_length-length.ensures.length i) (c.split_length-length.ensures.rest i))
