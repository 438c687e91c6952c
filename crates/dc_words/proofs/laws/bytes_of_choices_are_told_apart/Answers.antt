use Rattle.std.proofs.Common.{refl, ◌∙◌, ◌∷◌}
use Rattle.dc_words.proofs.ChoiceLemmas.{either_way, symbols_escape, symbols_plain, parting, other_byte}
use Rattle.dc_words.proofs.laws.bytes_of_choices_are_told_apart.Goals as goal

pub returns-clause-comma_spelled : goal.returns-clause-comma_spelled
returns-clause-comma_spelled c = λ skips text. either_way skips 92 (44 ∷ text) refl ∙ symbols_escape 44 text refl

pub returns-clause-space_spelled : goal.returns-clause-space_spelled
returns-clause-space_spelled c = λ skips text. either_way skips 92 (32 ∷ text) refl ∙ symbols_escape 32 text refl

pub returns-clause-backslash : goal.returns-clause-backslash
returns-clause-backslash c = λ skips text e. either_way skips 92 text refl ∙ symbols_plain 92 text e refl

pub returns-clause-parting : goal.returns-clause-parting
returns-clause-parting c = parting

pub returns-clause-comma : goal.returns-clause-comma
returns-clause-comma c = λ skips text e. either_way skips 44 text refl ∙ symbols_plain 44 text refl e

pub returns-clause-other : goal.returns-clause-other
returns-clause-other c = other_byte
