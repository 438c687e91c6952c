use Rattle.std.proofs.Common.{ap}
use Rattle.dc_words.specs.Choices.{pieces}
use Rattle.dc_words.proofs.ChoiceLemmas.{gap-skipped, first_choice, only_choice}
use Rattle.dc_words.proofs.laws.choices_stand_between_commas.Goals as goal

pub returns-clause-leading : goal.returns-clause-leading
returns-clause-leading c = λ gap text e. ap pieces (gap-skipped gap text e)

pub returns-clause-first : goal.returns-clause-first
returns-clause-first c = first_choice

pub returns-clause-only : goal.returns-clause-only
returns-clause-only c = only_choice
