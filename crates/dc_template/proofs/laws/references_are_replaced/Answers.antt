use Rattle.std.proofs.Common.{◌∷◌, refl}
use Rattle.dc_template.proofs.ExpansionLemmas.{variable, quoted, unclosed}
use Rattle.dc_template.proofs.laws.references_are_replaced.Goals as goal

pub returns-clause-variable : goal.returns-clause-variable
returns-clause-variable c = λ variables key rest h. variable variables (36 ∷ 123 ∷ key) rest refl h

pub returns-clause-quoted : goal.returns-clause-quoted
returns-clause-quoted c = λ variables key rest h. quoted variables (36 ∷ 123 ∷ key) rest refl h

pub returns-clause-unclosed : goal.returns-clause-unclosed
returns-clause-unclosed c = unclosed
