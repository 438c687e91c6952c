use Rattle.std.proofs.Common.{sym}
use Rattle.std.specs.Cmp.Lexicographic.{same_text}
use Rattle.dc_template.specs.Kinds.{kind_word, all_kinds}
use Rattle.std.specs.Str.{bytes_eq}
use Rattle.dc_template.proofs.TestLemmas.{find_passes}
use Rattle.dc_template.proofs.laws.kinds_have_words.Goals as goal

pub returns-clause-word : goal.returns-clause-word
returns-clause-word c = λ word kind e. same_text (kind_word kind) word (sym (find_passes (λ k. bytes_eq (kind_word k) word) all_kinds kind e))
