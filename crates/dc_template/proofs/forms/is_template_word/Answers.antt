use Rattle.std.proofs.Common.{sym, ap, arith}
use Rattle.std.specs.Prelude.{codes}
use Rattle.std.specs.Str.{bytes_eq}
use Rattle.std.proofs.lemmas.Slice.Eq.{text_from_reads}
use Rattle.dc_template.proofs.forms.is_template_word.Goals as goal

pub returns-in-Template : goal.returns-in-Template
returns-in-Template c = ap (λ text. bytes_eq text (codes "Template")) (sym (text_from_reads c.args.word.now (codes "Template") (omega arith) (omega arith, (omega arith, (omega arith, (omega arith, (omega arith, (omega arith, (omega arith, (omega arith, tt))))))))))
