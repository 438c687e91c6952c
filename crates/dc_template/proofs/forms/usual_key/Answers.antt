use Rattle.std.proofs.Common.{refl, sym, ap, map, arith}
use Rattle.std.specs.Prelude.{codes}
use Rattle.std.proofs.lemmas.Slice.Eq.{text_from_reads}
use Rattle.dc_text.specs.Bytes.{lower}
use Rattle.dc_template.proofs.forms.usual_key.Goals as goal

pub returns-in-Default : goal.returns-in-Default
returns-in-Default c = (ap (map lower) (sym (text_from_reads c.args.word.now (codes "Default") (omega arith) (omega arith, (omega arith, (omega arith, (omega arith, (omega arith, (omega arith, (omega arith, tt))))))))), refl, λ value. refl)

pub returns-in-Choices : goal.returns-in-Choices
returns-in-Choices c = (ap (map lower) (sym (text_from_reads c.args.word.now (codes "Choices") (omega arith) (omega arith, (omega arith, (omega arith, (omega arith, (omega arith, (omega arith, (omega arith, tt))))))))), refl, λ value. refl)

pub returns-in-Description : goal.returns-in-Description
returns-in-Description c = (ap (map lower) (sym (text_from_reads c.args.word.now (codes "Description") (omega arith) (omega arith, (omega arith, (omega arith, (omega arith, (omega arith, (omega arith, (omega arith, (omega arith, (omega arith, (omega arith, (omega arith, tt))))))))))))), refl, λ value. refl)
