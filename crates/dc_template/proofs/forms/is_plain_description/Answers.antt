use Rattle.std.proofs.Common.{◌≡◌, true, false, get_or, refl, sym, ap, arith}
use Rattle.std.specs.Cmp.Lexicographic.{same_text}
use Rattle.std.specs.Prelude.{codes}
use Rattle.std.specs.Str.{bytes_eq}
use Rattle.std.proofs.lemmas.Slice.Eq.{text_from_reads}
use Rattle.dc_template.proofs.forms.is_plain_description.Goals as goal

pub returns-in-description : goal.returns-in-description
returns-in-description c = ap (λ text. bytes_eq text (codes "description")) (sym (text_from_reads c.args.key.now (codes "description") (omega arith) (omega arith, (omega arith, (omega arith, (omega arith, (omega arith, (omega arith, (omega arith, (omega arith, (omega arith, (omega arith, (omega arith, tt)))))))))))))

pub returns-in_default-2 : goal.returns-in_default-2
returns-in_default-2 c = elim (bytes_eq c.args.key.now (codes "description")) as (λ t. bytes_eq c.args.key.now (codes "description") ≡ t → false ≡ t) [
  | true ↦ λ same. (let is = same_text c.args.key.now (codes "description") (sym same) in absurd (omega (arith, ap (λ s. get_or s 0 0) is, ap (λ s. get_or s 1 0) is, ap (λ s. get_or s 2 0) is, ap (λ s. get_or s 3 0) is, ap (λ s. get_or s 4 0) is, ap (λ s. get_or s 5 0) is, ap (λ s. get_or s 6 0) is, ap (λ s. get_or s 7 0) is, ap (λ s. get_or s 8 0) is, ap (λ s. get_or s 9 0) is, ap (λ s. get_or s 10 0) is)))
  | false ↦ λ _. refl
] refl
