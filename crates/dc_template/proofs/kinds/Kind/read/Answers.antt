use Rattle.std.proofs.Common.{◌≡◌, ℕ, true, false, cond, List, Some, None, length, refl, sym, ap, arith}
use Rattle.std.specs.Prelude.{codes}
use Rattle.std.specs.Str.{bytes_eq}
use Rattle.std.specs.Cmp.Lexicographic.{same_text}
use Rattle.dc_template.specs.declared.kinds.Kind.TheVariants.{Str, Bool, Select, Multiselect, Password, Note, Txt, Error, Title}
use Rattle.dc_template.proofs.kinds.Kind.read.Goals as goal

other : (name word : List ℕ) → (name ≡ word → ⊥) → bytes_eq name word ≡ false
other name word apart = elim (bytes_eq name word) as (λ t. bytes_eq name word ≡ t → t ≡ false) [ true ↦ λ same. absurd (apart (same_text name word (sym same))) | false ↦ λ _. refl ] refl

pub returns-in_default-43 : goal.returns-in_default-43
returns-in_default-43 c =
    let word : List ℕ = c.args.word.now in
    let no_string : bytes_eq (codes "string") word ≡ false = other (codes "string") word (λ is. omega (arith, ap length is)) in
    let no_boolean : bytes_eq (codes "boolean") word ≡ false = other (codes "boolean") word (λ is. omega (arith, ap length is)) in
    let no_select : bytes_eq (codes "select") word ≡ false = other (codes "select") word (λ is. omega (arith, ap length is)) in
    let no_multiselect : bytes_eq (codes "multiselect") word ≡ false = other (codes "multiselect") word (λ is. omega (arith, ap length is)) in
    let no_password : bytes_eq (codes "password") word ≡ false = other (codes "password") word (λ is. omega (arith, ap length is)) in
    let no_note : bytes_eq (codes "note") word ≡ false = other (codes "note") word (λ is. omega (arith, ap length is)) in
    let no_text : bytes_eq (codes "text") word ≡ false = other (codes "text") word (λ is. omega (arith, ap length is)) in
    let no_error : bytes_eq (codes "error") word ≡ false = other (codes "error") word (λ is. omega (arith, ap length is)) in
    let no_title : bytes_eq (codes "title") word ≡ false = other (codes "title") word (λ is. omega (arith, ap length is)) in
    sym (λ i. cond (no_string i) (Some Str) (cond (no_boolean i) (Some Bool) (cond (no_select i) (Some Select) (cond (no_multiselect i) (Some Multiselect) (cond (no_password i) (Some Password) (cond (no_note i) (Some Note) (cond (no_text i) (Some Txt) (cond (no_error i) (Some Error) (cond (no_title i) (Some Title) None)))))))))
