use Rattle.std.proofs.Common.{◌≡◌, false, ap, sym, refl, ◌∙◌}
use Rattle.std.specs.Prelude.{◌≢◌}
use Rattle.std.specs.declared.cmp.Ordering.{Ordering}
use Rattle.std.specs.declared.cmp.Ordering.TheVariants.{Less, Equal, Greater}
use Rattle.std.specs.Ordering.{is_eq}
use Rattle.std.specs.Cmp.Lexicographic.{texts_ties}
use Rattle.dc_item.proofs.table_key.are_equal.Goals as goal

unequal : (o : Ordering) → o ≢ Equal → false ≡ is_eq o
unequal Less other = refl
unequal Equal other = absurd (other refl)
unequal Greater other = refl

pub returns-in-Equal : goal.returns-in-Equal
returns-in-Equal c = sym (texts_ties c.args.one.now c.args.other.now ∙ ap is_eq (sym c.cmp.ensures ∙ c.in-Equal.is))

pub returns-in_default : goal.returns-in_default
returns-in_default c = unequal c.cmp.result c.in_default.not-Equal ∙ sym (texts_ties c.args.one.now c.args.other.now ∙ ap is_eq (sym c.cmp.ensures))
