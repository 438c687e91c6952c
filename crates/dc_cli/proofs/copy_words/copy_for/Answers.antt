use Rattle.std.proofs.Common.{subst, refl, sym, ◌≤◌, length, List}
use Rattle.dc_cli.specs.declared.tool.PlacedWord.{PlacedWord}
use Rattle.dc_cli.proofs.CopyLemmas.{fit, few, two_databases, copies_named}
use Rattle.dc_cli.proofs.copy_words.copy_for.Goals as goal

pub databases-requires : goal.databases-requires
databases-requires c = two_databases c.args.words.now c.requires

pub only-by_name-requires : goal.only-by_name-requires
only-by_name-requires c = subst (λ (values : List PlacedWord). length values ≤ 1) (sym c.in_ok-values_behind.ensures) (few _ (fit c.args.words.now c.requires).by_name)

pub only-by_owner-requires : goal.only-by_owner-requires
only-by_owner-requires c = subst (λ (values : List PlacedWord). length values ≤ 1) (sym c.in_ok-values_behind-2.ensures) (few _ (fit c.args.words.now c.requires).by_owner)

pub returns : goal.returns
returns c = (
  refl,
  copies_named c.args.words.now _ _ _ _ _ c.requires c.in_ok-source.ensures c.in_ok-values_behind.ensures c.only-by_name.ensures c.in_ok-values_behind-2.ensures c.only-by_owner.ensures
      c.in_ok-config.ensures c.as_slice.ensures c.in_ok-lines.ensures,
)
