use Rattle.std.proofs.Common.{subst, refl, sym, ◌≤◌, length, List}
use Rattle.dc_cli.specs.declared.tool.PlacedWord.{PlacedWord}
use Rattle.dc_cli.proofs.ShowLemmas.{few_given, shows_named}
use Rattle.dc_cli.proofs.show_words.show_for.Goals as goal

pub only-database-requires : goal.only-database-requires
only-database-requires c = subst (λ (values : List PlacedWord). length values ≤ 1) (sym c.in_ok-values_behind.ensures) (few_given c.args.words.now c.args.seen c.requires.seen c.requires.asked)

pub returns : goal.returns
returns c = (
  refl,
  shows_named c.args.words.now c.args.seen _ _ _ c.requires.seen c.requires.asked c.in_ok-values_behind.ensures c.only-database.ensures c.in_ok-shown.ensures,
)
