use Rattle.std.proofs.Common.{ap, ◌∙◌}
use Rattle.std.specs.List.{list_all}
use Rattle.dc_cli.specs.DatabaseWords.{is_package}
use Rattle.dc_cli.proofs.ShowLemmas.{only_packages, packages_behind}
use Rattle.dc_cli.proofs.show_words.shown.Goals as goal

pub names-requires : goal.names-requires
names-requires c =
    ap (list_all is_package) c.packages.ensures
    ∙ packages_behind c.args.words.now c.args.seen c.requires.seen (only_packages c.args.seen.asked c.requires.asked c.in_default.not-Owners c.in_default.not-Databases)
