use Rattle.std.proofs.Common.{not, refl, ap, ◌∙◌}
use Rattle.std.specs.List.{list_any}
use Rattle.std.specs.Str.{bytes_eq}
use Rattle.dc_template.proofs.SeenLemmas.{any-each}
use Rattle.dc_template.proofs.seen.ManySeen.add.Goals as goal

pub returns-clause-new : goal.returns-clause-new
returns-clause-new c =
    c.in_ok-insert.ensures.added
    ∙ ap not (any-each (λ t. t.now) _ c.args.text.now (λ t. refl) c.self.inside.texts.keys ∙ ap (list_any (bytes_eq c.args.text.now)) c.self.view_is)
