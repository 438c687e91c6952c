use Rattle.std.proofs.Common.{rules, ◌≡◌, ℕ, List, ap, ◌∙◌, map, take}
use Rattle.std.specs.Char.{to_ascii_lowercase}
use Rattle.std.specs.List.{take-map}
use Rattle.dc_text.specs.Bytes.{lower}
use Rattle.dc_text.proofs.short.Short.lower.Goals as goal

same : (bytes : List ℕ) → map to_ascii_lowercase bytes ≡ map lower bytes
same bytes = search rules

pub returns : goal.returns
returns c =
    ap (take c.self.inside.count) c.make_ascii_lowercase.ensures.after ∙ take-map to_ascii_lowercase c.self.inside.count c.self.inside.bytes
    ∙ ap (map to_ascii_lowercase) c.self.view_is ∙ same c.args.self.now
