use Rattle.std.proofs.Common.{rules, sym, ◌∙◌}
use Rattle.dc_parts.proofs.PackedLemmas.{unusual_packed}
use Rattle.dc_parts.proofs.writing.short_key.Goals as goal

pub returns-in-None-clause-packed : goal.returns-in-None-clause-packed
returns-in-None-clause-packed c = unusual_packed c.args.key.mark _ c.args.key.key.now (sym c.in-None.is ∙ c.args.key.numbered) c.requires (search rules)
