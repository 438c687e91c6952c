use Rattle.std.proofs.Common.{sym, ◌∙◌}
use Rattle.dc_parts.proofs.PackedLemmas.{key_laid}
use Rattle.dc_parts.proofs.writing.write_key.Goals as goal

-- the key isn't a usual one
pub returns-in_ok-extend_from_slice-in-None-clause-ok : goal.returns-in_ok-extend_from_slice-in-None-clause-ok
returns-in_ok-extend_from_slice-in-None-clause-ok c =
    key_laid c.args.key.mark c.args.key.key.now c.args.bytes.now.items c.push_length.new.bytes.items c.push.new.self.items c.extend_from_slice-in-None.new.self.items
    (sym c.in-None.is ∙ c.args.key.numbered) c.in_ok-push_length-in-None.ensures.ok c.in_ok-push-in-None.ensures.items c.in_ok-extend_from_slice-in-None.ensures.items
