use Rattle.std.proofs.Common.{arith}
use Rattle.dc_parts.proofs.PackedLemmas.{length_laid}
use Rattle.dc_parts.proofs.writing.push_length.Goals as goal

pub returns-clause-ok : goal.returns-clause-ok
returns-clause-ok c =
    length_laid c.args.count c.loop.counter c.args.bytes.now.items c.loop.bytes.items c.push-2.new.self.items c.loop.invariant (omega arith) c.in_ok-push-2.ensures.items
