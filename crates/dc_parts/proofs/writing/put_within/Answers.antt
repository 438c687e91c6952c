use Rattle.std.proofs.Common.{rules, arith, take, drop, append_assoc, ◌∙◌}
use Rattle.dc_parts.specs.Writing.{short_entry}
use Rattle.dc_parts.proofs.PackedLemmas.{within_laid}
use Rattle.dc_parts.proofs.writing.put_within.Goals as goal

pub returns : goal.returns
returns c =
    let b1 = c.write_at.new.bytes.items in
    let b2 = c.write_at-2.new.bytes.items in
    let b3 = c.write_at-3.new.bytes.items in
    let b4 = c.write_at-4.new.bytes.items in
    within_laid c.args.key.second c.args.key.first _ c.args.span.start c.args.span.end c.args.key.rest.now c.args.value.now c.args.bytes.now.items b1 b2 b3 b4 c.cut_out.new.bytes.items
    (omega arith) (search rules) (omega arith) (omega arith)
    c.write_at.ensures c.write_at-2.ensures c.write_at-3.ensures c.write_at-4.ensures c.cut_out.ensures
    ∙ append_assoc (take c.args.span.start c.args.bytes.now.items) (short_entry c.args.key c.args.value.now) (drop c.args.span.end c.args.bytes.now.items)
