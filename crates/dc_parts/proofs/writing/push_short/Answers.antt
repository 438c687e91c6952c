use Rattle.std.proofs.Common.{rules, arith, ◌++◌, ◌∷◌, [], length, ap, ◌∙◌}
use Rattle.dc_parts.proofs.PackedLemmas.{short_entry_laid, short_laid}
use Rattle.dc_parts.proofs.writing.push_short.Goals as goal

pub returns-clause-ok : goal.returns-clause-ok
returns-clause-ok c =
    let b0 = c.args.bytes.now.items in
    let b3 = c.append_reserved.new.bytes.items in
    short_entry_laid c.args.key.first c.args.key.second c.args.key.rest.now c.args.value.now b0 c.push_reserved.new.self.items c.push_reserved-2.new.self.items b3 c.push_reserved-3.new.self.items c.append_reserved-2.new.bytes.items
    (c.push_reserved.ensures.items ∙ ap (λ l. l ++ c.args.key.first ∷ []) (search rules))
    c.push_reserved-2.ensures.items c.append_reserved.ensures.items
    (short_laid (length c.args.value.now) _ b3 b3 c.push_reserved-3.new.self.items (omega arith) (search rules) (search rules) c.push_reserved-3.ensures.items)
    c.append_reserved-2.ensures.items
