use Rattle.std.proofs.Common.{◌∷◌}
use Rattle.dc_parts.specs.Packed.{packed_key}
use Rattle.dc_parts.proofs.PackedLemmas.{entry_laid, begun_more, begun_on, on_err}
use Rattle.dc_parts.proofs.writing.write_entry.Goals as goal

-- memory runs out at the length of the value
pub returns-in_err-push_length-clause-err : goal.returns-in_err-push_length-clause-err
returns-in_err-push_length-clause-err c =
    let b0 = c.args.bytes.now.items in
    let b1 = c.write_key.new.bytes.items in
    let key = begun_more b0 (packed_key (c.args.key.mark ∷ c.args.key.key.now)) b1 c.in_ok-write_key.ensures.ok in
    on_err _ (begun_on b0 b1 c.push_length.new.bytes.items key c.in_err-push_length.ensures.err)

-- all is written
pub returns-clause-ok : goal.returns-clause-ok
returns-clause-ok c =
    entry_laid (c.args.key.mark ∷ c.args.key.key.now) c.args.value.now c.args.bytes.now.items c.write_key.new.bytes.items c.push_length.new.bytes.items c.extend_from_slice.new.self.items
    c.in_ok-write_key.ensures.ok c.in_ok-push_length.ensures.ok c.in_ok-extend_from_slice.ensures.items
