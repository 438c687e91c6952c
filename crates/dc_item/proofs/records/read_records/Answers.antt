use Rattle.std.proofs.lemmas.Result.{err_from_is_err_and}
use Rattle.dc_text.specs.Lines.{lines_of}
use Rattle.dc_item.proofs.ReaderLemmas.{records_read, error_read}
use Rattle.dc_item.proofs.records.read_records.Goals as goal

pub returns-in_err-reader : goal.returns-in_err-reader
returns-in_err-reader c = let p = err_from_is_err_and c.from_residual.result c.from_residual.ensures.1 in rw (p.1, p.2) (error_read c.args.bytes.now c.in_err-reader.field-0.0 c.in_err-reader.ensures.read)

pub returns : goal.returns
returns c = records_read (lines_of c.args.bytes.now) c.in_ok-reader.reader c.close.new.self c.in_ok-reader.ensures.read c.in_ok-close.ensures
