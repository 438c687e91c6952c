use Rattle.std.proofs.Common.{◌≡◌, Ok, ◌∙◌, subst}
use Rattle.std.proofs.lemmas.Result.{err_from_is_err_and}
use Rattle.dc_text.specs.Faults.{run}
use Rattle.dc_batch.specs.Forms.{lines_in}
use Rattle.dc_batch.specs.Machine.{at_start, step}
use Rattle.dc_batch.proofs.FaultLaws.{all_stand, error_is}
use Rattle.dc_batch.proofs.SoundLemmas.{jobs_read}
use Rattle.dc_batch.proofs.reading.read_jobs.Goals as goal

pub returns-in_err-reader : goal.returns-in_err-reader
returns-in_err-reader c =
    let p = err_from_is_err_and c.from_residual-in_err-reader.result c.from_residual-in_err-reader.ensures.1 in
    rw (p.1, p.2) (error_is c.args.bytes.now c.as_slice.result.now c.in_err-reader.field-0.0 (c.as_slice.ensures ∙ c.in_ok-lines.ensures) c.in_err-reader.ensures)

pub returns : goal.returns
returns c =
    let text = c.args.bytes.now in
    let whole : c.as_slice.result.now ≡ lines_in text = c.as_slice.ensures ∙ c.in_ok-lines.ensures in
    let taken : run step (lines_in text) at_start ≡ Ok c.in_ok-reader.reader = subst (λ ls. run step ls at_start ≡ Ok c.in_ok-reader.reader) whole c.in_ok-reader.ensures in
    record {
      stand = all_stand (lines_in text) c.in_ok-reader.reader taken;
      are = c.in_ok-jobs.ensures ∙ (jobs_read text c.in_ok-reader.reader taken).0;
    }
