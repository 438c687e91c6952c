use Rattle.std.proofs.Common.{◌≡◌, ◌≤◌, List, length, take, sym, ap, ◌∙◌, subst}
use Rattle.std.proofs.lemmas.List.{take_all}
use Rattle.dc_batch.specs.Printed.{canon}
use Rattle.dc_batch.specs.Reading.{Reads}
use Rattle.dc_batch.proofs.ReadAgain.{read_again, sound}
use Rattle.dc_batch.specs.declared.job.Job.{Job}
use Rattle.dc_batch.proofs.printing.print_jobs.Goals as goal

pub returns-clause-again : goal.returns-clause-again
returns-clause-again c = λ other reads.
    let jobs = c.args.jobs.now in
    let end : length jobs ≤ c.loop-job.job-index = subst (λ (js : List Job). length js ≤ c.loop-job.job-index) c.as_slice-job-items.ensures c.loop-job-test.false in
    let all : take c.loop-job.job-index jobs ≡ jobs = take_all c.loop-job.job-index jobs end in
    subst (λ text. Reads text jobs) (sym (c.loop-job.invariant ∙ ap canon all)) (read_again jobs (sound other jobs reads))
