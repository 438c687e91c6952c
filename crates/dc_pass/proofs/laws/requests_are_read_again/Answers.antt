use Rattle.dc_pass.proofs.AgainLemmas.{request_again}
use Rattle.dc_pass.proofs.laws.requests_are_read_again.Goals as goal

pub returns : goal.returns
returns c = λ title backup shown is fit. request_again title backup shown is fit
