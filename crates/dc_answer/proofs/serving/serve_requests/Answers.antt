use Rattle.std.proofs.Common.{rules}
use Rattle.dc_answer.proofs.HeedLemmas.{answered_as}
use Rattle.dc_answer.proofs.serving.serve_requests.Goals as goal

pub returns : goal.returns
returns g c = answered_as _ _ _ _ _ _ _ _ c.serve_link-end.result.last_code c.new.ensures c.new-2.ensures c.serve_link-end.ensures.serves (search rules)
