use Rattle.dc_session.proofs.CallLemmas.{no_template_told}
use Rattle.dc_session.proofs.replies.refused.Goals as goal

pub returns-in-NoTemplate : goal.returns-in-NoTemplate
returns-in-NoTemplate c =
    let told = rw c.bytes-in-NoTemplate.ensures.value at c.no_such_template.ensures in
    rw c.in-NoTemplate.is (no_template_told c.args.field.now c.in-NoTemplate.name c.no_such_template.result told)
