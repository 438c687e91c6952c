use Rattle.std.proofs.Common.{◌∙◌}
use Rattle.dc_conf.specs.Machine.{share_flag}
use Rattle.dc_conf.proofs.RowLemmas.{rows_meet}
use Rattle.dc_conf.proofs.webs.Web.meet.Goals as goal

pub returns : goal.returns
returns c =
    c.shares_flag.ensures ∙ (λ i. share_flag (c.row.ensures i) (c.row-2.ensures i)) ∙ rows_meet c.args.self.now c.args.one.now c.args.other.now
