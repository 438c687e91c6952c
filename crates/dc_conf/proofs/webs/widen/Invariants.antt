use Rattle.dc_conf.proofs.RowLemmas.{Widening}
use Rattle.dc_conf.proofs.webs.widen.Given as goal

abbrev pub invariant-loop-index : goal.invariant-loop-index
invariant-loop-index l = Widening (λ row. row.items) l.place l.through l.initial.rows l.index l.rows
