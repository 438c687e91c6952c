use Rattle.std.proofs.Common.{◌∙◌, subst, arith}
use Rattle.dc_conf.specs.Machine.{IsWeb}
use Rattle.dc_conf.proofs.RowLemmas.{row_at, no_row_at}
use Rattle.dc_conf.proofs.webs.Web.row.Goals as goal

pub returns-then-place-len : goal.returns-then-place-len
returns-then-place-len c =
    let within = c.if-place-len.true in
    c.as_slice.ensures.value
    ∙ row_at c.args.self.now (λ row. row.items) c.self.inside.rows.items c.args.name.now c.place-place.result c.index.result.now (subst (λ nodes. IsWeb nodes c.self.inside.places c.self.inside.rows) c.self.view_is c.self.invariant).led
    c.place-place.ensures (omega (arith, within, c.len.ensures)) c.index.ensures

pub returns-else-place-len : goal.returns-else-place-len
returns-else-place-len c =
    let past = c.if-place-len.false in
    no_row_at c.args.self.now (λ row. row.items) c.self.inside.rows.items c.args.name.now c.place-place.result (subst (λ nodes. IsWeb nodes c.self.inside.places c.self.inside.rows) c.self.view_is c.self.invariant).led
    c.place-place.ensures (omega (arith, past, c.len.ensures))
