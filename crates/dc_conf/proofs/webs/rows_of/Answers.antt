use Rattle.std.proofs.Common.{◌∙◌, ◌-◌, ℕ, List, [], sym, ap, refl, drop, arith}
use Rattle.dc_conf.specs.Machine.{rows_over}
use Rattle.dc_conf.specs.Nodes.{names_of}
use Rattle.dc_conf.proofs.RowLemmas.{direct_rows_are, drop_all, row_here, rows_even, rows_long, rows_turn}
use Rattle.dc_conf.proofs.webs.rows_of.Goals as goal

pub loop-place-init : goal.loop-place-init
loop-place-init c = record {
  rows = c.in_ok-rows.ensures ∙ direct_rows_are c.args.nodes.now [] c.args.nodes.now refl c.requires.apart ∙ ap (rows_over c.args.nodes.now) (sym (drop_all c.args.nodes.now c.args.nodes.now));
  within = omega arith;
}

pub index-requires : goal.index-requires
index-requires c =
    let long = rows_long c.args.nodes.now (λ row. row.items) c.loop-place.rows.items (drop c.loop-place.place (names_of c.args.nodes.now)) c.loop-place.invariant.rows in
    omega (arith, long, c.loop-place.invariant.within, c.loop-place-test.true)

pub widen_all-requires : goal.widen_all-requires
widen_all-requires c =
    let way : List (List ℕ) = drop c.loop-place.place (names_of c.args.nodes.now) in
    let long = rows_long c.args.nodes.now (λ row. row.items) c.loop-place.rows.items way c.loop-place.invariant.rows in
    let here = row_here c.args.nodes.now (λ row. row.items) c.loop-place.rows.items way (c.loop-place.place - 1) c.index.result.now c.loop-place.invariant.rows
    (omega (arith, long, c.loop-place.invariant.within, c.loop-place-test.true)) c.index.ensures in
    rows_even c.args.nodes.now (λ row. row.items) way here.0 c.as_slice-in-loop-place.result.now
    (c.as_slice-in-loop-place.ensures.value ∙ c.in_ok-through.ensures ∙ c.as_slice.ensures.value ∙ here.2) c.loop-place.rows.items (names_of c.args.nodes.now)
    c.loop-place.invariant.rows

pub loop-place-preserved : goal.loop-place-preserved
loop-place-preserved c =
    let way : List (List ℕ) = drop c.loop-place.place (names_of c.args.nodes.now) in
    let long = rows_long c.args.nodes.now (λ row. row.items) c.loop-place.rows.items way c.loop-place.invariant.rows in
    record {
      rows = rows_turn c.args.nodes.now (λ row. row.items) c.loop-place.rows.items c.widen_all.new.rows.items c.loop-place.place (c.loop-place.place - 1) c.index.result.now
          c.as_slice-in-loop-place.result.now (omega (arith, c.loop-place-test.true)) c.loop-place.invariant.rows
          (omega (arith, long, c.loop-place.invariant.within, c.loop-place-test.true)) c.index.ensures
          (c.as_slice-in-loop-place.ensures.value ∙ c.in_ok-through.ensures ∙ c.as_slice.ensures.value) c.widen_all.ensures;
      within = omega (arith, c.loop-place.invariant.within);
    }
