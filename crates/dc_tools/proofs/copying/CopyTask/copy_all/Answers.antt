use Rattle.std.proofs.Common.{map as each, refl, ◌∙◌}
use Rattle.dc_store.specs.Plans.{StoreState, stored}
use Rattle.dc_store.proofs.Frames.{same_count}
use Rattle.dc_store.proofs.RowLemmas.{same_all, same_all_refl, same_all_then, all_framed}
use Rattle.dc_tools.specs.Copying.{after_names, so_far}
use Rattle.dc_tools.proofs.CopyLemmas.{turn, first_among, rest_among}
use Rattle.dc_tools.proofs.copying.CopyTask.copy_all.Goals as goal

pub loop-rest-init : goal.loop-rest-init
loop-rest-init g c =
    let layers = each (λ b. (goal.Layer-dyn g (b.vtable, b.value)).state b.value) c.args.store.now.layers.items in
    record {
      left = refl {a = after_names c.args.self.now (so_far (stored layers c.args.store.now.told) c.args.report.now) c.args.names.now};
      untold = c.requires.untold;
      among = λ name in'. in';
      others = same_all_refl c.args.names.now layers;
      count = refl;
    }

pub returns-in_err-copy_named-clause-frame : goal.returns-in_err-copy_named-clause-frame
returns-in_err-copy_named-clause-frame g c =
    all_framed c.args.names.now _ _
    (same_all_then c.args.names.now _ _ _ c.loop-rest.invariant.others
    (same_all c.args.names.now c.name-item.result _ _
    (c.loop-rest.invariant.among c.name-item.result (first_among c.loop-rest.rest.now c.name-item.result c.in-len1-up.len_at_least c.name-item.is))
    c.copy_named.ensures.frame.others))

pub loop-rest-preserved : goal.loop-rest-preserved
loop-rest-preserved g c =
    let store : StoreState = stored (each (λ b. (goal.Layer-dyn g (b.vtable, b.value)).state b.value) c.loop-rest.store.layers.items) c.loop-rest.store.told in
    let new : StoreState = stored (each (λ b. (goal.Layer-dyn g (b.vtable, b.value)).state b.value) c.copy_named.new.store.layers.items) c.copy_named.new.store.told in
    let start : StoreState = stored (each (λ b. (goal.Layer-dyn g (b.vtable, b.value)).state b.value) c.args.store.now.layers.items) c.args.store.now.told in
    let copy = c.args.self.now in
    let rest = c.loop-rest.rest.now in
    let name = c.name-item.result in
    record {
      left = turn copy (so_far store c.loop-rest.report) (so_far new c.copy_named.new.report)
          (after_names copy (so_far start c.args.report.now) c.args.names.now) rest name
          c.requires.apart c.in-len1-up.len_at_least c.name-item.is c.in_ok-copy_named.ensures.copied c.loop-rest.invariant.left;
      untold = c.in_ok-copy_named.ensures.taken;
      among = λ other in'. c.loop-rest.invariant.among other (rest_among rest other in');
      others = same_all_then c.args.names.now _ _ _ c.loop-rest.invariant.others
          (same_all c.args.names.now name _ _ (c.loop-rest.invariant.among name (first_among rest name c.in-len1-up.len_at_least c.name-item.is)) c.copy_named.ensures.frame.others);
      count = same_count _ c.loop-rest.store.layers.items c.copy_named.new.store.layers.items c.copy_named.ensures.frame.count ∙ c.loop-rest.invariant.count;
    }
