use Rattle.std.proofs.Common.{map as each}
use Rattle.dc_store.specs.Plans.{StoreState, stored}
use Rattle.dc_tools.specs.Copying.{copy_write}
use Rattle.dc_tools.proofs.CopyLemmas.{same_store, kept_store, frame_of_copy, write_is}
use Rattle.dc_tools.proofs.copying.CopyTask.put_item.Goals as goal

pub returns-in_err-batch-clause-frame : goal.returns-in_err-batch-clause-frame
returns-in_err-batch-clause-frame g c = same_store _ _

pub returns-in-Ok-clause-put : goal.returns-in-Ok-clause-put
returns-in-Ok-clause-put g c e =
    let old : StoreState = stored (each (λ b. (goal.Layer-dyn g (b.vtable, b.value)).state b.value) c.args.store.now.layers.items) c.args.store.now.told in
    write_is old (copy_write old.layers c.args.self.now (c.args.name.now, c.args.item)) _ _ c.in_ok-batch.ensures c.in-Ok.ensures.ok

pub returns-in-Ok-clause-frame : goal.returns-in-Ok-clause-frame
returns-in-Ok-clause-frame g c = frame_of_copy _ _ _ _ c.in_ok-batch.ensures c.commit.ensures.frame

pub returns-in-Err-Refused-clause-refused : goal.returns-in-Err-Refused-clause-refused
returns-in-Err-Refused-clause-refused g c e =
    let old : StoreState = stored (each (λ b. (goal.Layer-dyn g (b.vtable, b.value)).state b.value) c.args.store.now.layers.items) c.args.store.now.told in
    (write_is old (copy_write old.layers c.args.self.now (c.args.name.now, c.args.item)) _ _ c.in_ok-batch.ensures (c.commit.ensures.refused cc), c.commit.ensures.unchanged cc)

pub returns-in-Err-Refused-clause-frame : goal.returns-in-Err-Refused-clause-frame
returns-in-Err-Refused-clause-frame g c = kept_store _ _ _ (c.commit.ensures.unchanged cc)

pub returns-clause-frame : goal.returns-clause-frame
returns-clause-frame g c = frame_of_copy _ _ _ _ c.in_ok-batch.ensures c.commit.ensures.frame
