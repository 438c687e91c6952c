-- A store in one word.
use Rattle.std.specs.Prelude.{map as each}
use Rattle.std.specs.declared.alloc.Global.{Global}
use Rattle.std.specs.declared.dyn_box.DynBox.{DynBox}
use Rattle.dc_layer.specs.State.{LayerState}
use Rattle.dc_store.specs.Plans.{StoreState, stored}
use Rattle.dc_store.specs.declared.store.Store.{Store}

-- the state of a store, by the states of its layers' boxes
abbrev pub store_of : {X : Type 0} {F : X → Type 0} → (DynBox X Global F → LayerState) → Store X F → StoreState
store_of state store = stored (each state store.layers.items) store.told

-- the same where no box is named beside the store
abbrev pub store_in : {X : Type 0} {F : X → Type 0} → ((x : X) × F x → LayerState) → Store X F → StoreState
store_in state store = store_of (λ b. state (b.vtable, b.value)) store
