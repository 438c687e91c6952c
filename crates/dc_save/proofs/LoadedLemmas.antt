-- A layer that keeps the text that was found, where its spec asks for that, before it gets the table of its records.
use Rattle.std.proofs.Common.{◌≡◌, ℕ, List, [], Option, None, Some, refl, ap, ◌∙◌}
use Rattle.std.specs.FinMap as map
use Rattle.dc_conf.specs.declared.spec.LayerSpec.{LayerSpec}
use Rattle.dc_layer.specs.State.{Table, LayerState}
use Rattle.dc_save.specs.Loading.{with_loaded}

loaded_table : (spec : LayerSpec) (layer : LayerState) (table : Table) (found : Option (List ℕ)) → (with_loaded spec layer table found).table ≡ table
loaded_table spec layer table None = refl
loaded_table spec layer table (Some text) = refl

loaded_touched : (spec : LayerSpec) (layer : LayerState) (table : Table) (found : Option (List ℕ)) → (with_loaded spec layer table found).touched ≡ layer.touched
loaded_touched spec layer table None = refl
loaded_touched spec layer table (Some text) = refl

-- the text is kept whichever table the layer gets
loaded_again : (spec : LayerSpec) (layer : LayerState) (first table : Table) (found : Option (List ℕ)) → record (with_loaded spec layer first found) { table = table } ≡ with_loaded spec layer table found
loaded_again spec layer first table None = refl
loaded_again spec layer first table (Some text) = refl

module _ (spec : LayerSpec) (layer kept : LayerState) (found : Option (List ℕ)) (is : kept ≡ with_loaded spec layer layer.table found) where
  pub empty_still : layer.table ≡ map.empty → kept.table ≡ map.empty
  empty_still empty = ap (λ (s : LayerState). s.table) is ∙ loaded_table spec layer layer.table found ∙ empty

  pub untouched_still : layer.touched ≡ [] → kept.touched ≡ []
  untouched_still untouched = ap (λ (s : LayerState). s.touched) is ∙ loaded_touched spec layer layer.table found ∙ untouched

  pub loaded_then : (new : LayerState) (table : Table) → new ≡ record kept { table = table } → new ≡ with_loaded spec layer table found
  loaded_then new table then = then ∙ ap (λ (s : LayerState). record s { table = table }) is ∙ loaded_again spec layer layer.table table found
