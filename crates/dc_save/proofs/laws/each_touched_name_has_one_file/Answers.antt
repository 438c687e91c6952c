use Rattle.std.proofs.Common.{map as each, ap}
use Rattle.dc_layer.specs.State.{item_image}
use Rattle.dc_table.proofs.TouchedLemmas.{each_first}
use Rattle.dc_save.proofs.laws.each_touched_name_has_one_file.Goals as goal

pub returns : goal.returns
returns c spec layer apart = ap (each (item_image spec layer.table)) (each_first layer.touched apart)
