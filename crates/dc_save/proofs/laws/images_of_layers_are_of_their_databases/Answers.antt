use Rattle.dc_save.proofs.PlaceLemmas.{layers_of}
use Rattle.dc_save.proofs.laws.images_of_layers_are_of_their_databases.Goals as goal

pub returns : goal.returns
returns c = layers_of
