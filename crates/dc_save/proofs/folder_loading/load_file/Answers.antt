use Rattle.std.proofs.Common.{[], None, refl}
use Rattle.dc_save.proofs.FileTurnLemmas.{nothing_new}
use Rattle.dc_save.proofs.FolderLemmas.{found_so}
use Rattle.dc_save.proofs.folder_loading.load_file.Goals as goal

pub returns-in-Ok-None-clause-turn : goal.returns-in-Ok-None-clause-turn
returns-in-Ok-None-clause-turn g c = (None, [], found_so _ _ _ _ _ c.in_ok-path.ensures c.in-Ok-None.field-0-is c.in-Ok-None.ensures.value, refl, nothing_new _)
