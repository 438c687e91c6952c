use Rattle.std.proofs.Common.{List, sym, subst}
use Rattle.dc_text.specs.Lines.{lines_of}
use Rattle.dc_text.specs.Maps.{AreDistinct}
use Rattle.dc_item.specs.Table.{names_of}
use Rattle.dc_item.specs.declared.entry.Entry.{Entry}
use Rattle.dc_item.proofs.ReaderLemmas.{names_apart}
use Rattle.dc_save.proofs.folder_loading.take_file.Goals as goal

pub take_new-requires-clause-apart : goal.take_new-requires-clause-apart
take_new-requires-clause-apart g c =
    subst (λ (l : List Entry). AreDistinct (names_of l)) (sym c.in_ok-records-in-Ok.ensures) (names_apart (lines_of c.bytes.result.now) c.in-Ok.records c.in-Ok.ensures)
