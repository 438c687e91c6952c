use Rattle.dc_tools.proofs.CopyLaws.{open_refuses_none, copies_there, copies_shown}
use Rattle.dc_tools.proofs.laws.copies_are_shown_as_their_sources.Goals as goal

pub returns : goal.returns
returns c = record { none = open_refuses_none; there = copies_there; shown = copies_shown }
