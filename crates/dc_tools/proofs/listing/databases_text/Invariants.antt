use Rattle.std.proofs.Common.{◌≡◌, take}
use Rattle.dc_text.specs.Lines.{text_of}
use Rattle.dc_tools.proofs.listing.databases_text.Given as goal

abbrev pub invariant-loop-name : goal.invariant-loop-name
invariant-loop-name l = l.text ≡ text_of (take l.name-index l.conf.databases)
