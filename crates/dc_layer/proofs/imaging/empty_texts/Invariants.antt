use Rattle.std.proofs.Common.{◌≡◌, take, map as each}
use Rattle.dc_layer.proofs.PrefixLemmas.{prefixes}
use Rattle.dc_layer.specs.PrefixTexts.{empty_texts}
use Rattle.dc_layer.proofs.imaging.empty_texts.Given as goal

abbrev pub invariant-loop-name : goal.invariant-loop-name
invariant-loop-name l = l.texts.entries ≡ empty_texts (prefixes (each (λ name. name.now) (take l.name-index l.names)))
