use Rattle.std.proofs.Common.{◌≡◌, ◌++◌, length}
use Rattle.dc_teletype.specs.Prompts.{labels_with}
use Rattle.dc_teletype.proofs.prompting.append_labels.Given as goal

abbrev pub invariant-loop-numerals : goal.invariant-loop-numerals
invariant-loop-numerals l = l.text ++ labels_with l.numerals l.labels ≡ l.initial.text ++ labels_with l.initial.numerals l.initial.labels

abbrev pub decreases-loop-numerals : goal.decreases-loop-numerals
decreases-loop-numerals l = length l.numerals
