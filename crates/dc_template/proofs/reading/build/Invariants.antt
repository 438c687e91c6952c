use Rattle.std.proofs.Common.{◌≡◌, ◌++◌, length}
use Rattle.dc_template.specs.Fields.{StanzasAreFit}
use Rattle.dc_template.specs.Forms.{forms}
use Rattle.dc_template.specs.Reading.{AreSound, templates_in}
use Rattle.dc_template.proofs.reading.build.Given as goal

abbrev pub invariant-loop-rest : goal.invariant-loop-rest
invariant-loop-rest l = record {
  built : l.templates ++ templates_in (forms l.rest) ≡ templates_in (forms l.lines);
  sound : AreSound (forms l.rest);
  fit : StanzasAreFit (forms l.rest);
}

abbrev pub decreases-loop-rest : goal.decreases-loop-rest
decreases-loop-rest l = length l.rest
