use Rattle.std.proofs.Common.{◌≡◌, ◌++◌, length}
use Rattle.dc_template.specs.Fields.{HaveKeys}
use Rattle.dc_template.specs.Forms.{forms}
use Rattle.dc_template.specs.Stanzas.{fields_in}
use Rattle.dc_template.specs.TemplateFaults.{until_blank}
use Rattle.dc_template.proofs.reading.read_fields.Given as goal

abbrev pub invariant-loop-rest : goal.invariant-loop-rest
invariant-loop-rest l = record {
  read : l.fields.items ++ fields_in (until_blank (forms l.rest)) ≡ fields_in (until_blank (forms l.lines));
  keys : HaveKeys (fields_in (until_blank (forms l.rest)));
}

abbrev pub decreases-loop-rest : goal.decreases-loop-rest
decreases-loop-rest l = length l.rest
