use Rattle.std.proofs.Common.{◌≡◌, take}
use Rattle.std.specs.List.{AllByRecursion}
use Rattle.dc_template.specs.Stanzas.{IsTemplate}
use Rattle.dc_template.specs.Printed.{canon}
use Rattle.dc_template.proofs.printing.print_templates.Given as goal

abbrev pub invariant-loop-template : goal.invariant-loop-template
invariant-loop-template l = record {
  printed : l.out ≡ canon (take l.template-index l.list);
  sound : AllByRecursion IsTemplate (take l.template-index l.list);
}
