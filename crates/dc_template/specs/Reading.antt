-- The templates of a file, or its first fault.
use Rattle.std.specs.Prelude.{◌≡◌, ℕ, List, [], ◌∷◌, ◌++◌, option_to_list, Result, Ok, Err}
use Rattle.std.specs.List.{AllByRecursion}
use Rattle.std.specs.Option.{option_map}
use Rattle.dc_text.specs.Faults.{AllStand, IsFirstFault}
use Rattle.dc_template.specs.Forms.{forms, lines_in}
use Rattle.dc_template.specs.Stanzas.{Stanza, IsTemplate, stanza, kind_in}
use Rattle.dc_template.specs.TemplateFaults.{until_blank, Stands, HasFault}
use Rattle.dc_template.specs.declared.forms.Form.{Form}
use Rattle.dc_template.specs.declared.forms.Form.TheVariants.{Heads}
use Rattle.dc_template.specs.declared.forms.Line.{Line}
use Rattle.dc_template.specs.declared.faults.TemplateKind.{TemplateKind}
use Rattle.dc_template.specs.declared.faults.TemplateError.{TemplateError}
use Rattle.dc_template.specs.declared.faults.TemplateError.TheVariants.{Bad, OutOfMemory}

-- the template whose Template line has this name, and is followed by these lines
abbrev pub template_at : List ℕ → List Form → List Stanza
template_at name after = option_to_list (option_map (λ kind. stanza name kind (until_blank after)) (kind_in (until_blank after)))

-- each Template line begins a template, which goes up to the next blank line
abbrev pub templates_in : List Form → List Stanza
templates_in [] = []
templates_in (Heads name ∷ lines) = template_at name lines ++ templates_in lines
templates_in (_ ∷ lines) = templates_in lines

-- the templates of these lines are as templates should be
abbrev pub AreSound : List Form → Type 0
AreSound lines = AllByRecursion IsTemplate (templates_in lines)

-- each line stands where it does, and these are the templates
pub record Reads (text : List ℕ) (templates : List Stanza) : Type 0 where
  pub stand : AllStand Stands (lines_in text)
  pub are : templates ≡ templates_in (forms (lines_in text))

-- the first line with a fault has this number and this fault
pub record IsBad (text : List ℕ) (number : ℕ) (kind : TemplateKind) : Type 0 where
  pub line : Line
  pub numbered : line.number ≡ number
  pub first : IsFirstFault Stands HasFault (lines_in text) line kind

-- What is answered of a text: its templates, or its first fault. Memory may run out.
abbrev pub IsAnswer : List ℕ → Result (List Stanza) TemplateError → Type 0
IsAnswer text (Ok templates) = Reads text templates
IsAnswer text (Err (Bad number kind)) = IsBad text number kind
IsAnswer text (Err OutOfMemory) = Unit {0}
