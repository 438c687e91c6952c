-- The words that most lines have before their colon, as they are printed, and what such a line says.
use Rattle.std.specs.Prelude.{ℕ, List, ◌++◌, codes}
use Rattle.dc_parts.specs.Usual.{usual_name}
use Rattle.dc_parts.specs.declared.usual.UsualKey.{UsualKey}
use Rattle.dc_parts.specs.declared.usual.UsualKey.TheVariants.{Default, Description, ExtendedDescription, Template, «Type», Value}
use Rattle.dc_item.specs.Grammar.{name_line, owners_line, flags_line, variables_line, field_line, RecordLine}
use Rattle.dc_item.specs.declared.reading.Head.{Head}
use Rattle.dc_item.specs.declared.reading.Head.TheVariants.{Name, Owners, Flags, Variables, Field}

-- the key of a usual field as it is printed
abbrev pub printed_name : UsualKey → List ℕ
printed_name Default = codes "Default"
printed_name Description = codes "Description"
printed_name ExtendedDescription = codes "Extended_description"
printed_name Template = codes "Template"
printed_name «Type» = codes "Type"
printed_name Value = codes "Value"

-- the word with its colon
abbrev pub front_of : Head → List ℕ
front_of Name = codes "Name:"
front_of Owners = codes "Owners:"
front_of Flags = codes "Flags:"
front_of Variables = codes "Variables:"
front_of (Field key) = printed_name key ++ codes ":"

-- what the line says whose rest this is
abbrev pub head_said : Head → List ℕ → RecordLine
head_said Name rest = name_line rest
head_said Owners rest = owners_line rest
head_said Flags rest = flags_line rest
head_said Variables rest = variables_line rest
head_said (Field key) rest = field_line (usual_name key) rest
