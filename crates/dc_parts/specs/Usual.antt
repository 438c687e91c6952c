-- The keys of the fields that most items have (debconf-devel(7)).
use Rattle.std.specs.Prelude.{ℕ, List, ◌∷◌, codes}
use Rattle.dc_parts.specs.declared.usual.UsualKey.{UsualKey}
use Rattle.dc_parts.specs.declared.usual.UsualKey.TheVariants.{Default, Description, ExtendedDescription, Template, «Type», Value}

-- the key of a usual field
abbrev pub usual_name : UsualKey → List ℕ
usual_name Default = codes "default"
usual_name Description = codes "description"
usual_name ExtendedDescription = codes "extended_description"
usual_name Template = codes "template"
usual_name «Type» = codes "type"
usual_name Value = codes "value"

-- as it stands among the parts of an item, where fields have the mark 0
abbrev pub usual_part : UsualKey → List ℕ
usual_part key = 0 ∷ usual_name key
