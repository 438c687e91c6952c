-- What is known of the fields of lines that stand.
use Rattle.std.specs.Prelude.{◌≡◌, ℕ, true, List, [], ◌∷◌, map as each}
use Rattle.std.specs.List.{AllByRecursion, IsDistinct}
use Rattle.std.specs.Str.{bytes_eq}
use Rattle.dc_text.specs.Names.{is_field_key}
use Rattle.dc_template.specs.Stanzas.{fields_in}
use Rattle.dc_template.specs.TemplateFaults.{until_blank}
use Rattle.dc_template.specs.declared.forms.Form.{Form}
use Rattle.dc_template.specs.declared.forms.Form.TheVariants.{Heads}

-- the keys of some fields
abbrev pub keys_of : List (List ℕ × List ℕ) → List (List ℕ)
keys_of fields = each (λ field. field.0) fields

-- each of the fields has a key
abbrev pub HaveKeys : List (List ℕ × List ℕ) → Type 0
HaveKeys fields = AllByRecursion (λ key. is_field_key key ≡ true) (keys_of fields)

-- no two of the fields have one key
abbrev pub AreApart : List (List ℕ × List ℕ) → Type 0
AreApart fields = IsDistinct bytes_eq (keys_of fields)

-- each of the fields has a key, and one of its own
pub record AreFit (fields : List (List ℕ × List ℕ)) : Type 0 where
  pub keyed : HaveKeys fields
  pub apart : AreApart fields

-- the fields of each stanza are such
abbrev pub StanzasAreFit : List Form → Type 0
StanzasAreFit [] = Unit {0}
StanzasAreFit (Heads name ∷ lines) = AreFit (fields_in (until_blank lines)) × StanzasAreFit lines
StanzasAreFit (_ ∷ lines) = StanzasAreFit lines
