-- Which items a database accepts (debconf.conf(5)).
use Rattle.std.specs.Prelude.{◌≡◌, ◌⊎◌, ℕ, Bool, true, false, not, ◌&&◌, List, [], ◌∷◌, Option, Some, None, option_map}
use Rattle.std.specs.List.{list_all}
use Rattle.dc_conf.specs.declared.spec.LayerSpec.{LayerSpec}
use Rattle.dc_template.specs.Kinds.{kind_word}
use Rattle.dc_template.specs.declared.kinds.Kind.{Kind}
use Rattle.dc_layer.specs.Patterns.{Sought, is_found, is_pattern, is_plain}
use Rattle.dc_layer.specs.declared.pattern.PatternError.{PatternError}
use Rattle.dc_layer.specs.declared.pattern.PatternError.TheVariants.{Bad, TooLarge, OutOfMemory}

-- the texts of the four patterns, each of which may be absent
pub record Rules : Type 0 where
  pub accept_name : Option (List ℕ)
  pub reject_name : Option (List ℕ)
  pub accept_type : Option (List ℕ)
  pub reject_type : Option (List ℕ)

-- the patterns of a database
abbrev pub rules_of : LayerSpec → Rules
rules_of spec =
    record { accept_name = spec.accept_name; reject_name = spec.reject_name; accept_type = spec.accept_type; reject_type = spec.reject_type }

-- whether a pattern is found, without regard to case, or this answer where it is absent
abbrev pub is_found_or : Bool → Option (List ℕ) → List ℕ → Bool
is_found_or absent None bytes = absent
is_found_or absent (Some pattern) bytes = is_found true pattern bytes

-- an accept pattern that is there must be found, and a reject pattern that is there must not be
abbrev pub passes : Option (List ℕ) → Option (List ℕ) → List ℕ → Bool
passes accept reject bytes = is_found_or true accept bytes && not (is_found_or false reject bytes)

-- the patterns for types are sought in the word of a kind, and pass where there is no kind
abbrev pub passes_kind : Rules → Option Kind → Bool
passes_kind rules None = true
passes_kind rules (Some kind) = passes rules.accept_type rules.reject_type (kind_word kind)

-- An item with this name and this kind, if it has one, is accepted.
abbrev pub accepts : Rules → List ℕ → Option Kind → Bool
accepts rules name kind = passes rules.accept_name rules.reject_name name && passes_kind rules kind

-- ---- which patterns can be built

-- absent, or passes
abbrev pub is_absent_or : (List ℕ → Bool) → Option (List ℕ) → Bool
is_absent_or test None = true
is_absent_or test (Some pattern) = test pattern

-- the four, in the order in which they are built
abbrev pub texts_of : Rules → List (Option (List ℕ))
texts_of rules = rules.accept_name ∷ rules.reject_name ∷ rules.accept_type ∷ rules.reject_type ∷ []

-- each of the four that is there passes
abbrev pub each_passes : (List ℕ → Bool) → Rules → Bool
each_passes test rules = list_all (is_absent_or test) (texts_of rules)

-- each of the four that is there is a pattern
abbrev pub are_patterns : Rules → Bool
are_patterns rules = each_passes (is_pattern true) rules

-- each of the four that is there is plain
abbrev pub are_plain : Rules → Bool
are_plain rules = each_passes is_plain rules

-- one of these texts fails the test, and each before it is absent or a pattern
abbrev pub FailsFirst : (List ℕ → Bool) → List (Option (List ℕ)) → Type 0
FailsFirst test [] = ⊥
FailsFirst test (text ∷ texts) = (is_absent_or test text ≡ false) ⊎ ((is_absent_or (is_pattern true) text ≡ true) × FailsFirst test texts)

-- why the four aren't built: the first that is no pattern is bad, and one is too large that isn't plain and stands behind patterns alone
abbrev pub IsRefusedBy : Rules → PatternError → Type 0
IsRefusedBy rules Bad = FailsFirst (is_pattern true) (texts_of rules)
IsRefusedBy rules TooLarge = FailsFirst is_plain (texts_of rules)
IsRefusedBy rules OutOfMemory = Unit {0}

-- ---- what is built of them

-- the text of a pattern that is built
abbrev pub text_in : Option Sought → Option (List ℕ)
text_in pattern = option_map (λ p. p.text) pattern

-- a pattern that is built ignores case
abbrev pub IgnoresCase : Option Sought → Type 0
IgnoresCase None = Unit {0}
IgnoresCase (Some pattern) = pattern.ignore_case ≡ true
