-- What is settled where nobody is asked.
use Rattle.std.specs.Prelude.{ℕ, List, Option, None, slice_get, if◌then◌else◌}
use Rattle.std.specs.List.{list_any}
use Rattle.std.specs.Str.{bytes_eq}
use Rattle.dc_template.specs.declared.kinds.Kind.{Kind}
use Rattle.dc_template.specs.declared.kinds.Kind.TheVariants.{Select}
use Rattle.dc_frontend.specs.declared.shown.Shown.{Shown}

-- the first of the choices, where the value is none of them
abbrev pub first_unless_chosen : List (List ℕ) → List ℕ → Option (List ℕ)
first_unless_chosen choices value = if list_any (λ choice. bytes_eq choice value) choices then None else slice_get choices 0

-- only one choice among several is settled
abbrev pub settled_by : Kind → List (List ℕ) → List ℕ → Option (List ℕ)
settled_by Select choices value = first_unless_chosen choices value
settled_by kind choices value = None

-- The value that a question gets where nobody is asked: of a select the first choice, where its value is no choice.
abbrev pub settled_choice : Shown → Option (List ℕ)
settled_choice shown = settled_by shown.kind shown.choices shown.value
