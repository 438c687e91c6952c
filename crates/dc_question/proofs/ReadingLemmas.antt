-- What the readings of a question come to.
use Rattle.std.proofs.Common.{◌≡◌, ℕ, true, false, List, Option, None, Some, length, refl}
use Rattle.std.specs.Prelude.{nat_eq, if◌then◌else◌, codes}
use Rattle.std.specs.Option.{option_or}
use Rattle.std.specs.FinMap as map
use Rattle.std.proofs.lemmas.Bool.{eqb-true}
use Rattle.dc_item.specs.Item.{ItemParts}
use Rattle.dc_question.specs.Readings.{localised, paired}

pub labels_pair : (plain labels : List (List ℕ)) → length (paired plain labels).labels ≡ length plain
labels_pair plain labels =
    elim (nat_eq (length labels) (length plain)) as (λ b. nat_eq (length labels) (length plain) ≡ b → length (if b then labels else plain) ≡ length plain)
    [ true ↦ λ e. eqb-true (length labels) (length plain) e | false ↦ λ e. refl ] refl

or_none : (found : Option (List ℕ)) → option_or found None ≡ found
or_none None = refl
or_none (Some text) = refl

pub types : (lang : List ℕ) (template : ItemParts) → localised lang template (codes "type") ≡ map.get template.fields (codes "type")
types lang template = or_none (map.get template.fields (codes "type"))
