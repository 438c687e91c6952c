-- The paths at which a file is known to stand.
use Rattle.std.proofs.Common.{◌≡◌, ℕ, true, false, List, Option, Some, None, is_some, refl, sym, ap, ◌∙◌}
use Rattle.std.specs.FinMap as map
use Rattle.std.specs.Str.{bytes_eq}
use Rattle.std.proofs.lemmas.Slice.Eq.{bytes_eq-Decides}
use Rattle.dc_text.specs.Maps.{TextSet}
use Rattle.dc_host.specs.Known.{known_renamed}
use Rattle.dc_host.proofs.EntryLemmas.{get_put, get_taken, put_there, taken_back, put_over, put_beside}

some_there : (found : Option (Unit {0})) → is_some found ≡ true → found ≡ Some tt
some_there None there = absurd (cc)
some_there (Some u) there = refl

none_missing : (found : Option (Unit {0})) → is_some found ≡ false → found ≡ None
none_missing None missing = refl
none_missing (Some u) missing = absurd (cc)

pub known_with : (known : TextSet) (path : List ℕ) → map.contains_key (map.insert known path tt) path ≡ true
known_with known path = ap is_some (get_put known path tt)

pub unknown_without : (known : TextSet) (path : List ℕ) → map.contains_key (map.remove known path) path ≡ false
unknown_without known path = ap is_some (get_taken known path)

pub known_still : (known : TextSet) (path : List ℕ) → map.contains_key known path ≡ true → map.insert known path tt ≡ known
known_still known path there = put_there known path tt (some_there (map.get known path) there)

pub known_no_more : (known : TextSet) (path : List ℕ) → map.contains_key known path ≡ false → map.remove (map.insert known path tt) path ≡ known
known_no_more known path missing = taken_back known path tt (none_missing (map.get known path) missing)

true_not_false : true ≡ false → ⊥
true_not_false e = absurd (cc)

pub renamed_apart : (known : TextSet) (from to : List ℕ) → bytes_eq from to ≡ false → map.remove (map.insert known to tt) from ≡ known_renamed known from to
renamed_apart known from to apart = put_beside known from to tt (λ is. true_not_false (sym ((bytes_eq-Decides from to).1 is) ∙ apart))

pub renamed_same : (known : TextSet) (from to : List ℕ) → bytes_eq from to ≡ true → map.insert known to tt ≡ known_renamed known from to
renamed_same known from to is = put_over known to tt ∙ ap (λ path. map.insert (map.remove known path) to tt) (sym ((bytes_eq-Decides from to).0 is))
