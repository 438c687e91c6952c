-- The keys of a map, in byte order.
use Rattle.std.proofs.Common.{◌≡◌, ℕ, Bool, true, false, List, [], ◌∷◌, refl, map as each}
use Rattle.std.specs.Prelude.{◌&&◌, T}
use Rattle.std.specs.List.{AllByRecursion}
use Rattle.std.specs.List.Sorted.{IsStrictlySortedBy}
use Rattle.std.specs.declared.cmp.Ordering.{Ordering}
use Rattle.std.specs.declared.cmp.Ordering.TheVariants.{Less, Equal, Greater}
use Rattle.std.specs.Ordering.{is_lt}
use Rattle.std.specs.FinMap.{keys, entries, entries_sorted, is_sorted}
use Rattle.std.specs.FinMap.Entries.{below_all}
use Rattle.dc_text.specs.Maps.{Texts, text_cmp}

first : (a b : Bool) → T (a && b) → T a
first true b p = tt
first false b p = p

second : (a b : Bool) → T (a && b) → T b
second true b p = p
second false b p = absurd p

less : (o : Ordering) → T (is_lt o) → o ≡ Less
less Less p = refl
less Equal p = absurd p
less Greater p = absurd p

below : {X : Type 0} (key : List ℕ) (es : List (List ℕ × X)) → T (below_all text_cmp key es) → AllByRecursion (λ other. text_cmp key other ≡ Less) (each (λ (e : List ℕ × X). e.0) es)
below key [] h = tt
below key (e ∷ es) h = (less _ (first _ _ h), below key es (second _ _ h))

rises : {X : Type 0} (es : List (List ℕ × X)) → T (is_sorted text_cmp es) → IsStrictlySortedBy text_cmp (each (λ (e : List ℕ × X). e.0) es)
unfolding IsStrictlySortedBy
rises [] h = tt
rises (e ∷ es) h = (below e.0 es (first _ _ h), rises es (second _ _ h))

-- each key of a map is below those after it
pub keys_rise : {X : Type 0} (m : Texts X) → IsStrictlySortedBy text_cmp (keys m)
keys_rise m = rises (entries m) (entries_sorted m)
