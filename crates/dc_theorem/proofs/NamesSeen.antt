-- The names of a plan are those under which something is seen, each once.
use Rattle.std.proofs.Common.{◌≡◌, ◌≢◌, ℕ, Bool, true, false, ◌||◌, List, [], ◌∷◌, Option, Some, None, is_some, refl, sym, ap, subst, ◌∙◌}
use Rattle.std.specs.Prelude.{option_and_then, slice_get}
use Rattle.std.specs.FinMap as map
use Rattle.std.specs.FinMap.{contains_key-keys}
use Rattle.std.specs.List.{AllByRecursion, flat_map}
use Rattle.std.specs.Option.{option_map_or, option_or}
use Rattle.std.specs.Ordering.{eq_by_cmp, is_eq}
use Rattle.std.specs.Cmp.Lexicographic.{nat_list_cmp_total}
use Rattle.std.proofs.lemmas.Cmp.{tied_itself}
use Rattle.std.proofs.lemmas.List.Folds.{list_any-append}
use Rattle.dc_text.specs.Maps.{AreDistinct, set_of, text_cmp}
use Rattle.dc_conf.specs.Plans.{leaves}
use Rattle.dc_conf.specs.Trees.{Tree}
use Rattle.dc_item.proofs.ItemLemmas.{contains_key-set_of, same_key}
use Rattle.dc_item.proofs.PrintedLines.{keys_apart}
use Rattle.dc_item.specs.Item.{ItemParts}
use Rattle.dc_layer.specs.State.{LayerState}
use Rattle.dc_store.proofs.ListingLemmas.{is_in}
use Rattle.dc_store.proofs.Searches.{look_step}
use Rattle.dc_store.specs.Holders.{item_at, look_of}
use Rattle.dc_store.specs.Plans.{look, names, names_at}

-- ---- which they are

some_or : (one other : Option ItemParts) → is_some (option_or one other) ≡ (is_some one || is_some other)
some_or None other = refl
some_or (Some item) other = refl

item_there : (ls : List LayerState) (place : ℕ) (q : List ℕ) → is_some (item_at ls place q) ≡ is_in q (names_at ls place)
item_there ls place q = elim (slice_get ls place) as (λ o. is_some (option_and_then (λ layer. map.get layer.table q) o) ≡ is_in q (option_map_or (λ layer. map.keys layer.table) o [])) [
  | None ↦ refl
  | Some layer ↦ contains_key-keys layer.table q
]

seen_there : (ls : List LayerState) (ps q : List ℕ) → is_some (look_of ls ps q) ≡ is_in q (flat_map (names_at ls) ps)
seen_there ls [] q = refl
seen_there ls (p ∷ ps) q =
    ap is_some (look_step ls p ps q)
    ∙ some_or (item_at ls p q) (look_of ls ps q)
    ∙ (λ i. item_there ls p q i || seen_there ls ps q i)
    ∙ sym (list_any-append (eq_by_cmp text_cmp q) (names_at ls p) (flat_map (names_at ls) ps))

-- something is seen under a name where it is one of the names
pub is_seen : (ls : List LayerState) (plan : Tree) (q : List ℕ) → is_some (look ls plan q) ≡ is_in q (names ls plan)
is_seen ls plan q =
    let all : List (List ℕ) = flat_map (names_at ls) (leaves plan) in
    seen_there ls (leaves plan) q ∙ sym (contains_key-set_of all q) ∙ contains_key-keys (set_of all) q

-- no two are the same
pub names_apart : (ls : List LayerState) (plan : Tree) → AreDistinct (names ls plan)
names_apart ls plan = keys_apart (set_of (flat_map (names_at ls) (leaves plan)))

-- ---- of each of a list

itself : (q : List ℕ) → eq_by_cmp text_cmp q q ≡ true
itself q = ap is_eq (tied_itself nat_list_cmp_total q)

or_later : (a b : Bool) → b ≡ true → (a || b) ≡ true
or_later true b h = refl
or_later false b h = h

module _ (P : List ℕ → Type 0) where
  -- what is so of all is so of each
  pub of_all : (texts : List (List ℕ)) (q : List ℕ) → AllByRecursion P texts → is_in q texts ≡ true → P q
  of_all [] q all e = absurd (cc)
  of_all (text ∷ texts) q all e = elim (eq_by_cmp text_cmp q text) as (λ b. eq_by_cmp text_cmp q text ≡ b → (b || is_in q texts) ≡ true → P q) [
    | true ↦ λ t e. subst P (sym (same_key q text t)) all.0
    | false ↦ λ t e. of_all texts q all.1 e
  ] refl e

  -- and what is so of each is so of all
  pub of_each : (texts : List (List ℕ)) → ((q : List ℕ) → is_in q texts ≡ true → P q) → AllByRecursion P texts
  of_each [] h = tt
  of_each (text ∷ texts) h = (
    h text (ap (λ b. b || is_in text texts) (itself text)),
    of_each texts (λ q e. h q (or_later (eq_by_cmp text_cmp q text) (is_in q texts) e)),
  )

-- a text that isn't in the list is none of it
pub none_of : (texts : List (List ℕ)) (q : List ℕ) → is_in q texts ≡ false → AllByRecursion (λ other. other ≢ q) texts
none_of texts q out = of_each (λ other. other ≢ q) texts (λ other there same. not_both (is_in q texts) (ap (λ t. is_in t texts) (sym same) ∙ there) out) where
  not_both : (b : Bool) → b ≡ true → b ≡ false → ⊥
  not_both b first second = let both : true ≡ false = sym first ∙ second in cc
