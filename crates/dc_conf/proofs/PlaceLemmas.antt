-- The places of names among databases, and flags at them.
use Rattle.std.proofs.Common.{◌≡◌, ℕ, zero, suc, ◌+◌, ◌≤◌, Bool, true, false, cond, not, List, [], ◌∷◌, length, set, map as each, Option, Some, None, refl, sym, ap, ◌∙◌, subst, arith}
use Rattle.std.specs.Prelude.{◌||◌, is_some}
use Rattle.std.specs.List.{list_any, position_or_len}
use Rattle.std.specs.Option.{option_map_or}
use Rattle.std.specs.Str.{bytes_eq}
use Rattle.std.specs.FinMap as map
use Rattle.std.specs.Cmp.Lexicographic.{nat_list_cmp_total}
use Rattle.std.proofs.lemmas.Map.Text.{is_eq-slice_cmp}
use Rattle.std.proofs.lemmas.Slice.Eq.{bytes_eq-Decides}
use Rattle.dc_text.specs.Maps.{Texts, text_cmp}
use Rattle.dc_conf.specs.declared.nodes.Node.{Node}
use Rattle.dc_conf.specs.Machine.{direct_row, places_from, marked, all_marked}
use Rattle.dc_conf.specs.Nodes.{is_node, is_among, named_in, names_of, repeats}
use Rattle.dc_conf.proofs.TestLemmas.{neither, bytes_eq-sym}
use Rattle.dc_conf.proofs.RowLemmas.{any_same, or_true, or_false, or_assoc, each_same, each_named}

-- ---- the place of a name

-- the place of the first database with the name
abbrev pub placed : ℕ → List Node → List ℕ → Option ℕ
placed place [] name = None
placed place (node ∷ nodes) name = cond (bytes_eq name node.name) (Some place) (placed (suc place) nodes name)

pub get_placed : (place : ℕ) (nodes : List Node) (name : List ℕ) → map.get (places_from place nodes) name ≡ placed place nodes name
get_placed place [] name = map.get-empty text_cmp name
get_placed place (node ∷ nodes) name =
    map.get-insert nat_list_cmp_total (places_from (suc place) nodes) node.name place name
    ∙ (λ i. cond (is_eq-slice_cmp name node.name i) (Some place) (get_placed (suc place) nodes name i))

placed_has : (place : ℕ) (nodes : List Node) (name : List ℕ) → is_some (placed place nodes name) ≡ is_node nodes name
placed_has place [] name = refl
placed_has place (node ∷ nodes) name =
    elim (bytes_eq name node.name) as (λ t. is_some (cond t (Some place) (placed (suc place) nodes name)) ≡ (t || is_node nodes name)) [
      | true ↦ refl
      | false ↦ placed_has (suc place) nodes name
    ]

pub has_placed : (places : Texts ℕ) (nodes : List Node) (name : List ℕ) → places ≡ places_from 0 nodes → map.contains_key places name ≡ is_node nodes name
has_placed places nodes name are = ap (λ m. is_some (map.get m name)) are ∙ ap is_some (get_placed 0 nodes name) ∙ placed_has 0 nodes name

-- the first of the names that is this one, or past them
abbrev position : List Node → List ℕ → ℕ
position nodes name = position_or_len (bytes_eq name) (names_of nodes)

placed_at : (place : ℕ) (nodes : List Node) (name : List ℕ) (found : ℕ) → Some found ≡ placed place nodes name → found ≡ place + position nodes name
placed_at place [] name found e = absurd (cc)
placed_at place (node ∷ nodes) name found e =
    elim (bytes_eq name node.name) as (λ t. Some found ≡ cond t (Some place) (placed (suc place) nodes name)
    → found ≡ place + cond (not t) (1 + position nodes name) 0) [
      | true ↦ λ k. (let same : found ≡ place = cc in omega (arith, same))
      | false ↦ λ k. (let on = placed_at (suc place) nodes name found k in omega (arith, on))
    ] e

placed_past : (place : ℕ) (nodes : List Node) (name : List ℕ) → None ≡ placed place nodes name → length nodes ≡ position nodes name
placed_past place [] name e = refl
placed_past place (node ∷ nodes) name e =
    elim (bytes_eq name node.name) as (λ t. None ≡ cond t (Some place) (placed (suc place) nodes name)
    → suc (length nodes) ≡ cond (not t) (1 + position nodes name) 0) [
      | true ↦ λ k. absurd (cc)
      | false ↦ λ k. (let on = placed_past (suc place) nodes name k in omega (arith, on))
    ] e

pub position_at : (places : Texts ℕ) (nodes : List Node) (name : List ℕ) (found : ℕ) → places ≡ places_from 0 nodes → Some found ≡ map.get places name → found ≡ position nodes name
position_at places nodes name found are e = let at = placed_at 0 nodes name found (e ∙ ap (λ m. map.get m name) are ∙ get_placed 0 nodes name) in omega (arith, at)

pub position_past : (places : Texts ℕ) (nodes : List Node) (name : List ℕ) → places ≡ places_from 0 nodes → None ≡ map.get places name → length nodes ≡ position nodes name
position_past places nodes name are e = placed_past 0 nodes name (e ∙ ap (λ m. map.get m name) are ∙ get_placed 0 nodes name)

-- ---- flags at places

set_past : (row : List Bool) (n : ℕ) → length row ≤ n → set row n true ≡ row
set_past [] n h = refl
set_past (b ∷ row) zero h = absurd (omega arith)
set_past (b ∷ row) (suc n) h = ap (λ r. b ∷ r) (set_past row n (omega arith))

set_on : (b : Bool) (row : List Bool) (n : ℕ) → set (b ∷ row) (1 + n) true ≡ b ∷ set row n true
set_on b row n = let same : 1 + n ≡ suc n = omega arith in ap (λ k. set (b ∷ row) k true) same

nowhere : (f : List ℕ → Bool) (name : List ℕ) (names : List (List ℕ)) → list_any (bytes_eq name) names ≡ false → each f names ≡ each (λ other. f other || bytes_eq name other) names
nowhere f name [] none = refl
nowhere f name (other ∷ names) none =
    let both = neither (bytes_eq name other) (list_any (bytes_eq name) names) none in
    λ i. sym (ap (λ b. f other || b) both.0 ∙ or_false (f other)) i ∷ nowhere f name names both.1 i

-- where no name stands twice, a flag at the place of the first is one at each
set_named : (f : List ℕ → Bool) (name : List ℕ) (names : List (List ℕ)) → repeats names ≡ false
    → set (each f names) (position_or_len (bytes_eq name) names) true ≡ each (λ other. f other || bytes_eq name other) names
set_named f name [] once = refl
set_named f name (first ∷ names) once =
    let both = neither (list_any (bytes_eq first) names) (repeats names) once in
    elim (bytes_eq name first) as (λ t. bytes_eq name first ≡ t
    → set (f first ∷ each f names) (cond (not t) (1 + position_or_len (bytes_eq name) names) 0) true ≡ (f first || t) ∷ each (λ other. f other || bytes_eq name other) names) [
      | true ↦ λ same.
          let is : first ≡ name = sym ((bytes_eq-Decides name first).0 same) in
          λ i. sym (or_true (f first)) i ∷ nowhere f name names (subst (λ n. list_any (bytes_eq n) names ≡ false) is both.0) i
      | false ↦ λ same.
          set_on (f first) (each f names) (position_or_len (bytes_eq name) names)
          ∙ (λ i. sym (or_false (f first)) i ∷ set_named f name names both.1 i)
    ] refl

long_names : (f : List ℕ → Bool) (nodes : List Node) → length (each f (names_of nodes)) ≡ length nodes
long_names f [] = refl
long_names f (node ∷ nodes) = ap suc (long_names f nodes)

module _ (nodes : List Node) (once : repeats (names_of nodes) ≡ false) where
  marked_named : (f : List ℕ → Bool) (name : List ℕ)
      → marked (places_from 0 nodes) (each f (names_of nodes)) name ≡ each (λ other. f other || bytes_eq name other) (names_of nodes)
  marked_named f name =
      ap (λ o. option_map_or (λ place. set (each f (names_of nodes)) place true) o (each f (names_of nodes))) (get_placed 0 nodes name)
      ∙ elim (placed 0 nodes name) as (λ o. o ≡ placed 0 nodes name
      → option_map_or (λ place. set (each f (names_of nodes)) place true) o (each f (names_of nodes)) ≡ set (each f (names_of nodes)) (position nodes name) true) [
        | Some found ↦ λ e. ap (λ place. set (each f (names_of nodes)) place true) (let at = placed_at 0 nodes name found e in omega (arith, at))
        | None ↦ λ e. sym (set_past (each f (names_of nodes)) (position nodes name)
            (let past = placed_past 0 nodes name e in omega (arith, past, long_names f nodes)))
      ] refl
      ∙ set_named f name (names_of nodes) once

  all_marked_named : (f : List ℕ → Bool) (names : List (List ℕ))
      → all_marked (places_from 0 nodes) (each f (names_of nodes)) names ≡ each (λ other. f other || list_any (λ name. bytes_eq name other) names) (names_of nodes)
  all_marked_named f [] = each_same f (λ other. f other || false) (λ other. sym (or_false (f other))) (names_of nodes)
  all_marked_named f (name ∷ names) =
      ap (λ row. all_marked (places_from 0 nodes) row names) (marked_named f name)
      ∙ all_marked_named (λ other. f other || bytes_eq name other) names
      ∙ each_same (λ other. (f other || bytes_eq name other) || list_any (λ name. bytes_eq name other) names)
      (λ other. f other || (bytes_eq name other || list_any (λ name. bytes_eq name other) names))
      (λ other. or_assoc (f other) (bytes_eq name other) (list_any (λ name. bytes_eq name other) names)) (names_of nodes)

  -- no flag, and then one for a database and for each that it names
  pub row_marked : (node : Node) (row : List Bool) (places : Texts ℕ) → places ≡ places_from 0 nodes → row ≡ each (λ _. false) nodes
      → all_marked places row (node.name ∷ named_in node.form) ≡ direct_row node nodes
  row_marked node row places are none =
      (λ i. all_marked (are i) ((none ∙ sym (each_named (λ _. false) nodes)) i) (node.name ∷ named_in node.form))
      ∙ all_marked_named (λ _. false) (node.name ∷ named_in node.form)
      ∙ each_same (λ other. bytes_eq node.name other || list_any (λ name. bytes_eq name other) (named_in node.form))
      (λ other. bytes_eq node.name other || is_among (named_in node.form) other)
      (λ other. ap (λ b. bytes_eq node.name other || b) (any_same (λ name. bytes_eq name other) (bytes_eq other) (λ name. bytes_eq-sym name other) (named_in node.form)))
      (names_of nodes)
      ∙ each_named (λ other. bytes_eq node.name other || is_among (named_in node.form) other) nodes
