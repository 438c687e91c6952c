-- What the databases and plans that names reach are like.
use Rattle.std.proofs.Common.{◌≡◌, ℕ, ◌+◌, ◌<◌, Bool, true, false, cond, not, ◌&&◌, List, [], ◌∷◌, ◌++◌, length, map as each, Some, None, refl, sym, ap, ◌∙◌, subst, append_assoc, arith, nat_eq}
use Rattle.std.specs.Prelude.{◌||◌, is_some, option_map}
use Rattle.std.specs.List.{AllByRecursion, filter, find, list_all, list_any}
use Rattle.std.specs.Str.{bytes_eq}
use Rattle.std.proofs.lemmas.Bool.{and_parts, not-true, eqb-true}
use Rattle.std.proofs.lemmas.Slice.Eq.{bytes_eq-Decides}
use Rattle.dc_conf.specs.declared.nodes.Form.{Form}
use Rattle.dc_conf.specs.declared.nodes.Form.TheVariants.{Holds, Stacks, Backs, Tells}
use Rattle.dc_conf.specs.declared.nodes.Node.{Node}
use Rattle.dc_conf.specs.declared.plans.Plan.{Plan}
use Rattle.dc_conf.specs.declared.spec.LayerSpec.{LayerSpec}
use Rattle.dc_conf.specs.Configuration.{Configuration, AreDisjoint, IsOnce, IsPlan, ArePlans, HavePlans, are_apart, have_names_apart, fits_sort, is_held, is_sound, is_spec_of, is_well_made, place_in, reached}
use Rattle.dc_conf.specs.Nodes.{is_among, is_node, names_of, names_it, named_in, leads_to, reaches, names_meet, two_meet, driver_line_of, form_at, repeats}
use Rattle.dc_conf.specs.Plans.{IsOver, Everywhere, AllEverywhere, all_places, all_places_of, are_apart_from, stand_once}
use Rattle.dc_conf.specs.Reaching.{by_way}
use Rattle.dc_conf.specs.Trees.{Tree, Trees, Leaf, Stack, Backup, Debug, End, More, shape}
use Rattle.dc_conf.proofs.ApartLemmas.{apart_kept}
use Rattle.dc_conf.proofs.NodeLemmas.{all_among}
use Rattle.dc_conf.proofs.Ways.{through, direct}
use Rattle.dc_conf.proofs.TestLemmas.{all_each, all-append, false_unless, list_any-append, neither}

-- ---- what a configuration keeps

record IsKept (conf : Configuration) : Type 0 where
  places : are_apart conf.specs ≡ true
  names : have_names_apart conf.specs ≡ true
  sorts : list_all fits_sort conf.specs ≡ true
  known : list_all (is_node conf.nodes) conf.databases ≡ true
  made : list_all (is_well_made conf.nodes) conf.nodes ≡ true
  held : list_all (λ node. is_held conf.specs node.name node.form) conf.nodes ≡ true
  listed : list_all (is_among conf.databases) (names_of conf.nodes) ≡ true
  kept_listed : list_all (λ spec. is_among conf.databases spec.name) conf.specs ≡ true
  alone : names_meet conf.nodes conf.config conf.templates ≡ false

kept : (conf : Configuration) → is_sound conf ≡ true → IsKept conf
kept conf sound =
    let sorts : Bool = list_all fits_sort conf.specs in
    let single : Bool = not (repeats (names_of conf.nodes)) in
    let known : Bool = list_all (is_node conf.nodes) conf.databases in
    let made : Bool = list_all (is_well_made conf.nodes) conf.nodes in
    let held : Bool = list_all (λ node. is_held conf.specs node.name node.form) conf.nodes in
    let listed : Bool = list_all (is_among conf.databases) (names_of conf.nodes) in
    let specs : Bool = list_all (λ spec. is_among conf.databases spec.name) conf.specs in
    let meet : Bool = names_meet conf.nodes conf.config conf.templates in
    let rest : Bool = held && (listed && (specs && not meet)) in
    let one = and_parts (are_apart conf.specs) (have_names_apart conf.specs && (sorts && (single && (known && (made && rest))))) sound in
    let two = and_parts (have_names_apart conf.specs) (sorts && (single && (known && (made && rest)))) one.1 in
    let three = and_parts sorts (single && (known && (made && rest))) two.1 in
    let four = and_parts single (known && (made && rest)) three.1 in
    let five = and_parts known (made && rest) four.1 in
    let six = and_parts made rest five.1 in
    let seven = and_parts held (listed && (specs && not meet)) six.1 in
    let eight = and_parts listed (specs && not meet) seven.1 in
    let last = and_parts specs (not meet) eight.1 in
    record {
      places = one.0;
      names = two.0;
      sorts = three.0;
      known = five.0;
      made = six.0;
      held = seven.0;
      listed = eight.0;
      kept_listed = last.0;
      alone = not-true meet last.1;
    }

-- ---- some of the databases

names_kept : (q : LayerSpec → Bool) (specs : List LayerSpec) (name : List ℕ) → list_any (bytes_eq name) (each (λ spec. spec.name) specs) ≡ false
    → list_any (bytes_eq name) (each (λ spec. spec.name) (filter q specs)) ≡ false
names_kept q [] name e = refl
names_kept q (spec ∷ specs) name e =
    let both = neither (bytes_eq name spec.name) (list_any (bytes_eq name) (each (λ spec. spec.name) specs)) e in
    let others = names_kept q specs name both.1 in
    elim (q spec) as (λ t. list_any (bytes_eq name) (each (λ spec. spec.name) (cond t (spec ∷ filter q specs) (filter q specs))) ≡ false) [
      | true ↦ ap (λ t. t || list_any (bytes_eq name) (each (λ spec. spec.name) (filter q specs))) both.0 ∙ others
      | false ↦ others
    ]

repeats_kept : (q : LayerSpec → Bool) (specs : List LayerSpec) → repeats (each (λ spec. spec.name) specs) ≡ false → repeats (each (λ spec. spec.name) (filter q specs)) ≡ false
repeats_kept q [] e = refl
repeats_kept q (spec ∷ specs) e =
    let both = neither (list_any (bytes_eq spec.name) (each (λ spec. spec.name) specs)) (repeats (each (λ spec. spec.name) specs)) e in
    let others = repeats_kept q specs both.1 in
    elim (q spec) as (λ t. repeats (each (λ spec. spec.name) (cond t (spec ∷ filter q specs) (filter q specs))) ≡ false) [
      | true ↦ ap (λ t. t || repeats (each (λ spec. spec.name) (filter q specs))) (names_kept q specs spec.name both.0) ∙ others
      | false ↦ others
    ]

all_kept : (p q : LayerSpec → Bool) (specs : List LayerSpec) → list_all p specs ≡ true → list_all p (filter q specs) ≡ true
all_kept p q [] e = refl
all_kept p q (spec ∷ specs) e =
    let both = and_parts (p spec) (list_all p specs) e in
    let others = all_kept p q specs both.1 in
    elim (q spec) as (λ t. list_all p (cond t (spec ∷ filter q specs) (filter q specs)) ≡ true) [
      | true ↦ ap (λ t. t && list_all p (filter q specs)) both.0 ∙ others
      | false ↦ others
    ]

spec_kept : (q : LayerSpec → Bool) (specs : List LayerSpec) (n : List ℕ) → ((spec : LayerSpec) → spec.name ≡ n → q spec ≡ true)
    → is_spec_of specs n ≡ true → is_spec_of (filter q specs) n ≡ true
spec_kept q [] n h e = absurd (cc)
spec_kept q (spec ∷ specs) n h e =
    elim (bytes_eq spec.name n) as (λ t. bytes_eq spec.name n ≡ t → (t || is_spec_of specs n) ≡ true → is_spec_of (cond (q spec) (spec ∷ filter q specs) (filter q specs)) n ≡ true) [
      | true ↦ λ is f. subst (λ k. is_spec_of (cond k (spec ∷ filter q specs) (filter q specs)) n ≡ true) (sym (h spec ((bytes_eq-Decides spec.name n).0 is)))
          (ap (λ t. t || is_spec_of (filter q specs) n) is)
      | false ↦ λ is f. elim (q spec) as (λ k. is_spec_of (cond k (spec ∷ filter q specs) (filter q specs)) n ≡ true) [
        | true ↦ ap (λ t. t || is_spec_of (filter q specs) n) is ∙ spec_kept q specs n h f
        | false ↦ spec_kept q specs n h f
      ]
    ] refl e

-- ---- places

place_within : (specs : List LayerSpec) (n : List ℕ) → is_spec_of specs n ≡ true → place_in specs n < length specs
place_within [] n e = absurd (cc)
place_within (spec ∷ specs) n e =
    elim (bytes_eq spec.name n) as (λ t. (t || is_spec_of specs n) ≡ true → cond (not t) (1 + place_in specs n) 0 < length (spec ∷ specs)) [
      | true ↦ λ f. omega arith
      | false ↦ λ f. (let here : place_in specs n < length specs = place_within specs n f in omega arith)
    ] e

-- two names with one place are one
one_place : (specs : List LayerSpec) (n m : List ℕ) → is_spec_of specs n ≡ true → is_spec_of specs m ≡ true → place_in specs n ≡ place_in specs m → n ≡ m
one_place [] n m e f same = absurd (cc)
one_place (spec ∷ specs) n m e f same =
    elim (bytes_eq spec.name n) as (λ t. bytes_eq spec.name n ≡ t → (t || is_spec_of specs n) ≡ true
    → cond (not t) (1 + place_in specs n) 0 ≡ cond (not (bytes_eq spec.name m)) (1 + place_in specs m) 0 → n ≡ m) [
      | true ↦ λ is h. elim (bytes_eq spec.name m) as (λ u. bytes_eq spec.name m ≡ u → 0 ≡ cond (not u) (1 + place_in specs m) 0 → n ≡ m) [
        | true ↦ λ too g. sym ((bytes_eq-Decides spec.name n).0 is) ∙ (bytes_eq-Decides spec.name m).0 too
        | false ↦ λ too g. absurd (omega arith)
      ] refl
      | false ↦ λ is h. elim (bytes_eq spec.name m) as (λ u. (u || is_spec_of specs m) ≡ true → 1 + place_in specs n ≡ cond (not u) (1 + place_in specs m) 0 → n ≡ m) [
        | true ↦ λ k g. absurd (omega arith)
        | false ↦ λ k g. one_place specs n m h k (omega arith)
      ] f
    ] refl e same

-- ---- databases and their names

or_true : (a : Bool) → (a || true) ≡ true
or_true true = refl
or_true false = refl

same_bytes : (a b : List ℕ) → bytes_eq a b ≡ true → bytes_eq b a ≡ true
same_bytes a b e = (bytes_eq-Decides b a).1 (sym ((bytes_eq-Decides a b).0 e))

pub same_either : (a b : List ℕ) → bytes_eq a b ≡ bytes_eq b a
same_either a b =
    elim (bytes_eq a b) as (λ t. bytes_eq a b ≡ t → t ≡ bytes_eq b a) [
      | true ↦ λ e. sym (same_bytes a b e)
      | false ↦ λ e. sym (false_unless (bytes_eq b a) (λ f. (let off : true ≡ false = sym (same_bytes b a f) ∙ e in cc)))
    ] refl

-- the node of a name whose form is known
node_at : (p : Node → Bool) (nodes : List Node) (n : List ℕ) (f : Form) → list_all p nodes ≡ true → form_at nodes n ≡ Some f
    → (node : Node) × (p node ≡ true) × (node.name ≡ n) × (node.form ≡ f)
node_at p [] n f all e = absurd (cc)
node_at p (node ∷ nodes) n f all e =
    let both = and_parts (p node) (list_all p nodes) all in
    elim (bytes_eq node.name n) as (λ t. bytes_eq node.name n ≡ t → option_map (λ (m : Node). m.form) (cond t (Some node) (find (λ (m : Node). bytes_eq m.name n) nodes)) ≡ Some f
    → (node : Node) × (p node ≡ true) × (node.name ≡ n) × (node.form ≡ f)) [
      | true ↦ λ is g. (let same : node.form ≡ f = cc in (node, both.0, (bytes_eq-Decides node.name n).0 is, same))
      | false ↦ λ is g. node_at p nodes n f both.1 g
    ] refl e

-- what the form of a name names
form_names : (nodes : List Node) (n : List ℕ) (f : Form) (c : List ℕ) → form_at nodes n ≡ Some f → is_among (named_in f) c ≡ true
    → list_any (λ node. bytes_eq n node.name && is_among (named_in node.form) c) nodes ≡ true
form_names [] n f c e is = absurd (cc)
form_names (node ∷ nodes) n f c e is =
    elim (bytes_eq node.name n) as (λ t. bytes_eq node.name n ≡ t → option_map (λ (m : Node). m.form) (cond t (Some node) (find (λ (m : Node). bytes_eq m.name n) nodes)) ≡ Some f
    → list_any (λ node. bytes_eq n node.name && is_among (named_in node.form) c) (node ∷ nodes) ≡ true) [
      | true ↦ λ same g.
          let form : node.form ≡ f = cc in
          ap (λ t. (t && is_among (named_in node.form) c) || list_any (λ node. bytes_eq n node.name && is_among (named_in node.form) c) nodes) (same_bytes node.name n same)
          ∙ ap (λ t. t || list_any (λ node. bytes_eq n node.name && is_among (named_in node.form) c) nodes) (ap (λ g. is_among (named_in g) c) form ∙ is)
      | false ↦ λ same g.
          ap (λ t. (bytes_eq n node.name && is_among (named_in node.form) c) || t) (form_names nodes n f c g is) ∙ or_true (bytes_eq n node.name && is_among (named_in node.form) c)
    ] refl e

one_of : (p : List ℕ → Bool) (names : List (List ℕ)) (n : List ℕ) → is_among names n ≡ true → list_all p names ≡ true → p n ≡ true
one_of p [] n is e = absurd (cc)
one_of p (name ∷ names) n is e =
    let both = and_parts (p name) (list_all p names) e in
    elim (bytes_eq n name) as (λ t. bytes_eq n name ≡ t → (t || is_among names n) ≡ true → p n ≡ true) [
      | true ↦ λ same f. ap p ((bytes_eq-Decides n name).0 same) ∙ both.0
      | false ↦ λ same f. one_of p names n f both.1
    ] refl is

module _ (nodes : List Node) (made : list_all (is_well_made nodes) nodes ≡ true) where
  pub record IsMade (n : List ℕ) (f : Form) : Type 0 where
    pub there : list_all (is_node nodes) (named_in f) ≡ true
    pub away : reaches nodes n n ≡ false
    pub apart : two_meet nodes (named_in f) ≡ false

  pub made_at : (n : List ℕ) (f : Form) → form_at nodes n ≡ Some f → IsMade n f
  made_at n f e =
      let at = node_at (is_well_made nodes) nodes n f made e in
      let names : List (List ℕ) = named_in at.0.form in
      let one = and_parts (list_all (is_node nodes) names) (not (reaches nodes at.0.name at.0.name) && not (two_meet nodes names)) at.1 in
      let two = and_parts (not (reaches nodes at.0.name at.0.name)) (not (two_meet nodes names)) one.1 in
      record {
        there = subst (λ g. list_all (is_node nodes) (named_in g) ≡ true) at.3 one.0;
        away = subst (λ m. reaches nodes m m ≡ false) at.2 (not-true (reaches nodes at.0.name at.0.name) two.0);
        apart = subst (λ g. two_meet nodes (named_in g) ≡ false) at.3 (not-true (two_meet nodes names) two.1);
      }

  pub named_at : (n : List ℕ) (f : Form) (c : List ℕ) → form_at nodes n ≡ Some f → is_among (named_in f) c ≡ true → names_it nodes n c ≡ true
  named_at n f c e is =
      λ i. one_of (is_node nodes) (named_in f) c is (made_at n f e).there i && form_names nodes n f c e is i

  -- none reaches itself
  pub away_at : (n : List ℕ) → is_node nodes n ≡ true → reaches nodes n n ≡ false
  away_at n is =
      elim (form_at nodes n) as (λ r. form_at nodes n ≡ r → reaches nodes n n ≡ false) [
        | None ↦ λ e. absurd (missing nodes is e)
        | Some f ↦ λ e. (made_at n f e).away
      ] refl where
        missing : (some : List Node) → is_node some n ≡ true → form_at some n ≡ None → ⊥
        missing [] is e = cc
        missing (node ∷ some) is e =
            elim (bytes_eq node.name n) as (λ t. bytes_eq node.name n ≡ t → option_map (λ (k : Node). k.form) (cond t (Some node) (find (λ (k : Node). bytes_eq k.name n) some)) ≡ None → ⊥) [
              | true ↦ λ same f. (let off : Some node.form ≡ None = f in cc)
              | false ↦ λ same f. missing some (sym (ap (λ b. b || is_node some n) (same_either n node.name ∙ same)) ∙ is) f
            ] refl e

  -- what is reached from what is named
  pub leads_on : (n c m : List ℕ) → names_it nodes n c ≡ true → leads_to nodes c m ≡ true → leads_to nodes n m ≡ true
  leads_on n c m e h =
      let first : by_way (names_it nodes) (names_of nodes) n c ≡ true = direct (names_it nodes) (names_of nodes) n c e in
      elim (bytes_eq c m) as (λ t. bytes_eq c m ≡ t → (t || reaches nodes c m) ≡ true → leads_to nodes n m ≡ true) [
        | true ↦ λ same f. ap (λ b. bytes_eq n m || b) (subst (λ k. reaches nodes n k ≡ true) ((bytes_eq-Decides c m).0 same) first) ∙ or_true (bytes_eq n m)
        | false ↦ λ same f. ap (λ b. bytes_eq n m || b) (through (names_it nodes) (names_of nodes) n m c (all_among nodes n c e) first f) ∙ or_true (bytes_eq n m)
      ] refl h

  -- ---- places of plans

  module _ (specs : List LayerSpec) where
    -- the place of a database that holds items itself, to which the name leads
    abbrev pub IsPlace : List ℕ → ℕ → Type 0
    IsPlace n place = (m : List ℕ) × (leads_to nodes n m ≡ true) × (form_at nodes m ≡ Some Holds) × (place ≡ place_in specs m)

    on : (n c : List ℕ) → names_it nodes n c ≡ true → (places : List ℕ) → AllByRecursion (IsPlace c) places → AllByRecursion (IsPlace n) places
    on n c e places all = all_each (IsPlace c) (IsPlace n) (λ place is. (is.0, leads_on n c is.0 e is.1, is.2, is.3)) places all

    itself : (n : List ℕ) → leads_to nodes n n ≡ true
    itself n = ap (λ b. b || reaches nodes n n) ((bytes_eq-Decides n n).1 refl)

    among_first : (n : List ℕ) (ns : List (List ℕ)) → is_among (n ∷ ns) n ≡ true
    among_first n ns = ap (λ b. b || is_among ns n) ((bytes_eq-Decides n n).1 refl)

    among_later : (m n : List ℕ) (ns : List (List ℕ)) → is_among ns n ≡ true → is_among (m ∷ ns) n ≡ true
    among_later m n ns e = ap (λ b. bytes_eq n m || b) e ∙ or_true (bytes_eq n m)

    mutual
      pub places_of : (tree : Tree) (n : List ℕ) → IsPlan nodes specs tree n → AllByRecursion (IsPlace n) (all_places tree)
      places_of (Leaf place) n h = ((n, itself n, h.0, h.1), tt)
      places_of (Stack trees) n h =
          places_of_all trees n h.0 (λ c is. named_at n (Stacks h.0) c h.1 is) h.2
      places_of (Backup first second) n h =
          all-append (IsPlace n) (all_places first) (all_places second)
          (on n h.0 (named_at n (Backs h.0 h.1) h.0 h.2 (among_first h.0 (h.1 ∷ []))) (all_places first) (places_of first h.0 h.3))
          (on n h.1 (named_at n (Backs h.0 h.1) h.1 h.2 (among_later h.0 h.1 (h.1 ∷ []) (among_first h.1 []))) (all_places second) (places_of second h.1 h.4))
      places_of (Debug inner) n h = on n h.0 (named_at n (Tells h.0) h.0 h.1 (among_first h.0 [])) (all_places inner) (places_of inner h.0 h.2)

      places_of_all : (trees : Trees) (n : List ℕ) (names : List (List ℕ)) → ((c : List ℕ) → is_among names c ≡ true → names_it nodes n c ≡ true)
          → ArePlans nodes specs trees names → AllByRecursion (IsPlace n) (all_places_of trees)
      places_of_all End n names named h = tt
      places_of_all (More first rest) n [] named h = absurd h
      places_of_all (More first rest) n (c ∷ names) named h =
          all-append (IsPlace n) (all_places first) (all_places_of rest)
          (on n c (named c (among_first c names)) (all_places first) (places_of first c h.0))
          (places_of_all rest n names (λ d is. named d (among_later c d names is)) h.1)

    -- ---- each once

    -- the databases to which the name leads are among these
    abbrev pub AreThere : List ℕ → Type 0
    AreThere n = (m : List ℕ) → leads_to nodes n m ≡ true → form_at nodes m ≡ Some Holds → is_spec_of specs m ≡ true

    there_on : (n c : List ℕ) → names_it nodes n c ≡ true → AreThere n → AreThere c
    there_on n c e all m leads holds = all m (leads_on n c m e leads) holds

    form_node : (some : List Node) (m : List ℕ) (f : Form) → form_at some m ≡ Some f → is_node some m ≡ true
    form_node [] m f e = absurd (cc)
    form_node (node ∷ some) m f e =
        elim (bytes_eq node.name m) as (λ t. bytes_eq node.name m ≡ t → option_map (λ (k : Node). k.form) (cond t (Some node) (find (λ (k : Node). bytes_eq k.name m) some)) ≡ Some f
        → (bytes_eq m node.name || is_node some m) ≡ true) [
          | true ↦ λ same g. ap (λ b. b || is_node some m) (same_bytes node.name m same)
          | false ↦ λ same g. ap (λ b. bytes_eq m node.name || b) (form_node some m f g) ∙ or_true (bytes_eq m node.name)
        ] refl e

    any_at : (p : List ℕ → Bool) (some : List Node) (m : List ℕ) → is_node some m ≡ true → p m ≡ true → list_any p (names_of some) ≡ true
    any_at p [] m is e = absurd (cc)
    any_at p (node ∷ some) m is e =
        elim (bytes_eq m node.name) as (λ t. bytes_eq m node.name ≡ t → (t || is_node some m) ≡ true → (p node.name || list_any p (names_of some)) ≡ true) [
          | true ↦ λ same f. ap (λ b. b || list_any p (names_of some)) (ap p (sym ((bytes_eq-Decides m node.name).0 same)) ∙ e)
          | false ↦ λ same f. ap (λ b. p node.name || b) (any_at p some m f e) ∙ or_true (p node.name)
        ] refl is

    -- the places of two that don't meet differ
    differ : (a b : List ℕ) → AreThere a → AreThere b → names_meet nodes a b ≡ false → (p q : ℕ) → IsPlace a p → IsPlace b q → nat_eq p q ≡ false
    differ a b one other apart p q x y =
        false_unless (nat_eq p q)
        (λ e.
        let same : x.0 ≡ y.0 =
        one_place specs x.0 y.0 (one x.0 x.1 x.2) (other y.0 y.1 y.2) (sym x.3 ∙ eqb-true p q e ∙ y.3) in
        let meets : names_meet nodes a b ≡ true =
        any_at (λ third. leads_to nodes a third && leads_to nodes b third) nodes x.0 (form_node nodes x.0 Holds x.2)
        (λ i. x.1 i && (subst (λ m. leads_to nodes b m ≡ true) (sym same) y.1) i) in
        let off : true ≡ false = sym meets ∙ apart in
        cc)

    apart_one : (a b : List ℕ) → AreThere a → AreThere b → names_meet nodes a b ≡ false → (p : ℕ) → IsPlace a p → (qs : List ℕ) → AllByRecursion (IsPlace b) qs → list_any (nat_eq p) qs ≡ false
    apart_one a b one other apart p x [] all = refl
    apart_one a b one other apart p x (q ∷ qs) all = λ i. differ a b one other apart p q x all.0 i || apart_one a b one other apart p x qs all.1 i

    pub apart_places : (a b : List ℕ) → AreThere a → AreThere b → names_meet nodes a b ≡ false → (ps qs : List ℕ) → AllByRecursion (IsPlace a) ps → AllByRecursion (IsPlace b) qs
        → are_apart_from ps qs ≡ true
    apart_places a b one other apart [] qs xs ys = refl
    apart_places a b one other apart (p ∷ ps) qs xs ys =
        λ i. not (apart_one a b one other apart p xs.0 qs ys i) && apart_places a b one other apart ps qs xs.1 ys i

    none_of : (p : ℕ) (ps qs : List ℕ) → list_any (nat_eq p) ps ≡ false → list_any (nat_eq p) qs ≡ false → list_any (nat_eq p) (ps ++ qs) ≡ false
    none_of p ps qs e f = list_any-append (nat_eq p) ps qs ∙ (λ i. e i || f i)

    once_joined : (ps qs : List ℕ) → stand_once ps ≡ true → stand_once qs ≡ true → are_apart_from ps qs ≡ true → stand_once (ps ++ qs) ≡ true
    once_joined [] qs e f apart = f
    once_joined (p ∷ ps) qs e f apart =
        let one = and_parts (not (list_any (nat_eq p) ps)) (stand_once ps) e in
        let two = and_parts (not (list_any (nat_eq p) qs)) (are_apart_from ps qs) apart in
        λ i. not (none_of p ps qs (not-true (list_any (nat_eq p) ps) one.0) (not-true (list_any (nat_eq p) qs) two.0) i) && once_joined ps qs one.1 f two.1 i

    apart_joined : (ps qs rs : List ℕ) → are_apart_from ps qs ≡ true → are_apart_from ps rs ≡ true → are_apart_from ps (qs ++ rs) ≡ true
    apart_joined [] qs rs e f = refl
    apart_joined (p ∷ ps) qs rs e f =
        let one = and_parts (not (list_any (nat_eq p) qs)) (are_apart_from ps qs) e in
        let two = and_parts (not (list_any (nat_eq p) rs)) (are_apart_from ps rs) f in
        λ i. not (none_of p qs rs (not-true (list_any (nat_eq p) qs) one.0) (not-true (list_any (nat_eq p) rs) two.0) i) && apart_joined ps qs rs one.1 two.1 i

    apart_nothing : (ps : List ℕ) → are_apart_from ps [] ≡ true
    apart_nothing [] = refl
    apart_nothing (p ∷ ps) = apart_nothing ps

    -- the places of one are apart from those of others that it doesn't meet
    apart_all : (a : List ℕ) → AreThere a → (ps : List ℕ) → AllByRecursion (IsPlace a) ps → (trees : Trees) (names : List (List ℕ))
        → ((c : List ℕ) → is_among names c ≡ true → AreThere c) → list_any (names_meet nodes a) names ≡ false → ArePlans nodes specs trees names → are_apart_from ps (all_places_of trees) ≡ true
    apart_all a one ps xs End names all none h = apart_nothing ps
    apart_all a one ps xs (More first rest) [] all none h = absurd h
    apart_all a one ps xs (More first rest) (c ∷ names) all none h =
        let both = neither (names_meet nodes a c) (list_any (names_meet nodes a) names) none in
        apart_joined ps (all_places first) (all_places_of rest)
        (apart_places a c one (all c (among_first c names)) both.0 ps (all_places first) xs (places_of first c h.0))
        (apart_all a one ps xs rest names (λ d is. all d (among_later c d names is)) both.1 h.1)

    mutual
      pub once : (tree : Tree) (n : List ℕ) → AreThere n → IsPlan nodes specs tree n → stand_once (all_places tree) ≡ true
      once (Leaf place) n all h = refl
      once (Stack trees) n all h =
          once_all trees h.0 (λ c is. there_on n c (named_at n (Stacks h.0) c h.1 is) all) (made_at n (Stacks h.0) h.1).apart h.2
      once (Backup first second) n all h =
          let one : AreThere h.0 = there_on n h.0 (named_at n (Backs h.0 h.1) h.0 h.2 (among_first h.0 (h.1 ∷ []))) all in
          let two : AreThere h.1 = there_on n h.1 (named_at n (Backs h.0 h.1) h.1 h.2 (among_later h.0 h.1 (h.1 ∷ []) (among_first h.1 []))) all in
          let none = neither (names_meet nodes h.0 h.1 || false) (two_meet nodes (h.1 ∷ [])) (made_at n (Backs h.0 h.1) h.2).apart in
          once_joined (all_places first) (all_places second) (once first h.0 one h.3) (once second h.1 two h.4)
          (apart_places h.0 h.1 one two (neither (names_meet nodes h.0 h.1) false none.0).0 (all_places first) (all_places second) (places_of first h.0 h.3) (places_of second h.1 h.4))
      once (Debug inner) n all h = once inner h.0 (there_on n h.0 (named_at n (Tells h.0) h.0 h.1 (among_first h.0 [])) all) h.2

      once_all : (trees : Trees) (names : List (List ℕ)) → ((c : List ℕ) → is_among names c ≡ true → AreThere c) → two_meet nodes names ≡ false
          → ArePlans nodes specs trees names → stand_once (all_places_of trees) ≡ true
      once_all End names all none h = refl
      once_all (More first rest) [] all none h = absurd h
      once_all (More first rest) (c ∷ names) all none h =
          let both = neither (list_any (names_meet nodes c) names) (two_meet nodes names) none in
          let here : AreThere c = all c (among_first c names) in
          let later : ((d : List ℕ) → is_among names d ≡ true → AreThere d) = λ d is. all d (among_later c d names is) in
          once_joined (all_places first) (all_places_of rest) (once first c here h.0) (once_all rest names later both.1 h.1)
          (apart_all c here (all_places first) (places_of first c h.0) rest names later both.0 h.1)

-- ---- all places of a tree

front_all : (P : ℕ → Type 0) (ps qs : List ℕ) → AllByRecursion P (ps ++ qs) → AllByRecursion P ps
front_all P [] qs all = tt
front_all P (p ∷ ps) qs all = (all.0, front_all P ps qs all.1)

back_all : (P : ℕ → Type 0) (ps qs : List ℕ) → AllByRecursion P (ps ++ qs) → AllByRecursion P qs
back_all P [] qs all = all
back_all P (p ∷ ps) qs all = back_all P ps qs all.1

mutual
  everywhere : (P : ℕ → Type 0) (tree : Tree) → AllByRecursion P (all_places tree) → Everywhere P tree
  everywhere P (Leaf place) all = all.0
  everywhere P (Stack trees) all = all_everywhere P trees all
  everywhere P (Backup first second) all = (
    everywhere P first (front_all P (all_places first) (all_places second) all),
    everywhere P second (back_all P (all_places first) (all_places second) all),
  )
  everywhere P (Debug inner) all = everywhere P inner all

  all_everywhere : (P : ℕ → Type 0) (trees : Trees) → AllByRecursion P (all_places_of trees) → AllEverywhere P trees
  all_everywhere P End all = tt
  all_everywhere P (More first rest) all = (
    everywhere P first (front_all P (all_places first) (all_places_of rest) all),
    all_everywhere P rest (back_all P (all_places first) (all_places_of rest) all),
  )

-- ---- the roots

root_there : (conf : Configuration) (is : IsKept conf) (all before : List (List ℕ)) (root : List ℕ) (more : List (List ℕ)) → all ≡ before ++ root ∷ more
    → AreThere conf.nodes is.made (reached conf all) root
root_there conf is all before root more whole m leads holds =
    let at = node_at (λ node. is_held conf.specs node.name node.form) conf.nodes m Holds is.held holds in
    let spec : is_spec_of conf.specs m ≡ true = subst (λ n. is_spec_of conf.specs n ≡ true) at.2 (subst (λ f. is_held conf.specs at.0.name f ≡ true) at.3 at.1) in
    let led : list_any (λ r. leads_to conf.nodes r m) all ≡ true =
    ap (list_any (λ r. leads_to conf.nodes r m)) whole ∙ list_any-append (λ r. leads_to conf.nodes r m) before (root ∷ more)
    ∙ ap (λ b. list_any (λ r. leads_to conf.nodes r m) before || (b || list_any (λ r. leads_to conf.nodes r m) more)) leads
    ∙ or_true (list_any (λ r. leads_to conf.nodes r m) before) in
    spec_kept (λ s. list_any (λ r. leads_to conf.nodes r s.name) all) conf.specs m
    (λ s same. ap (λ n. list_any (λ r. leads_to conf.nodes r n) all) same ∙ led) spec

place_over : (conf : Configuration) (is : IsKept conf) (specs : List LayerSpec) (n : List ℕ) → AreThere conf.nodes is.made specs n → (places : List ℕ)
    → AllByRecursion (IsPlace conf.nodes is.made specs n) places → AllByRecursion (λ place. place < length specs) places
place_over conf is specs n all places are =
    all_each (IsPlace conf.nodes is.made specs n) (λ place. place < length specs)
    (λ place x. subst (λ k. k < length specs) (sym x.3) (place_within specs x.0 (all x.0 x.1 x.2))) places are

record IsGood (specs : List LayerSpec) (plan : Plan) : Type 0 where
  over : IsOver (shape plan) (length specs)
  once_is : IsOnce plan

plans_good : (conf : Configuration) (is : IsKept conf) (all before roots : List (List ℕ)) → all ≡ before ++ roots → (plans : List Plan)
    → HavePlans conf.nodes (reached conf all) plans roots → AllByRecursion (IsGood (reached conf all)) plans
plans_good conf is all before roots whole [] h = tt
plans_good conf is all before [] whole (plan ∷ plans) h = absurd h
plans_good conf is all before (root ∷ roots) whole (plan ∷ plans) h =
    let there = root_there conf is all before root roots whole in
    let specs : List LayerSpec = reached conf all in (
      record {
        over = everywhere (λ place. place < length specs) (shape plan)
            (place_over conf is specs root there (all_places (shape plan)) (places_of conf.nodes is.made specs (shape plan) root h.0));
        once_is = once conf.nodes is.made specs (shape plan) root there h.0;
      },
      plans_good conf is all (before ++ root ∷ []) roots (whole ∙ sym (append_assoc before (root ∷ []) roots)) plans h.1,
    )

none_left : (x : List ℕ) (xs : List (List ℕ)) → x ∷ xs ≡ [] → ⊥
none_left x xs e = cc

two_apart : (conf : Configuration) (is : IsKept conf) (plans : List Plan)
    → HavePlans conf.nodes (reached conf (conf.config ∷ conf.templates ∷ [])) plans (conf.config ∷ conf.templates ∷ []) → AreDisjoint plans
two_apart conf is [] h = absurd (cc)
two_apart conf is (one ∷ []) h = absurd (none_left conf.templates [] h.1)
two_apart conf is (one ∷ other ∷ []) h =
    let roots : List (List ℕ) = conf.config ∷ conf.templates ∷ [] in
    let specs : List LayerSpec = reached conf roots in
    apart_places conf.nodes is.made specs conf.config conf.templates
    (root_there conf is roots [] conf.config (conf.templates ∷ []) refl) (root_there conf is roots (conf.config ∷ []) conf.templates [] refl) is.alone
    (all_places (shape one)) (all_places (shape other)) (places_of conf.nodes is.made specs (shape one) conf.config h.0) (places_of conf.nodes is.made specs (shape other) conf.templates h.1.0)
two_apart conf is (one ∷ other ∷ third ∷ plans) h = absurd h.1.1

-- ---- all of it

pub places_apart : (conf : Configuration) (roots : List (List ℕ)) → is_sound conf ≡ true → are_apart (reached conf roots) ≡ true
places_apart conf roots sound = apart_kept (λ spec. list_any (λ root. leads_to conf.nodes root spec.name) roots) conf.specs (kept conf sound).places

pub names_apart : (conf : Configuration) (roots : List (List ℕ)) → is_sound conf ≡ true → have_names_apart (reached conf roots) ≡ true
names_apart conf roots sound =
    ap not (repeats_kept (λ spec. list_any (λ root. leads_to conf.nodes root spec.name) roots) conf.specs
    (not-true (repeats (each (λ spec. spec.name) conf.specs)) (kept conf sound).names))

pub sorts_fit : (conf : Configuration) (roots : List (List ℕ)) → is_sound conf ≡ true → list_all fits_sort (reached conf roots) ≡ true
sorts_fit conf roots sound = all_kept fits_sort (λ spec. list_any (λ root. leads_to conf.nodes root spec.name) roots) conf.specs (kept conf sound).sorts

-- ---- the lines of the drivers

-- the line is known of each name that is there
line_known : (nodes : List Node) (n : List ℕ) → is_some (driver_line_of nodes n) ≡ is_node nodes n
line_known [] n = refl
line_known (node ∷ nodes) n =
    (elim (bytes_eq node.name n) as (λ t.
    is_some (option_map (λ (other : Node). other.line) (cond t (Some node) (find (λ (other : Node). bytes_eq other.name n) nodes))) ≡ (t || is_node nodes n)) [
      | true ↦ refl
      | false ↦ line_known nodes n
    ])
    ∙ ap (λ b. b || is_node nodes n) (same_either node.name n)

among_names : (nodes : List Node) (n : List ℕ) → is_among (names_of nodes) n ≡ is_node nodes n
among_names [] n = refl
among_names (node ∷ nodes) n = ap (λ b. bytes_eq n node.name || b) (among_names nodes n)

both_ways : (a b : Bool) → (a ≡ true → b ≡ true) → (b ≡ true → a ≡ true) → a ≡ b
both_ways true b f g = sym (f refl)
both_ways false true f g = g refl
both_ways false false f g = refl

pub line_there : (conf : Configuration) (n : List ℕ) → is_sound conf ≡ true → is_some (driver_line_of conf.nodes n) ≡ is_among conf.databases n
line_there conf n sound =
    line_known conf.nodes n
    ∙ both_ways (is_node conf.nodes n) (is_among conf.databases n)
    (λ e. one_of (is_among conf.databases) (names_of conf.nodes) n (among_names conf.nodes n ∙ e) (kept conf sound).listed)
    (λ e. one_of (is_node conf.nodes) conf.databases n e (kept conf sound).known)

pub lines_there : (conf : Configuration) (roots : List (List ℕ)) → is_sound conf ≡ true
    → list_all (λ spec. is_some (driver_line_of conf.nodes spec.name)) (reached conf roots) ≡ true
lines_there conf roots sound =
    all_kept (λ spec. is_some (driver_line_of conf.nodes spec.name)) (λ spec. list_any (λ root. leads_to conf.nodes root spec.name) roots) conf.specs
    ((λ i. list_all (λ (spec : LayerSpec). line_there conf spec.name sound i) conf.specs) ∙ (kept conf sound).kept_listed)

pub are_made : (conf : Configuration) → is_sound conf ≡ true → list_all (is_well_made conf.nodes) conf.nodes ≡ true
are_made conf sound = (kept conf sound).made

pub are_known : (conf : Configuration) (roots : List (List ℕ)) → is_sound conf ≡ true → AllByRecursion (λ n. is_among conf.databases n ≡ true) roots
    → AllByRecursion (λ n. is_node conf.nodes n ≡ true) roots
are_known conf roots sound known =
    all_each (λ n. is_among conf.databases n ≡ true) (λ n. is_node conf.nodes n ≡ true) (λ n e. one_of (is_node conf.nodes) conf.databases n e (kept conf sound).known) roots known

pub all_over : (conf : Configuration) (roots : List (List ℕ)) (plans : List Plan) → is_sound conf ≡ true → HavePlans conf.nodes (reached conf roots) plans roots
    → AllByRecursion (λ plan. IsOver (shape plan) (length (reached conf roots))) plans
all_over conf roots plans sound h =
    all_each (IsGood (reached conf roots)) (λ plan. IsOver (shape plan) (length (reached conf roots))) (λ plan good. good.over) plans
    (plans_good conf (kept conf sound) roots [] roots refl plans h)

pub all_once : (conf : Configuration) (roots : List (List ℕ)) (plans : List Plan) → is_sound conf ≡ true → HavePlans conf.nodes (reached conf roots) plans roots
    → AllByRecursion IsOnce plans
all_once conf roots plans sound h =
    all_each (IsGood (reached conf roots)) IsOnce (λ plan good. good.once_is) plans (plans_good conf (kept conf sound) roots [] roots refl plans h)

pub all_disjoint : (conf : Configuration) (roots : List (List ℕ)) (plans : List Plan) → is_sound conf ≡ true → roots ≡ conf.config ∷ conf.templates ∷ []
    → HavePlans conf.nodes (reached conf roots) plans roots → AreDisjoint plans
all_disjoint conf roots plans sound are h =
    two_apart conf (kept conf sound) plans (subst (λ rs. HavePlans conf.nodes (reached conf rs) plans rs) are h)
