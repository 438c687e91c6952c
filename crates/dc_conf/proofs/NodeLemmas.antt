-- What is reached, and names have one plan at most.
use Rattle.std.proofs.Common.{◌≡◌, ℕ, Bool, true, false, List, [], ◌∷◌, Some, refl, sym, ap, subst, ◌∙◌, ⊎_elim, inl, inr}
use Rattle.std.specs.Prelude.{◌&&◌, ◌||◌, ◌↔◌}
use Rattle.std.specs.Str.{bytes_eq}
use Rattle.std.specs.List.{list_any}
use Rattle.std.proofs.lemmas.Slice.Eq.{bytes_eq-Decides}
use Rattle.dc_conf.specs.declared.nodes.Form.TheVariants.{Holds, Stacks, Backs, Tells}
use Rattle.dc_conf.specs.declared.nodes.Node.{Node}
use Rattle.dc_conf.specs.declared.spec.LayerSpec.{LayerSpec}
use Rattle.dc_conf.specs.Configuration.{IsPlan, ArePlans}
use Rattle.dc_conf.specs.Nodes.{is_node, is_among, names_of, names_it, named_in, leads_to, reaches}
use Rattle.dc_conf.specs.Reaching.{IsWay, Reaches}
use Rattle.dc_conf.specs.Trees.{Tree, Trees, Leaf, Stack, Backup, Debug, End, More}
use Rattle.dc_conf.proofs.TestLemmas.{false_unless}
use Rattle.dc_conf.proofs.Ways.{Among, complete, sound, or_cases, and_parts}

pub among : (names : List ℕ → List ℕ → Bool) (nodes : List Node) (name : List ℕ) → is_node nodes name ≡ true → Among names (names_of nodes) name
among names [] name h = cc
among names (n ∷ ns) name h =
    ⊎_elim (λ e. inl ((bytes_eq-Decides name n.name).0 e)) (λ e. inr (among names ns name e)) (or_cases (bytes_eq name n.name) (is_node ns name) h)

-- what is named is that of a database
pub named_is_node : (nodes : List Node) (x y : List ℕ) → names_it nodes x y ≡ true → is_node nodes y ≡ true
named_is_node nodes x y e = (and_parts (is_node nodes y) (list_any (λ node. bytes_eq x node.name && is_among (named_in node.form) y) nodes) e).0

pub all_among : (nodes : List Node) (x y : List ℕ) → names_it nodes x y ≡ true → Among (names_it nodes) (names_of nodes) y
all_among nodes x y e = among (names_it nodes) nodes y (named_is_node nodes x y e)

pub reaching : (nodes : List Node) (a b : List ℕ) → (reaches nodes a b ≡ true) ↔ Reaches (names_it nodes) a b
reaching nodes a b = (
  λ h. sound (names_it nodes) (names_of nodes) a b h,
  λ r. complete (names_it nodes) (names_of nodes) (all_among nodes) r.way a b r.is_way,
)

-- one that names none that lead back to it doesn't reach itself
pub no_cycle : (nodes : List Node) (a : List ℕ) → ((c : List ℕ) → names_it nodes a c ≡ true → leads_to nodes c a ≡ false) → reaches nodes a a ≡ false
no_cycle nodes a none =
    false_unless (reaches nodes a a)
    (λ e. let r = sound (names_it nodes) (names_of nodes) a a e in back r.way r.is_way) where
      or_true : (b : Bool) → (b || true) ≡ true
      or_true true = refl
      or_true false = refl

      off : (b : Bool) → b ≡ true → b ≡ false → ⊥
      off b e f = let both : true ≡ false = sym e ∙ f in cc

      back : (way : List (List ℕ)) → IsWay (names_it nodes) a way a → ⊥
      back [] e = off (leads_to nodes a a) (ap (λ b. b || reaches nodes a a) ((bytes_eq-Decides a a).1 refl)) (none a e)
      back (c ∷ way) e =
          off (leads_to nodes c a) (ap (λ b. bytes_eq c a || b) (complete (names_it nodes) (names_of nodes) (all_among nodes) way c a e.1) ∙ or_true (bytes_eq c a)) (none c e.0)

-- ---- a name has one plan at most

mutual
  pub one_plan : (nodes : List Node) (specs : List LayerSpec) (one other : Tree) (name : List ℕ) → IsPlan nodes specs one name → IsPlan nodes specs other name → one ≡ other
  one_plan nodes specs (Leaf a) (Leaf b) name h k =
      ap Leaf (h.1 ∙ sym k.1)
  one_plan nodes specs (Leaf a) (Stack b) name h k =
      let e : Some Holds ≡ Some (Stacks k.0) = sym h.0 ∙ k.1 in
      cc
  one_plan nodes specs (Leaf a) (Backup b b2) name h k =
      let e : Some Holds ≡ Some (Backs k.0 k.1) = sym h.0 ∙ k.2 in
      cc
  one_plan nodes specs (Leaf a) (Debug b) name h k =
      let e : Some Holds ≡ Some (Tells k.0) = sym h.0 ∙ k.1 in
      cc
  one_plan nodes specs (Stack a) (Leaf b) name h k =
      let e : Some (Stacks h.0) ≡ Some Holds = sym h.1 ∙ k.0 in
      cc
  one_plan nodes specs (Stack a) (Stack b) name h k =
      let e : Some (Stacks h.0) ≡ Some (Stacks k.0) = sym h.1 ∙ k.1 in
      let same : h.0 ≡ k.0 = cc in ap Stack (same_plans nodes specs a b h.0 h.2 (subst (λ ns. ArePlans nodes specs b ns) (sym same) k.2))
  one_plan nodes specs (Stack a) (Backup b b2) name h k =
      let e : Some (Stacks h.0) ≡ Some (Backs k.0 k.1) = sym h.1 ∙ k.2 in
      cc
  one_plan nodes specs (Stack a) (Debug b) name h k =
      let e : Some (Stacks h.0) ≡ Some (Tells k.0) = sym h.1 ∙ k.1 in
      cc
  one_plan nodes specs (Backup a a2) (Leaf b) name h k =
      let e : Some (Backs h.0 h.1) ≡ Some Holds = sym h.2 ∙ k.0 in
      cc
  one_plan nodes specs (Backup a a2) (Stack b) name h k =
      let e : Some (Backs h.0 h.1) ≡ Some (Stacks k.0) = sym h.2 ∙ k.1 in
      cc
  one_plan nodes specs (Backup a a2) (Backup b b2) name h k =
      let e : Some (Backs h.0 h.1) ≡ Some (Backs k.0 k.1) = sym h.2 ∙ k.2 in
      let first : h.0 ≡ k.0 = cc in
      let second : h.1 ≡ k.1 = cc in
      (λ i. Backup (one_plan nodes specs a b h.0 h.3 (subst (λ n. IsPlan nodes specs b n) (sym first) k.3) i) (one_plan nodes specs a2 b2 h.1 h.4 (subst (λ n. IsPlan nodes specs b2 n) (sym second) k.4) i))
  one_plan nodes specs (Backup a a2) (Debug b) name h k =
      let e : Some (Backs h.0 h.1) ≡ Some (Tells k.0) = sym h.2 ∙ k.1 in
      cc
  one_plan nodes specs (Debug a) (Leaf b) name h k =
      let e : Some (Tells h.0) ≡ Some Holds = sym h.1 ∙ k.0 in
      cc
  one_plan nodes specs (Debug a) (Stack b) name h k =
      let e : Some (Tells h.0) ≡ Some (Stacks k.0) = sym h.1 ∙ k.1 in
      cc
  one_plan nodes specs (Debug a) (Backup b b2) name h k =
      let e : Some (Tells h.0) ≡ Some (Backs k.0 k.1) = sym h.1 ∙ k.2 in
      cc
  one_plan nodes specs (Debug a) (Debug b) name h k =
      let e : Some (Tells h.0) ≡ Some (Tells k.0) = sym h.1 ∙ k.1 in
      let same : h.0 ≡ k.0 = cc in ap Debug (one_plan nodes specs a b h.0 h.2 (subst (λ n. IsPlan nodes specs b n) (sym same) k.2))

  same_plans : (nodes : List Node) (specs : List LayerSpec) (one other : Trees) (names : List (List ℕ)) → ArePlans nodes specs one names → ArePlans nodes specs other names → one ≡ other
  same_plans nodes specs End End names h k = refl
  same_plans nodes specs End (More b bs) [] h k = absurd k
  same_plans nodes specs End (More b bs) (n ∷ ns) h k = cc
  same_plans nodes specs (More a as_) End [] h k = absurd h
  same_plans nodes specs (More a as_) End (n ∷ ns) h k = cc
  same_plans nodes specs (More a as_) (More b bs) [] h k = absurd h
  same_plans nodes specs (More a as_) (More b bs) (n ∷ ns) h k = λ i. More (one_plan nodes specs a b n h.0 k.0 i) (same_plans nodes specs as_ bs ns h.1 k.1 i)
