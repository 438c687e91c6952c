-- Plans are made: of each name after those that it names.
use Rattle.std.proofs.Common.{◌≡◌, ℕ, zero, suc, ◌<◌, ◌≤◌, Bool, true, false, cond, List, [], ◌∷◌, ◌++◌, length, get_or, Some, None, refl, sym, ap, ◌∙◌, subst, append_assoc, arith, inl, inr}
use Rattle.std.specs.Prelude.{◌||◌, if◌then◌else◌}
use Rattle.std.specs.List.{find, list_all}
use Rattle.std.specs.Str.{bytes_eq}
use Rattle.dc_conf.specs.declared.nodes.Form.{Form}
use Rattle.dc_conf.specs.declared.nodes.Node.{Node}
use Rattle.dc_conf.specs.declared.plans.Plan.{Plan}
use Rattle.dc_conf.specs.declared.spec.LayerSpec.{LayerSpec}
use Rattle.dc_conf.specs.Configuration.{HavePlans, IsPlan, is_well_made}
use Rattle.dc_conf.specs.Nodes.{is_among, is_node, names_of, names_it, named_in, form_at, reaches}
use Rattle.dc_conf.specs.Trees.{shape}
use Rattle.std.proofs.lemmas.Slice.Eq.{bytes_eq-Decides}
use Rattle.dc_conf.proofs.NodeLemmas.{all_among, named_is_node}
use Rattle.dc_conf.proofs.ResolvedLemmas.{same_either, named_at, away_at}
use Rattle.dc_conf.proofs.Ways.{Among, complete, sound}

-- the plans so far, and the roots that are left
pub record Planning (nodes : List Node) (specs : List LayerSpec) (plans : List Plan) (rest roots : List (List ℕ)) : Type 0 where
  pub before : List (List ℕ)
  pub whole : roots ≡ before ++ rest
  pub have : HavePlans nodes specs plans before

-- how many of some things pass a test
abbrev pub counted : {X : Type 0} → (X → Bool) → List X → ℕ
counted test [] = zero
counted test (x ∷ xs) = if test x then suc (counted test xs) else counted test xs

-- how many databases one reaches
abbrev pub rank : List Node → List ℕ → ℕ
rank nodes n = counted (reaches nodes n) (names_of nodes)

module _ {X : Type 0} where
  fewer : (p q : X → Bool) (xs : List X) → ((x : X) → p x ≡ true → q x ≡ true) → counted p xs ≤ counted q xs
  fewer p q [] f = omega arith
  fewer p q (x ∷ xs) f =
      let rest = fewer p q xs f in
      elim (p x) as (λ b. p x ≡ b → (if b then suc (counted p xs) else counted p xs) ≤ counted q (x ∷ xs)) [
        | true ↦ λ e. subst (λ c. suc (counted p xs) ≤ (if c then suc (counted q xs) else counted q xs)) (sym (f x e)) (omega arith)
        | false ↦ λ e. elim (q x) as (λ c. counted p xs ≤ (if c then suc (counted q xs) else counted q xs)) [ true ↦ omega arith | false ↦ rest ]
      ] refl

  one_less : (s : X → X → Bool) (p q : X → Bool) (xs : List X) (y : X) → ((x : X) → p x ≡ true → q x ≡ true) → Among s xs y → p y ≡ false → q y ≡ true → counted p xs < counted q xs
  one_less s p q [] y f m lacks has = absurd m
  one_less s p q (x ∷ xs) y f (inl same) lacks has =
      let rest = fewer p q xs f in
      let px : p x ≡ false = ap p (sym same) ∙ lacks in
      let qx : q x ≡ true = ap q (sym same) ∙ has in
      subst (λ b. (if b then suc (counted p xs) else counted p xs) < counted q (x ∷ xs)) (sym px)
      (subst (λ c. counted p xs < (if c then suc (counted q xs) else counted q xs)) (sym qx) (omega arith))
  one_less s p q (x ∷ xs) y f (inr m) lacks has =
      let rest = one_less s p q xs y f m lacks has in
      elim (p x) as (λ b. p x ≡ b → (if b then suc (counted p xs) else counted p xs) < counted q (x ∷ xs)) [
        | true ↦ λ e. subst (λ c. suc (counted p xs) < (if c then suc (counted q xs) else counted q xs)) (sym (f x e)) (omega arith)
        | false ↦ λ e. elim (q x) as (λ c. counted p xs < (if c then suc (counted q xs) else counted q xs)) [ true ↦ omega arith | false ↦ rest ]
      ] refl

-- what is named reaches fewer, where it doesn't reach itself
pub falls : (nodes : List Node) (x y : List ℕ) → reaches nodes y y ≡ false → names_it nodes x y ≡ true → rank nodes y < rank nodes x
falls nodes x y none h =
    one_less (names_it nodes) (reaches nodes y) (reaches nodes x) (names_of nodes) y
    (λ z r. let way = sound (names_it nodes) (names_of nodes) y z r in complete (names_it nodes) (names_of nodes) (all_among nodes) (y ∷ way.way) x z (h, way.is_way))
    (all_among nodes x y h) none (complete (names_it nodes) (names_of nodes) (all_among nodes) [] x y h)

-- a name that is there is found
pub is_found : (nodes : List Node) (n : List ℕ) → is_node nodes n ≡ true → find (λ (node : Node). bytes_eq node.name n) nodes ≡ None → ⊥
is_found [] n is e = cc
is_found (node ∷ nodes) n is e =
    elim (bytes_eq node.name n) as (λ t. bytes_eq node.name n ≡ t → cond t (Some node) (find (λ (node : Node). bytes_eq node.name n) nodes) ≡ None → ⊥) [
      | true ↦ λ same f. (let off : Some node ≡ None = f in cc)
      | false ↦ λ same f. is_found nodes n (sym (ap (λ b. b || is_node nodes n) (same_either n node.name ∙ same)) ∙ is) f
    ] refl e

-- one more plan
pub planned : (nodes : List Node) (specs : List LayerSpec) (plans : List Plan) (before : List (List ℕ)) (plan : Plan) (root : List ℕ)
    → HavePlans nodes specs plans before → IsPlan nodes specs (shape plan) root → HavePlans nodes specs (plans ++ plan ∷ []) (before ++ root ∷ [])
planned nodes specs [] [] plan root h is = (is, refl)
planned nodes specs [] (b ∷ before) plan root h is = absurd (none_left b before h) where
  none_left : (x : List ℕ) (xs : List (List ℕ)) → x ∷ xs ≡ [] → ⊥
  none_left x xs e = cc
planned nodes specs (p ∷ plans) [] plan root h is = absurd h
planned nodes specs (p ∷ plans) (b ∷ before) plan root h is = (h.0, planned nodes specs plans before plan root h.1 is)

pub planning_turn : (nodes : List Node) (specs : List LayerSpec) (plans new : List Plan) (rest tail roots : List (List ℕ)) (plan : Plan) (root : List ℕ) → rest ≡ root ∷ tail
    → new ≡ plans ++ plan ∷ [] → IsPlan nodes specs (shape plan) root → Planning nodes specs plans rest roots → Planning nodes specs new tail roots
planning_turn nodes specs plans new rest tail roots plan root first is made so_far = record {
  before = so_far.before ++ root ∷ [];
  whole = so_far.whole ∙ ap (λ rs. so_far.before ++ rs) first ∙ sym (append_assoc so_far.before (root ∷ []) tail);
  have = subst (λ ps. HavePlans nodes specs ps (so_far.before ++ root ∷ [])) (sym is) (planned nodes specs plans so_far.before plan root so_far.have made);
}

pub planning_ends : (nodes : List Node) (specs : List LayerSpec) (plans : List Plan) (roots : List (List ℕ)) → Planning nodes specs plans [] roots → HavePlans nodes specs plans roots
planning_ends nodes specs plans roots done = subst (HavePlans nodes specs plans) (sym (done.whole ∙ nothing done.before)) done.have where
  nothing : (xs : List (List ℕ)) → xs ++ [] ≡ xs
  nothing [] = refl
  nothing (x ∷ xs) = ap (λ ys. x ∷ ys) (nothing xs)

-- one of the names at a place
pub name_there : (names : List (List ℕ)) (i : ℕ) (d n : List ℕ) → i < length names → n ≡ get_or names i d → is_among names n ≡ true
name_there [] i d n h e = absurd (omega arith)
name_there (x ∷ names) zero d n h e = ap (λ b. b || is_among names n) ((bytes_eq-Decides n x).1 e)
name_there (x ∷ names) (suc i) d n h e = ap (λ b. bytes_eq n x || b) (name_there names i d n (omega arith) e) ∙ or_true (bytes_eq n x) where
  or_true : (b : Bool) → (b || true) ≡ true
  or_true true = refl
  or_true false = refl

-- what the database of a name needs of one that it names
pub record IsBelow (nodes : List Node) (n c : List ℕ) : Type 0 where
  pub fewer_reached : rank nodes c < rank nodes n
  pub known : is_node nodes c ≡ true

pub below : (nodes : List Node) → list_all (is_well_made nodes) nodes ≡ true → (n : List ℕ) (f : Form) (c : List ℕ) → form_at nodes n ≡ Some f → is_among (named_in f) c ≡ true
    → IsBelow nodes n c
below nodes made n f c e is =
    let named : names_it nodes n c ≡ true = named_at nodes made n f c e is in
    let known : is_node nodes c ≡ true = named_is_node nodes n c named in
    record { fewer_reached = falls nodes n c (away_at nodes made c known) named; known = known }

pub below_here : (nodes : List Node) → list_all (is_well_made nodes) nodes ≡ true → (n : List ℕ) (f : Form) (c d : List ℕ) → form_at nodes n ≡ Some f → is_among (named_in f) c ≡ true
    → d ≡ c → IsBelow nodes n d
below_here nodes made n f c d e is same = subst (IsBelow nodes n) (sym same) (below nodes made n f c e is)

pub first_there : (n : List ℕ) (ns : List (List ℕ)) → is_among (n ∷ ns) n ≡ true
first_there n ns = ap (λ b. b || is_among ns n) ((bytes_eq-Decides n n).1 refl)

pub second_there : (m n : List ℕ) (ns : List (List ℕ)) → is_among (m ∷ n ∷ ns) n ≡ true
second_there m n ns = ap (λ b. bytes_eq n m || b) (first_there n ns) ∙ or_true (bytes_eq n m) where
  or_true : (b : Bool) → (b || true) ≡ true
  or_true true = refl
  or_true false = refl

pub planning_starts : (nodes : List Node) (specs : List LayerSpec) (plans : List Plan) (roots : List (List ℕ)) → plans ≡ [] → Planning nodes specs plans roots roots
planning_starts nodes specs plans roots e = record { before = []; whole = refl; have = subst (λ ps. HavePlans nodes specs ps []) (sym e) refl }

pub nothing_left : {X : Type 0} (xs : List X) → length xs < 1 → xs ≡ []
nothing_left [] h = refl
nothing_left (x ∷ xs) h = absurd (omega arith)

pub have_same : (nodes others : List Node) (specs more : List LayerSpec) (plans : List Plan) (roots names : List (List ℕ)) → nodes ≡ others → specs ≡ more → roots ≡ names
    → HavePlans nodes specs plans roots → HavePlans others more plans names
have_same nodes others specs more plans roots names a b d have =
    subst (λ ns. HavePlans ns more plans names) a (subst (λ ss. HavePlans nodes ss plans names) b (subst (HavePlans nodes specs plans) d have))
