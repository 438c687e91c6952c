-- The least of faults, and the first pass that has one.
use Rattle.std.proofs.Common.{◌≡◌, ℕ, ◌<◌, ◌≤◌, true, false, cond, List, [], ◌∷◌, ◌++◌, Option, Some, None, refl, sym, ap, ◌∙◌, subst, inl, inr, arith}
use Rattle.std.specs.Prelude.{nat_le, ◌⊎◌}
use Rattle.std.proofs.lemmas.List.{append-nil}
use Rattle.std.specs.List.{AllByRecursion, flat_map}
use Rattle.std.proofs.lemmas.Bool.{leb-true, leb-false, le-leb, lt-leb}
use Rattle.dc_conf.specs.declared.faults.Fault.{Fault}
use Rattle.dc_conf.specs.ConfFaults.{IsLeast, Decides}
use Rattle.dc_conf.specs.Machine.{earlier_of, least_of, or_else, decided}
use Rattle.dc_conf.proofs.TestLemmas.{all_each, all-append}

pub earlier-assoc : (a b c : Option Fault) → earlier_of (earlier_of a b) c ≡ earlier_of a (earlier_of b c)
earlier-assoc None b c = refl
earlier-assoc (Some f) None c = refl
earlier-assoc (Some f) (Some g) None = elim (nat_le f.line g.line) as (λ p. earlier_of (cond p (Some f) (Some g)) None ≡ cond p (Some f) (Some g)) [ true ↦ refl | false ↦ refl ]
earlier-assoc (Some f) (Some g) (Some h) =
    elim (nat_le f.line g.line) as (λ p. nat_le f.line g.line ≡ p → earlier_of (cond p (Some f) (Some g)) (Some h) ≡ earlier_of (Some f) (cond (nat_le g.line h.line) (Some g) (Some h))) [
      | true ↦ λ p. elim (nat_le g.line h.line) as (λ q. nat_le g.line h.line ≡ q → cond (nat_le f.line h.line) (Some f) (Some h) ≡ earlier_of (Some f) (cond q (Some g) (Some h))) [
        | true ↦ λ q.
            let below : f.line ≤ h.line = omega (arith, leb-true f.line g.line p, leb-true g.line h.line q) in
            ap (λ t. cond t (Some f) (Some h)) (le-leb f.line h.line below) ∙ sym (ap (λ t. cond t (Some f) (Some g)) p)
        | false ↦ λ q. refl
      ] refl
      | false ↦ λ p. elim (nat_le g.line h.line) as (λ q. nat_le g.line h.line ≡ q → cond q (Some g) (Some h) ≡ earlier_of (Some f) (cond q (Some g) (Some h))) [
        | true ↦ λ q. sym (ap (λ t. cond t (Some f) (Some g)) p)
        | false ↦ λ q.
            let above : h.line < f.line = omega (arith, leb-false f.line g.line p, leb-false g.line h.line q) in
            sym (ap (λ t. cond t (Some f) (Some h)) (lt-leb f.line h.line above))
      ] refl
    ] refl

pub earlier-none : (a : Option Fault) → earlier_of a None ≡ a
earlier-none None = refl
earlier-none (Some f) = refl

pub least_of-append : (xs ys : List Fault) → least_of (xs ++ ys) ≡ earlier_of (least_of xs) (least_of ys)
least_of-append [] ys = refl
least_of-append (x ∷ xs) ys = ap (earlier_of (Some x)) (least_of-append xs ys) ∙ sym (earlier-assoc (Some x) (least_of xs) (least_of ys))

-- the least of two lists
pub least_join : (xs ys : List Fault) (a b r : Option Fault) → r ≡ earlier_of a b → a ≡ least_of xs → b ≡ least_of ys → r ≡ least_of (xs ++ ys)
least_join xs ys a b r e p q = e ∙ (λ i. earlier_of (p i) (q i)) ∙ sym (least_of-append xs ys)

pub least_none : (xs : List Fault) → least_of xs ≡ None → xs ≡ []
least_none [] e = refl
least_none (x ∷ xs) e =
    elim (least_of xs) as (λ r. earlier_of (Some x) r ≡ None → x ∷ xs ≡ []) [
      | None ↦ λ f. absurd (cc)
      | Some g ↦ λ f. elim (nat_le x.line g.line) as (λ t. cond t (Some x) (Some g) ≡ None → x ∷ xs ≡ []) [ true ↦ λ h. absurd (cc) | false ↦ λ h. absurd (cc) ] f
    ] e

-- the least is one of them
pub least_in : (P : Fault → Type 0) (xs : List Fault) (f : Fault) → least_of xs ≡ Some f → AllByRecursion P xs → P f
least_in P [] f e all = absurd (cc)
least_in P (x ∷ xs) f e all =
    elim (least_of xs) as (λ r. least_of xs ≡ r → earlier_of (Some x) r ≡ Some f → P f) [
      | None ↦ λ r h. (let same : x ≡ f = cc in subst P same all.0)
      | Some g ↦ λ r h. elim (nat_le x.line g.line) as (λ t. cond t (Some x) (Some g) ≡ Some f → P f) [
        | true ↦ λ k. (let same : x ≡ f = cc in subst P same all.0)
        | false ↦ λ k. (let same : g ≡ f = cc in subst P same (least_in P xs g r all.1))
      ] h
    ] refl e

-- what stands later doesn't change it
earlier_first : (f : Fault) (r : Option Fault) → ((g : Fault) → r ≡ Some g → f.line ≤ g.line) → earlier_of (Some f) r ≡ Some f
earlier_first f None h = refl
earlier_first f (Some g) h = ap (λ t. cond t (Some f) (Some g)) (le-leb f.line g.line (h g refl))

pub least_keeps : (xs ys : List Fault) (f : Fault) → least_of xs ≡ Some f → AllByRecursion (λ other. f.line ≤ other.line) ys → least_of (xs ++ ys) ≡ Some f
least_keeps xs ys f e later =
    least_of-append xs ys ∙ ap (λ a. earlier_of a (least_of ys)) e
    ∙ earlier_first f (least_of ys) (λ g is. least_in (λ other. f.line ≤ other.line) ys g is later)

-- ---- what the least is

-- none is on a lesser line
bounded : (n : ℕ) (g : Fault) (ys : List Fault) → IsLeast ys g → n ≤ g.line → AllByRecursion (λ other. n ≤ other.line) ys
bounded n g ys is low =
    subst (AllByRecursion (λ other. n ≤ other.line)) (sym is.whole)
    (all-append (λ other. n ≤ other.line) is.before (g ∷ is.after)
    (all_each (λ other. g.line < other.line) (λ other. n ≤ other.line) (λ other h. omega arith) is.before is.later)
    (low, all_each (λ other. g.line ≤ other.line) (λ other. n ≤ other.line) (λ other h. omega arith) is.after is.least))

pub least_is : (xs : List Fault) (f : Fault) → least_of xs ≡ Some f → IsLeast xs f
least_is [] f e = absurd (cc)
least_is (x ∷ xs) f e =
    elim (least_of xs) as (λ r. least_of xs ≡ r → earlier_of (Some x) r ≡ Some f → IsLeast (x ∷ xs) f) [
      | None ↦ λ r h.
          let same : x ≡ f = cc in
          let none : xs ≡ [] = least_none xs r in
          record {
            before = [];
            after = xs;
            whole = ap (λ y. y ∷ xs) same;
            later = tt;
            least = subst (AllByRecursion (λ other. f.line ≤ other.line)) (sym none) tt;
          }
      | Some g ↦ λ r h. elim (nat_le x.line g.line) as (λ t. nat_le x.line g.line ≡ t → cond t (Some x) (Some g) ≡ Some f → IsLeast (x ∷ xs) f) [
        | true ↦ λ t k.
            let same : x ≡ f = cc in
            let below : f.line ≤ g.line = subst (λ (y : Fault). y.line ≤ g.line) same (leb-true x.line g.line t) in
            record { before = []; after = xs; whole = ap (λ y. y ∷ xs) same; later = tt; least = bounded f.line g xs (least_is xs g r) below }
        | false ↦ λ t k.
            let same : g ≡ f = cc in
            let rest : IsLeast xs f = subst (IsLeast xs) same (least_is xs g r) in
            let above : f.line < x.line = subst (λ (y : Fault). y.line < x.line) same (leb-false x.line g.line t) in
            record { before = x ∷ rest.before; after = rest.after; whole = ap (λ ys. x ∷ ys) rest.whole; later = (above, rest.later); least = rest.least }
      ] refl h
    ] refl e

-- ---- which pass decides

pub decided_none : (all : List (List Fault)) → decided all ≡ None → AllByRecursion (λ faults. faults ≡ []) all
decided_none [] e = tt
decided_none (pass ∷ passes) e =
    elim (least_of pass) as (λ r. least_of pass ≡ r → or_else r (decided passes) ≡ None → AllByRecursion (λ faults. faults ≡ []) (pass ∷ passes)) [
      | None ↦ λ r h. (least_none pass r, decided_none passes h)
      | Some f ↦ λ r h. absurd (cc)
    ] refl e

pub decided_some : (all : List (List Fault)) (f : Fault) → decided all ≡ Some f → Decides all f
decided_some [] f e = absurd (cc)
decided_some (pass ∷ passes) f e =
    elim (least_of pass) as (λ r. least_of pass ≡ r → or_else r (decided passes) ≡ Some f → Decides (pass ∷ passes) f) [
      | None ↦ λ r h.
          let rest : Decides passes f = decided_some passes f h in
          record { clean = pass ∷ rest.clean; pass = rest.pass; rest = rest.rest; whole = ap (λ ps. pass ∷ ps) rest.whole; none = (least_none pass r, rest.none); first_is = rest.first_is }
      | Some g ↦ λ r h.
          let same : g ≡ f = cc in
          record { clean = []; pass = pass; rest = passes; whole = refl; none = tt; first_is = subst (IsLeast pass) same (least_is pass g r) }
    ] refl e

-- ---- one fault decides

least_behind : (before rest : List Fault) (f : Fault) → AllByRecursion (λ other. f.line < other.line) before → least_of rest ≡ Some f → least_of (before ++ rest) ≡ Some f
least_behind [] rest f later e = e
least_behind (b ∷ before) rest f later e =
    ap (earlier_of (Some b)) (least_behind before rest f later.1 e) ∙ ap (λ t. cond t (Some b) (Some f)) (lt-leb b.line f.line later.0)

is_least : (xs : List Fault) (f : Fault) → IsLeast xs f → least_of xs ≡ Some f
is_least xs f is =
    ap least_of is.whole ∙ least_behind is.before (f ∷ is.after) f is.later (least_keeps (f ∷ []) is.after f refl is.least)

decided_behind : (clean rest : List (List Fault)) → AllByRecursion (λ faults. faults ≡ []) clean → decided (clean ++ rest) ≡ decided rest
decided_behind [] rest none = refl
decided_behind (pass ∷ clean) rest none =
    ap (λ faults. or_else (least_of faults) (decided (clean ++ rest))) none.0 ∙ decided_behind clean rest none.1

decides : (all : List (List Fault)) (f : Fault) → Decides all f → decided all ≡ Some f
decides all f is =
    ap decided is.whole ∙ decided_behind is.clean (is.pass ∷ is.rest) is.none ∙ ap (λ r. or_else r (decided is.rest)) (is_least is.pass f is.first_is)

pub one_decides : (all : List (List Fault)) (f g : Fault) → Decides all f → Decides all g → f ≡ g
one_decides all f g is other = let same : ◌≡◌ {A = Option Fault} (Some f) (Some g) = sym (decides all f is) ∙ decides all g other in cc

pub not_both : (all : List (List Fault)) (f : Fault) → AllByRecursion (λ faults. faults ≡ []) all → Decides all f → ⊥
not_both all f none is =
    let off : ◌≡◌ {A = Option Fault} None (Some f) = sym (decided_behind all [] none) ∙ ap decided (append-nil all) ∙ decides all f is in
    cc

pub some_decides : (all : List (List Fault)) → AllByRecursion (λ faults. faults ≡ []) all ⊎ ((f : Fault) × Decides all f)
some_decides all = elim (decided all) as (λ r. decided all ≡ r → AllByRecursion (λ faults. faults ≡ []) all ⊎ ((f : Fault) × Decides all f)) [
  | None ↦ λ e. inl (decided_none all e)
  | Some f ↦ λ e. inr (f, decided_some all f e)
] refl

-- ---- one after another

-- a turn of a loop over what may have faults
pub faults_turn : {X : Type 0} (faults : X → List Fault) (rest tail : List X) (x : X) (least new all : Option Fault) → rest ≡ x ∷ tail
    → new ≡ earlier_of least (least_of (faults x))
    → earlier_of least (least_of (flat_map faults rest)) ≡ all
    → earlier_of new (least_of (flat_map faults tail)) ≡ all
faults_turn {X} faults rest tail x least new all whole e so_far =
    let others : List Fault = flat_map faults tail in
    ap (λ a. earlier_of a (least_of others)) e ∙ earlier-assoc least (least_of (faults x)) (least_of others)
    ∙ ap (earlier_of least) (sym (least_of-append (faults x) others) ∙ ap (λ (xs : List X). least_of (flat_map faults xs)) (sym whole))
    ∙ so_far
