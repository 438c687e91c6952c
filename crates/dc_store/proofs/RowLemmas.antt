-- Rows of writes.
use Rattle.std.proofs.Common.{◌≡◌, ℕ, suc, Bool, true, false, not, List, [], ◌∷◌, length, Option, Some, None, is_some, refl, sym, ap, subst, ◌∙◌, arith}
use Rattle.std.specs.Prelude.{◌||◌, unwrap_or, if◌then◌else◌}
use Rattle.std.specs.List.{All, Contains, list_any}
use Rattle.std.proofs.Math.ListN.{get_or}
use Rattle.std.proofs.lemmas.List.Elements.{All-head, All-tail, All-from_get_or}
use Rattle.dc_layer.specs.State.{LayerState}
use Rattle.dc_store.specs.Plans.{StoreState, write}
use Rattle.dc_store.specs.Batches.{Write, AllDistinct, names_of, is_refused, all_done, commit}
use Rattle.dc_store.specs.StoreLaws.{AreSameBut, AreSameButAll, IsSameStoreButAll}
use Rattle.dc_store.proofs.TestLemmas.{tests_apart, taken_is}

-- a row of one write is that write
pub row_of_one : (store : StoreState) (w : Write) → commit store (w ∷ []) ≡ write store w.plan w.name w.kind w.op
row_of_one store w =
    ap (λ b. if not b || false then None else Some (unwrap_or (write store w.plan w.name w.kind w.op) store)) (sym (taken_is store w.plan w.name w.kind w.op))
    ∙ by_write (write store w.plan w.name w.kind w.op)
  where
    by_write : (o : Option StoreState) → (if not (is_some o) || false then None else Some (unwrap_or o store)) ≡ o
    by_write None = refl
    by_write (Some new) = refl

-- ---- the writes of a row, one after the other

any_same : (f h : Write → Bool) (xs : List Write) → All (λ x. f x ≡ h x) xs → list_any f xs ≡ list_any h xs
any_same f h [] all = refl
any_same f h (x ∷ xs) all =
    ap (λ b. b || list_any f xs) (All-head (λ x. f x ≡ h x) x xs all) ∙ ap (λ b. h x || b) (any_same f h xs (All-tail (λ x. f x ≡ h x) x xs all))

or_false : (a b : Bool) → (a || b) ≡ false → (a ≡ false) × (b ≡ false)
or_false true b e = cc
or_false false b e = (refl, e)

-- the first isn't refused
pub first_taken : (ls : List LayerState) (w : Write) (batch : List Write) → list_any (is_refused ls) (w ∷ batch) ≡ false → is_refused ls w ≡ false
first_taken ls w batch free = (or_false (is_refused ls w) (list_any (is_refused ls) batch) free).0

-- once it is done, none of the rest is refused
pub rest_taken : (w : Write) (batch : List Write) (store new : StoreState) → AllDistinct (w ∷ batch) → write store w.plan w.name w.kind w.op ≡ Some new
    → list_any (is_refused store.layers) (w ∷ batch) ≡ false → list_any (is_refused new.layers) batch ≡ false
rest_taken w batch store new distinct did free =
    any_same (is_refused new.layers) (is_refused store.layers) batch
    (All-from_get_or (λ x. is_refused new.layers x ≡ is_refused store.layers x) batch w
    (λ k within. tests_apart store new w (get_or batch k w) (distinct 0 (suc k) w (omega arith) (omega arith)) did))
    ∙ (or_false (is_refused store.layers w) (list_any (is_refused store.layers) batch) free).1

-- and the rest leave what all were to leave
pub rest_left : (w : Write) (batch : List Write) (store new final : StoreState) → write store w.plan w.name w.kind w.op ≡ Some new → all_done store (w ∷ batch) ≡ final → all_done new batch ≡ final
rest_left w batch store new final did left = sym (ap (λ o. all_done (unwrap_or o store) batch) did) ∙ left

pub rest_distinct : (w : Write) (batch : List Write) → AllDistinct (w ∷ batch) → AllDistinct batch
rest_distinct w batch distinct i j default apart within = distinct (suc i) (suc j) default (omega arith) (omega arith)

-- ---- the other names

pub same_all : (ns : List (List ℕ)) (n : List ℕ) (xs ys : List LayerState) → Contains ns n → AreSameBut n xs ys → AreSameButAll ns xs ys
same_all ns n [] [] in' s = tt
same_all ns n [] (y ∷ ys) in' s = absurd s
same_all ns n (x ∷ xs) [] in' s = absurd s
same_all ns n (x ∷ xs) (y ∷ ys) in' s = (
  record {
    sort = s.0.sort;
    spec = s.0.spec;
    left_out = s.0.left_out;
    text = s.0.text;
    items = λ other out. s.0.items other (λ e. out (subst (Contains ns) (sym e) in'));
  },
  same_all ns n xs ys in' s.1,
)

pub same_all_refl : (ns : List (List ℕ)) (xs : List LayerState) → AreSameButAll ns xs xs
same_all_refl ns [] = tt
same_all_refl ns (x ∷ xs) = (record { sort = refl; spec = refl; left_out = refl; text = refl; items = λ other out. refl }, same_all_refl ns xs)

all_as_many : (ns : List (List ℕ)) (xs ys : List LayerState) → AreSameButAll ns xs ys → length ys ≡ length xs
all_as_many ns [] [] same = refl
all_as_many ns [] (y ∷ ys) same = absurd same
all_as_many ns (x ∷ xs) [] same = absurd same
all_as_many ns (x ∷ xs) (y ∷ ys) same = ap suc (all_as_many ns xs ys same.1)

pub all_framed : (ns : List (List ℕ)) (old new : StoreState) → AreSameButAll ns old.layers new.layers → IsSameStoreButAll ns old new
all_framed ns old new same = record { others = same; count = all_as_many ns old.layers new.layers same }

pub same_store_refl : (ns : List (List ℕ)) (store : StoreState) → IsSameStoreButAll ns store store
same_store_refl ns store = record { others = same_all_refl ns store.layers; count = refl }

pub same_all_then : (ns : List (List ℕ)) (xs ys zs : List LayerState) → AreSameButAll ns xs ys → AreSameButAll ns ys zs → AreSameButAll ns xs zs
same_all_then ns [] [] [] p q = tt
same_all_then ns [] [] (z ∷ zs) p q = absurd q
same_all_then ns [] (y ∷ ys) zs p q = absurd p
same_all_then ns (x ∷ xs) [] zs p q = absurd p
same_all_then ns (x ∷ xs) (y ∷ ys) [] p q = absurd q
same_all_then ns (x ∷ xs) (y ∷ ys) (z ∷ zs) p q = (
  record {
    sort = q.0.sort ∙ p.0.sort;
    spec = q.0.spec ∙ p.0.spec;
    left_out = q.0.left_out ∙ p.0.left_out;
    text = q.0.text ∙ p.0.text;
    items = λ other out. q.0.items other out ∙ p.0.items other out;
  },
  same_all_then ns xs ys zs p.1 q.1,
)

-- ---- what a row names

pub first_name : (w : Write) (batch : List Write) → Contains (names_of (w ∷ batch)) w.name
first_name w batch = (0, omega arith, refl)

pub other_name : (w : Write) (batch : List Write) (name : List ℕ) → Contains (names_of batch) name → Contains (names_of (w ∷ batch)) name
other_name w batch name in' = (suc in'.0, omega (arith, in'.1), in'.2)
