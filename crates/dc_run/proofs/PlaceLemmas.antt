-- A plan in which each place stands once: no place that is asked stands under a second plan, and none is asked twice.
use Rattle.std.proofs.Common.{◌≡◌, ℕ, zero, suc, Bool, true, false, not, ◌&&◌, List, [], ◌∷◌, ◌++◌, refl, sym, ap, subst, ◌∙◌, inl, inr, arith, nat_eq, eq-eqb}
use Rattle.std.specs.Prelude.{◌||◌}
use Rattle.std.specs.List.{All, AllByRecursion, Contains, list_any}
use Rattle.std.proofs.lemmas.Bool.{and_parts}
use Rattle.std.proofs.lemmas.Bool.Decides.{eqb_tells}
use Rattle.std.proofs.lemmas.List.Elements.{All-nil, All-cons, All-contains, Contains-append_cases, Contains-append_left, Contains-append_right}
use Rattle.dc_conf.specs.Trees.{Tree, Trees, Leaf, Stack, Backup, Debug, End, More}
use Rattle.dc_conf.specs.Plans.{all_places, all_places_of, leaves, leaves_of, seconds, seconds_of, stand_once}
use Rattle.dc_store.specs.StoreLaws.{IsOnce, KeepsApart}
use Rattle.dc_run.specs.Starting.{HasEachOnce}

-- ---- lists in which each place stands once

abbrev AreApart : List ℕ → List ℕ → Type 0
AreApart ones others = (place : ℕ) → Contains ones place → Contains others place → ⊥

none_pass : {X : Type 0} (p : X → Bool) (xs : List X) → not (list_any p xs) ≡ true → All (λ x. p x ≡ false) xs
none_pass p [] e = All-nil (λ x. p x ≡ false)
none_pass p (x ∷ xs) e = elim (p x) as (λ b. p x ≡ b → not (b || list_any p xs) ≡ true → All (λ x. p x ≡ false) (x ∷ xs)) [
  | true ↦ λ is rest. absurd (cc)
  | false ↦ λ is rest. All-cons (λ x. p x ≡ false) x xs is (none_pass p xs rest)
] refl e

not_among : (x : ℕ) (xs : List ℕ) → not (list_any (nat_eq x) xs) ≡ true → Contains xs x → ⊥
not_among x xs clear there =
    let other : nat_eq x x ≡ false = All-contains (λ y. nat_eq x y ≡ false) xs x (none_pass (nat_eq x) xs clear) there in
    let same : nat_eq x x ≡ true = eq-eqb x x refl in
    cc

first_there : (x y : ℕ) (xs : List ℕ) → y ≡ x → Contains (y ∷ xs) x
first_there x y xs same = (0, omega arith, same)

none_among : (x : ℕ) (xs : List ℕ) → (Contains xs x → ⊥) → not (list_any (nat_eq x) xs) ≡ true
none_among x [] none = refl
none_among x (y ∷ xs) none = elim (eqb_tells x y) [
  | inl same ↦ absurd (none (first_there x y xs (sym same.1)))
  | inr other ↦ ap (λ b. not (b || list_any (nat_eq x) xs)) other.0 ∙ none_among x xs (λ there. none (Contains-append_right (y ∷ []) xs x there))
]

nothing_there : (x : ℕ) → Contains [] x → ⊥
nothing_there x there = absurd (omega (arith, there.1))

only_there : (x p : ℕ) → Contains (x ∷ []) p → x ≡ p
only_there x p (zero, within, same) = same
only_there x p (suc k, within, same) = absurd (omega (arith, within))

both_true : (a b : Bool) → a ≡ true → b ≡ true → (a && b) ≡ true
both_true a b one other = ap (λ c. c && b) one ∙ other

record OnceEach (ones others : List ℕ) : Type 0 where
  front : stand_once ones ≡ true
  back : stand_once others ≡ true
  apart : AreApart ones others

once_split : (ones others : List ℕ) → stand_once (ones ++ others) ≡ true → OnceEach ones others
once_split [] others once = record { front = refl; back = once; apart = λ p there other. nothing_there p there }
once_split (x ∷ ones) others once =
    let parts = and_parts (not (list_any (nat_eq x) (ones ++ others))) (stand_once (ones ++ others)) once in
    let rest = once_split ones others parts.1 in
    let clear : (Contains (ones ++ others) x → ⊥) = not_among x (ones ++ others) parts.0 in
    record {
      front = both_true (not (list_any (nat_eq x) ones)) (stand_once ones) (none_among x ones (λ there. clear (Contains-append_left ones others x there))) rest.front;
      back = rest.back;
      apart = λ p there other. elim (Contains-append_cases (x ∷ []) ones p there) [
        | inl one ↦ clear (Contains-append_right ones others x (subst (Contains others) (sym (only_there x p one)) other))
        | inr later ↦ rest.apart p later other
      ];
    }

once_joined : (ones others : List ℕ) → stand_once ones ≡ true → stand_once others ≡ true → AreApart ones others → stand_once (ones ++ others) ≡ true
once_joined [] others one other apart = other
once_joined (x ∷ ones) others one other apart =
    let parts = and_parts (not (list_any (nat_eq x) ones)) (stand_once ones) one in
    both_true (not (list_any (nat_eq x) (ones ++ others))) (stand_once (ones ++ others))
    (none_among x (ones ++ others) (λ there. elim (Contains-append_cases ones others x there) [
      | inl here ↦ not_among x ones parts.0 here
      | inr later ↦ apart x (first_there x x ones refl) later
    ]))
    (once_joined ones others parts.1 other (λ p there back. apart p (Contains-append_right (x ∷ []) ones p there) back))

once_is : (places : List ℕ) → stand_once places ≡ true → IsOnce places
once_is places once higher lower place stands there =
    let split = once_split higher (place ∷ lower) (subst (λ l. stand_once l ≡ true) stands once) in
    not_among place lower (and_parts (not (list_any (nat_eq place) lower)) (stand_once lower) split.back).0 there

-- ---- plans

mutual
  asked_there : (plan : Tree) (p : ℕ) → Contains (leaves plan) p → Contains (all_places plan) p
  asked_there (Leaf place) p there = there
  asked_there (Stack plans) p there = all_asked_there plans p there
  asked_there (Backup first second) p there = Contains-append_left (all_places first) (all_places second) p (asked_there first p there)
  asked_there (Debug plan) p there = asked_there plan p there

  all_asked_there : (plans : Trees) (p : ℕ) → Contains (leaves_of plans) p → Contains (all_places_of plans) p
  all_asked_there End p there = there
  all_asked_there (More plan plans) p there = elim (Contains-append_cases (leaves plan) (leaves_of plans) p there) [
    | inl here ↦ Contains-append_left (all_places plan) (all_places_of plans) p (asked_there plan p here)
    | inr later ↦ Contains-append_right (all_places plan) (all_places_of plans) p (all_asked_there plans p later)
  ]

mutual
  second_there : (plan : Tree) (p : ℕ) → Contains (seconds plan) p → Contains (all_places plan) p
  second_there (Leaf place) p there = absurd (nothing_there p there)
  second_there (Stack plans) p there = all_second_there plans p there
  second_there (Backup first second) p there = elim (Contains-append_cases (seconds first) (all_places second) p there) [
    | inl here ↦ Contains-append_left (all_places first) (all_places second) p (second_there first p here)
    | inr later ↦ Contains-append_right (all_places first) (all_places second) p later
  ]
  second_there (Debug plan) p there = second_there plan p there

  all_second_there : (plans : Trees) (p : ℕ) → Contains (seconds_of plans) p → Contains (all_places_of plans) p
  all_second_there End p there = there
  all_second_there (More plan plans) p there = elim (Contains-append_cases (seconds plan) (seconds_of plans) p there) [
    | inl here ↦ Contains-append_left (all_places plan) (all_places_of plans) p (second_there plan p here)
    | inr later ↦ Contains-append_right (all_places plan) (all_places_of plans) p (all_second_there plans p later)
  ]

mutual
  pub keeps_apart : (plan : Tree) → stand_once (all_places plan) ≡ true → KeepsApart plan
  keeps_apart (Leaf place) once p asked second = nothing_there p second
  keeps_apart (Stack plans) once p asked second = all_keep_apart plans once p asked second
  keeps_apart (Backup first second) once p asked there =
      let split = once_split (all_places first) (all_places second) once in
      elim (Contains-append_cases (seconds first) (all_places second) p there) [
        | inl here ↦ keeps_apart first split.front p asked here
        | inr later ↦ split.apart p (asked_there first p asked) later
      ]
  keeps_apart (Debug plan) once p asked second = keeps_apart plan once p asked second

  all_keep_apart : (plans : Trees) → stand_once (all_places_of plans) ≡ true → AreApart (leaves_of plans) (seconds_of plans)
  all_keep_apart End once p asked second = nothing_there p second
  all_keep_apart (More plan plans) once p asked second =
      let split = once_split (all_places plan) (all_places_of plans) once in
      elim (Contains-append_cases (leaves plan) (leaves_of plans) p asked) [
        | inl here ↦ elim (Contains-append_cases (seconds plan) (seconds_of plans) p second) [
          | inl too ↦ keeps_apart plan split.front p here too
          | inr later ↦ split.apart p (asked_there plan p here) (all_second_there plans p later)
        ]
        | inr later ↦ elim (Contains-append_cases (seconds plan) (seconds_of plans) p second) [
          | inl here ↦ split.apart p (second_there plan p here) (all_asked_there plans p later)
          | inr too ↦ all_keep_apart plans split.back p later too
        ]
      ]

mutual
  asked_once : (plan : Tree) → stand_once (all_places plan) ≡ true → stand_once (leaves plan) ≡ true
  asked_once (Leaf place) once = once
  asked_once (Stack plans) once = all_asked_once plans once
  asked_once (Backup first second) once = asked_once first (once_split (all_places first) (all_places second) once).front
  asked_once (Debug plan) once = asked_once plan once

  all_asked_once : (plans : Trees) → stand_once (all_places_of plans) ≡ true → stand_once (leaves_of plans) ≡ true
  all_asked_once End once = refl
  all_asked_once (More plan plans) once =
      let split = once_split (all_places plan) (all_places_of plans) once in
      once_joined (leaves plan) (leaves_of plans) (asked_once plan split.front) (all_asked_once plans split.back)
      (λ p here later. split.apart p (asked_there plan p here) (all_asked_there plans p later))

pub each_once : (plan : Tree) → HasEachOnce plan → KeepsApart plan × IsOnce (leaves plan)
each_once plan once = (keeps_apart plan once, once_is (leaves plan) (asked_once plan once))

pub all_once : (plans : List Tree) → AllByRecursion HasEachOnce plans → AllByRecursion (λ plan. KeepsApart plan × IsOnce (leaves plan)) plans
all_once [] all = tt
all_once (plan ∷ plans) all = (each_once plan all.0, all_once plans all.1)
