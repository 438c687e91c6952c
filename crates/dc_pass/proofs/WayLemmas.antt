-- Choices that are found one behind another.
use Rattle.std.proofs.Common.{◌≡◌, ◌≢◌, ◌-◌, ℕ, zero, suc, Bool, true, false, cond, List, [], ◌∷◌, ◌++◌, length, drop, take, refl, sym, ◌∙◌, ap, subst, arith, append_assoc, length-append}
use Rattle.std.proofs.lemmas.Bool.Decides.{nat_tests}
use Rattle.std.specs.Prelude.{◌==◌, ◌||◌, Option, None, Some, MatchOption}
use Rattle.std.specs.Option.{option_copied}
use Rattle.std.specs.Borrow.{Bor}
use Rattle.std.specs.List.{list_any}
use Rattle.dc_pass.specs.Wire.{behind}

-- ---- fronts

same_byte : (byte : ℕ) → (byte == byte) ≡ true
same_byte byte = grind (arith, nat_tests)

is_byte : (byte other : ℕ) → (byte == other) ≡ true → byte ≡ other
is_byte byte other e = grind (arith, nat_tests)

pub behind-front : (front rest : List ℕ) → behind front (front ++ rest) ≡ Some rest
behind-front [] rest = refl
behind-front (byte ∷ front) rest = ap (λ b. cond b (behind front (front ++ rest)) None) (same_byte byte) ∙ behind-front front rest

pub behind_is : (front bytes rest : List ℕ) → behind front bytes ≡ Some rest → bytes ≡ front ++ rest
behind_is [] bytes rest e = cc
behind_is (byte ∷ front) [] rest e = absurd (cc)
behind_is (byte ∷ front) (other ∷ bytes) rest e = by (byte == other) refl e (behind_is front bytes rest) where
  by : (same : Bool) → (byte == other) ≡ same → cond same (behind front bytes) None ≡ Some rest → (behind front bytes ≡ Some rest → bytes ≡ front ++ rest)
      → other ∷ bytes ≡ byte ∷ (front ++ rest)
  by true same is later =
      let first : byte ≡ other = is_byte byte other same in
      let more : bytes ≡ front ++ rest = later is in
      cc
  by false same is later = absurd (cc)

-- what a call that strips the front tells
pub behind_told : (front bytes : List ℕ) (result : Option (Bor (List ℕ))) → MatchOption result ((rest : List ℕ) → bytes ≢ front ++ rest) (λ rest. bytes ≡ front ++ rest.now)
    → option_copied result ≡ behind front bytes
behind_told front bytes (Some rest) is = sym (ap (behind front) is ∙ behind-front front rest.now)
behind_told front bytes None none = sym (by (behind front bytes) refl) where
  by : (found : Option (List ℕ)) → behind front bytes ≡ found → found ≡ None
  by None e = refl
  by (Some rest) e = absurd (none rest (behind_is front bytes rest e))

-- ---- places

drop-front : (front after : List ℕ) → drop (length (front ++ after) - length after) (front ++ after) ≡ after
drop-front front after = ap (λ (n : ℕ). drop n (front ++ after)) (omega (arith, length-append front after)) ∙ from front after where
  from : (front after : List ℕ) → drop (length front) (front ++ after) ≡ after
  from [] after = refl
  from (x ∷ front) after = from front after

parted : (at : ℕ) (text : List ℕ) → text ≡ take at text ++ drop at text
parted zero text = refl
parted (suc at) [] = refl
parted (suc at) (x ∷ text) = ap (λ (t : List ℕ). x ∷ t) (parted at text)

-- what stands behind a piece at a place stands from a later place on
pub behind_place : (piece text after : List ℕ) (at : ℕ) → behind piece (drop at text) ≡ Some after → after ≡ drop (length text - length after) text
behind_place piece text after at e =
    let whole : text ≡ (take at text ++ piece) ++ after =
    parted at text ∙ ap (λ (t : List ℕ). take at text ++ t) (behind_is piece (drop at text) after e) ∙ sym (append_assoc (take at text) piece after) in
    sym (ap (λ (t : List ℕ). drop (length t - length after) t) whole ∙ drop-front (take at text ++ piece) after)

-- ---- ways

or-assoc : (a b c : Bool) → ((a || b) || c) ≡ (a || (b || c))
or-assoc true b c = refl
or-assoc false b c = refl

-- a way that is there already
pub way_there : (passes : ℕ → Bool) (ways : List ℕ) (at : ℕ) → list_any (λ other. other == at) ways ≡ true → list_any passes ways ≡ (list_any passes ways || passes at)
way_there passes [] at e = absurd (cc)
way_there passes (w ∷ ways) at e = elim (w == at) as (λ t. (w == at) ≡ t → (t || list_any (λ other. other == at) ways) ≡ true → (passes w || list_any passes ways) ≡ ((passes w || list_any passes ways) || passes at)) [
  | true ↦ λ same _. (let is : w ≡ at = is_byte w at same in subst (λ (x : ℕ). (passes w || list_any passes ways) ≡ ((passes w || list_any passes ways) || passes x)) is (absorbed (passes w) (list_any passes ways)))
  | false ↦ λ _ later. ap (λ b. passes w || b) (way_there passes ways at later) ∙ sym (or-assoc (passes w) (list_any passes ways) (passes at))
] refl e where
  absorbed : (a b : Bool) → (a || b) ≡ ((a || b) || a)
  absorbed true b = refl
  absorbed false true = refl
  absorbed false false = refl
