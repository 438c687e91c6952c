-- Words by what they begin with, and words with their places.
use Rattle.std.proofs.Common.{◌≡◌, ◌≢◌, ◌≤◌, ℕ, Bool, true, false, List, [], ◌∷◌, ◌++◌, length, refl, sym, ◌∙◌, ap, arith}
use Rattle.std.proofs.lemmas.Bool.Decides.{nat_tests}
use Rattle.std.specs.Prelude.{◌==◌, ◌&&◌, not, Option, None, Some, MatchOption, if◌then◌else◌}
use Rattle.std.specs.Option.{option_copied}
use Rattle.std.specs.Borrow.{Bor}
use Rattle.dc_cli.specs.DatabaseWords.{behind_front, IsGivenOnce}
use Rattle.dc_cli.specs.declared.tool.PlacedWord.{PlacedWord}

-- ---- tests

pub both_of : (a b : Bool) → (a && b) ≡ true → (a ≡ true) × (b ≡ true)
both_of true b e = (refl, e)
both_of false b e = cc

pub not_true : (a : Bool) → not a ≡ true → a ≡ false
not_true true e = cc
not_true false e = refl

-- ---- fronts

same_byte : (byte : ℕ) → (byte == byte) ≡ true
same_byte byte = grind (arith, nat_tests)

pub byte_same : (byte other : ℕ) → (byte == other) ≡ true → byte ≡ other
byte_same byte other e = grind (arith, nat_tests)

pub front_of : (front rest : List ℕ) → behind_front front (front ++ rest) ≡ Some rest
front_of [] rest = refl
front_of (byte ∷ front) rest = ap (λ b. if b then behind_front front (front ++ rest) else None) (same_byte byte) ∙ front_of front rest

pub front_is : (front bytes rest : List ℕ) → behind_front front bytes ≡ Some rest → bytes ≡ front ++ rest
front_is [] bytes rest e = cc
front_is (byte ∷ front) [] rest e = cc
front_is (byte ∷ front) (other ∷ bytes) rest e = by (byte == other) refl e (front_is front bytes rest) where
  by : (same : Bool) → (byte == other) ≡ same → (if same then behind_front front bytes else None) ≡ Some rest → (behind_front front bytes ≡ Some rest → bytes ≡ front ++ rest)
      → other ∷ bytes ≡ byte ∷ (front ++ rest)
  by true same is later =
      let first : byte ≡ other = byte_same byte other same in
      let behind : bytes ≡ front ++ rest = later is in
      cc
  by false same is later = cc

-- what a call that strips the front tells
pub front_told : (front bytes : List ℕ) (result : Option (Bor (List ℕ))) → MatchOption result ((rest : List ℕ) → bytes ≢ front ++ rest) (λ rest. bytes ≡ front ++ rest.now)
    → option_copied result ≡ behind_front front bytes
front_told front bytes (Some rest) is = sym (ap (behind_front front) is ∙ front_of front rest.now)
front_told front bytes None none = sym (by (behind_front front bytes) refl) where
  by : (behind : Option (List ℕ)) → behind_front front bytes ≡ behind → behind ≡ None
  by None e = refl
  by (Some rest) e = absurd (none rest (front_is front bytes rest e))

-- ---- options that may be given once

pub one_given : (values : List PlacedWord) (given other : Option PlacedWord) → IsGivenOnce values given → IsGivenOnce values other → given ≡ other
one_given [] given other a b = a ∙ sym b
one_given (value ∷ []) given other a b = a ∙ sym b
one_given (value ∷ second ∷ values) given other a b = absurd a

pub once_few : (values : List PlacedWord) (given : Option PlacedWord) → IsGivenOnce values given → length values ≤ 1
once_few [] given is = omega arith
once_few (value ∷ []) given is = omega arith
once_few (value ∷ second ∷ values) given is = absurd is
