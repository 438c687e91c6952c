-- Octal digits, one after another.
use Rattle.std.proofs.Common.{◌≡◌, ℕ, ◌+◌, ◌*◌, ◌-◌, ◌^◌, suc, ◌≤◌, true, List, [], ◌∷◌, length, get_or, take, drop, sym, ap, ◌∙◌, subst, arith}
use Rattle.std.specs.List.{list_all}
use Rattle.std.proofs.Math.Nat.{one-le-pow, mul-le-mul_left, mul-le-mul_right, pow-succ', mul_assoc}
use Rattle.std.proofs.lemmas.Bool.{leb-true, and_parts}
use Rattle.std.proofs.lemmas.Slice.{between_to_end}
use Rattle.std.proofs.Math.Nat.{le_refl}
use Rattle.dc_conf.specs.Values.{is_octal_digit, octal_from}

room_for : (n k : ℕ) → (n + 1) * 8 ^ suc k ≤ 4096 → n * 8 + 8 ≤ 4096
room_for n k h =
    let some : 1 ≤ 8 ^ k = one-le-pow k 8 (omega arith) in
    let more : (n + 1) * 8 * 1 ≤ (n + 1) * 8 * 8 ^ k = mul-le-mul_left ((n + 1) * 8) some in
    let same : (n + 1) * 8 ^ suc k ≡ (n + 1) * 8 * 8 ^ k = ap (λ m. (n + 1) * m) (pow-succ' 8 k) ∙ sym (mul_assoc (n + 1) 8 (8 ^ k)) in
    omega (arith, same, more)

room_left : (n d k : ℕ) → d ≤ 7 → (n + 1) * 8 ^ suc k ≤ 4096 → (n * 8 + d + 1) * 8 ^ k ≤ 4096
room_left n d k small h =
    let same : (n + 1) * 8 ^ suc k ≡ (n + 1) * 8 * 8 ^ k = ap (λ m. (n + 1) * m) (pow-succ' 8 k) ∙ sym (mul_assoc (n + 1) 8 (8 ^ k)) in
    let less : (n * 8 + d + 1) * 8 ^ k ≤ ((n + 1) * 8) * 8 ^ k = mul-le-mul_right (8 ^ k) (omega arith) in
    omega (arith, same, less)

-- one more digit fits
pub room_at : (n : ℕ) (rest : List ℕ) → 1 ≤ length rest → (n + 1) * 8 ^ length rest ≤ 4096 → n * 8 + 8 ≤ 4096
room_at n [] some room = absurd (omega arith)
room_at n (b ∷ rest) some room = room_for n (length rest) room

digit_small : (b : ℕ) → is_octal_digit b ≡ true → (48 ≤ b) × (b ≤ 55)
digit_small b e = let parts = and_parts _ _ e in (leb-true 48 b parts.0, leb-true b 55 parts.1)

pub first_digit : (rest : List ℕ) → 1 ≤ length rest → list_all is_octal_digit rest ≡ true → (48 ≤ get_or rest 0 0) × (get_or rest 0 0 ≤ 55)
first_digit [] some all = absurd (omega arith)
first_digit (b ∷ rest) some all = digit_small b (and_parts _ _ all).0

pub record Goes (n : ℕ) (rest : List ℕ) (all : ℕ) : Type 0 where
  pub spelled : octal_from n rest ≡ all
  pub digits : list_all is_octal_digit rest ≡ true
  pub room : (n + 1) * 8 ^ length rest ≤ 4096

-- a turn of the loop
pub octal_turn : (n : ℕ) (rest : List ℕ) (all : ℕ) → 1 ≤ length rest → Goes n rest all → Goes (n * 8 + (get_or rest 0 0 - 48)) (take (length rest - 1) (drop 1 rest)) all
octal_turn n [] all some goes = absurd (omega arith)
octal_turn n (b ∷ rest) all some goes =
    let parts = and_parts _ _ goes.digits in
    let digit = digit_small b parts.0 in
    subst (λ r. Goes (n * 8 + (b - 48)) r all) (sym (between_to_end (b ∷ rest) 1 (length (b ∷ rest)) (le_refl _)))
    (record { spelled = goes.spelled; digits = parts.1; room = room_left n (b - 48) (length rest) (omega arith) goes.room })
