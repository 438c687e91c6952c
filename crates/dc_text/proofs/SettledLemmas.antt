-- Laws of settling.
use Rattle.std.proofs.Common.{◌≡◌, ℕ, Bool, true, false, cond, not, ◌&&◌, List, [], ◌∷◌, ◌++◌, inl, inr, refl, sym, ap, ◌∙◌, append_assoc}
use Rattle.std.specs.Prelude.{◌==◌}
use Rattle.std.specs.List.{list_any, before_first, after_first}
use Rattle.std.proofs.lemmas.Bool.{cases_Bool}
use Rattle.std.proofs.lemmas.Bool.Decides.{nat_tests}
use Rattle.std.proofs.Common.{arith}
use Rattle.dc_text.specs.Settled.{settled, is_settled, newlines_shown}
use Rattle.dc_text.proofs.FirstLemmas.{before_first-here, before_first-later, after_first-here, after_first-later}

abbrev pub starts_with_n : List ℕ → Bool
starts_with_n [] = false
starts_with_n (b ∷ bytes) = b == 110

and-false : (a : Bool) → (a && false) ≡ false
and-false true = refl
and-false false = refl

not_false : (a : Bool) → not a ≡ true → a ≡ false
not_false true e = absurd (cc)
not_false false e = refl

both : (a b : Bool) → (a && b) ≡ true → (a ≡ true) × (b ≡ true)
both true b e = (refl, e)
both false b e = absurd (cc)

-- a byte before a settled text makes no pair where that text doesn't start with an n
settled_cons : (b : ℕ) (bytes : List ℕ) → is_settled bytes ≡ true → (b == 92 && starts_with_n bytes) ≡ false → is_settled (b ∷ bytes) ≡ true
settled_cons b [] s h = refl
settled_cons b (c ∷ bytes) s h = rw h s

-- settling makes no n at the front
starts_as : (c : ℕ) (bytes : List ℕ) → (c == 110) ≡ false → starts_with_n (settled (c ∷ bytes)) ≡ false
starts_as c [] h = h
starts_as c (d ∷ bytes) h = elim (c == 92 && d == 110) as (λ b. starts_with_n (cond b (10 ∷ settled bytes) (c ∷ settled (d ∷ bytes))) ≡ false) [ true ↦ refl | false ↦ h ]

no_pair_after : (b c : ℕ) (bytes : List ℕ) → (b == 92 && c == 110) ≡ false → (b == 92 && starts_with_n (settled (c ∷ bytes))) ≡ false
no_pair_after b c bytes e =
    elim (c == 110) as (λ t. (c == 110) ≡ t → (b == 92 && t) ≡ false → (b == 92 && starts_with_n (settled (c ∷ bytes))) ≡ false) [
      | true ↦ λ is none. let first : (b == 92) ≡ false = right (b == 92) none in ap (λ a. a && starts_with_n (settled (c ∷ bytes))) first
      | false ↦ λ is none. ap (λ a. b == 92 && a) (starts_as c bytes is) ∙ and-false (b == 92)
    ] refl e where
      right : (a : Bool) → (a && true) ≡ false → a ≡ false
      right true e = e
      right false e = refl

pub is_settled-settled : (bytes : List ℕ) → is_settled (settled bytes) ≡ true
is_settled-settled [] = refl
is_settled-settled (b ∷ []) = refl
is_settled-settled (b ∷ c ∷ bytes) =
    elim (b == 92 && c == 110) as (λ t. (b == 92 && c == 110) ≡ t → is_settled (cond t (10 ∷ settled bytes) (b ∷ settled (c ∷ bytes))) ≡ true) [
      | true ↦ λ e. settled_cons 10 (settled bytes) (is_settled-settled bytes) refl
      | false ↦ λ e. settled_cons b (settled (c ∷ bytes)) (is_settled-settled (c ∷ bytes)) (no_pair_after b c bytes e)
    ] refl

pub settled-stays : (bytes : List ℕ) → is_settled bytes ≡ true → settled bytes ≡ bytes
settled-stays [] h = refl
settled-stays (b ∷ []) h = refl
settled-stays (b ∷ c ∷ bytes) h =
    let parts : (not (b == 92 && c == 110) ≡ true) × (is_settled (c ∷ bytes) ≡ true) = both _ _ h in
    let no_pair : (b == 92 && c == 110) ≡ false = not_false _ parts.0 in
    rw no_pair (ap (λ (l : List ℕ). b ∷ l) (settled-stays (c ∷ bytes) parts.1))

-- what is shown in one line is settled again as it was

is_newline : (b : ℕ) → (b == 10) ≡ true → b ≡ 10
is_newline b e = grind (arith, nat_tests)

pub settled-shown : (v : List ℕ) → is_settled v ≡ true → settled (newlines_shown v) ≡ v
settled-shown [] h = refl
settled-shown (b ∷ []) h = elim (b == 10) as (λ t. (b == 10) ≡ t → settled (cond t (92 ∷ 110 ∷ []) (b ∷ [])) ≡ b ∷ []) [
  | true ↦ λ e. ap (λ x. x ∷ []) (sym (is_newline b e))
  | false ↦ λ e. refl
] refl
settled-shown (b ∷ c ∷ v) h =
    let again : settled (newlines_shown (c ∷ v)) ≡ c ∷ v = settled-shown (c ∷ v) (both _ _ h).1 in
    let s : List ℕ = newlines_shown v in
    elim (b == 10) as (λ t. (b == 10) ≡ t → settled (cond t (92 ∷ 110 ∷ newlines_shown (c ∷ v)) (b ∷ newlines_shown (c ∷ v))) ≡ b ∷ c ∷ v) [
      | true ↦ λ e. (λ i. sym (is_newline b e) i ∷ again i)
      | false ↦ λ e. elim (c == 10) as (λ u. settled (cond u (92 ∷ 110 ∷ s) (c ∷ s)) ≡ c ∷ v → settled (b ∷ cond u (92 ∷ 110 ∷ s) (c ∷ s)) ≡ b ∷ c ∷ v) [
        | true ↦ λ g. ap (λ t. cond t (10 ∷ settled (110 ∷ s)) (b ∷ settled (92 ∷ 110 ∷ s))) (and-false (b == 92)) ∙ ap (λ xs. b ∷ xs) g
        | false ↦ λ g. ap (λ t. cond t (10 ∷ settled s) (b ∷ settled (c ∷ s))) (not_false _ (both _ _ h).0) ∙ ap (λ xs. b ∷ xs) g
      ] again
    ] refl

-- ---- a text by the bytes that are looked for

abbrev is_backslash : ℕ → Bool
is_backslash b = b == 92

abbrev is_line_end : ℕ → Bool
is_line_end b = b == 10

equal : (a b : ℕ) → (a == b) ≡ true → a ≡ b
equal a b e = grind (arith, nat_tests)

-- a byte that is no backslash stays
settled-plain : (b : ℕ) (bytes : List ℕ) → (b == 92) ≡ false → settled (b ∷ bytes) ≡ b ∷ settled bytes
settled-plain b [] h = refl
settled-plain b (c ∷ bytes) h = rw h refl

-- up to the first backslash all bytes stay
pub settled-first : (bytes : List ℕ) → list_any is_backslash bytes ≡ true → settled bytes ≡ before_first is_backslash bytes ++ settled (92 ∷ after_first is_backslash bytes)
settled-first [] has = absurd (cc)
settled-first (b ∷ bytes) has = elim (cases_Bool (b == 92)) [
  | inl here ↦ rw (before_first-here is_backslash b bytes here, after_first-here is_backslash b bytes here) (ap (λ c. settled (c ∷ bytes)) (equal b 92 here))
  | inr later ↦
      let more : list_any is_backslash bytes ≡ true = rw later at has in
      settled-plain b bytes later ∙ ap (λ l. b ∷ l) (settled-first bytes more)
      ∙ sym (λ i. before_first-later is_backslash b bytes later i ++ settled (92 ∷ after_first-later is_backslash b bytes later i))
]

-- without a backslash the whole text stays
pub settled-none : (bytes : List ℕ) → list_any is_backslash bytes ≡ false → settled bytes ≡ bytes
settled-none [] none = refl
settled-none (b ∷ bytes) none = elim (cases_Bool (b == 92)) [
  | inl here ↦ absurd (let off : true ≡ false = rw here at none in cc)
  | inr later ↦
      let more : list_any is_backslash bytes ≡ false = rw later at none in
      settled-plain b bytes later ∙ ap (λ l. b ∷ l) (settled-none bytes more)
]

-- a backslash before something else than an n stays
pub settled-alone : (bytes : List ℕ) → starts_with_n bytes ≡ false → settled (92 ∷ bytes) ≡ 92 ∷ settled bytes
settled-alone [] none = refl
settled-alone (c ∷ bytes) none = rw none refl

-- up to the first newline all bytes are shown as they are
pub shown-first : (bytes : List ℕ) → list_any is_line_end bytes ≡ true → newlines_shown bytes ≡ before_first is_line_end bytes ++ 92 ∷ 110 ∷ newlines_shown (after_first is_line_end bytes)
shown-first [] has = absurd (cc)
shown-first (b ∷ bytes) has = elim (cases_Bool (b == 10)) [
  | inl here ↦ rw (before_first-here is_line_end b bytes here, after_first-here is_line_end b bytes here) (rw here refl)
  | inr later ↦
      let more : list_any is_line_end bytes ≡ true = rw later at has in
      rw (before_first-later is_line_end b bytes later, after_first-later is_line_end b bytes later) (rw later (ap (λ l. b ∷ l) (shown-first bytes more)))
]

-- without a newline all bytes are shown as they are
pub shown-none : (bytes : List ℕ) → list_any is_line_end bytes ≡ false → newlines_shown bytes ≡ bytes
shown-none [] none = refl
shown-none (b ∷ bytes) none = elim (cases_Bool (b == 10)) [
  | inl here ↦ absurd (let off : true ≡ false = rw here at none in cc)
  | inr later ↦
      let more : list_any is_line_end bytes ≡ false = rw later at none in
      rw later (ap (λ l. b ∷ l) (shown-none bytes more))
]

-- ---- a step of a loop that takes a text by its pieces

pub shown-step : (text rest line after new newer whole : List ℕ) → list_any is_line_end rest ≡ true → line ≡ before_first is_line_end rest → after ≡ after_first is_line_end rest
    → text ++ newlines_shown rest ≡ whole → new ≡ text ++ line → newer ≡ new ++ 92 ∷ 110 ∷ [] → newer ++ newlines_shown after ≡ whole
shown-step text rest line after new newer whole has front back so_far first second =
    ap (λ l. l ++ newlines_shown after) (second ∙ ap (λ l. l ++ 92 ∷ 110 ∷ []) first)
    ∙ append_assoc (text ++ line) (92 ∷ 110 ∷ []) (newlines_shown after) ∙ append_assoc text line (92 ∷ 110 ∷ newlines_shown after)
    ∙ ap (λ (l : List ℕ). text ++ l) ((λ i. front i ++ 92 ∷ 110 ∷ newlines_shown (back i)) ∙ sym (shown-first rest has)) ∙ so_far

pub shown-end : (text rest new whole : List ℕ) → list_any is_line_end rest ≡ false → text ++ newlines_shown rest ≡ whole → new ≡ text ++ rest → new ≡ whole
shown-end text rest new whole none so_far last = last ∙ ap (λ (l : List ℕ). text ++ l) (sym (shown-none rest none)) ∙ so_far

pub settled-step : (text rest plain after left new newer whole : List ℕ) (byte : ℕ) → list_any is_backslash rest ≡ true → plain ≡ before_first is_backslash rest → after ≡ after_first is_backslash rest
    → text ++ settled rest ≡ whole → new ≡ text ++ plain → newer ≡ new ++ byte ∷ [] → settled (92 ∷ after) ≡ byte ∷ settled left → newer ++ settled left ≡ whole
settled-step text rest plain after left new newer whole byte has front back so_far first second here =
    ap (λ l. l ++ settled left) (second ∙ ap (λ l. l ++ byte ∷ []) first)
    ∙ append_assoc (text ++ plain) (byte ∷ []) (settled left) ∙ append_assoc text plain (byte ∷ settled left)
    ∙ ap (λ (l : List ℕ). text ++ (plain ++ l)) (sym here)
    ∙ ap (λ (l : List ℕ). text ++ l) ((λ i. front i ++ settled (92 ∷ back i)) ∙ sym (settled-first rest has)) ∙ so_far

pub settled-end : (text rest new whole : List ℕ) → list_any is_backslash rest ≡ false → text ++ settled rest ≡ whole → new ≡ text ++ rest → new ≡ whole
settled-end text rest new whole none so_far last = last ∙ ap (λ (l : List ℕ). text ++ l) (sym (settled-none rest none)) ∙ so_far
