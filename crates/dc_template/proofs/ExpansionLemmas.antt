-- References in a text, one after another.
use Rattle.std.proofs.Common.{◌≡◌, ℕ, ◌+◌, ◌-◌, ◌<◌, take, drop, Bool, true, false, cond, not, ◌&&◌, List, [], ◌∷◌, ◌++◌, length, refl, sym, ap, ◌∙◌, arith, append_assoc}
use Rattle.std.specs.Prelude.{◌==◌}
use Rattle.std.specs.List.{position_or_len, prefix_len}
use Rattle.std.proofs.lemmas.List.{append-nil, take_at}
use Rattle.dc_text.specs.Maps.{Texts}
use Rattle.dc_text.proofs.LineLemmas.{to_end}
use Rattle.dc_template.specs.Expansion.{opens, closes, up_to_brace, behind_opening, variable_or_nothing, expanded_from, expanded}
use Rattle.dc_template.proofs.TestLemmas.{both, neither, and-false, or-true, list_any-append}

-- ---- a text and a brace behind it

opens-brace : (front after : List ℕ) → opens (front ++ 125 ∷ after) ≡ opens front
opens-brace [] [] = refl
opens-brace [] (b ∷ after) = refl
opens-brace (b ∷ []) after = and-false (b == 36)
opens-brace (b ∷ c ∷ front) after = refl

closes-brace : (front after : List ℕ) → closes (front ++ 125 ∷ after) ≡ true
closes-brace front after = list_any-append (λ b. b == 125) front (125 ∷ after) ∙ or-true (closes front)

brace_place : (front after : List ℕ) → closes front ≡ false → position_or_len (λ b. b == 125) (front ++ 125 ∷ after) ≡ length front
brace_place [] after h = refl
brace_place (b ∷ front) after h =
    let p : ((b == 125) ≡ false) × (closes front ≡ false) = neither (b == 125) (closes front) h in
    ap (λ t. cond (not t) (1 + prefix_len (λ c. not (c == 125)) (front ++ 125 ∷ after)) 0) p.0 ∙ ap (λ n. 1 + n) (brace_place front after p.1) ∙ (omega arith)

up_to_brace-at : (front after : List ℕ) → closes front ≡ false → up_to_brace (front ++ 125 ∷ after) ≡ front
up_to_brace-at front after h = take_at front (125 ∷ after) (position_or_len (λ b. b == 125) (front ++ 125 ∷ after)) (sym (brace_place front after h))

behind_opening-brace : (front after : List ℕ) → opens front ≡ true → behind_opening (front ++ 125 ∷ after) ≡ behind_opening front ++ 125 ∷ after
behind_opening-brace [] after e = absurd (cc)
behind_opening-brace (b ∷ []) after e = absurd (cc)
behind_opening-brace (b ∷ c ∷ front) after e = refl

closes-behind : (front : List ℕ) → opens front ≡ true → closes front ≡ false → closes (behind_opening front) ≡ false
closes-behind [] e h = absurd (cc)
closes-behind (b ∷ []) e h = absurd (cc)
closes-behind (b ∷ c ∷ front) e h = (neither (c == 125) (closes front) (neither (b == 125) (closes (c ∷ front)) h).1).1

module _ (v : Texts (List ℕ)) where
  -- the bytes of a reference are passed over
  skipped : (front after : List ℕ) → closes front ≡ false → expanded_from v true (front ++ 125 ∷ after) ≡ expanded v after
  skipped [] after h = refl
  skipped (b ∷ front) after h =
      let p : ((b == 125) ≡ false) × (closes front ≡ false) = neither (b == 125) (closes front) h in
      ap (λ t. expanded_from v (not t) (front ++ 125 ∷ after)) p.0 ∙ skipped front after p.1

  chosen : (b : ℕ) (bytes : List ℕ) (opened closed quoted : Bool) → Type 0
  chosen b bytes opened closed quoted =
      expanded v (b ∷ bytes) ≡ cond (opened && closed) (variable_or_nothing v (up_to_brace (behind_opening (b ∷ bytes))) ++ expanded_from v true bytes)
      (cond (b == 92 && (quoted && closed)) (up_to_brace bytes ++ 125 ∷ expanded_from v true bytes) (b ∷ expanded v bytes))

  by_tests : (b : ℕ) (bytes : List ℕ) (opened closed quoted : Bool) → opens (b ∷ bytes) ≡ opened → closes bytes ≡ closed → opens bytes ≡ quoted → chosen b bytes opened closed quoted
  unfolding chosen
  by_tests b bytes opened closed quoted p q r = λ i. cond (p i && q i) (variable_or_nothing v (up_to_brace (behind_opening (b ∷ bytes))) ++ expanded_from v true bytes)
      (cond (b == 92 && (r i && q i)) (up_to_brace bytes ++ 125 ∷ expanded_from v true bytes) (b ∷ expanded v bytes))

  -- a reference
  pub variable : (front after : List ℕ) → opens front ≡ true → closes front ≡ false → expanded v (front ++ 125 ∷ after) ≡ variable_or_nothing v (behind_opening front) ++ expanded v after
  unfolding chosen
  variable [] after e h = absurd (cc)
  variable (b ∷ front) after e h =
      let free : closes front ≡ false = (neither (b == 125) (closes front) h).1 in
      by_tests b (front ++ 125 ∷ after) true true (opens front) (opens-brace (b ∷ front) after ∙ e) (closes-brace front after) (opens-brace front after)
      ∙ (λ i. variable_or_nothing v (up_to_brace (behind_opening-brace (b ∷ front) after e i)) ++ skipped front after free i)
      ∙ ap (λ k. variable_or_nothing v k ++ expanded v after) (up_to_brace-at (behind_opening (b ∷ front)) after (closes-behind (b ∷ front) e h))

  -- a reference behind a backslash
  pub quoted : (front after : List ℕ) → opens front ≡ true → closes front ≡ false → expanded v (92 ∷ front ++ 125 ∷ after) ≡ front ++ 125 ∷ expanded v after
  unfolding chosen
  quoted front after e h =
      by_tests 92 (front ++ 125 ∷ after) false true true (no_opening (front ++ 125 ∷ after)) (closes-brace front after) (opens-brace front after ∙ e)
      ∙ (λ i. up_to_brace-at front after h i ++ 125 ∷ skipped front after h i) where
        no_opening : (bytes : List ℕ) → opens (92 ∷ bytes) ≡ false
        no_opening [] = refl
        no_opening (b ∷ bytes) = refl

  -- any other byte
  pub other : (b : ℕ) (bytes : List ℕ) → opens (b ∷ bytes) ≡ false → (b == 92 && opens bytes) ≡ false → expanded v (b ∷ bytes) ≡ b ∷ expanded v bytes
  unfolding chosen
  other b bytes e f = by_tests b bytes false (closes bytes) (opens bytes) e refl refl ∙ ap (λ t. cond t (up_to_brace bytes ++ 125 ∷ expanded_from v true bytes) (b ∷ expanded v bytes)) (behind (b == 92) (opens bytes) (closes bytes) f) where
    behind : (a c d : Bool) → (a && c) ≡ false → (a && (c && d)) ≡ false
    behind true c d g = ap (λ t. t && d) g
    behind false c d g = refl

  -- without a brace all bytes stay
  pub unclosed : (text : List ℕ) → closes text ≡ false → expanded v text ≡ text
  unfolding chosen
  unclosed [] h = refl
  unclosed (b ∷ text) h =
      let free : closes text ≡ false = (neither (b == 125) (closes text) h).1 in
      by_tests b text (opens (b ∷ text)) false (opens text) refl free refl
      ∙ (λ i. cond (and-false (opens (b ∷ text)) i) (variable_or_nothing v (up_to_brace (behind_opening (b ∷ text))) ++ expanded_from v true text)
      (cond (b == 92 && and-false (opens text) i) (up_to_brace text ++ 125 ∷ expanded_from v true text) (b ∷ expanded v text)))
      ∙ ap (λ t. cond t (up_to_brace text ++ 125 ∷ expanded_from v true text) (b ∷ expanded v text)) (and-false (b == 92))
      ∙ ap (λ (t : List ℕ). b ∷ t) (unclosed text free)

  other_brace : (b : ℕ) (front after : List ℕ) → opens (b ∷ front) ≡ false → (b == 92 && opens front) ≡ false → expanded v (b ∷ front ++ 125 ∷ after) ≡ b ∷ expanded v (front ++ 125 ∷ after)
  other_brace b front after e f = other b (front ++ 125 ∷ after) (opens-brace (b ∷ front) after ∙ e) (ap (λ t. b == 92 && t) (opens-brace front after) ∙ f)

  is_backslash : (b : ℕ) → (b == 92) ≡ true → b ≡ 92
  is_backslash b e = grind (arith, Rattle.std.proofs.lemmas.Bool.Decides.nat_tests)

  -- a text up to a brace is replaced apart from what follows
  pub parted : (front after : List ℕ) → closes front ≡ false → expanded v (front ++ 125 ∷ after) ≡ expanded v (front ++ 125 ∷ []) ++ expanded v after
  parted [] after h = other 125 after (opens-brace [] after) refl
  parted (b ∷ front) after h =
      let free : closes front ≡ false = (neither (b == 125) (closes front) h).1 in
      elim (opens (b ∷ front)) as (λ t. opens (b ∷ front) ≡ t → expanded v (b ∷ front ++ 125 ∷ after) ≡ expanded v (b ∷ front ++ 125 ∷ []) ++ expanded v after) [
        | true ↦ λ e. variable (b ∷ front) after e h ∙ ap (λ t. t ++ expanded v after) (sym (variable (b ∷ front) [] e h ∙ append-nil (variable_or_nothing v (behind_opening (b ∷ front)))))
        | false ↦ λ e. elim (b == 92 && opens front) as (λ t. (b == 92 && opens front) ≡ t → expanded v (b ∷ front ++ 125 ∷ after) ≡ expanded v (b ∷ front ++ 125 ∷ []) ++ expanded v after) [
          | true ↦ λ f.
              let g : ((b == 92) ≡ true) × (opens front ≡ true) = both (b == 92) (opens front) f in
              let is : b ≡ 92 = is_backslash b g.0 in
              ap (λ c. expanded v (c ∷ front ++ 125 ∷ after)) is ∙ quoted front after g.1 free
              ∙ sym (append_assoc front (125 ∷ []) (expanded v after))
              ∙ ap (λ t. t ++ expanded v after) (sym (ap (λ c. expanded v (c ∷ front ++ 125 ∷ [])) is ∙ quoted front [] g.1 free))
          | false ↦ λ f. other_brace b front after e f ∙ ap (λ (t : List ℕ). b ∷ t) (parted front after free) ∙ ap (λ t. t ++ expanded v after) (sym (other_brace b front [] e f))
        ] refl
      ] refl

  -- ---- turns of the loop over a text up to a brace

  pub variable_end : (rest out target : List ℕ) → opens rest ≡ true → closes rest ≡ false → out ++ expanded v (rest ++ 125 ∷ []) ≡ target → out ++ variable_or_nothing v (behind_opening rest) ≡ target
  variable_end rest out target e h so_far = ap (λ (t : List ℕ). out ++ t) (sym (variable rest [] e h ∙ append-nil (variable_or_nothing v (behind_opening rest)))) ∙ so_far

  pub quoted_end : (rest tail out target : List ℕ) → rest ≡ 92 ∷ tail → opens tail ≡ true → closes rest ≡ false → out ++ expanded v (rest ++ 125 ∷ []) ≡ target → (out ++ tail) ++ 125 ∷ [] ≡ target
  quoted_end rest tail out target is e h so_far =
      let free : closes tail ≡ false = (neither (92 == 125) (closes tail) (ap closes (sym is) ∙ h)).1 in
      append_assoc out tail (125 ∷ []) ∙ ap (λ (t : List ℕ). out ++ t) (sym (ap (λ r. expanded v (r ++ 125 ∷ [])) is ∙ quoted tail [] e free)) ∙ so_far

  pub empty_end : (rest out target : List ℕ) → length rest < 1 → out ++ expanded v (rest ++ 125 ∷ []) ≡ target → out ++ 125 ∷ [] ≡ target
  empty_end [] out target h so_far = so_far
  empty_end (b ∷ rest) out target h so_far = absurd (omega arith)

pub behind_is : (rest : List ℕ) → opens rest ≡ true → behind_opening rest ≡ take (length rest - 2) (drop 2 rest)
behind_is [] e = absurd (cc)
behind_is (b ∷ []) e = absurd (cc)
behind_is (b ∷ c ∷ rest) e = sym (to_end 2 (b ∷ c ∷ rest))
