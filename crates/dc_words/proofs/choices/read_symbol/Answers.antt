use Rattle.std.proofs.Common.{◌≡◌, ℕ, ◌-◌, ◌<◌, Bool, true, false, List, length, get_or, take, drop, refl, sym, ap, ◌∙◌, ◌∷◌, arith}
use Rattle.std.specs.Prelude.{◌&&◌, ◌==◌}
use Rattle.std.proofs.lemmas.Bool.Decides.{nat_tests}
use Rattle.dc_words.specs.Choices.{is_gap, spells_next, gap_next}
use Rattle.dc_text.proofs.LineLemmas.{head_apart}
use Rattle.dc_words.proofs.ChoiceLemmas.{says_spelled, says_parted, says_plain, drop_front-shorter}
use Rattle.dc_words.proofs.choices.read_symbol.Goals as goal
use Rattle.dc_words.proofs.choices.read_symbol.Goals.{else-first-eq92-via-then-first-eq92+else-spells_next, else-first-eq92-via-else-first-eq92, else-first-eq44-via-then-first-eq44+else-gap_next, else-first-eq44-via-else-first-eq44}

-- a text with this first byte
headed : (text : List ℕ) (b : ℕ) → 0 < length text → get_or text 0 0 ≡ b → text ≡ b ∷ take (length text - 1) (drop 1 text)
headed text b h e = head_apart text h ∙ ap (λ a. a ∷ take (length text - 1) (drop 1 text)) e

rest_shorter : (text : List ℕ) → 0 < length text → length (take (length text - 1) (drop 1 text)) < length text
rest_shorter text h = let e : length text ≡ length (get_or text 0 0 ∷ take (length text - 1) (drop 1 text)) = ap length (head_apart text h) in omega arith

not_both : (a b : Bool) → b ≡ false → (a && b) ≡ false
not_both true b e = e
not_both false b e = refl

not_first : (a b : Bool) → a ≡ false → (a && b) ≡ false
not_first true b e = absurd (cc)
not_first false b e = refl

other : (a b : ℕ) → (a ≡ b → ⊥) → (a == b) ≡ false
other a b h = grind (arith, nat_tests)

pub returns-then-spells_next-clause-says : goal.returns-then-spells_next-clause-says
returns-then-spells_next-clause-says c = says_spelled _ _ (headed c.args.text.now 92 c.requires c.if-first-eq92.true) (sym c.spells_next.ensures ∙ c.if-spells_next.true)

pub returns-then-gap_next-clause-says : goal.returns-then-gap_next-clause-says
returns-then-gap_next-clause-says c = rw c.without_gap.ensures.value (says_parted _ _ (headed c.args.text.now 44 c.requires c.if-first-eq44.true) (sym c.gap_next.ensures ∙ c.if-gap_next.true))

pub returns-then-gap_next-clause-shorter : goal.returns-then-gap_next-clause-shorter
returns-then-gap_next-clause-shorter c =
    rw c.without_gap.ensures.value (omega (arith, drop_front-shorter is_gap (take (length c.args.text.now - 1) (drop 1 c.args.text.now)), rest_shorter c.args.text.now c.requires))

pub returns-else-first-eq44-clause-says : goal.returns-else-first-eq44-clause-says
returns-else-first-eq44-clause-says c =
    let first : ℕ = get_or c.args.text.now 0 0 in
    let rest : List ℕ = take (length c.args.text.now - 1) (drop 1 c.args.text.now) in
    says_plain c.args.text.now rest first (head_apart c.args.text.now c.requires)
    (elim c.else-first-eq92.branch [
      | else-first-eq92-via-then-first-eq92+else-spells_next w ↦ not_both (first == 92) (spells_next rest) (sym w.spells_next.ensures ∙ w.if-spells_next.false)
      | else-first-eq92-via-else-first-eq92 w ↦ not_first (first == 92) (spells_next rest) (other first 92 w.if-first-eq92.false)
    ])
    (elim c.else-first-eq44.branch [
      | else-first-eq44-via-then-first-eq44+else-gap_next w ↦ not_both (first == 44) (gap_next rest) (sym w.gap_next.ensures ∙ w.if-gap_next.false)
      | else-first-eq44-via-else-first-eq44 w ↦ not_first (first == 44) (gap_next rest) (other first 44 w.if-first-eq44.false)
    ])
