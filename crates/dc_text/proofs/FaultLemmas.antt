-- A reader that takes one line after another, as its grammar says, finds the first fault.
use Rattle.std.proofs.Common.{◌≡◌, List, [], ◌∷◌, ◌++◌, Ok, Err, Result, refl, sym, subst, append_assoc, inl, inr}
use Rattle.std.specs.Prelude.{◌⊎◌, MatchResult}
use Rattle.std.proofs.lemmas.List.{append-nil}
use Rattle.dc_text.specs.Faults.{AllStand, IsFirstFault, run, goes_on}

pub not_in_nil : {L : Type 0} (before after : List L) (line : L) → [] ≡ before ++ line ∷ after → ⊥
not_in_nil [] after line e = cc
not_in_nil (b ∷ before) after line e = cc

-- a line of a list is its last line or a line of the others
pub snoc_apart : {L : Type 0} (ls before after : List L) (l line : L) → ls ++ l ∷ [] ≡ before ++ line ∷ after
    → ((before ≡ ls) × (line ≡ l) × (after ≡ [])) ⊎ ((rest : List L) × (ls ≡ before ++ line ∷ rest) × (after ≡ rest ++ l ∷ []))
snoc_apart [] [] after l line e = inl (refl, cc, cc)
snoc_apart [] (b ∷ before) after l line e = absurd (not_in_nil before after line (cc))
snoc_apart (x ∷ ls) [] after l line e = inr (ls, cc, cc)
snoc_apart (x ∷ ls) (b ∷ before) after l line e =
    let tails : ls ++ l ∷ [] ≡ before ++ line ∷ after = cc in
    let heads : x ≡ b = cc in
    elim (snoc_apart ls before after l line tails) as (λ _. ((b ∷ before ≡ x ∷ ls) × (line ≡ l) × (after ≡ [])) ⊎ ((rest : List _) × (x ∷ ls ≡ (b ∷ before) ++ line ∷ rest) × (after ≡ rest ++ l ∷ []))) [
      | inl f ↦ let same : before ≡ ls = f.0 in inl (cc, f.1, f.2)
      | inr f ↦ let same : ls ≡ before ++ line ∷ f.0 = f.1 in inr (f.0, cc, f.2)
    ]

module _ {S L K : Type 0} (step : S → L → List L → Result S (L × K)) (Stands : List L → L → List L → Type 0) (HasFault : List L → L → List L → K → Type 0) (Holds : List L → S → Type 0)
    (taken : (before : List L) (s : S) (l : L) (after : List L) (t : S) → Holds before s → step s l after ≡ Ok t → Stands before l after × Holds (before ++ l ∷ []) t)
    (refused : (before : List L) (s : S) (l : L) (after : List L) (f : L × K) → Holds before s → step s l after ≡ Err f → (f.0 ≡ l) × HasFault before l after f.1) where
  -- each of the lines before stands, where the others follow
  abbrev pub StandBefore : List L → List L → Type 0
  StandBefore before ls = (b more : List L) (l : L) → before ≡ b ++ l ∷ more → Stands b l (more ++ ls)

  -- the reader took all lines, and each stands, or it found the first fault
  abbrev pub Finds : List L → Result S (L × K) → Type 0
  Finds lines r = MatchResult r (λ t. Holds lines t × AllStand Stands lines) (λ f. IsFirstFault Stands HasFault lines f.0 f.1)

  pub run-finds : (ls before : List L) (s : S) → Holds before s → StandBefore before ls → Finds (before ++ ls) (run step ls s)
  run-finds [] before s h none = rw (append-nil before) (h, λ b a l e. subst (Stands b l) (append-nil a) (none b a l e))
  run-finds (l ∷ ls) before s h none =
      elim (step s l ls) as (λ r. step s l ls ≡ r → Finds (before ++ l ∷ ls) (goes_on r (λ t. run step ls t))) [
        | Ok t ↦ λ e.
            let next : Stands before l ls × Holds (before ++ l ∷ []) t = taken before s l ls t h e in
            subst (λ xs. Finds xs (run step ls t)) (append_assoc before (l ∷ []) ls)
            (run-finds ls (before ++ l ∷ []) t next.1 (λ b more m is.
            elim (snoc_apart before b more l m is) as (λ _. Stands b m (more ++ ls)) [
              | inl f ↦ subst (λ xs. Stands b m (xs ++ ls)) (sym f.2) (subst (λ x. Stands b x ls) (sym f.1) (subst (λ xs. Stands xs l ls) (sym f.0) next.0))
              | inr f ↦ subst (λ xs. Stands b m (xs ++ ls)) (sym f.2) (subst (Stands b m) (sym (append_assoc f.0 (l ∷ []) ls)) (none b f.0 m f.1))
            ]))
        | Err f ↦ λ e.
            let bad : (f.0 ≡ l) × HasFault before l ls f.1 = refused before s l ls f h e in
            subst (λ x. IsFirstFault Stands HasFault (before ++ l ∷ ls) x f.1) (sym bad.0) (record { before = before; after = ls; whole = refl; here = bad.1; none = none })
      ] refl

  -- the same, from the first line on
  pub run_finds : (lines : List L) (s : S) → Holds [] s → Finds lines (run step lines s)
  run_finds lines s h = run-finds lines [] s h (λ b more l e. absurd (not_in_nil b more l e))
