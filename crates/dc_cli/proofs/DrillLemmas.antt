-- The words behind `drill`: which of them name it.
use Rattle.std.proofs.Common.{◌≡◌, ◌<◌, ◌≤◌, ℕ, List, [], ◌∷◌, length, get_or, refl, sym, ◌∙◌, ap, subst, inl, inr, arith}
use Rattle.std.specs.Prelude.{Option, None, Some, Ok, codes}
use Rattle.std.specs.Cmp.Lexicographic.{other_text}
use Rattle.dc_cli.specs.SelectionWords.{drill_count, NamesDrill}
use Rattle.dc_cli.specs.Tools.{Names, IsToolWords, AreRefusedAt, IsToolAnswer}
use Rattle.dc_cli.specs.declared.tool.Tool.{Tool}
use Rattle.dc_cli.specs.declared.tool.Tool.TheVariants.{Drill}
use Rattle.dc_cli.proofs.ToolLemmas.{word_of}

drill_by : (words : List (List ℕ)) (tool : Tool) → Names (codes "drill" ∷ words) tool → (count : ℕ) × NamesDrill words count
drill_by words (Drill count) named = (count, named.1)
drill_by words other named = absurd (other_text (codes "drill") (word_of other) refl named.0)

drill_of : (words : List (List ℕ)) → IsToolWords (codes "drill" ∷ words) → (count : ℕ) × NamesDrill words count
drill_of words is = drill_by words is.0 is.1

drill_for : (word : List ℕ) (count : ℕ) → drill_count word ≡ Some count → IsToolWords (codes "drill" ∷ word ∷ [])
drill_for word count is = (Drill count, (refl, is))

pub no_number_refused : (words : List (List ℕ)) → length words < 1 → AreRefusedAt (codes "drill" ∷ words) 1
no_number_refused [] short = record {
  refused = λ h. (drill_of [] h).1;
  within = omega arith;
  begins = (codes "1" ∷ [], drill_for (codes "1") 1 refl);
  ends = inl refl;
}
no_number_refused (word ∷ words) short = absurd (omega arith)

not_drilled : (word : List ℕ) (more : List (List ℕ)) (count : ℕ) → drill_count word ≡ None → NamesDrill (word ∷ more) count → ⊥
not_drilled word [] count none named = let wrong : None ≡ Some count = sym none ∙ named in cc
not_drilled word (other ∷ more) count none named = named

pub number_refused : (words : List (List ℕ)) (word : List ℕ) → 1 ≤ length words → word ≡ get_or words 0 word → drill_count word ≡ None → AreRefusedAt (codes "drill" ∷ words) 1
number_refused [] word long is none = absurd (omega arith)
number_refused (first ∷ words) word long is none =
    let bad : drill_count first ≡ None = ap drill_count (sym is) ∙ none in
    record {
      refused = λ h. not_drilled first words (drill_of (first ∷ words) h).0 bad (drill_of (first ∷ words) h).1;
      within = omega arith;
      begins = (codes "1" ∷ [], drill_for (codes "1") 1 refl);
      ends = inr (λ b. not_drilled first b.0 (drill_of (first ∷ b.0) b.1).0 bad (drill_of (first ∷ b.0) b.1).1);
    }

pub more_refused : (words : List (List ℕ)) (word : List ℕ) (count : ℕ) → 2 ≤ length words → word ≡ get_or words 0 word → drill_count word ≡ Some count → AreRefusedAt (codes "drill" ∷ words) 2
more_refused [] word count long is good = absurd (omega arith)
more_refused (first ∷ []) word count long is good = absurd (omega arith)
more_refused (first ∷ second ∷ words) word count long is good = record {
  refused = λ h. (drill_of (first ∷ second ∷ words) h).1;
  within = omega arith;
  begins = ([], drill_for first count (ap drill_count (sym is) ∙ good));
  ends = inr (λ b. (drill_of (first ∷ second ∷ b.0) b.1).1);
}

pub drilled : (words : List (List ℕ)) (word : List ℕ) (count : ℕ) → 1 ≤ length words → length words ≤ 1 → word ≡ get_or words 0 word → drill_count word ≡ Some count
    → IsToolAnswer (codes "drill" ∷ words) (Ok (Drill count))
drilled [] word count long short is good = absurd (omega arith)
drilled (first ∷ []) word count long short is good = (refl, ap drill_count (sym is) ∙ good)
drilled (first ∷ second ∷ words) word count long short is good = absurd (omega arith)
