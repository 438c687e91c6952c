-- The words of a tool that are patterns.
use Rattle.std.proofs.Common.{◌≡◌, Bool, true, false, cond, ◌&&◌, List, [], ◌∷◌, ◌++◌, Option, Some, None, option_to_list, refl, sym, ap, ◌∙◌, subst, inl, inr, arith, append_assoc}
use Rattle.std.specs.Prelude.{nat_le, nat_lt}
use Rattle.std.proofs.lemmas.Bool.Decides.{nat_tests}
use Rattle.std.proofs.lemmas.List.Folds.{list_all-append}
use Rattle.dc_layer.specs.Patterns.{is_pattern, is_plain}
use Rattle.dc_layer.specs.declared.pattern.PatternError.{PatternError}
use Rattle.dc_layer.specs.declared.pattern.PatternError.TheVariants.{Bad, TooLarge, OutOfMemory}
use Rattle.dc_cli.specs.declared.tool.PlacedWord.{PlacedWord}
use Rattle.dc_run.specs.Ends.{end_of_pattern}
use Rattle.dc_run.specs.Inside.{IsUnbuilt, comes_before}
use Rattle.dc_run.specs.Starting.{are_patterns, in_order}
use Rattle.dc_run.specs.declared.outcome.End.{End}
use Rattle.dc_run.specs.declared.outcome.PatternAt.TheVariants.{Word}

-- ---- the order of two words

by_places : (one other : PlacedWord) (b : Bool) → nat_lt other.place one.place ≡ b → in_order (Some one) (Some other) ≡ cond b (other ∷ one ∷ []) (one ∷ other ∷ [])
by_places one other true is = let later : nat_le one.place other.place ≡ false = grind (arith, nat_tests) in ap (λ t. cond t (one ∷ other ∷ []) (other ∷ one ∷ [])) later
by_places one other false is = let earlier : nat_le one.place other.place ≡ true = grind (arith, nat_tests) in ap (λ t. cond t (one ∷ other ∷ []) (other ∷ one ∷ [])) earlier

pub order_kept : (one other : Option PlacedWord) → comes_before other one ≡ false → in_order one other ≡ option_to_list one ++ option_to_list other
order_kept None other is = refl
order_kept (Some one) None is = refl
order_kept (Some one) (Some other) is = by_places one other false is

pub order_turned : (one other : Option PlacedWord) → comes_before other one ≡ true → in_order one other ≡ option_to_list other ++ option_to_list one
order_turned None None is = absurd (cc)
order_turned None (Some other) is = absurd (cc)
order_turned (Some one) None is = absurd (cc)
order_turned (Some one) (Some other) is = by_places one other true is

-- ---- words that are built, one after another

built_more : (words more : List PlacedWord) → are_patterns words ≡ true → are_patterns more ≡ true → are_patterns (words ++ more) ≡ true
built_more words more are too =
    list_all-append (λ pattern. is_pattern false pattern.word) words more ∙ ap (λ t. t && are_patterns more) are ∙ too

pub unbuilt_first : (words more : List PlacedWord) (how : End) → IsUnbuilt words how → IsUnbuilt (words ++ more) how
unbuilt_first words more how (inl e) = inl e
unbuilt_first words more how (inr at) = inr (record {
  error = at.error;
  before = at.before;
  word = at.word;
  after = at.after ++ more;
  end_is = at.end_is;
  words_are = ap (λ (all : List PlacedWord). all ++ more) at.words_are ∙ append_assoc at.before (at.word ∷ at.after) more;
  built = at.built;
  refused = at.refused;
})

pub unbuilt_later : (words more : List PlacedWord) (how : End) → are_patterns words ≡ true → IsUnbuilt more how → IsUnbuilt (words ++ more) how
unbuilt_later words more how are (inl e) = inl e
unbuilt_later words more how are (inr at) = inr (record {
  error = at.error;
  before = words ++ at.before;
  word = at.word;
  after = at.after;
  end_is = at.end_is;
  words_are = ap (λ (all : List PlacedWord). words ++ all) at.words_are ∙ sym (append_assoc words at.before (at.word ∷ at.after));
  built = built_more words at.before are at.built;
  refused = at.refused;
})

-- ---- one word

at_word : (word : PlacedWord) (error : PatternError) → (error ≡ Bad → is_pattern false word.word ≡ false) → (error ≡ TooLarge → (is_plain word.word ≡ false) × (is_pattern false word.word ≡ true))
    → IsUnbuilt (word ∷ []) (end_of_pattern (Word word.place) error)
at_word word Bad bad large =
    inr (record { error = Bad; before = []; word = word; after = []; end_is = refl; words_are = refl; built = refl; refused = bad refl })
at_word word TooLarge bad large =
    inr (record { error = TooLarge; before = []; word = word; after = []; end_is = refl; words_are = refl; built = refl; refused = large refl })
at_word word OutOfMemory bad large = inl refl

-- the word isn't built
pub unbuilt_word : (word : PlacedWord) (error : PatternError) (how : End) → how ≡ end_of_pattern (Word word.place) error → (error ≡ Bad → is_pattern false word.word ≡ false)
    → (error ≡ TooLarge → (is_plain word.word ≡ false) × (is_pattern false word.word ≡ true)) → IsUnbuilt (word ∷ []) how
unbuilt_word word error how is bad large = subst (IsUnbuilt (word ∷ [])) (sym is) (at_word word error bad large)
