-- Words that are read one at a time, where some words of the tool begin with all that was read.
use Rattle.std.proofs.Common.{◌≡◌, ◌<◌, ◌+◌, ◌-◌, ℕ, true, false, Bool, List, [], ◌∷◌, ◌++◌, length, take, refl, sym, ◌∙◌, ap, subst, inl, inr, arith}
use Rattle.std.proofs.Math.Seq.{take-append-add}
use Rattle.std.proofs.lemmas.List.{take_all, append-nil, append_assoc, length-append}
use Rattle.std.specs.Prelude.{Option, Some, None, option_and_then, Result, Ok, Err, MatchResult}
use Rattle.dc_cli.specs.Tools.{Names, IsToolWords, BeginsToolWords, AreRefusedAt, IsToolAnswer}
use Rattle.dc_cli.specs.DatabaseReading.{after, IsStopped}
use Rattle.dc_cli.specs.declared.tool.Tool.{Tool}
use Rattle.dc_cli.specs.declared.tool.ToolError.{ToolError}
use Rattle.dc_cli.specs.declared.tool.ToolError.TheVariants.{OutOfMemory}

-- whether something is seen that ends the words
abbrev pub ends_words : {S : Type 0} → (S → Bool) → Option S → Bool
ends_words ends None = false
ends_words ends (Some seen) = ends seen

-- the words of the tool are those after which something is seen that ends them, and whatever is seen, words lead there
pub record IsReadBy {S : Type 0} (name : List ℕ) (next : S → List ℕ → Option S) (first : S) (ends : S → Bool) : Type 0 where
  pub whole : (words : List (List ℕ)) → IsToolWords (name ∷ words) → ends_words ends (after next (Some first) words) ≡ true
  pub named : (words : List (List ℕ)) → ends_words ends (after next (Some first) words) ≡ true → IsToolWords (name ∷ words)
  pub goes_on : (seen : S) → (more : List (List ℕ)) × (ends_words ends (after next (Some seen) more) ≡ true)

pub after_none : {S : Type 0} (next : S → List ℕ → Option S) (words : List (List ℕ)) → after next None words ≡ None
after_none next [] = refl
after_none next (word ∷ words) = after_none next words

pub after-append : {S : Type 0} (next : S → List ℕ → Option S) (seen : Option S) (words more : List (List ℕ)) → after next seen (words ++ more) ≡ after next (after next seen words) more
after-append next seen [] more = refl
after-append next seen (word ∷ words) more = after-append next (option_and_then (λ s. next s word) seen) words more

-- what was seen of the words before the rest
pub record HasSeen {S : Type 0} (next : S → List ℕ → Option S) (first : S) (words rest : List (List ℕ)) (seen : S) : Type 0 where
  pub done : List (List ℕ)
  pub words_are : words ≡ done ++ rest
  pub seen_is : after next (Some first) done ≡ Some seen

pub seen_more : {S : Type 0} (next : S → List ℕ → Option S) (first : S) (words rest behind : List (List ℕ)) (word : List ℕ) (seen more : S) → HasSeen next first words rest seen
    → rest ≡ word ∷ behind → next seen word ≡ Some more → HasSeen next first words behind more
seen_more next first words rest behind word seen more has is to = record {
  done = has.done ++ word ∷ [];
  words_are = has.words_are ∙ ap (λ ws. has.done ++ ws) is ∙ sym (append_assoc has.done (word ∷ []) behind);
  seen_is = after-append next (Some first) has.done (word ∷ []) ∙ ap (λ s. after next s (word ∷ [])) has.seen_is ∙ to;
}

pub seen_all : {S : Type 0} (next : S → List ℕ → Option S) (first : S) (words rest : List (List ℕ)) (seen : S) → HasSeen next first words rest seen → length rest < 1
    → after next (Some first) words ≡ Some seen
seen_all next first words [] seen has short = ap (after next (Some first)) (has.words_are ∙ append-nil has.done) ∙ has.seen_is
seen_all next first words (word ∷ rest) seen has short = absurd (omega arith)

-- some words of the tool begin with those that were read
begun : {S : Type 0} (name : List ℕ) (next : S → List ℕ → Option S) (first : S) (ends : S → Bool) (words : List (List ℕ)) (seen : S) → IsReadBy name next first ends
    → after next (Some first) words ≡ Some seen → BeginsToolWords (name ∷ words)
begun name next first ends words seen is to = (
  (is.goes_on seen).0,
  is.named (words ++ (is.goes_on seen).0)
      (ap (ends_words ends) (after-append next (Some first) words (is.goes_on seen).0 ∙ ap (λ s. after next s (is.goes_on seen).0) to) ∙ (is.goes_on seen).1),
)

-- and none with those and a word that isn't taken behind them
not_begun : {S : Type 0} (name : List ℕ) (next : S → List ℕ → Option S) (first : S) (ends : S → Bool) (words more : List (List ℕ)) (word : List ℕ) (seen : S) → IsReadBy name next first ends
    → after next (Some first) words ≡ Some seen → next seen word ≡ None → IsToolWords (name ∷ (words ++ word ∷ more)) → ⊥
not_begun name next first ends words more word seen is to none named =
    let lost : after next (Some first) (words ++ word ∷ more) ≡ None =
    after-append next (Some first) words (word ∷ more) ∙ ap (λ s. after next s (word ∷ more)) to ∙ ap (λ s. after next s more) none ∙ after_none next more in
    let wrong : true ≡ false = sym (is.whole (words ++ word ∷ more) named) ∙ ap (ends_words ends) lost in
    cc

-- a word that isn't taken behind those that were read
pub stopped : {S : Type 0} (next : S → List ℕ → Option S) (first : S) (words rest behind : List (List ℕ)) (word : List ℕ) (seen : S)
    → HasSeen next first words rest seen → rest ≡ word ∷ behind → next seen word ≡ None → IsStopped next first words (1 + (length words - length rest))
stopped next first words rest behind word seen has first_is none = record {
  done = has.done;
  word = word;
  behind = behind;
  seen = seen;
  words_are = has.words_are ∙ ap (λ ws. has.done ++ ws) first_is;
  place_is = let long : length words ≡ length (has.done ++ rest) = ap length has.words_are in omega (arith, length-append has.done rest);
  seen_is = has.seen_is;
  not_taken = none;
}

pub refused_word : {S : Type 0} (name : List ℕ) (next : S → List ℕ → Option S) (first : S) (ends : S → Bool) (words : List (List ℕ)) (place : ℕ)
    → IsReadBy name next first ends → IsStopped next first words place → AreRefusedAt (name ∷ words) place
refused_word name next first ends words place is at =
    subst (AreRefusedAt (name ∷ words)) (sym at.place_is) (subst (λ (ws : List (List ℕ)). AreRefusedAt (name ∷ ws) (1 + length at.done)) (sym at.words_are) refused) where
      front : (n : ℕ) → take (1 + length at.done + n) (name ∷ (at.done ++ at.word ∷ at.behind)) ≡ name ∷ (at.done ++ take n (at.word ∷ at.behind))
      front n = ap (λ m. take (m + n) (name ∷ (at.done ++ at.word ∷ at.behind))) (omega arith) ∙ take-append-add (name ∷ at.done) (at.word ∷ at.behind) n

      before : take (1 + length at.done) (name ∷ (at.done ++ at.word ∷ at.behind)) ≡ name ∷ at.done
      before = ap (λ n. take n (name ∷ (at.done ++ at.word ∷ at.behind))) (omega arith) ∙ front 0 ∙ ap (λ ws. name ∷ ws) (append-nil at.done)

      with : take (1 + length at.done + 1) (name ∷ (at.done ++ at.word ∷ at.behind)) ≡ name ∷ (at.done ++ at.word ∷ [])
      with = front 1

      refused : AreRefusedAt (name ∷ (at.done ++ at.word ∷ at.behind)) (1 + length at.done)
      refused = record {
        refused = not_begun name next first ends at.done at.behind at.word at.seen is at.seen_is at.not_taken;
        within = omega (arith, length-append at.done (at.word ∷ at.behind));
        begins = subst BeginsToolWords (sym before) (begun name next first ends at.done at.seen is at.seen_is);
        ends = inr (λ b. not_begun name next first ends at.done b.0 at.word at.seen is at.seen_is at.not_taken
            (subst IsToolWords (ap (λ ws. ws ++ b.0) with ∙ ap (λ ws. name ∷ ws) (append_assoc at.done (at.word ∷ []) b.0)) b.1));
      }

-- no word is refused, and one is missing
pub refused_end : {S : Type 0} (name : List ℕ) (next : S → List ℕ → Option S) (first : S) (ends : S → Bool) (words : List (List ℕ)) (seen : S) → IsReadBy name next first ends
    → after next (Some first) words ≡ Some seen → ends seen ≡ false → AreRefusedAt (name ∷ words) (1 + length words)
refused_end name next first ends words seen is to missing = record {
  refused = λ named. let wrong : true ≡ false = sym (is.whole words named) ∙ ap (ends_words ends) to ∙ missing in cc;
  within = omega arith;
  begins = subst BeginsToolWords (sym (take_all (1 + length words) (name ∷ words) (omega arith))) (begun name next first ends words seen is to);
  ends = inl (omega arith);
}

-- no word is refused, and none is missing
pub answer_named : (name : List ℕ) (words : List (List ℕ)) (result : Result Tool ToolError) → IsToolWords (name ∷ words)
    → MatchResult result (Names (name ∷ words)) (λ error. error ≡ OutOfMemory) → IsToolAnswer (name ∷ words) result
answer_named name words (Ok tool) named by = by
answer_named name words (Err error) named by = subst (λ (e : ToolError). IsToolAnswer (name ∷ words) (Err e)) (sym by) named
