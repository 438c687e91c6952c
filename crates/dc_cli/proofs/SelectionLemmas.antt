-- The words behind `set-selections` and `get-selections`: which of them name these tools.
use Rattle.std.proofs.Common.{◌≡◌, ◌≤◌, ℕ, Bool, true, false, List, [], ◌∷◌, length, map as each, refl, sym, ◌∙◌, ap, inr, arith}
use Rattle.std.specs.Prelude.{◌==◌, Option, None, Some, Ok, option_and_then, codes}
use Rattle.std.proofs.lemmas.Bool.Decides.{nat_tests}
use Rattle.std.specs.List.{filter}
use Rattle.std.specs.Cmp.Lexicographic.{other_text}
use Rattle.dc_cli.specs.DatabaseReading.{after, nothing_selected, selection_with, selection_next, is_selections}
use Rattle.dc_cli.specs.SelectionWords.{selection_option, is_verbose, is_check, is_unseen, IsGiven, NamesSelections}
use Rattle.dc_cli.specs.Tools.{Names, IsToolWords, AreRefusedAt, IsToolAnswer}
use Rattle.dc_cli.specs.declared.selection_words.SelectionOption.{SelectionOption}
use Rattle.dc_cli.specs.declared.selection_words.SelectionOption.TheVariants.{Verbose, Check, Unseen}
use Rattle.dc_cli.specs.declared.selection_words.SelectionSeen.{SelectionSeen}
use Rattle.dc_cli.specs.declared.tool.Tool.{Tool}
use Rattle.dc_cli.specs.declared.tool.Tool.TheVariants.{SetSelections, GetSelections}
use Rattle.dc_cli.proofs.ReadingLemmas.{ends_words, IsReadBy, after_none}
use Rattle.dc_cli.proofs.ToolLemmas.{word_of, some_words}

-- an option that was given or not, and these times more
abbrev IsGivenMore : Bool → List SelectionOption → Bool → Type 0
IsGivenMore given [] then = then ≡ given
IsGivenMore given (option ∷ []) then = (given ≡ false) × (then ≡ true)
IsGivenMore given (option ∷ other ∷ options) then = ⊥

given_all : (options : List SelectionOption) (then : Bool) → IsGivenMore false options then → IsGiven options then
given_all [] then is = is
given_all (option ∷ []) then is = is.1
given_all (option ∷ other ∷ options) then is = is

given_none : (options : List SelectionOption) (then : Bool) → IsGiven options then → IsGivenMore false options then
given_none [] then is = is
given_none (option ∷ []) then is = (refl, is)
given_none (option ∷ other ∷ options) then is = is

given_first : (option : SelectionOption) (options : List SelectionOption) (then : Bool) → IsGivenMore true options then → IsGivenMore false (option ∷ options) then
given_first option [] then is = (refl, is)
given_first option (other ∷ []) then is = absurd (let wrong : true ≡ false = is.0 in cc)
given_first option (other ∷ more ∷ options) then is = is

given_rest : (given : Bool) (option : SelectionOption) (options : List SelectionOption) (then : Bool) → IsGivenMore given (option ∷ options) then → (given ≡ false) × IsGivenMore true options then
given_rest given option [] then is = is
given_rest given option (other ∷ options) then is = absurd is

-- what was seen first and then, and the options between
record AreBetween (words : List (List ℕ)) (first then : SelectionSeen) : Type 0 where
  options : List SelectionOption
  words_are : each selection_option words ≡ each Some options
  verbose : IsGivenMore first.verbose (filter is_verbose options) then.verbose
  check : IsGivenMore first.check (filter is_check options) then.check
  unseen : IsGivenMore first.unseen (filter is_unseen options) then.unseen

none_seen : (words : List (List ℕ)) (then : SelectionSeen) → after selection_next None words ≡ Some then → ⊥
none_seen words then to = let wrong : None ≡ Some then = sym (after_none selection_next words) ∙ to in cc

-- one more option in front of those between
one_more : (word : List ℕ) (words : List (List ℕ)) (then : SelectionSeen) → ((first : SelectionSeen) → after selection_next (Some first) words ≡ Some then → AreBetween words first then)
    → (verbose check unseen : Bool) (option : SelectionOption) → selection_option word ≡ Some option
    → after selection_next (selection_with (record { verbose = verbose; check = check; unseen = unseen }) option) words ≡ Some then → AreBetween (word ∷ words) (record { verbose = verbose; check = check; unseen = unseen }) then
one_more word words then go true check unseen Verbose is to = absurd (none_seen words then to)
one_more word words then go false check unseen Verbose is to =
    let rest = go (record { verbose = true; check = check; unseen = unseen }) to in
    record { options = Verbose ∷ rest.options; words_are = λ i. is i ∷ rest.words_are i; verbose = given_first Verbose (filter is_verbose rest.options) then.verbose rest.verbose; check = rest.check; unseen = rest.unseen }
one_more word words then go verbose true unseen Check is to = absurd (none_seen words then to)
one_more word words then go verbose false unseen Check is to =
    let rest = go (record { verbose = verbose; check = true; unseen = unseen }) to in
    record { options = Check ∷ rest.options; words_are = λ i. is i ∷ rest.words_are i; verbose = rest.verbose; check = given_first Check (filter is_check rest.options) then.check rest.check; unseen = rest.unseen }
one_more word words then go verbose check true Unseen is to = absurd (none_seen words then to)
one_more word words then go verbose check false Unseen is to =
    let rest = go (record { verbose = verbose; check = check; unseen = true }) to in
    record { options = Unseen ∷ rest.options; words_are = λ i. is i ∷ rest.words_are i; verbose = rest.verbose; check = rest.check; unseen = given_first Unseen (filter is_unseen rest.options) then.unseen rest.unseen }

one_word : (word : List ℕ) (words : List (List ℕ)) (first then : SelectionSeen) → ((first : SelectionSeen) → after selection_next (Some first) words ≡ Some then → AreBetween words first then)
    → (found : Option SelectionOption) → selection_option word ≡ found → after selection_next (option_and_then (selection_with first) found) words ≡ Some then → AreBetween (word ∷ words) first then
one_word word words first then go None is to = absurd (none_seen words then to)
one_word word words first then go (Some option) is to = one_more word words then go first.verbose first.check first.unseen option is to

between : (words : List (List ℕ)) (first then : SelectionSeen) → after selection_next (Some first) words ≡ Some then → AreBetween words first then
between [] first then to =
    let same : first ≡ then = cc in
    record { options = []; words_are = refl; verbose = ap (λ (s : SelectionSeen). s.verbose) (sym same); check = ap (λ (s : SelectionSeen). s.check) (sym same); unseen = ap (λ (s : SelectionSeen). s.unseen) (sym same) }
between (word ∷ words) first then to = one_word word words first then (λ (f : SelectionSeen) (t : after selection_next (Some f) words ≡ Some then). between words f then t) (selection_option word) refl to

-- the options between lead from the one to the other
abbrev Leads : List (List ℕ) → List SelectionOption → Bool → Bool → Bool → Type 0
Leads words options v c u = (verbose check unseen : Bool) → IsGivenMore verbose (filter is_verbose options) v → IsGivenMore check (filter is_check options) c → IsGivenMore unseen (filter is_unseen options) u
    → after selection_next (Some (record { verbose = verbose; check = check; unseen = unseen })) words ≡ Some (record { verbose = v; check = c; unseen = u })

leads_on : (word : List ℕ) (words : List (List ℕ)) (option : SelectionOption) (options : List SelectionOption) (v c u : Bool) → selection_option word ≡ Some option → Leads words options v c u → Leads (word ∷ words) (option ∷ options) v c u
leads_on word words Verbose options v c u is leads verbose check unseen by_v by_c by_u =
    let more = given_rest verbose Verbose (filter is_verbose options) v by_v in
    ap (λ (found : Option SelectionOption). after selection_next (option_and_then (selection_with (record { verbose = verbose; check = check; unseen = unseen })) found) words) is
    ∙ ap (λ (b : Bool). after selection_next (selection_with (record { verbose = b; check = check; unseen = unseen }) Verbose) words) more.0 ∙ leads true check unseen more.1 by_c by_u
leads_on word words Check options v c u is leads verbose check unseen by_v by_c by_u =
    let more = given_rest check Check (filter is_check options) c by_c in
    ap (λ (found : Option SelectionOption). after selection_next (option_and_then (selection_with (record { verbose = verbose; check = check; unseen = unseen })) found) words) is
    ∙ ap (λ (b : Bool). after selection_next (selection_with (record { verbose = verbose; check = b; unseen = unseen }) Check) words) more.0 ∙ leads verbose true unseen by_v more.1 by_u
leads_on word words Unseen options v c u is leads verbose check unseen by_v by_c by_u =
    let more = given_rest unseen Unseen (filter is_unseen options) u by_u in
    ap (λ (found : Option SelectionOption). after selection_next (option_and_then (selection_with (record { verbose = verbose; check = check; unseen = unseen })) found) words) is
    ∙ ap (λ (b : Bool). after selection_next (selection_with (record { verbose = verbose; check = check; unseen = b }) Unseen) words) more.0 ∙ leads verbose check true by_v by_c more.1

seen_between : (words : List (List ℕ)) (options : List SelectionOption) (v c u : Bool) → each selection_option words ≡ each Some options → Leads words options v c u
seen_between [] [] v c u are verbose check unseen by_v by_c by_u = λ i. Some (record { verbose = sym by_v i; check = sym by_c i; unseen = sym by_u i })
seen_between [] (option ∷ options) v c u are verbose check unseen by_v by_c by_u = absurd (let wrong : [] ≡ Some option ∷ each Some options = are in cc)
seen_between (word ∷ words) [] v c u are verbose check unseen by_v by_c by_u = absurd (let wrong : selection_option word ∷ each selection_option words ≡ [] = are in cc)
seen_between (word ∷ words) (option ∷ options) v c u are verbose check unseen by_v by_c by_u =
    let first : selection_option word ≡ Some option = cc in
    let rest : each selection_option words ≡ each Some options = cc in
    leads_on word words option options v c u first (seen_between words options v c u rest) verbose check unseen by_v by_c by_u

-- ---- which words name the tool

pub selections_named : (words : List (List ℕ)) (seen : SelectionSeen) → after selection_next (Some nothing_selected) words ≡ Some seen → Names (codes "set-selections" ∷ words) (SetSelections seen.verbose seen.check seen.unseen)
selections_named words seen to =
    let are = between words nothing_selected seen to in (
      refl,
      record {
        options = are.options;
        words_are = are.words_are;
        verbose_is = given_all (filter is_verbose are.options) seen.verbose are.verbose;
        check_is = given_all (filter is_check are.options) seen.check are.check;
        unseen_is = given_all (filter is_unseen are.options) seen.unseen are.unseen;
      },
    )

seen_of : (words : List (List ℕ)) (verbose check unseen : Bool) → NamesSelections words verbose check unseen
    → after selection_next (Some nothing_selected) words ≡ Some (record { verbose = verbose; check = check; unseen = unseen })
seen_of words verbose check unseen are =
    seen_between words are.options verbose check unseen are.words_are false false false (given_none (filter is_verbose are.options) verbose are.verbose_is)
    (given_none (filter is_check are.options) check are.check_is) (given_none (filter is_unseen are.options) unseen are.unseen_is)

selections_by : (words : List (List ℕ)) (tool : Tool) → Names (codes "set-selections" ∷ words) tool → ends_words is_selections (after selection_next (Some nothing_selected) words) ≡ true
selections_by words (SetSelections verbose check unseen) named = ap (ends_words is_selections) (seen_of words verbose check unseen named.1)
selections_by words other named = absurd (other_text (codes "set-selections") (word_of other) refl named.0)

selections_found : (words : List (List ℕ)) (seen : Option SelectionSeen) → after selection_next (Some nothing_selected) words ≡ seen → ends_words is_selections seen ≡ true → IsToolWords (codes "set-selections" ∷ words)
selections_found words None to ends = cc
selections_found words (Some seen) to ends = (SetSelections seen.verbose seen.check seen.unseen, selections_named words seen to)

pub read_selected : IsReadBy (codes "set-selections") selection_next nothing_selected is_selections
read_selected = record {
  whole = λ words is. selections_by words is.0 is.1;
  named = λ words ends. selections_found words (after selection_next (Some nothing_selected) words) refl ends;
  goes_on = λ seen. ([], refl);
}

-- they name one tool
pub one_selection : (words : List (List ℕ)) (verbose check unseen v c u : Bool) → NamesSelections words verbose check unseen → NamesSelections words v c u → SetSelections verbose check unseen ≡ SetSelections v c u
one_selection words verbose check unseen v c u a b =
    let same : Some (record { verbose = verbose; check = check; unseen = unseen }) ≡ Some (record { verbose = v; check = c; unseen = u }) = sym (seen_of words verbose check unseen a) ∙ seen_of words v c u b in
    ap (λ (s : Option SelectionSeen). told s) same where
      told : Option SelectionSeen → Tool
      told None = SetSelections verbose check unseen
      told (Some s) = SetSelections s.verbose s.check s.unseen

-- ---- the words behind `get-selections`

none_by : (words : List (List ℕ)) (tool : Tool) → Names (codes "get-selections" ∷ words) tool → words ≡ []
none_by words GetSelections named = named.1
none_by words other named = absurd (other_text (codes "get-selections") (word_of other) refl named.0)

-- nothing stands behind it
none_behind : (words : List (List ℕ)) → IsToolWords (codes "get-selections" ∷ words) → words ≡ []
none_behind words is = none_by words is.0 is.1

get_alone : IsToolWords (codes "get-selections" ∷ [])
get_alone = (GetSelections, (refl, refl))

is_none : (n : ℕ) (none : Bool) → none ≡ (n == 0) → none ≡ true → n ≡ 0
is_none n none is empty = tested n (sym is ∙ empty) where
  tested : (n : ℕ) → (n == 0) ≡ true → n ≡ 0
  tested n e = grind (arith, nat_tests)

is_some_words : (n : ℕ) (none : Bool) → none ≡ (n == 0) → none ≡ false → 1 ≤ n
is_some_words n none is not = tested n (sym is ∙ not) where
  tested : (n : ℕ) → (n == 0) ≡ false → 1 ≤ n
  tested n e = grind (arith, nat_tests)

pub get_taken : (words : List (List ℕ)) (none : Bool) → none ≡ (length words == 0) → none ≡ true → IsToolAnswer (codes "get-selections" ∷ words) (Ok GetSelections)
get_taken [] none is empty = (refl, refl)
get_taken (word ∷ words) none is empty = let long : length (word ∷ words) ≡ 0 = is_none (length (word ∷ words)) none is empty in absurd (omega (arith, long))

pub get_refused : (words : List (List ℕ)) (none : Bool) → none ≡ (length words == 0) → none ≡ false → AreRefusedAt (codes "get-selections" ∷ words) 1
get_refused [] none is not = let short : 1 ≤ 0 = is_some_words 0 none is not in absurd (omega (arith, short))
get_refused (word ∷ words) none is not = record {
  refused = λ h. some_words word words (none_behind (word ∷ words) h);
  within = omega arith;
  begins = ([], get_alone);
  ends = inr (λ b. some_words word b.0 (none_behind (word ∷ b.0) b.1));
}
