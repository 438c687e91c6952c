-- Which lists of words name a tool, and where others are refused.
use Rattle.std.proofs.Common.{◌≡◌, ◌≢◌, ℕ, ◌<◌, ◌≤◌, true, false, get_or, ap, subst, List, [], ◌∷◌, length, refl, sym, ◌∙◌, arith, inl, inr, take, drop, ◌-◌, Bool, length-drop}
use Rattle.std.proofs.lemmas.List.{take_all}
use Rattle.std.proofs.lemmas.Bool.Decides.{nat_tests}
use Rattle.std.specs.Prelude.{◌==◌, codes, Result, Ok, Err, MatchResult}
use Rattle.std.specs.Str.{bytes_eq}
use Rattle.std.specs.Cmp.Lexicographic.{same_text, other_text}
use Rattle.dc_text.specs.Names.{is_name}
use Rattle.dc_cli.specs.Tools.{IsToolWords, NamesOwner, NamesFiles, begins_with_dash, IsCommand, Names, AreRefusedAt, IsToolAnswer}
use Rattle.dc_cli.specs.declared.tool.Tool.{Tool}
use Rattle.dc_cli.specs.declared.tool.Tool.TheVariants.{Communicate, LoadTemplate, Run, Show, CopyDb, SetSelections, GetSelections, Drill, Answer}
use Rattle.dc_cli.specs.declared.tool.ToolError.{ToolError}
use Rattle.dc_cli.specs.declared.tool.ToolError.TheVariants.{OutOfMemory}

-- a tool's own name
abbrev pub word_of : Tool → List ℕ
word_of (Communicate owner) = codes "communicate"
word_of (LoadTemplate owner paths) = codes "loadtemplate"
word_of (Run owner frontend priority command) = codes "run"
word_of (Show database shown) = codes "show"
word_of (CopyDb copy) = codes "copydb"
word_of (SetSelections verbose check unseen) = codes "set-selections"
word_of GetSelections = codes "get-selections"
word_of (Drill count) = codes "drill"
word_of (Answer command) = codes "answer"

-- ---- what each tool takes

owner_by : (words : List (List ℕ)) (tool : Tool) → Names (codes "communicate" ∷ words) tool → (owner : List ℕ) × NamesOwner words owner
owner_by words (Communicate owner) named = (owner, named.1)
owner_by words other named = absurd (other_text (codes "communicate") (word_of other) refl named.0)

-- what stands behind `communicate` names an owner
owner_of : (words : List (List ℕ)) → IsToolWords (codes "communicate" ∷ words) → (owner : List ℕ) × NamesOwner words owner
owner_of words is = owner_by words is.0 is.1

files_by : (words : List (List ℕ)) (tool : Tool) → Names (codes "loadtemplate" ∷ words) tool → (owner : List ℕ) × (paths : List (List ℕ)) × NamesFiles words owner paths
files_by words (LoadTemplate owner paths) named = (owner, paths, named.1)
files_by words other named = absurd (other_text (codes "loadtemplate") (word_of other) refl named.0)

-- what stands behind `loadtemplate` names an owner and files
files_of : (words : List (List ℕ)) → IsToolWords (codes "loadtemplate" ∷ words) → (owner : List ℕ) × (paths : List (List ℕ)) × NamesFiles words owner paths
files_of words is = files_by words is.0 is.1

-- a word that is the name of none
no_tool_by : (word : List ℕ) (words : List (List ℕ)) (tool : Tool) → ((other : Tool) → word ≢ word_of other) → Names (word ∷ words) tool → ⊥
no_tool_by word words (Communicate owner) none named = none (Communicate owner) named.0
no_tool_by word words (LoadTemplate owner paths) none named = none (LoadTemplate owner paths) named.0
no_tool_by word words (Run owner frontend priority command) none named = none (Run owner frontend priority command) named.0
no_tool_by word words (Show database shown) none named = none (Show database shown) named.0
no_tool_by word words (CopyDb copy) none named = none (CopyDb copy) named.0
no_tool_by word words (SetSelections verbose check unseen) none named = none (SetSelections verbose check unseen) named.0
no_tool_by word words GetSelections none named = none GetSelections named.0
no_tool_by word words (Drill count) none named = none (Drill count) named.0
no_tool_by word words (Answer command) none named = none (Answer command) named.0

pub some_words : (word : List ℕ) (words : List (List ℕ)) → word ∷ words ≢ []
some_words word words same = cc

communicate_alone : IsToolWords (codes "communicate" ∷ [])
communicate_alone = (Communicate (codes "unknown"), (refl, refl))

communicate_for : (word : List ℕ) → is_name word ≡ true → IsToolWords (codes "communicate" ∷ word ∷ [])
communicate_for word is = (Communicate word, (refl, (refl, is)))

load_for : (word path : List ℕ) (paths : List (List ℕ)) → is_name word ≡ true → IsToolWords (codes "loadtemplate" ∷ word ∷ path ∷ paths)
load_for word path paths is = (LoadTemplate word (path ∷ paths), (refl, (refl, is, refl, some_words path paths)))

-- ---- the words behind the first

pub rest_all : (words : List (List ℕ)) → take (length words - 1) (drop 1 words) ≡ drop 1 words
rest_all words = take_all (length words - 1) (drop 1 words) (omega (arith, length-drop 1 words))

-- words by the first of them
pub by_first : (rest : List (List ℕ)) (word : List ℕ) → 1 ≤ length rest → word ≡ get_or rest 0 word → rest ≡ word ∷ take (length rest - 1) (drop 1 rest)
by_first [] word long is = absurd (omega arith)
by_first (first ∷ rest) word long is = let all : take (length (first ∷ rest) - 1) (drop 1 (first ∷ rest)) ≡ rest = rest_all (first ∷ rest) in cc

-- what a test of the rest tells of all words
rest_long : (words : List (List ℕ)) → length (take (length words - 1) (drop 1 words)) ≡ length words - 1
rest_long words = ap length (rest_all words) ∙ length-drop 1 words

pub rest_some : (words : List (List ℕ)) (none : Bool) → none ≡ (length (take (length words - 1) (drop 1 words)) == 0) → none ≡ false → 2 ≤ length words
rest_some words none is not = tested (length words) (sym (is ∙ ap (λ n. n == 0) (rest_long words)) ∙ not) where
  tested : (n : ℕ) → ((n - 1) == 0) ≡ false → 2 ≤ n
  tested n e = grind (arith, nat_tests)

pub rest_none : (words : List (List ℕ)) (none : Bool) → none ≡ (length (take (length words - 1) (drop 1 words)) == 0) → none ≡ true → length words ≤ 1
rest_none words none is empty = tested (length words) (sym (is ∙ ap (λ n. n == 0) (rest_long words)) ∙ empty) where
  tested : (n : ℕ) → ((n - 1) == 0) ≡ true → n ≤ 1
  tested n e = grind (arith, nat_tests)

-- ---- the first word

pub none_refused : (words : List (List ℕ)) → length words < 1 → AreRefusedAt words 0
none_refused [] short = record { refused = λ h. h.1; within = omega arith; begins = (codes "communicate" ∷ [], communicate_alone); ends = inl refl }
none_refused (word ∷ words) short = absurd (omega arith)

other_than : (xs ys : List ℕ) → bytes_eq xs ys ≡ false → xs ≢ ys
other_than xs ys e = other_text xs ys (sym e)

-- no tool has this name
pub word_refused : (words : List (List ℕ)) (word : List ℕ) → 1 ≤ length words → word ≡ get_or words 0 word
    → bytes_eq word (codes "communicate") ≡ false → bytes_eq word (codes "loadtemplate") ≡ false → bytes_eq word (codes "run") ≡ false
    → bytes_eq word (codes "show") ≡ false → bytes_eq word (codes "copydb") ≡ false → bytes_eq word (codes "set-selections") ≡ false
    → bytes_eq word (codes "get-selections") ≡ false → bytes_eq word (codes "drill") ≡ false → bytes_eq word (codes "answer") ≡ false
    → AreRefusedAt words 0
word_refused [] word long is one two three four five six seven eight nine = absurd (omega arith)
word_refused (first ∷ words) word long is one two three four five six seven eight nine = record {
  refused = λ h. no_tool_by first words h.0 none h.1;
  within = omega arith;
  begins = (codes "communicate" ∷ [], communicate_alone);
  ends = inr (λ b. no_tool_by first b.0 b.1.0 none b.1.1);
} where
  not_this : (name : List ℕ) → bytes_eq word name ≡ false → first ≢ name
  not_this name e = subst (λ w. w ≢ name) is (other_than word name e)

  none : (tool : Tool) → first ≢ word_of tool
  none (Communicate owner) = not_this (codes "communicate") one
  none (LoadTemplate owner paths) = not_this (codes "loadtemplate") two
  none (Run owner frontend priority command) = not_this (codes "run") three
  none (Show database shown) = not_this (codes "show") four
  none (CopyDb copy) = not_this (codes "copydb") five
  none (SetSelections verbose check unseen) = not_this (codes "set-selections") six
  none GetSelections = not_this (codes "get-selections") seven
  none (Drill count) = not_this (codes "drill") eight
  none (Answer command) = not_this (codes "answer") nine

-- ---- the words behind `communicate`

no_owner : (word : List ℕ) (more : List (List ℕ)) (owner : List ℕ) → is_name word ≡ false → NamesOwner (word ∷ more) owner → ⊥
no_owner word [] owner bad named = let wrong : true ≡ false = sym named.1 ∙ bad in cc
no_owner word (other ∷ more) owner bad named = named

pub owner_refused : (words : List (List ℕ)) (word : List ℕ) → 1 ≤ length words → word ≡ get_or words 0 word → is_name word ≡ false → AreRefusedAt (codes "communicate" ∷ words) 1
owner_refused [] word long is bad = absurd (omega arith)
owner_refused (first ∷ words) word long is bad =
    let no : is_name first ≡ false = ap is_name (sym is) ∙ bad in
    let none : (more : List (List ℕ)) → IsToolWords (codes "communicate" ∷ first ∷ more) → ⊥ = λ more h. no_owner first more (owner_of (first ∷ more) h).0 no (owner_of (first ∷ more) h).1 in
    record {
      refused = none words;
      within = omega arith;
      begins = ([], communicate_alone);
      ends = inr (λ b. none b.0 b.1);
    }

pub third_refused : (words : List (List ℕ)) (word : List ℕ) → 2 ≤ length words → word ≡ get_or words 0 word → is_name word ≡ true → AreRefusedAt (codes "communicate" ∷ words) 2
third_refused [] word long is good = absurd (omega arith)
third_refused (first ∷ []) word long is good = absurd (omega arith)
third_refused (first ∷ second ∷ words) word long is good = record {
  refused = λ h. (owner_of (first ∷ second ∷ words) h).1;
  within = omega arith;
  begins = ([], communicate_for first (ap is_name (sym is) ∙ good));
  ends = inr (λ b. (owner_of (first ∷ second ∷ b.0) b.1).1);
}

communicates : (words : List (List ℕ)) (owner : List ℕ) (result : Result Tool ToolError) → NamesOwner words owner → MatchResult result (λ tool. tool ≡ Communicate owner) (λ error. error ≡ OutOfMemory)
    → IsToolAnswer (codes "communicate" ∷ words) result
communicates words owner (Ok tool) named is = subst (Names (codes "communicate" ∷ words)) (sym is) (refl, named)
communicates words owner (Err error) named is = subst (λ (e : ToolError). IsToolAnswer (codes "communicate" ∷ words) (Err e)) (sym is) (Communicate owner, (refl, named))

pub unowned : (words : List (List ℕ)) (result : Result Tool ToolError) → length words < 1 → MatchResult result (λ tool. tool ≡ Communicate (codes "unknown")) (λ error. error ≡ OutOfMemory)
    → IsToolAnswer (codes "communicate" ∷ words) result
unowned [] result short is = communicates [] (codes "unknown") result refl is
unowned (word ∷ words) result short is = absurd (omega arith)

pub owned : (words : List (List ℕ)) (word owner : List ℕ) (result : Result Tool ToolError) → 1 ≤ length words → length words ≤ 1 → word ≡ get_or words 0 word → is_name word ≡ true → owner ≡ word
    → MatchResult result (λ tool. tool ≡ Communicate owner) (λ error. error ≡ OutOfMemory) → IsToolAnswer (codes "communicate" ∷ words) result
owned [] word owner result long short same is for by = absurd (omega arith)
owned (first ∷ []) word owner result long short same is for by = communicates (first ∷ []) owner result (for ∙ same, ap is_name (sym same) ∙ is) by
owned (first ∷ second ∷ words) word owner result long short same is for by = absurd (omega arith)

-- ---- the words behind `loadtemplate`

pub no_owner_refused : (words : List (List ℕ)) → length words < 1 → AreRefusedAt (codes "loadtemplate" ∷ words) 1
no_owner_refused [] short = record {
  refused = λ h. (files_of [] h).2;
  within = omega arith;
  begins = (codes "a" ∷ codes "a" ∷ [], load_for (codes "a") (codes "a") [] refl);
  ends = inl refl;
}
no_owner_refused (word ∷ words) short = absurd (omega arith)

no_files : (word : List ℕ) (more : List (List ℕ)) → is_name word ≡ false → IsToolWords (codes "loadtemplate" ∷ word ∷ more) → ⊥
no_files word more bad h = let wrong : true ≡ false = sym (files_of (word ∷ more) h).2.1 ∙ bad in cc

pub files_owner_refused : (words : List (List ℕ)) (word : List ℕ) → 1 ≤ length words → word ≡ get_or words 0 word → is_name word ≡ false → AreRefusedAt (codes "loadtemplate" ∷ words) 1
files_owner_refused [] word long is bad = absurd (omega arith)
files_owner_refused (first ∷ words) word long is bad =
    let no : is_name first ≡ false = ap is_name (sym is) ∙ bad in
    record {
      refused = no_files first words no;
      within = omega arith;
      begins = (codes "a" ∷ codes "a" ∷ [], load_for (codes "a") (codes "a") [] refl);
      ends = inr (λ b. no_files first b.0 no b.1);
    }

pub no_file_refused : (words : List (List ℕ)) (word : List ℕ) → 1 ≤ length words → length words ≤ 1 → word ≡ get_or words 0 word → is_name word ≡ true → AreRefusedAt (codes "loadtemplate" ∷ words) 2
no_file_refused [] word long short is good = absurd (omega arith)
no_file_refused (first ∷ []) word long short is good = record {
  refused = λ h. (files_of (first ∷ []) h).2.3 refl;
  within = omega arith;
  begins = (codes "a" ∷ [], load_for first (codes "a") [] (ap is_name (sym is) ∙ good));
  ends = inl refl;
}
no_file_refused (first ∷ second ∷ words) word long short is good = absurd (omega arith)

pub loads : (words : List (List ℕ)) (word owner : List ℕ) (result : Result Tool ToolError) → 2 ≤ length words → word ≡ get_or words 0 word → is_name word ≡ true → owner ≡ word
    → MatchResult result (λ tool. tool ≡ LoadTemplate owner (take (length words - 1) (drop 1 words))) (λ error. error ≡ OutOfMemory) → IsToolAnswer (codes "loadtemplate" ∷ words) result
loads [] word owner result long same is for by = absurd (omega arith)
loads (first ∷ []) word owner result long same is for by = absurd (omega arith)
loads (first ∷ second ∷ words) word owner (Ok tool) long same is for by =
    subst (Names (codes "loadtemplate" ∷ first ∷ second ∷ words)) (sym (by ∙ ap (LoadTemplate owner) (rest_all (first ∷ second ∷ words))))
    (refl, (for ∙ same, ap is_name (sym same) ∙ is, refl, some_words second words))
loads (first ∷ second ∷ words) word owner (Err error) long same is for by =
    subst (λ (e : ToolError). IsToolAnswer (codes "loadtemplate" ∷ first ∷ second ∷ words) (Err e)) (sym by) (load_for first second words (ap is_name (sym same) ∙ is))

-- ---- the words behind `answer`

command_by : (words : List (List ℕ)) (tool : Tool) → Names (codes "answer" ∷ words) tool → IsCommand words
command_by words (Answer command) named = named.2
command_by words other named = absurd (other_text (codes "answer") (word_of other) refl named.0)

-- what stands behind `answer` is a command
command_of : (words : List (List ℕ)) → IsToolWords (codes "answer" ∷ words) → IsCommand words
command_of words is = command_by words is.0 is.1

pub no_command_refused : (words : List (List ℕ)) → length words < 1 → AreRefusedAt (codes "answer" ∷ words) 1
no_command_refused [] short = record {
  refused = command_of [];
  within = omega arith;
  begins = (codes "s" ∷ [], (Answer (codes "s" ∷ []), (refl, refl, refl)));
  ends = inl refl;
}
no_command_refused (word ∷ words) short = absurd (omega arith)

pub dash_refused : (words : List (List ℕ)) (word : List ℕ) → 1 ≤ length words → word ≡ get_or words 0 word → begins_with_dash word ≡ true → AreRefusedAt (codes "answer" ∷ words) 1
dash_refused [] word long is dash = absurd (omega arith)
dash_refused (first ∷ words) word long is dash = record {
  refused = none words;
  within = omega arith;
  begins = (codes "s" ∷ [], (Answer (codes "s" ∷ []), (refl, refl, refl)));
  ends = inr (λ b. none b.0 b.1);
} where
  none : (more : List (List ℕ)) → IsToolWords (codes "answer" ∷ first ∷ more) → ⊥
  none more h = let wrong : true ≡ false = sym (ap begins_with_dash (sym is) ∙ dash) ∙ command_of (first ∷ more) h in cc

pub answers : (words : List (List ℕ)) (word : List ℕ) (result : Result Tool ToolError) → 1 ≤ length words → word ≡ get_or words 0 word → begins_with_dash word ≡ false
    → MatchResult result (λ tool. tool ≡ Answer words) (λ error. error ≡ OutOfMemory) → IsToolAnswer (codes "answer" ∷ words) result
answers [] word result long is none by = absurd (omega arith)
answers (first ∷ words) word (Ok tool) long is none by =
    subst (Names (codes "answer" ∷ first ∷ words)) (sym by) (refl, refl, ap begins_with_dash (sym is) ∙ none)
answers (first ∷ words) word (Err error) long is none by =
    subst (λ (e : ToolError). IsToolAnswer (codes "answer" ∷ first ∷ words) (Err e)) (sym by) (Answer (first ∷ words), (refl, refl, ap begins_with_dash (sym is) ∙ none))

-- ---- all words

-- the answer by the words behind the tool's name
pub answered : (words : List (List ℕ)) (word name : List ℕ) (result : Result Tool ToolError) → 1 ≤ length words → word ≡ get_or words 0 word → bytes_eq word name ≡ true
    → IsToolAnswer (name ∷ take (length words - 1) (drop 1 words)) result → IsToolAnswer words result
answered [] word name result long is same answer = absurd (omega arith)
answered (first ∷ words) word name result long is same answer =
    let behind : IsToolAnswer (name ∷ words) result = subst (λ (ws : List (List ℕ)). IsToolAnswer (name ∷ ws) result) (rest_all (first ∷ words)) answer in
    subst (λ (w : List ℕ). IsToolAnswer (w ∷ words) result) (sym (same_text word name (sym same)) ∙ is) behind
