-- The words behind `run`: what they name, and where they are refused.
use Rattle.std.proofs.Common.{◌≡◌, ◌≢◌, ◌⊎◌, ◌≤◌, ◌<◌, ◌+◌, ◌-◌, ℕ, true, false, List, [], ◌∷◌, ◌++◌, length, take, drop, get_or, Option, refl, sym, ◌∙◌, ap, subst, inl, inr, arith}
use Rattle.std.proofs.Math.Seq.{take-append-add}
use Rattle.std.proofs.lemmas.List.{take_all, append-nil, append_assoc, length-append}
use Rattle.std.specs.Prelude.{codes, unwrap_or, Result, Ok, Err, MatchResult}
use Rattle.std.specs.Option.{option_copied}
use Rattle.std.specs.Cmp.Lexicographic.{other_text}
use Rattle.dc_text.specs.Names.{is_name}
use Rattle.dc_proto.specs.declared.priority.Priority.{Priority}
use Rattle.dc_frontend.specs.declared.frontend.Frontend.{Frontend}
use Rattle.dc_cli.specs.Tools.{short_word, long_word, Given, Short, Long, words_of, value_of, all_words, values_of, begins_with_dash, IsCommand, NamesRun, Names, IsToolWords, BeginsToolWords, AreRefusedAt, IsToolAnswer}
use Rattle.dc_cli.specs.RunReading.{is_value, is_given, SayMore, Say, AreGiven, AreBehind, AreRefusedBehind, IsFirst}
use Rattle.dc_cli.specs.declared.run_options.RunOption.{RunOption}
use Rattle.dc_cli.specs.declared.run_options.RunOption.TheVariants.{Owner, Frontend as ForFrontend, Priority as ForPriority}
use Rattle.dc_cli.specs.declared.run_options.RunOptions.{RunOptions}
use Rattle.dc_cli.specs.declared.run_options.FirstOption.{FirstOption}
use Rattle.dc_cli.specs.declared.tool.Tool.{Tool}
use Rattle.dc_cli.specs.declared.tool.Tool.TheVariants.{Run}
use Rattle.dc_cli.specs.declared.tool.ToolError.{ToolError}
use Rattle.dc_cli.specs.declared.tool.ToolError.TheVariants.{OutOfMemory}
use Rattle.dc_cli.proofs.OptionLemmas.{short_same, long_same, long_value, short_or_long, short_dash, long_dash, dash_apart, option_apart, one_option, all_words-append, given_next, given_more, are_given, owner_named, frontend_said, priority_said, say_owner, say_given, say_name, say_more, given_none, given_some}
use Rattle.dc_cli.proofs.ToolLemmas.{rest_all, by_first, word_of}

-- ---- all words behind `run`, and those behind some options

-- options that words begin with are the first of those that they name
pub options_behind : (given options : List Given) (rest command : List (List ℕ)) → IsCommand command → all_words given ++ rest ≡ all_words options ++ command
    → (more : List Given) × (options ≡ given ++ more) × (rest ≡ all_words more ++ command)
options_behind [] options rest command is same = (options, refl, same)
options_behind (one ∷ given) [] rest command is same =
    absurd (option_apart one (all_words given ++ rest) command is (sym (append_assoc (words_of one) (all_words given) rest) ∙ same))
options_behind (one ∷ given) (other ∷ options) rest command is same =
    let both : (one ≡ other) × (all_words given ++ rest ≡ all_words options ++ command) =
    one_option one other (all_words given ++ rest) (all_words options ++ command)
    (sym (append_assoc (words_of one) (all_words given) rest) ∙ same ∙ append_assoc (words_of other) (all_words options) command) in
    let later : (more : List Given) × (options ≡ given ++ more) × (rest ≡ all_words more ++ command) = options_behind given options rest command is both.1 in
    let first : one ≡ other = both.0 in
    let others : options ≡ given ++ later.0 = later.1 in
    (later.0, cc, later.2)

run_by : (words : List (List ℕ)) (tool : Tool) → Names (codes "run" ∷ words) tool
    → (owner : List ℕ) × (frontend : Option Frontend) × (priority : Option Priority) × (command : List (List ℕ)) × NamesRun words owner frontend priority command
run_by words (Run owner frontend priority command) named = (owner, frontend, priority, command, named.1)
run_by words other named = absurd (other_text (codes "run") (word_of other) refl named.0)

pub behind_given : (given : List Given) (rest : List (List ℕ)) → IsToolWords (codes "run" ∷ (all_words given ++ rest)) → AreBehind given rest
behind_given given rest is = by (run_by (all_words given ++ rest) is.0 is.1) where
  found : (owner : List ℕ) (frontend : Option Frontend) (priority : Option Priority) (command : List (List ℕ)) (named : NamesRun (all_words given ++ rest) owner frontend priority command)
      → (more : List Given) × (named.given ≡ given ++ more) × (rest ≡ all_words more ++ command) → AreBehind given rest
  found owner frontend priority command named later = record {
    more = later.0;
    command = command;
    words_are = later.2;
    are_given = subst AreGiven later.1 (are_given named.given owner frontend priority named.owner_is named.frontend_is named.priority_is);
    command_is = named.command_is;
  }

  by : (owner : List ℕ) × (frontend : Option Frontend) × (priority : Option Priority) × (command : List (List ℕ)) × NamesRun (all_words given ++ rest) owner frontend priority command → AreBehind given rest
  by all = found all.0 all.1 all.2 all.3 all.4 (options_behind given all.4.given rest all.3 all.4.command_is all.4.words_are)

pub given_behind : (given : List Given) (rest : List (List ℕ)) → AreBehind given rest → IsToolWords (codes "run" ∷ (all_words given ++ rest))
given_behind given rest behind =
    let all : List Given = given ++ behind.more in
    let owner = owner_named (values_of Owner all) (behind.are_given Owner) in
    let frontend = frontend_said (values_of ForFrontend all) (behind.are_given ForFrontend) in
    let priority = priority_said (values_of ForPriority all) (behind.are_given ForPriority) in (
      Run owner.0 frontend.0 priority.0 behind.command,
      (
        refl,
        record {
          given = all;
          words_are = ap (λ words. all_words given ++ words) behind.words_are ∙ sym (append_assoc (all_words given) (all_words behind.more) behind.command)
              ∙ ap (λ words. words ++ behind.command) (sym (all_words-append given behind.more));
          owner_is = owner.1;
          frontend_is = frontend.1;
          priority_is = priority.1;
          command_is = behind.command_is;
        },
      ),
    )

-- what is refused behind options that are given is refused in all words
pub refused_behind : (given : List Given) (word : List ℕ) (rest : List (List ℕ)) (place : ℕ) → AreRefusedBehind given word rest place
    → AreRefusedAt (codes "run" ∷ (all_words given ++ word ∷ rest)) (1 + length (all_words given) + place)
refused_behind given word rest place r = record {
  refused = λ is. r.refused (behind_given given (word ∷ rest) is);
  within = let short : place ≤ length (word ∷ rest) = r.within in omega (arith, length-append (all_words given) (word ∷ rest));
  begins = (r.begins.0, subst IsToolWords (sym (front place r.begins.0)) (given_behind given (take place (word ∷ rest) ++ r.begins.0) r.begins.1));
  ends = by r.ends;
} where
  front : (n : ℕ) (more : List (List ℕ)) → take (1 + length (all_words given) + n) (codes "run" ∷ (all_words given ++ word ∷ rest)) ++ more
      ≡ codes "run" ∷ (all_words given ++ (take n (word ∷ rest) ++ more))
  front n more =
      ap (λ words. words ++ more) (ap (λ m. take (m + n) (codes "run" ∷ (all_words given ++ word ∷ rest))) (omega arith) ∙ take-append-add (codes "run" ∷ all_words given) (word ∷ rest) n)
      ∙ append_assoc (codes "run" ∷ all_words given) (take n (word ∷ rest)) more

  by : (place ≡ length (word ∷ rest)) ⊎ ((more : List (List ℕ)) → ¬ AreBehind given (take (place + 1) (word ∷ rest) ++ more))
      → (1 + length (all_words given) + place ≡ length (codes "run" ∷ (all_words given ++ word ∷ rest)))
      ⊎ (¬ BeginsToolWords (take (1 + length (all_words given) + place + 1) (codes "run" ∷ (all_words given ++ word ∷ rest))))
  by (inl e) = inl (omega (arith, length-append (all_words given) (word ∷ rest), e))
  by (inr none) = inr (λ b. none b.0 (behind_given given (take (place + 1) (word ∷ rest) ++ b.0)
      (subst IsToolWords (ap (λ n. take n (codes "run" ∷ (all_words given ++ word ∷ rest)) ++ b.0) (omega arith) ∙ front (place + 1) b.0) b.1)))

-- ---- where words behind options are refused

-- the words are a command alone
command_behind : (given : List Given) (command : List (List ℕ)) → AreGiven given → IsCommand command → AreBehind given command
command_behind given command are is = record {
  more = [];
  command = command;
  words_are = refl;
  are_given = subst AreGiven (sym (append-nil given)) are;
  command_is = is;
}

-- no words behind the options begin with this one
first_refused : (given : List Given) (word : List ℕ) (rest : List (List ℕ)) → AreGiven given → ((words : List (List ℕ)) → AreBehind given (word ∷ words) → ⊥)
    → AreRefusedBehind given word rest 0
first_refused given word rest are none = record {
  refused = none rest;
  within = omega arith;
  begins = (codes "s" ∷ [], command_behind given (codes "s" ∷ []) are refl);
  ends = inr (λ more behind. none more behind);
}

unspelled_by : (word : List ℕ) (words : List (List ℕ)) (more : List Given) (command : List (List ℕ)) → begins_with_dash word ≡ true
    → ((option : RunOption) → word ≢ short_word option) → ((option : RunOption) (value : List ℕ) → word ≢ long_word option ++ value)
    → word ∷ words ≡ all_words more ++ command → IsCommand command → ⊥
unspelled_by word words [] command dash short long same is = dash_apart word words command dash is same
unspelled_by word words (Short option value ∷ more) command dash short long same is = short option (cc)
unspelled_by word words (Long option value ∷ more) command dash short long same is = long option value (cc)

-- a word that spells no option
pub unspelled : (given : List Given) (options : RunOptions) (word : List ℕ) (rest : List (List ℕ)) → Say given options → begins_with_dash word ≡ true
    → ((option : RunOption) → word ≢ short_word option) → ((option : RunOption) (value : List ℕ) → word ≢ long_word option ++ value) → AreRefusedBehind given word rest 0
unspelled given options word rest say dash short long =
    first_refused given word rest (say_given given options say) (λ words b. unspelled_by word words b.more b.command dash short long b.words_are b.command_is)

-- the value behind an option that its word alone spells
short_by : (given more : List Given) (option : RunOption) (words command : List (List ℕ)) → AreGiven (given ++ more) → IsCommand command → short_word option ∷ words ≡ all_words more ++ command
    → (value : List ℕ) × (rest : List (List ℕ)) × (words ≡ value ∷ rest) × (values_of option given ≡ []) × (is_value option value ≡ true)
short_by given [] option words command are is same = absurd (dash_apart (short_word option) words command (short_dash option) is same)
short_by given (Short other value ∷ more) option words command are is same =
    let first : short_word other ≡ short_word option = cc in
    let this : other ≡ option = short_same other option first in
    let fits : (values_of other given ≡ []) × (is_value other value ≡ true) = given_next given more (Short other value) are in
    (value, all_words more ++ command, cc, subst (λ o. values_of o given ≡ []) this fits.0, subst (λ o. is_value o value ≡ true) this fits.1)
short_by given (Long other value ∷ more) option words command are is same =
    let first : short_word option ≡ long_word other ++ value = cc in
    absurd (short_or_long option other value first)

short_behind : (given : List Given) (option : RunOption) (words : List (List ℕ)) → AreBehind given (short_word option ∷ words)
    → (value : List ℕ) × (rest : List (List ℕ)) × (words ≡ value ∷ rest) × (values_of option given ≡ []) × (is_value option value ≡ true)
short_behind given option words b = short_by given b.more option words b.command b.are_given b.command_is b.words_are

long_by : (given more : List Given) (option : RunOption) (value : List ℕ) (words command : List (List ℕ)) → AreGiven (given ++ more) → IsCommand command
    → (long_word option ++ value) ∷ words ≡ all_words more ++ command → (values_of option given ≡ []) × (is_value option value ≡ true)
long_by given [] option value words command are is same = absurd (dash_apart (long_word option ++ value) words command (long_dash option value) is same)
long_by given (Short other another ∷ more) option value words command are is same =
    let first : short_word other ≡ long_word option ++ value = cc in
    absurd (short_or_long other option value first)
long_by given (Long other another ∷ more) option value words command are is same =
    let first : long_word other ++ another ≡ long_word option ++ value = cc in
    let this : other ≡ option = long_same other option another value first in
    let that : another ≡ value = long_value option another value (ap (λ o. long_word o ++ another) (sym this) ∙ first) in
    let fits : (values_of other given ≡ []) × (is_value other another ≡ true) = given_next given more (Long other another) are in
    (subst (λ o. values_of o given ≡ []) this fits.0, subst (λ o. is_value o value ≡ true) this (subst (λ v. is_value other v ≡ true) that fits.1))

long_behind : (given : List Given) (option : RunOption) (value : List ℕ) (words : List (List ℕ)) → AreBehind given ((long_word option ++ value) ∷ words)
    → (values_of option given ≡ []) × (is_value option value ≡ true)
long_behind given option value words b = long_by given b.more option value words b.command b.are_given b.command_is b.words_are

-- an option that is given already, by its word alone
pub short_twice : (given : List Given) (options : RunOptions) (option : RunOption) (word : List ℕ) (rest : List (List ℕ)) → Say given options → word ≡ short_word option → is_given options option ≡ true
    → AreRefusedBehind given word rest 0
short_twice given options option word rest say is already =
    first_refused given word rest (say_given given options say)
    (λ words b. given_some given options option say already (short_behind given option words (subst (λ w. AreBehind given (w ∷ words)) is b)).3)

-- and by a word with its value
pub long_twice : (given : List Given) (options : RunOptions) (option : RunOption) (word value : List ℕ) (rest : List (List ℕ)) → Say given options → word ≡ long_word option ++ value
    → is_given options option ≡ true → AreRefusedBehind given word rest 0
long_twice given options option word value rest say is already =
    first_refused given word rest (say_given given options say)
    (λ words b. given_some given options option say already (long_behind given option value words (subst (λ w. AreBehind given (w ∷ words)) is b)).0)

-- a word with a value that its option doesn't take
pub long_wrong : (given : List Given) (options : RunOptions) (option : RunOption) (word value : List ℕ) (rest : List (List ℕ)) → Say given options → word ≡ long_word option ++ value
    → is_value option value ≡ false → AreRefusedBehind given word rest 0
long_wrong given options option word value rest say is wrong =
    first_refused given word rest (say_given given options say)
    (λ words b. let both : true ≡ false = sym (long_behind given option value words (subst (λ w. AreBehind given (w ∷ words)) is b)).1 ∙ wrong in cc)

-- a value that each option takes
some_value : RunOption → List ℕ
some_value Owner = codes "a"
some_value ForFrontend = codes "text"
some_value ForPriority = codes "low"

takes_some : (option : RunOption) → is_value option (some_value option) ≡ true
unfolding some_value
takes_some Owner = refl
takes_some ForFrontend = refl
takes_some ForPriority = refl

-- a word that spells an option begins words that go on with a value and a command
short_begins : (given : List Given) (options : RunOptions) (option : RunOption) → Say given options → is_given options option ≡ false
    → AreBehind given (short_word option ∷ some_value option ∷ codes "s" ∷ [])
short_begins given options option say none = record {
  more = Short option (some_value option) ∷ [];
  command = codes "s" ∷ [];
  words_are = refl;
  are_given = given_more given (Short option (some_value option)) (say_given given options say) (given_none given options option say none) (takes_some option);
  command_is = refl;
}

-- an option without a value behind it
pub value_missing : (given : List Given) (options : RunOptions) (option : RunOption) (word : List ℕ) (rest : List (List ℕ)) → Say given options → word ≡ short_word option
    → is_given options option ≡ false → length rest < 1 → AreRefusedBehind given word rest 1
value_missing given options option word [] say is none short = record {
  refused = λ b. let missing : [] ≡ (short_behind given option [] (subst (λ w. AreBehind given (w ∷ [])) is b)).0 ∷ (short_behind given option [] (subst (λ w. AreBehind given (w ∷ [])) is b)).1
      = (short_behind given option [] (subst (λ w. AreBehind given (w ∷ [])) is b)).2 in cc;
  within = omega arith;
  begins = (some_value option ∷ codes "s" ∷ [], subst (λ w. AreBehind given (w ∷ some_value option ∷ codes "s" ∷ [])) (sym is) (short_begins given options option say none));
  ends = inl refl;
}
value_missing given options option word (value ∷ rest) say is none short = absurd (omega arith)

-- an option with a value behind it that it doesn't take
pub value_wrong : (given : List Given) (options : RunOptions) (option : RunOption) (word value : List ℕ) (rest : List (List ℕ)) → Say given options → word ≡ short_word option
    → is_given options option ≡ false → 1 ≤ length rest → value ≡ get_or rest 0 value → is_value option value ≡ false → AreRefusedBehind given word rest 1
value_wrong given options option word value [] say is none long item wrong = absurd (omega arith)
value_wrong given options option word value (first ∷ rest) say is none long item wrong = record {
  refused = dead rest;
  within = omega arith;
  begins = (some_value option ∷ codes "s" ∷ [], subst (λ w. AreBehind given (w ∷ some_value option ∷ codes "s" ∷ [])) (sym is) (short_begins given options option say none));
  ends = inr (λ more b. dead more b);
} where
  apart : (words : List (List ℕ)) → (v : List ℕ) × (others : List (List ℕ)) × (first ∷ words ≡ v ∷ others) × (values_of option given ≡ []) × (is_value option v ≡ true) → ⊥
  apart words found =
      let same : first ∷ words ≡ found.0 ∷ found.1 = found.2 in
      let this : value ≡ found.0 = cc in
      let both : false ≡ true = sym wrong ∙ ap (is_value option) this ∙ found.4 in
      cc

  dead : (words : List (List ℕ)) → AreBehind given (word ∷ first ∷ words) → ⊥
  dead words b = apart words (short_behind given option (first ∷ words) (subst (λ w. AreBehind given (w ∷ first ∷ words)) is b))

-- ---- the option that words begin with

pub short_first : (options : RunOptions) (option : RunOption) (word value : List ℕ) (rest : List (List ℕ)) (first : FirstOption) → word ≡ short_word option → is_given options option ≡ false
    → 1 ≤ length rest → value ≡ get_or rest 0 value → is_value option value ≡ true → first.option ≡ option → first.value.now ≡ value
    → first.rest.now ≡ take (length rest - 1) (drop 1 rest) → IsFirst options word rest first
short_first options option word value [] first is none long item takes this that behind = absurd (omega arith)
short_first options option word value (one ∷ rest) first is none long item takes this that behind =
    let later : first.rest.now ≡ rest = behind ∙ rest_all (one ∷ rest) in
    record {
      one = Short option value;
      option_is = this;
      value_is = that;
      words_are = cc;
      taken = subst (λ o. is_value o first.value.now ≡ true) (sym this) (subst (λ v. is_value option v ≡ true) (sym that) takes);
      unread = subst (λ o. is_given options o ≡ false) (sym this) none;
    }

pub long_first : (options : RunOptions) (option : RunOption) (word value : List ℕ) (rest : List (List ℕ)) (first : FirstOption) → word ≡ long_word option ++ value → is_given options option ≡ false
    → is_value option value ≡ true → first.option ≡ option → first.value.now ≡ value → first.rest.now ≡ rest → IsFirst options word rest first
long_first options option word value rest first is none takes this that behind = record {
  one = Long option value;
  option_is = this;
  value_is = that;
  words_are = cc;
  taken = subst (λ o. is_value o first.value.now ≡ true) (sym this) (subst (λ v. is_value option v ≡ true) (sym that) takes);
  unread = subst (λ o. is_given options o ≡ false) (sym this) none;
}

-- ---- all words behind `run`

-- what was read of the words: options, which say this, and then the rest
pub record HasRead (words rest : List (List ℕ)) (options : RunOptions) : Type 0 where
  pub given : List Given
  pub words_are : words ≡ all_words given ++ rest
  pub say : Say given options

pub read_name : (words rest : List (List ℕ)) (options : RunOptions) → HasRead words rest options → is_name (unwrap_or (option_copied options.owner) (codes "unknown")) ≡ true
read_name words rest options read = say_name read.given options read.say

-- the rest is a command
pub runs : (words rest : List (List ℕ)) (options : RunOptions) (word : List ℕ) (result : Result Tool ToolError) → HasRead words rest options → 1 ≤ length rest → word ≡ get_or rest 0 word
    → begins_with_dash word ≡ false
    → MatchResult result (λ tool. tool ≡ Run (unwrap_or (option_copied options.owner) (codes "unknown")) options.frontend options.priority rest) (λ error. error ≡ OutOfMemory)
    → IsToolAnswer (codes "run" ∷ words) result
runs words [] options word result read long is dash by = absurd (omega arith)
runs words (first ∷ rest) options word result read long is dash by = answered result by where
  named : Names (codes "run" ∷ words) (Run (unwrap_or (option_copied options.owner) (codes "unknown")) options.frontend options.priority (first ∷ rest))
  named = (
    refl,
    record {
      given = read.given;
      words_are = read.words_are;
      owner_is = say_owner read.given options read.say;
      frontend_is = read.say.frontend_is;
      priority_is = read.say.priority_is;
      command_is = ap begins_with_dash (sym is) ∙ dash;
    },
  )

  answered : (r : Result Tool ToolError)
      → MatchResult r (λ tool. tool ≡ Run (unwrap_or (option_copied options.owner) (codes "unknown")) options.frontend options.priority (first ∷ rest)) (λ error. error ≡ OutOfMemory)
      → IsToolAnswer (codes "run" ∷ words) r
  answered (Ok tool) same = subst (Names (codes "run" ∷ words)) (sym same) named
  answered (Err error) same = subst (λ (e : ToolError). IsToolAnswer (codes "run" ∷ words) (Err e)) (sym same) (Run (unwrap_or (option_copied options.owner) (codes "unknown")) options.frontend options.priority (first ∷ rest), named)

none_behind : (more : List Given) (command : List (List ℕ)) → IsCommand command → [] ≡ all_words more ++ command → ⊥
none_behind [] [] is same = is
none_behind [] (word ∷ command) is same = cc
none_behind (Short option value ∷ more) command is same = cc
none_behind (Long option value ∷ more) command is same = cc

-- there is no command
pub command_missing : (words rest : List (List ℕ)) (options : RunOptions) → HasRead words rest options → length rest < 1 → AreRefusedAt (codes "run" ∷ words) (1 + length words)
command_missing words [] options read short = record {
  refused = λ is. nothing (behind_given read.given [] (subst (λ (ws : List (List ℕ)). IsToolWords (codes "run" ∷ ws)) read.words_are is));
  within = omega arith;
  begins = (
    codes "s" ∷ [],
    subst (λ (ws : List (List ℕ)). IsToolWords (ws ++ codes "s" ∷ [])) (sym all)
        (subst (λ (ws : List (List ℕ)). IsToolWords (codes "run" ∷ (ws ++ codes "s" ∷ []))) (sym (read.words_are ∙ append-nil (all_words read.given)))
        (given_behind read.given (codes "s" ∷ []) (command_behind read.given (codes "s" ∷ []) (say_given read.given options read.say) refl))),
  );
  ends = inl (omega arith);
} where
  nothing : AreBehind read.given [] → ⊥
  nothing b = none_behind b.more b.command b.command_is b.words_are

  all : take (1 + length words) (codes "run" ∷ words) ≡ codes "run" ∷ words
  all = take_all (1 + length words) (codes "run" ∷ words) (omega arith)
command_missing words (word ∷ rest) options read short = absurd (omega arith)

-- words behind an option are fewer
pub fewer : (options : RunOptions) (rest : List (List ℕ)) (word : List ℕ) (first : FirstOption) → 1 ≤ length rest → word ≡ get_or rest 0 word
    → IsFirst options word (take (length rest - 1) (drop 1 rest)) first → length first.rest.now < length rest
fewer options rest word first long item is = by is.one is.words_are where
  by : (one : Given) → word ∷ take (length rest - 1) (drop 1 rest) ≡ words_of one ++ first.rest.now → length first.rest.now < length rest
  by (Short option value) same = let all : length rest ≡ length (short_word option ∷ value ∷ first.rest.now) = ap length (by_first rest word long item ∙ same) in omega arith
  by (Long option value) same = let all : length rest ≡ length ((long_word option ++ value) ∷ first.rest.now) = ap length (by_first rest word long item ∙ same) in omega arith

-- one more option is read
pub option_read : (words rest : List (List ℕ)) (options more : RunOptions) (word : List ℕ) (first : FirstOption) → HasRead words rest options → 1 ≤ length rest → word ≡ get_or rest 0 word
    → IsFirst options word (take (length rest - 1) (drop 1 rest)) first → SayMore options first.option first.value.now more → HasRead words first.rest.now more
option_read words rest options more word first read long item is says = record {
  given = read.given ++ is.one ∷ [];
  words_are = read.words_are ∙ ap (λ ws. all_words read.given ++ ws) (by_first rest word long item ∙ is.words_are)
      ∙ sym (append_assoc (all_words read.given) (words_of is.one) first.rest.now)
      ∙ ap (λ ws. ws ++ first.rest.now) (ap (λ ws. all_words read.given ++ ws) (sym (append-nil (words_of is.one))) ∙ sym (all_words-append read.given (is.one ∷ [])));
  say = say_more read.given options more is.one read.say
      (subst (λ o. SayMore options o (value_of is.one) more) is.option_is (subst (λ v. SayMore options first.option v more) is.value_is says))
      (subst (λ o. is_given options o ≡ false) is.option_is is.unread)
      (subst (λ o. is_value o (value_of is.one) ≡ true) is.option_is (subst (λ v. is_value first.option v ≡ true) is.value_is is.taken));
}

-- the place of what is refused behind options is within the rest
pub refused_within : (words rest : List (List ℕ)) (options : RunOptions) (word : List ℕ) (place : ℕ) → HasRead words rest options → 1 ≤ length rest → word ≡ get_or rest 0 word
    → ((given : List Given) → Say given options → AreRefusedBehind given word (take (length rest - 1) (drop 1 rest)) place) → place ≤ length rest
refused_within words rest options word place read long item refused =
    let within : place ≤ length (word ∷ take (length rest - 1) (drop 1 rest)) = (refused read.given read.say).within in
    let all : length rest ≡ length (word ∷ take (length rest - 1) (drop 1 rest)) = ap length (by_first rest word long item) in
    omega arith

pub rest_within : (words rest : List (List ℕ)) (options : RunOptions) → HasRead words rest options → length rest ≤ length words
rest_within words rest options read = let all : length words ≡ length (all_words read.given ++ rest) = ap length read.words_are in omega (arith, length-append (all_words read.given) rest)

-- what is refused behind the options that were read is refused in all words
pub refused_there : (words rest : List (List ℕ)) (options : RunOptions) (word : List ℕ) (place : ℕ) → HasRead words rest options → 1 ≤ length rest → word ≡ get_or rest 0 word
    → ((given : List Given) → Say given options → AreRefusedBehind given word (take (length rest - 1) (drop 1 rest)) place)
    → AreRefusedAt (codes "run" ∷ words) (1 + (length words - length rest) + place)
refused_there words rest options word place read long item refused =
    let all : length words ≡ length (all_words read.given ++ rest) = ap length read.words_are in
    let here : 1 + length (all_words read.given) + place ≡ 1 + (length words - length rest) + place = omega (arith, length-append (all_words read.given) rest) in
    let there : words ≡ all_words read.given ++ word ∷ take (length rest - 1) (drop 1 rest) = read.words_are ∙ ap (λ ws. all_words read.given ++ ws) (by_first rest word long item) in
    subst (λ (ws : List (List ℕ)). AreRefusedAt (codes "run" ∷ ws) (1 + (length words - length rest) + place)) (sym there)
    (subst (AreRefusedAt (codes "run" ∷ (all_words read.given ++ word ∷ take (length rest - 1) (drop 1 rest)))) here
    (refused_behind read.given word (take (length rest - 1) (drop 1 rest)) place (refused read.given read.say)))
