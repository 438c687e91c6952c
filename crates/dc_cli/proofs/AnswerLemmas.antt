-- Words name one tool at most, or are refused at one place.
use Rattle.std.proofs.Common.{◌≡◌, ◌⊎◌, ◌≤◌, ◌<◌, ◌+◌, ℕ, List, [], ◌∷◌, ◌++◌, length, take, drop, Option, refl, sym, ◌∙◌, ap, subst, inl, inr, arith}
use Rattle.std.proofs.lemmas.Bool.{cases_lt}
use Rattle.std.proofs.lemmas.List.{append-nil, append_assoc, take-take, take-append-drop}
use Rattle.std.specs.Prelude.{Some, codes}
use Rattle.std.specs.Cmp.Lexicographic.{other_text}
use Rattle.dc_proto.specs.Priorities.{priority_of}
use Rattle.dc_proto.specs.declared.priority.Priority.{Priority}
use Rattle.dc_frontend.specs.Frontends.{frontend_of}
use Rattle.dc_frontend.specs.declared.frontend.Frontend.{Frontend}
use Rattle.dc_cli.specs.Tools.{NamesOwner, NamesFiles, Given, words_of, all_words, values_of, Says, IsCommand, NamesRun, NamesTool, Names, IsToolWords, BeginsToolWords, AreRefusedAt}
use Rattle.dc_cli.specs.declared.run_options.RunOption.TheVariants.{Owner, Frontend as ForFrontend, Priority as ForPriority}
use Rattle.dc_cli.specs.declared.tool.Tool.{Tool}
use Rattle.dc_cli.specs.declared.tool.Tool.TheVariants.{Communicate, LoadTemplate, Run, Show, CopyDb, SetSelections, GetSelections, Drill, Answer}
use Rattle.dc_cli.specs.DatabaseWords.{NamesShow, placed_from, values_behind}
use Rattle.dc_cli.specs.DatabaseReading.{shown_of}
use Rattle.dc_cli.specs.declared.show_words.ShowSeen.{ShowSeen}
use Rattle.dc_cli.specs.declared.tool.PlacedWord.{PlacedWord}
use Rattle.dc_cli.specs.declared.tool.Shown.{Shown}
use Rattle.dc_cli.proofs.CopyLemmas.{one_copy}
use Rattle.dc_cli.proofs.FrontLemmas.{one_given}
use Rattle.dc_cli.proofs.ShowLemmas.{show_read}
use Rattle.dc_cli.proofs.OptionLemmas.{option_apart}
use Rattle.dc_cli.proofs.RunLemmas.{options_behind}
use Rattle.dc_cli.proofs.ToolLemmas.{word_of}
use Rattle.dc_cli.proofs.SelectionLemmas.{one_selection}
use Rattle.dc_cli.specs.SelectionWords.{NamesDrill}

one_owner : (words : List (List ℕ)) (owner other : List ℕ) → NamesOwner words owner → NamesOwner words other → owner ≡ other
one_owner [] owner other a b = a ∙ sym b
one_owner (word ∷ []) owner other a b = a.0 ∙ sym b.0
one_owner (word ∷ second ∷ words) owner other a b = absurd a

one_loading : (words : List (List ℕ)) (owner other : List ℕ) (paths others : List (List ℕ)) → NamesFiles words owner paths → NamesFiles words other others
    → LoadTemplate owner paths ≡ LoadTemplate other others
one_loading [] owner other paths others a b = absurd a
one_loading (word ∷ words) owner other paths others a b =
    let same : owner ≡ other = a.0 ∙ sym b.0 in
    let files : paths ≡ others = a.2 ∙ sym b.2 in
    cc

one_said : {A : Type 0} (read : List ℕ → Option A) (values : List (List ℕ)) (said other : Option A) → Says read values said → Says read values other → said ≡ other
one_said read [] said other a b = a ∙ sym b
one_said read (value ∷ []) said other a b = a.0 ∙ sym b.0
one_said read (value ∷ second ∷ values) said other a b = absurd a

-- words are those of some options and of a command in one way
one_reading : (given others : List Given) (command another : List (List ℕ)) → IsCommand command → IsCommand another → all_words given ++ command ≡ all_words others ++ another
    → (given ≡ others) × (command ≡ another)
one_reading given others command another is other_is same = by (options_behind given others command another other_is same) where
  by_more : (more : List Given) → others ≡ given ++ more → command ≡ all_words more ++ another → (given ≡ others) × (command ≡ another)
  by_more [] all rest = (sym (all ∙ append-nil given), rest)
  by_more (one ∷ more) all rest = absurd (option_apart one (all_words more ++ another) command is (sym (rest ∙ append_assoc (words_of one) (all_words more) another)))

  by : (more : List Given) × (others ≡ given ++ more) × (command ≡ all_words more ++ another) → (given ≡ others) × (command ≡ another)
  by found = by_more found.0 found.1 found.2

one_run : (words : List (List ℕ)) (owner other : List ℕ) (frontend other_frontend : Option Frontend) (priority other_priority : Option Priority) (command another : List (List ℕ))
    → NamesRun words owner frontend priority command → NamesRun words other other_frontend other_priority another
    → Run owner frontend priority command ≡ Run other other_frontend other_priority another
one_run words owner other frontend other_frontend priority other_priority command another a b =
    let both : (a.given ≡ b.given) × (command ≡ another) = one_reading a.given b.given command another a.command_is b.command_is (sym a.words_are ∙ b.words_are) in
    let given : a.given ≡ b.given = both.0 in
    let commands : command ≡ another = both.1 in
    let owners : owner ≡ other = one_owner (values_of Owner b.given) owner other (subst (λ g. NamesOwner (values_of Owner g) owner) given a.owner_is) b.owner_is in
    let frontends : frontend ≡ other_frontend =
    one_said frontend_of (values_of ForFrontend b.given) frontend other_frontend (subst (λ g. Says frontend_of (values_of ForFrontend g) frontend) given a.frontend_is) b.frontend_is in
    let priorities : priority ≡ other_priority =
    one_said priority_of (values_of ForPriority b.given) priority other_priority (subst (λ g. Says priority_of (values_of ForPriority g) priority) given a.priority_is) b.priority_is in
    cc

one_show : (words : List (List ℕ)) (database another : Option PlacedWord) (shown other : Shown) → NamesShow words database shown → NamesShow words another other
    → Show database shown ≡ Show another other
one_show words database another shown other a b =
    let first = show_read words database shown a in
    let second = show_read words another other b in
    let given : database ≡ another = one_given (values_behind (codes "--db=") (placed_from 1 words)) database another first.once second.once in
    let both : Some first.seen ≡ Some second.seen = sym first.seen_is ∙ second.seen_is in
    let seen : first.seen ≡ second.seen = cc in
    let asked : shown ≡ other = first.shown_is ∙ ap (λ (s : ShowSeen). shown_of words s.database s.asked) seen ∙ sym second.shown_is in
    cc

one_drill : (words : List (List ℕ)) (count other : ℕ) → NamesDrill words count → NamesDrill words other → count ≡ other
one_drill [] count other a b = absurd a
one_drill (word ∷ []) count other a b = let same : Some count ≡ Some other = sym a ∙ b in cc
one_drill (word ∷ more ∷ words) count other a b = absurd a

one_tool_by : (word : List ℕ) (words : List (List ℕ)) (tool other : Tool) → NamesTool word words tool → NamesTool word words other → tool ≡ other
one_tool_by word words (Communicate owner) (Communicate other) a b = ap Communicate (one_owner words owner other a.1 b.1)
one_tool_by word words (LoadTemplate owner paths) (LoadTemplate other others) a b = one_loading words owner other paths others a.1 b.1
one_tool_by word words (Run owner frontend priority command) (Run other other_frontend other_priority another) a b =
    one_run words owner other frontend other_frontend priority other_priority command another a.1 b.1
one_tool_by word words (Show database shown) (Show another other) a b = one_show words database another shown other a.1 b.1
one_tool_by word words (CopyDb copy) (CopyDb other) a b = ap CopyDb (one_copy words copy other a.1 b.1)
one_tool_by word words (SetSelections verbose check unseen) (SetSelections v c u) a b = one_selection words verbose check unseen v c u a.1 b.1
one_tool_by word words GetSelections GetSelections a b = refl
one_tool_by word words (Drill count) (Drill other) a b = ap Drill (one_drill words count other a.1 b.1)
one_tool_by word words (Answer command) (Answer other) a b = ap Answer (a.1 ∙ sym b.1)
one_tool_by word words tool other a b = absurd (other_text (word_of tool) (word_of other) refl (sym a.0 ∙ b.0))

pub one_tool : (words : List (List ℕ)) (tool other : Tool) → Names words tool → Names words other → tool ≡ other
one_tool [] tool other a b = absurd a
one_tool (word ∷ words) tool other a b = one_tool_by word words tool other a b

-- words before a place at which they are refused aren't refused
not_before : (words : List (List ℕ)) (place later : ℕ) → AreRefusedAt words place → AreRefusedAt words later → place < later → ⊥
not_before words place later a b h = by a.ends where
  front : take later words ++ b.begins.0 ≡ take (place + 1) words ++ (drop (place + 1) (take later words) ++ b.begins.0)
  front = ap (λ ws. ws ++ b.begins.0)
      (sym (take-append-drop (place + 1) (take later words)) ∙ ap (λ ws. ws ++ drop (place + 1) (take later words)) (take-take (place + 1) later words (omega (arith, h))))
      ∙ append_assoc (take (place + 1) words) (drop (place + 1) (take later words)) b.begins.0

  by : (place ≡ length words) ⊎ (¬ BeginsToolWords (take (place + 1) words)) → ⊥
  by (inl e) = let within : later ≤ length words = b.within in absurd (omega (arith, e, h))
  by (inr none) = none (drop (place + 1) (take later words) ++ b.begins.0, subst IsToolWords front b.begins.1)

pub one_place : (words : List (List ℕ)) (place other : ℕ) → AreRefusedAt words place → AreRefusedAt words other → place ≡ other
one_place words place other a b =
    elim (cases_lt place other) as (λ _. place ≡ other) [
      | inl h ↦ absurd (not_before words place other a b h)
      | inr h ↦ elim (cases_lt other place) as (λ _. place ≡ other) [ inl i ↦ absurd (not_before words other place b a i) | inr i ↦ omega (arith, h, i) ]
    ]
