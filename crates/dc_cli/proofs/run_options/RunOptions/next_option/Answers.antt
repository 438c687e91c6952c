use Rattle.std.proofs.Common.{sym, ◌∙◌, refl, subst, ◌≢◌, ◌++◌, List, ℕ}
use Rattle.dc_cli.specs.Tools.{short_word, long_word}
use Rattle.dc_cli.specs.declared.run_options.RunOption.{RunOption}
use Rattle.dc_cli.proofs.RunLemmas.{short_twice, long_twice, long_wrong, value_missing, value_wrong, unspelled, short_first, long_first}
use Rattle.dc_cli.proofs.run_options.RunOptions.next_option.Goals as goal
use Rattle.dc_cli.proofs.run_options.RunOptions.next_option.Goals.{in_default-long-via-in-Some-long+then-not-has+else-takes-2, in_default-long-via-in-Some-long+else-not-has, in_default-long-via-in_default-long}

pub returns-then-has : goal.returns-then-has
returns-then-has c given say = short_twice given c.args.self.now c.in-Some.option c.args.word.now c.args.rest.now say (sym c.bytes.ensures ∙ c.in-Some.ensures) (sym c.has.ensures ∙ c.if-has.true)

pub returns-in-Some-long : goal.returns-in-Some-long
returns-in-Some-long c =
    long_first c.args.self.now c.in-Some-long.option c.args.word.now c.in-Some-long.value.now c.args.rest.now _ (sym c.bytes-2.ensures ∙ c.in-Some-long.ensures) (sym c.if-not-has.ensures) (sym c.takes-then-not-has.ensures ∙ c.if-takes-2.true) refl refl refl

pub returns-in_default-long : goal.returns-in_default-long
returns-in_default-long c given say =
    elim c.in_default-long.branch [
      | in_default-long-via-in-Some-long+then-not-has+else-takes-2 w ↦ long_wrong given c.args.self.now w.in-Some-long.option c.args.word.now w.in-Some-long.value.now c.args.rest.now say
          (sym c.bytes-2.ensures ∙ w.in-Some-long.ensures) (sym w.takes-then-not-has.ensures ∙ w.if-takes-2.false)
      | in_default-long-via-in-Some-long+else-not-has w ↦ long_twice given c.args.self.now w.in-Some-long.option c.args.word.now w.in-Some-long.value.now c.args.rest.now say
          (sym c.bytes-2.ensures ∙ w.in-Some-long.ensures) (sym w.if-not-has.ensures)
      | in_default-long-via-in_default-long w ↦ unspelled given c.args.self.now c.args.word.now c.args.rest.now say c.requires
          (subst (λ (word : List ℕ). (option : RunOption) → word ≢ short_word option) c.bytes.ensures c.in_default.ensures)
          (subst (λ (word : List ℕ). (option : RunOption) (value : List ℕ) → word ≢ long_word option ++ value) c.bytes-2.ensures w.in_default-long.ensures)
    ]

pub returns-in-empty : goal.returns-in-empty
returns-in-empty c given say =
    value_missing given c.args.self.now c.in-Some.option c.args.word.now c.args.rest.now say (sym c.bytes.ensures ∙ c.in-Some.ensures) (sym c.has.ensures ∙ c.if-has.false) c.in-empty.len_below

pub returns-else-takes : goal.returns-else-takes
returns-else-takes c given say =
    value_wrong given c.args.self.now c.in-Some.option c.args.word.now c.value-item.result c.args.rest.now say (sym c.bytes.ensures ∙ c.in-Some.ensures) (sym c.has.ensures ∙ c.if-has.false)
    c.in-len1-up.len_at_least c.value-item.is (cc)

pub returns-then-takes : goal.returns-then-takes
returns-then-takes c =
    short_first c.args.self.now c.in-Some.option c.args.word.now c.value-item.result c.args.rest.now _ (sym c.bytes.ensures ∙ c.in-Some.ensures) (sym c.has.ensures ∙ c.if-has.false)
    c.in-len1-up.len_at_least c.value-item.is (cc) refl c.bytes-value.ensures refl
