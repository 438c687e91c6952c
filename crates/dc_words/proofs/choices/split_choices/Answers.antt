use Rattle.std.proofs.Common.{ℕ, Option, ◌∷◌, ◌++◌, false, sym, ap, ◌∙◌}
use Rattle.dc_words.specs.Choices.{symbols, pieces}
use Rattle.dc_words.proofs.ChoiceLemmas.{symbols_skip, pieces_from, turn, finish, nil_of}
use Rattle.dc_words.proofs.choices.split_choices.Goals as goal

pub loop-rest-init : goal.loop-rest-init
loop-rest-init c =
    rw (c.new-choices.ensures, c.new-choice.ensures, c.without_gap-rest.ensures.value) (ap pieces (sym (symbols_skip c.args.text.now)))

pub loop-rest-preserved : goal.loop-rest-preserved
loop-rest-preserved c =
    rw (c.in_ok-add_choice-in-None.ensures, c.new-choice-in-None.ensures)
    (turn c.loop-rest.choices c.loop-rest.choice (symbols false c.read_symbol-symbol.result.1.now) _
    (ap (λ s. c.loop-rest.choices ++ pieces_from c.loop-rest.choice s) (sym (c.read_symbol-symbol.ensures.says ∙ ap (λ (s : Option ℕ). s ∷ symbols false c.read_symbol-symbol.result.1.now) c.in-None.is)) ∙ c.loop-rest.invariant))

pub returns : goal.returns
returns c =
    c.in_ok-add_choice.ensures
    ∙ finish c.loop-rest.choices c.loop-rest.choice _
    (ap (λ s. c.loop-rest.choices ++ pieces_from c.loop-rest.choice (symbols false s)) (sym (nil_of c.loop-rest.rest.now (sym c.is_empty.ensures ∙ c.loop-rest-test.false))) ∙ c.loop-rest.invariant)
