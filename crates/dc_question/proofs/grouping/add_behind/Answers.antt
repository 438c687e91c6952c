use Rattle.std.proofs.Common.{◌≡◌, ◌∷◌, ◌++◌, [], false, Some, sym, ap, ◌∙◌}
use Rattle.std.specs.FinMap.{get, insert, contains_key}
use Rattle.dc_question.specs.Losses.{held_at}
use Rattle.dc_question.proofs.GroupLemmas.{first_behind, next_behind, put_there}
use Rattle.dc_question.proofs.grouping.add_behind.Goals as goal

pub returns-then-not-contains : goal.returns-then-not-contains
returns-then-not-contains c = λ t.
    let key = c.into_text.ensures.value ∙ c.in_ok-copy.ensures in
    let none : contains_key c.args.held.now c.args.first.now ≡ false = sym (c.contains.ensures ∙ ap (contains_key c.args.held.now) c.bytes.ensures.value) ∙ c.if-not-contains.true in
    ap (λ m. held_at m t) (c.in_ok-insert.ensures.ok ∙ (λ i. insert c.args.held.now (key i) (c.in_ok-only.ensures i)))
    ∙ first_behind c.args.held.now c.args.first.now c.args.name.now none t

pub replace-requires : goal.replace-requires
replace-requires c =
    let new = c.replace-names.ensures.new ∙ (λ i. insert c.args.held.now (c.bytes-2.ensures.value i) c.new.result) in
    (λ i. contains_key (new i) (c.bytes-3.ensures.value i)) ∙ put_there c.args.held.now c.args.first.now c.new.result

pub returns : goal.returns
returns c = λ t.
    let names = c.replace-names.result in
    let out = c.replace-names.ensures.new ∙ (λ i. insert c.args.held.now (c.bytes-2.ensures.value i) c.new.result) in
    let more = c.in_ok-push.ensures.ok ∙ (λ i. names ++ c.in_ok-copy-2.ensures i ∷ []) in
    let old : get c.args.held.now c.args.first.now ≡ Some names = sym (ap (get c.args.held.now) c.bytes-2.ensures.value) ∙ c.replace-names.ensures.old in
    ap (λ m. held_at m t) (c.replace.ensures.new ∙ (λ i. insert (out i) (c.bytes-3.ensures.value i) (more i)))
    ∙ next_behind c.args.held.now c.args.first.now c.args.name.now c.new.result names old t
