use Rattle.std.proofs.Common.{◌≡◌, not, sym, ap, ◌∙◌, subst}
use Rattle.std.specs.Prelude.{◌||◌, IfOk}
use Rattle.std.specs.List.{list_any}
use Rattle.std.specs.Str.{bytes_eq}
use Rattle.dc_template.proofs.SeenLemmas.{none_in, any-both}
use Rattle.dc_template.proofs.seen.FewSeen.add.Goals as goal

pub returns-then-is_among-clause-new : goal.returns-then-is_among-clause-new
returns-then-is_among-clause-new c =
    let q = c.args.text.now in
    let few = ap (list_any (λ t. bytes_eq q t.now)) (sym c.as_slice.ensures.value) ∙ sym c.is_among.ensures ∙ c.if-is_among.true in
    sym (ap not (any-both (λ t. t.now) q c.self.inside.few.items c.self.inside.others c.args.self.now c.self.view_is ∙ ap (λ b. b || list_any (bytes_eq q) c.self.inside.others) few))

pub returns-then-is_empty-clause-new : goal.returns-then-is_empty-clause-new
returns-then-is_empty-clause-new c =
    let q = c.args.text.now in
    let few = ap (list_any (λ t. bytes_eq q t.now)) (sym c.as_slice.ensures.value) ∙ sym c.is_among.ensures ∙ c.if-is_among.false in
    let others = none_in (bytes_eq q) c.self.inside.others (sym c.is_empty.ensures ∙ c.if-is_empty.true) in
    sym (ap not (any-both (λ t. t.now) q c.self.inside.few.items c.self.inside.others c.args.self.now c.self.view_is ∙ (λ i. few i || others i)))

pub returns-clause-new : goal.returns-clause-new
returns-clause-new c =
    let q = c.args.text.now in
    let few = ap (list_any (λ t. bytes_eq q t.now)) (sym c.as_slice.ensures.value) ∙ sym c.is_among.ensures ∙ c.if-is_among.false in
    let all = any-both (λ t. t.now) q c.self.inside.few.items c.self.inside.others c.args.self.now c.self.view_is ∙ ap (λ b. b || list_any (bytes_eq q) c.self.inside.others) few in
    subst (λ b. IfOk c.add.result (λ is_new. is_new ≡ not b)) (sym all) c.add.ensures.new
