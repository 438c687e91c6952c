use Rattle.std.proofs.Common.{◌≡◌, ◌∷◌, ap, sym, ◌∙◌}
use Rattle.std.specs.FinMap as map
use Rattle.dc_item.specs.After as after
use Rattle.dc_item.specs.Sections.{flags_mark}
use Rattle.dc_item.proofs.PartLemmas.{drop_flag, without_flag}
use Rattle.dc_item.proofs.item.Item.set_flag.Goals as goal

pub invariant_of-self : goal.invariant_of-self
invariant_of-self c =
    let taken : c.remove.new.self ≡ map.remove c.self.inside.parts (flags_mark ∷ c.args.flag.now)
    = c.remove.ensures ∙ (λ i. map.remove c.self.inside.parts (flags_mark ∷ c.bytes-else-is_set.ensures.value i)) in
    without_flag c.self.inside.parts c.remove.new.self c.args.flag.now c.self.invariant taken

pub returns-else-is_set-clause-ok : goal.returns-else-is_set-clause-ok
returns-else-is_set-clause-ok c =
    let taken : c.remove.new.self ≡ map.remove c.self.inside.parts (flags_mark ∷ c.args.flag.now)
    = c.remove.ensures ∙ (λ i. map.remove c.self.inside.parts (flags_mark ∷ c.bytes-else-is_set.ensures.value i)) in
    drop_flag c.self.inside.parts c.remove.new.self c.args.flag.now c.args.self.now c.self.view_is taken
    ∙ ap (λ is_set. record c.args.self.now { flags = after.with_flag c.args.self.now.flags c.args.flag.now is_set }) (sym c.if-is_set.false)
