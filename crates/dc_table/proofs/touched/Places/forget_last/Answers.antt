use Rattle.std.proofs.Common.{ap, ◌∙◌, ◌++◌, option_to_list}
use Rattle.dc_table.proofs.PlaceLemmas.{marks_less}
use Rattle.dc_table.proofs.touched.Places.forget_last.Goals as goal

pub invariant_of-self : goal.invariant_of-self
invariant_of-self c =
    marks_less c.self.inside.order.items c.pop.new.self.items c.self.inside.marks.items c.clear_mark.new.marks.items c.in-Some.place c.self.invariant
    (c.pop.ensures.items ∙ ap (λ o. c.pop.new.self.items ++ option_to_list o) c.in-Some.is) c.clear_mark.ensures
