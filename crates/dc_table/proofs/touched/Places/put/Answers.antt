use Rattle.std.proofs.Common.{◌≡◌, ◌++◌, ◌∷◌, [], false, nat_eq, sym, ap, ◌∙◌}
use Rattle.std.specs.List.{list_any}
use Rattle.dc_table.proofs.PlaceLemmas.{marks_put}
use Rattle.dc_table.proofs.touched.Places.put.Goals as goal

pub invariant_of-self-2 : goal.invariant_of-self-2
invariant_of-self-2 c =
    let new : list_any (nat_eq c.args.place) c.self.inside.order.items ≡ false = ap (list_any (nat_eq c.args.place)) c.self.view_is ∙ sym c.has.ensures ∙ c.if-has.false in
    marks_put c.self.inside.order.items c.push_reserved.new.self.items c.self.inside.marks.items c.set_mark.new.marks.items c.args.place c.self.invariant
    (c.push_reserved.ensures.items ∙ ap (λ l. l ++ c.args.place ∷ []) c.reserve.ensures.items) new c.in_ok-set_mark.ensures.ok
