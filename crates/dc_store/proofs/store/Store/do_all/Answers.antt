use Rattle.std.proofs.Common.{◌≡◌, false, ◌∷◌, List, length, map as each, refl, sym, ap, subst, ◌∙◌}
use Rattle.std.specs.List.{list_any, Contains}
use Rattle.std.specs.Vec.Iter.{into_iter_items}
use Rattle.std.proofs.lemmas.List.Elements.{All-head, All-tail}
use Rattle.dc_conf.specs.Plans.{IsOver}
use Rattle.dc_store.specs.Targets.{AreTargets}
use Rattle.dc_store.specs.Plans.{StoreState, stored}
use Rattle.dc_store.specs.Batches.{Write, AreOver, AllDistinct, is_refused, all_done, names_of}
use Rattle.dc_store.proofs.Frames.{same_count}
use Rattle.dc_store.proofs.LandingLemmas.{first_landing, rest_landings}
use Rattle.dc_store.proofs.RowLemmas.{first_taken, rest_taken, rest_left, rest_distinct, first_name, other_name, same_all, same_all_refl, same_all_then, all_framed}
use Rattle.dc_store.proofs.store.Store.do_all.Goals as goal

pub loop-write-init : goal.loop-write-init
loop-write-init g c =
    let layers = each (λ b. (goal.Layer-dyn g (b.vtable, b.value)).state b.value) c.args.self.now.layers.items in
    let all : c.args.batch.items ≡ into_iter_items c.into_iter-writes.result = sym c.into_iter-writes.ensures.rest in
    record {
      over = subst (λ ws. AreOver ws (length c.args.self.now.layers.items)) all c.requires.over;
      distinct = subst AllDistinct all c.requires.distinct;
      left = ap (all_done (stored layers c.args.self.now.told)) (sym all);
      taken = subst (λ ws. list_any (is_refused layers) ws ≡ false) all c.requires.taken;
      targets = subst (λ ws. AreTargets layers ws c.args.targets.now) all c.requires.targets;
      among = λ name in'. subst (λ ws. Contains (names_of ws) name) (sym all) in';
      others = same_all_refl (names_of c.args.batch.items) layers;
      count = refl;
    }

pub do_one-requires-clause-over : goal.do_one-requires-clause-over
do_one-requires-clause-over g c =
    All-head (λ (w : Write). IsOver w.plan (length c.loop-write.self.layers.items)) c.in-Some.write (into_iter_items c.next.new.self)
    (subst (λ ws. AreOver ws (length c.loop-write.self.layers.items)) c.in-Some.ensures.cases.0 c.loop-write.invariant.over)

pub do_one-requires-clause-taken : goal.do_one-requires-clause-taken
do_one-requires-clause-taken g c =
    let layers = each (λ b. (goal.Layer-dyn g (b.vtable, b.value)).state b.value) c.loop-write.self.layers.items in
    first_taken layers c.in-Some.write (into_iter_items c.next.new.self) (subst (λ ws. list_any (is_refused layers) ws ≡ false) c.in-Some.ensures.cases.0 c.loop-write.invariant.taken)

pub returns-in_err-do_one-clause-frame : goal.returns-in_err-do_one-clause-frame
returns-in_err-do_one-clause-frame g c =
    let w = c.in-Some.write in
    let rest = into_iter_items c.next.new.self in
    all_framed (names_of c.args.batch.items) _ _
    (same_all_then (names_of c.args.batch.items) _ _ _ c.loop-write.invariant.others
    (same_all (names_of c.args.batch.items) w.name _ _
    (c.loop-write.invariant.among w.name (subst (λ ws. Contains (names_of ws) w.name) (sym c.in-Some.ensures.cases.0) (first_name w rest)))
    c.in_err-do_one.ensures.frame.others))

pub loop-write-preserved : goal.loop-write-preserved
loop-write-preserved g c =
    let layers = each (λ b. (goal.Layer-dyn g (b.vtable, b.value)).state b.value) c.loop-write.self.layers.items in
    let store : StoreState = stored layers c.loop-write.self.told in
    let new : StoreState = stored (each (λ b. (goal.Layer-dyn g (b.vtable, b.value)).state b.value) c.do_one.new.self.layers.items) c.do_one.new.self.told in
    let w : Write = c.in-Some.write in
    let rest : List Write = into_iter_items c.next.new.self in
    let parts : into_iter_items c.loop-write.writes ≡ w ∷ rest = c.in-Some.ensures.cases.0 in
    let count = length c.loop-write.self.layers.items in
    let final = all_done (stored (each (λ b. (goal.Layer-dyn g (b.vtable, b.value)).state b.value) c.args.self.now.layers.items) c.args.self.now.told) c.args.batch.items in
    let distinct : AllDistinct (w ∷ rest) = subst AllDistinct parts c.loop-write.invariant.distinct in
    let taken : list_any (is_refused layers) (w ∷ rest) ≡ false = subst (λ ws. list_any (is_refused layers) ws ≡ false) parts c.loop-write.invariant.taken in
    let did = c.in_ok-do_one.ensures.ok in
    record {
      over = subst (AreOver rest) (sym (same_count _ c.loop-write.self.layers.items c.do_one.new.self.layers.items c.do_one.ensures.frame.count))
          (All-tail (λ (v : Write). IsOver v.plan count) w rest (subst (λ ws. AreOver ws count) parts c.loop-write.invariant.over));
      distinct = rest_distinct w rest distinct;
      left = rest_left w rest store new final did (subst (λ ws. all_done store ws ≡ final) parts c.loop-write.invariant.left);
      taken = rest_taken w rest store new distinct did taken;
      targets = rest_landings w rest c.first_landing-put_target.result.1.now store new distinct did
          (first_landing layers w rest c.loop-write.rest.now c.first_landing-put_target.result.1.now c.first_landing-put_target.result.0 c.first_landing-put_target.ensures
          (subst (λ ws. AreTargets layers ws c.loop-write.rest.now) parts c.loop-write.invariant.targets)).1;
      among = λ name in'. c.loop-write.invariant.among name (subst (λ ws. Contains (names_of ws) name) (sym parts) (other_name w rest name in'));
      others = same_all_then (names_of c.args.batch.items) _ _ _ c.loop-write.invariant.others
          (same_all (names_of c.args.batch.items) w.name _ _ (c.loop-write.invariant.among w.name (subst (λ ws. Contains (names_of ws) w.name) (sym parts) (first_name w rest))) c.do_one.ensures.frame.others);
      count = same_count _ c.loop-write.self.layers.items c.do_one.new.self.layers.items c.do_one.ensures.frame.count ∙ c.loop-write.invariant.count;
    }
