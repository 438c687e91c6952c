use Rattle.std.proofs.Common.{map as each, Some, refl, sym, ap}
use Rattle.dc_outside.specs.Memory.{link_of}
use Rattle.dc_session.specs.Serving.{resources_of, session_by}
use Rattle.dc_conf.specs.Trees.{shape}
use Rattle.dc_drill.proofs.DrillLemmas.{drilled, mapped_over, nothing_done, over_count, unserved, untold}
use Rattle.dc_drill.proofs.drilling.drill.Goals as goal

pub returns-in_default : goal.returns-in_default
returns-in_default g c files terminal err = nothing_done c.args.count _

pub returns-in_default-command_link : goal.returns-in_default-command_link
returns-in_default-command_link g c files terminal err = nothing_done c.args.count _

pub numbers_text-requires : goal.numbers_text-requires
numbers_text-requires g c =
    mapped_over (λ b. (goal.Layer-dyn g (b.vtable, b.value)).state b.value) _ _ (shape c.args.config.now) (over_count _ _ _ _ c.in-Done.ensures) c.requires.config

pub returns-in-Ok-numbers_text : goal.returns-in-Ok-numbers_text
returns-in-Ok-numbers_text g c files terminal err =
    let layers = each (λ b. (goal.Layer-dyn g (b.vtable, b.value)).state b.value) c.args.layers.now.items in
    let start = session_by c.args.setup.now (shape c.args.config.now) (shape c.args.templates.now) (resources_of layers files terminal err) in
    drilled c.args.count start _ _ (link_of c.serve_link_given-ended.new.link) c.talk.result.now c.in-Ok-numbers_text.text _ _ c.in-Ok.ensures c.in-Ok-command_link.ensures (ap Some (sym c.talk.ensures))
    (ap (each (λ b. (goal.Layer-dyn g (b.vtable, b.value)).state b.value)) c.in-Ok-numbers_text.ensures.layers) c.in-Done.ensures c.in-Ok-numbers_text.ensures.text

pub returns-in-Done : goal.returns-in-Done
returns-in-Done g c files terminal err =
    let layers = each (λ b. (goal.Layer-dyn g (b.vtable, b.value)).state b.value) c.args.layers.now.items in
    let start = session_by c.args.setup.now (shape c.args.config.now) (shape c.args.templates.now) (resources_of layers files terminal err) in
    untold c.args.count start _ _ (link_of c.serve_link_given-ended.new.link) c.talk.result.now _ _ c.in-Ok.ensures c.in-Ok-command_link.ensures (ap Some (sym c.talk.ensures))
    (ap (each (λ b. (goal.Layer-dyn g (b.vtable, b.value)).state b.value)) c.in-Err.ensures.layers) c.in-Done.ensures

pub returns : goal.returns
returns g c files terminal err =
    let layers = each (λ b. (goal.Layer-dyn g (b.vtable, b.value)).state b.value) c.args.layers.now.items in
    let start = session_by c.args.setup.now (shape c.args.config.now) (shape c.args.templates.now) (resources_of layers files terminal err) in
    unserved c.args.count start _ _ (link_of c.serve_link_given-ended.new.link) c.serve_link_given-ended.new.link.talk c.serve_link_given-ended.result _ c.in-Ok.ensures c.in-Ok-command_link.ensures refl
    c.in_default-ended.not-Done c.serve_link_given-ended.ensures
