use Rattle.std.proofs.Common.{ap, ◌∙◌}
use Rattle.dc_template.proofs.FieldLemmas.{put_back, put_back-empty, pop_turn}
use Rattle.dc_template.proofs.reading.map_of.Goals as goal

pub loop-key-init : goal.loop-key-init
loop-key-init c = ap (put_back c.args.entries) c.new-fields.ensures ∙ put_back-empty c.args.entries

pub loop-key-preserved : goal.loop-key-preserved
loop-key-preserved c = pop_turn c.loop-key.entries c.pop.new.self c.in-Some.key c.in-Some.value c.loop-key.fields c.insert.new.self _ c.in-Some.ensures c.in_ok-insert.ensures.ok c.loop-key.invariant
