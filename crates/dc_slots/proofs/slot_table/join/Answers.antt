use Rattle.std.proofs.Common.{◌-◌, ap, ◌∙◌}
use Rattle.std.specs.Prelude.{is_some}
use Rattle.std.specs.FinMap as map
use Rattle.dc_slots.specs.Numbered.{Numbered, owners_at, with_owners}
use Rattle.dc_slots.proofs.TiedLemmas.{put-here}
use Rattle.dc_slots.proofs.OperationLemmas.{owner_dropped}
use Rattle.dc_slots.proofs.slot_table.join.Goals as goal

pub drop_owner-requires : goal.drop_owner-requires
drop_owner-requires g c = ap (λ (x : Numbered g.row.T.Denot). is_some (map.get x.kept c.args.number)) c.in_ok-add_owner.ensures.ok ∙ ap is_some (put-here c.args.slots.now c.args.number _)

pub returns-in-Err-clause-err : goal.returns-in-Err-clause-err
returns-in-Err-clause-err g c = (
  c.drop_owner.ensures ∙ ap (λ (x : Numbered g.row.T.Denot). with_owners x c.args.number (owners_at x c.args.number - 1)) c.in_ok-add_owner.ensures.ok ∙ owner_dropped c.args.slots.now c.args.number c.requires.kept,
  c.in-Err.ensures.err,
)
