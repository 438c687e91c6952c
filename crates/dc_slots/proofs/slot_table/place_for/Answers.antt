use Rattle.std.proofs.Common.{None, refl, sym, ap, ◌∙◌, inl, inr}
use Rattle.std.specs.FinMap as map
use Rattle.dc_slots.specs.Chains.{has}
use Rattle.dc_slots.specs.Numbered.{Numbered, with_kept}
use Rattle.dc_slots.proofs.OperationLemmas.{removed_again}
use Rattle.dc_slots.proofs.slot_table.place_for.Goals as goal

pub returns-in-Some-clause-ok : goal.returns-in-Some-clause-ok
returns-in-Some-clause-ok g c = inl (sym c.number_of.ensures ∙ c.in-Some.is, refl, refl)

pub remove-requires : goal.remove-requires
remove-requires g c = ap (λ (x : Numbered g.row.T.Denot). has c.in_ok-number.number x.touched) c.in_ok-number.ensures.ok ∙ c.in_ok-number.ensures.untouched

pub returns-in-Err-clause-err : goal.returns-in-Err-clause-err
returns-in-Err-clause-err g c = (
  c.in-Err.ensures.err,
  c.remove.ensures ∙ ap (λ (x : Numbered g.row.T.Denot). record x { kept = map.remove x.kept c.in_ok-number.number }) c.in_ok-number.ensures.ok
      ∙ (λ i. record { kept = removed_again c.args.slots.now c.in_ok-number.number (record { name = c.in_ok-copy-2.field-0; value = None; owners = 0 }) c.in_ok-number.ensures.new i; touched = c.args.slots.now.touched }),
)

pub returns-clause-ok : goal.returns-clause-ok
returns-clause-ok g c =
    inr (
      sym c.number_of.ensures ∙ c.in_default.is,
      c.in_ok-number.ensures.new,
      c.in_default-insert.ensures.ok ∙ ap (λ q. map.insert c.args.places.now q c.in_ok-number.number) (c.into_text-key.ensures.value ∙ c.in_ok-copy.ensures),
      c.in_ok-number.ensures.ok ∙ ap (λ q. with_kept c.args.slots.now c.in_ok-number.number (record { name = q; value = None; owners = 0 })) c.in_ok-copy-2.ensures,
    )
