use Rattle.std.proofs.Common.{◌≡◌, ◌≤◌, ◌∙◌, sym, ap, subst, length, map as each, false}
use Rattle.dc_conf.specs.Machine.{joined, share_flag, led_row}
use Rattle.dc_conf.specs.Nodes.{two_meet}
use Rattle.dc_conf.proofs.RowLemmas.{Meeting, meeting_starts, meeting_found, meeting_turn, joined_length, each_length, row_short}
use Rattle.dc_conf.proofs.TestLemmas.{list_apart}
use Rattle.dc_conf.proofs.webs.Web.two_meet.Goals as goal

pub loop-rest-init : goal.loop-rest-init
loop-rest-init c =
    let led : c.in_ok-led.led.items ≡ each (λ _. false) c.args.self.now = c.in_ok-led.ensures ∙ ap (each (λ _. false)) (c.as_slice.ensures ∙ c.self.view_is) in
    record {
      meeting = subst (λ r. Meeting c.args.self.now r c.args.names.now (two_meet c.args.self.now c.args.names.now)) (sym led) (meeting_starts c.args.self.now c.args.names.now);
      long = ap length led ∙ each_length c.args.self.now (λ _. false) c.args.self.now;
    }

pub join_row-requires : goal.join_row-requires
join_row-requires c =
    subst (λ r. length r ≤ length c.loop-rest.led.items) (sym c.row-row.ensures)
    (subst (λ n. length (led_row c.args.self.now c.bytes.result.now) ≤ n) (sym c.loop-rest.invariant.long) (row_short c.args.self.now c.bytes.result.now))

pub loop-rest-preserved : goal.loop-rest-preserved
loop-rest-preserved c =
    let whole = list_apart c.loop-rest.rest.now c.name-item.result c.in-len1-up.len_at_least c.name-item.is in
    let row : c.row-row.result.now ≡ led_row c.args.self.now c.name-item.result = c.row-row.ensures ∙ ap (led_row c.args.self.now) c.bytes.ensures in
    let new = c.join_row.ensures ∙ ap (joined c.loop-rest.led.items) row in
    record {
      meeting = meeting_turn c.args.self.now c.loop-rest.led.items c.join_row.new.row.items c.loop-rest.rest.now _ c.name-item.result _ whole c.loop-rest.invariant.long new
          ((λ i. share_flag (sym c.as_slice-in-len1-up.ensures.value i) (sym row i)) ∙ sym c.shares_flag.ensures ∙ c.if-shares_flag.false) c.loop-rest.invariant.meeting;
      long = ap length c.join_row.ensures ∙ joined_length c.loop-rest.led.items c.row-row.result.now ∙ c.loop-rest.invariant.long;
    }

pub returns-then-shares_flag : goal.returns-then-shares_flag
returns-then-shares_flag c =
    let whole = list_apart c.loop-rest.rest.now c.name-item.result c.in-len1-up.len_at_least c.name-item.is in
    let row : c.row-row.result.now ≡ led_row c.args.self.now c.name-item.result = c.row-row.ensures ∙ ap (led_row c.args.self.now) c.bytes.ensures in
    meeting_found c.args.self.now c.loop-rest.led.items c.loop-rest.rest.now _ c.name-item.result _ whole
    ((λ i. share_flag (sym c.as_slice-in-len1-up.ensures.value i) (sym row i)) ∙ sym c.shares_flag.ensures ∙ c.if-shares_flag.true) c.loop-rest.invariant.meeting
