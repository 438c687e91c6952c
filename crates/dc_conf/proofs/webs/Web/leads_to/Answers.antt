use Rattle.std.proofs.Common.{◌≡◌, ◌∙◌, ℕ, Bool, false, sym, ap, ◌||◌}
use Rattle.std.specs.Prelude.{slice_get}
use Rattle.std.specs.List.{position_or_len}
use Rattle.std.specs.Option.{unwrap_or}
use Rattle.std.specs.Str.{bytes_eq}
use Rattle.dc_conf.specs.Machine.{led_row}
use Rattle.dc_conf.specs.Nodes.{names_of}
use Rattle.dc_conf.proofs.RowLemmas.{flag_led}
use Rattle.dc_conf.proofs.webs.Web.leads_to.Goals as goal

pub returns-else-eq : goal.returns-else-eq
returns-else-eq c =
    let place : ℕ = position_or_len (bytes_eq c.args.other.now) (names_of c.args.self.now) in
    let flag : Bool = unwrap_or (slice_get (led_row c.args.self.now c.args.name.now) place) false in
    let differ : bytes_eq c.args.name.now c.args.other.now ≡ false = sym c.eq.ensures ∙ c.if-eq.false in
    c.flag_at.ensures
    ∙ (λ i. unwrap_or (slice_get (c.row.ensures i) (c.requires i)) false)
    ∙ sym (ap (λ b. b || flag) differ) ∙ flag_led c.args.self.now c.args.name.now c.args.other.now
