use Rattle.std.proofs.Common.{◌≡◌, ◌++◌, [], ℕ, subst}
use Rattle.dc_text.specs.Lines.{text_of}
use Rattle.std.specs.Prelude.{codes}
use Rattle.dc_drill.specs.Commands.{about, at_each}
use Rattle.dc_drill.proofs.CommandLemmas.{lines_put}
use Rattle.dc_drill.proofs.commands.append_commands.Goals as goal

pub returns : goal.returns
returns c =
    let get = subst (λ (n : ℕ). c.append_at_each-2.new.text ≡ c.append_at_each.new.text ++ text_of (at_each 5 c.args.number (about (codes "GET ") n []))) c.saturating_sub.ensures
    c.in_ok-append_at_each-2.ensures in
    lines_put c.args.number _ _ _ _ _ _ _ c.in_ok-append_about.ensures c.in_ok-append_set_line.ensures c.in_ok-append_at_each.ensures get c.in_ok-append_get_none_line.ensures
    c.in_ok-append_at_each-3.ensures
