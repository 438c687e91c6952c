use Rattle.std.proofs.Common.{sym, subst, ◌∙◌}
use Rattle.dc_preseed.specs.Selections.{Parts, IsSaid}
use Rattle.dc_preseed.proofs.SelectionLemmas.{no_kind, no_flag, sound_seen}
use Rattle.dc_preseed.proofs.selections.read_named.Goals as goal
use Rattle.dc_preseed.proofs.selections.read_named.Goals.{in-Some, in-None}

pub returns-then-is_seen : goal.returns-then-is_seen
returns-then-is_seen c =
    let p : Parts = record { owner = c.args.owner; question = c.args.question; word = c.args.word.now; value = c.args.value.now } in
    let seen = sym c.is_seen.ensures ∙ c.if-is_seen.true in
    elim c.match-flag_value.branch [
      | in-Some w ↦ subst (IsSaid p) (sym w.result-is) (sound_seen p w.in-Some.seen c.requires.word c.requires.names seen (sym c.flag_value.ensures ∙ w.in-Some.is))
      | in-None w ↦ subst (IsSaid p) (sym w.result-is) (no_flag p c.requires.word c.requires.names seen (sym c.flag_value.ensures ∙ w.in-None.is))
    ]

pub returns-in-None-read : goal.returns-in-None-read
returns-in-None-read c =
    let p : Parts = record { owner = c.args.owner; question = c.args.question; word = c.args.word.now; value = c.args.value.now } in
    no_kind p c.requires.word c.requires.names (sym c.is_seen.ensures ∙ c.if-is_seen.false) (sym c.read.ensures ∙ c.in-None-read.is)
