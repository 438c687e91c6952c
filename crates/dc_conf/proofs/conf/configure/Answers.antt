use Rattle.std.proofs.Common.{◌≡◌, ◌<◌, ◌-◌, true, List, [], ◌∷◌, take, drop, length, sym, ap, ◌∙◌, subst, refl, arith}
use Rattle.dc_conf.specs.Stanzas.{Stanza}
use Rattle.dc_conf.specs.Configuration.{configuration, is_sound}
use Rattle.dc_conf.proofs.TestLemmas.{list_apart}
use Rattle.dc_conf.proofs.conf.configure.Goals as goal

none_there : (xs : List Stanza) → length xs < 1 → xs ≡ []
none_there [] h = refl
none_there (x ∷ xs) h = absurd (omega arith)

pub configure_by-requires-clause-sound : goal.configure_by-requires-clause-sound
configure_by-requires-clause-sound c =
    subst (λ (ss : List Stanza). is_sound (configuration ss) ≡ true) (none_there c.args.stanzas.now c.in-empty.len_below) c.requires.sound

pub configure_by-requires-in-len1-up-clause-sound : goal.configure_by-requires-in-len1-up-clause-sound
configure_by-requires-in-len1-up-clause-sound c =
    let stanzas : List Stanza = c.args.stanzas.now in
    let whole = list_apart stanzas c.head-item.result c.in-len1-up.len_at_least c.head-item.is in
    subst (λ (ss : List Stanza). is_sound (configuration ss) ≡ true)
    (whole ∙ ap (λ (s : Stanza). s ∷ take (length stanzas - 1) (drop 1 stanzas)) (sym c.as_slice.ensures)) c.requires.sound
