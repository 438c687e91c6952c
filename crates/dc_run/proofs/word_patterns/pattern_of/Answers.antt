use Rattle.std.proofs.Common.{◌≡◌, true, false, option_to_list, Err, subst, sym, ap}
use Rattle.dc_layer.specs.Patterns.{is_pattern, is_plain}
use Rattle.dc_run.specs.Inside.{IsUnbuilt}
use Rattle.dc_run.proofs.PatternLemmas.{unbuilt_word}
use Rattle.dc_run.proofs.word_patterns.pattern_of.Goals as goal

pub returns-in-Err-clause-unbuilt : goal.returns-in-Err-clause-unbuilt
returns-in-Err-clause-unbuilt c =
    subst (λ word. IsUnbuilt (option_to_list word) c.end_of_pattern.result) (sym c.in-Some.is)
    (unbuilt_word c.in-Some.given c.in-Err.error c.end_of_pattern.result c.end_of_pattern.ensures
    (λ is. subst (λ text. is_pattern false text ≡ false) c.bytes.ensures (c.in-Err.ensures.bad (ap Err is)))
    (λ is. subst (λ text. (is_plain text ≡ false) × (is_pattern false text ≡ true)) c.bytes.ensures (c.in-Err.ensures.too_large (ap Err is))))
