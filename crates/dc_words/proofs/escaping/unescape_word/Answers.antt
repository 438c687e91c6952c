use Rattle.std.proofs.Common.{◌≡◌, ◌∷◌, ◌<◌, length, ap, ◌∙◌, arith}
use Rattle.dc_words.specs.declared.escaping.LineUnit.TheVariants.{Byte}
use Rattle.dc_words.specs.Escaped.{units_of}
use Rattle.dc_words.proofs.EscapedLemmas.{onto_front, parts_of, onto_nothing, word_more}
use Rattle.dc_words.proofs.escaping.unescape_word.Goals as goal

pub loop-unit-init : goal.loop-unit-init
loop-unit-init c = record {
  parts = ap (λ w. onto_front w (parts_of c.args.line.now)) c.new-word.ensures ∙ onto_nothing c.args.line.now;
  within = omega arith;
}

pub loop-unit-preserved : goal.loop-unit-preserved
loop-unit-preserved c =
    let told : (units_of c.loop-unit.rest.now ≡ c.in-Some.unit ∷ units_of c.in-Some.after.now) × (length c.in-Some.after.now < length c.loop-unit.rest.now) = c.in-Some.ensures in
    let first : units_of c.loop-unit.rest.now ≡ Byte c.in-Byte.byte ∷ units_of c.in-Some.after.now = told.0 ∙ ap (λ u. u ∷ units_of c.in-Some.after.now) c.in-Byte.is in
    record {
      parts = ap (λ w. onto_front w (parts_of c.in-Some.after.now)) c.in_ok-push-in-Byte.ensures.ok
          ∙ word_more c.loop-unit.word c.args.line.now c.loop-unit.rest.now c.in-Some.after.now c.in-Byte.byte c.loop-unit.invariant.parts first;
      within = omega (arith, told.1);
    }
