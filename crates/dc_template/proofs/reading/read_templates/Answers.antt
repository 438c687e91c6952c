use Rattle.std.proofs.Common.{◌≡◌, List, sym, ap, ◌∙◌, subst}
use Rattle.std.specs.List.{AllByRecursion}
use Rattle.std.proofs.lemmas.Result.{err_from_is_err_and}
use Rattle.dc_text.specs.Faults.{AllStand}
use Rattle.dc_template.specs.Forms.{forms, lines_in}
use Rattle.dc_template.specs.TemplateFaults.{Stands}
use Rattle.dc_template.specs.Reading.{templates_in}
use Rattle.dc_template.specs.Machine.{at_start}
use Rattle.dc_template.proofs.ApartLemmas.{run_fit}
use Rattle.dc_template.proofs.FaultLaws.{all_stand, error_is}
use Rattle.dc_template.proofs.FormLemmas.{IsSoundForm, lines_sound}
use Rattle.dc_template.proofs.SoundLemmas.{run_sound}
use Rattle.dc_template.specs.declared.forms.Line.{Line}
use Rattle.dc_template.proofs.reading.read_templates.Goals as goal

pub returns-in_err-check : goal.returns-in_err-check
returns-in_err-check c =
    let p = err_from_is_err_and c.from_residual-in_err-check.result c.from_residual-in_err-check.ensures.1 in
    rw (p.1, p.2) (error_is c.args.bytes.now c.as_slice.result.now c.in_err-check.field-0.0 (c.as_slice.ensures ∙ c.in_ok-lines.ensures) c.in_err-check.ensures)

pub build-requires-clause-sound : goal.build-requires-clause-sound
build-requires-clause-sound c =
    let lines : c.as_slice-2.result.now ≡ c.as_slice.result.now = c.as_slice-2.ensures ∙ sym c.as_slice.ensures in
    let whole : c.as_slice.result.now ≡ lines_in c.args.bytes.now = c.as_slice.ensures ∙ c.in_ok-lines.ensures in
    rw lines
    (run_sound c.as_slice.result.now at_start c.in_ok-check.ensures.0 c.in_ok-check.ensures.1
    (subst (λ (ls : List Line). AllByRecursion IsSoundForm (forms ls)) (sym whole) (lines_sound c.args.bytes.now)))

pub build-requires-clause-fit : goal.build-requires-clause-fit
build-requires-clause-fit c =
    let lines : c.as_slice-2.result.now ≡ c.as_slice.result.now = c.as_slice-2.ensures ∙ sym c.as_slice.ensures in
    let whole : c.as_slice.result.now ≡ lines_in c.args.bytes.now = c.as_slice.ensures ∙ c.in_ok-lines.ensures in
    rw lines
    (run_fit c.as_slice.result.now at_start c.in_ok-check.ensures.0 c.in_ok-check.ensures.1
    (subst (λ (ls : List Line). AllByRecursion IsSoundForm (forms ls)) (sym whole) (lines_sound c.args.bytes.now)))

pub returns : goal.returns
returns c =
    let lines : c.as_slice-2.result.now ≡ c.as_slice.result.now = c.as_slice-2.ensures ∙ sym c.as_slice.ensures in
    let whole : c.as_slice.result.now ≡ lines_in c.args.bytes.now = c.as_slice.ensures ∙ c.in_ok-lines.ensures in
    record {
      stand = subst (AllStand Stands) whole (all_stand c.as_slice.result.now c.in_ok-check.ensures.0 c.in_ok-check.ensures.1);
      are = c.in_ok-templates.ensures ∙ ap (λ (ls : List Line). templates_in (forms ls)) (lines ∙ whole);
    }
