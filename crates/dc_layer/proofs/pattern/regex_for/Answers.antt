use Rattle.std.proofs.Common.{◌≡◌, false, ap, ◌∙◌}
use Rattle.std.proofs.lemmas.Bool.{and_left, and_right}
use Rattle.std.proofs.lemmas.Str.{is_utf8-from_IsUtf8}
use Rattle.regex.specs.Views.{builder_source}
use Rattle.dc_layer.specs.Patterns.{is_plain}
use Rattle.dc_layer.proofs.PatternLemmas.{is_utf8-other, options_of, read_in, none_of_Refuses, none_of_built, pattern_of_built, built_of_IsPattern}
use Rattle.dc_layer.proofs.pattern.regex_for.Goals as goal

pub returns-in_default-clause-bad : goal.returns-in_default-clause-bad
returns-in_default-clause-bad c = λ _.
    let plain : is_plain c.args.text.now ≡ false = cc in
    none_of_built c.args.ignore_case c.args.text.now plain
    (and_left _ _ (is_utf8-other c.args.text.now c.in_default.ensures.cases.0))

pub returns-in-Ok-build_bytes-clause-ok : goal.returns-in-Ok-build_bytes-clause-ok
returns-in-Ok-build_bytes-clause-ok c =
    let plain : is_plain c.args.text.now ≡ false = cc in
    let made = c.in-Ok-build_bytes.ensures in
    let source = ap builder_source c.case_insensitive-builder.ensures ∙ c.new.ensures.source ∙ c.in-Ok.ensures.cases.0 in
    let config = options_of c.new.result c.case_insensitive-builder.result c.args.ignore_case c.new.ensures.config c.case_insensitive-builder.ensures in (
      plain,
      read_in c.args.ignore_case c.args.text.now c.in-Ok-build_bytes.regex (made.source ∙ source) (made.config ∙ config) made.read
          (is_utf8-from_IsUtf8 c.args.text.now c.in-Ok.ensures.cases.1),
    )

pub returns-in-Err-Syntax-clause-bad : goal.returns-in-Err-Syntax-clause-bad
returns-in-Err-Syntax-clause-bad c = λ _.
    let plain : is_plain c.args.text.now ≡ false = cc in
    let source = ap builder_source c.case_insensitive-builder.ensures ∙ c.new.ensures.source ∙ c.in-Ok.ensures.cases.0 in
    let config = options_of c.new.result c.case_insensitive-builder.result c.args.ignore_case c.new.ensures.config c.case_insensitive-builder.ensures in
    let refused = c.in-Err-Syntax.ensures.refused c.in-Err-Syntax.field-0-0 c.in-Err-Syntax.field-0-is in
    let kind = rw c.in-Err-Syntax.field-0-is at c.in-Err-Syntax.ensures.kind in
    none_of_built c.args.ignore_case c.args.text.now plain
    (and_right _ _ (none_of_Refuses c.args.ignore_case c.args.text.now c.in-Err-Syntax.field-0-0.kind kind (rw (config, source) at refused)))

pub returns-in-Err-CompiledTooBig-clause-too_large : goal.returns-in-Err-CompiledTooBig-clause-too_large
returns-in-Err-CompiledTooBig-clause-too_large c = λ _.
    let plain : is_plain c.args.text.now ≡ false = cc in
    let source = ap builder_source c.case_insensitive-builder.ensures ∙ c.new.ensures.source ∙ c.in-Ok.ensures.cases.0 in
    let config = options_of c.new.result c.case_insensitive-builder.result c.args.ignore_case c.new.ensures.config c.case_insensitive-builder.ensures in
    let kind = rw (c.in-Err-CompiledTooBig.field-0-is) at c.in-Err-CompiledTooBig.ensures.kind in (
      plain,
      pattern_of_built c.args.ignore_case c.args.text.now (is_utf8-from_IsUtf8 c.args.text.now c.in-Ok.ensures.cases.1)
          (built_of_IsPattern c.args.ignore_case c.args.text.now (rw (config, source) at kind)),
    )
