use Rattle.std.proofs.Common.{Err, ap, map}
use Rattle.dc_text.specs.Bytes.{lower}
use Rattle.dc_template.proofs.KeyLemmas.{unkeyed}
use Rattle.dc_template.proofs.forms.read_other.Goals as goal

pub returns-in-Err-Bad : goal.returns-in-Err-Bad
returns-in-Err-Bad c = unkeyed (map lower c.args.word.now) c.args.value.now (c.in-Err-Bad.ensures.bad (ap (λ e. Err e) c.in-Err-Bad.field-0-is))
