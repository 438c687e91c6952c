use Rattle.std.proofs.Common.{◌≡◌, ◌∙◌, true}
use Rattle.dc_proto.specs.Numbers.{is_numeral as is_numeral_of}
use Rattle.dc_proto.proofs.NumberLemmas.{numeral_utf8, numeral_parsed}
use Rattle.dc_proto.proofs.numbers.read_number.Goals as goal

pub returns-in-Ok : goal.returns-in-Ok
returns-in-Ok c =
    let numeral : is_numeral_of c.args.word.now ≡ true = cc in
    let same : c.in-Ok.text.now ≡ c.args.word.now = c.in-Ok.ensures.cases.0 in
    let parses = rw same at c.parse.ensures.value.0 in
    c.ok.ensures.value ∙ numeral_parsed c.args.word.now c.parse.result numeral parses

pub returns-in-Err : goal.returns-in-Err
returns-in-Err c =
    let numeral : is_numeral_of c.args.word.now ≡ true = cc in
    absurd (c.in-Err.ensures.cases.0 (numeral_utf8 c.args.word.now numeral))
