-- What `parse` makes of a numeral.
use Rattle.std.proofs.Common.{◌≡◌, ◌≤◌, ◌&&◌, ℕ, List, [], ◌∷◌, length, refl, ap, ◌∙◌, arith, rules, Bool, true, false, nat_le, Some, None, Result, Ok, Err, IsUtf8, if◌then◌else◌}
use Rattle.std.specs.Char.{is_ascii_digit}
use Rattle.std.specs.List.{list_all}
use Rattle.std.specs.Str.{IsAscii}
use Rattle.std.specs.Str.Parse.{digits_value, ParsesUnsigned}
use Rattle.std.specs.Result.{result_ok}
use Rattle.std.proofs.lemmas.Bool.{and_parts, leb-true, le-leb}
use Rattle.std.proofs.lemmas.Bool.Decides.{nat_tests}
use Rattle.std.proofs.lemmas.Str.{IsUtf8-from_ascii}
use Rattle.std.proofs.lemmas.Str.Ascii.{IsAscii-nil, IsAscii-cons}
use Rattle.std.proofs.lemmas.Str.Parse.{IsDigitsTest, IsNumeralModel, numerals_by_value, parse_digits}
use Rattle.dc_proto.specs.Numbers.{is_numeral, number_of}

digits_test : IsDigitsTest (λ ds. list_all is_ascii_digit ds ≡ true)
digits_test = search rules

digits_model : IsNumeralModel (λ ds. list_all is_ascii_digit ds ≡ true) (digits_value 10)
digits_model = numerals_by_value _ digits_test

digits_ascii : (word : List ℕ) → list_all is_ascii_digit word ≡ true → IsAscii word
digits_ascii [] digits = IsAscii-nil
digits_ascii (byte ∷ word) digits =
    let parts = digits_test.parts byte word digits in
    IsAscii-cons byte word (omega (arith, parts.0)) (digits_ascii word parts.1)

numeral_digits : (word : List ℕ) → is_numeral word ≡ true → list_all is_ascii_digit word ≡ true
numeral_digits word numeral = (and_parts _ _ (and_parts _ _ numeral).1).1

numeral_long : (word : List ℕ) → is_numeral word ≡ true → 1 ≤ length word
numeral_long word numeral = leb-true _ _ (and_parts _ _ numeral).0

pub numeral_utf8 : (word : List ℕ) → is_numeral word ≡ true → IsUtf8 word
numeral_utf8 word numeral = IsUtf8-from_ascii word (digits_ascii word (numeral_digits word numeral))

some_if : (numeral small : Bool) (value : ℕ) → numeral ≡ true → small ≡ true → Some value ≡ (if numeral && small then Some value else None)
some_if numeral small value valid fits = rw (valid, fits) refl

none_if : (numeral small : Bool) (value : ℕ) → small ≡ false → None ≡ (if numeral && small then Some value else None)
none_if true small value large = rw large refl
none_if false small value large = refl

-- a test that isn't true is false
not_small : (value limit : ℕ) → ¬ (value ≤ limit) → nat_le value limit ≡ false
not_small value limit large = grind (arith, nat_tests)

pub numeral_parsed : {E : Type 0} (word : List ℕ) (r : Result ℕ E) → is_numeral word ≡ true → ParsesUnsigned 32 10 word r → result_ok r ≡ number_of word
numeral_parsed {E = E} word (Ok number) numeral parses =
    let read = parse_digits digits_model {E = E} 32 word (Ok number) parses (numeral_digits word numeral) in
    let small = le-leb (digits_value 10 word) 4294967295 (omega (arith, read.0.1)) in
    ap (λ n. Some n) read.1 ∙ some_if (is_numeral word) (nat_le (digits_value 10 word) 4294967295) (digits_value 10 word) numeral small
numeral_parsed {E = E} word (Err error) numeral parses =
    let large = parse_digits digits_model {E = E} 32 word (Err error) parses (numeral_digits word numeral) in
    let long = numeral_long word numeral in
    none_if (is_numeral word) (nat_le (digits_value 10 word) 4294967295) (digits_value 10 word) (not_small (digits_value 10 word) 4294967295 (λ small. large (long, omega arith)))
