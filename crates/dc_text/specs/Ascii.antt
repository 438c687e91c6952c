-- Names of single bytes.
use Rattle.std.specs.Prelude.{ℕ}

abbrev pub tab : ℕ
tab = 9

abbrev pub newline : ℕ
newline = 10

abbrev pub space : ℕ
space = 32

abbrev pub hash : ℕ
hash = 35

abbrev pub dollar_sign : ℕ
dollar_sign = 36

abbrev pub comma : ℕ
comma = 44

abbrev pub dash : ℕ
dash = 45

abbrev pub dot : ℕ
dot = 46

abbrev pub slash : ℕ
slash = 47

abbrev pub colon : ℕ
colon = 58

abbrev pub equals_sign : ℕ
equals_sign = 61

abbrev pub at_sign : ℕ
at_sign = 64

abbrev pub backslash : ℕ
backslash = 92

abbrev pub underscore : ℕ
underscore = 95

abbrev pub letter_n : ℕ
letter_n = 110

abbrev pub opening_brace : ℕ
opening_brace = 123

abbrev pub closing_brace : ℕ
closing_brace = 125
