-- The words behind `copydb`: which of them name it.
use Rattle.std.proofs.Common.{◌≡◌, ◌≤◌, ◌+◌, ℕ, Bool, true, false, List, [], ◌∷◌, ◌++◌, length, map, refl, sym, ◌∙◌, ap, subst, arith}
use Rattle.std.specs.Prelude.{◌==◌, ◌&&◌, ◌||◌, not, Option, None, Some, MatchOption, option_map, is_some, unwrap_or, codes, if◌then◌else◌}
use Rattle.std.specs.Borrow.{Bor}
use Rattle.std.specs.List.{list_all, cons_option, before_first, after_first}
use Rattle.std.specs.Str.{bytes_eq}
use Rattle.std.specs.Cmp.Lexicographic.{other_text}
use Rattle.dc_text.specs.Ascii.{colon}
use Rattle.dc_text.specs.Bytes.{lower}
use Rattle.dc_text.proofs.FirstLemmas.{before_first-here, before_first-later, after_first-here, after_first-later}
use Rattle.dc_cli.specs.DatabaseWords.{behind_front, is_option, placed_from, plain_of, values_behind, IsGivenOnce, is_copy_word, line_text, has_colon, begin_with_name, NamesCopy}
use Rattle.dc_cli.specs.DatabaseReading.{after, nothing_copied, is_named, copy_step, copy_next, is_copy, are_missing, is_once, are_lines, fit_seen, fits, line_of}
use Rattle.dc_cli.specs.Tools.{Names}
use Rattle.dc_cli.specs.declared.copy_words.CopySeen.{CopySeen}
use Rattle.dc_cli.specs.declared.tool.ConfigLine.{ConfigLine}
use Rattle.dc_cli.specs.declared.tool.CopyWords.{CopyWords}
use Rattle.dc_cli.specs.declared.tool.PlacedWord.{PlacedWord}
use Rattle.dc_cli.specs.declared.tool.Tool.{Tool}
use Rattle.dc_cli.specs.declared.tool.Tool.TheVariants.{CopyDb}
use Rattle.dc_cli.proofs.FrontLemmas.{one_given, both_of, not_true, front_is, byte_same}
use Rattle.dc_cli.proofs.ReadingLemmas.{ends_words, IsReadBy, after_none}
use Rattle.dc_cli.proofs.ToolLemmas.{word_of}

-- ---- a word is one of the options, an unknown one or none

abbrev is_apart : Bool → Option (List ℕ) → Option (List ℕ) → Option (List ℕ) → Bool
is_apart false None None None = true
is_apart true (Some value) None None = true
is_apart true None (Some value) None = true
is_apart true None None config = true
is_apart option by_name by_owner config = false

abbrev IsApart : List ℕ → Type 0
IsApart word = is_apart (is_option word) (behind_front (codes "--pattern=") word) (behind_front (codes "--owner-pattern=") word) (behind_front (codes "--config=") word) ≡ true

apart : (word : List ℕ) → IsApart word
apart word = first (behind_front (codes "--pattern=") word) refl where
  none : (option : Bool) → is_apart option None None None ≡ true
  none true = refl
  none false = refl

  third : (config : Option (List ℕ)) → behind_front (codes "--pattern=") word ≡ None → behind_front (codes "--owner-pattern=") word ≡ None → behind_front (codes "--config=") word ≡ config → IsApart word
  third (Some text) p o e = subst IsApart (sym (front_is (codes "--config=") word text e)) refl
  third None p o e =
      ap (λ x. is_apart (is_option word) x (behind_front (codes "--owner-pattern=") word) (behind_front (codes "--config=") word)) p
      ∙ ap (λ x. is_apart (is_option word) None x (behind_front (codes "--config=") word)) o ∙ ap (λ x. is_apart (is_option word) None None x) e ∙ none (is_option word)

  second : (by_owner : Option (List ℕ)) → behind_front (codes "--pattern=") word ≡ None → behind_front (codes "--owner-pattern=") word ≡ by_owner → IsApart word
  second (Some value) p e = subst IsApart (sym (front_is (codes "--owner-pattern=") word value e)) refl
  second None p e = third (behind_front (codes "--config=") word) p e refl

  first : (by_name : Option (List ℕ)) → behind_front (codes "--pattern=") word ≡ by_name → IsApart word
  first (Some value) e = subst IsApart (sym (front_is (codes "--pattern=") word value e)) refl
  first None e = second (behind_front (codes "--owner-pattern=") word) e refl

-- ---- all of several tests

no_second : (a b : Bool) → (a && (false && b)) ≡ false
no_second true b = refl
no_second false b = refl

no_third : (a b c : Bool) → (a && (b && (false && c))) ≡ false
no_third true b c = no_second b c
no_third false b c = refl

no_fourth : (a b c d : Bool) → (a && (b && (c && (false && d)))) ≡ false
no_fourth true b c d = no_third b c d
no_fourth false b c d = refl

no_fifth : (a b c d : Bool) → (a && (b && (c && (d && false)))) ≡ false
no_fifth true true true true = refl
no_fifth true true true false = refl
no_fifth true true false d = refl
no_fifth true false c d = refl
no_fifth false b c d = refl

all_five : (a b c d e : Bool) → a ≡ true → b ≡ true → c ≡ true → d ≡ true → e ≡ true → (a && (b && (c && (d && e)))) ≡ true
all_five a b c d e p q r s t = cc

-- ---- reading and fitting are the same

-- one more word
fits_step : (seen : CopySeen) (option known : Bool) (by_name by_owner config : Option (List ℕ)) (place : ℕ) (word : List ℕ) (words : List (List ℕ)) (plain names owners lines : List PlacedWord)
    → is_apart option by_name by_owner config ≡ true
    → ((more : CopySeen) → ends_words is_copy (after copy_next (Some more) words) ≡ fit_seen more known plain names owners lines)
    → ends_words is_copy (after copy_next (copy_step seen option by_name by_owner config) words)
    ≡ fit_seen seen ((not option || (is_some by_name || (is_some by_owner || is_some config))) && known)
    (if not option then record { word = word; place = place } ∷ plain else plain)
    (cons_option (option_map (λ value. record { word = value; place = place }) by_name) names)
    (cons_option (option_map (λ value. record { word = value; place = place }) by_owner) owners)
    (cons_option (option_map (λ value. record { word = value; place = place }) config) lines)
fits_step seen option known by_name by_owner config place word words plain names owners lines is later = by option by_name by_owner config is where
  gone : ends_words is_copy (after copy_next None words) ≡ false
  gone = ap (ends_words is_copy) (after_none copy_next words)

  database : (source dest : Bool) → ends_words is_copy (after copy_next (if source then (if dest then None else Some (record seen { dest = true })) else Some (record seen { source = true })) words)
      ≡ (known && ((if source then (if dest then false else are_missing seen.source true plain) else are_missing true seen.dest plain)
      && (is_once seen.by_name names && (is_once seen.by_owner owners && are_lines seen.config lines))))
  database true true = gone ∙ sym (no_second known (is_once seen.by_name names && (is_once seen.by_owner owners && are_lines seen.config lines)))
  database true false = later (record seen { dest = true })
  database false dest = later (record seen { source = true })

  name : (given : Bool) → ends_words is_copy (after copy_next (if given then None else Some (record seen { by_name = true })) words)
      ≡ (known && (are_missing seen.source seen.dest plain && ((not given && is_once true names) && (is_once seen.by_owner owners && are_lines seen.config lines))))
  name true = gone ∙ sym (no_third known (are_missing seen.source seen.dest plain) (is_once seen.by_owner owners && are_lines seen.config lines))
  name false = later (record seen { by_name = true })

  owner : (given : Bool) → ends_words is_copy (after copy_next (if given then None else Some (record seen { by_owner = true })) words)
      ≡ (known && (are_missing seen.source seen.dest plain && (is_once seen.by_name names && ((not given && is_once true owners) && are_lines seen.config lines))))
  owner true = gone ∙ sym (no_fourth known (are_missing seen.source seen.dest plain) (is_once seen.by_name names) (are_lines seen.config lines))
  owner false = later (record seen { by_owner = true })

  line : (fits : Bool) → ends_words is_copy (after copy_next (if fits then Some (record seen { config = true }) else None) words)
      ≡ (known && (are_missing seen.source seen.dest plain && (is_once seen.by_name names && (is_once seen.by_owner owners && (fits && are_lines true lines)))))
  line true = later (record seen { config = true })
  line false = gone ∙ sym (no_fifth known (are_missing seen.source seen.dest plain) (is_once seen.by_name names) (is_once seen.by_owner owners))

  by : (option : Bool) (by_name by_owner config : Option (List ℕ)) → is_apart option by_name by_owner config ≡ true
      → ends_words is_copy (after copy_next (copy_step seen option by_name by_owner config) words)
      ≡ fit_seen seen ((not option || (is_some by_name || (is_some by_owner || is_some config))) && known)
      (if not option then record { word = word; place = place } ∷ plain else plain)
      (cons_option (option_map (λ value. record { word = value; place = place }) by_name) names)
      (cons_option (option_map (λ value. record { word = value; place = place }) by_owner) owners)
      (cons_option (option_map (λ value. record { word = value; place = place }) config) lines)
  by false None None None e = database seen.source seen.dest
  by true (Some value) None None e = name seen.by_name
  by true None (Some value) None e = owner seen.by_owner
  by true None None (Some text) e = line (has_colon text && (seen.config || is_named text))
  by true None None None e = gone
  by false (Some value) by_owner config e = cc
  by false None (Some value) config e = cc
  by false None None (Some text) e = cc
  by true (Some value) (Some other) config e = cc
  by true (Some value) None (Some text) e = cc
  by true None (Some value) (Some text) e = cc

read_fits : (words : List (List ℕ)) (seen : CopySeen) (place : ℕ) → ends_words is_copy (after copy_next (Some seen) words) ≡ fits seen place words
read_fits [] seen place = by seen.source seen.dest where
  by : (source dest : Bool) → (source && dest) ≡ ((source && dest) && true)
  by true true = refl
  by true false = refl
  by false dest = refl
read_fits (word ∷ words) seen place =
    fits_step seen (is_option word) (list_all is_copy_word words) (behind_front (codes "--pattern=") word) (behind_front (codes "--owner-pattern=") word) (behind_front (codes "--config=") word)
    place word words (plain_of (placed_from (place + 1) words)) (values_behind (codes "--pattern=") (placed_from (place + 1) words))
    (values_behind (codes "--owner-pattern=") (placed_from (place + 1) words)) (values_behind (codes "--config=") (placed_from (place + 1) words)) (apart word)
    (λ more. read_fits words more (place + 1))

-- ---- lines of a configuration

or_true : (a : Bool) → (a || true) ≡ true
or_true true = refl
or_true false = refl

neither : (a b : Bool) → (a || b) ≡ false → (a ≡ false) × (b ≡ false)
neither true b e = cc
neither false b e = (refl, e)

colon_in : (field value : List ℕ) → has_colon (field ++ colon ∷ value) ≡ true
colon_in [] value = refl
colon_in (byte ∷ field) value = ap (λ b. (byte == colon) || b) (colon_in field value) ∙ or_true (byte == colon)

field_before : (field value : List ℕ) → has_colon field ≡ false → before_first (λ byte. byte == colon) (field ++ colon ∷ value) ≡ field
field_before [] value none = before_first-here (λ byte. byte == colon) colon value refl
field_before (byte ∷ field) value none =
    let each : ((byte == colon) ≡ false) × (has_colon field ≡ false) = neither (byte == colon) (has_colon field) none in
    before_first-later (λ b. b == colon) byte (field ++ colon ∷ value) each.0 ∙ ap (λ bytes. byte ∷ bytes) (field_before field value each.1)

-- a text with a colon is a line, of which the field has none
text_parted : (text : List ℕ) → has_colon text ≡ true → (line_text (line_of text) ≡ text) × (has_colon (line_of text).field ≡ false)
text_parted [] has = cc
text_parted (byte ∷ text) has = by (byte == colon) refl (text_parted text) where
  before : List ℕ → List ℕ
  before bytes = before_first (λ b. b == colon) bytes

  by : (is : Bool) → (byte == colon) ≡ is → (has_colon text ≡ true → (line_text (line_of text) ≡ text) × (has_colon (line_of text).field ≡ false))
      → (line_text (line_of (byte ∷ text)) ≡ byte ∷ text) × (has_colon (line_of (byte ∷ text)).field ≡ false)
  by true e later =
      let front : (line_of (byte ∷ text)).field ≡ [] = before_first-here (λ b. b == colon) byte text e in
      let back : (line_of (byte ∷ text)).value ≡ text = after_first-here (λ b. b == colon) byte text e in
      let this : byte ≡ colon = byte_same byte colon e in
      (cc, ap has_colon front)
  by false e later =
      let front : (line_of (byte ∷ text)).field ≡ byte ∷ (line_of text).field = before_first-later (λ b. b == colon) byte text e in
      let back : (line_of (byte ∷ text)).value ≡ (line_of text).value = after_first-later (λ b. b == colon) byte text e in
      let both = later (ap (λ b. b || has_colon text) (sym e) ∙ has) in
      let rest : line_text (line_of text) ≡ text = both.0 in
      let none : has_colon (line_of text).field ≡ false = both.1 in (
        ap (λ field. field ++ colon ∷ (line_of (byte ∷ text)).value) front ∙ ap (λ value. byte ∷ ((line_of text).field ++ colon ∷ value)) back ∙ ap (λ bytes. byte ∷ bytes) rest,
        ap has_colon front ∙ ap (λ b. b || has_colon (line_of text).field) e ∙ none,
      )

-- ---- what names the tool fits

given_once : (values : List PlacedWord) (given : Option PlacedWord) → IsGivenOnce values given → is_once false values ≡ true
given_once [] given is = refl
given_once (value ∷ []) given is = refl
given_once (value ∷ other ∷ values) given is = absurd is

-- a value that is this line
value_line : (value : PlacedWord) (line : ConfigLine) → value.word ≡ line_text line → not (has_colon line.field) ≡ true → (has_colon value.word ≡ true) × (is_named value.word ≡ bytes_eq (map lower line.field) (codes "name"))
value_line value line is parted = (
  ap has_colon is ∙ colon_in line.field line.value,
  ap is_named is ∙ ap (λ field. bytes_eq (map lower field) (codes "name")) (field_before line.field line.value (not_true (has_colon line.field) parted)),
)

later_lines : (values : List PlacedWord) (lines : List ConfigLine) → map (λ (placed : PlacedWord). placed.word) values ≡ map line_text lines → list_all (λ line. not (has_colon line.field)) lines ≡ true → are_lines true values ≡ true
later_lines [] lines same parted = refl
later_lines (value ∷ values) [] same parted = cc
later_lines (value ∷ values) (line ∷ lines) same parted =
    let both = both_of (not (has_colon line.field)) (list_all (λ line. not (has_colon line.field)) lines) parted in
    let this : value.word ≡ line_text line = cc in
    let others : map (λ (placed : PlacedWord). placed.word) values ≡ map line_text lines = cc in
    let has : has_colon value.word ≡ true = (value_line value line this both.0).0 in
    let more : are_lines true values ≡ true = later_lines values lines others both.1 in
    ap (λ b. (b && true) && are_lines true values) has ∙ more

first_lines : (values : List PlacedWord) (lines : List ConfigLine) → map (λ (placed : PlacedWord). placed.word) values ≡ map line_text lines → list_all (λ line. not (has_colon line.field)) lines ≡ true
    → begin_with_name lines ≡ true → are_lines false values ≡ true
first_lines [] lines same parted named = refl
first_lines (value ∷ values) [] same parted named = cc
first_lines (value ∷ values) (line ∷ lines) same parted named =
    let both = both_of (not (has_colon line.field)) (list_all (λ line. not (has_colon line.field)) lines) parted in
    let this : value.word ≡ line_text line = cc in
    let others : map (λ (placed : PlacedWord). placed.word) values ≡ map line_text lines = cc in
    let is : (has_colon value.word ≡ true) × (is_named value.word ≡ bytes_eq (map lower line.field) (codes "name")) = value_line value line this both.0 in
    let more : are_lines true values ≡ true = later_lines values lines others both.1 in
    ap (λ b. (b && is_named value.word) && are_lines true values) is.0 ∙ ap (λ b. b && are_lines true values) (is.1 ∙ named) ∙ more

named_fits : (words : List (List ℕ)) (copy : CopyWords) → NamesCopy words copy → fits nothing_copied 1 words ≡ true
named_fits words copy is =
    all_five (list_all is_copy_word words) (are_missing false false (plain_of (placed_from 1 words))) (is_once false (values_behind (codes "--pattern=") (placed_from 1 words)))
    (is_once false (values_behind (codes "--owner-pattern=") (placed_from 1 words))) (are_lines false (values_behind (codes "--config=") (placed_from 1 words)))
    is.known (ap (are_missing false false) is.databases_are) (given_once (values_behind (codes "--pattern=") (placed_from 1 words)) copy.by_name is.by_name_is)
    (given_once (values_behind (codes "--owner-pattern=") (placed_from 1 words)) copy.by_owner is.by_owner_is)
    (first_lines (values_behind (codes "--config=") (placed_from 1 words)) copy.config is.config_is is.parted is.named_first)

-- ---- what fits names the tool

-- what fits, part by part
pub record Fit (words : List (List ℕ)) : Type 0 where
  pub known : list_all is_copy_word words ≡ true
  pub databases : are_missing false false (plain_of (placed_from 1 words)) ≡ true
  pub by_name : is_once false (values_behind (codes "--pattern=") (placed_from 1 words)) ≡ true
  pub by_owner : is_once false (values_behind (codes "--owner-pattern=") (placed_from 1 words)) ≡ true
  pub config : are_lines false (values_behind (codes "--config=") (placed_from 1 words)) ≡ true

fit_parts : (known databases names owners lines : Bool) → (known && (databases && (names && (owners && lines)))) ≡ true
    → (known ≡ true) × (databases ≡ true) × (names ≡ true) × (owners ≡ true) × (lines ≡ true)
fit_parts known databases names owners lines e =
    let first = both_of known (databases && (names && (owners && lines))) e in
    let second = both_of databases (names && (owners && lines)) first.1 in
    let third = both_of names (owners && lines) second.1 in
    let fourth = both_of owners lines third.1 in
    (first.0, second.0, third.0, fourth.0, fourth.1)

pub fit : (words : List (List ℕ)) → fits nothing_copied 1 words ≡ true → Fit words
fit words e =
    let parts = fit_parts (list_all is_copy_word words) (are_missing false false (plain_of (placed_from 1 words))) (is_once false (values_behind (codes "--pattern=") (placed_from 1 words)))
    (is_once false (values_behind (codes "--owner-pattern=") (placed_from 1 words))) (are_lines false (values_behind (codes "--config=") (placed_from 1 words))) e in
    record { known = parts.0; databases = parts.1; by_name = parts.2; by_owner = parts.3; config = parts.4 }

pub both_databases : (placed : List PlacedWord) → are_missing false false placed ≡ true → (source : PlacedWord) × (dest : PlacedWord) × (placed ≡ source ∷ dest ∷ [])
both_databases [] e = cc
both_databases (source ∷ []) e = cc
both_databases (source ∷ dest ∷ []) e = (source, dest, refl)
both_databases (source ∷ dest ∷ other ∷ placed) e = cc

pub two_databases : (words : List (List ℕ)) → fits nothing_copied 1 words ≡ true → length (plain_of (placed_from 1 words)) ≡ 2
two_databases words e = ap length (both_databases (plain_of (placed_from 1 words)) (fit words e).databases).2

pub few : (values : List PlacedWord) → is_once false values ≡ true → length values ≤ 1
few [] e = omega arith
few (value ∷ []) e = omega arith
few (value ∷ other ∷ values) e = cc

given_of : (values : List PlacedWord) → is_once false values ≡ true → (given : Option PlacedWord) × IsGivenOnce values given
given_of [] e = (None, refl)
given_of (value ∷ []) e = (Some value, refl)
given_of (value ∷ other ∷ values) e = cc

-- the lines that values say
abbrev pub lines_of : List PlacedWord → List ConfigLine
lines_of values = map (λ (placed : PlacedWord). line_of placed.word) values

lines_text : (begun : Bool) (values : List PlacedWord) → are_lines begun values ≡ true
    → (map (λ (placed : PlacedWord). placed.word) values ≡ map line_text (lines_of values)) × (list_all (λ line. not (has_colon line.field)) (lines_of values) ≡ true)
lines_text begun [] e = (refl, refl)
lines_text begun (value ∷ values) e =
    let both = both_of (has_colon value.word && (begun || is_named value.word)) (are_lines true values) e in
    let this = text_parted value.word (both_of (has_colon value.word) (begun || is_named value.word) both.0).0 in
    let later = lines_text true values both.1 in
    let text : line_text (line_of value.word) ≡ value.word = this.0 in
    let texts : map (λ (placed : PlacedWord). placed.word) values ≡ map line_text (lines_of values) = later.0 in (
      ap (λ bytes. bytes ∷ map (λ (placed : PlacedWord). placed.word) values) (sym text) ∙ ap (λ others. line_text (line_of value.word) ∷ others) texts,
      ap (λ b. not b && list_all (λ line. not (has_colon line.field)) (lines_of values)) this.1 ∙ later.1,
    )

lines_named : (values : List PlacedWord) → are_lines false values ≡ true → begin_with_name (lines_of values) ≡ true
lines_named [] e = refl
lines_named (value ∷ values) e =
    (both_of (has_colon value.word) (is_named value.word) (both_of (has_colon value.word && is_named value.word) (are_lines true values) e).0).1

pub names_copy : (words : List (List ℕ)) (copy : CopyWords) → fits nothing_copied 1 words ≡ true → plain_of (placed_from 1 words) ≡ copy.source ∷ copy.dest ∷ []
    → IsGivenOnce (values_behind (codes "--pattern=") (placed_from 1 words)) copy.by_name → IsGivenOnce (values_behind (codes "--owner-pattern=") (placed_from 1 words)) copy.by_owner
    → copy.config ≡ lines_of (values_behind (codes "--config=") (placed_from 1 words)) → NamesCopy words copy
names_copy words copy e databases by_name by_owner config =
    let lines = lines_text false (values_behind (codes "--config=") (placed_from 1 words)) (fit words e).config in
    record {
      known = (fit words e).known;
      databases_are = databases;
      by_name_is = by_name;
      by_owner_is = by_owner;
      config_is = lines.0 ∙ ap (map line_text) (sym config);
      parted = ap (list_all (λ line. not (has_colon line.field))) config ∙ lines.1;
      named_first = ap begin_with_name config ∙ lines_named (values_behind (codes "--config=") (placed_from 1 words)) (fit words e).config;
    }

fits_named : (words : List (List ℕ)) → fits nothing_copied 1 words ≡ true → (copy : CopyWords) × NamesCopy words copy
fits_named words e =
    let is = fit words e in
    let databases = both_databases (plain_of (placed_from 1 words)) is.databases in
    let by_name = given_of (values_behind (codes "--pattern=") (placed_from 1 words)) is.by_name in
    let by_owner = given_of (values_behind (codes "--owner-pattern=") (placed_from 1 words)) is.by_owner in
    let copy : CopyWords = record { source = databases.0; dest = databases.1; by_name = by_name.0; by_owner = by_owner.0; config = lines_of (values_behind (codes "--config=") (placed_from 1 words)) } in
    (copy, names_copy words copy e databases.2 by_name.1 by_owner.1 refl)

-- ---- the tool is read so

copy_by : (words : List (List ℕ)) (tool : Tool) → Names (codes "copydb" ∷ words) tool → (copy : CopyWords) × NamesCopy words copy
copy_by words (CopyDb copy) named = (copy, named.1)
copy_by words other named = absurd (other_text (codes "copydb") (word_of other) refl named.0)

-- the databases that are missing
missing : (source dest by_name by_owner config : Bool) → (more : List (List ℕ))
    × (ends_words is_copy (after copy_next (Some (record { source = source; dest = dest; by_name = by_name; by_owner = by_owner; config = config })) more) ≡ true)
missing true true by_name by_owner config = ([], refl)
missing true false by_name by_owner config = (codes "s" ∷ [], refl)
missing false true by_name by_owner config = (codes "s" ∷ [], refl)
missing false false by_name by_owner config = (codes "s" ∷ codes "s" ∷ [], refl)

pub read_copied : IsReadBy (codes "copydb") copy_next nothing_copied is_copy
read_copied = record {
  whole = λ words is. let copy = copy_by words is.0 is.1 in read_fits words nothing_copied 1 ∙ named_fits words copy.0 copy.1;
  named = λ words e. let copy = fits_named words (sym (read_fits words nothing_copied 1) ∙ e) in (CopyDb copy.0, (refl, copy.1));
  goes_on = λ seen. missing seen.source seen.dest seen.by_name seen.by_owner seen.config;
}

pub seen_fits : (words : List (List ℕ)) (seen : CopySeen) → after copy_next (Some nothing_copied) words ≡ Some seen → is_copy seen ≡ true → fits nothing_copied 1 words ≡ true
seen_fits words seen to is = sym (read_fits words nothing_copied 1) ∙ ap (ends_words is_copy) to ∙ is

-- ---- words say one thing

value_after : (field value : List ℕ) → has_colon field ≡ false → after_first (λ byte. byte == colon) (field ++ colon ∷ value) ≡ value
value_after [] value none = after_first-here (λ byte. byte == colon) colon value refl
value_after (byte ∷ field) value none =
    let each : ((byte == colon) ≡ false) × (has_colon field ≡ false) = neither (byte == colon) (has_colon field) none in
    after_first-later (λ b. b == colon) byte (field ++ colon ∷ value) each.0 ∙ value_after field value each.1

one_line : (line other : ConfigLine) → not (has_colon line.field) ≡ true → not (has_colon other.field) ≡ true → line_text line ≡ line_text other → line ≡ other
one_line line other a b same =
    sym (of_text line (not_true (has_colon line.field) a)) ∙ ap line_of same ∙ of_text other (not_true (has_colon other.field) b) where
      of_text : (one : ConfigLine) → has_colon one.field ≡ false → line_of (line_text one) ≡ one
      of_text one none = ap (λ field. record { field = field; value = (line_of (line_text one)).value }) (field_before one.field one.value none)
          ∙ ap (λ value. record { field = one.field; value = value }) (value_after one.field one.value none)

one_config : (lines others : List ConfigLine) → list_all (λ line. not (has_colon line.field)) lines ≡ true → list_all (λ line. not (has_colon line.field)) others ≡ true
    → map line_text lines ≡ map line_text others → lines ≡ others
one_config [] [] a b same = refl
one_config [] (other ∷ others) a b same = cc
one_config (line ∷ lines) [] a b same = cc
one_config (line ∷ lines) (other ∷ others) a b same =
    let parted = both_of (not (has_colon line.field)) (list_all (λ line. not (has_colon line.field)) lines) a in
    let too = both_of (not (has_colon other.field)) (list_all (λ line. not (has_colon line.field)) others) b in
    let texts : line_text line ≡ line_text other = cc in
    let later : map line_text lines ≡ map line_text others = cc in
    let first : line ≡ other = one_line line other parted.0 too.0 texts in
    let rest : lines ≡ others = one_config lines others parted.1 too.1 later in
    cc

same_copy : (copy other : CopyWords) → copy.source ≡ other.source → copy.dest ≡ other.dest → copy.by_name ≡ other.by_name → copy.by_owner ≡ other.by_owner → copy.config ≡ other.config → copy ≡ other
same_copy copy other source dest by_name by_owner config =
    ap (λ one. record { source = one; dest = copy.dest; by_name = copy.by_name; by_owner = copy.by_owner; config = copy.config }) source
    ∙ ap (λ one. record { source = other.source; dest = one; by_name = copy.by_name; by_owner = copy.by_owner; config = copy.config }) dest
    ∙ ap (λ one. record { source = other.source; dest = other.dest; by_name = one; by_owner = copy.by_owner; config = copy.config }) by_name
    ∙ ap (λ one. record { source = other.source; dest = other.dest; by_name = other.by_name; by_owner = one; config = copy.config }) by_owner
    ∙ ap (λ one. record { source = other.source; dest = other.dest; by_name = other.by_name; by_owner = other.by_owner; config = one }) config

pub one_copy : (words : List (List ℕ)) (copy other : CopyWords) → NamesCopy words copy → NamesCopy words other → copy ≡ other
one_copy words copy other a b =
    let databases : copy.source ∷ copy.dest ∷ [] ≡ other.source ∷ other.dest ∷ [] = sym a.databases_are ∙ b.databases_are in
    same_copy copy other (cc) (cc)
    (one_given (values_behind (codes "--pattern=") (placed_from 1 words)) copy.by_name other.by_name a.by_name_is b.by_name_is)
    (one_given (values_behind (codes "--owner-pattern=") (placed_from 1 words)) copy.by_owner other.by_owner a.by_owner_is b.by_owner_is)
    (one_config copy.config other.config a.parted b.parted (sym a.config_is ∙ b.config_is))

-- ---- what is read where the words fit

pub copies_named : (words : List (List ℕ)) (copy : CopyWords) (names owners values shared : List PlacedWord) → fits nothing_copied 1 words ≡ true
    → plain_of (placed_from 1 words) ≡ copy.source ∷ copy.dest ∷ [] → names ≡ values_behind (codes "--pattern=") (placed_from 1 words) → IsGivenOnce names copy.by_name
    → owners ≡ values_behind (codes "--owner-pattern=") (placed_from 1 words) → IsGivenOnce owners copy.by_owner → values ≡ values_behind (codes "--config=") (placed_from 1 words)
    → shared ≡ values → copy.config ≡ lines_of shared → NamesCopy words copy
copies_named words copy names owners values shared e databases names_are by_name owners_are by_owner values_are shared_is config =
    names_copy words copy e databases (subst (λ (ps : List PlacedWord). IsGivenOnce ps copy.by_name) names_are by_name) (subst (λ (ps : List PlacedWord). IsGivenOnce ps copy.by_owner) owners_are by_owner)
    (config ∙ ap lines_of (shared_is ∙ values_are))

-- a text without a colon is the field
no_colon : (text : List ℕ) → has_colon text ≡ false → ((line_of text).field ≡ text) × ((line_of text).value ≡ [])
no_colon [] none = (refl, refl)
no_colon (byte ∷ text) none =
    let each : ((byte == colon) ≡ false) × (has_colon text ≡ false) = neither (byte == colon) (has_colon text) none in
    let later = no_colon text each.1 in
    (before_first-later (λ b. b == colon) byte text each.0 ∙ ap (λ bytes. byte ∷ bytes) later.0, after_first-later (λ b. b == colon) byte text each.0 ∙ later.1)

pub line_read : (text : List ℕ) (parted : Option (Bor (List ℕ) × Bor (List ℕ))) (whole both : Bor (List ℕ) × Bor (List ℕ))
    → MatchOption parted (has_colon text ≡ false) (λ r. (has_colon text ≡ true) × (r.0.now ≡ before_first (λ b. b == colon) text) × (r.1.now ≡ after_first (λ b. b == colon) text))
    → whole.0.now ≡ text → whole.1.now ≡ [] → both ≡ unwrap_or parted whole → (both.0.now ≡ (line_of text).field) × (both.1.now ≡ (line_of text).value)
line_read text (Some r) whole both is first second same = (ap (λ (b : Bor (List ℕ) × Bor (List ℕ)). b.0.now) same ∙ is.1, ap (λ (b : Bor (List ℕ) × Bor (List ℕ)). b.1.now) same ∙ is.2)
line_read text None whole both none first second same =
    let all = no_colon text none in
    (ap (λ (b : Bor (List ℕ) × Bor (List ℕ)). b.0.now) same ∙ first ∙ sym all.0, ap (λ (b : Bor (List ℕ) × Bor (List ℕ)). b.1.now) same ∙ second ∙ sym all.1)
