-- What `regex` ensures of a text that it reads, in the words of patterns.
use Rattle.std.proofs.Common.{length, ◌≡◌, ◌≢◌, ◌⊎◌, ℕ, ◌<◌, ◌≤◌, Bool, true, false, ◌&&◌, ◌||◌, List, [], ◌∷◌, get_or, Option, None, Some, IsSomeAnd, is_some, IsUtf8, inl, inr, refl, ap, ◌∙◌, ⊎_elim}
use Rattle.std.proofs.lemmas.Bool.{le-leb, lt-leb, cases_Bool}
use Rattle.std.proofs.lemmas.Str.{IsUtf8-from_is_utf8}
use Rattle.std.specs.Prelude.{IfSome}
use Rattle.std.specs.Str.{is_utf8}
use Rattle.regex_syntax.specs.Brackets.{Nested}
use Rattle.regex_syntax.specs.Grammar.{Names, group_count, read}
use Rattle.regex_syntax.specs.Verdict.{Reads, Refuses}
use Rattle.regex_syntax.specs.declared.error.ErrorKind.{ErrorKind}
use Rattle.regex_syntax.specs.declared.error.ErrorKind.TheVariants.{OutOfMemory, NestLimitExceeded}
use Rattle.regex.specs.Patterns.{Re, SameCaptures, find}
use Rattle.regex.specs.Names.{names_of}
use Rattle.regex.specs.Failures.{IsPattern}
use Rattle.regex.specs.Bytes.{regex_pattern, regex_source, regex_config, IsReadFromSource}
use Rattle.regex.specs.declared.bytes.regex.Regex.{Regex}
use Rattle.regex.specs.Patterns.{Config, default_config}
use Rattle.regex.specs.Views.{builder_config, builder_flags, with_flags}
use Rattle.regex.specs.declared.builder.RegexBuilder.{RegexBuilder}
use Rattle.regex.proofs.ForCallers.{is_match_alike}
use Rattle.dc_layer.specs.Patterns.{stands, stands_somewhere, options, reading, is_built, matches_in, is_plain, is_pattern, IsReadIn, HasItsRegex}

-- the tree and the names are what was read, within the limit
abbrev IsRead : Re → Names → Option (Nested Re × Names) → Type 0
IsRead a names read = IsSomeAnd read (λ (re, found). (re.depth ≤ 250) × SameCaptures a re.value × (names ≡ found) × (group_count a ≤ length names))

built : (o : Option (Nested Re × Names)) (a : Re) (names : Names) → IsRead a names o → is_built o ≡ true
built None a names h = absurd h
built (Some found) a names h = le-leb _ _ h.0

alike : (o : Option (Nested Re × Names)) (a : Re) (names : Names) → IsRead a names o →
    (bytes : List ℕ) → ((k : ℕ) → get_or bytes k 0 < 256) → is_some (find a bytes 0) ≡ matches_in o bytes
alike None a names h bytes small = absurd h
alike (Some found) a names h bytes small = is_match_alike h.1 bytes small false 0

refused : (o : Option (Nested Re × Names)) (kind : ErrorKind) → kind ≢ OutOfMemory →
    (kind ≡ OutOfMemory) ⊎ ((o ≡ None) ⊎ ((kind ≡ NestLimitExceeded) × IfSome o (λ (re, _). 250 < re.depth))) → is_built o ≡ false
refused None kind memory h = refl
refused (Some found) kind memory h =
    ⊎_elim (λ e. absurd (memory e)) (λ g. ⊎_elim (λ (e : Some found ≡ None). absurd (cc)) (λ deep. lt-leb _ _ deep.1) g) h

-- what is read in a text is a pattern
pub built_of_Reads : (ignore_case : Bool) (text : List ℕ) (hir : _) (names : Names) → Reads (options ignore_case) text hir names →
    is_built (reading ignore_case text) ≡ true
unfolding Reads
built_of_Reads ignore_case text hir names h = built (reading ignore_case text) _ names h

pub built_of_IsPattern : (ignore_case : Bool) (text : List ℕ) → IsPattern (options ignore_case) text → is_built (reading ignore_case text) ≡ true
built_of_IsPattern ignore_case text h = built_of_Reads ignore_case text h.0 h.1 h.2

-- a text that is refused is none
pub none_of_Refuses : (ignore_case : Bool) (text : List ℕ) (kind : ErrorKind) → kind ≢ OutOfMemory → Refuses (options ignore_case) text kind →
    is_built (reading ignore_case text) ≡ false
unfolding Refuses
none_of_Refuses ignore_case text kind memory h = refused (reading ignore_case text) kind memory h

-- UTF-8 that is read is a pattern, and UTF-8 that isn't is none but a plain one
pub pattern_of_built : (ignore_case : Bool) (text : List ℕ) → is_utf8 text ≡ true → is_built (reading ignore_case text) ≡ true → is_pattern ignore_case text ≡ true
pattern_of_built ignore_case text utf8 read =
    ap (λ b. is_plain text || (b && is_built (reading ignore_case text))) utf8 ∙ ap (λ b. is_plain text || b) read ∙ or-true (is_plain text)
  where
    or-true : (b : Bool) → (b || true) ≡ true
    or-true true = refl
    or-true false = refl

pub none_of_built : (ignore_case : Bool) (text : List ℕ) → is_plain text ≡ false → (is_utf8 text && is_built (reading ignore_case text)) ≡ false → is_pattern ignore_case text ≡ false
none_of_built ignore_case text plain none = ap (λ b. b || (is_utf8 text && is_built (reading ignore_case text))) plain ∙ none

module _ (ignore_case : Bool) (text : List ℕ) (r : Regex) (is_source : regex_source r ≡ text) (is_config : regex_config r ≡ options ignore_case)
    (is_read : IsReadFromSource r) where
  reads : Reads (options ignore_case) text r.pattern.program.hir (names_of r.pattern.names.items)
  reads = rw (is_source, is_config) at is_read

  finds : (bytes : List ℕ) → ((k : ℕ) → get_or bytes k 0 < 256) → is_some (find (regex_pattern r) bytes 0) ≡ matches_in (reading ignore_case text) bytes
  unfolding Reads
  finds = alike (reading ignore_case text) (regex_pattern r) (names_of r.pattern.names.items) reads

  -- what is compiled of UTF-8 is what is read in it
  pub read_in : is_utf8 text ≡ true → IsReadIn ignore_case text r
  read_in utf8 = record { pattern = pattern_of_built ignore_case text utf8 (built_of_Reads ignore_case text _ _ reads); matches = finds }

-- what has its regex is a pattern
pub pattern_of_regex : (ignore_case : Bool) (text : List ℕ) (regex : Option Regex) → HasItsRegex ignore_case text regex → is_pattern ignore_case text ≡ true
pattern_of_regex ignore_case text None plain = ap (λ b. b || (is_utf8 text && is_built (reading ignore_case text))) plain
pattern_of_regex ignore_case text (Some regex) h = h.1.pattern

-- the options of a builder that ignores case where it must
pub options_of : (new builder : RegexBuilder) (ignore_case : Bool) → builder_config new ≡ default_config →
    builder ≡ with_flags new (record (builder_flags new) { case_insensitive = ignore_case }) → (record (builder_config builder) { utf8 = false }) ≡ options ignore_case
options_of new builder ignore_case first set =
    let as_bytes : RegexBuilder → Config = λ b. record (builder_config b) { utf8 = false } in
    let ignoring : Config → Config = λ config. record config { flags = record config.flags { case_insensitive = ignore_case }; utf8 = false } in
    let one : as_bytes builder ≡ ignoring (builder_config new) = ap as_bytes set in
    one ∙ ap ignoring first

-- a test of UTF-8 that fails
pub is_utf8-other : (text : List ℕ) → (IsUtf8 text → ⊥) → is_utf8 text ≡ false
is_utf8-other text none = elim (cases_Bool (is_utf8 text)) [ inl e ↦ absurd (none (IsUtf8-from_is_utf8 text e)) | inr e ↦ e ]

-- the core stands somewhere where it stands at the front
pub somewhere_at_front : (ignore_case at_end : Bool) (core bytes : List ℕ) → stands ignore_case at_end core bytes ≡ true → stands_somewhere ignore_case at_end core bytes ≡ true
somewhere_at_front ignore_case at_end core [] e = e
somewhere_at_front ignore_case at_end core (byte ∷ bytes) e = ap (λ b. b || stands_somewhere ignore_case at_end core bytes) e
