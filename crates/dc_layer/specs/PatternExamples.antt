-- Patterns that are sought in some bytes.
use Rattle.std.specs.Prelude.{◌≡◌, ℕ, true, false, List, [], None, Some, codes}
use Rattle.dc_template.specs.declared.kinds.Kind.TheVariants.{Txt, Password}
use Rattle.dc_layer.specs.Patterns.{core_of, is_plain, is_found, is_pattern}
use Rattle.dc_layer.specs.Rules.{Rules, accepts}

-- what remains of a plain pattern
pub record Cores : Type 0 where
  pub both : core_of (codes "^a/b$") ≡ codes "a/b"
  pub front : core_of (codes "^a/b") ≡ codes "a/b"
  pub once : core_of (codes "^^a") ≡ codes "^a"
  pub twice : core_of (codes "a$$") ≡ codes "a$"
  pub none : core_of (codes "^$") ≡ []

-- which patterns are plain
pub record PlainPatterns : Type 0 where
  pub none : is_plain [] ≡ true
  pub front : is_plain (codes "^") ≡ true
  pub end : is_plain (codes "$") ≡ true
  pub each : is_plain (codes "^aZ09/-_:$") ≡ true
  pub dot : is_plain (codes "a.b") ≡ false
  pub once : is_plain (codes "^^a") ≡ false
  pub inside : is_plain (codes "a^b") ≡ false
  pub space : is_plain (codes "a b") ≡ false

-- where plain patterns are found
pub record PlainAnswers : Type 0 where
  pub inside : is_found false (codes "b/c") (codes "a/b/c/d") ≡ true
  pub absent : is_found false (codes "b/d") (codes "a/b/c/d") ≡ false
  pub front : is_found false (codes "^a/b") (codes "a/b/c") ≡ true
  pub behind : is_found false (codes "^b") (codes "a/b/c") ≡ false
  pub end : is_found false (codes "c$") (codes "c/b/c") ≡ true
  pub before : is_found false (codes "b$") (codes "a/b/c") ≡ false
  pub whole : is_found false (codes "^a/b$") (codes "a/b") ≡ true
  pub longer : is_found false (codes "^a/b$") (codes "a/b/a/b") ≡ false
  pub case : is_found false (codes "A") (codes "a") ≡ false
  pub either : is_found true (codes "Apt") (codes "x/aPT") ≡ true
  pub nothing : is_found false [] [] ≡ true
  pub anything : is_found false [] (codes "a") ≡ true
  pub starts : is_found false (codes "^") (codes "a") ≡ true
  pub ends : is_found false (codes "$") (codes "a") ≡ true
  pub empty : is_found false (codes "^$") [] ≡ true
  pub other : is_found false (codes "^$") (codes "a") ≡ false

-- where regular expressions are found
pub record OtherAnswers : Type 0 where
  pub some : is_found false (codes "ab+c") (codes "x/abbc") ≡ true
  pub none : is_found false (codes "ab+c") (codes "x/ac") ≡ false
  pub case : is_found false (codes "ab+c") (codes "ABBC") ≡ false
  pub choice : is_found false (codes "^(apt|man)/") (codes "man/x") ≡ true
  pub front : is_found false (codes "^(apt|man)/") (codes "x/man/x") ≡ false
  pub end : is_found false (codes "/(x|y)$") (codes "man/x") ≡ true

-- which texts are no patterns
pub record NoPatterns : Type 0 where
  pub unclosed : is_pattern true (codes "(a") ≡ false
  pub repeat : is_pattern true (codes "*") ≡ false
  pub closed : is_pattern true (codes "(a)") ≡ true

-- rules with one pattern, or none
abbrev pub no_rules : Rules
no_rules = record { accept_name = None; reject_name = None; accept_type = None; reject_type = None }

abbrev pub accepting_name : List ℕ → Rules
accepting_name pattern = record no_rules { accept_name = Some pattern }

abbrev pub rejecting_name : List ℕ → Rules
rejecting_name pattern = record no_rules { reject_name = Some pattern }

abbrev pub accepting_type : List ℕ → Rules
accepting_type pattern = record no_rules { accept_type = Some pattern }

abbrev pub rejecting_type : List ℕ → Rules
rejecting_type pattern = record no_rules { reject_type = Some pattern }

-- which items rules accept
pub record RuleAnswers : Type 0 where
  pub all : accepts no_rules (codes "a/b") None ≡ true
  pub named : accepts (accepting_name (codes "^A/")) (codes "a/b") (Some Txt) ≡ true
  pub unnamed : accepts (accepting_name (codes "^b")) (codes "a/b") (Some Txt) ≡ false
  pub left_out : accepts (rejecting_name (codes "B$")) (codes "a/b") None ≡ false
  pub left_in : accepts (rejecting_name (codes "c")) (codes "a/b") None ≡ true
  pub typed : accepts (accepting_type (codes "Pass")) (codes "a/b") (Some Password) ≡ true
  pub untyped : accepts (accepting_type (codes "Pass")) (codes "a/b") (Some Txt) ≡ false
  pub no_kind : accepts (accepting_type (codes "Pass")) (codes "a/b") None ≡ true
  pub type_out : accepts (rejecting_type (codes "Pass")) (codes "a/b") (Some Password) ≡ false
  pub type_in : accepts (rejecting_type (codes "Pass")) (codes "a/b") (Some Txt) ≡ true
  pub kindless : accepts (rejecting_type (codes "Pass")) (codes "a/b") None ≡ true
