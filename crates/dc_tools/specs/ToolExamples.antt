-- What the tools write and copy, worked out.
use Rattle.std.specs.Prelude.{◌≡◌, true, false, ℕ, List, [], ◌∷◌, ◌++◌, None, Some, map as each, codes}
use Rattle.std.specs.List.{list_any}
use Rattle.dc_text.specs.Ascii.{newline, backslash, letter_n}
use Rattle.dc_text.specs.Lines.{text_of}
use Rattle.dc_conf.specs.Configuration.{configuration}
use Rattle.dc_conf.specs.Stanzas.{stanzas, fields_of}
use Rattle.dc_layer.specs.Patterns.{Sought}
use Rattle.dc_template.specs.declared.kinds.Kind.TheVariants.{Str, Password}
use Rattle.dc_tools.specs.Copying.{finds}
use Rattle.dc_tools.specs.Listing.{databases_text_of}
use Rattle.dc_tools.specs.Showing.{question_line}

-- the lines of questions: with a value; a password; one that was seen; without a value; of two lines; without a kind; a password
-- without a value
pub record Lines : Type 0 where
  pub valued : question_line false (codes "p/a") (Some Str) (codes "one") ≡ codes "  p/a: one"
  pub secret : question_line false (codes "p/secret") (Some Password) (codes "hush") ≡ codes "  p/secret: (password omitted)"
  pub seen : question_line true (codes "p/a") (Some Str) (codes "one") ≡ codes "* p/a: one"
  pub unset : question_line false (codes "p/a") (Some Str) [] ≡ codes "  p/a:"
  pub long : question_line false (codes "p/a") (Some Str) (codes "a" ++ newline ∷ codes "b") ≡ codes "  p/a: a" ++ backslash ∷ letter_n ∷ codes "b"
  pub kindless : question_line false (codes "p/a") None (codes "one") ≡ codes "  p/a: one"
  pub no_secret : question_line true (codes "p/secret") (Some Password) [] ≡ codes "* p/secret: (password omitted)"

-- the configuration of a machine
abbrev pub usual_text : List ℕ
usual_text = text_of (codes "Config: configdb" ∷ codes "Templates: templatedb" ∷ []
    ∷ codes "Name: config" ∷ codes "Driver: File" ∷ codes "Mode: 644" ∷ codes "Reject-Type: password" ∷ codes "Filename: config.dat" ∷ []
    ∷ codes "Name: passwords" ∷ codes "Driver: File" ∷ codes "Mode: 600" ∷ codes "Backup: false" ∷ codes "Required: false" ∷ codes "Accept-Type: password" ∷ codes "Filename: passwords.dat" ∷ []
    ∷ codes "Name: configdb" ∷ codes "Driver: Stack" ∷ codes "Stack: config, passwords" ∷ []
    ∷ codes "Name: templatedb" ∷ codes "Driver: File" ∷ codes "Mode: 644" ∷ codes "Filename: templates.dat" ∷ [])

-- its databases, in the order of the file
pub record Databases : Type 0 where
  pub usual : databases_text_of (configuration (each fields_of (stanzas usual_text)))
      ≡ text_of (codes "config" ∷ codes "passwords" ∷ codes "configdb" ∷ codes "templatedb" ∷ [])

-- a pattern in which case counts
abbrev pub pattern : List ℕ → Sought
pattern text = record { text = text; ignore_case = false }

-- in which names and owners patterns are found
pub record Chosen : Type 0 where
  pub named : finds (pattern (codes "^a/")) (codes "a/b") ≡ true
  pub other : finds (pattern (codes "^a/")) (codes "c/d") ≡ false
  pub case : finds (pattern (codes "^A/")) (codes "a/b") ≡ false
  pub owned : list_any (finds (pattern (codes "^q$"))) (codes "p" ∷ codes "q" ∷ []) ≡ true
  pub not_owned : list_any (finds (pattern (codes "^q$"))) (codes "p" ∷ codes "qq" ∷ []) ≡ false
