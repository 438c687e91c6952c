-- Lines of selections, how they are joined, and what they say.
use Rattle.std.specs.Prelude.{◌≡◌, ℕ, true, false, List, [], ◌∷◌, ◌++◌, None, Some, Ok, Err, codes}
use Rattle.dc_text.specs.Ascii.{newline}
use Rattle.dc_words.specs.Stream.{all_lines}
use Rattle.dc_words.specs.declared.stream.Line.TheVariants.{Whole, TooLong}
use Rattle.dc_template.specs.declared.kinds.Kind.TheVariants.{Str, Bool, Password}
use Rattle.dc_preseed.specs.Joiner.{all_joined}
use Rattle.dc_preseed.specs.Selections.{answer}
use Rattle.dc_preseed.specs.declared.faults.SelectionError.TheVariants.{Bad}
use Rattle.dc_preseed.specs.declared.faults.SelectionFault.TheVariants.{TooFew, BadName, BadType, BadFlagValue}
use Rattle.dc_preseed.specs.declared.joining.Joined.{Joined}
use Rattle.dc_preseed.specs.declared.selections.Selection.TheVariants.{Value, Seen}

abbrev line_at : ℕ → List ℕ → Joined
line_at number bytes = record { first = number; whole = Whole bytes }

-- some lines as a text, and its joined lines
abbrev pub joined_in : List ℕ → List Joined
joined_in text = all_joined (all_lines text)

abbrev ended : List ℕ → List ℕ
ended line = line ++ newline ∷ []

-- how lines are joined
pub record JoinedLines : Type 0 where
  pub page : joined_in (
      ended (codes "# comment") ++ ended (codes "p p/a string one") ++ ended (codes "p p/b string \\") ++ ended (codes "two words")
      ++ ended (codes "p p/a seen false") ++ ended (codes "p p/c")
      ) ≡ line_at 1 (codes "# comment") ∷ line_at 2 (codes "p p/a string one") ∷ line_at 3 (codes "p p/b string two words") ∷ line_at 5 (codes "p p/a seen false")
      ∷ line_at 6 (codes "p p/c") ∷ []
  pub comment : joined_in (ended (codes " # \\") ++ ended (codes "p p/c")) ≡ line_at 1 (codes " # \\") ∷ line_at 2 (codes "p p/c") ∷ []
  pub inside : joined_in (ended (codes "p \\") ++ ended (codes "# x\\") ++ ended (codes "y")) ≡ line_at 1 (codes "p # xy") ∷ []
  pub made : joined_in (ended (codes "\\") ++ ended (codes "# x")) ≡ line_at 1 (codes "# x") ∷ []
  pub last : joined_in (ended (codes "p p/a string a\\")) ≡ line_at 1 (codes "p p/a string a") ∷ []
  pub unended : joined_in (ended (codes "p p/a \\") ++ codes "string\\") ≡ line_at 1 (codes "p p/a string") ∷ []
  pub alone : joined_in (codes "\\") ≡ line_at 1 [] ∷ []
  pub twice : joined_in (ended (codes "a\\\\") ++ ended (codes "b")) ≡ line_at 1 (codes "a\\b") ∷ []
  pub blank : joined_in (ended (codes "a\\") ++ ended [] ++ ended (codes "b")) ≡ line_at 1 (codes "a") ∷ line_at 3 (codes "b") ∷ []
  pub space : joined_in (ended (codes "a\\ ") ++ ended (codes "b")) ≡ line_at 1 (codes "a\\ ") ∷ line_at 2 (codes "b") ∷ []
  pub nothing : joined_in [] ≡ []
  pub long : all_joined (Whole (codes "a\\") ∷ TooLong ∷ Whole (codes "b") ∷ []) ≡ record { first = 1; whole = TooLong } ∷ line_at 3 (codes "b") ∷ []
  pub longer : all_joined (TooLong ∷ Whole (codes "b") ∷ []) ≡ record { first = 1; whole = TooLong } ∷ line_at 2 (codes "b") ∷ []

-- what lines say
pub record Answers : Type 0 where
  pub value : answer (codes "p p/a string one") ≡ Ok (Some (Value (codes "p") (codes "p/a") Str (codes "one")))
  pub words : answer (codes "p p/b string two words") ≡ Ok (Some (Value (codes "p") (codes "p/b") Str (codes "two words")))
  pub spaces : answer (codes "  p\tp/a \t string  one ") ≡ Ok (Some (Value (codes "p") (codes "p/a") Str (codes " one ")))
  pub empty : answer (codes "p p/a string") ≡ Ok (Some (Value (codes "p") (codes "p/a") Str []))
  pub space : answer (codes "p p/a string ") ≡ Ok (Some (Value (codes "p") (codes "p/a") Str []))
  pub tab : answer (codes "p p/a boolean\ttrue") ≡ Ok (Some (Value (codes "p") (codes "p/a") Bool (codes "true")))
  pub return : answer (codes "p p/a password x\r") ≡ Ok (Some (Value (codes "p") (codes "p/a") Password (codes "x\r")))
  pub flag : answer (codes "p p/a seen false") ≡ Ok (Some (Seen (codes "p/a") false))
  pub trimmed : answer (codes "p p/a seen  true\r") ≡ Ok (Some (Seen (codes "p/a") true))

-- lines that say nothing
pub record SilentLines : Type 0 where
  pub none : answer [] ≡ Ok None
  pub blank : answer (codes " \t\r") ≡ Ok None
  pub comment : answer (codes "# p p/a string one") ≡ Ok None
  pub indented : answer (codes "\t #") ≡ Ok None

-- the faults of lines, of which the first decides
pub record Faults : Type 0 where
  pub few : answer (codes "p p/c") ≡ Err (Bad TooFew)
  pub one : answer (codes "a,b") ≡ Err (Bad TooFew)
  pub owner : answer (codes "a,b p/a string x") ≡ Err (Bad BadName)
  pub question : answer (codes "p a//b none x") ≡ Err (Bad BadName)
  pub kind : answer (codes "p a/b String x") ≡ Err (Bad BadType)
  pub flag : answer (codes "p a/b seen yes") ≡ Err (Bad BadFlagValue)
  pub unset : answer (codes "p a/b seen") ≡ Err (Bad BadFlagValue)
  pub both : answer (codes "p a/b Seen yes") ≡ Err (Bad BadType)
