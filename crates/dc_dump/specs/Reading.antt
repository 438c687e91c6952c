-- What is said, as `set-selections` reads it: which lines stand alone, and how they are joined.
use Rattle.std.specs.Prelude.{◌≡◌, ℕ, ◌+◌, Bool, true, false, ◌&&◌, List, [], ◌∷◌}
use Rattle.std.specs.List.{list_all}
use Rattle.dc_text.specs.Lines.{has_newline}
use Rattle.dc_text.specs.Names.{is_name}
use Rattle.dc_words.specs.declared.stream.Line.TheVariants.{Whole}
use Rattle.dc_preseed.specs.Joining.{is_alone, counted}
use Rattle.dc_preseed.specs.declared.joining.Joined.{Joined}
use Rattle.dc_dump.specs.AnswerLines.{is_short}
use Rattle.dc_dump.specs.declared.answers.Answer.{Answer}

-- the question and its owners have names, as those of items are
abbrev pub is_named : List ℕ → Answer → Bool
is_named name answer = is_name name && list_all is_name answer.owners

-- a line that is joined with no other: it has no newline, isn't too long, and doesn't go on
pub record StandsAlone (line : List ℕ) : Type 0 where
  pub one : has_newline line ≡ false
  pub short : is_short line ≡ true
  pub alone : is_alone (Whole line) ≡ true

-- lines as they are joined where each stands alone: as they are, each with its number, of which this is the first
abbrev pub numbered : ℕ → List (List ℕ) → List Joined
numbered number [] = []
numbered number (line ∷ lines) = record { first = counted number; whole = Whole line } ∷ numbered (number + 1) lines
