-- The line that tells of an end on standard error.
use Rattle.std.specs.Prelude.{◌≡◌, ◌⊎◌, ℕ, ◌≤◌, List, [], ◌∷◌, ◌++◌, codes, decimal}
use Rattle.std.specs.List.{flat_map}
use Rattle.dc_outside.specs.State.{LinkState}
use Rattle.dc_text.specs.Ascii.{newline}
use Rattle.dc_outside.specs.declared.link.Piece.{Piece}
use Rattle.dc_outside.specs.Talk.{then_pieces, got, sent}
use Rattle.dc_outside.specs.Counts.{Rose}
use Rattle.dc_outside.specs.Counts.{Counts}
use Rattle.dc_run.specs.declared.outcome.End.{End}
use Rattle.dc_run.specs.declared.outcome.End.TheVariants as end
use Rattle.dc_run.specs.declared.outcome.PatternAt.{PatternAt}
use Rattle.dc_run.specs.declared.outcome.PatternAt.TheVariants.{Database, Word}
use Rattle.dc_run.specs.Kinds.{kind_word}

-- where the refused pattern stands
abbrev pub place_text : PatternAt → List ℕ
place_text (Database place) = codes ", database " ++ decimal place
place_text (Word word) = codes ", word " ++ decimal word

-- what is told of an end: nothing where the run did all
abbrev pub end_line : End → List ℕ
end_line end.Done = []
end_line (end.Usage word) = codes "dckit: usage, word " ++ decimal word ++ newline ∷ []
end_line (end.ConfRefused at kind) = codes "dckit: configuration, line " ++ decimal at ++ codes ": " ++ kind_word kind ++ newline ∷ []
end_line (end.BadPattern at) = codes "dckit: bad pattern" ++ place_text at ++ newline ∷ []
end_line (end.PatternTooLarge at) = codes "dckit: pattern too large" ++ place_text at ++ newline ∷ []
end_line (end.Damaged path at) = codes "dckit: " ++ path ++ codes ": damaged, line " ++ decimal at ++ newline ∷ []
end_line end.OutOfMemory = codes "dckit: out of memory" ++ newline ∷ []
end_line (end.FilesFault path) = codes "dckit: " ++ path ++ codes ": read or write failed" ++ newline ∷ []
end_line end.LinkFault = codes "dckit: link failed" ++ newline ∷ []
end_line end.TermFault = codes "dckit: terminal failed" ++ newline ∷ []
end_line end.ChildFault = codes "dckit: child failed" ++ newline ∷ []
end_line end.TooLong = codes "dckit: input too long" ++ newline ∷ []
end_line (end.BadWire at) = codes "dckit: other end, line " ++ decimal at ++ codes ": unreadable" ++ newline ∷ []

-- a call failed or was refused for want of memory, and its count rose
pub record HasRisen (before now : Counts) : Type 0 where
  pub faults : before.faults ≤ now.faults
  pub refusals : before.refusals ≤ now.refusals
  pub one : Rose before.faults now.faults ⊎ Rose before.refusals now.refusals

-- The text falls into parts, of each of which a front was sent: all of it, some or nothing.
pub record IsSentInParts (text bytes : List ℕ) : Type 0 where
  pub parts : List (List ℕ × List ℕ)
  pub text_is : text ≡ flat_map (λ part. part.0 ++ part.1) parts
  pub bytes_are : bytes ≡ flat_map (λ part. part.0) parts

-- A text was said on a link, in pieces, and nothing was read: all of it, unless a call wasn't done. Then bytes of it are left out, and no other
-- are sent; what stands behind them is said too.
pub record HasSaid (text : List ℕ) (old new : LinkState) : Type 0 where
  pub pieces : List Piece
  pub state : new ≡ record old { talk = then_pieces old.talk pieces; counts = new.counts }
  pub none_got : got pieces ≡ []
  pub in_parts : IsSentInParts text (sent pieces)
  pub whole : ((new.counts ≡ old.counts) × (sent pieces ≡ text)) ⊎ HasRisen old.counts new.counts
