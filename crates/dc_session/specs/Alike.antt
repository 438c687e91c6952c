-- Sessions that differ in their terminals alone, and there only in how the bytes came, and in what stands on standard error.
use Rattle.std.specs.Prelude.{◌≡◌, ⊤, ℕ, List, [], ◌∷◌}
use Rattle.dc_outside.specs.LinkCalls.{Tells}
use Rattle.dc_outside.specs.declared.link.Piece.{Piece}
use Rattle.dc_serve.specs.Execution.{Transition}
use Rattle.dc_serve.specs.Said.{said}
use Rattle.dc_teletype.specs.Typed.{AreTerminalsAlike}
use Rattle.dc_session.specs.SessionState.{LinkState, ScreenState, SessionState, typed_at}

-- the terminals or wires are alike, and as many lines of a wire came there
pub record AreScreensAlike (one other : ScreenState) : Type 0 where
  pub terminals : AreTerminalsAlike (typed_at one) (typed_at other)
  pub got : one.ahead.got ≡ other.ahead.got

-- the sessions are the same but for their terminals, which are alike, and for standard error
pub record AreAlike (one other : SessionState) : Type 0 where
  pub rest : other ≡ record one { terminal = other.terminal; err = other.err }
  pub terminals : AreScreensAlike one.terminal other.terminal

-- the session is the same but for standard error
abbrev pub IsSameButErr : SessionState → SessionState → Type 0
IsSameButErr one other = other ≡ record one { err = other.err }

-- turn by turn the same is replied, and what is left is the same but for standard error
abbrev pub AreTransitionsSame : List (Transition SessionState) → List (Transition SessionState) → Type 0
AreTransitionsSame [] [] = ⊤
AreTransitionsSame [] (other ∷ others) = ⊥
AreTransitionsSame (one ∷ ones) [] = ⊥
AreTransitionsSame (one ∷ ones) (other ∷ others) = (one.did ≡ other.did) × IsSameButErr one.new other.new × AreTransitionsSame ones others

-- turn by turn the same is replied, and what is left is alike
abbrev pub AreTransitionsAlike : List (Transition SessionState) → List (Transition SessionState) → Type 0
AreTransitionsAlike [] [] = ⊤
AreTransitionsAlike [] (other ∷ others) = ⊥
AreTransitionsAlike (one ∷ ones) [] = ⊥
AreTransitionsAlike (one ∷ ones) (other ∷ others) = (one.did ≡ other.did) × AreAlike one.new other.new × AreTransitionsAlike ones others

-- turn by turn the same files are left, as far as both go
abbrev pub AreFilesAlike : List (Transition SessionState) → List (Transition SessionState) → Type 0
AreFilesAlike [] others = ⊤
AreFilesAlike (one ∷ ones) [] = ⊤
AreFilesAlike (one ∷ ones) (other ∷ others) = (one.new.files ≡ other.new.files) × AreFilesAlike ones others

-- two runs sent the same replies, and the same last code, and what they left is alike
pub record EndAlike (pieces others : List Piece) (code other_code : ℕ) (one other : SessionState) : Type 0 where
  pub replies : said pieces ≡ said others
  pub code_is : code ≡ other_code
  pub states : AreAlike one other

-- the texts are told on a link, one after another
abbrev pub TellsEach : List (List ℕ) → LinkState → LinkState → Type 0
TellsEach [] old new = new ≡ old
TellsEach (text ∷ texts) old new = (mid : LinkState) × Tells text old mid × TellsEach texts mid new

-- the same texts were told on two links
pub record TellSame (one new other last : LinkState) : Type 0 where
  pub texts : List (List ℕ)
  pub one_tells : TellsEach texts one new
  pub other_tells : TellsEach texts other last
