-- How the lines of the wire are read: what each line completes, goes on with, or can't be.
use Rattle.std.specs.Prelude.{◌≡◌, ℕ, Bool, true, List, [], ◌∷◌, ◌++◌, map as each, Option, Some, None, Result, Ok, Err, option_to_list}
use Rattle.dc_words.specs.declared.stream.Line.{Line}
use Rattle.dc_words.specs.declared.stream.Line.TheVariants.{Whole}
use Rattle.dc_frontend.specs.declared.shown.Shown.{Shown}
use Rattle.dc_teletype.specs.declared.teletype.Asked.{Asked}
use Rattle.dc_pass.specs.declared.calls.WireCall.{WireCall}
use Rattle.dc_pass.specs.declared.calls.WireError.{WireError}
use Rattle.dc_pass.specs.declared.calls.WireError.TheVariants.{Bad, OutOfMemory}
use Rattle.dc_pass.specs.Wire.{call_lines, is_call, reply_lines, is_reply}

-- a form of what is sent: what may be said, and the lines that say it
pub record Form (X : Type 0) : Type 0 where
  pub is : X → Bool
  pub lines : X → List (List ℕ)

-- what a session sends
abbrev pub calls : Form WireCall
calls = record { is = is_call; lines = call_lines }

-- what the other end sends when these questions were asked
abbrev pub replies : Bool → List Shown → Form Asked
replies backup shown = record { is = is_reply backup shown; lines = reply_lines }

-- something of the form begins with these lines, and these stand behind them in it
pub record IsFront {X : Type 0} (form : Form X) (lines behind : List Line) : Type 0 where
  pub whole : X
  pub is : form.is whole ≡ true
  pub lines_are : each Whole (form.lines whole) ≡ lines ++ behind

-- these lines are of something that isn't whole yet
pub record GoesOn {X : Type 0} (form : Form X) (lines : List Line) : Type 0 where
  pub next : Line
  pub behind : List Line
  pub front : IsFront form lines (next ∷ behind)

-- these lines are all of this
pub record IsWhole {X : Type 0} (form : Form X) (lines : List Line) (whole : X) : Type 0 where
  pub is : form.is whole ≡ true
  pub lines_are : each Whole (form.lines whole) ≡ lines

-- nothing of the form begins with these lines
abbrev pub AreUnreadable : {X : Type 0} → Form X → List Line → Type 0
AreUnreadable form lines = (behind : List Line) → IsFront form lines behind → ⊥

-- What one more line makes of lines that aren't whole yet: it goes on with them, completes them, or is the first that the form doesn't
-- allow. Behind that, and where memory runs out, there are no lines.
abbrev pub Takes : {X : Type 0} → Form X → List Line → Line → Result (Option X) WireError → List Line → Type 0
Takes form old line (Ok None) new = GoesOn form new × (new ≡ old ++ line ∷ [])
Takes form old line (Ok (Some whole)) new = IsWhole form (old ++ line ∷ []) whole × (new ≡ [])
Takes form old line (Err Bad) new = AreUnreadable form (old ++ line ∷ []) × (new ≡ [])
Takes form old line (Err OutOfMemory) new = new ≡ []

-- these lines, one after another, are taken as these
abbrev pub AreTaken : {X : Type 0} → Form X → List Line → List Line → List X → List Line → Type 0
AreTaken form old [] all new = (all ≡ []) × (new ≡ old)
AreTaken {X} form old (line ∷ lines) all new =
    (taken : Option X) × (between : List Line) × (others : List X)
    × Takes form old line (Ok taken) between × (all ≡ option_to_list taken ++ others) × AreTaken form between lines others new
