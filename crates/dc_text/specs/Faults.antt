-- Grammars by lines. What a line says is one thing. Whether it stands where it does, or which fault it has there, is
-- another: that depends on the lines before it and, in some formats, on those after it.
use Rattle.std.specs.Prelude.{◌≡◌, List, [], ◌∷◌, ◌++◌, Result, Ok, Err}

-- wherever the lines are parted into those before a line, the line, and those after it, the line stands there
abbrev pub AllStand : {L : Type 0} → (List L → L → List L → Type 0) → List L → Type 0
AllStand {L} Stands lines = (before after : List L) (line : L) → lines ≡ before ++ line ∷ after → Stands before line after

-- this line has this fault, and each line before it stands
pub record IsFirstFault {L K : Type 0} (Stands : List L → L → List L → Type 0) (HasFault : List L → L → List L → K → Type 0)
    (lines : List L) (line : L) (kind : K) : Type 0 where
  pub before : List L
  pub after : List L
  pub whole : lines ≡ before ++ line ∷ after
  pub here : HasFault before line after kind
  pub none : (b more : List L) (l : L) → before ≡ b ++ l ∷ more → Stands b l (more ++ line ∷ after)

abbrev pub goes_on : {S T F : Type 0} → Result S F → (S → Result T F) → Result T F
goes_on (Ok s) f = f s
goes_on (Err fault) f = Err fault

-- what a reader that takes one line after another makes of the lines, or the first line that it refuses and its fault; a
-- step sees the lines that come
abbrev pub run : {S L K : Type 0} → (S → L → List L → Result S (L × K)) → List L → S → Result S (L × K)
run step [] s = Ok s
run step (line ∷ lines) s = goes_on (step s line lines) (λ t. run step lines t)
