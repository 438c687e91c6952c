-- One piece of a pipe after another. The proofs alone speak of it: what loading from the link does is said by `LoadsPipe` of
-- PipeLoading.
use Rattle.std.specs.Prelude.{◌≡◌, ◌⊎◌, ◌≤◌, ◌<◌, ℕ, List, [], ◌++◌, length, Bool, true, false, Result, Ok, Err}
use Rattle.std.specs.Io.KnownBytes.{IsAtEnd}
use Rattle.dc_item.specs.Records.{Reads, IsBad}
use Rattle.dc_item.specs.Table.{table_of}
use Rattle.dc_item.specs.declared.entry.Entry.{Entry}
use Rattle.dc_layer.specs.State.{LayerState, without_items}
use Rattle.dc_outside.specs.LinkCalls.{IsLostAt, IsRefused}
use Rattle.dc_outside.specs.State.{LinkState}
use Rattle.dc_save.specs.PipeLoading.{most_piped, HasCome, IsReadWhole, IsReadBroken, IsReadTooLong, IsReadShort}
use Rattle.dc_save.specs.declared.pipe_loading.PieceEnd.{PieceEnd}
use Rattle.dc_save.specs.declared.pipe_loading.PieceEnd.TheVariants as piece
use Rattle.dc_save.specs.declared.pipe_loading.ReadEnd.{ReadEnd}
use Rattle.dc_save.specs.declared.pipe_loading.ReadEnd.TheVariants as whole
use Rattle.dc_save.specs.declared.pipe_loading.PipeLoaded.{PipeLoaded}
use Rattle.dc_save.specs.declared.pipe_loading.PipeLoaded.TheVariants.{Here, LeftOut}
use Rattle.dc_save.specs.declared.pipe_loading.PipeError.{PipeError}
use Rattle.dc_save.specs.declared.pipe_loading.PipeError.TheVariants.{Failed, Damaged, TooLong, OutOfMemory}

-- one more piece came behind the text, and isn't empty
pub record ComesBehind (text more : List ℕ) (old new : LinkState) : Type 0 where
  pub part : List ℕ
  pub some : 0 < length part
  pub more_is : more ≡ text ++ part
  pub came : HasCome part old new
  pub fits : length more ≤ most_piped

-- a piece came that is too long behind the text
pub record ComesOver (text : List ℕ) (old new : LinkState) : Type 0 where
  pub part : List ℕ
  pub came : HasCome part old new
  pub over : most_piped < length (text ++ part)

-- a piece came for which there is no memory
pub record ComesUnkept (text : List ℕ) (old new : LinkState) : Type 0 where
  pub part : List ℕ
  pub came : HasCome part old new
  pub fits : length (text ++ part) ≤ most_piped

-- what reading one more piece behind the text does, by its answer
abbrev pub TakesPiece : List ℕ → List ℕ → LinkState → LinkState → PieceEnd → Type 0
TakesPiece text more old new piece.Came = ComesBehind text more old new
TakesPiece text more old new piece.AtEnd = (more ≡ text) × HasCome [] old new × IsAtEnd new.input
TakesPiece text more old new piece.Broken = IsLostAt old new
TakesPiece text more old new piece.TooLong = ComesOver text old new
TakesPiece text more old new piece.OutOfMemory = IsRefused old new ⊎ ComesUnkept text old new

-- what reading the link to its end does, by its answer
abbrev pub ReadsToEnd : LinkState → LinkState → ReadEnd → Type 0
ReadsToEnd old new (whole.Whole text) = IsReadWhole text old new
ReadsToEnd old new whole.Broken = IsReadBroken old new
ReadsToEnd old new whole.TooLong = IsReadTooLong old new
ReadsToEnd old new whole.OutOfMemory = IsReadShort old new

-- what taking in the text that came does to the layer, by its answer
abbrev pub TakesPiped : List ℕ → LayerState → LayerState → Result PipeLoaded PipeError → Type 0
TakesPiped text layer new (Ok Here) = (records : List Entry) × Reads text records × (new ≡ record layer { table = table_of records })
TakesPiped text layer new (Ok LeftOut) = ⊥
TakesPiped text layer new (Err Failed) = ⊥
TakesPiped text layer new (Err (Damaged line)) = IsBad text line × (new ≡ layer)
TakesPiped text layer new (Err TooLong) = ⊥
TakesPiped text layer new (Err OutOfMemory) = new ≡ layer

-- what a read that failed does to the layer, by its answer
abbrev pub PassesOverPipe : Bool → LayerState → LayerState → Result PipeLoaded PipeError → Type 0
PassesOverPipe required layer new (Ok Here) = ⊥
PassesOverPipe required layer new (Ok LeftOut) = (required ≡ false) × (new ≡ without_items layer)
PassesOverPipe required layer new (Err Failed) = (required ≡ true) × (new ≡ layer)
PassesOverPipe required layer new (Err (Damaged line)) = ⊥
PassesOverPipe required layer new (Err TooLong) = ⊥
PassesOverPipe required layer new (Err OutOfMemory) = ⊥
