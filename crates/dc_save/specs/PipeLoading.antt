-- Loading a database that comes through a pipe: the link is read to its end, and what came is its text of records.
use Rattle.std.specs.Prelude.{◌≡◌, ◌≤◌, ◌<◌, ◌⊎◌, ℕ, Bool, true, false, List, length, map as each, Result, Ok, Err}
use Rattle.std.specs.List.{concat}
use Rattle.std.specs.Io.KnownBytes.{prepend_known, IsAtEnd}
use Rattle.dc_item.specs.Records.{Reads, IsBad}
use Rattle.dc_item.specs.Table.{table_of}
use Rattle.dc_item.specs.declared.entry.Entry.{Entry}
use Rattle.dc_conf.specs.declared.spec.LayerSpec.{LayerSpec}
use Rattle.dc_layer.specs.State.{LayerState, without_items}
use Rattle.dc_outside.specs.LinkCalls.{IsLostAt, IsRefused}
use Rattle.dc_outside.specs.State.{LinkState}
use Rattle.dc_outside.specs.Talk.{then_pieces}
use Rattle.dc_outside.specs.declared.link.Piece.TheVariants.{Got}
use Rattle.dc_save.specs.Found.{IsSameButTable}
use Rattle.dc_save.specs.declared.pipe_loading.PipeLoaded.{PipeLoaded}
use Rattle.dc_save.specs.declared.pipe_loading.PipeLoaded.TheVariants.{Here, LeftOut}
use Rattle.dc_save.specs.declared.pipe_loading.PipeError.{PipeError}
use Rattle.dc_save.specs.declared.pipe_loading.PipeError.TheVariants.{Failed, Damaged, TooLong, OutOfMemory}

-- so many bytes may come through a pipe: 64 MiB
abbrev pub most_piped : ℕ
most_piped = 67108864

-- This text came on the link, in parts, and nothing else was done on it.
pub record HasCome (text : List ℕ) (old new : LinkState) : Type 0 where
  pub parts : List (List ℕ)
  pub text_is : text ≡ concat parts
  pub took : old.input ≡ prepend_known text new.input
  pub state : new ≡ record old { talk = then_pieces old.talk (each Got parts); input = new.input }

-- the link was read to its end, and this text came, which isn't too long
pub record IsReadWhole (text : List ℕ) (old new : LinkState) : Type 0 where
  pub came : HasCome text old new
  pub at_end : IsAtEnd new.input
  pub fits : length text ≤ most_piped

-- a read failed, behind a text that isn't too long
pub record IsReadBroken (old new : LinkState) : Type 0 where
  pub text : List ℕ
  pub mid : LinkState
  pub came : HasCome text old mid
  pub fits : length text ≤ most_piped
  pub lost : IsLostAt mid new

-- more came than may
pub record IsReadTooLong (old new : LinkState) : Type 0 where
  pub text : List ℕ
  pub came : HasCome text old new
  pub over : most_piped < length text

-- memory ran out behind a text that isn't too long: the link refused a read, or it was the program's own
pub record IsReadShort (old new : LinkState) : Type 0 where
  pub text : List ℕ
  pub mid : LinkState
  pub came : HasCome text old mid
  pub fits : length text ≤ most_piped
  pub ran_out : (new ≡ mid) ⊎ IsRefused mid new

-- what came has a reading, and the layer has the table of its records
pub record IsPiped (layer new : LayerState) (old_link new_link : LinkState) : Type 0 where
  pub text : List ℕ
  pub read : IsReadWhole text old_link new_link
  pub records : List Entry
  pub reads : Reads text records
  pub layer_is : new ≡ record layer { table = table_of records }

-- what came has no reading, and this is its first bad line
pub record IsPipeDamaged (line : ℕ) (old_link new_link : LinkState) : Type 0 where
  pub text : List ℕ
  pub read : IsReadWhole text old_link new_link
  pub bad : IsBad text line

-- what loading from the link does to the layer and to the link, by its answer
abbrev pub ReadsPipe : LayerSpec → LayerState → LayerState → LinkState → LinkState → Result PipeLoaded PipeError → Type 0
ReadsPipe spec layer new old_link new_link (Ok Here) = IsPiped layer new old_link new_link
ReadsPipe spec layer new old_link new_link (Ok LeftOut) = (spec.required ≡ false) × IsReadBroken old_link new_link × (new ≡ without_items layer)
ReadsPipe spec layer new old_link new_link (Err Failed) = (spec.required ≡ true) × IsReadBroken old_link new_link × (new ≡ layer)
ReadsPipe spec layer new old_link new_link (Err (Damaged line)) = IsPipeDamaged line old_link new_link × (new ≡ layer)
ReadsPipe spec layer new old_link new_link (Err TooLong) = IsReadTooLong old_link new_link × (new ≡ layer)
ReadsPipe spec layer new old_link new_link (Err OutOfMemory) = IsReadShort old_link new_link × IsSameButTable layer new

-- the same of a database that is read, or not, and then is empty
abbrev pub LoadsWhere : Bool → LayerSpec → LayerState → LayerState → LinkState → LinkState → Result PipeLoaded PipeError → Type 0
LoadsWhere true spec layer new old_link new_link result = ReadsPipe spec layer new old_link new_link result
LoadsWhere false spec layer new old_link new_link result = (result ≡ Ok Here) × (new ≡ layer) × (new_link ≡ old_link)

abbrev pub LoadsPipe : LayerSpec → LayerState → LayerState → LinkState → LinkState → Result PipeLoaded PipeError → Type 0
LoadsPipe spec layer new old_link new_link result = LoadsWhere spec.infd spec layer new old_link new_link result
