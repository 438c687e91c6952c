-- What a run does when its tool has ended: what goes out through a pipe is sent, the images of all layers are saved, in order, and then each
-- layer is marked as saved.
use Rattle.std.specs.Prelude.{◌≡◌, ◌⊎◌, ℕ, Bool, true, false, List, Option, Some, None, Result, Ok, Err, map as each}
use Rattle.dc_outside.specs.Counts.{FaultRose, RefusalRose}
use Rattle.dc_layer.specs.State.{LayerState, file_images, piped_of, saved}
use Rattle.dc_layer.specs.declared.image.Image.{Image}
use Rattle.dc_save.specs.Saving.{all_images, after_images, FailsAmong, StopsAmong}
use Rattle.dc_save.specs.declared.saving.SaveError.TheVariants as save
use Rattle.dc_run.specs.declared.outcome.End.{End}
use Rattle.dc_run.specs.declared.outcome.End.TheVariants as end
use Rattle.dc_run.specs.declared.outcome.ToolEnd.{ToolEnd}
use Rattle.dc_run.specs.declared.outcome.ToolEnd.TheVariants as tool
use Rattle.dc_run.specs.Ends.{end_of, end_unsaved, end_unsent}
use Rattle.dc_run.specs.World.{Ground}
use Rattle.dc_outside.specs.LinkCalls.{Sends}
use Rattle.dc_outside.specs.State.{LinkState}
use Rattle.dc_outside.specs.declared.link.LinkError.{LinkError}

-- the images that the layers ask for and that are saved in files, in order
abbrev pub images_of : List LayerState → List Image
images_of layers = all_images (each file_images layers)

-- What goes out through a pipe is sent, in one write; where nothing does, the link is left alone.
abbrev pub SendsPiped : Option (List ℕ) → LinkState → LinkState → Result (Unit {0}) LinkError → Type 0
SendsPiped (Some text) old new answer = Sends text old new answer
SendsPiped None old new answer = (answer ≡ Ok tt) × (new ≡ old)

-- this text behind a tool that did all, and behind no other
abbrev pub all_done : ToolEnd → Option (List ℕ) → Option (List ℕ)
all_done tool.Done text = text
all_done ended text = None

-- what goes out through a pipe of these layers, behind a tool that ended so
abbrev pub outgoing : ToolEnd → List LayerState → Option (List ℕ)
outgoing ended layers = all_done ended (piped_of layers)

-- that is sent, or isn't

abbrev pub SendsOf : ToolEnd → Ground → Ground → Result (Unit {0}) LinkError → Type 0
SendsOf ended left new answer = SendsPiped (outgoing ended left.used) left.sources.link new.sources.link answer

-- the images are saved, behind what goes out through a pipe, and no call failed
pub record IsSaved (left new : Ground) (ended : ToolEnd) (how : End) : Type 0 where
  pub end_is : how ≡ end_of ended
  pub sent : SendsOf ended left new (Ok tt)
  pub files_are : new.sources.files.view ≡ after_images left.sources.files.view (images_of left.used)
  pub counts : new.sources.files.counts ≡ left.sources.files.counts
  pub used_are : new.used ≡ each saved left.used

-- a call of the save failed for the image at this path
pub record IsUnsaved (left new : Ground) (ended : ToolEnd) (how : End) : Type 0 where
  pub path : List ℕ
  pub end_is : how ≡ end_unsaved ended (save.Failed path)
  pub sent : SendsOf ended left new (Ok tt)
  pub failed : FailsAmong (images_of left.used) path left.sources.files.view new.sources.files.view
  pub counts : FaultRose left.sources.files.counts new.sources.files.counts
  pub used_are : new.used ≡ left.used

-- there was no memory for the save: the files refused a call, or none was made
pub record IsWithoutMemory (left new : Ground) (ended : ToolEnd) (how : End) : Type 0 where
  pub end_is : how ≡ end.OutOfMemory
  pub sent : SendsOf ended left new (Ok tt) ⊎ (new ≡ left)
  pub ran_out : (new.sources.files.view ≡ left.sources.files.view) ⊎ StopsAmong (images_of left.used) left.sources.files.view new.sources.files.view
  pub counts : RefusalRose left.sources.files.counts new.sources.files.counts ⊎ (new.sources.files ≡ left.sources.files)
  pub used_are : new.used ≡ left.used

-- what goes out through a pipe wasn't sent, and no file was written
pub record IsUnsent (left new : Ground) (ended : ToolEnd) (how : End) : Type 0 where
  pub error : LinkError
  pub end_is : how ≡ end_unsent error
  pub sends : SendsOf ended left new (Err error)
  pub files_are : new.sources.files ≡ left.sources.files
  pub used_are : new.used ≡ left.used

-- the layers aren't saved: nothing was sent, and no file was written
pub record IsBrokenOff (left new : Ground) (ended : ToolEnd) (how : End) : Type 0 where
  pub end_is : how ≡ end_of ended
  pub stays : new ≡ left

-- what finishing does after what a tool that ended so left: the end of the run, and what it leaves
abbrev pub Finishes : Ground → Ground → ToolEnd → End → Type 0
Finishes left new tool.OutOfMemory how = IsBrokenOff left new tool.OutOfMemory how
Finishes left new tool.PrintFault how = IsBrokenOff left new tool.PrintFault how
Finishes left new tool.TermFault how = IsBrokenOff left new tool.TermFault how
Finishes left new tool.ChildFault how = IsBrokenOff left new tool.ChildFault how
Finishes left new (tool.FilesFault path) how = IsBrokenOff left new (tool.FilesFault path) how
Finishes left new (tool.BadWire line) how = IsBrokenOff left new (tool.BadWire line) how
Finishes left new ended how = IsSaved left new ended how ⊎ IsUnsaved left new ended how ⊎ IsWithoutMemory left new ended how ⊎ IsUnsent left new ended how

-- the same of a tool of which nothing is saved, and of any other
abbrev pub FinishesWhere : Bool → Ground → Ground → ToolEnd → End → Type 0
FinishesWhere false left new ended how = IsBrokenOff left new ended how
FinishesWhere true left new ended how = Finishes left new ended how
