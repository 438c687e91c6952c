-- The ends of a run by the answer of the save.
use Rattle.std.proofs.Common.{◌≡◌, ◌⊎◌, inl, inr, map as each, refl, Result, Ok, Err}
use Rattle.std.specs.Prelude.{MatchResult}
use Rattle.dc_layer.specs.State.{saved}
use Rattle.dc_save.specs.Saving.{Saves, SaveCounts}
use Rattle.dc_save.specs.declared.saving.SaveError.{SaveError}
use Rattle.dc_save.specs.declared.saving.SaveError.TheVariants as save
use Rattle.dc_outside.specs.Counts.{RefusalRose}
use Rattle.dc_outside.specs.State.{FilesState}
use Rattle.dc_run.specs.declared.outcome.ToolEnd.{ToolEnd}
use Rattle.dc_run.specs.declared.outcome.ToolEnd.TheVariants as tool
use Rattle.dc_run.specs.Ends.{end_by, IsEnded}
use Rattle.dc_run.specs.Finishing.{IsSaved, IsUnsaved, IsUnsent, IsWithoutMemory, Finishes, SendsOf, images_of}
use Rattle.dc_run.specs.World.{Ground}

module _ (left new : Ground) where
  abbrev files : FilesState
  files = left.sources.files

  abbrev after : FilesState
  after = new.sources.files

  abbrev Marked : Result (Unit {0}) SaveError → Type 0
  Marked result = MatchResult result (λ _. new.used ≡ each saved left.used) (λ _. new.used ≡ left.used)

  refusals : SaveCounts files.view after.view (Err save.OutOfMemory) files.counts after.counts → RefusalRose files.counts after.counts ⊎ (after ≡ files)
  refusals (inl rose) = inl rose
  refusals (inr same) = inr (λ i. record { view = same.1 i; counts = same.0 i })

  -- what the save did is one of three
  save_ends : (ended : ToolEnd) → IsEnded ended → SendsOf ended left new (Ok tt) → (result : Result (Unit {0}) SaveError) → Saves (images_of left.used) files.view after.view result → SaveCounts files.view after.view result files.counts after.counts
      → Marked result → IsSaved left new ended (end_by ended result) ⊎ IsUnsaved left new ended (end_by ended result) ⊎ IsWithoutMemory left new ended (end_by ended result) ⊎ IsUnsent left new ended (end_by ended result)
  save_ends ended at sent (Ok done) saves counts are = inl (record { end_is = refl; sent = sent; files_are = saves; counts = counts; used_are = are })
  save_ends ended at sent (Err (save.Failed path)) saves counts are = inr (inl (record { path = path; end_is = refl; sent = sent; failed = saves; counts = counts; used_are = are }))
  save_ends tool.Done at sent (Err save.OutOfMemory) saves counts are = inr (inr (inl (record { end_is = refl; sent = inl sent; ran_out = saves; counts = refusals counts; used_are = are })))
  save_ends tool.LinkFault at sent (Err save.OutOfMemory) saves counts are = inr (inr (inl (record { end_is = refl; sent = inl sent; ran_out = saves; counts = refusals counts; used_are = are })))
  save_ends tool.TooLong at sent (Err save.OutOfMemory) saves counts are = inr (inr (inl (record { end_is = refl; sent = inl sent; ran_out = saves; counts = refusals counts; used_are = are })))
  save_ends tool.PrintFault at sent (Err save.OutOfMemory) saves counts are = absurd at
  save_ends tool.TermFault at sent (Err save.OutOfMemory) saves counts are = absurd at
  save_ends tool.ChildFault at sent (Err save.OutOfMemory) saves counts are = absurd at
  save_ends tool.OutOfMemory at sent (Err save.OutOfMemory) saves counts are = absurd at
  save_ends (tool.FilesFault path) at sent (Err save.OutOfMemory) saves counts are = absurd at
  save_ends (tool.BadWire line) at sent (Err save.OutOfMemory) saves counts are = absurd at

  -- the tool had ended, and the images were saved or not
  pub finished : (ended : ToolEnd) → IsEnded ended → SendsOf ended left new (Ok tt) → (result : Result (Unit {0}) SaveError) → Saves (images_of left.used) files.view after.view result → SaveCounts files.view after.view result files.counts after.counts
      → Marked result → Finishes left new ended (end_by ended result)
  finished tool.Done at sent result saves counts are = save_ends tool.Done at sent result saves counts are
  finished tool.LinkFault at sent result saves counts are = save_ends tool.LinkFault at sent result saves counts are
  finished tool.TooLong at sent result saves counts are = save_ends tool.TooLong at sent result saves counts are
  finished tool.PrintFault at sent result saves counts are = absurd at
  finished tool.TermFault at sent result saves counts are = absurd at
  finished tool.ChildFault at sent result saves counts are = absurd at
  finished tool.OutOfMemory at sent result saves counts are = absurd at
  finished (tool.FilesFault path) at sent result saves counts are = absurd at
  finished (tool.BadWire line) at sent result saves counts are = absurd at
