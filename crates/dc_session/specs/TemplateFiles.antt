-- What is found where a template file is looked for (debconf-loadtemplate(1)).
use Rattle.std.specs.Prelude.{◌≡◌, ◌⊎◌, ℕ, List, Option, Some, None, true, false, Ok, Err, IfSome}
use Rattle.dc_outside.specs.Counts.{FaultRose, RefusalRose}
use Rattle.dc_outside.specs.Disk.{bytes_at}
use Rattle.dc_outside.specs.Steps.{after_look}
use Rattle.dc_outside.specs.declared.files.FilesOp.TheVariants.{Read}
use Rattle.dc_template.specs.Reading.{IsAnswer}
use Rattle.dc_template.specs.declared.faults.TemplateKind.{TemplateKind}
use Rattle.dc_template.specs.declared.faults.TemplateError.TheVariants.{Bad}
use Rattle.dc_session.specs.SessionState.{FilesState}
use Rattle.dc_session.specs.declared.template_files.Found.{Found}
use Rattle.dc_session.specs.declared.template_files.Found.TheVariants.{Unreadable, Missing, Faulty, Templates}

-- the path was read, and this stands there, where the disk is told
pub record HasRead (path : List ℕ) (old new : FilesState) (found : Option (List ℕ)) : Type 0 where
  pub told_is : new.view ≡ after_look old.view Read path true
  pub counts : new.counts ≡ old.counts
  pub found_is : IfSome old.view.disk (λ disk. found ≡ bytes_at disk path)

-- what one read of the path finds: that it failed, that no file is there, the line of the file's first fault, or its templates
abbrev pub Finds : List ℕ → FilesState → Found → FilesState → Type 0
Finds path old Unreadable new = (new.view ≡ after_look old.view Read path false) × FaultRose old.counts new.counts
Finds path old Missing new = HasRead path old new None
Finds path old (Faulty line) new = (text : List ℕ) × (kind : TemplateKind) × HasRead path old new (Some text) × IsAnswer text (Err (Bad line kind))
Finds path old (Templates templates) new = (text : List ℕ) × HasRead path old new (Some text) × IsAnswer text (Ok templates)

-- there was no memory: no call was done, and the files may have refused one; or the file was read, and the program's own ran out
abbrev pub FindsNoMemory : List ℕ → FilesState → FilesState → Type 0
FindsNoMemory path old new =
    ((new.view ≡ old.view) × ((new.counts ≡ old.counts) ⊎ RefusalRose old.counts new.counts))
    ⊎ ((new.view ≡ after_look old.view Read path true) × (new.counts ≡ old.counts))
