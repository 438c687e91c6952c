-- What becomes of a template file that is loaded (debconf-loadtemplate(1)).
use Rattle.std.specs.Prelude.{◌≡◌, ◌⊎◌, ℕ, List, None, Result, Ok, Err}
use Rattle.dc_text.specs.declared.memory.OutOfMemory.{OutOfMemory}
use Rattle.dc_proto.specs.declared.command.Command.TheVariants.{LoadTemplateFile}
use Rattle.dc_store.specs.Plans.{StoreState}
use Rattle.dc_store.specs.StoreLaws.{AreSameButAll}
use Rattle.dc_question.specs.Ownership.{loaded}
use Rattle.dc_question.specs.declared.errors.QuestionError.{QuestionError}
use Rattle.dc_session.specs.Answers.{loading, load_names}
use Rattle.dc_session.specs.Machine.{IsDoneInPart}
use Rattle.dc_session.specs.SessionState.{SessionState}
use Rattle.dc_session.specs.TemplateFiles.{Finds}
use Rattle.dc_session.specs.declared.template_files.Found.{Found}
use Rattle.dc_session.specs.declared.template_files.Found.TheVariants as found
use Rattle.dc_session.specs.declared.template_loading.FileEnd.{FileEnd}
use Rattle.dc_session.specs.declared.template_loading.FileEnd.TheVariants.{Loaded, Unreadable, Missing, Faulty, Refused}

abbrev pub end_by : Result StoreState QuestionError → FileEnd
end_by (Ok store) = Loaded
end_by (Err error) = Refused error

-- by what was found
abbrev pub file_end : SessionState → Found → FileEnd
file_end state found.Unreadable = Unreadable
file_end state found.Missing = Missing
file_end state (found.Faulty line) = Faulty line
file_end state (found.Templates templates) = end_by (loaded state.store state.at state.owner templates)

-- the path was read, and what was found there was loaded for the owner, or not
pub record LoadsFile (path : List ℕ) (old : SessionState) (ended : FileEnd) (new : SessionState) : Type 0 where
  pub found : Found
  pub finds : Finds path old.files found new.files
  pub ended_is : ended ≡ file_end old found
  pub new_is : new ≡ record old { store = (loading old old.owner found).store; files = new.files }

-- the same, or memory ran out
abbrev pub Loads : List ℕ → SessionState → SessionState → Result FileEnd OutOfMemory → Type 0
Loads path old new (Ok ended) = LoadsFile path old ended new
Loads path old new (Err error) = (new ≡ old) ⊎ IsDoneInPart (LoadTemplateFile path None) old new

-- what was found is loaded, or memory ran out at that; no public clause cites this
abbrev pub Takes : Found → SessionState → SessionState → Result FileEnd OutOfMemory → Type 0
Takes found old new (Ok ended) = (ended ≡ file_end old found) × (new ≡ record old { store = (loading old old.owner found).store })
Takes found old new (Err error) = AreSameButAll (load_names old old.owner found) old.store.layers new.store.layers × (new ≡ record old { store = new.store })
