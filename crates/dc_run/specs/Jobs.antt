-- What each tool does, from the state in which its databases were loaded.
use Rattle.std.specs.Prelude.{◌≡◌, ◌⊎◌, ℕ, Bool, false, if◌then◌else◌, Result, List, [], ◌∷◌, ◌++◌, Option, Some, None, Ok, Err, codes}
use Rattle.std.specs.List.{flat_map}
use Rattle.dc_conf.specs.Configuration.{Configuration}
use Rattle.dc_layer.specs.State.{LayerState}
use Rattle.dc_outside.specs.LinkCalls.{Sends}
use Rattle.dc_outside.specs.declared.link.LinkError.TheVariants.{Failed, OutOfMemory}
use Rattle.dc_question.specs.Questions.{QuestionContext}
use Rattle.dc_store.specs.Plans.{StoreState, names, stored}
use Rattle.dc_store.specs.StoreLaws.{AreSameButAll}
use Rattle.dc_tools.specs.Copying.{Copying, IsCopied}
use Rattle.dc_tools.specs.declared.report.CopyReport.{CopyReport}
use Rattle.dc_tools.specs.Listing.{owners_text_of, databases_text_of}
use Rattle.dc_tools.specs.Showing.{owner_text}
use Rattle.dc_serve.specs.declared.outcome.LinkEnd.{LinkEnd}
use Rattle.dc_serve.specs.declared.outcome.LinkEnd.TheVariants as link
use Rattle.dc_text.specs.declared.memory.OutOfMemory.{OutOfMemory as NoMemory}
use Rattle.dc_preseed.specs.Selecting.{IsSelected, SelectorState, selections_over}
use Rattle.dc_preseed.specs.declared.selected.Choices.{Choices}
use Rattle.dc_drill.specs.Drilling.{Drills}
use Rattle.dc_dump.specs.Saying.{said_of}
use Rattle.dc_dump.specs.declared.saying.Said.{Said}
use Rattle.dc_session.specs.Serving.{Resources, resources_in}
use Rattle.dc_outside.specs.State.{LinkState}
use Rattle.dc_session.specs.SessionState.{SessionState}
use Rattle.dc_session.specs.declared.stepped.StepError.{StepError}
use Rattle.dc_run.specs.declared.outcome.ToolAnswer.{ToolAnswer}
use Rattle.dc_cli.specs.declared.tool.Tool.{Tool}
use Rattle.dc_cli.specs.declared.tool.Tool.TheVariants.{Communicate, LoadTemplate, Run, Show, CopyDb, SetSelections, GetSelections, Drill, Answer}
use Rattle.dc_cli.specs.declared.tool.Shown.{Shown}
use Rattle.dc_cli.specs.declared.tool.Shown.TheVariants.{Questions, Owners, Databases}
use Rattle.dc_run.specs.declared.outcome.ToolEnd.{ToolEnd}
use Rattle.dc_run.specs.declared.outcome.ToolEnd.TheVariants as tool
use Rattle.dc_run.specs.Roots.{CopyRoots}
use Rattle.dc_run.specs.Roots.{Roots}
use Rattle.dc_run.specs.Ends.{tool_end_of}
use Rattle.dc_run.specs.Running.{HasAnswered, HasRunProgram}
use Rattle.dc_run.specs.Saves.{Save}
use Rattle.dc_run.specs.SavingSession.{IsServedSaving}
use Rattle.dc_run.specs.declared.saving_session.SavingBreak.{SavingBreak}
use Rattle.dc_run.specs.TemplateLoading.{HasLoadedFiles}
use Rattle.dc_run.specs.World.{Links}

-- ---- communicate and loadtemplate

-- the commands that came on the link were served, and the session was finished: its status is the code of the last reply, and these its saves
pub record HasCommunicated (start : SessionState) (old new : LinkState) (before : ℕ) (answer : ToolAnswer) (left : Resources) (saves : List Save) : Type 0 where
  pub ended : LinkEnd SavingBreak
  pub ended_is : answer.ended ≡ tool_end_of ended
  pub served : IsServedSaving start left old new ended before answer.last_code saves
  pub status_is : answer.status ≡ answer.last_code
  pub waits : answer.is_started ≡ false

-- the template files were loaded, and no link was used
pub record HasLoadedTemplates (start : SessionState) (paths : List (List ℕ)) (old new : Links)
    (before : ℕ) (answer : ToolAnswer) (said : List ℕ) (left : Resources) : Type 0 where
  pub state : SessionState
  pub left_is : left ≡ resources_in state
  pub loaded : HasLoadedFiles start paths answer.ended said answer.status state
  pub last_code_is : answer.last_code ≡ before
  pub links_are : new ≡ old
  pub waits : answer.is_started ≡ false

-- ---- show

-- what is printed of these layers (debconf-show(1)): a line for each question of the owners; or for each owner, or each database
abbrev pub shown_text : Shown → Configuration → List LayerState → QuestionContext → List ℕ
shown_text (Questions owners) conf layers at = flat_map (owner_text layers at) owners
shown_text Owners conf layers at = owners_text_of layers at.config
shown_text Databases conf layers at = databases_text_of conf

-- a text was printed in one write, or that failed; or there was no memory for it
abbrev pub Prints : List ℕ → LinkState → LinkState → ToolEnd → Type 0
Prints text old new tool.Done = Sends {T = Unit {0}} text old new (Ok tt)
Prints text old new tool.PrintFault = Sends {T = Unit {0}} text old new (Err Failed)
Prints text old new tool.OutOfMemory = Sends {T = Unit {0}} text old new (Err OutOfMemory) ⊎ (new ≡ old)
Prints text old new ended = ⊥

-- it was printed what is asked for, and nothing else was done
pub record HasShown (shown : Shown) (conf : Configuration) (start : SessionState) (old new : Links)
    (before : ℕ) (answer : ToolAnswer) (left : Resources) : Type 0 where
  pub prints : Prints (shown_text shown conf start.store.layers start.at) old.io new.io answer.ended
  pub child_is : new.child ≡ old.child
  pub left_is : left ≡ resources_in start
  pub code_is : answer.last_code ≡ before
  pub status_is : answer.status ≡ 0
  pub waits : answer.is_started ≡ false

-- ---- copydb

-- the copy into a plan, by these patterns
abbrev pub copying : SessionState → CopyRoots → Copying
copying start copy =
    record { source = start.at.config; dest = copy.dest; templates = start.at.templates; by_name = copy.by_name; by_owner = copy.by_owner }

-- the status is 1 where something was refused
abbrev pub refused_status : Bool → ℕ
refused_status refused = if refused then 1 else 0

-- The items were copied, and what is reported of them, item by item, was told; or memory ran out.
abbrev pub Copies : Copying → List LayerState → List LayerState → ToolEnd → List ℕ → ℕ → Type 0
Copies copy old new tool.Done said status =
    (report : CopyReport) × (store : StoreState) × IsCopied copy (stored old []) store report × (new ≡ store.layers)
    × (said ≡ report.lines) × (status ≡ refused_status report.refused)
Copies copy old new tool.OutOfMemory said status = said ≡ []
Copies copy old new ended said status = ⊥

-- items were copied, and no other changed; no link was used
pub record HasCopied (copy : Copying) (start : SessionState) (old new : Links)
    (before : ℕ) (answer : ToolAnswer) (said : List ℕ) (left : Resources) : Type 0 where
  pub copies : Copies copy start.store.layers left.layers answer.ended said answer.status
  pub others : AreSameButAll (names start.store.layers copy.source) start.store.layers left.layers
  pub left_is : left ≡ record (resources_in start) { layers = left.layers }
  pub links_are : new ≡ old
  pub code_is : answer.last_code ≡ before
  pub waits : answer.is_started ≡ false

-- of a run that has what it copies by
abbrev pub CopiesBy : Option CopyRoots → SessionState → Links → Links → ℕ → ToolAnswer → List ℕ → Resources → Type 0
CopiesBy None start old new before answer said left = ⊥
CopiesBy (Some copy) start old new before answer said left = HasCopied (copying start copy) start old new before answer said left

-- ---- set-selections

-- how the tool ends, by the end of its link
abbrev pub selections_end : LinkEnd NoMemory → ToolEnd
selections_end link.Done = tool.Done
selections_end link.LinkFault = tool.LinkFault
selections_end link.TooLong = tool.TooLong
selections_end link.OutOfMemory = tool.OutOfMemory
selections_end (link.Broken error) = tool.OutOfMemory

-- the selections that came on the link were taken so, and told as they were
pub record HasTaken (choices : Choices) (start : SessionState) (old new : LinkState) (before : ℕ) (answer : ToolAnswer) (left : Resources) : Type 0 where
  pub state : SelectorState
  pub ended : LinkEnd NoMemory
  pub ended_is : answer.ended ≡ selections_end ended
  pub selected : IsSelected (selections_over start.store.layers start.at choices start.err) state old new ended before answer.last_code
  pub left_is : left ≡ record (resources_in start) { layers = state.store.layers; err = state.err }
  pub status_is : answer.status ≡ refused_status state.refused
  pub waits : answer.is_started ≡ false

-- ---- get-selections

-- what is said of all questions of these layers
abbrev pub answers_said : List LayerState → QuestionContext → Said
answers_said layers at = said_of layers at (names layers at.config)

-- a line for each name, with these words behind it
abbrev pub named_lines : List ℕ → List (List ℕ) → List ℕ
named_lines words names = flat_map (λ name. name ++ words) names

-- the status is 1 where a name was told
abbrev pub told_status : List (List ℕ) → ℕ
told_status [] = 0
told_status (name ∷ names) = 1

-- a line for each question that can't be said
abbrev pub unsaid_lines : List (List ℕ) → List ℕ
unsaid_lines names = named_lines (codes " can't be said\n") names

-- It was told which questions can't be said, and the status is 1 where there is one. Where memory ran out, nothing was told.
abbrev pub TellsUnsaid : List (List ℕ) → ToolEnd → List ℕ → ℕ → Type 0
TellsUnsaid names tool.OutOfMemory said status = said ≡ []
TellsUnsaid names ended said status = (said ≡ unsaid_lines names) × (status ≡ told_status names)

-- the answers of all questions were printed, and it was told which can't be said; nothing else was done
pub record HasSaidAnswers (start : SessionState) (old new : Links) (before : ℕ) (answer : ToolAnswer) (said : List ℕ) (left : Resources) : Type 0 where
  pub prints : Prints (answers_said start.store.layers start.at).text old.io new.io answer.ended
  pub tells : TellsUnsaid (answers_said start.store.layers start.at).left_out answer.ended said answer.status
  pub child_is : new.child ≡ old.child
  pub left_is : left ≡ resources_in start
  pub code_is : answer.last_code ≡ before
  pub waits : answer.is_started ≡ false

-- ---- drill

-- the text was printed in one write; or there was none, for want of memory
abbrev pub PrintsMade : {E : Type 0} → Result (List ℕ) E → LinkState → LinkState → ToolEnd → Type 0
PrintsMade (Ok text) old new ended = Prints text old new ended
PrintsMade (Err error) old new ended = (ended ≡ tool.OutOfMemory) × (new ≡ old)

-- a session over these layers was served the commands for so many questions, and its numbers were printed; no other link and no file was used
pub record HasDrilled (count : ℕ) (start : SessionState) (old new : Links) (before : ℕ) (answer : ToolAnswer) (left : Resources) : Type 0 where
  pub result : Result (List ℕ) (LinkEnd StepError)
  pub drills : Drills count start left.layers result
  pub prints : PrintsMade result old.io new.io answer.ended
  pub child_is : new.child ≡ old.child
  pub left_is : left ≡ record (resources_in start) { layers = left.layers }
  pub code_is : answer.last_code ≡ before
  pub status_is : answer.status ≡ 0
  pub waits : answer.is_started ≡ false

-- ---- all tools

-- What a tool does from the state in which its databases were loaded, behind a reply of this code: to the links, by its answer, what it tells on
-- standard error behind its session, what the session leaves, and the saves in the middle of it, of which those that serve no commands have none.
abbrev pub Uses : Tool → Roots → SessionState → Links → Links → ℕ → ToolAnswer → List ℕ → Resources → List Save → Type 0
Uses (Communicate owner) roots start old new before answer said left saves =
    HasCommunicated start old.io new.io before answer left saves × (new.child ≡ old.child) × (said ≡ [])
Uses (LoadTemplate owner paths) roots start old new before answer said left saves =
    HasLoadedTemplates start paths old new before answer said left × (saves ≡ [])
Uses (Run owner frontend priority command) roots start old new before answer said left saves =
    HasRunProgram command start old new before answer left saves × (said ≡ [])
Uses (Show database shown) roots start old new before answer said left saves =
    HasShown shown roots.conf start old new before answer left × (said ≡ []) × (saves ≡ [])
Uses (CopyDb copy) roots start old new before answer said left saves = CopiesBy roots.copy start old new before answer said left × (saves ≡ [])
Uses (SetSelections verbose check unseen) roots start old new before answer said left saves =
    HasTaken (record { verbose = verbose; check = check; unseen = unseen }) start old.io new.io before answer left
    × (new.child ≡ old.child) × (said ≡ []) × (saves ≡ [])
Uses GetSelections roots start old new before answer said left saves = HasSaidAnswers start old new before answer said left × (saves ≡ [])
Uses (Drill count) roots start old new before answer said left saves =
    HasDrilled count start old new before answer left × (said ≡ []) × (saves ≡ [])
Uses (Answer command) roots start old new before answer said left saves =
    HasAnswered command old new before answer × (left ≡ resources_in start) × (said ≡ []) × (saves ≡ [])
