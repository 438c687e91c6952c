-- A session that began, was served, and left what it left.
use Rattle.std.proofs.Common.{◌≡◌, ℕ, Bool, List, [], length, map as each, Option, Some, refl, sym, ap, subst, ◌∙◌, inl, inr}
use Rattle.std.specs.Prelude.{Result, Ok, Err}
use Rattle.std.proofs.lemmas.List.{length-map}
use Rattle.dc_text.specs.declared.memory.OutOfMemory as memory
use Rattle.dc_frontend.specs.declared.frontend.Frontend.{Frontend}
use Rattle.dc_proto.specs.declared.priority.Priority.{Priority}
use Rattle.dc_conf.specs.Trees.{Tree}
use Rattle.dc_conf.specs.Plans.{IsOver}
use Rattle.dc_layer.specs.State.{LayerState}
use Rattle.dc_outside.specs.State.{FilesState, LinkState}
use Rattle.dc_outside.specs.declared.link.Piece.{Piece}
use Rattle.dc_store.specs.Plans.{stored}
use Rattle.dc_question.specs.Questions.{QuestionContext}
use Rattle.dc_serve.specs.declared.outcome.LinkEnd.{LinkEnd}
use Rattle.dc_serve.specs.declared.outcome.LinkEnd.TheVariants as link
use Rattle.dc_session.specs.ReadAhead.{ReadAhead}
use Rattle.dc_session.specs.Asking.{nothing_asked}
use Rattle.dc_session.specs.FileLoading.{Loads}
use Rattle.dc_session.specs.Serving.{IsServed, Resources, resources_of, session_over}
use Rattle.dc_session.specs.SessionState.{SessionState, nothing_typed, no_terminal, nowhere, terminal_at}
use Rattle.dc_session.specs.declared.policy.AskPolicy.{AskPolicy}
use Rattle.dc_session.specs.declared.stepped.StepError.{StepError}
use Rattle.dc_session.specs.declared.template_loading.FileEnd.{FileEnd}
use Rattle.dc_drill.specs.Commands.{drill_input, template_path}
use Rattle.dc_drill.specs.Drilling.{anew, drill_files, own, link_giving, Drills, FailsToDrill, IsServedTo}
use Rattle.dc_drill.specs.Report.{report}
use Rattle.dc_drill.specs.Inside.{Begins, BeginsOver, ServesOver, ServesTo}
use Rattle.dc_drill.proofs.CountLemmas.{loaded_count, served_count}

-- ---- the template

pub begins_over : (start begun loaded : SessionState) (result : Result AskPolicy memory.OutOfMemory) (layers : List LayerState) (files : FilesState) → Begins start loaded result → start ≡ begun
    → layers ≡ loaded.store.layers → files ≡ loaded.files → BeginsOver begun result layers files
begins_over start begun loaded result layers files begins same layers_are files_are = record {
  loaded = loaded;
  begins = subst (λ (s : SessionState). Begins s loaded result) same begins;
  layers_are = layers_are;
  files_are = files_are;
}

-- the path of the template
pub path_loads : (path : List ℕ) (old new : SessionState) (result : Result FileEnd memory.OutOfMemory) → Loads path old new result → path ≡ template_path → Loads template_path old new result
path_loads path old new result loads is = subst (λ (p : List ℕ). Loads p old new result) is loads

-- as many layers are left as there were
pub begun_count : (start : SessionState) (policy : AskPolicy) (layers : List LayerState) (files : FilesState) → BeginsOver start (Ok policy) layers files → length layers ≡ length start.store.layers
begun_count start policy layers files begun = ap length begun.layers_are ∙ loaded_count template_path start begun.loaded begun.begins.1.0 begun.begins.1.1

-- there was no memory to begin
pub breaks_off : (start : SessionState) (error : memory.OutOfMemory) (old new : LinkState) (layers : List LayerState) (files : FilesState) → BeginsOver start (Err error) layers files
    → ServesTo start old new link.OutOfMemory layers
breaks_off start error old new layers files begun = inl (record { loaded = begun.loaded; loads = begun.begins; left_is = begun.layers_are })

-- ---- serving

module _ (before : List LayerState) (first : FilesState) (at : QuestionContext) (owner : List ℕ) (frontend : Option Frontend) (threshold : Option Priority) (nonint : Bool) where
  -- the session as it began
  abbrev pub begun : SessionState
  begun = session_over (resources_of before first no_terminal nowhere) at owner frontend threshold nonint

  -- a session that asks in the same manner, and begins over what the loading left
  begins_anew : (loaded : SessionState) (file : FileEnd) (policy : AskPolicy) (layers : List LayerState) (files : FilesState) (ahead : ReadAhead) → Loads template_path begun loaded (Ok file)
      → policy ≡ begun.policy → layers ≡ loaded.store.layers → files ≡ loaded.files → ahead ≡ nothing_typed
      → session_over (resources_of layers files (terminal_at nowhere ahead) nowhere) at owner (Some policy.frontend) (Some policy.threshold) nonint ≡ anew loaded
  begins_anew loaded file policy layers files ahead loads asks layers_are files_are none =
      let over : session_over (resources_of layers files (terminal_at nowhere ahead) nowhere) at owner (Some policy.frontend) (Some policy.threshold) nonint
      ≡ record begun { store = stored loaded.store.layers []; files = loaded.files }
      = λ i. record {
        store = stored (layers_are i) [];
        files = files_are i;
        terminal = terminal_at nowhere (none i);
        err = nowhere;
        at = at;
        owner = owner;
        policy = record { frontend = (asks i).frontend; threshold = (asks i).threshold; nonint_seen = nonint };
        asking = nothing_asked;
      } in
      over ∙ sym (ap (λ (s : SessionState). record s { store = stored loaded.store.layers []; files = loaded.files }) loads.new_is)

  -- the link was served once the template was loaded
  pub serves_over : (policy : AskPolicy) (layers : List LayerState) (files : FilesState) (ahead : ReadAhead) (left : Resources) (old new : LinkState) (ended : LinkEnd StepError) (code : ℕ) → BeginsOver begun (Ok policy) layers files
      → ahead ≡ nothing_typed
      → IsServed (session_over (resources_of layers files (terminal_at nowhere ahead) nowhere) at owner (Some policy.frontend) (Some policy.threshold) nonint) left old new ended 0 code
      → ServesOver begun old new ended left.layers
  serves_over policy layers files ahead left old new ended code begins none served = record {
    file = begins.begins.1.0;
    loaded = begins.loaded;
    loads = begins.begins.1.1;
    rest = left;
    code = code;
    served = subst (λ (s : SessionState). IsServed s left old new ended 0 code)
        (begins_anew begins.loaded begins.begins.1.0 policy layers files ahead begins.begins.1.1 begins.begins.0 begins.layers_are begins.files_are none) served;
    left_is = refl;
  }

pub serves_to : (start : SessionState) (old new : LinkState) (ended : LinkEnd StepError) (left : List LayerState) → ServesOver start old new ended left → ServesTo start old new ended left
serves_to start old new link.Done left serves = serves
serves_to start old new link.LinkFault left serves = serves
serves_to start old new link.TooLong left serves = serves
serves_to start old new link.OutOfMemory left serves = inr serves
serves_to start old new (link.Broken error) left serves = serves

-- as many layers are left as there were
pub over_count : (start : SessionState) (old new : LinkState) (left : List LayerState) → ServesTo start old new link.Done left → length left ≡ length start.store.layers
over_count start old new left serves =
    ap length serves.left_is ∙ served_count (anew serves.loaded) serves.rest old new 0 serves.code serves.served ∙ loaded_count template_path start serves.loaded serves.file serves.loads

-- a plan speaks of the boxes of as many layers
pub mapped_over : {X : Type 0} (f : X → LayerState) (old new : List X) (plan : Tree) → length (each f new) ≡ length (each f old) → IsOver plan (length old) → IsOver plan (length new)
mapped_over f old new plan same over = subst (IsOver plan) (sym (length-map old f) ∙ sym same ∙ length-map new f) over

-- ---- a drill

pub served_to : (count : ℕ) (start : SessionState) (new : LinkState) (talk : List Piece) (ended : LinkEnd StepError) (left : List LayerState) → new.talk ≡ Some talk
    → ServesOver (own start) (link_giving (drill_input count)) new ended left → IsServedTo count start talk ended left
served_to count start new talk ended left told serves = record {
  file = serves.file;
  loaded = serves.loaded;
  loads = serves.loads;
  link = new;
  rest = serves.rest;
  code = serves.code;
  served = serves.served;
  talk_is = told;
  left_is = serves.left_is;
}

-- nothing was done yet
pub nothing_done : (count : ℕ) (start : SessionState) → FailsToDrill count start start.store.layers link.OutOfMemory
nothing_done count start = inl (record { loaded = own start; loads = inl refl; left_is = refl })

-- the session over these files, of which nothing is told
abbrev pub over_files : SessionState → FilesState → SessionState
over_files start files = record start { files = files; terminal = no_terminal; err = nowhere }

-- what was served over these files and on this link was served over the session's own
own_served : (count : ℕ) (start : SessionState) (files : FilesState) (old new : LinkState) (ended : LinkEnd StepError) (left : List LayerState) → files ≡ drill_files → old ≡ link_giving (drill_input count)
    → ServesTo (over_files start files) old new ended left → ServesTo (own start) (link_giving (drill_input count)) new ended left
own_served count start files old new ended left same came serves =
    subst (λ (l : LinkState). ServesTo (own start) l new ended left) came (subst (λ (f : FilesState). ServesTo (over_files start f) old new ended left) same serves)

-- all commands were served, and their text was made
pub drilled : (count : ℕ) (start : SessionState) (files : FilesState) (old new : LinkState) (talk : List Piece) (text : List ℕ) (left others : List LayerState)
    → files ≡ drill_files → old ≡ link_giving (drill_input count) → new.talk ≡ Some talk → others ≡ left → ServesTo (over_files start files) old new link.Done left
    → text ≡ report count talk left start.at.config → Drills count start others (Ok text)
drilled count start files old new talk text left others same came told are serves says =
    subst (λ (ls : List LayerState). Drills count start ls (Ok text)) (sym are)
    (talk, served_to count start new talk link.Done left told (own_served count start files old new link.Done left same came serves), says)

-- all commands were served, and there was no memory for the text
pub untold : (count : ℕ) (start : SessionState) (files : FilesState) (old new : LinkState) (talk : List Piece) (left others : List LayerState)
    → files ≡ drill_files → old ≡ link_giving (drill_input count) → new.talk ≡ Some talk → others ≡ left → ServesTo (over_files start files) old new link.Done left
    → FailsToDrill count start others link.OutOfMemory
untold count start files old new talk left others same came told are serves =
    subst (λ (ls : List LayerState). FailsToDrill count start ls link.OutOfMemory) (sym are)
    (inr (inr (talk, served_to count start new talk link.Done left told (own_served count start files old new link.Done left same came serves))))

-- the commands weren't all served
not_drilled : (count : ℕ) (start : SessionState) (new : LinkState) (talk : List Piece) (ended : LinkEnd StepError) (left : List LayerState) → new.talk ≡ Some talk → (ended ≡ link.Done → ⊥)
    → ServesTo (own start) (link_giving (drill_input count)) new ended left → FailsToDrill count start left ended
not_drilled count start new talk link.Done left told not serves = absurd (not refl)
not_drilled count start new talk link.LinkFault left told not serves = (talk, served_to count start new talk link.LinkFault left told serves)
not_drilled count start new talk link.TooLong left told not serves = (talk, served_to count start new talk link.TooLong left told serves)
not_drilled count start new talk link.OutOfMemory left told not (inl part) = inl (record { loaded = part.loaded; loads = part.loads; left_is = part.left_is })
not_drilled count start new talk link.OutOfMemory left told not (inr serves) = inr (inl (talk, served_to count start new talk link.OutOfMemory left told serves))
not_drilled count start new talk (link.Broken error) left told not serves = (talk, served_to count start new talk (link.Broken error) left told serves)

-- the same, over these files and on this link
pub unserved : (count : ℕ) (start : SessionState) (files : FilesState) (old new : LinkState) (talk : List Piece) (ended : LinkEnd StepError) (left : List LayerState)
    → files ≡ drill_files → old ≡ link_giving (drill_input count) → new.talk ≡ Some talk → (ended ≡ link.Done → ⊥) → ServesTo (over_files start files) old new ended left
    → Drills count start left (Err ended)
unserved count start files old new talk ended left same came told not serves =
    not_drilled count start new talk ended left told not (own_served count start files old new ended left same came serves)
