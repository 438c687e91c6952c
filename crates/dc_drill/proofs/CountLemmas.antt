-- A session leaves as many layers as it began with.
use Rattle.std.proofs.Common.{◌≡◌, ℕ, suc, List, [], ◌∷◌, length, Option, None, Some, refl, sym, ap, subst, ◌∙◌, inl, inr, true}
use Rattle.std.specs.Prelude.{Result, Ok, Err, IfOk, fold, codes}
use Rattle.std.specs.Result.{result_unwrap_or}
use Rattle.dc_words.specs.declared.stream.Line.{Line}
use Rattle.dc_words.specs.declared.stream.Line.TheVariants.{Whole, TooLong}
use Rattle.dc_item.specs.Item.{ItemParts}
use Rattle.dc_item.specs.declared.op.Op.TheVariants.{SetFlag}
use Rattle.dc_proto.specs.Commands.{heard}
use Rattle.dc_proto.specs.declared.command.Command.TheVariants.{LoadTemplateFile}
use Rattle.dc_proto.specs.declared.command.Heard.{Heard}
use Rattle.dc_proto.specs.declared.command.Heard.TheVariants.{Nothing, Known, Refused}
use Rattle.dc_layer.specs.State.{LayerState}
use Rattle.dc_outside.specs.State.{LinkState}
use Rattle.dc_outside.specs.declared.link.Piece.{Piece}
use Rattle.dc_store.specs.Batches.{Write, commit, names_of}
use Rattle.dc_store.specs.Plans.{StoreState}
use Rattle.dc_store.specs.StoreLaws.{AreSameButAll}
use Rattle.dc_question.specs.Changes.{done_or, flag_set, question_write}
use Rattle.dc_question.specs.Questions.{QuestionContext, question, read}
use Rattle.dc_question.specs.declared.errors.QuestionError.{QuestionError}
use Rattle.dc_serve.specs.Execution.{Transition, IsExecution, state_after}
use Rattle.dc_serve.specs.LinkRun.{IsLinkRun}
use Rattle.dc_serve.specs.declared.machine.Response.{Response}
use Rattle.dc_serve.specs.declared.outcome.LinkEnd.{LinkEnd}
use Rattle.dc_serve.specs.declared.outcome.LinkEnd.TheVariants as link
use Rattle.dc_teletype.specs.declared.teletype.Asked.TheVariants.{Answers}
use Rattle.dc_session.specs.Answers.{CommandInputs, answer, after_command, names_on}
use Rattle.dc_session.specs.Asking.{with_seen}
use Rattle.dc_session.specs.FileLoading.{Loads}
use Rattle.dc_session.specs.Machine.{TakesLine, Aborts, HasDone, Steps, StepsHeard}
use Rattle.dc_session.specs.Serving.{IsServed, IsFinished, Finishes, Resources}
use Rattle.dc_session.specs.SessionState.{SessionState}
use Rattle.dc_session.specs.declared.stepped.StepError.{StepError}
use Rattle.dc_session.specs.declared.stepped.StepError.TheVariants as step
use Rattle.dc_session.specs.declared.stepped.Stepped.{Stepped}
use Rattle.dc_session.specs.declared.template_loading.FileEnd.{FileEnd}
use Rattle.dc_session.proofs.FrameLaws.{others_stay, row_keeps}

as_many : (ns : List (List ℕ)) (xs ys : List LayerState) → AreSameButAll ns xs ys → length ys ≡ length xs
as_many ns [] [] same = refl
as_many ns [] (y ∷ ys) same = absurd same
as_many ns (x ∷ xs) [] same = absurd same
as_many ns (x ∷ xs) (y ∷ ys) same = ap suc (as_many ns xs ys same.1)

-- ---- marks at the end

kept_by : (ns : List (List ℕ)) (store : StoreState) (result : Result StoreState QuestionError) → IfOk result (λ new. AreSameButAll ns store.layers new.layers)
    → length (result_unwrap_or result store).layers ≡ length store.layers
kept_by ns store (Ok new) same = as_many ns store.layers new.layers same
kept_by ns store (Err error) same = refl

done_keeps : (store : StoreState) (name : List ℕ) (batch : List Write) (done : Option StoreState) → commit store batch ≡ done → IfOk (done_or name done) (λ new. AreSameButAll (names_of batch) store.layers new.layers)
done_keeps store name batch None is = tt
done_keeps store name batch (Some new) is = row_keeps store new batch is

flag_keeps : (store : StoreState) (at : QuestionContext) (name : List ℕ) (item : Option ItemParts)
    → IfOk (read name item (λ i. done_or name (commit store (question_write store.layers at name i (SetFlag (codes "seen") true) ∷ [])))) (λ new. AreSameButAll (name ∷ []) store.layers new.layers)
flag_keeps store at name None = tt
flag_keeps store at name (Some item) =
    done_keeps store name (question_write store.layers at name item (SetFlag (codes "seen") true) ∷ []) (commit store (question_write store.layers at name item (SetFlag (codes "seen") true) ∷ [])) refl

one_marked : (at : QuestionContext) (store : StoreState) (name : List ℕ) → length (with_seen at store name).layers ≡ length store.layers
one_marked at store name = kept_by (name ∷ []) store (flag_set store at name (codes "seen") true) (flag_keeps store at name (question store.layers at name))

marked : (at : QuestionContext) (names : List (List ℕ)) (store : StoreState) → length (fold (with_seen at) store names).layers ≡ length store.layers
marked at [] store = refl
marked at (name ∷ names) store = marked at names (with_seen at store name) ∙ one_marked at store name

finished_count : (state : SessionState) (served ended : LinkEnd StepError) (left : Resources) → IsFinished state served left ended → length left.layers ≡ length state.store.layers
finished_count state served ended left (inl all) = ap length all.0 ∙ marked state.at state.asking.asked state.store
finished_count state served ended left (inr part) = as_many state.asking.asked state.store.layers left.layers part.0

finishes_count : (served ended : LinkEnd StepError) (state : SessionState) (left : Resources) → Finishes served state left ended → length left.layers ≡ length state.store.layers
finishes_count link.Done ended state left f = finished_count state link.Done ended left f
finishes_count link.LinkFault ended state left f = finished_count state link.LinkFault ended left f
finishes_count link.TooLong ended state left f = finished_count state link.TooLong ended left f
finishes_count link.OutOfMemory ended state left f = ap length f.0
finishes_count (link.Broken error) ended state left f = ap length f.0

-- ---- lines

heard_count : (h : Heard) (old new : SessionState) (did : Stepped) → StepsHeard h old did new → length new.store.layers ≡ length old.store.layers
heard_count Nothing old new did steps = ap (λ (s : SessionState). length s.store.layers) steps.1
heard_count (Known command) old new did steps = as_many (names_on old command steps.given) old.store.layers new.store.layers (others_stay command old new did steps)
heard_count (Refused reply) old new did steps = ap (λ (s : SessionState). length s.store.layers) steps.1

step_count : (line : Line) (old new : SessionState) (did : Stepped) → Steps old line did new → length new.store.layers ≡ length old.store.layers
step_count TooLong old new did steps = ap (λ (s : SessionState). length s.store.layers) steps.1
step_count (Whole text) old new did steps = heard_count (heard old.asking.escape text) old new did steps

takes_count : (line : Line) (old new : SessionState) (did : Response) → TakesLine old line did new → length new.store.layers ≡ length old.store.layers
takes_count line old new did takes = ap (λ (s : SessionState). length s.store.layers) takes.tells.new_is ∙ step_count line old takes.mid takes.handled.stepped takes.handled.steps

course_count : (start : SessionState) (transitions : List (Transition SessionState)) → IsExecution TakesLine start transitions → length (state_after start transitions).store.layers ≡ length start.store.layers
course_count start [] course = refl
course_count start (t ∷ ts) course = course_count t.new ts course.2 ∙ takes_count t.line start t.new t.did course.0

-- ---- a session

served_done : (served : LinkEnd StepError) (state : SessionState) (left : Resources) → Finishes served state left link.Done → served ≡ link.Done
served_done link.Done state left f = refl
served_done link.LinkFault state left (inl all) = sym all.2
served_done link.LinkFault state left (inr part) = let wrong : ◌≡◌ {A = LinkEnd StepError} link.Done link.OutOfMemory = part.2 in cc
served_done link.TooLong state left (inl all) = sym all.2
served_done link.TooLong state left (inr part) = let wrong : ◌≡◌ {A = LinkEnd StepError} link.Done link.OutOfMemory = part.2 in cc
served_done link.OutOfMemory state left f = sym f.2
served_done (link.Broken error) state left f = sym f.2

ran_count : (start state : SessionState) (talk new_talk : Option (List Piece)) (input left : Option (List ℕ)) (before code : ℕ) → IsLinkRun TakesLine Aborts talk new_talk input left start link.Done state before code
    → length state.store.layers ≡ length start.store.layers
ran_count start state talk new_talk input left before code run =
    ap (λ (s : SessionState). length s.store.layers) run.answered.are_said.state_is ∙ course_count start run.transitions run.course

-- one that was served to its end
pub served_count : (start : SessionState) (left : Resources) (old new : LinkState) (before code : ℕ) → IsServed start left old new link.Done before code → length left.layers ≡ length start.store.layers
served_count start left old new before code s =
    finishes_count s.served link.Done s.state left s.finishes
    ∙ ran_count start s.state old.talk new.talk old.input new.input before code
    (subst (λ (ended : LinkEnd StepError). IsLinkRun TakesLine Aborts old.talk new.talk old.input new.input start ended s.state before code) (served_done s.served s.state left s.finishes) s.ran)

-- one into which a file was loaded
pub loaded_count : (path : List ℕ) (start loaded : SessionState) (file : FileEnd) → Loads path start loaded (Ok file) → length loaded.store.layers ≡ length start.store.layers
loaded_count path start loaded file loads =
    let given : CommandInputs = record { found = loads.found; asked = Answers [] } in
    let left : SessionState = after_command start (LoadTemplateFile path None) given loaded.files start.terminal in
    let done : HasDone (LoadTemplateFile path None) start (answer start (LoadTemplateFile path None) given).stepped left
    = record { given = given; gives = record { looks = loads.finds; shows = (refl, refl) }; stepped_is = refl; new_is = refl } in
    ap (λ (s : SessionState). length s.store.layers) loads.new_is
    ∙ as_many (names_on start (LoadTemplateFile path None) given) start.store.layers left.store.layers
    (others_stay (LoadTemplateFile path None) start left (answer start (LoadTemplateFile path None) given).stepped done)
