-- What becomes of commands on the progress bar.
use Rattle.std.proofs.Common.{◌≡◌, ℕ, ◌+◌, List, [], refl, sym, ap, ◌∙◌}
use Rattle.std.specs.Prelude.{true, false, Option, Some, None, is_some, Result, Ok, Err, IfOk, codes}
use Rattle.std.specs.Option.{option_map_or}
use Rattle.dc_text.specs.declared.memory.OutOfMemory.{OutOfMemory}
use Rattle.dc_text.specs.Names.{is_name}
use Rattle.dc_frontend.specs.declared.frontend.Frontend.{Frontend}
use Rattle.dc_item.specs.Item.{ItemParts}
use Rattle.dc_layer.specs.State.{LayerState}
use Rattle.dc_proto.specs.Replies.{reply}
use Rattle.dc_proto.specs.declared.command.Command.{Command}
use Rattle.dc_proto.specs.declared.command.Command.TheVariants as command
use Rattle.dc_proto.specs.declared.reply.Reply.{Reply}
use Rattle.dc_question.specs.Questions.{QuestionContext, question, exists, template, read, read_template, read_field}
use Rattle.dc_question.specs.Readings.{field_of}
use Rattle.dc_question.specs.declared.errors.QuestionError.{QuestionError}
use Rattle.dc_question.specs.declared.errors.QuestionError.TheVariants.{NoQuestion}
use Rattle.dc_teletype.specs.declared.teletype.Asked.TheVariants.{Answers}
use Rattle.dc_session.specs.Answers.{CommandOutcome, nothing, answer, names_on, reply_asking, reply_only, with_bar, and_then, there, for_question}
use Rattle.dc_session.specs.Asking.{description, or_empty, bar_at}
use Rattle.dc_session.specs.Displays.{Display, Blank, displayed, described, line_read, percent_line, where_asked}
use Rattle.dc_session.specs.Inside.{Comes, HasShown, StopsShowing, lifted}
use Rattle.dc_session.specs.Machine.{DoesShowing, BreaksOff, file_of}
use Rattle.dc_session.specs.Refusals.{no_question, no_progress_bar}
use Rattle.dc_session.specs.SessionState.{SessionState}
use Rattle.dc_session.specs.declared.asking.Bar.{Bar}
use Rattle.dc_session.specs.declared.stepped.StepError.{StepError}
use Rattle.dc_session.specs.declared.stepped.Stepped.{Stepped}
use Rattle.dc_session.specs.declared.stepped.Stepped.TheVariants.{Replied}
use Rattle.dc_session.proofs.AskingLemmas.{told_does}
use Rattle.dc_session.proofs.CommandLemmas.{where_blank, quiet, on_name, on_none, there_found, there_none}
use Rattle.dc_session.proofs.TerminalLemmas.{lifts, shown_does, stops_showing}

-- ---- descriptions

no_description : (layers : List LayerState) (at : QuestionContext) (name : List ℕ) → exists layers at name ≡ false → description layers at name ≡ Err (NoQuestion name)
no_description layers at name none = by_item (question layers at name) none where
  by_item : (found : Option ItemParts) → is_some found ≡ false
      → or_empty (read name found (λ item. read_template name (template layers at item) (λ t. read_field (field_of at.lang item t (codes "description"))))) ≡ Err (NoQuestion name)
  by_item None is = refl
  by_item (Some item) is = cc

-- ---- a command that is told of on the terminal

module _ (command : Command) (old : SessionState) (none : file_of command ≡ None) where
  -- nothing is shown, and a reply
  pub told_showing : displayed old command ≡ Blank → (r : Reply) → answer old command nothing ≡ reply_only old r → (result : Result Stepped OutOfMemory) → IfOk result (λ did. did ≡ Replied r) → DoesShowing command old old (lifted result)
  told_showing blank r is result told = lifts command old old result (told_does old command (quiet command old none blank) r is result told)

  module _ (display : Display) (is : displayed old command ≡ display) (mid new : SessionState) (shown : HasShown display old (Ok (Answers [])) mid) where
    -- it is shown, and then this is the bar
    pub bar_does : (bar : Option Bar) → answer old command nothing ≡ reply_asking old (reply 0 (codes "OK")) (with_bar old.asking bar) → names_on old command nothing ≡ [] → (result : Result Stepped OutOfMemory)
        → Comes (reply_asking mid (reply 0 (codes "OK")) (with_bar mid.asking bar)) [] mid new result → DoesShowing command old new (lifted result)
    bar_does bar alike names result comes =
        shown_does command old none display is (Answers []) mid new shown (reply_asking mid (reply 0 (codes "OK")) (with_bar mid.asking bar)) [] result
        (ap (λ (s : SessionState). reply_asking s (reply 0 (codes "OK")) (with_bar s.asking bar)) shown.kept ∙ sym alike) (sym names) comes

-- ---- a bar that is there, or isn't

with_one : {A : Type 0} (bar : Option Bar) (here else : A) → is_some bar ≡ true → option_map_or (λ b. here) bar else ≡ here
with_one None here else is = cc
with_one (Some bar) here else is = refl

no_bar : (bar : Option Bar) → is_some bar ≡ false → bar ≡ None
no_bar None is = refl
no_bar (Some bar) is = cc

-- ---- a question's description

module _ (old : SessionState) (word name : List ℕ) (named : (name ≡ word) × (is_name word ≡ true)) where
  described_is : described old word ≡ line_read (description old.store.layers old.at name)
  described_is = ap line_read (on_name word (description old.store.layers old.at) named.1 ∙ ap (description old.store.layers old.at) (sym named.0))

  pub shows_description : where_asked old.policy.frontend (described old word) ≡ where_asked old.policy.frontend (line_read (description old.store.layers old.at name))
  shows_description = ap (where_asked old.policy.frontend) described_is

  pub shows_none : exists old.store.layers old.at name ≡ false → where_asked old.policy.frontend (described old word) ≡ Blank
  shows_none none = shows_description ∙ ap (λ (r : Result (List ℕ) QuestionError). where_asked old.policy.frontend (line_read r)) (no_description old.store.layers old.at name none) ∙ where_blank old.policy.frontend

  module _ (low high : ℕ) where
    -- PROGRESS START on a question that isn't there
    pub start_missing : exists old.store.layers old.at name ≡ false → (result : Result Stepped OutOfMemory) → IfOk result (λ did. did ≡ Replied (no_question name)) → DoesShowing (command.ProgressStart low high word) old old (lifted result)
    start_missing none result told =
        told_showing (command.ProgressStart low high word) old refl (shows_none none) (no_question name)
        (there_none old word name named (λ n. reply_asking old (reply 0 (codes "OK")) (with_bar old.asking (Some (record { min = low; max = high; place = low })))) none) result told

    -- and on one that is
    pub start_does : exists old.store.layers old.at name ≡ true → (mid new : SessionState) → HasShown (where_asked old.policy.frontend (line_read (description old.store.layers old.at name))) old (Ok (Answers [])) mid
        → (result : Result Stepped OutOfMemory) → Comes (reply_asking mid (reply 0 (codes "OK")) (with_bar mid.asking (Some (record { min = low; max = high; place = low })))) [] mid new result
        → DoesShowing (command.ProgressStart low high word) old new (lifted result)
    start_does some mid new shown result comes =
        bar_does (command.ProgressStart low high word) old refl _ shows_description mid new shown (Some (record { min = low; max = high; place = low }))
        (there_found old word name named (λ n. reply_asking old (reply 0 (codes "OK")) (with_bar old.asking (Some (record { min = low; max = high; place = low })))) some) refl result comes

    pub start_stops : (new : SessionState) (error : StepError) → StopsShowing (where_asked old.policy.frontend (line_read (description old.store.layers old.at name))) old error new → BreaksOff (command.ProgressStart low high word) old error new
    start_stops new error stopped = stops_showing (command.ProgressStart low high word) old refl _ shows_description new error stopped

  -- PROGRESS INFO, where there is a bar
  module _ (there_is : is_some old.asking.bar ≡ true) where
    info_shows : displayed old (command.ProgressInfo word) ≡ where_asked old.policy.frontend (described old word)
    info_shows = ap (where_asked old.policy.frontend) (with_one old.asking.bar (described old word) Blank there_is)

    info_is : answer old (command.ProgressInfo word) nothing ≡ and_then {A = List ℕ} old (λ n. reply_only old (reply 0 (codes "OK"))) (for_question word (there old))
    info_is = with_one old.asking.bar (and_then {A = List ℕ} old (λ n. reply_only old (reply 0 (codes "OK"))) (for_question word (there old))) (reply_only old no_progress_bar) there_is

    pub info_missing : exists old.store.layers old.at name ≡ false → (result : Result Stepped OutOfMemory) → IfOk result (λ did. did ≡ Replied (no_question name)) → DoesShowing (command.ProgressInfo word) old old (lifted result)
    info_missing none result told =
        told_showing (command.ProgressInfo word) old refl (info_shows ∙ shows_none none) (no_question name) (info_is ∙ there_none old word name named (λ n. reply_only old (reply 0 (codes "OK"))) none) result told

    pub info_does : exists old.store.layers old.at name ≡ true → (mid : SessionState) → HasShown (where_asked old.policy.frontend (line_read (description old.store.layers old.at name))) old (Ok (Answers [])) mid
        → (result : Result Stepped OutOfMemory) → Comes (reply_only mid (reply 0 (codes "OK"))) [] mid mid result → DoesShowing (command.ProgressInfo word) old mid (lifted result)
    info_does some mid shown result comes =
        shown_does (command.ProgressInfo word) old refl _ (info_shows ∙ shows_description) (Answers []) mid mid shown (reply_only mid (reply 0 (codes "OK"))) [] result
        (ap (λ (s : SessionState). reply_only s (reply 0 (codes "OK"))) shown.kept ∙ sym (info_is ∙ there_found old word name named (λ n. reply_only old (reply 0 (codes "OK"))) some)) refl comes

    pub info_stops : (new : SessionState) (error : StepError) → StopsShowing (where_asked old.policy.frontend (line_read (description old.store.layers old.at name))) old error new → BreaksOff (command.ProgressInfo word) old error new
    info_stops new error stopped = stops_showing (command.ProgressInfo word) old refl _ (info_shows ∙ shows_description) new error stopped

-- ---- the place of the bar

module _ (old : SessionState) (number : ℕ) where
  module _ (bar : Bar) (there_is : old.asking.bar ≡ Some bar) (mid new : SessionState) where
    set_shows : displayed old (command.ProgressSet number) ≡ where_asked old.policy.frontend (percent_line (bar_at bar number))
    set_shows = ap (λ (b : Option Bar). where_asked old.policy.frontend (option_map_or (λ x. percent_line (bar_at x number)) b Blank)) there_is

    step_shows : displayed old (command.ProgressStep number) ≡ where_asked old.policy.frontend (percent_line (bar_at bar (bar.place + number)))
    step_shows = ap (λ (b : Option Bar). where_asked old.policy.frontend (option_map_or (λ x. percent_line (bar_at x (x.place + number))) b Blank)) there_is

    pub set_does : HasShown (where_asked old.policy.frontend (percent_line (bar_at bar number))) old (Ok (Answers [])) mid → (result : Result Stepped OutOfMemory)
        → Comes (reply_asking mid (reply 0 (codes "OK")) (with_bar mid.asking (Some (bar_at bar number)))) [] mid new result → DoesShowing (command.ProgressSet number) old new (lifted result)
    set_does shown result comes =
        bar_does (command.ProgressSet number) old refl _ set_shows mid new shown (Some (bar_at bar number))
        (ap (λ (b : Option Bar). option_map_or (λ x. reply_asking old (reply 0 (codes "OK")) (with_bar old.asking (Some (bar_at x number)))) b (reply_only old no_progress_bar)) there_is) refl result comes

    pub set_stops : (error : StepError) → StopsShowing (where_asked old.policy.frontend (percent_line (bar_at bar number))) old error new → BreaksOff (command.ProgressSet number) old error new
    set_stops error stopped = stops_showing (command.ProgressSet number) old refl _ set_shows new error stopped

    pub step_does : HasShown (where_asked old.policy.frontend (percent_line (bar_at bar (bar.place + number)))) old (Ok (Answers [])) mid → (result : Result Stepped OutOfMemory)
        → Comes (reply_asking mid (reply 0 (codes "OK")) (with_bar mid.asking (Some (bar_at bar (bar.place + number))))) [] mid new result → DoesShowing (command.ProgressStep number) old new (lifted result)
    step_does shown result comes =
        bar_does (command.ProgressStep number) old refl _ step_shows mid new shown (Some (bar_at bar (bar.place + number)))
        (ap (λ (b : Option Bar). option_map_or (λ x. reply_asking old (reply 0 (codes "OK")) (with_bar old.asking (Some (bar_at x (x.place + number))))) b (reply_only old no_progress_bar)) there_is) refl result comes

    pub step_stops : (error : StepError) → StopsShowing (where_asked old.policy.frontend (percent_line (bar_at bar (bar.place + number)))) old error new → BreaksOff (command.ProgressStep number) old error new
    step_stops error stopped = stops_showing (command.ProgressStep number) old refl _ step_shows new error stopped

-- there is no bar
module _ (old : SessionState) (none : old.asking.bar ≡ None) (result : Result Stepped OutOfMemory) (told : IfOk result (λ did. did ≡ Replied no_progress_bar)) where
  no_display : (line : Bar → Display) → where_asked old.policy.frontend (option_map_or line old.asking.bar Blank) ≡ Blank
  no_display line = ap (λ (b : Option Bar). where_asked old.policy.frontend (option_map_or line b Blank)) none ∙ where_blank old.policy.frontend

  no_outcome : (outcome : Bar → CommandOutcome) → option_map_or outcome old.asking.bar (reply_only old no_progress_bar) ≡ reply_only old no_progress_bar
  no_outcome outcome = ap (λ (b : Option Bar). option_map_or outcome b (reply_only old no_progress_bar)) none

  pub set_without : (number : ℕ) → DoesShowing (command.ProgressSet number) old old (lifted result)
  set_without number = told_showing (command.ProgressSet number) old refl (no_display _) no_progress_bar (no_outcome _) result told

  pub step_without : (number : ℕ) → DoesShowing (command.ProgressStep number) old old (lifted result)
  step_without number = told_showing (command.ProgressStep number) old refl (no_display _) no_progress_bar (no_outcome _) result told

  info_with : (word : List ℕ) → DoesShowing (command.ProgressInfo word) old old (lifted result)
  info_with word = told_showing (command.ProgressInfo word) old refl (no_display _) no_progress_bar (no_outcome _) result told

pub info_without : (old : SessionState) → is_some old.asking.bar ≡ false → (result : Result Stepped OutOfMemory) → IfOk result (λ did. did ≡ Replied no_progress_bar) → (word : List ℕ)
    → DoesShowing (command.ProgressInfo word) old old (lifted result)
info_without old none result told word = info_with old (no_bar old.asking.bar none) result told word

-- PROGRESS INFO on a word that is no name
pub info_none : (old : SessionState) (word : List ℕ) → is_name word ≡ false → is_some old.asking.bar ≡ true → (result : Result Stepped OutOfMemory) → IfOk result (λ did. did ≡ Replied (no_question word))
    → DoesShowing (command.ProgressInfo word) old old (lifted result)
info_none old word none there_is result told =
    told_showing (command.ProgressInfo word) old refl
    (ap (where_asked old.policy.frontend) (with_one old.asking.bar (described old word) Blank there_is ∙ ap line_read (on_none word (description old.store.layers old.at) none)) ∙ where_blank old.policy.frontend)
    (no_question word)
    (with_one old.asking.bar (and_then {A = List ℕ} old (λ n. reply_only old (reply 0 (codes "OK"))) (for_question word (there old))) (reply_only old no_progress_bar) there_is
    ∙ ap (and_then {A = List ℕ} old (λ n. reply_only old (reply 0 (codes "OK")))) (on_none word (there old) none)) result told
