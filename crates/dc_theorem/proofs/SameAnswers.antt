-- What a command comes to, and what it shows, doesn't depend on the files but for what was found there, nor on standard error.
use Rattle.std.proofs.Common.{◌≡◌, ℕ, List, [], ◌∷◌, refl, ap, ◌∙◌}
use Rattle.std.specs.Prelude.{Bool, Option, None, Some, Result, Ok, Err, unwrap_or, if◌then◌else◌, codes}
use Rattle.std.specs.Option.{option_map_or}
use Rattle.std.specs.Str.{bytes_eq}
use Rattle.dc_outside.specs.State.{FilesState, LinkState}
use Rattle.dc_text.specs.Names.{is_name}
use Rattle.dc_frontend.specs.declared.frontend.Frontend.{Frontend}
use Rattle.dc_frontend.specs.declared.frontend.Frontend.TheVariants.{Noninteractive, Teletype, Passthrough}
use Rattle.dc_proto.specs.Replies.{reply}
use Rattle.dc_proto.specs.declared.priority.Priority.{Priority}
use Rattle.dc_proto.specs.declared.command.Command.{Command}
use Rattle.dc_proto.specs.declared.command.Command.TheVariants.{Version, Capb, SetTitle, Title, Input, BeginBlock, EndBlock, Go, Clear, Stop, Get, Set, Reset, Subst, Fget, Fset, Metaget, Register, Unregister, Purge, ProgressStart, ProgressSet, ProgressStep, ProgressInfo, ProgressStop, LoadTemplateFile, XSave}
use Rattle.dc_proto.specs.declared.reply.Reply.{Reply}
use Rattle.dc_question.specs.Changes.{values_set, value_set, flag_set, variable_set, value_reset}
use Rattle.dc_question.specs.Ownership.{registered, unregistered, purged, loaded}
use Rattle.dc_question.specs.Questions.{kind, flag, value}
use Rattle.dc_question.specs.declared.errors.QuestionError.{QuestionError}
use Rattle.dc_question.specs.declared.errors.QuestionError.TheVariants.{NoQuestion}
use Rattle.dc_store.specs.Plans.{StoreState, owned}
use Rattle.dc_teletype.specs.declared.teletype.Asked.{Asked}
use Rattle.dc_teletype.specs.declared.teletype.Asked.TheVariants.{Answers, Back}
use Rattle.dc_template.specs.declared.kinds.Kind.{Kind}
use Rattle.dc_session.specs.Answers.{CommandInputs, CommandOutcome, answer, reply_only, reply_asking, for_question, and_then, reply_read, reply_write, truth, is_truth, text_reply, there, field_read, input_reply, gone, answered, heard_out, going, loading}
use Rattle.dc_session.specs.Asking.{description, is_to_be_shown, shown_by, prepared_if, choices_for, to_show, first_fixed, values_given, first_busy}
use Rattle.dc_session.specs.Displays.{displayed}
use Rattle.dc_session.specs.Refusals.{cant_change, is_busy, bad_flag_value, no_progress_bar}
use Rattle.dc_session.specs.SessionState.{SessionState}
use Rattle.dc_session.specs.declared.asking.Bar.{Bar}
use Rattle.dc_session.specs.declared.template_files.Found.{Found}
use Rattle.dc_session.specs.declared.template_files.Found.TheVariants.{Unreadable, Missing, Faulty, Templates}

module _ (state : SessionState) (files : FilesState) (err : LinkState) where
  abbrev moved : SessionState
  moved = record state { files = files; err = err }

  -- ---- calls

  by_same : {A : Type 0} (one other : A → CommandOutcome) (row : Result A QuestionError) → ((a : A) → one a ≡ other a) → and_then moved one row ≡ and_then state other row
  by_same one other (Ok a) same = same a
  by_same one other (Err error) same = refl

  says_same : {A : Type 0} (field : List ℕ) (told : A → Reply) (row : Result A QuestionError) → reply_read moved field told row ≡ reply_read state field told row
  says_same field told (Ok a) = refl
  says_same field told (Err error) = refl

  does_same : (told : Reply) (row : Result StoreState QuestionError) → reply_write moved told row ≡ reply_write state told row
  does_same told (Ok store) = refl
  does_same told (Err error) = refl

  -- a refusal where there is a word, and else this
  unless_same : (told : List ℕ → Reply) (found : Option (List ℕ)) (one other : CommandOutcome) → one ≡ other → option_map_or (λ name. reply_only moved (told name)) found one ≡ option_map_or (λ name. reply_only state (told name)) found other
  unless_same told None one other same = same
  unless_same told (Some name) one other same = refl

  bar_same : (bar : Option Bar) (one other : Bar → CommandOutcome) → ((b : Bar) → one b ≡ other b) → option_map_or one bar (reply_only moved no_progress_bar) ≡ option_map_or other bar (reply_only state no_progress_bar)
  bar_same None one other same = refl
  bar_same (Some bar) one other same = same bar

  -- ---- parts of the table

  shown_same : (priority : Priority) (name : List ℕ) (k : Option Kind) (seen : Result Bool QuestionError) → shown_by moved priority name k seen ≡ shown_by state priority name k seen
  shown_same priority name k (Err error) = refl
  shown_same priority name None (Ok seen) = refl
  shown_same priority name (Some k) (Ok seen) = refl

  input_row : (priority : Priority) (word : List ℕ) → for_question word (is_to_be_shown moved priority) ≡ for_question word (is_to_be_shown state priority)
  input_row priority word =
      ap (λ (row : Result Bool QuestionError). if is_name word then row else Err (NoQuestion word))
      (shown_same priority word (kind state.store.layers state.at word) (flag state.store.layers state.at word (codes "seen")))

  gone_same : (row : Result StoreState QuestionError) → gone moved row ≡ gone state row
  gone_same (Ok store) = refl
  gone_same (Err error) = refl

  answered_same : (row : Result StoreState QuestionError) → answered moved row ≡ answered state row
  answered_same (Ok store) = refl
  answered_same (Err error) = refl

  heard_same : (asked : Asked) → heard_out moved asked ≡ heard_out state asked
  heard_same Back = refl
  heard_same (Answers answers) = answered_same (values_set state.store state.at (values_given (to_show state) answers))

  going_same : (frontend : Frontend) (asked : Asked) → going frontend moved asked ≡ going frontend state asked
  going_same Noninteractive asked = gone_same (values_set state.store state.at (choices_for state))
  going_same Teletype asked = unless_same cant_change (first_fixed state) (heard_out moved asked) (heard_out state asked) (heard_same asked)
  going_same Passthrough asked = unless_same cant_change (first_fixed state) (heard_out moved asked) (heard_out state asked) (heard_same asked)

  pub loading_same : (owner : List ℕ) (found : Found) → loading moved owner found ≡ loading state owner found
  loading_same owner Unreadable = refl
  loading_same owner Missing = refl
  loading_same owner (Faulty line) = refl
  loading_same owner (Templates templates) = does_same (reply 0 []) (loaded state.store state.at owner templates)

  -- ---- the table

  pub same_answer : (command : Command) (given : CommandInputs) → answer moved command given ≡ answer state command given
  same_answer (Version version) given = refl
  same_answer (Capb words) given = refl
  same_answer (SetTitle word) given = by_same _ _ (for_question word (description state.store.layers state.at)) (λ text. refl)
  same_answer (Title text) given = refl
  same_answer (Input priority word) given =
      ap (λ (row : Result Bool QuestionError). and_then moved (λ shown. reply_asking moved (input_reply moved.policy.frontend shown) (prepared_if shown moved.asking word)) row) (input_row priority word)
      ∙ by_same _ _ (for_question word (is_to_be_shown state priority)) (λ shown. refl)
  same_answer BeginBlock given = refl
  same_answer EndBlock given = refl
  same_answer Go given = going_same state.policy.frontend given.asked
  same_answer Clear given = refl
  same_answer Stop given = refl
  same_answer XSave given = refl
  same_answer (Get word) given = says_same [] (text_reply state) (for_question word (value state.store.layers state.at))
  same_answer (Set word text) given = does_same (reply 0 (codes "value set")) (for_question word (λ name. value_set state.store state.at name text))
  same_answer (Reset word) given = does_same (reply 0 []) (for_question word (value_reset state.store state.at))
  same_answer (Subst word key text) given = does_same (reply 0 []) (for_question word (λ name. variable_set state.store state.at name key text))
  same_answer (Fget word key) given = says_same [] (λ is. reply 0 (truth is)) (for_question word (λ name. flag state.store.layers state.at name key))
  same_answer (Fset word key text) given =
      let set = does_same (reply 0 text) (for_question word (λ name. flag_set state.store state.at name key (bytes_eq text (codes "true")))) in
      let bad = says_same [] (λ is. bad_flag_value) (for_question word (λ name. flag state.store.layers state.at name key)) in
      λ i. if is_truth text then set i else bad i
  same_answer (Metaget word field) given = says_same field (text_reply state) (for_question word (field_read state field))
  same_answer (Register template name) given = does_same (reply 0 []) (registered state.store state.at template name state.owner)
  same_answer (Unregister word) given =
      by_same _ _ (for_question word (there state))
      (λ name. unless_same is_busy (first_busy state.asking (name ∷ [])) _ _ (does_same (reply 0 []) (unregistered state.store state.at name state.owner)))
  same_answer Purge given = unless_same is_busy (first_busy state.asking (owned state.store.layers state.at.config state.owner)) _ _ (does_same (reply 0 []) (purged state.store state.at state.owner))
  same_answer (ProgressStart low high word) given = by_same _ _ (for_question word (there state)) (λ name. refl)
  same_answer (ProgressSet number) given = bar_same state.asking.bar _ _ (λ bar. refl)
  same_answer (ProgressStep number) given = bar_same state.asking.bar _ _ (λ bar. refl)
  same_answer (ProgressInfo word) given = bar_same state.asking.bar _ _ (λ bar. by_same _ _ (for_question word (there state)) (λ name. refl))
  same_answer ProgressStop given = bar_same state.asking.bar _ _ (λ bar. refl)
  same_answer (LoadTemplateFile path owner) given = loading_same (unwrap_or owner state.owner) given.found

  pub same_display : (command : Command) → displayed moved command ≡ displayed state command
  same_display Go = refl
  same_display (ProgressStart low high word) = refl
  same_display (ProgressSet number) = refl
  same_display (ProgressStep number) = refl
  same_display (ProgressInfo word) = refl
  same_display command = refl
