-- The table of commands (debconf-devel(7)): what each comes to, that is its reply, the store that it leaves, and what is asked for then. Its
-- words, and what they alone refuse, are in `dc_proto`, Commands.antt. The calls on questions say what each reads and writes, and in which
-- order it is refused.
use Rattle.std.specs.Prelude.{ℕ, ◌+◌, List, [], ◌∷◌, map as each, Bool, true, ◌||◌, Option, Some, None, unwrap_or, Result, Ok, Err, if◌then◌else◌, codes}
use Rattle.std.specs.List.{starts_with}
use Rattle.std.specs.Bool.{nat_eq}
use Rattle.std.specs.Option.{option_map_or}
use Rattle.std.specs.Str.{bytes_eq}
use Rattle.dc_text.specs.Bytes.{lower}
use Rattle.dc_text.specs.Names.{is_name, is_field_key}
use Rattle.dc_frontend.specs.declared.frontend.Frontend.{Frontend}
use Rattle.dc_frontend.specs.declared.frontend.Frontend.TheVariants.{Noninteractive, Teletype, Passthrough}
use Rattle.dc_proto.specs.Replies.{reply}
use Rattle.dc_proto.specs.declared.command.Command.{Command}
use Rattle.dc_proto.specs.declared.command.Command.TheVariants.{Version, Capb, SetTitle, Title, Input, BeginBlock, EndBlock, Go, Clear, Stop, Get, Set, Reset, Subst, Fget, Fset, Metaget, Register, Unregister, Purge, ProgressStart, ProgressSet, ProgressStep, ProgressInfo, ProgressStop, LoadTemplateFile, XSave}
use Rattle.dc_proto.specs.declared.reply.Reply.{Reply}
use Rattle.dc_store.specs.Plans.{StoreState, owned}
use Rattle.dc_store.specs.Batches.{names_of}
use Rattle.dc_question.specs.Changes.{value_set, values_set, flag_set, variable_set, value_reset}
use Rattle.dc_question.specs.Ownership.{registered, unregistered, purged, loaded, leave_batch, load_batch}
use Rattle.dc_question.specs.Questions.{question, template, read, read_template, value, flag, expanded_field}
use Rattle.dc_question.specs.declared.errors.QuestionError.{QuestionError}
use Rattle.dc_question.specs.declared.errors.QuestionError.TheVariants.{NoQuestion, NoField}
use Rattle.dc_teletype.specs.declared.teletype.Asked.{Asked}
use Rattle.dc_teletype.specs.declared.teletype.Asked.TheVariants.{Answers, Back}
use Rattle.dc_session.specs.Asking.{is_among, description, is_to_be_shown, prepared_if, choices_for, skipped, to_show, first_fixed, values_given, were_shown, first_busy, bar_at}
use Rattle.dc_session.specs.Refusals.{refusal, cant_change, is_busy, bad_flag_value, no_progress_bar, version_not_supported, read_fault, no_template_file, bad_template_file}
use Rattle.dc_session.specs.SessionState.{FilesState, ScreenState, SessionState}
use Rattle.dc_session.specs.declared.asking.Asking.{Asking}
use Rattle.dc_session.specs.declared.asking.Bar.{Bar}
use Rattle.dc_session.specs.declared.stepped.Stepped.{Stepped}
use Rattle.dc_session.specs.declared.stepped.Stepped.TheVariants.{Replied, Save, Stopped}
use Rattle.dc_session.specs.declared.template_files.Found.{Found}
use Rattle.dc_session.specs.declared.template_files.Found.TheVariants.{Unreadable, Missing, Faulty, Templates}

-- what the outside gives a command: what is found where it looks for a file, and what is answered where it asks
pub record CommandInputs : Type 0 where
  pub found : Found
  pub asked : Asked

-- what a command is given that neither looks for a file nor asks
abbrev pub nothing : CommandInputs
nothing = record { found = Missing; asked = Answers [] }

-- what a command comes to: its reply, the store that is left, and what is asked for then
pub record CommandOutcome : Type 0 where
  pub stepped : Stepped
  pub store : StoreState
  pub asking : Asking

-- ---- calls

-- a reply, and nothing changes
abbrev pub reply_only : SessionState → Reply → CommandOutcome
reply_only state reply = record { stepped = Replied reply; store = state.store; asking = state.asking }

-- a reply, and this is asked for then
abbrev pub reply_asking : SessionState → Reply → Asking → CommandOutcome
reply_asking state reply asking = record { stepped = Replied reply; store = state.store; asking = asking }

-- what a call on the question of a word says; a word that isn't a name names none
abbrev pub for_question : {A : Type 0} → List ℕ → (List ℕ → Result A QuestionError) → Result A QuestionError
for_question word call = if is_name word then call word else Err (NoQuestion word)

-- what follows from what is read of a question; a refusal changes nothing
abbrev pub and_then : {A : Type 0} → SessionState → (A → CommandOutcome) → Result A QuestionError → CommandOutcome
and_then state outcome (Ok answer) = outcome answer
and_then state outcome (Err error) = reply_only state (refusal [] error)

-- a call that reads, whose refusal may tell a field
abbrev pub reply_read : {A : Type 0} → SessionState → List ℕ → (A → Reply) → Result A QuestionError → CommandOutcome
reply_read state field reply (Ok answer) = reply_only state (reply answer)
reply_read state field reply (Err error) = reply_only state (refusal field error)

-- a call that writes: all that it writes is done, or nothing
abbrev pub reply_write : SessionState → Reply → Result StoreState QuestionError → CommandOutcome
reply_write state reply (Ok new) = record { stepped = Replied reply; store = new; asking = state.asking }
reply_write state reply (Err error) = reply_only state (refusal [] error)

-- the questions that owners leave, unless one of them is prepared
abbrev pub unless_busy : SessionState → List (List ℕ) → CommandOutcome → CommandOutcome
unless_busy state names outcome = option_map_or (λ name. reply_only state (is_busy name)) (first_busy state.asking names) outcome

-- what is done to the progress bar that is there
abbrev pub on_bar : SessionState → (Bar → CommandOutcome) → CommandOutcome
on_bar state outcome = option_map_or outcome state.asking.bar (reply_only state no_progress_bar)

-- ---- parts of the table

-- the protocol's version is 2: `2` is asked for, or what begins with `2.`, or none
abbrev pub is_supported : Option (List ℕ) → Bool
is_supported None = true
is_supported (Some version) = bytes_eq version (codes "2") || starts_with nat_eq version (codes "2.")

-- the capabilities of the confmodule are these words
abbrev pub capable : Asking → List (List ℕ) → Asking
capable asking words = record asking { escape = is_among words (codes "escape"); backup = is_among words (codes "backup") }

abbrev pub titled : Asking → List ℕ → Asking
titled asking text = record asking { title = text }

abbrev pub with_bar : Asking → Option Bar → Asking
with_bar asking bar = record asking { bar = bar }

abbrev pub truth : Bool → List ℕ
truth is = if is then codes "true" else codes "false"

abbrev pub is_truth : List ℕ → Bool
is_truth value = bytes_eq value (codes "true") || bytes_eq value (codes "false")

-- a text that was asked for has a code of its own in escape mode
abbrev pub told_code : Bool → ℕ
told_code escape = if escape then 1 else 0

abbrev pub text_reply : SessionState → List ℕ → Reply
text_reply state text = reply (told_code state.asking.escape) text

-- the name of a question that is there
abbrev pub there : SessionState → List ℕ → Result (List ℕ) QuestionError
there state name = read name (question state.store.layers state.at name) (λ item. Ok name)

-- a field of the question's template, in the user's language and with the question's variables put in; a word that is no key of a field
-- names none
abbrev pub field_read : SessionState → List ℕ → List ℕ → Result (List ℕ) QuestionError
field_read state field name =
    if is_field_key (each lower field) then expanded_field state.store.layers state.at name (each lower field)
    else read name (question state.store.layers state.at name) (λ item. read_template name (template state.store.layers state.at item) (λ template. Err NoField))

-- what is told that can be done: to back up where a user is asked
abbrev pub capabilities : Frontend → List ℕ
capabilities Noninteractive = codes "multiselect escape"
capabilities Teletype = codes "multiselect escape backup"
capabilities Passthrough = codes "multiselect escape backup"

-- what is told of a question that is to be shown, or not
abbrev pub prepared_reply : Bool → Reply
prepared_reply shown = if shown then reply 0 (codes "question will be asked") else reply 30 (codes "question skipped")

-- without a user a question is skipped
abbrev pub input_reply : Frontend → Bool → Reply
input_reply Noninteractive shown = reply 30 (codes "question skipped")
input_reply Teletype shown = prepared_reply shown
input_reply Passthrough shown = prepared_reply shown

-- the prepared questions were set to their choices, or one of them can't be changed
abbrev pub gone : SessionState → Result StoreState QuestionError → CommandOutcome
gone state (Ok store) = record { stepped = Replied (reply 0 (codes "ok")); store = store; asking = skipped state }
gone state (Err error) = reply_only state (refusal [] error)

-- the questions that were shown were set to the values that they were given; one that can't be changed isn't shown
abbrev pub answered : SessionState → Result StoreState QuestionError → CommandOutcome
answered state (Ok store) = record { stepped = Replied (reply 0 (codes "ok")); store = store; asking = were_shown state }
answered state (Err error) = reply_only state (refusal [] error)

-- what a dialogue over the prepared questions comes to: the user went back, and nothing is prepared any more, or answered them
abbrev pub heard_out : SessionState → Asked → CommandOutcome
heard_out state Back = reply_asking state (reply 30 (codes "backup")) (record state.asking { prepared = [] })
heard_out state (Answers answers) = answered state (values_set state.store state.at (values_given (to_show state) answers))

-- what GO comes to where a user is asked: what was answered, unless the value of a question can't be changed
abbrev pub asked_out : SessionState → Asked → CommandOutcome
asked_out state asked = option_map_or (λ name. reply_only state (cant_change name)) (first_fixed state) (heard_out state asked)

-- GO asks the prepared questions; without a user it sets those to a choice that have to have one
abbrev pub going : Frontend → SessionState → Asked → CommandOutcome
going Noninteractive state asked = gone state (values_set state.store state.at (choices_for state))
going Teletype state asked = asked_out state asked
going Passthrough state asked = asked_out state asked

-- what the templates of a file that was looked for come to, with an owner for their questions
abbrev pub loading : SessionState → List ℕ → Found → CommandOutcome
loading state owner Unreadable = reply_only state read_fault
loading state owner Missing = reply_only state no_template_file
loading state owner (Faulty line) = reply_only state (bad_template_file line)
loading state owner (Templates templates) = reply_write state (reply 0 []) (loaded state.store state.at owner templates)

-- ---- the table of commands

-- What a command comes to, with what it was given.
abbrev pub answer : SessionState → Command → CommandInputs → CommandOutcome
-- VERSION [version]
answer state (Version version) given = reply_only state (if is_supported version then reply 0 (codes "2.0") else version_not_supported)
-- CAPB capabilities
answer state (Capb words) given = reply_asking state (reply 0 (capabilities state.policy.frontend)) (capable state.asking words)
-- SETTITLE question
answer state (SetTitle word) given = and_then state (λ text. reply_asking state (reply 0 []) (titled state.asking text)) (for_question word (description state.store.layers state.at))
-- TITLE value
answer state (Title text) given = reply_asking state (reply 0 []) (titled state.asking text)
-- INPUT priority question: what is to be shown is prepared
answer state (Input priority word) given = and_then state (λ shown. reply_asking state (input_reply state.policy.frontend shown) (prepared_if shown state.asking word)) (for_question word (is_to_be_shown state priority))
-- BEGINBLOCK
answer state BeginBlock given = reply_only state (reply 0 [])
-- ENDBLOCK
answer state EndBlock given = reply_only state (reply 0 [])
-- GO
answer state Go given = going state.policy.frontend state given.asked
-- CLEAR: nothing is prepared
answer state Clear given = reply_asking state (reply 0 []) (record state.asking { prepared = [] })
-- STOP: the session ends, and there is no reply
answer state Stop given = record { stepped = Stopped; store = state.store; asking = state.asking }
-- GET question
answer state (Get word) given = reply_read state [] (text_reply state) (for_question word (value state.store.layers state.at))
-- SET question value
answer state (Set word text) given = reply_write state (reply 0 (codes "value set")) (for_question word (λ name. value_set state.store state.at name text))
-- RESET question
answer state (Reset word) given = reply_write state (reply 0 []) (for_question word (value_reset state.store state.at))
-- SUBST question key value
answer state (Subst word key text) given = reply_write state (reply 0 []) (for_question word (λ name. variable_set state.store state.at name key text))
-- FGET question flag
answer state (Fget word key) given = reply_read state [] (λ is. reply 0 (truth is)) (for_question word (λ name. flag state.store.layers state.at name key))
-- FSET question flag value
answer state (Fset word key text) given =
    if is_truth text then reply_write state (reply 0 text) (for_question word (λ name. flag_set state.store state.at name key (bytes_eq text (codes "true"))))
    else reply_read state [] (λ is. bad_flag_value) (for_question word (λ name. flag state.store.layers state.at name key))
-- METAGET question field
answer state (Metaget word field) given = reply_read state field (text_reply state) (for_question word (field_read state field))
-- REGISTER template question
answer state (Register template name) given = reply_write state (reply 0 []) (registered state.store state.at template name state.owner)
-- UNREGISTER question
answer state (Unregister word) given =
    and_then state (λ name. unless_busy state (name ∷ []) (reply_write state (reply 0 []) (unregistered state.store state.at name state.owner))) (for_question word (there state))
-- PURGE
answer state Purge given = unless_busy state (owned state.store.layers state.at.config state.owner) (reply_write state (reply 0 []) (purged state.store state.at state.owner))
-- PROGRESS START min max question
answer state (ProgressStart low high word) given =
    and_then state (λ name. reply_asking state (reply 0 (codes "OK")) (with_bar state.asking (Some (record { min = low; max = high; place = low })))) (for_question word (there state))
-- PROGRESS SET number
answer state (ProgressSet number) given = on_bar state (λ bar. reply_asking state (reply 0 (codes "OK")) (with_bar state.asking (Some (bar_at bar number))))
-- PROGRESS STEP number
answer state (ProgressStep number) given = on_bar state (λ bar. reply_asking state (reply 0 (codes "OK")) (with_bar state.asking (Some (bar_at bar (bar.place + number)))))
-- PROGRESS INFO question
answer state (ProgressInfo word) given = on_bar state (λ bar. and_then state (λ name. reply_only state (reply 0 (codes "OK"))) (for_question word (there state)))
-- PROGRESS STOP
answer state ProgressStop given = on_bar state (λ bar. reply_asking state (reply 0 (codes "OK")) (with_bar state.asking None))
-- X_LOADTEMPLATEFILE path [owner]
answer state (LoadTemplateFile path owner) given = loading state (unwrap_or owner state.owner) given.found
-- X_SAVE: nothing changes, and what stands around the session saves
answer state XSave given = record { stepped = Save; store = state.store; asking = state.asking }

-- the state that it leaves, with the files and the terminal as they are then
abbrev pub after_command : SessionState → Command → CommandInputs → FilesState → ScreenState → SessionState
after_command state command given files terminal = record state {
  store = (answer state command given).store;
  files = files;
  terminal = terminal;
  asking = (answer state command given).asking;
}

-- ---- what may change

abbrev pub load_names : SessionState → List ℕ → Found → List (List ℕ)
load_names state owner (Templates templates) = names_of (load_batch state.store.layers state.at owner templates)
load_names state owner _ = []

-- the questions that were given values
abbrev pub names_given : SessionState → Asked → List (List ℕ)
names_given state (Answers answers) = each (λ answer. answer.0) (values_given (to_show state) answers)
names_given state Back = []

-- the questions that GO sets
abbrev pub going_names : Frontend → SessionState → Asked → List (List ℕ)
going_names Noninteractive state asked = each (λ answer. answer.0) (choices_for state)
going_names Teletype state asked = names_given state asked
going_names Passthrough state asked = names_given state asked

-- the names of the items that a command's writes are on
abbrev pub names_on : SessionState → Command → CommandInputs → List (List ℕ)
names_on state Go given = going_names state.policy.frontend state given.asked
names_on state (Set word text) given = word ∷ []
names_on state (Reset word) given = word ∷ []
names_on state (Subst word key text) given = word ∷ []
names_on state (Fset word key text) given = word ∷ []
names_on state (Register template name) given = template ∷ name ∷ []
names_on state (Unregister word) given = names_of (leave_batch state.store.layers state.at state.owner (word ∷ []))
names_on state Purge given = names_of (leave_batch state.store.layers state.at state.owner (owned state.store.layers state.at.config state.owner))
names_on state (LoadTemplateFile path owner) given = load_names state (unwrap_or owner state.owner) given.found
names_on state command given = []
