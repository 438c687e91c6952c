-- A session over plans that don't tell says nothing on standard error.
use Rattle.std.proofs.Common.{◌≡◌, ℕ, Bool, true, false, List, [], ◌∷◌, ◌++◌, Option, None, Some, refl, sym, ap, subst, ◌∙◌}
use Rattle.std.specs.Prelude.{◌+◌, codes, Result, Ok, Err, IfOk, unwrap_or, option_and_then, map as each, fold, if◌then◌else◌}
use Rattle.std.specs.List.{list_any, flat_map}
use Rattle.std.specs.Option.{option_map_or}
use Rattle.std.specs.Result.{result_unwrap_or}
use Rattle.std.specs.Str.{bytes_eq}
use Rattle.dc_conf.specs.Plans.{leaves_of}
use Rattle.dc_conf.specs.Trees.{Tree, Trees, Leaf, Stack, Backup, Debug, End, More}
use Rattle.dc_text.specs.Names.{is_name}
use Rattle.dc_text.specs.Settled.{settled}
use Rattle.dc_words.specs.declared.stream.Line.{Line}
use Rattle.dc_words.specs.declared.stream.Line.TheVariants.{Whole, TooLong}
use Rattle.dc_outside.specs.LinkCalls.{Tells}
use Rattle.dc_item.specs.After.{after_at}
use Rattle.dc_item.specs.Item.{ItemParts}
use Rattle.dc_item.specs.declared.op.Op.{Op}
use Rattle.dc_item.specs.declared.op.Op.TheVariants.{Put, SetField, SetFlag, SetVar, AddOwner, DropOwners}
use Rattle.dc_frontend.specs.declared.frontend.Frontend.{Frontend}
use Rattle.dc_frontend.specs.declared.frontend.Frontend.TheVariants.{Noninteractive, Teletype, Passthrough}
use Rattle.dc_proto.specs.Commands.{heard}
use Rattle.dc_proto.specs.Replies.{reply}
use Rattle.dc_proto.specs.declared.command.Command.{Command}
use Rattle.dc_proto.specs.declared.command.Command.TheVariants.{Version, Capb, SetTitle, Title, Input, BeginBlock, EndBlock, Go, Clear, Stop, Get, Set, Reset, Subst, Fget, Fset, Metaget, Register, Unregister, Purge, ProgressStart, ProgressSet, ProgressStep, ProgressInfo, ProgressStop, LoadTemplateFile, XSave}
use Rattle.dc_proto.specs.declared.command.Heard.{Heard}
use Rattle.dc_proto.specs.declared.command.Heard.TheVariants.{Nothing, Known, Refused}
use Rattle.dc_proto.specs.declared.reply.Reply.{Reply}
use Rattle.dc_template.specs.Stanzas.{Stanza}
use Rattle.dc_template.specs.declared.kinds.Kind.{Kind}
use Rattle.dc_store.specs.Holders.{item_at, look_of}
use Rattle.dc_store.specs.Plans.{StoreState, or_else, put_above, backup_op, look, holds, write, write_held, write_first, owned}
use Rattle.dc_store.specs.Batches.{Write, commit, all_done, is_refused, first_refused}
use Rattle.dc_store.proofs.Walks.{mapped, either, chosen, none_is, above_by, leaf_by, tried_by}
use Rattle.dc_question.specs.Changes.{changed, value_set, value_write, values_set, value_reset, variable_set, without_answer, flag_set, done_or, told_by, batch_for, question_write}
use Rattle.dc_question.specs.Ownership.{registered, unregistered, purged, leave_batch, load_batch, register_batch, bind_batch, put_loaded, losses, losers, lost_by, template_write, write_beside, has_other_template, bound_elsewhere}
use Rattle.dc_question.specs.Questions.{QuestionContext, question, flag, named_template, read, read_template}
use Rattle.dc_question.specs.declared.errors.QuestionError.{QuestionError}
use Rattle.dc_question.specs.declared.errors.QuestionError.TheVariants as error
use Rattle.dc_serve.specs.Execution.{Transition, state_after, IsExecution}
use Rattle.dc_serve.specs.declared.machine.Response.{Response}
use Rattle.dc_teletype.specs.declared.teletype.Asked.{Asked}
use Rattle.dc_teletype.specs.declared.teletype.Asked.TheVariants.{Answers, Back}
use Rattle.dc_session.specs.Answers.{CommandInputs, CommandOutcome, answer, answered, heard_out, going, loading, for_question, and_then, reply_only, reply_write, reply_read, unless_busy, there, gone, is_truth}
use Rattle.dc_session.specs.Asking.{first_busy, first_fixed, choices_for, to_show, values_given, with_seen, finished}
use Rattle.dc_session.specs.Machine.{Steps, StepsHeard, HasDone, TakesLine}
use Rattle.dc_session.specs.Quiet.{IsQuiet, AreQuiet, IsQuietSession}
use Rattle.dc_session.specs.Refusals.{bad_flag_value, cant_change, is_busy}
use Rattle.dc_session.specs.SessionState.{LinkState, SessionState}
use Rattle.dc_session.specs.declared.asking.Bar.{Bar}
use Rattle.dc_session.specs.declared.stepped.Stepped.{Stepped}
use Rattle.dc_session.specs.declared.template_files.Found.{Found}
use Rattle.dc_session.specs.declared.template_files.Found.TheVariants.{Unreadable, Missing, Faulty, Templates}
use Rattle.dc_session.proofs.TellingLemmas.{takes_tells}

-- ---- a write

-- nothing more was told
abbrev IsUntold : StoreState → StoreState → Type 0
IsUntold store new = new.told ≡ store.told

same_untold : (store new : StoreState) → store ≡ new → IsUntold store new
same_untold store new same = ap (λ (s : StoreState). s.told) (sym same)

module _ (n : List ℕ) (k : Option Kind) where
  mutual
    untold : (plan : Tree) → IsQuiet plan → (s new : StoreState) (op : Op) → write s plan n k op ≡ Some new → IsUntold s new
    untold (Leaf place) quiet s new op h =
        leaf_by s place n k (after_at op (item_at s.layers place n)) new h (λ same is. same_untold s new is) (λ c o is. ap (λ (u : StoreState). u.told) (sym is))
    untold (Stack plans) quiet s new op h =
        either (write_held s plans n k op) (put_above s (after_at op (look_of s.layers (leaves_of plans) n)) (λ put. write_first s plans n k put)) new h
        (λ one. held_untold plans quiet s new op one)
        (λ none two. above_by s (after_at op (look_of s.layers (leaves_of plans) n)) (λ put. write_first s plans n k put) new two (λ same is. same_untold s new is) (λ item made is. first_untold plans quiet s new (Put item) is))
    untold (Backup first second) quiet s new op h =
        mapped (λ t. unwrap_or (option_and_then (λ o. write t second n k o) (backup_op (look t.layers first n) (look t.layers second n))) t) (write s first n k op) new h
        (λ t one is. subst (IsUntold s) is
        (tried_by (IsUntold s) t (λ o. write t second n k o) (backup_op (look t.layers first n) (look t.layers second n)) (untold first quiet.0 s t op one)
        (λ o u two. untold second quiet.1 t u o two ∙ untold first quiet.0 s t op one)))
    untold (Debug plan) quiet s new op h = absurd quiet

    held_untold : (plans : Trees) → AreQuiet plans → (s new : StoreState) (op : Op) → write_held s plans n k op ≡ Some new → IsUntold s new
    held_untold End quiet s new op h = none_is new h
    held_untold (More plan plans) quiet s new op h =
        chosen (holds s.layers plan n) (write s plan n k op) (write_held s plans n k op) new h (λ b one. untold plan quiet.0 s new op one) (λ b two. held_untold plans quiet.1 s new op two)

    first_untold : (plans : Trees) → AreQuiet plans → (s new : StoreState) (op : Op) → write_first s plans n k op ≡ Some new → IsUntold s new
    first_untold End quiet s new op h = none_is new h
    first_untold (More plan plans) quiet s new op h =
        chosen (holds s.layers plan n) None (or_else (write s plan n k op) (write_first s plans n k op)) new h (λ b one. none_is new one)
        (λ b two. either (write s plan n k op) (write_first s plans n k op) new two (λ one. untold plan quiet.0 s new op one) (λ none rest. first_untold plans quiet.1 s new op rest))

-- ---- rows of writes

-- the plans of all writes are quiet
abbrev AllQuiet : List Write → Type 0
AllQuiet [] = Unit {0}
AllQuiet (w ∷ batch) = IsQuiet w.plan × AllQuiet batch

each_quiet : {A : Type 0} (f : A → Write) → ((a : A) → IsQuiet (f a).plan) → (xs : List A) → AllQuiet (each f xs)
each_quiet f quiet [] = tt
each_quiet f quiet (x ∷ xs) = (quiet x, each_quiet f quiet xs)

append_quiet : (batch later : List Write) → AllQuiet batch → AllQuiet later → AllQuiet (batch ++ later)
append_quiet [] later first second = second
append_quiet (w ∷ batch) later first second = (first.0, append_quiet batch later first.1 second)

flat_quiet : {A : Type 0} (f : A → List Write) → ((a : A) → AllQuiet (f a)) → (xs : List A) → AllQuiet (flat_map f xs)
flat_quiet f quiet [] = tt
flat_quiet f quiet (x ∷ xs) = append_quiet (f x) (flat_map f xs) (quiet x) (flat_quiet f quiet xs)

one_untold : (store : StoreState) (w : Write) (done : Option StoreState) → IsQuiet w.plan → write store w.plan w.name w.kind w.op ≡ done → IsUntold store (unwrap_or done store)
one_untold store w None quiet is = refl
one_untold store w (Some new) quiet is = untold w.name w.kind w.plan quiet store new w.op is

all_untold : (batch : List Write) (store : StoreState) → AllQuiet batch → IsUntold store (all_done store batch)
all_untold [] store quiet = refl
all_untold (w ∷ batch) store quiet =
    all_untold batch (unwrap_or (write store w.plan w.name w.kind w.op) store) quiet.1 ∙ one_untold store w (write store w.plan w.name w.kind w.op) quiet.0 refl

row_untold : (store new : StoreState) (batch : List Write) → AllQuiet batch → commit store batch ≡ Some new → IsUntold store new
row_untold store new batch quiet is =
    chosen (list_any (is_refused store.layers) batch) None (Some (all_done store batch)) new is (λ refused none. none_is new none)
    (λ free some. let same : all_done store batch ≡ new = cc in subst (IsUntold store) same (all_untold batch store quiet))

-- ---- calls

-- a call tells nothing more
abbrev CallUntold : StoreState → Result StoreState QuestionError → Type 0
CallUntold store batch = IfOk batch (IsUntold store)

told_untold : (store : StoreState) (name : List ℕ) (batch : List Write) (done : Option StoreState) → AllQuiet batch → commit store batch ≡ done → CallUntold store (done_or name done)
told_untold store name batch None quiet is = tt
told_untold store name batch (Some new) quiet is = row_untold store new batch quiet is

by_untold : (store : StoreState) (held : Option (List ℕ)) (batch : List Write) (done : Option StoreState) → AllQuiet batch → commit store batch ≡ done → CallUntold store (told_by held done)
by_untold store held batch None quiet is = tt
by_untold store held batch (Some new) quiet is = row_untold store new batch quiet is

for_untold : (store : StoreState) (names : List (List ℕ)) (batch : List Write) → AllQuiet batch → CallUntold store (batch_for store names batch)
for_untold store names batch quiet = by_untold store (first_refused store.layers names batch) batch (commit store batch) quiet refl

on_untold : (store : StoreState) (word : List ℕ) (call : List ℕ → Result StoreState QuestionError) → CallUntold store (call word) → CallUntold store (for_question word call)
on_untold store word call keeps = by_name (is_name word) refl where
  by_name : (b : Bool) → is_name word ≡ b → CallUntold store (for_question word call)
  by_name true is = rw is keeps
  by_name false is = rw is tt

module _ (store : StoreState) (at : QuestionContext) (config : IsQuiet at.config) (templates : IsQuiet at.templates) where
  changed_untold : (name : List ℕ) (op : Op) (item : Option ItemParts) → CallUntold store (read name item (λ i. done_or name (commit store (question_write store.layers at name i op ∷ []))))
  changed_untold name op None = tt
  changed_untold name op (Some item) =
      told_untold store name (question_write store.layers at name item op ∷ []) (commit store (question_write store.layers at name item op ∷ [])) (config, tt) refl

  one : (word : List ℕ) (op : Op) → CallUntold store (changed store at word op)
  one word op = changed_untold word op (question store.layers at word)

  bind_quiet : (template : List ℕ) (op : Op) (name owner : List ℕ) → AllQuiet (bind_batch store.layers at template op name owner)
  bind_quiet template op name owner = (templates, (config, tt))

  load_quiet : (owner : List ℕ) (stanzas : List Stanza) → AllQuiet (load_batch store.layers at owner stanzas)
  load_quiet owner stanzas =
      flat_quiet (λ t. bind_batch store.layers at t.name (put_loaded store.layers at t) t.name owner) (λ t. bind_quiet t.name (put_loaded store.layers at t) t.name owner) stanzas

  leave_quiet : (owner : List ℕ) (names : List (List ℕ)) → AllQuiet (leave_batch store.layers at owner names)
  leave_quiet owner names =
      append_quiet (each (λ name. write_beside store.layers at (losses store.layers at owner names) name (DropOwners (owner ∷ []))) names) (losses store.layers at owner names)
      (each_quiet (λ name. write_beside store.layers at (losses store.layers at owner names) name (DropOwners (owner ∷ []))) (λ name. config) names)
      (each_quiet (λ t. template_write store.layers at t (DropOwners (lost_by store.layers at owner names t)) (lost_by store.layers at owner names t)) (λ t. templates) (losers store.layers at owner names))

  values_untold : (answers : List (List ℕ × List ℕ)) → CallUntold store (values_set store at answers)
  values_untold answers = for_untold store (each (λ a. a.0) answers) (each (value_write store.layers at) answers) (each_quiet (value_write store.layers at) (λ a. config) answers)

  -- ---- marks at the end

  marked_untold : (result : Result StoreState QuestionError) → CallUntold store result → IsUntold store (result_unwrap_or result store)
  marked_untold (Ok new) is = is
  marked_untold (Err error) is = refl

  pub seen_untold : (name : List ℕ) → IsUntold store (with_seen at store name)
  seen_untold name = marked_untold (flag_set store at name (codes "seen") true) (one name (SetFlag (codes "seen") true))

all_seen : (at : QuestionContext) → IsQuiet at.config → IsQuiet at.templates → (names : List (List ℕ)) (store : StoreState) → IsUntold store (fold (with_seen at) store names)
all_seen at config templates [] store = refl
all_seen at config templates (name ∷ names) store = all_seen at config templates names (with_seen at store name) ∙ seen_untold store at config templates name

pub finished_untold : (state : SessionState) → IsQuietSession state → (finished state).told ≡ []
finished_untold state quiet = all_seen state.at quiet.config quiet.templates state.asking.asked state.store ∙ quiet.untold

-- ---- commands

module _ (state : SessionState) (quiet : IsQuietSession state) where
  -- a command tells nothing more
  abbrev OutcomeUntold : CommandOutcome → Type 0
  OutcomeUntold outcome = IsUntold state.store outcome.store

  does_untold : (r : Reply) (batch : Result StoreState QuestionError) → CallUntold state.store batch → OutcomeUntold (reply_write state r batch)
  does_untold r (Ok new) is = is
  does_untold r (Err error) is = refl

  says_untold : {A : Type 0} (field : List ℕ) (r : A → Reply) (reading : Result A QuestionError) → OutcomeUntold (reply_read state field r reading)
  says_untold field r (Ok answer) = refl
  says_untold field r (Err error) = refl

  then_untold : {A : Type 0} (outcome : A → CommandOutcome) (reading : Result A QuestionError) → ((a : A) → OutcomeUntold (outcome a)) → OutcomeUntold (and_then state outcome reading)
  then_untold outcome (Ok answer) is = is answer
  then_untold outcome (Err error) is = refl

  busy_untold : (busy : Option (List ℕ)) (outcome : CommandOutcome) → OutcomeUntold outcome → OutcomeUntold (option_map_or (λ name. reply_only state (is_busy name)) busy outcome)
  busy_untold None outcome is = is
  busy_untold (Some name) outcome is = refl

  bar_untold : (bar : Option Bar) (outcome : Bar → CommandOutcome) (none : CommandOutcome) → ((b : Bar) → OutcomeUntold (outcome b)) → OutcomeUntold none → OutcomeUntold (option_map_or outcome bar none)
  bar_untold None outcome none is nothing = nothing
  bar_untold (Some bar) outcome none is nothing = is bar

  gone_untold : (batch : Result StoreState QuestionError) → CallUntold state.store batch → OutcomeUntold (gone state batch)
  gone_untold (Ok new) is = is
  gone_untold (Err error) is = refl

  answered_untold : (batch : Result StoreState QuestionError) → CallUntold state.store batch → OutcomeUntold (answered state batch)
  answered_untold (Ok new) is = is
  answered_untold (Err error) is = refl

  heard_untold : (asked : Asked) → OutcomeUntold (heard_out state asked)
  heard_untold Back = refl
  heard_untold (Answers answers) =
      answered_untold (values_set state.store state.at (values_given (to_show state) answers)) (values_untold state.store state.at quiet.config quiet.templates (values_given (to_show state) answers))

  fixed_untold : (fixed : Option (List ℕ)) (asked : Asked) → OutcomeUntold (option_map_or (λ name. reply_only state (cant_change name)) fixed (heard_out state asked))
  fixed_untold None asked = heard_untold asked
  fixed_untold (Some name) asked = refl

  going_untold : (frontend : Frontend) (asked : Asked) → OutcomeUntold (going frontend state asked)
  going_untold Noninteractive asked = gone_untold (values_set state.store state.at (choices_for state)) (values_untold state.store state.at quiet.config quiet.templates (choices_for state))
  going_untold Teletype asked = fixed_untold (first_fixed state) asked
  going_untold Passthrough asked = fixed_untold (first_fixed state) asked

  one_change : (word : List ℕ) (op : Op) → CallUntold state.store (changed state.store state.at word op)
  one_change word op = one state.store state.at quiet.config quiet.templates word op

  -- a call on the question of a word that writes
  word_untold : (word text : List ℕ) (call : List ℕ → Result StoreState QuestionError) → CallUntold state.store (call word) → OutcomeUntold (reply_write state (reply 0 text) (for_question word call))
  word_untold word text call is = does_untold (reply 0 text) (for_question word call) (on_untold state.store word call is)

  fset_untold : (word key text : List ℕ) (given : CommandInputs) (b : Bool) → is_truth text ≡ b → OutcomeUntold (answer state (Fset word key text) given)
  fset_untold word key text given true is =
      rw is (word_untold word text (λ name. flag_set state.store state.at name key (bytes_eq text (codes "true"))) (one_change word (SetFlag key (bytes_eq text (codes "true")))))
  fset_untold word key text given false is = rw is (says_untold [] (λ flag. bad_flag_value) (for_question word (λ name. flag state.store.layers state.at name key)))

  reset_untold : (word : List ℕ) (item : Option ItemParts) (op : ItemParts → Op) → CallUntold state.store (read word item (λ i. changed state.store state.at word (op i)))
  reset_untold word None op = tt
  reset_untold word (Some item) op = one_change word (op item)

  register_untold : (template name : List ℕ) (item : Option ItemParts) (b : Bool) → has_other_template template (question state.store.layers state.at name) ≡ b
      → CallUntold state.store (read_template name item (λ i. if has_other_template template (question state.store.layers state.at name) then Err (error.Twice name) else batch_for state.store (name ∷ []) (register_batch state.store.layers state.at template name state.owner)))
  register_untold template name None b is = tt
  register_untold template name (Some item) true is = rw is tt
  register_untold template name (Some item) false is =
      rw is (for_untold state.store (name ∷ []) (register_batch state.store.layers state.at template name state.owner) (bind_quiet state.store state.at quiet.config quiet.templates template (AddOwner name) name state.owner))

  leave_untold : (names : List (List ℕ)) → CallUntold state.store (batch_for state.store names (leave_batch state.store.layers state.at state.owner names))
  leave_untold names = for_untold state.store names (leave_batch state.store.layers state.at state.owner names) (leave_quiet state.store state.at quiet.config quiet.templates state.owner names)

  unregister_untold : (word : List ℕ) (item : Option ItemParts) → CallUntold state.store (read word item (λ i. batch_for state.store (word ∷ []) (leave_batch state.store.layers state.at state.owner (word ∷ []))))
  unregister_untold word None = tt
  unregister_untold word (Some item) = leave_untold (word ∷ [])

  loaded_untold : (owner : List ℕ) (templates : List Stanza) (elsewhere : Option Stanza)
      → CallUntold state.store (option_map_or (λ t. Err (error.Twice t.name)) elsewhere (batch_for state.store (each (λ t. t.name) templates) (load_batch state.store.layers state.at owner templates)))
  loaded_untold owner templates None =
      for_untold state.store (each (λ t. t.name) templates) (load_batch state.store.layers state.at owner templates) (load_quiet state.store state.at quiet.config quiet.templates owner templates)
  loaded_untold owner templates (Some stanza) = tt

  loading_untold : (owner : List ℕ) (found : Found) → OutcomeUntold (loading state owner found)
  loading_untold owner Unreadable = refl
  loading_untold owner Missing = refl
  loading_untold owner (Faulty line) = refl
  loading_untold owner (Templates templates) = does_untold _ _ (loaded_untold owner templates (bound_elsewhere state.store.layers state.at templates))

  answer_untold : (command : Command) (given : CommandInputs) → OutcomeUntold (answer state command given)
  answer_untold (Get word) given = says_untold [] _ _
  answer_untold (Set word text) given = word_untold word (codes "value set") (λ name. value_set state.store state.at name text) (one_change word (SetField (codes "value") (settled text)))
  answer_untold (Reset word) given = word_untold word [] (λ name. value_reset state.store state.at name) (reset_untold word (question state.store.layers state.at word) (λ item. Put (without_answer item)))
  answer_untold (Subst word key text) given = word_untold word [] (λ name. variable_set state.store state.at name key text) (one_change word (SetVar key (settled text)))
  answer_untold (Fget word key) given = says_untold [] _ _
  answer_untold (Fset word key text) given = fset_untold word key text given (is_truth text) refl
  answer_untold (Metaget word field) given = says_untold field _ _
  answer_untold (Register template name) given =
      does_untold (reply 0 []) (registered state.store state.at template name state.owner)
      (register_untold template name (named_template state.store.layers state.at template) (has_other_template template (question state.store.layers state.at name)) refl)
  answer_untold (Unregister word) given =
      then_untold (λ name. unless_busy state (name ∷ []) (reply_write state (reply 0 []) (unregistered state.store state.at name state.owner))) (for_question word (there state))
      (λ name. busy_untold (first_busy state.asking (name ∷ [])) (reply_write state (reply 0 []) (unregistered state.store state.at name state.owner))
      (does_untold (reply 0 []) (unregistered state.store state.at name state.owner) (unregister_untold name (question state.store.layers state.at name))))
  answer_untold Purge given =
      busy_untold (first_busy state.asking (owned state.store.layers state.at.config state.owner)) (reply_write state (reply 0 []) (purged state.store state.at state.owner))
      (does_untold (reply 0 []) (purged state.store state.at state.owner) (leave_untold (owned state.store.layers state.at.config state.owner)))
  answer_untold (Version version) given = refl
  answer_untold (Capb words) given = refl
  answer_untold (SetTitle word) given = then_untold _ _ (λ text. refl)
  answer_untold (Title text) given = refl
  answer_untold (Input priority word) given = then_untold _ _ (λ shown. refl)
  answer_untold BeginBlock given = refl
  answer_untold EndBlock given = refl
  answer_untold Go given = going_untold state.policy.frontend given.asked
  answer_untold Clear given = refl
  answer_untold Stop given = refl
  answer_untold XSave given = refl
  answer_untold (ProgressStart low high word) given = then_untold _ _ (λ name. refl)
  answer_untold (ProgressSet number) given = bar_untold state.asking.bar _ _ (λ bar. refl) refl
  answer_untold (ProgressStep number) given = bar_untold state.asking.bar _ _ (λ bar. refl) refl
  answer_untold (ProgressInfo word) given = bar_untold state.asking.bar _ _ (λ bar. then_untold _ _ (λ name. refl)) refl
  answer_untold ProgressStop given = bar_untold state.asking.bar _ _ (λ bar. refl) refl
  answer_untold (LoadTemplateFile path owner) given = loading_untold (unwrap_or owner state.owner) given.found

-- ---- lines

done_untold : (command : Command) (old new : SessionState) (did : Stepped) → IsQuietSession old → HasDone command old did new → new.store.told ≡ []
done_untold command old new did quiet done = ap (λ (s : SessionState). s.store.told) done.new_is ∙ answer_untold old quiet command done.given ∙ quiet.untold

kept_untold : (old new : SessionState) → IsQuietSession old → new ≡ old → new.store.told ≡ []
kept_untold old new quiet same = ap (λ (s : SessionState). s.store.told) same ∙ quiet.untold

heard_line_untold : (said : Heard) (old new : SessionState) (did : Stepped) → IsQuietSession old → StepsHeard said old did new → new.store.told ≡ []
heard_line_untold Nothing old new did quiet steps = kept_untold old new quiet steps.1
heard_line_untold (Known command) old new did quiet done = done_untold command old new did quiet done
heard_line_untold (Refused reply) old new did quiet steps = kept_untold old new quiet steps.1

steps_untold : (line : Line) (old new : SessionState) (did : Stepped) → IsQuietSession old → Steps old line did new → new.store.told ≡ []
steps_untold TooLong old new did quiet steps = kept_untold old new quiet steps.1
steps_untold (Whole line) old new did quiet steps = heard_line_untold (heard old.asking.escape line) old new did quiet steps

heard_at : (said : Heard) (old new : SessionState) (did : Stepped) → StepsHeard said old did new → new.at ≡ old.at
heard_at Nothing old new did steps = ap (λ (s : SessionState). s.at) steps.1
heard_at (Known command) old new did done = ap (λ (s : SessionState). s.at) done.new_is
heard_at (Refused reply) old new did steps = ap (λ (s : SessionState). s.at) steps.1

steps_at : (line : Line) (old new : SessionState) (did : Stepped) → Steps old line did new → new.at ≡ old.at
steps_at TooLong old new did steps = ap (λ (s : SessionState). s.at) steps.1
steps_at (Whole line) old new did steps = heard_at (heard old.asking.escape line) old new did steps

-- a line is told nothing of, and the session stays quiet
quiet_line : (line : Line) (old new : SessionState) (did : Response) → IsQuietSession old → TakesLine old line did new → (new.err ≡ old.err) × IsQuietSession new
quiet_line line old new did quiet takes =
    let at : new.at ≡ old.at = ap (λ (s : SessionState). s.at) takes.tells.new_is ∙ steps_at line old takes.mid takes.handled.stepped takes.handled.steps in (
      subst (λ (t : List ℕ). Tells t old.err new.err) (steps_untold line old takes.mid takes.handled.stepped quiet takes.handled.steps) (takes_tells line old new did takes),
      record {
        config = subst (λ (a : QuestionContext). IsQuiet a.config) (sym at) quiet.config;
        templates = subst (λ (a : QuestionContext). IsQuiet a.templates) (sym at) quiet.templates;
        untold = ap (λ (s : SessionState). s.store.told) takes.tells.new_is;
      },
    )

pub quiet_course : (start : SessionState) (transitions : List (Transition SessionState)) → IsQuietSession start → IsExecution TakesLine start transitions → (state_after start transitions).err ≡ start.err
quiet_course start [] quiet course = refl
quiet_course start (transition ∷ transitions) quiet course =
    let here = quiet_line transition.line start transition.new transition.did quiet course.0 in
    quiet_course transition.new transitions here.1 course.2 ∙ here.0
