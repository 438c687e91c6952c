-- Which items a command's writes are on: the others stay.
use Rattle.std.proofs.Common.{◌≡◌, ℕ, suc, Bool, true, false, List, [], ◌∷◌, Option, None, Some, refl, sym, ap, subst, ◌∙◌, arith}
use Rattle.std.specs.Prelude.{codes, Result, Ok, Err, IfOk, unwrap_or, map as each, if◌then◌else◌}
use Rattle.std.specs.List.{Contains, list_any}
use Rattle.std.specs.Option.{option_map_or}
use Rattle.std.specs.Str.{bytes_eq}
use Rattle.dc_text.specs.Names.{is_name}
use Rattle.dc_text.specs.Settled.{settled}
use Rattle.dc_item.specs.Item.{ItemParts}
use Rattle.dc_item.specs.declared.op.Op.{Op}
use Rattle.dc_item.specs.declared.op.Op.TheVariants.{Put, SetField, SetFlag, SetVar}
use Rattle.dc_frontend.specs.declared.frontend.Frontend.{Frontend}
use Rattle.dc_frontend.specs.declared.frontend.Frontend.TheVariants.{Noninteractive, Teletype, Passthrough}
use Rattle.dc_proto.specs.Replies.{reply}
use Rattle.dc_proto.specs.declared.command.Command.{Command}
use Rattle.dc_proto.specs.declared.command.Command.TheVariants.{Version, Capb, SetTitle, Title, Input, BeginBlock, EndBlock, Go, Clear, Stop, Get, Set, Reset, Subst, Fget, Fset, Metaget, Register, Unregister, Purge, ProgressStart, ProgressSet, ProgressStep, ProgressInfo, ProgressStop, LoadTemplateFile, XSave}
use Rattle.dc_proto.specs.declared.reply.Reply.{Reply}
use Rattle.dc_layer.specs.State.{LayerState}
use Rattle.dc_store.specs.Plans.{StoreState, write, owned}
use Rattle.dc_store.specs.Batches.{Write, commit, all_done, names_of, is_refused, first_refused}
use Rattle.dc_store.specs.StoreLaws.{AreSameButAll}
use Rattle.dc_store.proofs.Walks.{plan_keeps}
use Rattle.dc_store.proofs.RowLemmas.{same_all, same_all_refl, same_all_then}
use Rattle.dc_teletype.specs.declared.teletype.Asked.{Asked}
use Rattle.dc_teletype.specs.declared.teletype.Asked.TheVariants.{Answers, Back}
use Rattle.dc_template.specs.Stanzas.{Stanza}
use Rattle.dc_question.specs.Changes.{changed, value_set, value_write, values_set, value_reset, variable_set, without_answer, flag_set, done_or, told_by, batch_for, question_write}
use Rattle.dc_question.specs.Ownership.{registered, unregistered, purged, leave_batch, load_batch, register_batch, has_other_template, bound_elsewhere}
use Rattle.dc_question.specs.Questions.{QuestionContext, question, flag, named_template, read, read_template}
use Rattle.dc_question.specs.declared.errors.QuestionError.{QuestionError}
use Rattle.dc_question.specs.declared.errors.QuestionError.TheVariants as error
use Rattle.dc_session.specs.SessionState.{SessionState}
use Rattle.dc_session.specs.Answers.{CommandInputs, CommandOutcome, answer, answered, heard_out, going, going_names, names_given, loading, load_names, names_on, for_question, and_then, reply_only, reply_write, reply_read, unless_busy, there, gone, is_truth}
use Rattle.dc_session.specs.Asking.{first_busy, first_fixed, choices_for, to_show, values_given}
use Rattle.dc_session.specs.Refusals.{bad_flag_value, cant_change, is_busy}
use Rattle.dc_session.specs.declared.asking.Bar.{Bar}
use Rattle.dc_session.specs.declared.stepped.Stepped.{Stepped}
use Rattle.dc_session.specs.Machine.{HasDone}
use Rattle.dc_session.specs.declared.template_files.Found.{Found}
use Rattle.dc_session.specs.declared.template_files.Found.TheVariants.{Unreadable, Missing, Faulty, Templates}

-- ---- rows

-- one more name
more_contains : (name : List ℕ) (names : List (List ℕ)) (other : List ℕ) → Contains names other → Contains (name ∷ names) other
more_contains name names other in' = (suc in'.0, omega (arith, in'.1), in'.2)

pub same_all_more : (name : List ℕ) (names : List (List ℕ)) (xs ys : List LayerState) → AreSameButAll names xs ys → AreSameButAll (name ∷ names) xs ys
same_all_more name names [] [] s = tt
same_all_more name names [] (y ∷ ys) s = absurd s
same_all_more name names (x ∷ xs) [] s = absurd s
same_all_more name names (x ∷ xs) (y ∷ ys) s = (
  record {
    sort = s.0.sort;
    spec = s.0.spec;
    left_out = s.0.left_out;
    text = s.0.text;
    items = λ other out. s.0.items other (λ in'. out (more_contains name names other in'));
  },
  same_all_more name names xs ys s.1,
)

one_keeps : (store : StoreState) (w : Write) (done : Option StoreState) → write store w.plan w.name w.kind w.op ≡ done → AreSameButAll (w.name ∷ []) store.layers (unwrap_or done store).layers
one_keeps store w None is = same_all_refl (w.name ∷ []) store.layers
one_keeps store w (Some new) is = same_all (w.name ∷ []) w.name store.layers new.layers (0, omega arith, refl) (plan_keeps store new w.plan w.name w.kind w.op is)

all_keeps : (names : List (List ℕ)) (batch : List Write) (store : StoreState) → ((n : List ℕ) → Contains (names_of batch) n → Contains names n) → AreSameButAll names store.layers (all_done store batch).layers
all_keeps names [] store among = same_all_refl names store.layers
all_keeps names (w ∷ batch) store among =
    same_all_then names store.layers (unwrap_or (write store w.plan w.name w.kind w.op) store).layers (all_done store (w ∷ batch)).layers
    (first (write store w.plan w.name w.kind w.op) refl)
    (all_keeps names batch (unwrap_or (write store w.plan w.name w.kind w.op) store) (λ n in'. among n (more_contains w.name (names_of batch) n in'))) where
      first : (done : Option StoreState) → write store w.plan w.name w.kind w.op ≡ done → AreSameButAll names store.layers (unwrap_or done store).layers
      first None is = same_all_refl names store.layers
      first (Some new) is = same_all names w.name store.layers new.layers (among w.name (0, omega arith, refl)) (plan_keeps store new w.plan w.name w.kind w.op is)

-- what a row leaves differs at most in the items that it is on
pub row_keeps : (store new : StoreState) (batch : List Write) → commit store batch ≡ Some new → AreSameButAll (names_of batch) store.layers new.layers
row_keeps store new batch is = by_test (list_any (is_refused store.layers) batch) refl where
  by_test : (b : Bool) → list_any (is_refused store.layers) batch ≡ b → AreSameButAll (names_of batch) store.layers new.layers
  by_test true refused = absurd (let none : ◌≡◌ {A = Option StoreState} None (Some new) = ap (λ b. if b then None else Some (all_done store batch)) (sym refused) ∙ is in cc)
  by_test false free =
      let some : ◌≡◌ {A = Option StoreState} (Some (all_done store batch)) (Some new) = ap (λ b. if b then None else Some (all_done store batch)) (sym free) ∙ is in
      let same : all_done store batch ≡ new = cc in
      subst (λ (s : StoreState). AreSameButAll (names_of batch) store.layers s.layers) same (all_keeps (names_of batch) batch store (λ n in'. in'))

-- ---- calls

-- what a call leaves differs at most in the items of these names
abbrev Keeps : List (List ℕ) → StoreState → Result StoreState QuestionError → Type 0
Keeps names store batch = IfOk batch (λ new. AreSameButAll names store.layers new.layers)

one_told : (store : StoreState) (name : List ℕ) (batch : List Write) (done : Option StoreState) → commit store batch ≡ done → Keeps (names_of batch) store (done_or name done)
one_told store name batch None is = tt
one_told store name batch (Some new) is = row_keeps store new batch is

row_told : (store : StoreState) (held : Option (List ℕ)) (batch : List Write) (done : Option StoreState) → commit store batch ≡ done → Keeps (names_of batch) store (told_by held done)
row_told store held batch None is = tt
row_told store held batch (Some new) is = row_keeps store new batch is

row_for_keeps : (store : StoreState) (names : List (List ℕ)) (batch : List Write) → Keeps (names_of batch) store (batch_for store names batch)
row_for_keeps store names batch = row_told store (first_refused store.layers names batch) batch (commit store batch) refl

changed_keeps : (store : StoreState) (at : QuestionContext) (name : List ℕ) (op : Op) (item : Option ItemParts)
    → Keeps (name ∷ []) store (read name item (λ i. done_or name (commit store (question_write store.layers at name i op ∷ []))))
changed_keeps store at name op None = tt
changed_keeps store at name op (Some item) = one_told store name (question_write store.layers at name item op ∷ []) (commit store (question_write store.layers at name item op ∷ [])) refl

-- ---- commands

on_keeps : (names : List (List ℕ)) (store : StoreState) (word : List ℕ) (call : List ℕ → Result StoreState QuestionError) → Keeps names store (call word) → Keeps names store (for_question word call)
on_keeps names store word call keeps = by_name (is_name word) refl where
  by_name : (b : Bool) → is_name word ≡ b → Keeps names store (for_question word call)
  by_name true is = rw is keeps
  by_name false is = rw is tt

-- an outcome differs at most in the items of these names
abbrev OutcomeKeeps : List (List ℕ) → SessionState → CommandOutcome → Type 0
OutcomeKeeps names state outcome = AreSameButAll names state.store.layers outcome.store.layers

does_keeps : (names : List (List ℕ)) (state : SessionState) (r : Reply) (batch : Result StoreState QuestionError) → Keeps names state.store batch → OutcomeKeeps names state (reply_write state r batch)
does_keeps names state r (Ok new) keeps = keeps
does_keeps names state r (Err error) keeps = same_all_refl names state.store.layers

says_keeps : {A : Type 0} (names : List (List ℕ)) (state : SessionState) (field : List ℕ) (r : A → Reply) (reading : Result A QuestionError) → OutcomeKeeps names state (reply_read state field r reading)
says_keeps names state field r (Ok answer) = same_all_refl names state.store.layers
says_keeps names state field r (Err error) = same_all_refl names state.store.layers

by_keeps : {A : Type 0} (names : List (List ℕ)) (state : SessionState) (outcome : A → CommandOutcome) (reading : Result A QuestionError) → ((a : A) → reading ≡ Ok a → OutcomeKeeps names state (outcome a))
    → OutcomeKeeps names state (and_then state outcome reading)
by_keeps names state outcome (Ok answer) keeps = keeps answer refl
by_keeps names state outcome (Err error) keeps = same_all_refl names state.store.layers

busy_keeps : (names : List (List ℕ)) (state : SessionState) (busy : Option (List ℕ)) (outcome : CommandOutcome) → OutcomeKeeps names state outcome
    → OutcomeKeeps names state (option_map_or (λ name. reply_only state (is_busy name)) busy outcome)
busy_keeps names state None outcome keeps = keeps
busy_keeps names state (Some name) outcome keeps = same_all_refl names state.store.layers

bar_keeps : (names : List (List ℕ)) (state : SessionState) (bar : Option Bar) (outcome : Bar → CommandOutcome) (none : CommandOutcome) → ((b : Bar) → OutcomeKeeps names state (outcome b)) → OutcomeKeeps names state none
    → OutcomeKeeps names state (option_map_or outcome bar none)
bar_keeps names state None outcome none keeps nothing = nothing
bar_keeps names state (Some bar) outcome none keeps nothing = keeps bar

gone_keeps : (names : List (List ℕ)) (state : SessionState) (batch : Result StoreState QuestionError) → Keeps names state.store batch → OutcomeKeeps names state (gone state batch)
gone_keeps names state (Ok new) keeps = keeps
gone_keeps names state (Err error) keeps = same_all_refl names state.store.layers

-- the names that values are set on
names_of_values : (ls : List LayerState) (at : QuestionContext) (answers : List (List ℕ × List ℕ)) → names_of (each (value_write ls at) answers) ≡ each (λ a. a.0) answers
names_of_values ls at [] = refl
names_of_values ls at (answer ∷ answers) = ap (λ (ns : List (List ℕ)). answer.0 ∷ ns) (names_of_values ls at answers)

values_keep : (store : StoreState) (at : QuestionContext) (answers : List (List ℕ × List ℕ)) → Keeps (each (λ a. a.0) answers) store (values_set store at answers)
values_keep store at answers =
    subst (λ (ns : List (List ℕ)). Keeps ns store (values_set store at answers)) (names_of_values store.layers at answers)
    (row_for_keeps store (each (λ a. a.0) answers) (each (value_write store.layers at) answers))

module _ (state : SessionState) where
  one : (word : List ℕ) (op : Op) → Keeps (word ∷ []) state.store (changed state.store state.at word op)
  one word op = changed_keeps state.store state.at word op (question state.store.layers state.at word)

  fset_keeps : (word key text : List ℕ) (given : CommandInputs) (b : Bool) → is_truth text ≡ b → AreSameButAll (word ∷ []) state.store.layers (answer state (Fset word key text) given).store.layers
  fset_keeps word key text given true is =
      rw is (does_keeps (word ∷ []) state (reply 0 text) (for_question word (λ name. flag_set state.store state.at name key (bytes_eq text (codes "true"))))
      (on_keeps (word ∷ []) state.store word (λ name. flag_set state.store state.at name key (bytes_eq text (codes "true"))) (one word (SetFlag key (bytes_eq text (codes "true"))))))
  fset_keeps word key text given false is = rw is (says_keeps (word ∷ []) state [] (λ flag. bad_flag_value) (for_question word (λ name. flag state.store.layers state.at name key)))

  reset_keeps : (word : List ℕ) (item : Option ItemParts) (op : ItemParts → Op) → Keeps (word ∷ []) state.store (read word item (λ i. changed state.store state.at word (op i)))
  reset_keeps word None op = tt
  reset_keeps word (Some item) op = one word (op item)

  register_keeps : (template name : List ℕ) (item : Option ItemParts) (b : Bool) → has_other_template template (question state.store.layers state.at name) ≡ b
      → Keeps (template ∷ name ∷ []) state.store (read_template name item (λ i. if has_other_template template (question state.store.layers state.at name) then Err (error.Twice name) else batch_for state.store (name ∷ []) (register_batch state.store.layers state.at template name state.owner)))
  register_keeps template name None b is = tt
  register_keeps template name (Some item) true is = rw is tt
  register_keeps template name (Some item) false is = rw is (row_for_keeps state.store (name ∷ []) (register_batch state.store.layers state.at template name state.owner))

  unregister_keeps : (word : List ℕ) (item : Option ItemParts)
      → Keeps (names_of (leave_batch state.store.layers state.at state.owner (word ∷ []))) state.store (read word item (λ i. batch_for state.store (word ∷ []) (leave_batch state.store.layers state.at state.owner (word ∷ []))))
  unregister_keeps word None = tt
  unregister_keeps word (Some item) = row_for_keeps state.store (word ∷ []) (leave_batch state.store.layers state.at state.owner (word ∷ []))

  loaded_keeps : (owner : List ℕ) (templates : List Stanza) (elsewhere : Option Stanza)
      → Keeps (names_of (load_batch state.store.layers state.at owner templates)) state.store (option_map_or (λ t. Err (error.Twice t.name)) elsewhere (batch_for state.store (each (λ t. t.name) templates) (load_batch state.store.layers state.at owner templates)))
  loaded_keeps owner templates None = row_for_keeps state.store (each (λ t. t.name) templates) (load_batch state.store.layers state.at owner templates)
  loaded_keeps owner templates (Some stanza) = tt

  loading_keeps : (owner : List ℕ) (found : Found) → AreSameButAll (load_names state owner found) state.store.layers (loading state owner found).store.layers
  loading_keeps owner Unreadable = same_all_refl [] state.store.layers
  loading_keeps owner Missing = same_all_refl [] state.store.layers
  loading_keeps owner (Faulty line) = same_all_refl [] state.store.layers
  loading_keeps owner (Templates templates) =
      does_keeps (names_of (load_batch state.store.layers state.at owner templates)) state _ _ (loaded_keeps owner templates (bound_elsewhere state.store.layers state.at templates))

  -- a call on the question of a word that writes
  word_keeps : (names : List (List ℕ)) (word text : List ℕ) (call : List ℕ → Result StoreState QuestionError) → Keeps names state.store (call word)
      → AreSameButAll names state.store.layers (reply_write state (reply 0 text) (for_question word call)).store.layers
  word_keeps names word text call keeps = does_keeps names state (reply 0 text) (for_question word call) (on_keeps names state.store word call keeps)

  -- the name of a question that is there is the word
  there_is : (word name : List ℕ) → for_question word (there state) ≡ Ok name → name ≡ word
  there_is word name is = by_name (is_name word) refl where
    by_item : (item : Option ItemParts) → read word item (λ i. Ok word) ≡ Ok name → name ≡ word
    by_item None none = cc
    by_item (Some item) some = cc

    by_name : (b : Bool) → is_name word ≡ b → name ≡ word
    by_name true named = by_item (question state.store.layers state.at word) (let here : for_question word (there state) ≡ there state word = rw named refl in sym here ∙ is)
    by_name false none = let here : for_question word (there state) ≡ Err (error.NoQuestion word) = rw none refl in let both : ◌≡◌ {A = Result (List ℕ) QuestionError} (Err (error.NoQuestion word)) (Ok name) = sym here ∙ is in cc

  unregistered_keeps : (word name : List ℕ) → name ≡ word
      → OutcomeKeeps (names_of (leave_batch state.store.layers state.at state.owner (word ∷ []))) state (unless_busy state (name ∷ []) (reply_write state (reply 0 []) (unregistered state.store state.at name state.owner)))
  unregistered_keeps word name same =
      subst (λ (n : List ℕ). OutcomeKeeps (names_of (leave_batch state.store.layers state.at state.owner (word ∷ []))) state (unless_busy state (n ∷ []) (reply_write state (reply 0 []) (unregistered state.store state.at n state.owner)))) (sym same)
      (busy_keeps (names_of (leave_batch state.store.layers state.at state.owner (word ∷ []))) state (first_busy state.asking (word ∷ [])) (reply_write state (reply 0 []) (unregistered state.store state.at word state.owner))
      (does_keeps (names_of (leave_batch state.store.layers state.at state.owner (word ∷ []))) state (reply 0 []) (unregistered state.store state.at word state.owner) (unregister_keeps word (question state.store.layers state.at word))))

  heard_keeps : (asked : Asked) → OutcomeKeeps (names_given state asked) state (heard_out state asked)
  heard_keeps Back = same_all_refl [] state.store.layers
  heard_keeps (Answers answers) =
      answered_keeps (each (λ a. a.0) (values_given (to_show state) answers)) (values_set state.store state.at (values_given (to_show state) answers)) (values_keep state.store state.at (values_given (to_show state) answers)) where
        answered_keeps : (names : List (List ℕ)) (batch : Result StoreState QuestionError) → Keeps names state.store batch → OutcomeKeeps names state (answered state batch)
        answered_keeps names (Ok new) keeps = keeps
        answered_keeps names (Err error) keeps = same_all_refl names state.store.layers

  fixed_keeps : (fixed : Option (List ℕ)) (asked : Asked) → OutcomeKeeps (names_given state asked) state (option_map_or (λ name. reply_only state (cant_change name)) fixed (heard_out state asked))
  fixed_keeps None asked = heard_keeps asked
  fixed_keeps (Some name) asked = same_all_refl (names_given state asked) state.store.layers

  going_keeps : (frontend : Frontend) (asked : Asked) → OutcomeKeeps (going_names frontend state asked) state (going frontend state asked)
  going_keeps Noninteractive asked = gone_keeps (each (λ a. a.0) (choices_for state)) state (values_set state.store state.at (choices_for state)) (values_keep state.store state.at (choices_for state))
  going_keeps Teletype asked = fixed_keeps (first_fixed state) asked
  going_keeps Passthrough asked = fixed_keeps (first_fixed state) asked

  answer_keeps : (command : Command) (given : CommandInputs) → AreSameButAll (names_on state command given) state.store.layers (answer state command given).store.layers
  answer_keeps (Get word) given = says_keeps [] state [] _ _
  answer_keeps (Set word text) given = word_keeps (word ∷ []) word (codes "value set") (λ name. value_set state.store state.at name text) (one word (SetField (codes "value") (settled text)))
  answer_keeps (Reset word) given =
      word_keeps (word ∷ []) word [] (λ name. value_reset state.store state.at name) (reset_keeps word (question state.store.layers state.at word) (λ item. Put (without_answer item)))
  answer_keeps (Subst word key text) given = word_keeps (word ∷ []) word [] (λ name. variable_set state.store state.at name key text) (one word (SetVar key (settled text)))
  answer_keeps (Fget word key) given = says_keeps [] state [] _ _
  answer_keeps (Fset word key text) given = fset_keeps word key text given (is_truth text) refl
  answer_keeps (Metaget word field) given = says_keeps [] state field _ _
  answer_keeps (Register template name) given =
      does_keeps (template ∷ name ∷ []) state (reply 0 []) (registered state.store state.at template name state.owner)
      (register_keeps template name (named_template state.store.layers state.at template) (has_other_template template (question state.store.layers state.at name)) refl)
  answer_keeps (Unregister word) given =
      by_keeps (names_of (leave_batch state.store.layers state.at state.owner (word ∷ []))) state
      (λ name. unless_busy state (name ∷ []) (reply_write state (reply 0 []) (unregistered state.store state.at name state.owner))) (for_question word (there state)) (λ name is. unregistered_keeps word name (there_is word name is))
  answer_keeps Purge given =
      let names : List (List ℕ) = owned state.store.layers state.at.config state.owner in
      busy_keeps (names_of (leave_batch state.store.layers state.at state.owner names)) state (first_busy state.asking names) (reply_write state (reply 0 []) (purged state.store state.at state.owner))
      (does_keeps (names_of (leave_batch state.store.layers state.at state.owner names)) state (reply 0 []) (purged state.store state.at state.owner)
      (row_for_keeps state.store names (leave_batch state.store.layers state.at state.owner names)))
  answer_keeps (Version version) given = same_all_refl [] state.store.layers
  answer_keeps (Capb words) given = same_all_refl [] state.store.layers
  answer_keeps (SetTitle word) given = by_keeps [] state _ _ (λ text is. same_all_refl [] state.store.layers)
  answer_keeps (Title text) given = same_all_refl [] state.store.layers
  answer_keeps (Input priority word) given = by_keeps [] state _ _ (λ shown is. same_all_refl [] state.store.layers)
  answer_keeps BeginBlock given = same_all_refl [] state.store.layers
  answer_keeps EndBlock given = same_all_refl [] state.store.layers
  answer_keeps Go given = going_keeps state.policy.frontend given.asked
  answer_keeps Clear given = same_all_refl [] state.store.layers
  answer_keeps Stop given = same_all_refl [] state.store.layers
  answer_keeps XSave given = same_all_refl [] state.store.layers
  answer_keeps (ProgressStart low high word) given = by_keeps [] state _ _ (λ name is. same_all_refl [] state.store.layers)
  answer_keeps (ProgressSet number) given = bar_keeps [] state state.asking.bar _ _ (λ bar. same_all_refl [] state.store.layers) (same_all_refl [] state.store.layers)
  answer_keeps (ProgressStep number) given = bar_keeps [] state state.asking.bar _ _ (λ bar. same_all_refl [] state.store.layers) (same_all_refl [] state.store.layers)
  answer_keeps (ProgressInfo word) given =
      bar_keeps [] state state.asking.bar _ _ (λ bar. by_keeps [] state _ _ (λ name is. same_all_refl [] state.store.layers)) (same_all_refl [] state.store.layers)
  answer_keeps ProgressStop given = bar_keeps [] state state.asking.bar _ _ (λ bar. same_all_refl [] state.store.layers) (same_all_refl [] state.store.layers)
  answer_keeps (LoadTemplateFile path owner) given = loading_keeps (unwrap_or owner state.owner) given.found

-- a command changes at most the items that its writes are on
pub others_stay : (command : Command) (old new : SessionState) (did : Stepped) (done : HasDone command old did new) → AreSameButAll (names_on old command done.given) old.store.layers new.store.layers
others_stay command old new did done = rw done.new_is (answer_keeps old command done.given)
