-- What a confmodule asks for, and what becomes of it (debconf-devel(7)): its capabilities, the title, questions that are prepared and asked,
-- and the progress bar.
use Rattle.std.specs.Prelude.{ℕ, min, max, Bool, List, [], ◌∷◌, ◌++◌, not, ◌&&◌, Option, Some, None, fold, filter, is_some, map as each, zip, option_map, option_and_then, unwrap_or, Result, Ok, Err, if◌then◌else◌, codes}
use Rattle.std.specs.List.{list_any, find, filter_map}
use Rattle.std.specs.Option.{option_or, option_map_or}
use Rattle.std.specs.Result.{result_ok, result_unwrap_or}
use Rattle.std.specs.Str.{bytes_eq}
use Rattle.dc_frontend.specs.Frontends.{frontend_of}
use Rattle.dc_frontend.specs.Settling.{settled_choice}
use Rattle.dc_frontend.specs.Showing.{is_shown}
use Rattle.dc_frontend.specs.declared.frontend.Frontend.{Frontend}
use Rattle.dc_frontend.specs.declared.frontend.Frontend.TheVariants.{Teletype}
use Rattle.dc_frontend.specs.declared.shown.Shown.{Shown}
use Rattle.dc_layer.specs.State.{LayerState}
use Rattle.dc_proto.specs.Priorities.{priority_of}
use Rattle.dc_proto.specs.declared.priority.Priority.{Priority}
use Rattle.dc_proto.specs.declared.priority.Priority.TheVariants.{High}
use Rattle.dc_question.specs.Changes.{flag_set}
use Rattle.dc_question.specs.Questions.{QuestionContext, value, flag, kind, can_change, expanded_field, choices}
use Rattle.dc_question.specs.declared.errors.QuestionError.{QuestionError}
use Rattle.dc_question.specs.declared.errors.QuestionError.TheVariants.{NoQuestion, NoTemplate}
use Rattle.dc_store.specs.Plans.{StoreState}
use Rattle.dc_teletype.specs.declared.teletype.Answer.{Answer}
use Rattle.dc_teletype.specs.declared.teletype.Answer.TheVariants.{Keep, Value}
use Rattle.dc_template.specs.declared.kinds.Kind.{Kind}
use Rattle.dc_template.specs.declared.kinds.Kind.TheVariants.{Note, Txt, Error, Title}
use Rattle.dc_session.specs.SessionState.{SessionState}
use Rattle.dc_session.specs.declared.asking.Asking.{Asking}
use Rattle.dc_session.specs.declared.asking.Bar.{Bar}
use Rattle.dc_session.specs.declared.policy.AskPolicy.{AskPolicy}

-- the text is among the texts
abbrev pub is_among : List (List ℕ) → List ℕ → Bool
is_among texts text = list_any (bytes_eq text) texts

-- the names with one more at the end, unless it is there
abbrev pub with_name : List (List ℕ) → List ℕ → List (List ℕ)
with_name names name = if is_among names name then names else names ++ name ∷ []

-- ---- how a session begins

-- nothing was said and nothing asked for
abbrev pub nothing_asked : Asking
nothing_asked = record { escape = Bool.false; backup = Bool.false; title = []; prepared = []; asked = []; bar = None }

-- the least priority of a question that is shown: the one that was chosen, else the one that the value of `debconf/priority` names, else high
abbrev pub threshold_by : Option Priority → List LayerState → QuestionContext → Priority
threshold_by chosen layers at = unwrap_or (option_or chosen (option_and_then priority_of (result_ok (value layers at (codes "debconf/priority"))))) High

-- the frontend: the one that was chosen, else the one that the value of `debconf/frontend` names, else the teletype
abbrev pub frontend_by : Option Frontend → List LayerState → QuestionContext → Frontend
frontend_by chosen layers at = unwrap_or (option_or chosen (option_and_then frontend_of (result_ok (value layers at (codes "debconf/frontend"))))) Teletype

-- how questions are asked, by what was chosen
abbrev pub policy_by : Option Frontend → Option Priority → Bool → List LayerState → QuestionContext → AskPolicy
policy_by frontend threshold nonint_seen layers at = record { frontend = frontend_by frontend layers at; threshold = threshold_by threshold layers at; nonint_seen = nonint_seen }

-- ---- descriptions

-- a text that a question has, and the empty one where its template has none
abbrev pub or_empty : Result (List ℕ) QuestionError → Result (List ℕ) QuestionError
or_empty (Ok text) = Ok text
or_empty (Err (NoQuestion name)) = Err (NoQuestion name)
or_empty (Err error) = Ok []

-- the expanded description of a question
abbrev pub description : List LayerState → QuestionContext → List ℕ → Result (List ℕ) QuestionError
description layers at name = or_empty (expanded_field layers at name (codes "description"))

-- ---- which questions are shown

-- what decides whether a question is shown: its kind, without which it has no template, and whether it was seen
abbrev pub shown_by : SessionState → Priority → List ℕ → Option Kind → Result Bool QuestionError → Result Bool QuestionError
shown_by state priority name kind (Err error) = Err error
shown_by state priority name None (Ok seen) = Err (NoTemplate name)
shown_by state priority name (Some kind) (Ok seen) = Ok (is_shown state.policy.threshold priority kind seen)

-- whether a question is to be shown, that is asked with this priority
abbrev pub is_to_be_shown : SessionState → Priority → List ℕ → Result Bool QuestionError
is_to_be_shown state priority name = shown_by state priority name (kind state.store.layers state.at name) (flag state.store.layers state.at name (codes "seen"))

-- a question that is to be shown is prepared, last, or stays where it is prepared already
abbrev pub prepared_if : Bool → Asking → List ℕ → Asking
prepared_if shown asking name = if shown then record asking { prepared = with_name asking.prepared name } else asking

-- ---- the questions that GO asks

-- the prepared questions that are there and have a kind
abbrev pub askable : SessionState → List (List ℕ)
askable state = filter (λ name. is_some (kind state.store.layers state.at name)) state.asking.prepared

-- a question of this kind as it is shown
abbrev pub shown : List LayerState → QuestionContext → List ℕ → Kind → Shown
shown layers at name kind = record {
  name = name;
  kind = kind;
  description = result_unwrap_or (expanded_field layers at name (codes "description")) [];
  extended = result_unwrap_or (expanded_field layers at name (codes "extended_description")) [];
  choices = (result_unwrap_or (choices layers at name) (record { plain = []; labels = [] })).plain;
  labels = (result_unwrap_or (choices layers at name) (record { plain = []; labels = [] })).labels;
  value = result_unwrap_or (value layers at name) [];
}

-- ---- what GO does without a user

-- the question with the choice that it is set to, where it is set to one
abbrev pub choice_for : List LayerState → QuestionContext → List ℕ → Option (List ℕ × List ℕ)
choice_for layers at name = option_map (λ choice. (name, choice)) (option_and_then (λ k. settled_choice (shown layers at name k)) (kind layers at name))

-- the prepared questions that are set to a choice, in the order of asking
abbrev pub choices_for : SessionState → List (List ℕ × List ℕ)
choices_for state = filter_map (choice_for state.store.layers state.at) state.asking.prepared

-- nothing is prepared any more, and the questions that were skipped are asked, where that is the manner
abbrev pub skipped : SessionState → Asking
skipped state = record state.asking { prepared = []; asked = if state.policy.nonint_seen then fold with_name state.asking.asked (askable state) else state.asking.asked }

-- ---- what GO does with a user

-- the prepared questions that are there and have a kind, as they are shown
abbrev pub to_show : SessionState → List Shown
to_show state = filter_map (λ name. option_map (shown state.store.layers state.at name) (kind state.store.layers state.at name)) state.asking.prepared

-- a question of this kind has a value, which an answer sets
abbrev pub has_value : Kind → Bool
has_value Note = Bool.false
has_value Txt = Bool.false
has_value Error = Bool.false
has_value Title = Bool.false
has_value kind = Bool.true

-- the question has a value that can't be changed
abbrev pub is_fixed : List LayerState → QuestionContext → List ℕ → Bool
is_fixed layers at name = option_map_or (λ k. has_value k && not (can_change layers at name)) (kind layers at name) Bool.false

-- the first prepared question whose value can't be changed
abbrev pub first_fixed : SessionState → Option (List ℕ)
first_fixed state = find (is_fixed state.store.layers state.at) state.asking.prepared

-- the question with the value that it was given, where it was given one
abbrev pub value_given : Shown → Answer → Option (List ℕ × List ℕ)
value_given question Keep = None
value_given question (Value text) = Some (question.name, text)

-- the questions with the values that they were given, in their order
abbrev pub values_given : List Shown → List Answer → List (List ℕ × List ℕ)
values_given questions answers = filter_map (λ pair. value_given pair.0 pair.1) (zip questions answers)

-- nothing is prepared any more, and the questions that were shown are asked
abbrev pub were_shown : SessionState → Asking
were_shown state = record state.asking { prepared = []; asked = fold with_name state.asking.asked (each (λ s. s.name) (to_show state)) }

-- ---- busy questions

-- the first of the questions that is prepared
abbrev pub first_busy : Asking → List (List ℕ) → Option (List ℕ)
first_busy asking names = find (is_among asking.prepared) names

-- ---- when the session ends

-- `seen` is set on a question, where it is there and the write is taken
abbrev pub with_seen : QuestionContext → StoreState → List ℕ → StoreState
with_seen at store name = result_unwrap_or (flag_set store at name (codes "seen") Bool.true) store

-- it is set on each question that was asked, in the order of first asking
abbrev pub finished : SessionState → StoreState
finished state = fold (with_seen state.at) state.store state.asking.asked

-- ---- the progress bar

-- the bar at this place, or at the bound beyond which it is
abbrev pub bar_at : Bar → ℕ → Bar
bar_at bar place = record bar { place = max bar.min (min bar.max place) }
