-- What is said is set again.
use Rattle.std.proofs.Common.{◌≡◌, ◌≢◌, ℕ, ◌+◌, Bool, true, false, not, List, [], ◌∷◌, ◌++◌, Option, Some, None, is_some, refl, sym, ap, subst, ◌∙◌, map as each}
use Rattle.std.specs.Prelude.{◌&&◌, Result, Ok, Err, codes, option_and_then, option_map, unwrap_or, IfSome, if◌then◌else◌}
use Rattle.std.specs.FinMap as map
use Rattle.std.specs.List.{AllByRecursion, flat_map, list_all}
use Rattle.std.specs.Option.{option_map_or, option_or}
use Rattle.dc_text.specs.Bytes.{is_nil}
use Rattle.dc_text.specs.Lines.{text_of}
use Rattle.dc_text.specs.Maps.{Texts, AreDistinct}
use Rattle.dc_text.specs.Names.{is_name}
use Rattle.dc_text.specs.Settled.{is_settled, newlines_shown}
use Rattle.dc_words.specs.Stream.{all_lines}
use Rattle.dc_words.specs.declared.stream.Line.{Line}
use Rattle.dc_words.specs.declared.stream.Line.TheVariants.{Whole, TooLong}
use Rattle.dc_conf.specs.Plans.{are_disjoint}
use Rattle.dc_item.proofs.ItemLemmas.{all_keys, set_of-keys}
use Rattle.dc_item.specs.Item.{ItemParts, IsItem}
use Rattle.dc_template.specs.declared.kinds.Kind.{Kind}
use Rattle.dc_layer.specs.State.{LayerState}
use Rattle.dc_store.specs.Plans.{StoreState}
use Rattle.dc_question.specs.Changes.{flag_set}
use Rattle.dc_question.specs.Preseeding.{preseeded}
use Rattle.dc_question.specs.Questions.{QuestionContext, question, template}
use Rattle.dc_question.specs.Readings.{default_of, first_of_keys, keys_of}
use Rattle.dc_question.specs.declared.errors.QuestionError.{QuestionError}
use Rattle.dc_preseed.proofs.JoinLemmas.{joined_one}
use Rattle.dc_preseed.specs.Joining.{counted}
use Rattle.dc_preseed.specs.Lines.{Outcome, done_or, line_set, reading_set}
use Rattle.dc_preseed.specs.Selecting.{AreDone, SelectorState, TellsAll, after_line, after_outcome}
use Rattle.dc_preseed.specs.declared.joining.Joined.{Joined}
use Rattle.dc_preseed.specs.declared.lines.LineDone.{LineDone}
use Rattle.dc_preseed.specs.declared.lines.LineDone.TheVariants.{ValueSet, SeenSet}
use Rattle.dc_preseed.specs.declared.selected.Choices.{Choices}
use Rattle.dc_dump.proofs.ReadLemmas.{all_behind, both, is_false, not_joined, stand_alone, unseen_read, value_read}
use Rattle.dc_dump.proofs.SetLemmas.{AreValuesSet, IsAnAnswer, IsAnswerSet, IsSeenSet, StaysSeen, answer_beside, answer_set_to, answers_it, same_stays, still_set, then_stays, told_out}
use Rattle.dc_dump.specs.AnswerLines.{begins_with_hash, is_plain, is_sayable, is_short, lines_by, lines_of, unseen_line, unseen_lines, value_line}
use Rattle.dc_dump.specs.Reading.{StandsAlone, numbered}
use Rattle.dc_dump.specs.Saying.{answer_at, answer_of, lines_at, said_at, said_text}
use Rattle.dc_dump.specs.SetAgain.{IsHeld, IsNew, IsSetAgain, SetsAgain}
use Rattle.dc_dump.specs.declared.answers.Answer.{Answer}

-- ---- lines that are taken

-- these lines are done in turn, and each is taken, and what the layers told at it
abbrev AreTaken : List (List ℕ) → StoreState → QuestionContext → StoreState → Type 0
AreTaken [] store at new = new ≡ store
AreTaken (line ∷ lines) store at new = (next : StoreState) × (done : LineDone) × (line_set store at line false false ≡ Ok (done, next)) × AreTaken lines (told_out next) at new

-- what a line leaves that isn't refused
record WasTaken (old mid : SelectorState) (outcome : Outcome) : Type 0 where
  next : StoreState
  done : LineDone
  outcome_is : outcome ≡ Ok (done, next)
  store_is : mid.store ≡ told_out next
  at_is : mid.at ≡ old.at
  choices_are : mid.choices ≡ old.choices

not_both : (b : Bool) → b ≡ true → b ≡ false → ⊥
not_both b first second = let both : true ≡ false = sym first ∙ second in cc

was_taken : (old mid : SelectorState) (number : ℕ) (outcome : Outcome) → TellsAll (after_outcome old number outcome) mid → mid.refused ≡ false → WasTaken old mid outcome
was_taken old mid number (Ok (done, next)) tells free = record {
  next = next;
  done = done;
  outcome_is = refl;
  store_is = ap (λ (s : SelectorState). s.store) tells.new_is;
  at_is = ap (λ (s : SelectorState). s.at) tells.new_is;
  choices_are = ap (λ (s : SelectorState). s.choices) tells.new_is;
}
was_taken old mid number (Err error) tells free = absurd (not_both mid.refused (ap (λ (s : SelectorState). s.refused) tells.new_is) free)

free_outcome : (old mid : SelectorState) (number : ℕ) (outcome : Outcome) → TellsAll (after_outcome old number outcome) mid → mid.refused ≡ false → old.refused ≡ false
free_outcome old mid number (Ok (done, next)) tells free = sym (ap (λ (s : SelectorState). s.refused) tells.new_is) ∙ free
free_outcome old mid number (Err error) tells free = absurd (not_both mid.refused (ap (λ (s : SelectorState). s.refused) tells.new_is) free)

free_line : (old mid : SelectorState) (number : ℕ) (line : Line) → TellsAll (after_line old number line) mid → mid.refused ≡ false → old.refused ≡ false
free_line old mid number TooLong tells free = absurd (not_both mid.refused (ap (λ (s : SelectorState). s.refused) tells.new_is) free)
free_line old mid number (Whole line) tells free = free_outcome old mid number (line_set old.store old.at line old.choices.check old.choices.unseen) tells free

-- where no line was refused in the end, none was before
free_before : (all : List Joined) (old new : SelectorState) → AreDone all old new → new.refused ≡ false → old.refused ≡ false
free_before [] old new h free = ap (λ (s : SelectorState). s.refused) (sym h) ∙ free
free_before (one ∷ others) old new h free = free_line old h.0 one.first one.whole h.1 (free_before others h.0 new h.2 free)

done_taken : (lines : List (List ℕ)) (number : ℕ) (old new : SelectorState) (at : QuestionContext) → old.at ≡ at → old.choices.check ≡ false → old.choices.unseen ≡ false
    → AreDone (numbered number lines) old new → new.refused ≡ false → AreTaken lines old.store at new.store
done_taken [] number old new at at_is checks unseen h free = ap (λ (s : SelectorState). s.store) h
done_taken (line ∷ lines) number old new at at_is checks unseen h free =
    let mid : SelectorState = h.0 in
    let was : WasTaken old mid (line_set old.store old.at line old.choices.check old.choices.unseen) =
    was_taken old mid (counted number) _ h.1 (free_before (numbered (number + 1) lines) mid new h.2 free) in
    let rest = done_taken lines (number + 1) mid new at (was.at_is ∙ at_is) (ap (λ (c : Choices). c.check) was.choices_are ∙ checks) (ap (λ (c : Choices). c.unseen) was.choices_are ∙ unseen) h.2 free in (
      was.next,
      was.done,
      (λ i. line_set old.store (sym at_is i) line (sym checks i) (sym unseen i)) ∙ was.outcome_is,
      subst (λ (s : StoreState). AreTaken lines s at new.store) was.store_is rest,
    )

taken_split : (xs ys : List (List ℕ)) (store new : StoreState) (at : QuestionContext) → AreTaken (xs ++ ys) store at new
    → (mid : StoreState) × AreTaken xs store at mid × AreTaken ys mid at new
taken_split [] ys store new at h = (store, refl, h)
taken_split (x ∷ xs) ys store new at h = let s = taken_split xs ys (told_out h.0) new at h.3 in (s.0, (h.0, h.1, h.2, s.1), s.2)

-- ---- the lines of a question

abbrev left_in : StoreState → Outcome → StoreState
left_in store (Ok (done, next)) = next
left_in store (Err error) = store

done_ok : (said : LineDone) (r : Result StoreState QuestionError) (done : LineDone) (next : StoreState) → done_or said r ≡ Ok (done, next) → r ≡ Ok next
done_ok said (Ok store) done next h = ap (λ s. Ok s) (ap (left_in store) h)
done_ok said (Err error) done next h = absurd (cc)

module _ (at : QuestionContext) (name : List ℕ) (is : is_name name ≡ true) where
  value_taken : (store next : StoreState) (owner value : List ℕ) (kind : Kind) (done : LineDone) → is_name owner ≡ true → begins_with_hash owner ≡ false
      → line_set store at (value_line name kind value owner) false false ≡ Ok (done, next) → preseeded store at owner name kind (newlines_shown value) false ≡ Ok next
  value_taken store next owner value kind done o hash h =
      done_ok (ValueSet name) _ done next (ap (λ r. reading_set store at r false false) (sym (value_read name owner value kind is o hash)) ∙ h)

  seen_taken : (store next : StoreState) (owner : List ℕ) (done : LineDone) → is_name owner ≡ true → begins_with_hash owner ≡ false
      → line_set store at (unseen_line name owner) false false ≡ Ok (done, next) → flag_set store at name (codes "seen") false ≡ Ok next
  seen_taken store next owner done o hash h =
      done_ok (SeenSet name) _ done next (ap (λ r. reading_set store at r false false) (sym (unseen_read name owner is o hash)) ∙ h)

  values_taken : (kind : Kind) (value : List ℕ) (owners : List (List ℕ)) (store new : StoreState) → list_all is_name owners ≡ true
      → list_all (λ owner. not (begins_with_hash owner)) owners ≡ true → AreTaken (each (value_line name kind value) owners) store at new
      → AreValuesSet store at name kind (newlines_shown value) owners new
  values_taken kind value [] store new named plain h = h
  values_taken kind value (owner ∷ owners) store new named plain h =
      let n = both (is_name owner) (list_all is_name owners) named in
      let p = both (not (begins_with_hash owner)) (list_all (λ owner. not (begins_with_hash owner)) owners) plain in
      (h.0, value_taken store h.0 owner value kind h.1 n.0 (is_false (begins_with_hash owner) p.0) h.2, values_taken kind value owners (told_out h.0) new n.1 p.1 h.3)

  unseen_taken : (seen : Bool) (owners : List (List ℕ)) (store new : StoreState) → is_nil owners ≡ false → list_all is_name owners ≡ true
      → list_all (λ owner. not (begins_with_hash owner)) owners ≡ true → AreTaken (unseen_lines name seen owners) store at new → IsSeenSet seen store at name new
  unseen_taken seen [] store new some named plain h = absurd (cc)
  unseen_taken true (owner ∷ owners) store new some named plain h = h
  unseen_taken false (owner ∷ owners) store new some named plain h =
      let n = both (is_name owner) (list_all is_name owners) named in
      let p = both (not (begins_with_hash owner)) (list_all (λ owner. not (begins_with_hash owner)) owners) plain in
      (h.0, seen_taken store h.0 owner h.1 n.0 (is_false (begins_with_hash owner) p.0) h.2, h.3)

-- what a question has that can be said
record CanBeSaid (answer : Answer) : Type 0 where
  kind : Kind
  kind_is : answer.kind ≡ Some kind
  some : is_nil answer.owners ≡ false
  plain : list_all (λ owner. not (begins_with_hash owner)) answer.owners ≡ true

has_kind : (o : Option Kind) → is_some o ≡ true → (kind : Kind) × (o ≡ Some kind)
has_kind None e = absurd (cc)
has_kind (Some kind) e = (kind, refl)

can_be_said : (name : List ℕ) (answer : Answer) → is_sayable name answer ≡ true → CanBeSaid answer
can_be_said name answer e =
    let first = both (is_some answer.kind) (not (is_nil answer.owners) && (is_plain answer && list_all is_short (lines_of name answer))) e in
    let second = both (not (is_nil answer.owners)) (is_plain answer && list_all is_short (lines_of name answer)) first.1 in
    let third = both (is_plain answer) (list_all is_short (lines_of name answer)) second.1 in
    let kind = has_kind answer.kind first.0 in
    record {
      kind = kind.0;
      kind_is = kind.1;
      some = is_false (is_nil answer.owners) second.0;
      plain = (both (list_all (λ owner. not (begins_with_hash owner)) answer.owners) _ third.0).0;
    }

-- ---- what items answer

or_settled : (o p : Option (List ℕ)) → ((value : List ℕ) → o ≡ Some value → is_settled value ≡ true) → is_settled (unwrap_or p []) ≡ true
    → is_settled (unwrap_or (option_or o p) []) ≡ true
or_settled None p keeps rest = rest
or_settled (Some value) p keeps rest = keeps value refl

first_settled : (fields : Texts (List ℕ)) (keys : List (List ℕ)) → ((key value : List ℕ) → map.get fields key ≡ Some value → is_settled value ≡ true)
    → is_settled (unwrap_or (first_of_keys fields keys) []) ≡ true
first_settled fields [] keeps = refl
first_settled fields (key ∷ keys) keeps = or_settled (map.get fields key) (first_of_keys fields keys) (keeps key) (first_settled fields keys keeps)

default_settled : (lang : List ℕ) (bound : Option ItemParts) → IfSome bound IsItem → is_settled (unwrap_or (default_of lang bound) []) ≡ true
default_settled lang None is = refl
default_settled lang (Some item) is = first_settled item.fields (keys_of lang (codes "default")) (λ key value e. (is.fields key value e).1)

-- what is known of an answer that is said of a name
record IsFit (name : List ℕ) (answer : Answer) : Type 0 where
  name_is : is_name name ≡ true
  answers : IsAnAnswer answer
  sayable : is_sayable name answer ≡ true

module _ (layers : List LayerState) (at : QuestionContext) where
  item_answers : (item : ItemParts) → IsItem item → IfSome (template layers at item) IsItem → IsAnAnswer (answer_of layers at item)
  item_answers item is bound = record {
    named = all_keys is_name item.owners is.owners;
    ordered = ap map.keys (set_of-keys item.owners);
    settled = or_settled (map.get item.fields (codes "value")) (default_of at.lang (template layers at item)) (λ value e. (is.fields (codes "value") value e).1)
        (default_settled at.lang (template layers at item) bound);
  }

  held_fit : (name : List ℕ) (o : Option ItemParts) (answer : Answer) → IfSome o (λ item. (is_name name ≡ true) × IsItem item × IfSome (template layers at item) IsItem)
      → option_map (answer_of layers at) o ≡ Some answer → is_sayable name answer ≡ true → IsFit name answer
  held_fit name None answer held e sayable = absurd (cc)
  held_fit name (Some item) answer held e sayable =
      let same : answer_of layers at item ≡ answer = cc in
      record { name_is = held.0; answers = subst IsAnAnswer same (item_answers item held.1 held.2); sayable = sayable }

-- ---- what is said of a name

said_is : (name : List ℕ) (o : Option Answer) (answer : Answer) → option_and_then (λ a. if is_sayable name a then Some a else None) o ≡ Some answer
    → (o ≡ Some answer) × (is_sayable name answer ≡ true)
said_is name None answer e = absurd (cc)
said_is name (Some a) answer e = by_test (is_sayable name a) refl e where
  by_test : (b : Bool) → is_sayable name a ≡ b → (if b then Some a else None) ≡ Some answer → (Some a ≡ Some answer) × (is_sayable name answer ≡ true)
  by_test true is e = let same : a ≡ answer = cc in (e, ap (is_sayable name) (sym same) ∙ is)
  by_test false is e = absurd (cc)

abbrev AreFit : (List ℕ → Option Answer) → List ℕ → Type 0
AreFit said name = (answer : Answer) → said name ≡ Some answer → IsFit name answer

all_fit : (layers : List LayerState) (at : QuestionContext) (names : List (List ℕ)) → AllByRecursion (IsHeld layers at) names → AllByRecursion (AreFit (said_at layers at)) names
all_fit layers at [] held = tt
all_fit layers at (name ∷ names) held = (
  λ answer e. let is = said_is name (answer_at layers at name) answer e in held_fit layers at name (question layers at name) answer held.0 is.0 is.1,
  all_fit layers at names held.1,
)

-- the lines of what is said
abbrev lines_when : List ℕ → Option Answer → List (List ℕ)
lines_when name said = option_map_or (lines_of name) said []

-- what is said of a name is set, or nothing where nothing is said
abbrev IsSaidSet : StoreState → QuestionContext → List ℕ → Option Answer → StoreState → Type 0
IsSaidSet store at name None new = new ≡ store
IsSaidSet store at name (Some answer) new = (said : CanBeSaid answer) × IsAnswerSet store at name said.kind answer new

module _ (said : List ℕ → Option Answer) where
  alone_when : (name : List ℕ) (o : Option Answer) → said name ≡ o → AreFit said name → AllByRecursion StandsAlone (lines_when name o)
  alone_when name None e fit = tt
  alone_when name (Some answer) e fit =
      let is = fit answer e in
      stand_alone name answer (λ i. (is.name_is ∙ refl) i && is.answers.named i) is.sayable

  all_alone : (names : List (List ℕ)) → AllByRecursion (AreFit said) names → AllByRecursion StandsAlone (flat_map (λ name. lines_when name (said name)) names)
  all_alone [] fit = tt
  all_alone (name ∷ names) fit = all_behind StandsAlone (lines_when name (said name)) _ (alone_when name (said name) refl fit.0) (all_alone names fit.1)

  module _ (at : QuestionContext) (disjoint : are_disjoint at.config at.templates ≡ true) where
    said_taken : (name : List ℕ) (o : Option Answer) (store new : StoreState) → said name ≡ o → AreFit said name → AreTaken (lines_when name o) store at new → IsSaidSet store at name o new
    said_taken name None store new e fit h = h
    said_taken name (Some answer) store new e fit h =
        let is = fit answer e in
        let can : CanBeSaid answer = can_be_said name answer is.sayable in
        let lines = subst (λ k. AreTaken (option_map_or (lines_by name answer) k []) store at new) can.kind_is h in
        let s = taken_split (each (value_line name can.kind answer.value) answer.owners) (unseen_lines name answer.seen answer.owners) store new at lines in (
          can,
          (
            s.0,
            values_taken at name is.name_is can.kind answer.value answer.owners store s.0 is.answers.named can.plain s.1,
            unseen_taken at name is.name_is answer.seen answer.owners s.0 new can.some is.answers.named can.plain s.2,
          ),
        )

    -- what is said of the names is set in turn
    abbrev AllSet : List (List ℕ) → StoreState → StoreState → Type 0
    AllSet [] store new = new ≡ store
    AllSet (name ∷ names) store new = (next : StoreState) × IsSaidSet store at name (said name) next × AllSet names next new

    all_taken : (names : List (List ℕ)) (store new : StoreState) → AllByRecursion (AreFit said) names → AreTaken (flat_map (λ name. lines_when name (said name)) names) store at new
        → AllSet names store new
    all_taken [] store new fit h = h
    all_taken (name ∷ names) store new fit h =
        let s = taken_split (lines_when name (said name)) _ store new at h in
        (s.0, said_taken name (said name) store s.0 refl fit.0 s.1, all_taken names s.0 new fit.1 s.2)

    said_beside : (n name : List ℕ) (o : Option Answer) (store new : StoreState) → n ≢ name → IsSaidSet store at name o new → StaysSeen store new at n
    said_beside n name None store new other h = same_stays at n store new h
    said_beside n name (Some answer) store new other h = answer_beside at n name other store new answer h.0.kind disjoint h.1

    all_beside : (n : List ℕ) (names : List (List ℕ)) (store new : StoreState) → AllByRecursion (λ other. other ≢ n) names → AllSet names store new → StaysSeen store new at n
    all_beside n [] store new apart h = same_stays at n store new h
    all_beside n (name ∷ names) store new apart h =
        then_stays at n store h.0 new (said_beside n name (said name) store h.0 (λ e. apart.0 (sym e)) h.1) (all_beside n names h.0 new apart.1 h.2)

    -- the names behind a first one are still new
    rest_new : (first : List ℕ) (names : List (List ℕ)) (store new : StoreState) → AllByRecursion (λ other. other ≢ first) names → IsSaidSet store at first (said first) new
        → AllByRecursion (IsNew store.layers at) names → AllByRecursion (IsNew new.layers at) names
    rest_new first [] store new apart h all = tt
    rest_new first (name ∷ names) store new apart h all =
        let stays = said_beside name first (said first) store new apart.0 h in
        (record { question = stays.question ∙ all.0.question; template = stays.template ∙ all.0.template }, rest_new first names store new apart.1 h all.1)

    one_again : (name : List ℕ) (o : Option Answer) (store next new : StoreState) → said name ≡ o → AreFit said name → IsNew store.layers at name → IsSaidSet store at name o next
        → StaysSeen next new at name → IsSetAgain o new.layers at name
    one_again name None store next new e fit is_new h stays =
        let gone : question new.layers at name ≡ None = stays.question ∙ ap (λ (s : StoreState). question s.layers at name) h ∙ is_new.question in
        record { same = λ plain. ap (option_map (answer_of new.layers at)) gone; none = λ _. gone }
    one_again name (Some answer) store next new e fit is_new h stays = record {
      same = λ plain.
          let is = (fit answer e).answers in
          answers_it new.layers at name answer h.0.kind is h.0.kind_is (still_set at name next new stays (answer_set_to store next at name answer h.0.kind disjoint plain is_new h.0.some h.1));
      none = λ nothing. absurd (some_said answer nothing);
    } where
      some_said : (a : Answer) → Some a ≡ None → ⊥
      some_said a nothing = cc

    all_again : (names : List (List ℕ)) (store new : StoreState) → AreDistinct names → AllByRecursion (IsNew store.layers at) names → AllByRecursion (AreFit said) names
        → AllSet names store new → AllByRecursion (λ name. IsSetAgain (said name) new.layers at name) names
    all_again [] store new apart are_new fit h = tt
    all_again (name ∷ names) store new apart are_new fit h = (
      one_again name (said name) store h.0 new refl fit.0 are_new.0 h.1 (all_beside name names h.0 new apart.0 h.2),
      all_again names h.0 new apart.1 (rest_new name names store h.0 apart.0 h.1 are_new.1) fit.1 h.2,
    )

-- ---- the law

pub set_again : (layers : List LayerState) (at : QuestionContext) (names : List (List ℕ)) → AllByRecursion (IsHeld layers at) names → AreDistinct names
    → SetsAgain layers at names (said_text layers at names)
set_again layers from names held apart = λ start left begins does free.
    let said : List ℕ → Option Answer = said_at layers from in
    let lines : List (List ℕ) = flat_map (lines_at layers from) names in
    let fit : AllByRecursion (AreFit said) names = all_fit layers from names held in
    let alone : AllByRecursion StandsAlone lines = all_alone said names fit in
    let all = all_lines (text_of lines) in
    let same : does.0 ≡ numbered 1 lines = (joined_one all does.0).0 does.1 ∙ sym ((joined_one all (numbered 1 lines)).0 (not_joined lines alone)) in
    let last : SelectorState = record left { joining = start.joining } in
    let taken = done_taken lines 1 start last start.at refl begins.checks begins.leaves_unseen (subst (λ (js : List Joined). AreDone js start last) same does.2) free in
    let set = all_taken said start.at begins.apart names start.store left.store fit taken in
    record {
      named = all_again said start.at begins.apart names start.store left.store apart begins.names_are fit set;
      others = λ name other. (all_beside said start.at begins.apart name names start.store left.store other set).question;
    }
