-- What lines that are set leave of a question.
use Rattle.std.proofs.Common.{◌≡◌, ◌≢◌, ℕ, Bool, true, false, cond, List, [], ◌∷◌, ◌++◌, Option, Some, None, is_some, refl, sym, ap, subst, ◌∙◌, append_assoc, inl, inr}
use Rattle.std.specs.Prelude.{◌||◌, Ok, Err, codes, option_map, option_and_then, unwrap_or, if◌then◌else◌}
use Rattle.std.specs.FinMap as map
use Rattle.std.specs.FinMap.{get-insert, get-remove}
use Rattle.std.specs.Cmp.Lexicographic.{nat_list_cmp_total}
use Rattle.std.specs.List.{list_all, list_any}
use Rattle.std.specs.Option.{option_or}
use Rattle.std.specs.Ordering.{eq_by_cmp}
use Rattle.std.proofs.lemmas.List.Elements.{All-nil, All-cons}
use Rattle.std.proofs.lemmas.List.{append-nil}
use Rattle.dc_text.proofs.MapLemmas.{set_of-push}
use Rattle.dc_text.proofs.SettledLemmas.{settled-shown, settled-stays}
use Rattle.dc_text.specs.Bytes.{is_nil}
use Rattle.dc_text.specs.Maps.{Texts, TextSet, set_of, text_cmp}
use Rattle.dc_text.specs.Names.{is_name}
use Rattle.dc_text.specs.Settled.{settled, is_settled, newlines_shown}
use Rattle.dc_conf.specs.Plans.{are_disjoint}
use Rattle.dc_conf.specs.Trees.{Tree}
use Rattle.dc_item.specs.Item.{ItemParts, no_parts}
use Rattle.dc_item.specs.declared.op.Op.{Op}
use Rattle.dc_item.specs.declared.op.Op.TheVariants.{Put, SetFlag}
use Rattle.dc_template.specs.Kinds.{kind_of, kind_word}
use Rattle.dc_template.specs.declared.kinds.Kind.{Kind}
use Rattle.dc_template.proofs.PrintedForms.{kind_again}
use Rattle.dc_layer.specs.State.{LayerState}
use Rattle.dc_store.proofs.TakenLemmas.{row_stays}
use Rattle.dc_store.specs.Batches.{Write, AreDistinct, all_done, commit, first_refused, is_refused}
use Rattle.dc_store.specs.Plans.{StoreState, look, stored}
use Rattle.dc_question.proofs.ApartLemmas.{apart, apart_too}
use Rattle.dc_question.specs.Changes.{done_or, flag_set, question_write, told_by}
use Rattle.dc_question.specs.Ownership.{write_beside}
use Rattle.dc_question.specs.Preseeding.{answered, is_known, made_template, preseeded, template_made}
use Rattle.dc_question.specs.Questions.{QuestionContext, question, read, template}
use Rattle.dc_question.specs.Readings.{default_of, kind_by}
use Rattle.dc_question.specs.declared.errors.QuestionError.TheVariants.{NoQuestion}
use Rattle.dc_dump.specs.Saying.{answer_at, answer_of}
use Rattle.dc_dump.proofs.RowLemmas.{first_seen, flag_seen, put_seen, second_seen, without_flag}
use Rattle.dc_dump.specs.SetAgain.{IsNew}
use Rattle.dc_dump.specs.declared.answers.Answer.{Answer}

-- a question is there, of the template of its own name, which is of this kind; it has this value and these owners, and was seen, or not
pub record IsSet (layers : List LayerState) (at : QuestionContext) (name : List ℕ) (kind : Kind) (value : List ℕ) (owners : TextSet) (seen : Bool)
    : Type 0 where
  pub item : ItemParts
  pub there : question layers at name ≡ Some item
  pub bound : map.get item.fields (codes "template") ≡ Some name
  pub valued : map.get item.fields (codes "value") ≡ Some value
  pub owned : item.owners ≡ owners
  pub marked : map.contains_key item.flags (codes "seen") ≡ seen
  pub typed : look layers at.templates name ≡ Some (made_template kind name)

-- ---- a question set by its lines

-- the store once what it told was taken
abbrev pub told_out : StoreState → StoreState
told_out store = stored store.layers []

-- for each owner in turn the value is set, and each is taken
abbrev pub AreValuesSet : StoreState → QuestionContext → List ℕ → Kind → List ℕ → List (List ℕ) → StoreState → Type 0
AreValuesSet store at name kind value [] new = new ≡ store
AreValuesSet store at name kind value (owner ∷ owners) new =
    (next : StoreState) × (preseeded store at owner name kind value false ≡ Ok next) × AreValuesSet (told_out next) at name kind value owners new

-- where it wasn't seen, the flag is taken away
abbrev pub IsSeenSet : Bool → StoreState → QuestionContext → List ℕ → StoreState → Type 0
IsSeenSet true store at name new = new ≡ store
IsSeenSet false store at name new = (next : StoreState) × (flag_set store at name (codes "seen") false ≡ Ok next) × (new ≡ told_out next)

-- what the lines of a question of this kind say is set in turn, and all of it is taken
abbrev pub IsAnswerSet : StoreState → QuestionContext → List ℕ → Kind → Answer → StoreState → Type 0
IsAnswerSet store at name kind answer new =
    (next : StoreState) × AreValuesSet store at name kind (newlines_shown answer.value) answer.owners next × IsSeenSet answer.seen next at name new

-- what an item's answer is: its owners have names, and stand in byte order, and its value is settled
pub record IsAnAnswer (answer : Answer) : Type 0 where
  pub named : list_all is_name answer.owners ≡ true
  pub ordered : map.keys (set_of answer.owners) ≡ answer.owners
  pub settled : is_settled answer.value ≡ true

neither : (a b : Bool) → (a || b) ≡ false → (a ≡ false) × (b ≡ false)
neither true b e = absurd (cc)
neither false b e = (refl, e)

-- ---- a row that was done

told_ok : (held : Option (List ℕ)) (o : Option StoreState) (new : StoreState) → told_by held o ≡ Ok new → o ≡ Some new
told_ok held (Some store) new h = let same : store ≡ new = cc in ap (λ s. Some s) same
told_ok held None new h = absurd (cc)

done_ok : (name : List ℕ) (o : Option StoreState) (new : StoreState) → done_or name o ≡ Ok new → o ≡ Some new
done_ok name (Some store) new h = let same : store ≡ new = cc in ap (λ s. Some s) same
done_ok name None new h = absurd (cc)

committed : (store new : StoreState) (batch : List Write) → commit store batch ≡ Some new → (list_any (is_refused store.layers) batch ≡ false) × (all_done store batch ≡ new)
committed store new batch h = by_test (list_any (is_refused store.layers) batch) refl h where
  by_test : (b : Bool) → list_any (is_refused store.layers) batch ≡ b → (if b then None else Some (all_done store batch)) ≡ Some new
      → (list_any (is_refused store.layers) batch ≡ false) × (all_done store batch ≡ new)
  by_test true e h = absurd (cc)
  by_test false e h = (e, cc)

-- ---- what rows leave

module _ (store : StoreState) (at : QuestionContext) (disjoint : are_disjoint at.config at.templates ≡ true) (name : List ℕ) where
  abbrev on_question : Option Kind → Op → Write
  on_question k op = record { plan = at.config; name = name; kind = k; op = op; reported_for = name ∷ [] }

  abbrev on_template : Option Kind → Op → Write
  on_template k op = record { plan = at.templates; name = name; kind = k; op = op; reported_for = name ∷ [] }

  question_apart : (j k : Option Kind) (p q : Op) → AreDistinct (on_template j p) (on_question k q)
  question_apart j k p q = inr (apart_too at.config at.templates disjoint)

  template_apart : (j k : Option Kind) (p q : Op) → AreDistinct (on_question j p) (on_template k q)
  template_apart j k p q = inr (apart at.config at.templates disjoint)

  put_question : (j k : Option Kind) (made item : ItemParts) → is_refused store.layers (on_question k (Put item)) ≡ false
      → question (all_done store (on_template j (Put made) ∷ on_question k (Put item) ∷ [])).layers at name ≡ Some item
  put_question j k made item taken =
      second_seen store at.templates at.config name j k made item (name ∷ []) (name ∷ []) (question_apart j k (Put made) (Put item)) taken

  put_template : (j k : Option Kind) (made item : ItemParts) → is_refused store.layers (on_template j (Put made)) ≡ false
      → look (all_done store (on_template j (Put made) ∷ on_question k (Put item) ∷ [])).layers at.templates name ≡ Some made
  put_template j k made item taken =
      first_seen store at.templates at.config name j k made item (name ∷ []) (name ∷ []) (template_apart k j (Put item) (Put made)) taken

  template_stays : (k : Option Kind) (op : Op) → look (all_done store (on_question k op ∷ [])).layers at.templates name ≡ look store.layers at.templates name
  template_stays k op =
      let w : Write = on_question k op in
      let v : Write = on_template None (Put no_parts) in
      row_stays store (w ∷ []) v (All-cons (λ u. AreDistinct u v) w [] (template_apart k None op (Put no_parts)) (All-nil (λ u. AreDistinct u v)))

-- ---- what an item says that was set

put_there : {X : Type 0} (m : Texts X) (key : List ℕ) (v : X) → eq_by_cmp text_cmp key key ≡ true → map.get (map.insert m key v) key ≡ Some v
put_there m key v same = get-insert nat_list_cmp_total m key v key ∙ ap (λ b. cond b (Some v) (map.get m key)) same

bound_still : (m : Texts (List ℕ)) (v : List ℕ) → map.get (map.insert m (codes "value") v) (codes "template") ≡ map.get m (codes "template")
bound_still m v = get-insert nat_list_cmp_total m (codes "value") v (codes "template")

seen_there : (s : TextSet) → map.contains_key (map.insert s (codes "seen") tt) (codes "seen") ≡ true
seen_there s = ap is_some (put_there s (codes "seen") tt refl)

unseen_there : (s : TextSet) → map.contains_key (map.remove s (codes "seen")) (codes "seen") ≡ false
unseen_there s = ap is_some (get-remove nat_list_cmp_total s (codes "seen") (codes "seen"))

-- ---- the laws

module _ (store new : StoreState) (at : QuestionContext) (owner name value : List ℕ) (kind : Kind) (disjoint : are_disjoint at.config at.templates ≡ true) where
  abbrev item_put : ItemParts
  item_put = answered (question store.layers at name) owner name value false

  -- the row where the question or a template of its name is known, or not
  abbrev made : Bool → List Write
  made known = if known then [] else template_made store.layers at name kind ∷ []

  abbrev row : Bool → List Write
  row known = made known ++ write_beside store.layers at (made known) name (Put item_put) ∷ []

  row_done : (known : Bool) → is_known store.layers at name ≡ known → preseeded store at owner name kind value false ≡ Ok new
      → (list_any (is_refused store.layers) (row known) ≡ false) × (all_done store (row known) ≡ new)
  row_done known is h = committed store new (row known) (subst (λ b. commit store (row b) ≡ Some new) is (told_ok (first_refused store.layers (name ∷ []) (row (is_known store.layers at name))) (commit store (row (is_known store.layers at name))) new h))

  named_by : (b : Bool) (o : Option ItemParts) → o ≡ None → is_some (if b then o else None) ≡ false
  named_by true o none = ap is_some none
  named_by false o none = refl

  pub first_set : is_settled name ≡ true → IsNew store.layers at name → preseeded store at owner name kind value false ≡ Ok new
      → IsSet new.layers at name kind (settled value) (map.insert map.empty owner tt) true
  first_set plain is_new h =
      let unknown : is_known store.layers at name ≡ false = (λ i. is_some (is_new.question i) || is_some (if is_name name then look store.layers at.templates name else None)) ∙ named_by (is_name name) (look store.layers at.templates name) is_new.template in
      let did = row_done false unknown h in
      let free = neither (is_refused store.layers (template_made store.layers at name kind)) _ did.0 in
      let item : ItemParts = answered None owner name value false in
      record {
        item = item;
        there = ap (λ (s : StoreState). question s.layers at name) (sym did.1) ∙ put_question store at disjoint name _ _ (made_template kind name) item_put (neither _ false free.1).0
            ∙ ap (λ o. Some (answered o owner name value false)) is_new.question;
        bound = bound_still (map.insert map.empty (codes "template") (settled name)) (settled value) ∙ put_there map.empty (codes "template") (settled name) refl
            ∙ ap (λ t. Some t) (settled-stays name plain);
        valued = put_there (map.insert map.empty (codes "template") (settled name)) (codes "value") (settled value) refl;
        owned = refl;
        marked = seen_there map.empty;
        typed = ap (λ (s : StoreState). look s.layers at.templates name) (sym did.1) ∙ put_template store at disjoint name _ _ (made_template kind name) item_put free.0;
      }

  pub further_set : (old : List ℕ) (held : Kind) (owners : TextSet) (seen : Bool) → IsSet store.layers at name held old owners seen → preseeded store at owner name kind value false ≡ Ok new
      → IsSet new.layers at name held (settled value) (map.insert owners owner tt) true
  further_set old held owners seen is h =
      let known : is_known store.layers at name ≡ true = λ i. is_some (is.there i) || is_some (if is_name name then look store.layers at.templates name else None) in
      let did = row_done true known h in
      record {
        item = answered (Some is.item) owner name value false;
        there = ap (λ (s : StoreState). question s.layers at name) (sym did.1) ∙ put_seen store at.config name _ item_put (name ∷ []) (neither _ false did.0).0
            ∙ ap (λ o. Some (answered o owner name value false)) is.there;
        bound = bound_still is.item.fields (settled value) ∙ is.bound;
        valued = put_there is.item.fields (codes "value") (settled value) refl;
        owned = ap (λ (s : TextSet). map.insert s owner tt) is.owned;
        marked = seen_there is.item.flags;
        typed = ap (λ (s : StoreState). look s.layers at.templates name) (sym did.1) ∙ template_stays store at disjoint name _ (Put item_put) ∙ is.typed;
      }

pub unseen_set : (store new : StoreState) (at : QuestionContext) (name value : List ℕ) (kind : Kind) (owners : TextSet) (seen : Bool) → are_disjoint at.config at.templates ≡ true → IsSet store.layers at name kind value owners seen
    → flag_set store at name (codes "seen") false ≡ Ok new → IsSet new.layers at name kind value owners false
unseen_set store new at name value kind owners seen disjoint is h =
    let op : Op = SetFlag (codes "seen") false in
    let w : Write = question_write store.layers at name is.item op in
    let done : done_or name (commit store (w ∷ [])) ≡ Ok new = ap (λ q. read name q (λ i. done_or name (commit store (question_write store.layers at name i op ∷ [])))) (sym is.there) ∙ h in
    let did = committed store new (w ∷ []) (done_ok name (commit store (w ∷ [])) new done) in
    record {
      item = without_flag is.item (codes "seen");
      there = ap (λ (s : StoreState). question s.layers at name) (sym did.1) ∙ flag_seen store at.config name _ (codes "seen") is.item (name ∷ []) is.there (neither _ false did.0).0;
      bound = is.bound;
      valued = is.valued;
      owned = is.owned;
      marked = unseen_there is.item.flags;
      typed = ap (λ (s : StoreState). look s.layers at.templates name) (sym did.1) ∙ template_stays store at disjoint name _ op ∙ is.typed;
    }

kind_made : (kind : Kind) (name : List ℕ) → kind_by (Some (made_template kind name)) ≡ Some kind
kind_made kind name = ap (option_and_then kind_of) (put_there map.empty (codes "type") (kind_word kind) refl) ∙ kind_again kind

pub set_answers : (layers : List LayerState) (at : QuestionContext) (name value : List ℕ) (kind : Kind) (owners : TextSet) (seen : Bool) → IsSet layers at name kind value owners seen
    → answer_at layers at name ≡ Some (record { owners = map.keys owners; kind = Some kind; value = value; seen = seen })
set_answers layers at name value kind owners seen is =
    let found : template layers at is.item ≡ Some (made_template kind name) = ap (option_and_then (look layers at.templates)) is.bound ∙ is.typed in
    ap (option_map (answer_of layers at)) is.there
    ∙ (λ i. Some (record {
      owners = map.keys (is.owned i);
      kind = (ap kind_by found ∙ kind_made kind name) i;
      value = ap (λ o. unwrap_or (option_or o (default_of at.lang (template layers at is.item))) []) is.valued i;
      seen = is.marked i;
    }))

-- ---- all lines of a question

abbrev with_owners : TextSet → List (List ℕ) → TextSet
with_owners owners [] = owners
with_owners owners (owner ∷ more) = with_owners (map.insert owners owner tt) more

owners_behind : (xs ys : List (List ℕ)) → with_owners (set_of xs) ys ≡ set_of (xs ++ ys)
owners_behind xs [] = ap set_of (sym (append-nil xs))
owners_behind xs (y ∷ ys) = ap (λ s. with_owners s ys) (sym (set_of-push xs y)) ∙ owners_behind (xs ++ y ∷ []) ys ∙ ap set_of (append_assoc xs (y ∷ []) ys)

module _ (at : QuestionContext) (disjoint : are_disjoint at.config at.templates ≡ true) (name value : List ℕ) (kind : Kind) where
  rest_set : (more : List (List ℕ)) (store new : StoreState) (owners : TextSet) → IsSet store.layers at name kind (settled value) owners true
      → AreValuesSet store at name kind value more new → IsSet new.layers at name kind (settled value) (with_owners owners more) true
  rest_set [] store new owners is h = subst (λ (s : StoreState). IsSet s.layers at name kind (settled value) owners true) (sym h) is
  rest_set (owner ∷ more) store new owners is h =
      rest_set more (told_out h.0) new (map.insert owners owner tt) (further_set store h.0 at owner name value kind disjoint (settled value) kind owners true is h.1) h.2

  values_set : (owners : List (List ℕ)) (store new : StoreState) → is_nil owners ≡ false → is_settled name ≡ true → IsNew store.layers at name
      → AreValuesSet store at name kind value owners new → IsSet new.layers at name kind (settled value) (set_of owners) true
  values_set [] store new some plain is h = absurd (cc)
  values_set (owner ∷ more) store new some plain is h =
      subst (λ s. IsSet new.layers at name kind (settled value) s true) (owners_behind (owner ∷ []) more)
      (rest_set more (told_out h.0) new (set_of (owner ∷ [])) (first_set store h.0 at owner name value kind disjoint plain is h.1) h.2)

  seen_set : (seen : Bool) (store new : StoreState) (owners : TextSet) → IsSet store.layers at name kind (settled value) owners true → IsSeenSet seen store at name new
      → IsSet new.layers at name kind (settled value) owners seen
  seen_set true store new owners is h = subst (λ (s : StoreState). IsSet s.layers at name kind (settled value) owners true) (sym h) is
  seen_set false store new owners is h =
      subst (λ (s : StoreState). IsSet s.layers at name kind (settled value) owners false) (sym h.2) (unseen_set store h.0 at name (settled value) kind owners true disjoint is h.1)

pub answer_set_to : (store new : StoreState) (at : QuestionContext) (name : List ℕ) (answer : Answer) (kind : Kind) → are_disjoint at.config at.templates ≡ true → is_settled name ≡ true → IsNew store.layers at name
    → is_nil answer.owners ≡ false → IsAnswerSet store at name kind answer new → IsSet new.layers at name kind (settled (newlines_shown answer.value)) (set_of answer.owners) answer.seen
answer_set_to store new at name answer kind disjoint plain is_new some h =
    let shown : List ℕ = newlines_shown answer.value in
    seen_set at disjoint name shown kind answer.seen h.0 new (set_of answer.owners) (values_set at disjoint name shown kind answer.owners store h.0 some plain is_new h.1) h.2

pub answers_it : (layers : List LayerState) (at : QuestionContext) (name : List ℕ) (answer : Answer) (kind : Kind) → IsAnAnswer answer → answer.kind ≡ Some kind
    → IsSet layers at name kind (settled (newlines_shown answer.value)) (set_of answer.owners) answer.seen → answer_at layers at name ≡ Some answer
answers_it layers at name answer kind is typed set =
    set_answers layers at name (settled (newlines_shown answer.value)) kind (set_of answer.owners) answer.seen set
    ∙ (λ i. Some (record { owners = is.ordered i; kind = sym typed i; value = settled-shown answer.value is.settled i; seen = answer.seen }))

-- ---- other questions stay

-- what is seen of another name is the same in both plans
pub record StaysSeen (old new : StoreState) (at : QuestionContext) (n : List ℕ) : Type 0 where
  pub question : look new.layers at.config n ≡ look old.layers at.config n
  pub template : look new.layers at.templates n ≡ look old.layers at.templates n

pub then_stays : (at : QuestionContext) (n : List ℕ) (one two three : StoreState) → StaysSeen one two at n → StaysSeen two three at n → StaysSeen one three at n
then_stays at n one two three a b = record { question = b.question ∙ a.question; template = b.template ∙ a.template }

pub same_stays : (at : QuestionContext) (n : List ℕ) (one two : StoreState) → two ≡ one → StaysSeen one two at n
same_stays at n one two same = record { question = ap (λ (s : StoreState). look s.layers at.config n) same; template = ap (λ (s : StoreState). look s.layers at.templates n) same }

told_stays : (at : QuestionContext) (n : List ℕ) (one two : StoreState) → StaysSeen one two at n → StaysSeen one (told_out two) at n
told_stays at n one two stays = record { question = stays.question; template = stays.template }

module _ (at : QuestionContext) (n m : List ℕ) (other : n ≢ m) where
  abbrev looked : Tree → Write
  looked plan = record { plan = plan; name = n; kind = None; op = Put no_parts; reported_for = [] }

  abbrev put_to : Tree → Option Kind → Op → Write
  put_to plan k op = record { plan = plan; name = m; kind = k; op = op; reported_for = m ∷ [] }

  apart_from : (plan to : Tree) (k : Option Kind) (op : Op) → AreDistinct (put_to to k op) (looked plan)
  apart_from plan to k op = inl (λ e. other (sym e))

  one_beside : (store : StoreState) (plan : Tree) (k : Option Kind) (op : Op) → look (all_done store (put_to at.config k op ∷ [])).layers plan n ≡ look store.layers plan n
  one_beside store plan k op =
      row_stays store (put_to at.config k op ∷ []) (looked plan) (All-cons (λ u. AreDistinct u (looked plan)) (put_to at.config k op) [] (apart_from plan at.config k op) (All-nil (λ u. AreDistinct u (looked plan))))

  two_beside : (store : StoreState) (plan : Tree) (j k : Option Kind) (p q : Op)
      → look (all_done store (put_to at.templates j p ∷ put_to at.config k q ∷ [])).layers plan n ≡ look store.layers plan n
  two_beside store plan j k p q =
      row_stays store (put_to at.templates j p ∷ put_to at.config k q ∷ []) (looked plan)
      (All-cons (λ u. AreDistinct u (looked plan)) (put_to at.templates j p) (put_to at.config k q ∷ []) (apart_from plan at.templates j p)
      (All-cons (λ u. AreDistinct u (looked plan)) (put_to at.config k q) [] (apart_from plan at.config k q) (All-nil (λ u. AreDistinct u (looked plan)))))

  value_beside : (store new : StoreState) (owner value : List ℕ) (kind : Kind) → are_disjoint at.config at.templates ≡ true → preseeded store at owner m kind value false ≡ Ok new → StaysSeen store new at n
  value_beside store new owner value kind disjoint h = by_test (is_known store.layers at m) refl where
    by_test : (known : Bool) → is_known store.layers at m ≡ known → StaysSeen store new at n
    by_test true is =
        let did = row_done store new at owner m value kind disjoint true is h in
        record {
          question = ap (λ (s : StoreState). look s.layers at.config n) (sym did.1) ∙ one_beside store at.config _ (Put (answered (question store.layers at m) owner m value false));
          template = ap (λ (s : StoreState). look s.layers at.templates n) (sym did.1) ∙ one_beside store at.templates _ (Put (answered (question store.layers at m) owner m value false));
        }
    by_test false is =
        let did = row_done store new at owner m value kind disjoint false is h in
        record {
          question = ap (λ (s : StoreState). look s.layers at.config n) (sym did.1) ∙ two_beside store at.config _ _ (Put (made_template kind m)) (Put (answered (question store.layers at m) owner m value false));
          template = ap (λ (s : StoreState). look s.layers at.templates n) (sym did.1) ∙ two_beside store at.templates _ _ (Put (made_template kind m)) (Put (answered (question store.layers at m) owner m value false));
        }

  values_beside : (owners : List (List ℕ)) (store new : StoreState) (value : List ℕ) (kind : Kind) → are_disjoint at.config at.templates ≡ true → AreValuesSet store at m kind value owners new → StaysSeen store new at n
  values_beside [] store new value kind disjoint h = same_stays at n store new h
  values_beside (owner ∷ owners) store new value kind disjoint h =
      then_stays at n store (told_out h.0) new (told_stays at n store h.0 (value_beside store h.0 owner value kind disjoint h.1)) (values_beside owners (told_out h.0) new value kind disjoint h.2)

  flag_beside : (store new : StoreState) (o : Option ItemParts) → question store.layers at m ≡ o → flag_set store at m (codes "seen") false ≡ Ok new → StaysSeen store new at n
  flag_beside store new None is h = absurd (let none : Err (NoQuestion m) ≡ Ok new = sym (ap (λ q. read m q (λ i. done_or m (commit store (question_write store.layers at m i (SetFlag (codes "seen") false) ∷ [])))) is) ∙ h in cc)
  flag_beside store new (Some item) is h =
      let op : Op = SetFlag (codes "seen") false in
      let w : Write = question_write store.layers at m item op in
      let done : done_or m (commit store (w ∷ [])) ≡ Ok new = sym (ap (λ q. read m q (λ i. done_or m (commit store (question_write store.layers at m i op ∷ [])))) is) ∙ h in
      let did = committed store new (w ∷ []) (done_ok m (commit store (w ∷ [])) new done) in
      record {
        question = ap (λ (s : StoreState). look s.layers at.config n) (sym did.1) ∙ one_beside store at.config _ op;
        template = ap (λ (s : StoreState). look s.layers at.templates n) (sym did.1) ∙ one_beside store at.templates _ op;
      }

  seen_beside : (seen : Bool) (store new : StoreState) → IsSeenSet seen store at m new → StaysSeen store new at n
  seen_beside true store new h = same_stays at n store new h
  seen_beside false store new h =
      subst (λ (s : StoreState). StaysSeen store s at n) (sym h.2) (told_stays at n store h.0 (flag_beside store h.0 (question store.layers at m) refl h.1))

  pub answer_beside : (store new : StoreState) (answer : Answer) (kind : Kind) → are_disjoint at.config at.templates ≡ true → IsAnswerSet store at m kind answer new → StaysSeen store new at n
  answer_beside store new answer kind disjoint h =
      then_stays at n store h.0 new (values_beside answer.owners store h.0 (newlines_shown answer.value) kind disjoint h.1) (seen_beside answer.seen h.0 new h.2)

pub still_set : (at : QuestionContext) (name : List ℕ) (old new : StoreState) {kind : Kind} {value : List ℕ} {owners : TextSet} {seen : Bool} → StaysSeen old new at name
    → IsSet old.layers at name kind value owners seen → IsSet new.layers at name kind value owners seen
still_set at name old new stays is = record {
  item = is.item;
  there = stays.question ∙ is.there;
  bound = is.bound;
  valued = is.valued;
  owned = is.owned;
  marked = is.marked;
  typed = stays.template ∙ is.typed;
}
