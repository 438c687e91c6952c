-- Questions that are answered before they are asked.
use Rattle.std.proofs.Common.{◌≡◌, ℕ, Bool, true, false, cond, not, List, [], ◌∷◌, ◌++◌, Option, Some, None, Err, refl, sym, ap, ◌∙◌, inr}
use Rattle.std.specs.Prelude.{◌||◌, is_some, option_and_then, unwrap_or, codes, if◌then◌else◌}
use Rattle.std.specs.Cmp.Lexicographic.{nat_list_cmp_total}
use Rattle.std.specs.FinMap.{contains_key, insert, get-insert}
use Rattle.std.specs.List.{All, filter, flat_map, list_any}
use Rattle.std.specs.Str.{bytes_eq}
use Rattle.std.proofs.lemmas.List.Elements.{All-nil, All-cons, All-head, All-tail, All-map}
use Rattle.std.proofs.lemmas.List.Kept.{AllPairs-cons}
use Rattle.std.proofs.lemmas.Slice.Eq.{bytes_eq-Decides}
use Rattle.dc_text.specs.Settled.{settled}
use Rattle.dc_item.specs.Item.{ItemParts, no_parts}
use Rattle.dc_item.specs.declared.op.Op.{Op}
use Rattle.dc_item.specs.declared.op.Op.TheVariants.{Put}
use Rattle.dc_template.specs.Kinds.{kind_of, kind_word}
use Rattle.dc_template.specs.declared.kinds.Kind.{Kind}
use Rattle.dc_template.specs.declared.kinds.Kind.TheVariants.{Str, Bool as BoolOf, Select, Multiselect, Password, Note, Txt, Error, Title}
use Rattle.dc_conf.specs.Plans.{IsOver, are_disjoint}
use Rattle.dc_layer.specs.State.{LayerState}
use Rattle.dc_store.specs.Plans.{StoreState, look}
use Rattle.dc_store.specs.Batches.{Write, AreOver, AllDistinct, AreDistinct, is_refused, names_of, refused_names}
use Rattle.dc_question.specs.Ownership.{kind_tested, write_beside}
use Rattle.dc_question.specs.Preseeding.{question_then, answered, made_template, is_known, template_made, preseed_batch, preseeded}
use Rattle.dc_question.specs.Questions.{QuestionContext, IsSetOver, question}
use Rattle.dc_question.specs.declared.errors.QuestionError.{QuestionError}
use Rattle.dc_question.specs.declared.errors.QuestionError.TheVariants.{CantChange}
use Rattle.dc_question.proofs.ApartLemmas.{apart_too, no_pairs, two_distinct}
use Rattle.dc_question.specs.Readings.{kind_by}
use Rattle.dc_question.proofs.FieldLemmas.{with_new, nothing_there}
use Rattle.dc_question.proofs.KindLemmas.{kind_reads, put_kept}
use Rattle.dc_question.proofs.RefusalLemmas.{row_refused}

-- ---- items that are made

pub bare_question : (bare bound : ItemParts) (t template : List ℕ) (is_new : Bool) → bare ≡ no_parts → template ≡ t
    → is_new ≡ not (contains_key bare.fields (codes "template")) → bound ≡ with_new bare (codes "template") (settled template) is_new → bound ≡ question_then None t
bare_question bare bound t template is_new b n fresh made =
    let is_fresh : is_new ≡ true = fresh ∙ ap (λ (i : ItemParts). not (contains_key i.fields (codes "template"))) b ∙ ap not (nothing_there (codes "template")) in
    made ∙ (λ j. with_new (b j) (codes "template") (settled (n j)) (is_fresh j))

pub typed_template : (bare typed owned : ItemParts) (k : Kind) (t word name : List ℕ) (is_new : Bool) → bare ≡ no_parts → word ≡ kind_word k → name ≡ t
    → is_new ≡ not (contains_key bare.fields (codes "type")) → typed ≡ with_new bare (codes "type") word is_new
    → owned ≡ record typed { owners = insert typed.owners name tt } → owned ≡ made_template k t
typed_template bare typed owned k t word name is_new b w n fresh made owns =
    let is_fresh : is_new ≡ true = fresh ∙ ap (λ (i : ItemParts). not (contains_key i.fields (codes "type"))) b ∙ ap not (nothing_there (codes "type")) in
    let typed' : typed ≡ with_new no_parts (codes "type") (kind_word k) true = made ∙ (λ j. with_new (b j) (codes "type") (w j) (is_fresh j)) in
    owns ∙ (λ j. record (typed' j) { owners = insert (typed' j).owners (n j) tt })

pub new_answered : (bare valued owned flagged : ItemParts) (o n v owner : List ℕ) (unseen is_new : Bool) → bare ≡ question_then None n → owner ≡ o
    → is_new ≡ not (contains_key bare.fields (codes "value")) → valued ≡ with_new bare (codes "value") (settled v) is_new
    → owned ≡ record valued { owners = insert valued.owners owner tt }
    → flagged ≡ record owned { flags = if unseen then owned.flags else insert owned.flags (codes "seen") tt } → flagged ≡ answered None o n v unseen
new_answered bare valued owned flagged o n v owner unseen is_new b w fresh made owns flags =
    let bare_of = question_then None n in
    let none : contains_key bare_of.fields (codes "value") ≡ false
    = ap is_some (get-insert nat_list_cmp_total no_parts.fields (codes "template") (settled n) (codes "value")) ∙ nothing_there (codes "value") in
    let is_fresh : is_new ≡ true = fresh ∙ ap (λ (i : ItemParts). not (contains_key i.fields (codes "value"))) b ∙ ap not none in
    let valued' : valued ≡ with_new bare_of (codes "value") (settled v) true = made ∙ (λ j. with_new (b j) (codes "value") (settled v) (is_fresh j)) in
    let owned' = owns ∙ (λ j. record (valued' j) { owners = insert (valued' j).owners (w j) tt }) in
    flags ∙ (λ j. record (owned' j) { flags = if unseen then (owned' j).flags else insert (owned' j).flags (codes "seen") tt })

-- ---- the write that makes a template

word_read : (k : Kind) → option_and_then kind_of (Some (kind_word k)) ≡ Some k
word_read Str = refl
word_read BoolOf = refl
word_read Select = refl
word_read Multiselect = refl
word_read Password = refl
word_read Note = refl
word_read Txt = refl
word_read Error = refl
word_read Title = refl

module _ (ls : List LayerState) (at : QuestionContext) where
  -- a write of an item to a template that is told by its name
  abbrev pub put_of : List ℕ → Option Kind → ItemParts → Write
  put_of name kind item = record { plan = at.templates; name = name; kind = kind; op = Put item; reported_for = name ∷ [] }

  made_kind : (n : List ℕ) (k : Kind) → Some k ≡ kind_tested ls at n (Put (made_template k n))
  made_kind n k =
      sym (ap (option_and_then kind_of) (get-insert nat_list_cmp_total no_parts.fields (codes "type") (kind_word k) (codes "type")) ∙ word_read k)
      ∙ put_kept kind_by kind_reads (Put (made_template k n)) (made_template k n) (look ls at.templates n) refl

  pub template_put : (n name : List ℕ) (k : Kind) (item : ItemParts) → name ≡ n → item ≡ made_template k n → put_of name (Some k) item ≡ template_made ls at n k
  template_put n name k item m is = λ i. put_of (m i) (made_kind n k i) (is i)

-- ---- the row

module _ (ls : List LayerState) (at : QuestionContext) (n : List ℕ) (k : Kind) (op : Op) where
  -- the writes to templates, where the question or a template of its name is known
  abbrev made_unless : Bool → List Write
  made_unless known = if known then [] else template_made ls at n k ∷ []

  abbrev made : Write
  made = template_made ls at n k

  abbrev answer : Bool → Write
  answer known = write_beside ls at (made_unless known) n op

  abbrev row_of : Bool → List Write
  row_of known = made_unless known ++ answer known ∷ []

  each_of : (P : Write → Type 0) → P made → ((known : Bool) → P (answer known)) → (known : Bool) → All P (row_of known)
  each_of P first last true = All-cons P (answer true) [] (last true) (All-nil P)
  each_of P first last false = All-cons P made (answer false ∷ []) first (All-cons P (answer false) [] (last false) (All-nil P))

  pub row_distinct : (known : Bool) → are_disjoint at.config at.templates ≡ true → AllDistinct (row_of known)
  row_distinct true h = AllPairs-cons AreDistinct (answer true) [] (All-nil (AreDistinct (answer true))) (no_pairs AreDistinct)
  row_distinct false h = two_distinct made (answer false) (inr (apart_too at.config at.templates h))

  pub row_over : (known : Bool) (count : ℕ) → IsSetOver at count → AreOver (row_of known) count
  row_over known count over = each_of (λ (w : Write). IsOver w.plan count) over.templates (λ _. over.config) known

  pub row_names : (known : Bool) → All (λ m. m ≡ n) (names_of (row_of known))
  row_names known = All-map (λ m. m ≡ n) (λ (w : Write). w.name) (row_of known) (each_of (λ (w : Write). w.name ≡ n) refl (λ _. refl) known)

  pub row_for_name : (known : Bool) → All (λ (w : Write). w.reported_for ≡ n ∷ []) (row_of known)
  row_for_name known = each_of (λ (w : Write). w.reported_for ≡ n ∷ []) refl (λ _. refl) known

-- the row that answers a question before it is asked
pub preseed_distinct : (ls : List LayerState) (at : QuestionContext) (o n : List ℕ) (k : Kind) (v : List ℕ) (unseen : Bool) → are_disjoint at.config at.templates ≡ true
    → AllDistinct (preseed_batch ls at o n k v unseen)
preseed_distinct ls at o n k v unseen h = row_distinct ls at n k (Put (answered (question ls at n) o n v unseen)) (is_known ls at n) h

-- ---- a refusal

module _ (ls : List LayerState) (n : List ℕ) where
  -- a refused write of a row in which all are done for the name is told by it
  refused_named : (batch : List Write) → All (λ (w : Write). w.reported_for ≡ n ∷ []) batch → list_any (is_refused ls) batch ≡ true → list_any (bytes_eq n) (refused_names ls batch) ≡ true
  refused_named [] all h = cc
  refused_named (w ∷ batch) all h =
      elim (is_refused ls w) as (λ b. (b || list_any (is_refused ls) batch) ≡ true → list_any (bytes_eq n) (flat_map (λ (v : Write). v.reported_for) (cond b (w ∷ filter (is_refused ls) batch) (filter (is_refused ls) batch))) ≡ true) [
        | true ↦ λ _.
            ap (λ l. list_any (bytes_eq n) (l ++ refused_names ls batch)) (All-head (λ (v : Write). v.reported_for ≡ n ∷ []) w batch all)
            ∙ ap (λ b. b || list_any (bytes_eq n) (refused_names ls batch)) ((bytes_eq-Decides n n).1 refl)
        | false ↦ λ later. refused_named batch (All-tail (λ (v : Write). v.reported_for ≡ n ∷ []) w batch all) later
      ] h

-- a refusal names the question
pub told_by_the_question : (store : StoreState) (at : QuestionContext) (o n v : List ℕ) (k : Kind) (unseen : Bool) (error : QuestionError) → preseeded store at o n k v unseen ≡ Err error → error ≡ CantChange n
told_by_the_question store at o n v k unseen error h =
    let batch : List Write = preseed_batch store.layers at o n k v unseen in
    let op : Op = Put (answered (question store.layers at n) o n v unseen) in
    let told = row_refused store (n ∷ []) batch error h in
    told.1 ∙ ap (λ b. CantChange (unwrap_or (cond b (Some n) None) [])) (refused_named store.layers n batch (row_for_name store.layers at n k op (is_known store.layers at n)) told.0)
