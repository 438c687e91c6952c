-- What a dialogue answers is read again.
use Rattle.std.proofs.Common.{◌≡◌, ℕ, zero, suc, Bool, true, false, cond, ◌&&◌, List, [], ◌∷◌, ◌++◌, length, map as each, Some, None, Option, refl, sym, ap, subst, ◌∙◌}
use Rattle.std.specs.Prelude.{codes, ◌||◌, slice_get, position, option_and_then}
use Rattle.std.specs.Option.{option_or}
use Rattle.std.specs.List.{flat_map, list_all}
use Rattle.std.specs.Str.{bytes_eq}
use Rattle.std.proofs.lemmas.Slice.Eq.{bytes_eq-Decides}
use Rattle.dc_text.specs.Bytes.{is_nil, lower, trimmed}
use Rattle.dc_text.specs.Lines.{text_of, HaveNoNewline}
use Rattle.dc_template.specs.declared.kinds.Kind.{Kind}
use Rattle.dc_template.specs.declared.kinds.Kind.TheVariants.{Str, Bool as Boolean, Select, Multiselect, Password, Note, Txt, Error, Title}
use Rattle.dc_template.proofs.TestLemmas.{both, both_hold, list_all-append, or-true}
use Rattle.dc_words.specs.Choices.{joined}
use Rattle.dc_words.specs.Stream.{whole_lines}
use Rattle.dc_frontend.specs.declared.shown.Shown.{Shown}
use Rattle.dc_teletype.specs.Answered.{CanBe, HaveAnswers}
use Rattle.dc_teletype.specs.Answers.{answer_to, answer_by, boolean_answer, yes_words, no_words, value_or_unusable, multiselect_answer, are_some_of, parted_words}
use Rattle.dc_teletype.specs.Keys.{numerals, is_one_of, beside, all_beside}
use Rattle.dc_teletype.specs.declared.answering.Reading.TheVariants as reading
use Rattle.dc_teletype.specs.declared.teletype.Answer.{Answer}
use Rattle.dc_teletype.specs.declared.teletype.Answer.TheVariants.{Keep, Value}
use Rattle.dc_teletype.specs.declared.teletype.Asked.TheVariants as reply
use Rattle.dc_pass.specs.Wire.{wire_line, fits, further, are_further, are_joined, some_passes, behind, is_value, can_answer, answer_all, answer_line, sent_answer, sent_reply, reply_lines}
use Rattle.dc_pass.specs.Reading.{replies, IsWhole}
use Rattle.dc_pass.specs.Passing.{is_sent, sent_questions, spread, asked_by}
use Rattle.dc_pass.proofs.AgainLemmas.{wire_free, free-append, printed_lines}
use Rattle.dc_pass.proofs.PartLemmas.{chosen}
use Rattle.dc_pass.proofs.WayLemmas.{behind-front}

same_bytes : (text : List ℕ) → bytes_eq text text ≡ true
same_bytes text = (bytes_eq-Decides text text).1 refl

-- ---- one of some

item_in : (items : List (List ℕ)) (place : ℕ) (value : List ℕ) → slice_get items place ≡ Some value → is_one_of items value ≡ true
item_in [] place value e = absurd (cc)
item_in (x ∷ items) zero value e = let same : x ≡ value = cc in subst (λ (v : List ℕ). is_one_of (x ∷ items) v ≡ true) same (ap (λ b. b || is_one_of items x) (same_bytes x))
item_in (x ∷ items) (suc place) value e = ap (λ b. bytes_eq x value || b) (item_in items place value e) ∙ or-true (bytes_eq x value)

beside_in : (keys items : List (List ℕ)) (word value : List ℕ) → beside keys items word ≡ Some value → is_one_of items value ≡ true
beside_in keys items word value e = by (position (λ key. bytes_eq key word) keys) e where
  by : (place : Option ℕ) → option_and_then (λ (k : ℕ). slice_get items k) place ≡ Some value → is_one_of items value ≡ true
  by None f = absurd (cc)
  by (Some k) f = item_in items k value f

either_in : (items : List (List ℕ)) (value : List ℕ) (a b : Option (List ℕ)) → ((v : List ℕ) → a ≡ Some v → is_one_of items v ≡ true) → ((v : List ℕ) → b ≡ Some v → is_one_of items v ≡ true)
    → value_or_unusable (option_or a b) ≡ reading.Value value → is_one_of items value ≡ true
either_in items value (Some v) b one other e = let same : v ≡ value = cc in subst (λ (x : List ℕ). is_one_of items x ≡ true) same (one v refl)
either_in items value None (Some v) one other e = let same : v ≡ value = cc in subst (λ (x : List ℕ). is_one_of items x ≡ true) same (other v refl)
either_in items value None None one other e = absurd (cc)

-- ---- some choices, joined

nothing_further : (choices : List (List ℕ)) → are_further choices [] ≡ true
nothing_further [] = refl
nothing_further (c ∷ choices) = ap (λ b. b || some_passes (are_further choices) (behind (further c) [])) (nothing_further choices)

some_further : (keys choices words : List (List ℕ)) → are_further choices (flat_map further (all_beside keys choices words)) ≡ true
some_further [] choices words = nothing_further choices
some_further (k ∷ keys) [] words = refl
some_further (k ∷ keys) (c ∷ choices) words =
    elim (is_one_of words k) as (λ t. are_further (c ∷ choices) (flat_map further (cond t (c ∷ all_beside keys choices words) (all_beside keys choices words))) ≡ true) [
      | true ↦
          (let rest : List ℕ = flat_map further (all_beside keys choices words) in
          ap (λ o. are_further choices (further c ++ rest) || some_passes (are_further choices) o) (behind-front (further c) rest)
          ∙ ap (λ b. are_further choices (further c ++ rest) || b) (some_further keys choices words) ∙ or-true (are_further choices (further c ++ rest)))
      | false ↦ ap (λ b. b || some_passes (are_further choices) (behind (further c) (flat_map further (all_beside keys choices words)))) (some_further keys choices words)
    ]

joined_further : (choices chosen : List (List ℕ)) → are_further choices (flat_map further chosen) ≡ true → are_joined choices (joined chosen) ≡ true
joined_further choices [] e = refl
joined_further choices (c ∷ chosen) e = ap (λ b. is_nil (joined (c ∷ chosen)) || b) e ∙ or-true (is_nil (joined (c ∷ chosen)))

-- ---- what a line answers

boolean_is : (answer value : List ℕ) → boolean_answer answer ≡ reading.Value value → is_one_of (codes "true" ∷ codes "false" ∷ []) value ≡ true
boolean_is answer value e =
    elim (is_one_of yes_words answer) as (λ t. cond t (reading.Value (codes "true")) (cond (is_one_of no_words answer) (reading.Value (codes "false")) reading.Unusable) ≡ reading.Value value → is_one_of (codes "true" ∷ codes "false" ∷ []) value ≡ true) [
      | true ↦ λ f. (let same : codes "true" ≡ value = cc in subst (λ (v : List ℕ). is_one_of (codes "true" ∷ codes "false" ∷ []) v ≡ true) same refl)
      | false ↦ elim (is_one_of no_words answer) as (λ t. cond t (reading.Value (codes "false")) reading.Unusable ≡ reading.Value value → is_one_of (codes "true" ∷ codes "false" ∷ []) value ≡ true) [
        | true ↦ λ f. (let same : codes "false" ≡ value = cc in subst (λ (v : List ℕ). is_one_of (codes "true" ∷ codes "false" ∷ []) v ≡ true) same refl)
        | false ↦ λ f. absurd (cc)
      ]
    ] e

multiselect_is : (choices : List (List ℕ)) (answer value : List ℕ) → multiselect_answer choices answer ≡ reading.Value value → are_joined choices value ≡ true
multiselect_is choices answer value e =
    let keys : List (List ℕ) = numerals (length choices) in
    let chosen_are : List (List ℕ) = all_beside keys choices (parted_words answer) in
    elim (bytes_eq answer (codes "none")) as (λ t. cond t (reading.Value []) (cond (are_some_of keys (parted_words answer)) (reading.Value (joined chosen_are)) reading.Unusable) ≡ reading.Value value → are_joined choices value ≡ true) [
      | true ↦ λ f. (let same : [] ≡ value = cc in subst (λ (v : List ℕ). are_joined choices v ≡ true) same refl)
      | false ↦ elim (are_some_of keys (parted_words answer)) as (λ t. cond t (reading.Value (joined chosen_are)) reading.Unusable ≡ reading.Value value → are_joined choices value ≡ true) [
        | true ↦ λ f. (let same : joined chosen_are ≡ value = cc in subst (λ (v : List ℕ). are_joined choices v ≡ true) same (joined_further choices chosen_are (some_further keys choices (parted_words answer))))
        | false ↦ λ f. absurd (cc)
      ]
    ] e

by_kind : (kind : Kind) (choices labels : List (List ℕ)) (line answer value : List ℕ) → answer_by kind choices labels line answer ≡ reading.Value value → is_value kind choices value ≡ true
by_kind Str choices labels line answer value e = refl
by_kind Password choices labels line answer value e = refl
by_kind Boolean choices labels line answer value e = boolean_is (each lower answer) value e
by_kind Select choices labels line answer value e =
    either_in choices value (beside (numerals (length choices)) choices answer) (beside labels choices answer) (λ v f. beside_in (numerals (length choices)) choices answer v f) (λ v f. beside_in labels choices answer v f) e
by_kind Multiselect choices labels line answer value e = multiselect_is choices answer value e
by_kind Note choices labels line answer value e = absurd (cc)
by_kind Txt choices labels line answer value e = absurd (cc)
by_kind Error choices labels line answer value e = absurd (cc)
by_kind Title choices labels line answer value e = absurd (cc)

line_value : (shown : Shown) (backup : Bool) (line value : List ℕ) → answer_to shown backup line ≡ reading.Value value → is_value shown.kind shown.choices value ≡ true
line_value shown backup line value e =
    chosen (backup && bytes_eq (trimmed line) (codes "<")) (is_value shown.kind shown.choices value ≡ true)
    (λ holds. absurd (let off : reading.Back ≡ reading.Value value = rw holds at e in cc))
    (λ fails. second (rw fails at e)) where
      second : cond (is_nil (trimmed line)) reading.Keep (answer_by shown.kind shown.choices shown.labels line (trimmed line)) ≡ reading.Value value → is_value shown.kind shown.choices value ≡ true
      second f =
          chosen (is_nil (trimmed line)) (is_value shown.kind shown.choices value ≡ true)
          (λ holds. absurd (let off : reading.Keep ≡ reading.Value value = rw holds at f in cc))
          (λ fails. by_kind shown.kind shown.choices shown.labels line (trimmed line) value (rw fails at f))

-- ---- the answers that are sent

sent_can : (backup : Bool) (shown : Shown) (answer : Answer) → CanBe backup shown answer → can_answer shown (sent_answer answer) ≡ true
sent_can backup shown Keep is = refl
sent_can backup shown (Value value) is =
    elim (fits (wire_line (codes "value") value)) as (λ t. can_answer shown (cond t (Value value) Keep) ≡ true) [ true ↦ line_value shown backup is.0 value is.1 | false ↦ refl ]

sent_all : (backup : Bool) (shown : List Shown) (answers : List Answer) → HaveAnswers backup shown answers → answer_all shown (each sent_answer answers) ≡ true
sent_all backup [] [] have = refl
sent_all backup [] (a ∷ answers) have = absurd have
sent_all backup (q ∷ shown) [] have = absurd have
sent_all backup (q ∷ shown) (a ∷ answers) have = both_hold _ _ (sent_can backup q a have.0) (sent_all backup shown answers have.1)

sent_fits : (answer : Answer) → fits (answer_line (sent_answer answer)) ≡ true
sent_fits Keep = refl
sent_fits (Value value) =
    elim (fits (wire_line (codes "value") value)) as (λ t. fits (wire_line (codes "value") value) ≡ t → fits (answer_line (cond t (Value value) Keep)) ≡ true) [ true ↦ λ e. e | false ↦ λ _. refl ] refl

lines_fit : (answers : List Answer) → list_all fits (each answer_line (each sent_answer answers)) ≡ true
lines_fit [] = refl
lines_fit (a ∷ answers) = both_hold _ _ (sent_fits a) (lines_fit answers)

answer_free : (answer : Answer) → HaveNoNewline (answer_line answer ∷ [])
answer_free Keep = (refl, tt)
answer_free (Value value) = (wire_free (codes "value") value refl, tt)

lines_free : (answers : List Answer) → HaveNoNewline (each answer_line answers)
lines_free [] = tt
lines_free (a ∷ answers) = ((answer_free a).0, lines_free answers)

pub answers_again : (backup : Bool) (shown : List Shown) (answers : List Answer) → HaveAnswers backup shown answers
    → IsWhole (replies backup shown) (whole_lines (text_of (reply_lines (sent_reply (reply.Answers answers))))) (sent_reply (reply.Answers answers))
answers_again backup shown answers have =
    let lines : List (List ℕ) = each answer_line (each sent_answer answers) in
    record {
      is = sent_all backup shown answers have;
      lines_are = sym (printed_lines (lines ++ codes "done" ∷ []) (free-append lines (codes "done" ∷ []) (lines_free (each sent_answer answers)) (refl, tt))
          (list_all-append fits lines (codes "done" ∷ []) ∙ both_hold _ _ (lines_fit answers) refl));
    }

pub back_again : (shown : List Shown) → IsWhole (replies true shown) (whole_lines (text_of (reply_lines (sent_reply reply.Back)))) reply.Back
back_again shown = record { is = refl; lines_are = sym (printed_lines (codes "back" ∷ []) (refl, tt) refl) }

-- ---- where all questions are sent

all_sent : (shown : List Shown) → list_all is_sent shown ≡ true → sent_questions shown ≡ shown
all_sent [] e = refl
all_sent (q ∷ shown) e =
    let p : (is_sent q ≡ true) × (list_all is_sent shown ≡ true) = both _ _ e in
    ap (λ t. cond t (q ∷ sent_questions shown) (sent_questions shown)) p.0 ∙ ap (λ (qs : List Shown). q ∷ qs) (all_sent shown p.1)

all_spread : (shown : List Shown) (answers : List Answer) → list_all is_sent shown ≡ true → answer_all shown answers ≡ true → spread shown answers ≡ answers
all_spread [] [] e are = refl
all_spread [] (a ∷ answers) e are = absurd (cc)
all_spread (q ∷ shown) [] e are = absurd (cc)
all_spread (q ∷ shown) (a ∷ answers) e are =
    let p : (is_sent q ≡ true) × (list_all is_sent shown ≡ true) = both _ _ e in
    let r : (can_answer q a ≡ true) × (answer_all shown answers ≡ true) = both _ _ are in
    ap (λ t. cond t (a ∷ spread shown answers) (Keep ∷ spread shown (a ∷ answers))) p.0 ∙ ap (λ (l : List Answer). a ∷ l) (all_spread shown answers p.1 r.1)

pub sent_whole : (shown : List Shown) (answers : List Answer) → list_all is_sent shown ≡ true → answer_all shown answers ≡ true
    → (sent_questions shown ≡ shown) × (asked_by shown (Some (reply.Answers answers)) ≡ reply.Answers answers)
sent_whole shown answers e are = (all_sent shown e, ap (λ (l : List Answer). reply.Answers l) (all_spread shown answers e are))
