-- What lines of selections say, and the first of their faults.
use Rattle.std.proofs.Common.{◌≡◌, ℕ, ◌+◌, ◌≤◌, suc, length, Bool, true, false, cond, not, List, [], ◌∷◌, ◌++◌, drop, refl, sym, ap, ◌∙◌, arith, inl, inr, Option, Some, None}
use Rattle.std.specs.Prelude.{◌&&◌, ◌||◌, ◌⊎◌, ◌==◌, is_some, is_none, unwrap_or, Result, Ok, Err}
use Rattle.std.specs.List.{find, position, position_or_len}
use Rattle.std.specs.Option.{option_map}
use Rattle.std.proofs.lemmas.Bool.{cases_Bool, cases_lt, le-leb, lt-leb}
use Rattle.std.proofs.lemmas.Bool.Decides.{nat_tests}
use Rattle.dc_text.specs.Bytes.{drop_front, is_nil}
use Rattle.dc_text.specs.Faults.{AllStand, IsFirstFault}
use Rattle.dc_text.specs.Names.{is_name}
use Rattle.dc_template.specs.Kinds.{kind_of}
use Rattle.dc_template.specs.declared.kinds.Kind.{Kind}
use Rattle.dc_preseed.specs.Selections.{Parts, is_seen, flag_value, has_fault, all_faults, IsSound, IsFirst, selection_of, IsSaid, IsAnswer, is_silent, parts_of, said_or, answer}
use Rattle.dc_preseed.specs.declared.faults.SelectionError.{SelectionError}
use Rattle.dc_preseed.specs.declared.faults.SelectionError.TheVariants.{Bad, OutOfMemory}
use Rattle.dc_preseed.specs.declared.faults.SelectionFault.{SelectionFault}
use Rattle.dc_preseed.specs.declared.faults.SelectionFault.TheVariants.{TooFew, BadName, BadType, BadFlagValue}
use Rattle.dc_preseed.specs.declared.selections.Selection.{Selection}
use Rattle.dc_preseed.specs.declared.selections.Selection.TheVariants.{Value, Seen}

-- ---- words

pub behind-word : (p : ℕ → Bool) (xs : List ℕ) → drop (position_or_len p xs) xs ≡ drop_front (λ x. not (p x)) xs
behind-word p [] = refl
behind-word p (x ∷ xs) = elim (cases_Bool (p x)) [
  | inl here ↦ rw here refl
  | inr later ↦
      let e : 1 + position_or_len p xs ≡ suc (position_or_len p xs) = omega arith in
      rw later (ap (λ n. drop n (x ∷ xs)) e ∙ behind-word p xs)
]

-- where the first word ends
within : (p : ℕ → Bool) (xs : List ℕ) → position_or_len p xs ≤ length xs
within p [] = omega arith
within p (x ∷ xs) = elim (cases_Bool (p x)) [
  | inl here ↦ rw here (omega arith)
  | inr later ↦ rw later (omega (arith, within p xs))
]

pub end-of-word : (p : ℕ → Bool) (xs : List ℕ) → unwrap_or (position p xs) (length xs) ≡ position_or_len p xs
end-of-word p xs = elim (cases_lt (position_or_len p xs) (length xs)) [
  | inl inside ↦ rw (le-leb (suc (position_or_len p xs)) (length xs) (omega arith)) refl
  | inr outside ↦ rw (lt-leb (suc (position_or_len p xs)) (length xs) (omega arith)) (omega (arith, within p xs))
]

pub nil-by-length : (xs : List ℕ) → (length xs == 0) ≡ is_nil xs
nil-by-length [] = refl
nil-by-length (x ∷ xs) = grind (arith, nat_tests)

-- ---- the first that is found

module _ {F : Type 0} (has : F → Bool) where
  abbrev pub Stands : List F → F → List F → Type 0
  Stands before fault after = has fault ≡ false

  abbrev pub HasFault : List F → F → List F → F → Type 0
  HasFault before fault after kind = (has fault ≡ true) × (kind ≡ fault)

  -- none of these is found
  abbrev pub NoneOf : List F → Type 0
  NoneOf faults = (before after : List F) (fault : F) → faults ≡ before ++ fault ∷ after → has fault ≡ false

  none-cons : (x : F) (faults : List F) → has x ≡ false → NoneOf faults → NoneOf (x ∷ faults)
  none-cons x faults off none [] after fault e = let head : fault ≡ x = cc in ap has head ∙ off
  none-cons x faults off none (y ∷ before) after fault e = let tail : faults ≡ before ++ fault ∷ after = cc in none before after fault tail

  none-tail : (x : F) (faults : List F) → NoneOf (x ∷ faults) → NoneOf faults
  none-tail x faults none before after fault e = none (x ∷ before) after fault (ap (λ (l : List F). x ∷ l) e)

  none-nil : NoneOf []
  none-nil [] after fault e = absurd (cc)
  none-nil (y ∷ before) after fault e = absurd (cc)

  pub none_stand : (faults : List F) → find has faults ≡ None → AllStand Stands faults
  none_stand [] e = none-nil
  none_stand (x ∷ faults) e = elim (cases_Bool (has x)) [
    | inl here ↦ absurd (let some : Some x ≡ None = rw here at e in cc)
    | inr later ↦ none-cons x faults later (none_stand faults (rw later at e))
  ]

  pub first_found : (faults : List F) (kind : F) → find has faults ≡ Some kind → IsFirstFault Stands HasFault faults kind kind
  first_found [] kind e = absurd (cc)
  first_found (x ∷ faults) kind e = elim (cases_Bool (has x)) [
    | inl here ↦
        let some : ◌≡◌ {A = Option F} (Some x) (Some kind) = rw here at e in
        let same : x ≡ kind = cc in
        record { before = []; after = faults; whole = ap (λ f. f ∷ faults) same; here = (ap has (sym same) ∙ here, refl); none = none-nil }
    | inr later ↦
        let f : IsFirstFault Stands HasFault faults kind kind = first_found faults kind (rw later at e) in
        record {
          before = x ∷ f.before;
          after = f.after;
          whole = ap (λ (l : List F). x ∷ l) f.whole;
          here = f.here;
          none = λ b more l. none-cons x f.before later (λ b more l. f.none b more l) b more l;
        }
  ]

  found_none : (faults : List F) → NoneOf faults → find has faults ≡ None
  found_none [] none = refl
  found_none (x ∷ faults) none = rw (none [] faults x refl) (found_none faults (none-tail x faults none))

  found_behind : (before after : List F) (kind : F) → NoneOf before → has kind ≡ true → find has (before ++ kind ∷ after) ≡ Some kind
  found_behind [] after kind none is = rw is refl
  found_behind (x ∷ before) after kind none is = rw (none [] before x refl) (found_behind before after kind (none-tail x before none) is)

  pub stand_none : (faults : List F) → AllStand Stands faults → find has faults ≡ None
  stand_none faults stand = found_none faults (λ before after fault e. stand before after fault e)

  pub found_first : (faults : List F) (kind : F) → IsFirstFault Stands HasFault faults kind kind → find has faults ≡ Some kind
  found_first faults kind f = ap (find has) f.whole ∙ found_behind f.before f.after kind (λ b more l e. f.none b more l e) f.here.0

-- ---- the faults of a line

pub few : (p : Parts) → is_nil p.word ≡ true → IsFirst p TooFew
few p nil = first_found (has_fault p) all_faults TooFew (rw nil refl)

pub no_names : (p : Parts) → is_nil p.word ≡ false → (is_name p.owner && is_name p.question) ≡ false → IsFirst p BadName
no_names p some names = first_found (has_fault p) all_faults BadName (rw (some, names) refl)

pub no_kind : (p : Parts) → is_nil p.word ≡ false → (is_name p.owner && is_name p.question) ≡ true → is_seen p.word ≡ false → kind_of p.word ≡ None → IsFirst p BadType
no_kind p some names other kind = first_found (has_fault p) all_faults BadType (rw (some, names, other, kind) refl)

pub no_flag : (p : Parts) → is_nil p.word ≡ false → (is_name p.owner && is_name p.question) ≡ true → is_seen p.word ≡ true → flag_value p.value ≡ None
    → IsFirst p BadFlagValue
no_flag p some names seen value = first_found (has_fault p) all_faults BadFlagValue (rw (some, names, seen, value) refl)

pub sound_value : (p : Parts) (kind : Kind) → is_nil p.word ≡ false → (is_name p.owner && is_name p.question) ≡ true → is_seen p.word ≡ false
    → kind_of p.word ≡ Some kind → IsSaid p (Ok (Value p.owner p.question kind p.value))
sound_value p kind some names other is = (none_stand (has_fault p) all_faults (rw (some, names, other, is) refl), rw (other, is) refl)

pub sound_seen : (p : Parts) (seen : Bool) → is_nil p.word ≡ false → (is_name p.owner && is_name p.question) ≡ true → is_seen p.word ≡ true
    → flag_value p.value ≡ Some seen → IsSaid p (Ok (Seen p.question seen))
sound_seen p seen some names is value = (none_stand (has_fault p) all_faults (rw (some, names, is, value) refl), rw (is, value) refl)

-- ---- what is answered

flag_left : (question : List ℕ) (flag : Option Bool) → option_map (λ seen. Seen question seen) flag ≡ None → flag ≡ None
flag_left question None e = refl
flag_left question (Some seen) e = absurd (cc)

kind_left : (owner question value : List ℕ) (kind : Option Kind) → option_map (λ k. Value owner question k value) kind ≡ None → kind ≡ None
kind_left owner question value None e = refl
kind_left owner question value (Some k) e = absurd (cc)

-- what has no fault says something
sound_says : (p : Parts) → find (has_fault p) all_faults ≡ None → selection_of p ≡ None → ⊥
sound_says p sound none =
    let stand : IsSound p = none_stand (has_fault p) all_faults sound in
    elim (cases_Bool (is_seen p.word)) [
      | inl seen ↦
          let flag : flag_value p.value ≡ None = flag_left p.question (flag_value p.value) (rw seen at none) in
          let free : (is_seen p.word && is_none (flag_value p.value)) ≡ false = stand (TooFew ∷ BadName ∷ BadType ∷ []) [] BadFlagValue refl in
          let off : true ≡ false = rw (seen, flag) at free in
          cc
      | inr other ↦
          let kind : kind_of p.word ≡ None = kind_left p.owner p.question p.value (kind_of p.word) (rw other at none) in
          let free : not (is_seen p.word || is_some (kind_of p.word)) ≡ false = stand (TooFew ∷ BadName ∷ []) (BadFlagValue ∷ []) BadType refl in
          let off : true ≡ false = rw (other, kind) at free in
          cc
    ]

answer-at : (line : List ℕ) (silent : Bool) (fault : Option SelectionFault) (selection : Option Selection) → is_silent line ≡ silent
    → find (has_fault (parts_of line)) all_faults ≡ fault → selection_of (parts_of line) ≡ selection → IsAnswer line (cond silent (Ok None) (said_or fault selection))
answer-at line true fault selection e f s = e
answer-at line false (Some fault) selection e f s = (e, first_found (has_fault (parts_of line)) all_faults fault f)
answer-at line false None (Some selection) e f s = (e, (none_stand (has_fault (parts_of line)) all_faults f, s))
answer-at line false None None e f s = absurd (sound_says (parts_of line) f s)

pub answer_is : (line : List ℕ) → IsAnswer line (answer line)
answer_is line = answer-at line (is_silent line) (find (has_fault (parts_of line)) all_faults) (selection_of (parts_of line)) refl refl refl

answer-by : (line : List ℕ) (silent : Bool) (fault : Option SelectionFault) (selection : Option Selection) → is_silent line ≡ silent
    → find (has_fault (parts_of line)) all_faults ≡ fault → selection_of (parts_of line) ≡ selection → cond silent (Ok None) (said_or fault selection) ≡ answer line
answer-by line silent fault selection e f s = λ i. cond (sym e i) (Ok None) (said_or (sym f i) (sym s i))

pub one_answer : (line : List ℕ) (result : Result (Option Selection) SelectionError) → IsAnswer line result → (result ≡ answer line) ⊎ (result ≡ Err OutOfMemory)
one_answer line (Ok None) is = inl (answer-by line true (find (has_fault (parts_of line)) all_faults) (selection_of (parts_of line)) is refl refl)
one_answer line (Ok (Some selection)) is = inl (answer-by line false None (Some selection) is.0 (stand_none (has_fault (parts_of line)) all_faults is.1.0) is.1.1)
one_answer line (Err (Bad fault)) is =
    inl (answer-by line false (Some fault) (selection_of (parts_of line)) is.0 (found_first (has_fault (parts_of line)) all_faults fault is.1) refl)
one_answer line (Err OutOfMemory) is = inr refl
