-- Owners that leave questions.
use Rattle.std.proofs.Common.{◌≡◌, ◌≢◌, ℕ, ◌+◌, ◌<◌, length, get_or, take, Bool, true, false, cond, not, List, [], ◌∷◌, ◌++◌, Option, Some, None, Result, is_some, map as each, refl, sym, ap, subst, ◌∙◌, inl, inr}
use Rattle.std.specs.Prelude.{◌&&◌, option_map}
use Rattle.std.specs.Option.{option_map_or}
use Rattle.std.specs.List.{All, AllByRecursion, filter, filter_map, cons_option}
use Rattle.std.specs.Str.{bytes_eq}
use Rattle.std.specs.FinMap.{keys, empty}
use Rattle.std.proofs.lemmas.List.{take_more, append-nil}
use Rattle.std.proofs.lemmas.List.Elements.{All-nil, All-append, All-map, All-weaker, All-from_recursion, filter_map-append}
use Rattle.std.proofs.lemmas.List.Kept.{AllPairs-cons}
use Rattle.dc_text.specs.Maps.{Texts, set_of, AreDistinct as AllDiffer}
use Rattle.dc_item.specs.Item.{ItemParts}
use Rattle.dc_item.specs.After.{after_at}
use Rattle.dc_item.specs.declared.op.Op.TheVariants.{DropOwners}
use Rattle.dc_item.proofs.PrintedLines.{keys_apart}
use Rattle.dc_template.specs.declared.kinds.Kind.{Kind}
use Rattle.dc_conf.specs.Plans.{IsOver, are_disjoint}
use Rattle.dc_layer.specs.State.{LayerState}
use Rattle.dc_store.specs.Plans.{has_below, look, is_owned, owned, names}
use Rattle.dc_store.specs.Batches.{Write, AreDistinct, AllDistinct, AreOver}
use Rattle.dc_question.specs.KindsLeft.{with_kinds, write_by}
use Rattle.dc_question.specs.Losses.{pairs_lost, behind, grouped, losses_of}
use Rattle.dc_question.specs.Ownership.{template_write, write_beside, is_gone, goes_with, loser_of, losers, lost_by, losses, leave_batch}
use Rattle.dc_question.specs.Questions.{QuestionContext, IsSetOver, question, read}
use Rattle.dc_question.specs.declared.errors.QuestionError.{QuestionError}
use Rattle.dc_question.proofs.ApartLemmas.{apart, no_pairs}
use Rattle.dc_question.proofs.KindLemmas.{beside}

-- ---- the loops

pub each_more : {X Y : Type 0} (f : X → Y) (xs : List X) (i : ℕ) (x : X) → i < length xs → x ≡ get_or xs i x → each f (take i xs) ++ f x ∷ [] ≡ each f (take (i + 1) xs)
each_more f xs i x h is = each_push (take i xs) ∙ ap (each f) (ap (λ y. take i xs ++ y ∷ []) is ∙ sym (take_more xs i x h)) where
  each_push : (ys : List _) → each f ys ++ f x ∷ [] ≡ each f (ys ++ x ∷ [])
  each_push [] = refl
  each_push (y ∷ ys) = ap (λ l. f y ∷ l) (each_push ys)

pub filter_map_more : {X Y : Type 0} (h : X → Option Y) (xs : List X) (i : ℕ) (x : X) → i < length xs → x ≡ get_or xs i x
    → filter_map h (take i xs) ++ cons_option (h x) [] ≡ filter_map h (take (i + 1) xs)
filter_map_more h xs i x lt is =
    sym (filter_map-append h (take i xs) (x ∷ [])) ∙ ap (filter_map h) (ap (λ y. take i xs ++ y ∷ []) is ∙ sym (take_more xs i x lt))

-- ---- which questions go

pub goes_is : (ls : List LayerState) (at : QuestionContext) (o n : List ℕ) (owners : List (List ℕ)) (item : Option ItemParts) (goes lower : Bool)
    → owners ≡ o ∷ [] → item ≡ question ls at n → goes ≡ is_gone (after_at (DropOwners owners) item) → lower ≡ has_below ls at.config n → (goes && not lower) ≡ goes_with ls at o n
goes_is ls at o n owners item goes lower os is m b =
    (λ i. m i && not (b i)) ∙ (λ i. is_gone (after_at (DropOwners (os i)) (is i)) && not (has_below ls at.config n))

-- ---- what templates lose

each_each : {X Y Z : Type 0} (f : Y → Z) (g : X → Y) (xs : List X) → each f (each g xs) ≡ each (λ x. f (g x)) xs
each_each f g [] = refl
each_each f g (x ∷ xs) = ap (λ l. f (g x) ∷ l) (each_each f g xs)

module _ (ls : List LayerState) (at : QuestionContext) (o : List ℕ) where
  abbrev behind_own : List ℕ → Option (List ℕ) → Option (List ℕ × List ℕ)
  behind_own n loser = option_map (λ t. (t, n)) loser

  firsts_are : (ns : List (List ℕ)) → each (λ p. p.0) (pairs_lost ls at o ns) ≡ filter_map (loser_of ls at o) ns
  firsts_are [] = refl
  firsts_are (n ∷ ns) = elim (loser_of ls at o n) as (λ l. each (λ (p : List ℕ × List ℕ). p.0) (cons_option (behind_own n l) (pairs_lost ls at o ns)) ≡ cons_option l (filter_map (loser_of ls at o) ns)) [
    | None ↦ firsts_are ns
    | Some t ↦ ap (λ l. t ∷ l) (firsts_are ns)
  ]

  behind_is : (t : List ℕ) (ns : List (List ℕ)) → behind t (pairs_lost ls at o ns) ≡ lost_by ls at o ns t
  behind_is t [] = refl
  behind_is t (n ∷ ns) = elim (loser_of ls at o n) as (λ l. behind t (cons_option (behind_own n l) (pairs_lost ls at o ns)) ≡ cond (option_map_or (bytes_eq t) l false) (n ∷ lost_by ls at o ns t) (lost_by ls at o ns t)) [
    | None ↦ behind_is t ns
    | Some s ↦ elim (bytes_eq t s) as (λ b. each (λ (p : List ℕ × List ℕ). p.1) (cond b ((s, n) ∷ filter (λ p. bytes_eq t p.0) (pairs_lost ls at o ns)) (filter (λ p. bytes_eq t p.0) (pairs_lost ls at o ns)))
        ≡ cond b (n ∷ lost_by ls at o ns t) (lost_by ls at o ns t)) [
          | true ↦ ap (λ l. n ∷ l) (behind_is t ns)
          | false ↦ behind_is t ns
        ]
  ]

  abbrev loss : List ℕ → List (List ℕ) → Write
  loss t lost = template_write ls at t (DropOwners lost) lost

  losses_are : (ns : List (List ℕ)) → losses_of ls at (grouped (pairs_lost ls at o ns)) ≡ losses ls at o ns
  losses_are ns =
      each_each (λ (g : List ℕ × List (List ℕ)). loss g.0 g.1) (λ t. (t, behind t (pairs_lost ls at o ns))) (keys (set_of (each (λ p. p.0) (pairs_lost ls at o ns))))
      ∙ (λ i. each (λ t. loss t (behind_is t ns i)) (keys (set_of (firsts_are ns i))))

  pub losses_made : (ns : List (List ℕ)) (pairs : List (List ℕ × List ℕ)) (groups : List (List ℕ × List (List ℕ))) (batch : List Write)
      → pairs ≡ pairs_lost ls at o ns → groups ≡ grouped pairs → batch ≡ losses_of ls at groups → batch ≡ losses ls at o ns
  losses_made ns pairs groups batch p g r = r ∙ ap (losses_of ls at) (g ∙ ap grouped p) ∙ losses_are ns

  -- ---- the row

  pub row_left : (ns : List (List ℕ)) (kinds : Texts (Option Kind)) (lost first whole : List Write) → lost ≡ losses ls at o ns → kinds ≡ with_kinds ls at empty lost
      → first ≡ each (λ n. write_by ls at kinds n (DropOwners (o ∷ []))) ns → whole ≡ first ++ lost → whole ≡ leave_batch ls at o ns
  row_left ns kinds lost first whole l k f w =
      let beside' : (n : List ℕ) → write_by ls at kinds n (DropOwners (o ∷ [])) ≡ write_beside ls at (losses ls at o ns) n (DropOwners (o ∷ []))
      = λ n. ap (λ m. write_by ls at m n (DropOwners (o ∷ []))) (k ∙ ap (with_kinds ls at empty) l) ∙ beside ls at (losses ls at o ns) n (DropOwners (o ∷ [])) in
      w ∙ ap (λ x. x ++ lost) f ∙ (λ i. each (λ n. beside' n i) ns ++ l i)

  pub losses_over : (ns : List (List ℕ)) (count : ℕ) → IsSetOver at count → AreOver (losses ls at o ns) count
  losses_over ns count over = All-map (λ (w : Write). IsOver w.plan count) (λ t. loss t (lost_by ls at o ns t)) (losers ls at o ns) (λ k d h. over.templates)

  pub row_over : (ns : List (List ℕ)) (count : ℕ) → IsSetOver at count → AreOver (leave_batch ls at o ns) count
  row_over ns count over =
      All-append (λ (w : Write). IsOver w.plan count) (each (λ n. write_beside ls at (losses ls at o ns) n (DropOwners (o ∷ []))) ns) (losses ls at o ns)
      (All-map (λ (w : Write). IsOver w.plan count) (λ n. write_beside ls at (losses ls at o ns) n (DropOwners (o ∷ []))) ns (λ k d h. over.config)) (losses_over ns count over)

-- ---- which are on different items

module _ (f : List ℕ → Write) (named : (k : List ℕ) → (f k).name ≡ k) where
  others : (k : List ℕ) (ks : List (List ℕ)) → AllByRecursion (λ other. other ≢ k) ks → All (AreDistinct (f k)) (each f ks)
  others k ks h =
      All-map (AreDistinct (f k)) f ks
      (All-weaker (λ other. other ≢ k) (λ x. AreDistinct (f k) (f x)) (λ x ne. inl (λ e. ne (sym (named x) ∙ sym e ∙ named k))) ks (All-from_recursion (λ other. other ≢ k) ks h))

  each_distinct : (ks : List (List ℕ)) (rest : List Write) → AllDiffer ks → ((k : List ℕ) → All (AreDistinct (f k)) rest) → AllDistinct rest → AllDistinct (each f ks ++ rest)
  each_distinct [] rest d across r = r
  each_distinct (k ∷ ks) rest d across r =
      AllPairs-cons AreDistinct (f k) (each f ks ++ rest) (All-append (AreDistinct (f k)) (each f ks) rest (others k ks d.0) (across k)) (each_distinct ks rest d.1 across r)

pub row_distinct : (ls : List LayerState) (at : QuestionContext) (o : List ℕ) (ns : List (List ℕ)) → are_disjoint at.config at.templates ≡ true → AllDiffer ns → AllDistinct (leave_batch ls at o ns)
row_distinct ls at o ns h d =
    let own : List ℕ → Write = λ n. write_beside ls at (losses ls at o ns) n (DropOwners (o ∷ [])) in
    let lost : List ℕ → Write = λ t. template_write ls at t (DropOwners (lost_by ls at o ns t)) (lost_by ls at o ns t) in
    let alone : AllDistinct (losses ls at o ns ++ []) = each_distinct lost (λ k. refl) (losers ls at o ns) [] (keys_apart (set_of (filter_map (loser_of ls at o) ns))) (λ k. All-nil (AreDistinct (lost k))) (no_pairs AreDistinct) in
    each_distinct own (λ k. refl) ns (losses ls at o ns) d
    (λ k. All-map (AreDistinct (own k)) lost (losers ls at o ns) (λ i e b. inr (apart at.config at.templates h)))
    (subst AllDistinct (append-nil (losses ls at o ns)) alone)

all_filter : (P : List ℕ → Type 0) (p : List ℕ → Bool) (xs : List (List ℕ)) → AllByRecursion P xs → AllByRecursion P (filter p xs)
all_filter P p [] h = tt
all_filter P p (x ∷ xs) h = elim (p x) as (λ b. AllByRecursion P (cond b (x ∷ filter p xs) (filter p xs))) [ true ↦ (h.0, all_filter P p xs h.1) | false ↦ all_filter P p xs h.1 ]

differ_filter : (p : List ℕ → Bool) (xs : List (List ℕ)) → AllDiffer xs → AllDiffer (filter p xs)
differ_filter p [] d = tt
differ_filter p (x ∷ xs) d = elim (p x) as (λ b. AllDiffer (cond b (x ∷ filter p xs) (filter p xs))) [
  | true ↦ (all_filter (λ other. other ≢ x) p xs d.0, differ_filter p xs d.1)
  | false ↦ differ_filter p xs d.1
]

pub owned_differ : (ls : List LayerState) (at : QuestionContext) (o : List ℕ) → AllDiffer (owned ls at.config o)
owned_differ ls at o = differ_filter (λ name. is_owned o (look ls at.config name)) (names ls at.config) (keys_apart _)

-- ---- a question that is there

pub read_there : {A : Type 0} (n : List ℕ) (item : Option ItemParts) (answer : Result A QuestionError) → is_some item ≡ true → answer ≡ read n item (λ _. answer)
read_there n None answer h = absurd (cc)
read_there n (Some x) answer h = refl
