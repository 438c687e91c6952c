-- Boxes taken from the end of a list, and lists that are handed out from their end.
use Rattle.std.proofs.Common.{◌≡◌, ℕ, ◌+◌, ◌-◌, ◌≤◌, ◌<◌, true, ◌&&◌, List, [], ◌∷◌, ◌++◌, length, take, drop, get_or, map as each, refl, sym, ap, subst, ◌∙◌, arith}
use Rattle.std.proofs.Common.{Result, Ok, Err}
use Rattle.std.specs.Prelude.{IfErr}
use Rattle.std.proofs.lemmas.List.{map-append}
use Rattle.dc_shelf.specs.declared.shelf.NotSetUp.{NotSetUp}
use Rattle.std.proofs.lemmas.List.Sums.{sum_by-cons}
use Rattle.dc_conf.specs.declared.spec.LayerSort.{LayerSort}
use Rattle.dc_conf.specs.declared.spec.LayerSort.TheVariants.{File, Tree, Pack, Pipe}
use Rattle.dc_conf.specs.declared.spec.LayerSpec.{LayerSpec}
use Rattle.dc_layer.specs.State.{LayerState, blank}
use Rattle.dc_layer.specs.declared.pattern.PatternError.{PatternError}
use Rattle.dc_shelf.specs.Shelves.{AreBlank, has_patterns, all_patterns, count_of, is_sort, of_sort, one_if, AreRefusedFor, IsRefusedAt, IsRefusedFrom}

module _ (sort : LayerSort) where
  blank_last : (front : List LayerState) (last : LayerState) → AreBlank sort (front ++ last ∷ []) → (last ≡ blank sort) × AreBlank sort front
  blank_last [] last all = (all.0, tt)
  blank_last (layer ∷ front) last all = let later = blank_last front last all.1 in (later.0, (all.0, later.1))

  pub taken_blank : {A : Type 0} (f : A → LayerState) (items rest : List A) (last : A) → items ≡ rest ++ last ∷ [] → AreBlank sort (each f items) → (f last ≡ blank sort) × AreBlank sort (each f rest)
  taken_blank f items rest last are all = blank_last (each f rest) (f last) (subst (AreBlank sort) (ap (λ l. each f l) are ∙ map-append f rest (last ∷ [])) all)

  blank_more : (layers : List LayerState) (last : LayerState) → AreBlank sort layers → last ≡ blank sort → AreBlank sort (layers ++ last ∷ [])
  blank_more [] last all is = (is, tt)
  blank_more (layer ∷ layers) last all is = (all.0, blank_more layers last all.1 is)

  -- a blank box behind blank ones
  pub blank_behind : (old new : List LayerState) (last : LayerState) → new ≡ old ++ last ∷ [] → AreBlank sort old → last ≡ blank sort → AreBlank sort new
  blank_behind old new last are all is = subst (AreBlank sort) (sym are) (blank_more old last all is)

-- one more box
pub one_more : {A : Type 0} (f : A → LayerState) (old new : List A) (last : A) → new ≡ old ++ last ∷ [] → each f new ≡ each f old ++ f last ∷ []
one_more f old new last are = ap (λ l. each f l) are ∙ map-append f old (last ∷ [])

-- the first of these databases is refused
pub first_refused : (place : ℕ) (spec : LayerSpec) (rest : List LayerSpec) (error : PatternError) → AreRefusedFor spec error → IsRefusedFrom place (spec ∷ rest) place error
first_refused place spec rest error refused = (0, omega arith, record { before = []; spec = spec; after = rest; whole = refl; place_is = refl; built = refl; refused = refused })

-- a later one is
pub later_refused : (first place : ℕ) (spec : LayerSpec) (rest : List LayerSpec) (error : PatternError) → has_patterns spec ≡ true → IsRefusedFrom (first + 1) rest place error → IsRefusedFrom first (spec ∷ rest) place error
later_refused first place spec rest error built from = (
  from.0 + 1,
  (let e : place ≡ first + 1 + from.0 = from.1 in omega arith),
  record {
    before = spec ∷ from.2.before;
    spec = from.2.spec;
    after = from.2.after;
    whole = ap (λ (l : List LayerSpec). spec ∷ l) from.2.whole;
    place_is = (let e : from.0 ≡ length from.2.before = from.2.place_is in omega arith);
    built = ap (λ b. b && all_patterns from.2.before) built ∙ from.2.built;
    refused = from.2.refused;
  },
)

pub from_start : (specs : List LayerSpec) (place : ℕ) (error : PatternError) → IsRefusedFrom 0 specs place error → IsRefusedAt specs place error
from_start specs place error from =
    let same : from.0 ≡ place = (let e : place ≡ 0 + from.0 = from.1 in omega arith) in
    subst (λ (n : ℕ). IsRefusedAt specs n error) same from.2

-- ---- the first element of a list

all_of : {A : Type 0} (xs : List A) → take (length xs) xs ≡ xs
all_of [] = refl
all_of (x ∷ xs) = ap (λ l. x ∷ l) (all_of xs)

-- a list is its first element and those behind it
pub first_and_rest : {A : Type 0} (xs : List A) (x : A) → 1 ≤ length xs → x ≡ get_or xs 0 x → xs ≡ x ∷ take (length xs - 1) (drop 1 xs)
first_and_rest [] x long is = absurd (omega arith)
first_and_rest (y ∷ xs) x long is =
    let count : length (y ∷ xs) - 1 ≡ length xs = omega arith in
    rw (count, all_of xs) (ap (λ z. z ∷ xs) (sym is))

pub refused_behind : (first : ℕ) (specs : List LayerSpec) (spec : LayerSpec) (place : ℕ) (error : PatternError) → 1 ≤ length specs → spec ≡ get_or specs 0 spec → has_patterns spec ≡ true → IsRefusedFrom (first + 1) (take (length specs - 1) (drop 1 specs)) place error → IsRefusedFrom first specs place error
refused_behind first specs spec place error long is built from =
    subst (λ (l : List LayerSpec). IsRefusedFrom first l place error) (sym (first_and_rest specs spec long is)) (later_refused first place spec (take (length specs - 1) (drop 1 specs)) error built from)

-- ---- by the answer of the calls behind

pub refused_if : (first : ℕ) (specs : List LayerSpec) (spec : LayerSpec) → 1 ≤ length specs → spec ≡ get_or specs 0 spec → has_patterns spec ≡ true → (result : Result (Unit {0}) NotSetUp)
    → IfErr result (λ refused. IsRefusedFrom (first + 1) (take (length specs - 1) (drop 1 specs)) refused.place refused.error) → IfErr result (λ refused. IsRefusedFrom first specs refused.place refused.error)
refused_if first specs spec long is built (Ok value) from = tt
refused_if first specs spec long is built (Err refused) from = refused_behind first specs spec refused.place refused.error long is built from

-- ---- boxes of a sort for the databases of the sort

-- so many boxes of each sort have one for the first database
left_for : (sort : LayerSort) (files trees packs pipes a b c d : ℕ) → one_if (is_sort File sort) + a ≤ files → one_if (is_sort Tree sort) + b ≤ trees → one_if (is_sort Pack sort) + c ≤ packs → one_if (is_sort Pipe sort) + d ≤ pipes
    → 0 < of_sort sort files trees packs pipes
left_for File files trees packs pipes a b c d f t p q = omega arith
left_for Tree files trees packs pipes a b c d f t p q = omega arith
left_for Pack files trees packs pipes a b c d f t p q = omega arith
left_for Pipe files trees packs pipes a b c d f t p q = omega arith

module _ (specs : List LayerSpec) (spec : LayerSpec) (long : 1 ≤ length specs) (is : spec ≡ get_or specs 0 spec) where
  counted : (sort : LayerSort) → count_of sort specs ≡ one_if (is_sort sort spec.sort) + count_of sort (take (length specs - 1) (drop 1 specs))
  counted sort = ap (λ (l : List LayerSpec). count_of sort l) (first_and_rest specs spec long is)
      ∙ sum_by-cons (λ (s : LayerSpec). one_if (is_sort sort s.sort)) spec (take (length specs - 1) (drop 1 specs))

  pub box_left : (files trees packs pipes : ℕ) → count_of File specs ≤ files → count_of Tree specs ≤ trees → count_of Pack specs ≤ packs → count_of Pipe specs ≤ pipes → 0 < of_sort spec.sort files trees packs pipes
  box_left files trees packs pipes f t p q =
      left_for spec.sort files trees packs pipes (count_of File (take (length specs - 1) (drop 1 specs))) (count_of Tree (take (length specs - 1) (drop 1 specs))) (count_of Pack (take (length specs - 1) (drop 1 specs)))
      (count_of Pipe (take (length specs - 1) (drop 1 specs)))
      (subst (λ (n : ℕ). n ≤ files) (counted File) f) (subst (λ (n : ℕ). n ≤ trees) (counted Tree) t) (subst (λ (n : ℕ). n ≤ packs) (counted Pack) p) (subst (λ (n : ℕ). n ≤ pipes) (counted Pipe) q)

  pub boxes_left : (sort : LayerSort) (old new : ℕ) → count_of sort specs ≤ old → old ≡ new + one_if (is_sort sort spec.sort) → count_of sort (take (length specs - 1) (drop 1 specs)) ≤ new
  boxes_left sort old new few taken =
      let parts : count_of sort specs ≡ one_if (is_sort sort spec.sort) + count_of sort (take (length specs - 1) (drop 1 specs)) = counted sort in
      omega arith

  pub patterns_behind : has_patterns spec ≡ true → all_patterns (take (length specs - 1) (drop 1 specs)) ≡ true → all_patterns specs ≡ true
  patterns_behind here later =
      ap (λ (l : List LayerSpec). all_patterns l) (first_and_rest specs spec long is) ∙ ap (λ b. b && all_patterns (take (length specs - 1) (drop 1 specs))) here ∙ later
