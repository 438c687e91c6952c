-- Which databases the words of a tool name, and which of them plans share.
use Rattle.std.proofs.Common.{◌≡◌, ◌⊎◌, ℕ, ◌+◌, Bool, true, false, cond, not, ◌&&◌, List, [], ◌∷◌, ◌++◌, length, Option, Some, None, Ok, refl, sym, ap, ◌∙◌, subst, inl, inr, arith, nat_eq}
use Rattle.std.specs.Prelude.{◌||◌}
use Rattle.std.specs.Prelude.{is_some, option_to_list}
use Rattle.std.specs.List.{AllByRecursion, list_all, list_any}
use Rattle.std.proofs.lemmas.Bool.Decides.{nat_tests}
use Rattle.std.proofs.lemmas.List.Folds.{list_all-append}
use Rattle.dc_conf.specs.Configuration.{AreDisjoint, Configuration, HavePlans, IsFirstUnknown, IsOnce, IsPlan, IsResolved, is_among}
use Rattle.dc_conf.specs.Nodes.{driver_line_of}
use Rattle.dc_conf.specs.Plans.{IsOver, are_apart_from, are_disjoint}
use Rattle.dc_conf.specs.Trees.{shape}
use Rattle.dc_conf.specs.declared.nodes.Node.{Node}
use Rattle.dc_conf.specs.declared.plans.Plan.{Plan}
use Rattle.dc_conf.specs.declared.plans.Resolved.{Resolved}
use Rattle.dc_conf.specs.declared.spec.LayerSpec.{LayerSpec}
use Rattle.dc_cli.specs.declared.tool.CopyWords.{CopyWords}
use Rattle.dc_cli.specs.declared.tool.PlacedWord.{PlacedWord}
use Rattle.dc_cli.specs.declared.tool.Shown.{Shown}
use Rattle.dc_cli.specs.declared.tool.Tool.{Tool}
use Rattle.dc_cli.specs.declared.tool.Tool.TheVariants.{Communicate, LoadTemplate, Run, Show, CopyDb, SetSelections, GetSelections, Drill, Answer}
use Rattle.dc_run.specs.Inside.{AreApartIn, AreFew, IsResolvedFor, IsUnresolvedFor, overlap_in, unknown_end}
use Rattle.dc_run.specs.Starting.{AreDisjointIn, IsSomeConfiguration, IsWrongCopy, IsWrongWord, databases_of, first_unknown, is_known, roots}
use Rattle.dc_run.specs.declared.outcome.End.{End}
use Rattle.dc_run.specs.declared.outcome.End.TheVariants as end
use Rattle.dc_conf.proofs.NodeLemmas.{one_plan}
use Rattle.dc_run.proofs.FewLemmas.{few_reached}

-- ---- what plans share

not_both : (a b : Bool) → not (a && b) ≡ (not a || not b)
not_both true b = refl
not_both false b = refl

same_place : (b : Bool) → not (not b && true) ≡ b
same_place true = refl
same_place false = refl

-- a plan of one place shares a database with another that speaks of it
pub shared_place : (place : ℕ) (others : List ℕ) → not (are_apart_from (place ∷ []) others) ≡ list_any (nat_eq place) others
shared_place place others = same_place (list_any (nat_eq place) others)

-- some places are among others where the first are, or the last
pub shared_either : (first last others : List ℕ) → not (are_apart_from (first ++ last) others) ≡ (not (are_apart_from first others) || not (are_apart_from last others))
shared_either first last others =
    ap not (list_all-append (λ place. not (list_any (nat_eq place) others)) first last) ∙ not_both (are_apart_from first others) (are_apart_from last others)

-- ---- the plans of a copy

-- the plans of three names
pub record HasThree (nodes : List Node) (specs : List LayerSpec) (plans : List Plan) (a b c : List ℕ) : Type 0 where
  pub first : Plan
  pub second : Plan
  pub third : Plan
  pub plans_are : plans ≡ first ∷ second ∷ third ∷ []
  pub first_is : IsPlan nodes specs (shape first) a
  pub second_is : IsPlan nodes specs (shape second) b
  pub third_is : IsPlan nodes specs (shape third) c

nothing_left : (x : List ℕ) (xs : List (List ℕ)) → x ∷ xs ≡ [] → ⊥
nothing_left x xs e = cc

pub three_plans : (nodes : List Node) (specs : List LayerSpec) (plans : List Plan) (a b c : List ℕ) → HavePlans nodes specs plans (a ∷ b ∷ c ∷ []) → HasThree nodes specs plans a b c
three_plans nodes specs [] a b c have = absurd (nothing_left a (b ∷ c ∷ []) have)
three_plans nodes specs (x ∷ []) a b c have = absurd (nothing_left b (c ∷ []) have.1)
three_plans nodes specs (x ∷ y ∷ []) a b c have = absurd (nothing_left c [] have.1.1)
three_plans nodes specs (x ∷ y ∷ z ∷ []) a b c have = record {
  first = x;
  second = y;
  third = z;
  plans_are = refl;
  first_is = have.0;
  second_is = have.1.0;
  third_is = have.1.1.0;
}
three_plans nodes specs (x ∷ y ∷ z ∷ w ∷ plans) a b c have = absurd have.1.1.1

-- ---- what is known

-- a word that names a database is none of the unknown ones
pub known_then : (conf : Configuration) (word : PlacedWord) (words : List PlacedWord) → is_known conf word ≡ true → first_unknown conf (word ∷ words) ≡ first_unknown conf words
known_then conf word words is = rw is refl

-- the first of them is this one
pub unknown_then : (conf : Configuration) (word : PlacedWord) (words : List PlacedWord) → is_known conf word ≡ false → first_unknown conf (word ∷ words) ≡ Some word.place
unknown_then conf word words is = rw is refl

-- the first unknown root is the head, or the head is known and it is one of the others
abbrev IsFirstOrLater : List (List ℕ) → List ℕ → List (List ℕ) → ℕ → Type 0
IsFirstOrLater names root roots place =
    ((place ≡ 0) × (is_among names root ≡ false)) ⊎ ((later : ℕ) × (place ≡ later + 1) × (is_among names root ≡ true) × IsFirstUnknown names roots later)

first_at : (names : List (List ℕ)) (root : List ℕ) (roots : List (List ℕ)) (place : ℕ) (before : List (List ℕ)) (other : List ℕ) (after : List (List ℕ)) → root ∷ roots ≡ before ++ other ∷ after
    → place ≡ length before → AllByRecursion (λ name. is_among names name ≡ true) before → is_among names other ≡ false → IsFirstOrLater names root roots place
first_at names root roots place [] other after whole at known unknown = let same : other ≡ root = cc in inl (at, subst (λ name. is_among names name ≡ false) same unknown)
first_at names root roots place (first ∷ before) other after whole at known unknown =
    let same : first ≡ root = cc in
    let rest : roots ≡ before ++ other ∷ after = cc in
    inr (
      length before,
      omega arith,
      subst (λ name. is_among names name ≡ true) same known.0,
      record { before = before; root = other; after = after; whole = rest; place_is = refl; known = known.1; unknown = unknown },
    )

first_or_later : (names : List (List ℕ)) (root : List ℕ) (roots : List (List ℕ)) (place : ℕ) → IsFirstUnknown names (root ∷ roots) place → IsFirstOrLater names root roots place
first_or_later names root roots place first = first_at names root roots place first.before first.root first.after first.whole first.place_is first.known first.unknown

no_zero : (n : ℕ) → nat_eq (n + 1) 0 ≡ false
no_zero n = grind (arith, nat_tests)

-- of no roots none is unknown
none_first : (names : List (List ℕ)) (place : ℕ) (before : List (List ℕ)) (root : List ℕ) (after : List (List ℕ)) → [] ≡ before ++ root ∷ after → ⊥
none_first names place [] root after whole = absurd (cc)
none_first names place (first ∷ before) root after whole = absurd (cc)

-- ---- a root that is unknown

-- a copy of which the destination is unknown, and the source known
unknown_dest : (conf : Configuration) (copy : CopyWords) → is_among conf.databases copy.source.word ≡ true → is_among conf.databases copy.dest.word ≡ false
    → IsWrongWord (CopyDb copy) conf (Some copy.dest.place)
unknown_dest conf copy source dest =
    subst (λ (first : Option ℕ). IsWrongCopy first conf copy (Some copy.dest.place))
    (sym (known_then conf copy.source (copy.dest ∷ []) source ∙ unknown_then conf copy.dest [] dest)) refl

unknown_source : (conf : Configuration) (copy : CopyWords) → is_among conf.databases copy.source.word ≡ false → IsWrongWord (CopyDb copy) conf (Some copy.source.place)
unknown_source conf copy source =
    subst (λ (first : Option ℕ). IsWrongCopy first conf copy (Some copy.source.place)) (sym (unknown_then conf copy.source (copy.dest ∷ []) source)) refl

-- the end of a copy by the place of the unknown root
abbrev IsCopyEnd : Configuration → CopyWords → ℕ → Type 0
IsCopyEnd conf copy root = IsUnresolvedFor (CopyDb copy) conf (unknown_end (CopyDb copy) root)

copy_end_at : (conf : Configuration) (copy : CopyWords) (root : ℕ) → IsFirstUnknown conf.databases (copy.source.word ∷ conf.templates ∷ copy.dest.word ∷ []) root → IsCopyEnd conf copy root
copy_end_at conf copy root first = elim (first_or_later conf.databases copy.source.word (conf.templates ∷ copy.dest.word ∷ []) root first) as (λ _. IsCopyEnd conf copy root) [
  | inl here ↦ subst (IsCopyEnd conf copy) (sym here.0) (inr (copy.source.place, refl, unknown_source conf copy here.1))
  | inr one ↦ elim (first_or_later conf.databases conf.templates (copy.dest.word ∷ []) one.0 one.3) as (λ _. IsCopyEnd conf copy root) [
    | inl here ↦ (let at : root ≡ 1 = omega arith in subst (IsCopyEnd conf copy) (sym at) (inl refl))
    | inr two ↦ elim (first_or_later conf.databases copy.dest.word [] two.0 two.3) as (λ _. IsCopyEnd conf copy root) [
      | inl here ↦ (let at : root ≡ 2 = omega arith in subst (IsCopyEnd conf copy) (sym at) (inr (copy.dest.place, refl, unknown_dest conf copy one.2 here.1)))
      | inr three ↦ absurd (none_first conf.databases three.0 three.3.before three.3.root three.3.after three.3.whole)
    ]
  ]
]

show_end_at : (conf : Configuration) (database : PlacedWord) (shown : Shown) (root : ℕ) → IsFirstUnknown conf.databases (database.word ∷ conf.templates ∷ []) root
    → IsUnresolvedFor (Show (Some database) shown) conf (unknown_end (Show (Some database) shown) root)
show_end_at conf database shown root first =
    elim (first_or_later conf.databases database.word (conf.templates ∷ []) root first) as (λ _. IsUnresolvedFor (Show (Some database) shown) conf (unknown_end (Show (Some database) shown) root)) [
      | inl here ↦ subst (λ r. IsUnresolvedFor (Show (Some database) shown) conf (unknown_end (Show (Some database) shown) r)) (sym here.0)
          (inr (database.place, refl, sym (unknown_then conf database [] here.1)))
      | inr one ↦ inl (ap (λ r. unknown_end (Show (Some database) shown) r) one.1 ∙ ap (λ (t : Bool). cond t (end.Usage database.place) end.OutOfMemory) (no_zero one.0))
    ]

unknown_ends : (used : Tool) (conf : Configuration) (root : ℕ) → IsFirstUnknown conf.databases (roots used conf) root → IsUnresolvedFor used conf (unknown_end used root)
unknown_ends (Communicate owner) conf root first = inl refl
unknown_ends (LoadTemplate owner paths) conf root first = inl refl
unknown_ends (Run owner frontend priority command) conf root first = inl refl
unknown_ends (Show None shown) conf root first = inl refl
unknown_ends (Show (Some database) shown) conf root first = show_end_at conf database shown root first
unknown_ends (CopyDb copy) conf root first = copy_end_at conf copy root first
unknown_ends (SetSelections verbose check unseen) conf root first = inl refl
unknown_ends GetSelections conf root first = inl refl
unknown_ends (Drill count) conf root first = inl refl
unknown_ends (Answer command) conf root first = inl refl

-- ---- roots that are known

-- the plans of a copy's source, of the templates and of its destination
abbrev CopyPlans : Configuration → CopyWords → List Plan → Type 0
CopyPlans conf copy plans = HasThree conf.nodes (databases_of (CopyDb copy) conf) plans copy.source.word conf.templates copy.dest.word

copy_plans : (conf : Configuration) (copy : CopyWords) (plans : List Plan) → HavePlans conf.nodes (databases_of (CopyDb copy) conf) plans (roots (CopyDb copy) conf) → CopyPlans conf copy plans
copy_plans conf copy plans have = three_plans conf.nodes (databases_of (CopyDb copy) conf) plans copy.source.word conf.templates copy.dest.word have

copy_wrong : (conf : Configuration) (copy : CopyWords) (plans : List Plan) → is_among conf.databases copy.source.word ≡ true → is_among conf.databases copy.dest.word ≡ true
    → CopyPlans conf copy plans → IsWrongWord (CopyDb copy) conf (overlap_in (CopyDb copy) plans)
copy_wrong conf copy plans source dest three =
    let apart : Bool = are_disjoint (shape three.first) (shape three.third) in
    subst (λ (first : Option ℕ). IsWrongCopy first conf copy (overlap_in (CopyDb copy) plans)) (sym (known_then conf copy.source (copy.dest ∷ []) source ∙ known_then conf copy.dest [] dest))
    (subst (λ (l : List Plan). IsWrongCopy None conf copy (overlap_in (CopyDb copy) l)) (sym three.plans_are)
    (elim apart as (λ t. apart ≡ t → IsWrongCopy None conf copy (cond t None (Some copy.dest.place))) [
      | true ↦ λ is. record { source = shape three.first; dest = shape three.third; source_is = three.first_is; dest_is = three.third_is; apart_is = is }
      | false ↦ λ is. (refl, record { source = shape three.first; dest = shape three.third; source_is = three.first_is; dest_is = three.third_is; apart_is = is })
    ] refl))

abbrev AreKnown : Tool → Configuration → Type 0
AreKnown used conf = AllByRecursion (λ name. is_among conf.databases name ≡ true) (roots used conf)

abbrev PlansIn : Tool → Configuration → List Plan → Type 0
PlansIn used conf plans = HavePlans conf.nodes (databases_of used conf) plans (roots used conf)

-- where all roots are known, only a destination may be wrong
wrong_is : (used : Tool) (conf : Configuration) (plans : List Plan) → AreKnown used conf → PlansIn used conf plans → IsWrongWord used conf (overlap_in used plans)
wrong_is (Communicate owner) conf plans known have = refl
wrong_is (LoadTemplate owner paths) conf plans known have = refl
wrong_is (Run owner frontend priority command) conf plans known have = refl
wrong_is (Show None shown) conf plans known have = refl
wrong_is (Show (Some database) shown) conf plans known have = sym (known_then conf database [] known.0)
wrong_is (CopyDb copy) conf plans known have = copy_wrong conf copy plans known.0 known.1.1.0 (copy_plans conf copy plans have)
wrong_is (SetSelections verbose check unseen) conf plans known have = refl
wrong_is GetSelections conf plans known have = refl
wrong_is (Drill count) conf plans known have = refl
wrong_is (Answer command) conf plans known have = refl

no_overlap : (b : Bool) (place : ℕ) → cond b None (Some place) ≡ None → b ≡ true
no_overlap true place none = refl
no_overlap false place none = absurd (cc)

copy_apart : (conf : Configuration) (copy : CopyWords) (plans : List Plan) → CopyPlans conf copy plans → overlap_in (CopyDb copy) plans ≡ None → AreApartIn (CopyDb copy) plans
copy_apart conf copy plans three none =
    subst (AreApartIn (CopyDb copy)) (sym three.plans_are)
    (no_overlap (are_disjoint (shape three.first) (shape three.third)) copy.dest.place (subst (λ (l : List Plan). overlap_in (CopyDb copy) l ≡ None) three.plans_are none))

apart_in : (used : Tool) (conf : Configuration) (plans : List Plan) → PlansIn used conf plans → overlap_in used plans ≡ None
    → (roots used conf ≡ conf.config ∷ conf.templates ∷ [] → AreDisjoint plans) → AreApartIn used plans
apart_in (Communicate owner) conf plans have none disjoint = disjoint refl
apart_in (LoadTemplate owner paths) conf plans have none disjoint = disjoint refl
apart_in (Run owner frontend priority command) conf plans have none disjoint = disjoint refl
apart_in (Show database shown) conf plans have none disjoint = tt
apart_in (CopyDb copy) conf plans have none disjoint = copy_apart conf copy plans (copy_plans conf copy plans have) none
apart_in (SetSelections verbose check unseen) conf plans have none disjoint = disjoint refl
apart_in GetSelections conf plans have none disjoint = disjoint refl
apart_in (Drill count) conf plans have none disjoint = disjoint refl
apart_in (Answer command) conf plans have none disjoint = disjoint refl

-- ---- a word is wrong in one way

one_apart : (conf : Configuration) (copy : CopyWords) (one other : Bool) → AreDisjointIn conf copy one → AreDisjointIn conf copy other → one ≡ other
one_apart conf copy one other first second =
    let specs : List LayerSpec = databases_of (CopyDb copy) conf in
    let source : first.source ≡ second.source = one_plan conf.nodes specs first.source second.source copy.source.word first.source_is second.source_is in
    let dest : first.dest ≡ second.dest = one_plan conf.nodes specs first.dest second.dest copy.dest.word first.dest_is second.dest_is in
    sym first.apart_is ∙ (λ i. are_disjoint (source i) (dest i)) ∙ second.apart_is

right_copy : (unknown : Option ℕ) (conf : Configuration) (copy : CopyWords) (word : ℕ) → IsWrongCopy unknown conf copy None → IsWrongCopy unknown conf copy (Some word) → ⊥
right_copy (Some place) conf copy word right wrong = cc
right_copy None conf copy word right wrong = let same : true ≡ false = one_apart conf copy true false right wrong.1 in cc

none_or_one : (found : Option ℕ) (word : ℕ) → None ≡ found → Some word ≡ found → ⊥
none_or_one found word none some = cc

not_one : (word : ℕ) → Some word ≡ None → ⊥
not_one word some = cc

-- where no word names a wrong database, none does
pub right_not_wrong : (used : Tool) (conf : Configuration) (word : ℕ) → IsWrongWord used conf None → IsWrongWord used conf (Some word) → ⊥
right_not_wrong (Communicate owner) conf word right wrong = not_one word wrong
right_not_wrong (LoadTemplate owner paths) conf word right wrong = not_one word wrong
right_not_wrong (Run owner frontend priority command) conf word right wrong = not_one word wrong
right_not_wrong (Show database shown) conf word right wrong = none_or_one (first_unknown conf (option_to_list database)) word right wrong
right_not_wrong (CopyDb copy) conf word right wrong = right_copy (first_unknown conf (copy.source ∷ copy.dest ∷ [])) conf copy word right wrong
right_not_wrong (SetSelections verbose check unseen) conf word right wrong = not_one word wrong
right_not_wrong GetSelections conf word right wrong = not_one word wrong
right_not_wrong (Drill count) conf word right wrong = not_one word wrong
right_not_wrong (Answer command) conf word right wrong = not_one word wrong

-- ---- all that resolving promises

module _ (used : Tool) (conf : Configuration) (all : List (List ℕ)) (are : all ≡ roots used conf) where
  plans : (resolved : Resolved) → IsResolved conf (roots used conf) (Ok resolved) → PlansIn used conf resolved.plans
  plans resolved answer = subst (λ (specs : List LayerSpec). HavePlans conf.nodes specs resolved.plans (roots used conf)) answer.1 answer.2

  -- all of it, where no word is wrong
  pub resolved_for : (resolved : Resolved) → IsSomeConfiguration conf → IsResolved conf all (Ok resolved) → AllByRecursion (λ plan. IsOver (shape plan) (length resolved.specs)) resolved.plans
      → AllByRecursion IsOnce resolved.plans → list_all (λ spec. is_some (driver_line_of conf.nodes spec.name)) resolved.specs ≡ true
      → (all ≡ conf.config ∷ conf.templates ∷ [] → AreDisjoint resolved.plans) → overlap_in used resolved.plans ≡ None → IsResolvedFor used conf resolved
  resolved_for resolved some resolves over once made disjoint none =
      let answer : IsResolved conf (roots used conf) (Ok resolved) = subst (λ names. IsResolved conf names (Ok resolved)) are resolves in
      record {
        specs_are = answer.1;
        plans_are = plans resolved answer;
        over = over;
        once = once;
        few = subst AreFew (sym answer.1) (few_reached some.0 conf (roots used conf) some.1);
        made = made;
        right = subst (IsWrongWord used conf) none (wrong_is used conf resolved.plans answer.0 (plans resolved answer));
        apart = apart_in used conf resolved.plans (plans resolved answer) none (λ e. disjoint (are ∙ e));
      }

  -- the destination is wrong
  pub wrong_dest : (resolved : Resolved) (word : ℕ) → IsResolved conf all (Ok resolved) → overlap_in used resolved.plans ≡ Some word → IsUnresolvedFor used conf (end.Usage word)
  wrong_dest resolved word resolves some =
      let answer : IsResolved conf (roots used conf) (Ok resolved) = subst (λ names. IsResolved conf names (Ok resolved)) are resolves in
      inr (word, refl, subst (IsWrongWord used conf) some (wrong_is used conf resolved.plans answer.0 (plans resolved answer)))

  -- a root is unknown
  pub unknown_root : (root : ℕ) (how : End) → how ≡ unknown_end used root → IsFirstUnknown conf.databases all root → IsUnresolvedFor used conf how
  unknown_root root how is first = subst (IsUnresolvedFor used conf) (sym is) (unknown_ends used conf root (subst (λ names. IsFirstUnknown conf.databases names root) are first))
