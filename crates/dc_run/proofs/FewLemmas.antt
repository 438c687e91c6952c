-- What a configuration without faults keeps: at most sixteen databases of each sort that is kept in files, and one pipe.
use Rattle.std.proofs.Common.{◌≡◌, ℕ, ◌+◌, ◌<◌, ◌≤◌, Bool, true, false, cond, not, ◌&&◌, List, [], ◌∷◌, ◌++◌, append_assoc, map as each, length, Option, Some, None, refl, sym, ap, subst, ◌∙◌, arith}
use Rattle.std.specs.Prelude.{nat_le, Ok, codes}
use Rattle.std.specs.List.{AllByRecursion, filter, list_any}
use Rattle.std.proofs.lemmas.Bool.{and_parts, not-true}
use Rattle.std.proofs.lemmas.Bool.Decides.{nat_tests}
use Rattle.std.proofs.lemmas.List.{append-nil}
use Rattle.std.proofs.lemmas.List.Sums.{sum_by-cons}
use Rattle.dc_conf.specs.declared.drivers.Driver.{Driver}
use Rattle.dc_conf.specs.declared.drivers.Driver.TheVariants.{File, DirTree, PackageDir, Pipe, Stack, Backup, Debug}
use Rattle.dc_conf.specs.declared.faults.Fault.{Fault}
use Rattle.dc_conf.specs.declared.faults.ConfKind.TheVariants.{TooMany, NoName, NoDriver, MissingField}
use Rattle.dc_conf.specs.declared.spec.LayerSort.{LayerSort}
use Rattle.dc_conf.specs.declared.spec.LayerSort.TheVariants as sort
use Rattle.dc_conf.specs.declared.spec.LayerSpec.{LayerSpec}
use Rattle.dc_conf.specs.Stanzas.{Stanza, stanzas, fields_of, first_line}
use Rattle.dc_conf.specs.ConfFaults.{fault_if, along, missing, lacks_field, rules_in, unknown_driver, bad_values, driver_in, sort_by, sort_in, is_made_by, is_made, keep_alike, kept_alike, most_alike, is_too_many, repeated_name, same_place, lone_faults, database_faults, head_faults, second_pass}
use Rattle.dc_conf.specs.Configuration.{Configuration, IsAnswer, configuration, spec_of, reached}
use Rattle.dc_conf.specs.Nodes.{leads_to}
use Rattle.dc_conf.proofs.CleanLemmas.{IsClean, clean_database, driver_is, no_fault}
use Rattle.dc_conf.proofs.TestLemmas.{neither, nil-append}
use Rattle.dc_shelf.specs.Shelves.{count_of, is_sort}
use Rattle.dc_run.specs.Inside.{AreFew}

-- ---- how many are of a sort

-- how many databases of stanzas are of the sort
abbrev held : LayerSort → List Stanza → ℕ
held of stanzas = count_of of (each spec_of (filter (λ s. not (is_made s)) stanzas))

abbrev one_where : Bool → ℕ
one_where is = cond is 1 0

-- the database of the stanza is of the sort
abbrev is_of : LayerSort → Stanza → Bool
is_of of s = not (is_made s) && is_sort of (sort_in s)

counted : (of : LayerSort) (spec : LayerSpec) (specs : List LayerSpec) → count_of of (spec ∷ specs) ≡ one_where (is_sort of spec.sort) + count_of of specs
counted of spec specs = sum_by-cons (λ (s : LayerSpec). cond (is_sort of s.sort) 1 0) spec specs

held_cons : (of : LayerSort) (s : Stanza) (ss : List Stanza) → held of (s ∷ ss) ≡ one_where (is_of of s) + held of ss
held_cons of s ss =
    elim (is_made s) as (λ t. count_of of (each spec_of (cond (not t) (s ∷ filter (λ o. not (is_made o)) ss) (filter (λ o. not (is_made o)) ss))) ≡ one_where (not t && is_sort of (sort_in s)) + held of ss) [
      | true ↦ omega arith
      | false ↦ counted of (spec_of s) (each spec_of (filter (λ o. not (is_made o)) ss))
    ]

held_none : (of : LayerSort) → held of [] ≡ 0
held_none of = refl

held_last : (of : LayerSort) (before : List Stanza) (s : Stanza) → held of (before ++ s ∷ []) ≡ held of before + one_where (is_of of s)
held_last of [] s = let one = held_cons of s [] in let none = held_none of in omega (arith, one, none)
held_last of (b ∷ before) s =
    let first = held_cons of b (before ++ s ∷ []) in
    let rest = held_last of before s in
    let same = held_cons of b before in
    omega (arith, first, rest, same)

-- ---- those that keep items alike

abbrev HasDriver : Stanza → Type 0
HasDriver s = (d : Driver) × (driver_in s ≡ Some d)

alike_by : (d e : Driver) → is_made_by (Some d) ≡ false → keep_alike (Some e) (Some d) ≡ (not (is_made_by (Some e)) && is_sort (sort_by (Some d)) (sort_by (Some e)))
alike_by File File off = refl
alike_by File DirTree off = refl
alike_by File PackageDir off = refl
alike_by File Pipe off = refl
alike_by File Stack off = refl
alike_by File Backup off = refl
alike_by File Debug off = refl
alike_by DirTree File off = refl
alike_by DirTree DirTree off = refl
alike_by DirTree PackageDir off = refl
alike_by DirTree Pipe off = refl
alike_by DirTree Stack off = refl
alike_by DirTree Backup off = refl
alike_by DirTree Debug off = refl
alike_by PackageDir File off = refl
alike_by PackageDir DirTree off = refl
alike_by PackageDir PackageDir off = refl
alike_by PackageDir Pipe off = refl
alike_by PackageDir Stack off = refl
alike_by PackageDir Backup off = refl
alike_by PackageDir Debug off = refl
alike_by Pipe File off = refl
alike_by Pipe DirTree off = refl
alike_by Pipe PackageDir off = refl
alike_by Pipe Pipe off = refl
alike_by Pipe Stack off = refl
alike_by Pipe Backup off = refl
alike_by Pipe Debug off = refl
alike_by Stack e off = absurd (cc)
alike_by Backup e off = absurd (cc)
alike_by Debug e off = absurd (cc)

length_kept : {X : Type 0} (is : Bool) (x : X) (xs : List X) → length (cond is (x ∷ xs) xs) ≡ one_where is + length xs
length_kept true x xs = omega arith
length_kept false x xs = omega arith

-- those that this driver keeps are those of its sort
kept_held : (d : Driver) → is_made_by (Some d) ≡ false → (ss : List Stanza) → AllByRecursion HasDriver ss
    → length (filter (λ other. keep_alike (driver_in other) (Some d)) ss) ≡ held (sort_by (Some d)) ss
kept_held d off [] all = refl
kept_held d off (s ∷ ss) all =
    let alike : keep_alike (driver_in s) (Some d) ≡ is_of (sort_by (Some d)) s =
    subst (λ r. keep_alike r (Some d) ≡ (not (is_made_by r) && is_sort (sort_by (Some d)) (sort_by r))) (sym all.0.1) (alike_by d all.0.0 off) in
    let first = length_kept (keep_alike (driver_in s) (Some d)) s (filter (λ other. keep_alike (driver_in other) (Some d)) ss) in
    let rest = kept_held d off ss all.1 in
    let same : one_where (keep_alike (driver_in s) (Some d)) ≡ one_where (is_of (sort_by (Some d)) s) = ap one_where alike in
    let here = held_cons (sort_by (Some d)) s ss in
    omega (arith, first, rest, same, here)

alike_held : (before : List Stanza) (s : Stanza) → is_made s ≡ false → HasDriver s → AllByRecursion HasDriver before → length (kept_alike before s) ≡ held (sort_in s) before
alike_held before s off has all =
    subst (λ r. length (filter (λ other. keep_alike (driver_in other) r) before) ≡ held (sort_by r) before) (sym has.1)
    (kept_held has.0 (sym (ap is_made_by has.1) ∙ off) before all)

one_sort : (a b : LayerSort) → is_sort a b ≡ true → b ≡ a
one_sort sort.File sort.File is = refl
one_sort sort.File sort.Tree is = absurd (cc)
one_sort sort.File sort.Pack is = absurd (cc)
one_sort sort.File sort.Pipe is = absurd (cc)
one_sort sort.Tree sort.File is = absurd (cc)
one_sort sort.Tree sort.Tree is = refl
one_sort sort.Tree sort.Pack is = absurd (cc)
one_sort sort.Tree sort.Pipe is = absurd (cc)
one_sort sort.Pack sort.File is = absurd (cc)
one_sort sort.Pack sort.Tree is = absurd (cc)
one_sort sort.Pack sort.Pack is = refl
one_sort sort.Pack sort.Pipe is = absurd (cc)
one_sort sort.Pipe sort.File is = absurd (cc)
one_sort sort.Pipe sort.Tree is = absurd (cc)
one_sort sort.Pipe sort.Pack is = absurd (cc)
one_sort sort.Pipe sort.Pipe is = refl

-- so many databases of a sort there may be
abbrev most : LayerSort → ℕ
most sort.Pipe = 1
most _ = 16

most_same : (driver : Option Driver) → most_alike driver ≡ most (sort_by driver)
most_same None = refl
most_same (Some File) = refl
most_same (Some DirTree) = refl
most_same (Some PackageDir) = refl
most_same (Some Pipe) = refl
most_same (Some Stack) = refl
most_same (Some Backup) = refl
most_same (Some Debug) = refl

-- ---- databases without faults

is_less : (bound count : ℕ) → nat_le bound count ≡ false → count < bound
is_less bound count is = grind (arith, nat_tests)

-- a database without faults stands behind fewer others that keep items as it does than there may be
fewer_before : (before : List Stanza) (s : Stanza) → database_faults before s ≡ [] → length (kept_alike before s) < most (sort_in s)
fewer_before before s e =
    let many : List Fault = fault_if (is_too_many before s) (first_line s) TooMany in
    let unnamed : List Fault = missing (codes "name") s NoName in
    let undriven : List Fault = missing (codes "driver") s NoDriver in
    let lacking : List Fault = fault_if (lacks_field (rules_in s) s) (first_line s) MissingField in
    let all = nil-append (lone_faults (is_too_many before s) s ++ repeated_name before s) (same_place before s) e in
    let lone = nil-append (lone_faults (is_too_many before s) s) (repeated_name before s) all.0 in
    let five = nil-append (many ++ unnamed ++ undriven ++ lacking ++ unknown_driver s) (bad_values s) lone.0 in
    let four = nil-append (many ++ unnamed ++ undriven ++ lacking) (unknown_driver s) five.0 in
    let three = nil-append (many ++ unnamed ++ undriven) lacking four.0 in
    let two = nil-append (many ++ unnamed) undriven three.0 in
    let one = nil-append many unnamed two.0 in
    let few = neither (nat_le 256 (length before)) (nat_le (most_alike (driver_in s)) (length (kept_alike before s))) (no_fault (is_too_many before s) (first_line s) TooMany one.0) in
    subst (λ n. length (kept_alike before s) < n) (most_same (driver_in s)) (is_less (most_alike (driver_in s)) (length (kept_alike before s)) few.1)

-- no more are of a sort than there may be
abbrev AreFewIn : List Stanza → Type 0
AreFewIn ss = (of : LayerSort) → held of ss ≤ most of

one_more : (before : List Stanza) (s : Stanza) → AllByRecursion HasDriver before → HasDriver s → AreFewIn before → length (kept_alike before s) < most (sort_in s) → AreFewIn (before ++ s ∷ [])
one_more before s all has few fewer of =
    let last = held_last of before s in
    let so_far = few of in
    elim (is_of of s) as (λ t. is_of of s ≡ t → held of (before ++ s ∷ []) ≡ held of before + one_where t → held of (before ++ s ∷ []) ≤ most of) [
      | true ↦ λ is count.
          let parts = and_parts (not (is_made s)) (is_sort of (sort_in s)) is in
          let alike = alike_held before s (not-true (is_made s) parts.0) has all in
          let same = one_sort of (sort_in s) parts.1 in
          let here : length (kept_alike before s) ≡ held of before = alike ∙ ap (λ o. held o before) same in
          let under : length (kept_alike before s) < most of = subst (λ o. length (kept_alike before s) < most o) same fewer in
          omega (arith, count, here, under)
      | false ↦ λ is count. omega (arith, count, so_far)
    ] refl last

and_last : {X : Type 0} (P : X → Type 0) (xs : List X) (x : X) → AllByRecursion P xs → P x → AllByRecursion P (xs ++ x ∷ [])
and_last P [] x all is = (is, tt)
and_last P (y ∷ xs) x all is = (all.0, and_last P xs x all.1 is)

few_along : (before databases : List Stanza) → AllByRecursion HasDriver before → AreFewIn before → along database_faults before databases ≡ [] → AreFewIn (before ++ databases)
few_along before [] all few none = subst AreFewIn (sym (append-nil before)) few
few_along before (s ∷ databases) all few none =
    let parts = nil-append (database_faults before s) (along database_faults (before ++ s ∷ []) databases) none in
    let clean : IsClean before s = clean_database before s parts.0 in
    let has : HasDriver s = driver_is before s clean in
    subst AreFewIn (append_assoc before (s ∷ []) databases)
    (few_along (before ++ s ∷ []) databases (and_last HasDriver before s all has) (one_more before s all has few (fewer_before before s parts.0)) parts.1)

none_held : AreFewIn []
none_held of = let none = held_none of in omega (arith, none)

few_specs : (all : List Stanza) → second_pass all ≡ [] → (of : LayerSort) → count_of of (configuration all).specs ≤ most of
few_specs [] none of = none_held of
few_specs (head ∷ databases) none of =
    let parts = nil-append (head_faults head) (along database_faults [] databases) none in
    few_along [] databases tt none_held parts.1 of

-- ---- those that are reached

kept_less : (of : LayerSort) (p : LayerSpec → Bool) (specs : List LayerSpec) → count_of of (filter p specs) ≤ count_of of specs
kept_less of p [] = omega arith
kept_less of p (spec ∷ specs) =
    let less = kept_less of p specs in
    let all = counted of spec specs in
    elim (p spec) as (λ t. count_of of (cond t (spec ∷ filter p specs) (filter p specs)) ≤ count_of of (spec ∷ specs)) [
      | true ↦ (let kept = counted of spec (filter p specs) in omega (arith, less, all, kept))
      | false ↦ omega (arith, less, all)
    ]

few_of : (text : List ℕ) (conf : Configuration) (roots : List (List ℕ)) → IsAnswer text (Ok conf) → (of : LayerSort) → count_of of (reached conf roots) ≤ most of
few_of text conf roots answer of =
    let few : count_of of (configuration (each fields_of (stanzas text))).specs ≤ most of = few_specs (each fields_of (stanzas text)) answer.0.1.0 of in
    let all : count_of of conf.specs ≤ most of = subst (λ (c : Configuration). count_of of c.specs ≤ most of) (sym answer.1) few in
    let kept = kept_less of (λ spec. list_any (λ root. leads_to conf.nodes root spec.name) roots) conf.specs in
    omega (arith, all, kept)

-- so few are reached
pub few_reached : (text : List ℕ) (conf : Configuration) (roots : List (List ℕ)) → IsAnswer text (Ok conf) → AreFew (reached conf roots)
few_reached text conf roots answer = record { files = few_of text conf roots answer sort.File; trees = few_of text conf roots answer sort.Tree; packs = few_of text conf roots answer sort.Pack; pipes = few_of text conf roots answer sort.Pipe }
