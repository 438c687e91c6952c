-- The places of databases without faults don't meet.
use Rattle.std.proofs.Common.{◌≡◌, Bool, true, false, cond, not, ◌&&◌, List, [], ◌∷◌, ◌++◌, map as each, ℕ, Option, Some, None, refl, sym, ap, ◌∙◌, subst, append_assoc}
use Rattle.std.specs.Prelude.{codes, ◌||◌, is_some}
use Rattle.std.specs.List.{AllByRecursion, filter, list_any}
use Rattle.std.specs.Option.{option_map_or}
use Rattle.std.proofs.lemmas.Bool.{not-false, not-true, and_parts}
use Rattle.dc_conf.specs.declared.drivers.Driver.{Driver}
use Rattle.dc_conf.specs.declared.drivers.Driver.TheVariants.{File, DirTree, PackageDir, Pipe, Stack, Backup, Debug}
use Rattle.dc_conf.specs.declared.faults.ConfKind.TheVariants.{MissingField, SamePlace}
use Rattle.dc_conf.specs.declared.fields.Field.{Field}
use Rattle.dc_conf.specs.declared.spec.LayerSort.TheVariants as sort
use Rattle.dc_conf.specs.declared.spec.LayerSpec.{LayerSpec}
use Rattle.dc_conf.specs.Stanzas.{Stanza, field_at, first_line}
use Rattle.dc_conf.specs.Values.{rules_of}
use Rattle.dc_conf.specs.ConfFaults.{along, fault_if, is_there, is_made_by, is_made, lacks_field, driver_in, place_by, place_in, sort_by, sort_in, place_of, paths_at, paths_in, meet, share_place, database_faults, head_faults, second_pass}
use Rattle.dc_conf.specs.Configuration.{spec_of, configuration, places_meet, are_apart}
use Rattle.dc_conf.proofs.CleanLemmas.{IsClean, no_fault, clean_database, driver_is}
use Rattle.dc_conf.proofs.TestLemmas.{nil-append, neither, list_any-append}

-- none passes of some that are kept
pub any_kept : {X : Type 0} (p q : X → Bool) (specs : List X) → list_any p specs ≡ false → list_any p (filter q specs) ≡ false
any_kept p q [] e = refl
any_kept p q (spec ∷ specs) e =
    let both = neither (p spec) (list_any p specs) e in
    elim (q spec) as (λ t. list_any p (cond t (spec ∷ filter q specs) (filter q specs)) ≡ false) [
      | true ↦ ap (λ t. t || list_any p (filter q specs)) both.0 ∙ any_kept p q specs both.1
      | false ↦ any_kept p q specs both.1
    ]

-- ---- the place of a database

pub there : (r : Option Field) → option_map_or (λ field. true) r false ≡ true → (field : Field) × (r ≡ Some field)
there None e = absurd (cc)
there (Some field) e = (field, refl)

field_there : (key : List ℕ) (s : Stanza) → (not (is_there key s) || false) ≡ false → is_some (field_at key s) ≡ true
field_there key s e = ap is_some (there (field_at key s) (not-false (is_there key s) (neither (not (is_there key s)) false e).0)).1

paths_there : (s : Stanza) (place : List ℕ) (d : Driver) → is_made_by (Some d) ≡ false → lacks_field (rules_of (Some d)) s ≡ false
    → cond (is_some (place_by (Some d) s)) (paths_at (sort_by (Some d)) place) [] ≡ paths_at (sort_by (Some d)) place
paths_there s place File off lacks = ap (λ b. cond b (paths_at sort.File place) []) (field_there (codes "filename") s lacks)
paths_there s place DirTree off lacks = ap (λ b. cond b (paths_at sort.Tree place) []) (field_there (codes "directory") s lacks)
paths_there s place PackageDir off lacks = ap (λ b. cond b (paths_at sort.Pack place) []) (field_there (codes "directory") s lacks)
paths_there s place Pipe off lacks = refl
paths_there s place Stack off lacks = absurd (cc)
paths_there s place Backup off lacks = absurd (cc)
paths_there s place Debug off lacks = absurd (cc)

-- the paths of a database that isn't made of others are those of its place
abbrev HasPaths : Stanza → Type 0
HasPaths s = is_made s ≡ false → paths_in s ≡ paths_at (sort_in s) (place_of s)

has_paths : (before : List Stanza) (s : Stanza) → IsClean before s → HasPaths s
has_paths before s clean off =
    let found = driver_is before s clean in
    let lacks : lacks_field (rules_of (Some found.0)) s ≡ false =
    subst (λ r. lacks_field (rules_of r) s ≡ false) found.1 (no_fault (lacks_field (rules_of (driver_in s)) s) (first_line s) MissingField clean.lacks) in
    subst (λ r. cond (is_some (place_by r s)) (paths_at (sort_by r) (place_of s)) [] ≡ paths_at (sort_by r) (place_of s)) (sym found.1)
    (paths_there s (place_of s) found.0 (sym (ap is_made_by found.1) ∙ off) lacks)

any_none : {X : Type 0} (p : X → Bool) → ((x : X) → p x ≡ false) → (xs : List X) → list_any p xs ≡ false
any_none p none [] = refl
any_none p none (x ∷ xs) = ap (λ t. t || list_any p xs) (none x) ∙ any_none p none xs

-- one that is kept in no place meets none
no_share : (before : List Stanza) (s : Stanza) → place_in s ≡ None → list_any (λ earlier. share_place earlier s) before ≡ false
no_share before s none =
    let nowhere : paths_in s ≡ [] = ap (λ r. cond (is_some r) (paths_at (sort_in s) (place_of s)) []) none in
    any_none (λ earlier. share_place earlier s)
    (λ earlier. ap (λ (paths : List (List ℕ)). list_any (λ path. list_any (meet path) paths) (paths_in earlier)) nowhere ∙ any_none (λ path. false) (λ path. refl) (paths_in earlier))
    before

-- no earlier database is kept there
none_here : (before : List Stanza) (s : Stanza) → IsClean before s → list_any (λ earlier. share_place earlier s) before ≡ false
none_here before s clean =
    let is : Bool = list_any (λ earlier. share_place earlier s) before in
    elim (place_in s) as (λ r. place_in s ≡ r → option_map_or (λ (field : Field). fault_if is field.line SamePlace) r [] ≡ [] → is ≡ false) [
      | None ↦ λ none e. no_share before s none
      | Some field ↦ λ some e. no_fault is field.line SamePlace e
    ] refl clean.apart

-- ---- two databases

abbrev pub Runs : List Stanza → List Stanza → Type 0
Runs before ss = along database_faults before ss ≡ []

pub runs_on : (before ss : List Stanza) (s : Stanza) → Runs before (s ∷ ss) → IsClean before s × Runs (before ++ s ∷ []) ss
runs_on before ss s e =
    let parts = nil-append (database_faults before s) (along database_faults (before ++ s ∷ []) ss) e in
    (clean_database before s parts.0, parts.1)

none_later : (e : Stanza) (before more ss : List Stanza) → Runs (before ++ e ∷ more) ss → list_any (share_place e) ss ≡ false
none_later e before more [] run = refl
none_later e before more (s ∷ ss) run =
    let on = runs_on (before ++ e ∷ more) ss s run in
    let here : list_any (λ earlier. share_place earlier s) (before ++ e ∷ more) ≡ false = none_here (before ++ e ∷ more) s on.0 in
    let both = neither (list_any (λ earlier. share_place earlier s) before) (share_place e s || list_any (λ earlier. share_place earlier s) more)
    (sym (list_any-append (λ earlier. share_place earlier s) before (e ∷ more)) ∙ here) in
    let this : share_place e s ≡ false = (neither (share_place e s) (list_any (λ earlier. share_place earlier s) more) both.1).0 in
    let others : list_any (share_place e) ss ≡ false = none_later e before (more ++ s ∷ []) ss (subst (λ b. Runs b ss) (append_assoc before (e ∷ more) (s ∷ [])) on.1) in
    ap (λ t. t || list_any (share_place e) ss) this ∙ others

all_placed : (before ss : List Stanza) → Runs before ss → AllByRecursion HasPaths ss
all_placed before [] run = tt
all_placed before (s ∷ ss) run = let on = runs_on before ss s run in (has_paths before s on.0, all_placed (before ++ s ∷ []) ss on.1)

same_meetings : (s : Stanza) (ss : List Stanza) → is_made s ≡ false → HasPaths s → AllByRecursion HasPaths ss
    → list_any (places_meet (spec_of s)) (each spec_of (filter (λ stanza. not (is_made stanza)) ss)) ≡ list_any (share_place s) (filter (λ stanza. not (is_made stanza)) ss)
same_meetings s [] off own all = refl
same_meetings s (t ∷ ss) off own all =
    elim (is_made t) as (λ b. is_made t ≡ b
    → list_any (places_meet (spec_of s)) (each spec_of (cond (not b) (t ∷ filter (λ stanza. not (is_made stanza)) ss) (filter (λ stanza. not (is_made stanza)) ss)))
    ≡ list_any (share_place s) (cond (not b) (t ∷ filter (λ stanza. not (is_made stanza)) ss) (filter (λ stanza. not (is_made stanza)) ss))) [
      | true ↦ λ is. same_meetings s ss off own all.1
      | false ↦ λ is. λ i. list_any (λ path. list_any (meet path) (sym (all.0 is) i)) (sym (own off) i) || same_meetings s ss off own all.1 i
    ] refl

apart_along : (before ss : List Stanza) → Runs before ss → are_apart (each spec_of (filter (λ stanza. not (is_made stanza)) ss)) ≡ true
apart_along before [] run = refl
apart_along before (s ∷ ss) run =
    let on = runs_on before ss s run in
    let others : are_apart (each spec_of (filter (λ stanza. not (is_made stanza)) ss)) ≡ true = apart_along (before ++ s ∷ []) ss on.1 in
    elim (is_made s) as (λ b. is_made s ≡ b → are_apart (each spec_of (cond (not b) (s ∷ filter (λ stanza. not (is_made stanza)) ss) (filter (λ stanza. not (is_made stanza)) ss))) ≡ true) [
      | true ↦ λ is. others
      | false ↦ λ is.
          let none : list_any (places_meet (spec_of s)) (each spec_of (filter (λ stanza. not (is_made stanza)) ss)) ≡ false =
          same_meetings s ss is (has_paths before s on.0) (all_placed (before ++ s ∷ []) ss on.1)
          ∙ any_kept (share_place s) (λ stanza. not (is_made stanza)) ss (none_later s before [] ss on.1) in
          ap (λ t. not t && are_apart (each spec_of (filter (λ stanza. not (is_made stanza)) ss))) none ∙ others
    ] refl

pub databases_apart : (head : Stanza) (ss : List Stanza) → second_pass (head ∷ ss) ≡ [] → are_apart (configuration (head ∷ ss)).specs ≡ true
databases_apart head ss e = apart_along [] ss (nil-append (head_faults head) (along database_faults [] ss) e).1

-- ---- some of the databases

pub apart_kept : (q : LayerSpec → Bool) (specs : List LayerSpec) → are_apart specs ≡ true → are_apart (filter q specs) ≡ true
apart_kept q [] e = refl
apart_kept q (spec ∷ specs) e =
    let both = and_parts (not (list_any (places_meet spec) specs)) (are_apart specs) e in
    let none : list_any (places_meet spec) specs ≡ false = not-true (list_any (places_meet spec) specs) both.0 in
    elim (q spec) as (λ t. are_apart (cond t (spec ∷ filter q specs) (filter q specs)) ≡ true) [
      | true ↦ ap (λ t. not t && are_apart (filter q specs)) (any_kept (places_meet spec) q specs none) ∙ apart_kept q specs both.1
      | false ↦ apart_kept q specs both.1
    ]
