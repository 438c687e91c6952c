-- What the configuration of stanzas without faults is like.
use Rattle.std.proofs.Common.{◌≡◌, ℕ, Bool, true, false, cond, not, ◌&&◌, List, [], ◌∷◌, ◌++◌, map as each, Option, Some, None, refl, sym, ap, ◌∙◌, subst, append_assoc}
use Rattle.std.specs.Prelude.{codes, ◌||◌}
use Rattle.std.specs.List.{AllByRecursion, filter, flat_map, list_all, list_any}
use Rattle.std.specs.Option.{option_map_or}
use Rattle.std.specs.Str.{bytes_eq}
use Rattle.std.proofs.lemmas.Bool.{not-false, and_parts}
use Rattle.std.proofs.lemmas.Slice.Eq.{bytes_eq-Decides}
use Rattle.dc_conf.specs.declared.drivers.Driver.{Driver}
use Rattle.dc_conf.specs.declared.drivers.Driver.TheVariants.{File, DirTree, PackageDir, Pipe, Stack, Backup, Debug}
use Rattle.dc_conf.specs.declared.faults.Fault.{Fault}
use Rattle.dc_conf.specs.declared.faults.ConfKind.TheVariants.{NoName, NoConfig, NoTemplates, MissingField, Twice, UnknownDatabase, Cycle, SharedDatabase}
use Rattle.dc_conf.specs.declared.fields.Field.{Field}
use Rattle.dc_conf.specs.declared.nodes.Node.{Node}
use Rattle.dc_conf.specs.declared.spec.LayerSpec.{LayerSpec}
use Rattle.dc_conf.specs.Stanzas.{Stanza, field_at, first_line}
use Rattle.dc_conf.specs.Values.{names_in, rules_of}
use Rattle.dc_conf.specs.ConfFaults.{along, at_field, fault_if, missing, is_there, has_name, is_named, is_made, is_made_by, value_at, driver_in, lacks_field, form_by, node_of, nodes_of, naming_faults, one_faults, stack_faults, backup_faults, made_faults, unknown_database, shared_database, database_faults, head_faults, second_pass, third_pass, fourth_pass}
use Rattle.dc_conf.specs.Configuration.{Configuration, spec_of, configuration, is_spec_of, is_held, is_well_made, have_names_apart, are_apart, fits_sort, is_sound}
use Rattle.dc_conf.specs.Nodes.{repeats, is_among, is_node, names_of, named_in, leads_to, reaches, names_meet, two_meet}
use Rattle.dc_conf.proofs.CleanLemmas.{IsClean, no_fault, driver_is, sort_fits}
use Rattle.dc_conf.proofs.ApartLemmas.{there, Runs, runs_on, databases_apart}
use Rattle.dc_conf.proofs.NodeLemmas.{no_cycle}
use Rattle.dc_conf.proofs.RowLemmas.{one_named}
use Rattle.dc_conf.proofs.TestLemmas.{nil-append, neither, list_any-append}

-- ---- names

abbrev name : Stanza → List ℕ
name s = value_at (codes "name") s

abbrev HasName : Stanza → Type 0
HasName s = (field : Field) × (field_at (codes "name") s ≡ Some field)

named_is : (before : List Stanza) (s : Stanza) → IsClean before s → HasName s
named_is before s clean =
    there (field_at (codes "name") s) (not-false (is_there (codes "name") s) (no_fault (not (is_there (codes "name") s)) (first_line s) NoName clean.named))

all_named : (before ss : List Stanza) → Runs before ss → AllByRecursion HasName ss
all_named before [] run = tt
all_named before (s ∷ ss) run = let on = runs_on before ss s run in (named_is before s on.0, all_named (before ++ s ∷ []) ss on.1)

has_name_is : (s : Stanza) → HasName s → (n : List ℕ) → has_name n s ≡ bytes_eq (name s) n
has_name_is s has n =
    ap (λ r. option_map_or (λ (f : Field). bytes_eq f.value n) r false) has.1 ∙ sym (ap (λ r. bytes_eq (option_map_or (λ (f : Field). f.value) r []) n) has.1)

-- no earlier database has the name
alone_is : (before : List Stanza) (s : Stanza) → IsClean before s → is_named before (name s) ≡ false
alone_is before s clean =
    let has = named_is before s clean in
    ap (λ r. is_named before (option_map_or (λ (f : Field). f.value) r [])) has.1
    ∙ no_fault (is_named before has.0.value) has.0.line Twice
    (sym (ap (λ r. option_map_or (λ (f : Field). fault_if (is_named before f.value) f.line Twice) r []) has.1) ∙ clean.alone)

none_later : (e : Stanza) (before more ss : List Stanza) → HasName e → Runs (before ++ e ∷ more) ss → list_any (bytes_eq (name e)) (each name ss) ≡ false
none_later e before more [] has run = refl
none_later e before more (s ∷ ss) has run =
    let on = runs_on (before ++ e ∷ more) ss s run in
    let both = neither (list_any (has_name (name s)) before) (has_name (name s) e || list_any (has_name (name s)) more)
    (sym (list_any-append (has_name (name s)) before (e ∷ more)) ∙ alone_is (before ++ e ∷ more) s on.0) in
    let this : bytes_eq (name e) (name s) ≡ false = sym (has_name_is e has (name s)) ∙ (neither (has_name (name s) e) (list_any (has_name (name s)) more) both.1).0 in
    let others : list_any (bytes_eq (name e)) (each name ss) ≡ false =
    none_later e before (more ++ s ∷ []) ss has (subst (λ b. Runs b ss) (append_assoc before (e ∷ more) (s ∷ [])) on.1) in
    ap (λ t. t || list_any (bytes_eq (name e)) (each name ss)) this ∙ others

none_repeats : (before ss : List Stanza) → Runs before ss → repeats (each name ss) ≡ false
none_repeats before [] run = refl
none_repeats before (s ∷ ss) run =
    let on = runs_on before ss s run in
    ap (λ t. t || repeats (each name ss)) (none_later s before [] ss (named_is before s on.0) on.1) ∙ none_repeats (before ++ s ∷ []) ss on.1

any_name_kept : (p : List ℕ → Bool) (q : Stanza → Bool) (ss : List Stanza) → list_any p (each name ss) ≡ false
    → list_any p (each (λ spec. spec.name) (each spec_of (filter q ss))) ≡ false
any_name_kept p q [] e = refl
any_name_kept p q (s ∷ ss) e =
    let both = neither (p (name s)) (list_any p (each name ss)) e in
    let others = any_name_kept p q ss both.1 in
    elim (q s) as (λ t. list_any p (each (λ spec. spec.name) (each spec_of (cond t (s ∷ filter q ss) (filter q ss)))) ≡ false) [
      | true ↦ ap (λ t. t || list_any p (each (λ spec. spec.name) (each spec_of (filter q ss)))) both.0 ∙ others
      | false ↦ others
    ]

repeats_kept : (q : Stanza → Bool) (ss : List Stanza) → repeats (each name ss) ≡ false → repeats (each (λ spec. spec.name) (each spec_of (filter q ss))) ≡ false
repeats_kept q [] e = refl
repeats_kept q (s ∷ ss) e =
    let both = neither (list_any (bytes_eq (name s)) (each name ss)) (repeats (each name ss)) e in
    let others = repeats_kept q ss both.1 in
    elim (q s) as (λ t. repeats (each (λ spec. spec.name) (each spec_of (cond t (s ∷ filter q ss) (filter q ss)))) ≡ false) [
      | true ↦ ap (λ t. t || repeats (each (λ spec. spec.name) (each spec_of (filter q ss)))) (any_name_kept (bytes_eq (name s)) q ss both.0) ∙ others
      | false ↦ others
    ]

-- ---- sorts

all_fit : (before ss : List Stanza) → Runs before ss → list_all fits_sort (each spec_of (filter (λ stanza. not (is_made stanza)) ss)) ≡ true
all_fit before [] run = refl
all_fit before (s ∷ ss) run =
    let on = runs_on before ss s run in
    let others = all_fit (before ++ s ∷ []) ss on.1 in
    elim (is_made s) as (λ b. list_all fits_sort (each spec_of (cond (not b) (s ∷ filter (λ stanza. not (is_made stanza)) ss) (filter (λ stanza. not (is_made stanza)) ss))) ≡ true) [
      | true ↦ others
      | false ↦ ap (λ t. t && list_all fits_sort (each spec_of (filter (λ stanza. not (is_made stanza)) ss))) (sort_fits before s on.0) ∙ others
    ]

-- ---- databases and how they are made

each-append : {X Y : Type 0} (f : X → Y) (xs ys : List X) → each f (xs ++ ys) ≡ each f xs ++ each f ys
each-append f [] ys = refl
each-append f (x ∷ xs) ys = ap (λ zs. f x ∷ zs) (each-append f xs ys)

names_are : (ss : List Stanza) → names_of (nodes_of ss) ≡ each name ss
names_are [] = refl
names_are (s ∷ ss) = ap (λ ns. name s ∷ ns) (names_are ss)

-- no name stands twice
pub alone : (head : Stanza) (ss : List Stanza) → second_pass (head ∷ ss) ≡ [] → repeats (names_of (nodes_of ss)) ≡ false
alone head ss e = ap repeats (names_are ss) ∙ none_repeats [] ss (nil-append (head_faults head) (along database_faults [] ss) e).1

none_among : (p : List ℕ → Bool) (names : List (List ℕ)) (n : List ℕ) → list_any p names ≡ false → is_among names n ≡ true → p n ≡ false
none_among p [] n none is = absurd (cc)
none_among p (m ∷ names) n none is =
    let both = neither (p m) (list_any p names) none in
    elim (bytes_eq n m) as (λ t. bytes_eq n m ≡ t → (t || is_among names n) ≡ true → p n ≡ false) [
      | true ↦ λ same f. ap p ((bytes_eq-Decides n m).0 same) ∙ both.0
      | false ↦ λ same f. none_among p names n both.1 f
    ] refl is

all_there : (nodes : List Node) (names : List (List ℕ)) → list_any (λ n. not (is_node nodes n)) names ≡ false → list_all (is_node nodes) names ≡ true
all_there nodes [] none = refl
all_there nodes (n ∷ names) none =
    let both = neither (not (is_node nodes n)) (list_any (λ n. not (is_node nodes n)) names) none in
    λ i. not-false (is_node nodes n) both.0 i && all_there nodes names both.1 i

-- what the fields name is there and doesn't lead back, and no two meet
record IsNamed (nodes : List Node) (n : List ℕ) (names : List (List ℕ)) : Type 0 where
  there : list_any (λ other. not (is_node nodes other)) names ≡ false
  away : list_any (λ other. leads_to nodes other n) names ≡ false
  apart : two_meet nodes names ≡ false

naming_clean : (nodes : List Node) (n : List ℕ) (names : List (List ℕ)) (line : ℕ) → naming_faults nodes n names line ≡ []
    → (list_any (λ other. not (is_node nodes other)) names ≡ false) × (list_any (λ other. leads_to nodes other n) names ≡ false)
naming_clean nodes n names line e =
    let unknown : Bool = list_any (λ other. not (is_node nodes other)) names in
    let back : Bool = list_any (λ other. leads_to nodes other n) names in
    let parts = nil-append (fault_if unknown line UnknownDatabase) (fault_if back line Cycle) e in
    (no_fault unknown line UnknownDatabase parts.0, no_fault back line Cycle parts.1)

-- a field that the driver needs is there
needed_there : (key : List ℕ) (s : Stanza) → not (is_there key s) ≡ false → (field : Field) × (field_at key s ≡ Some field)
needed_there key s e = there (field_at key s) (not-false (is_there key s) e)

value_of : (key : List ℕ) (s : Stanza) (field : Field) → field_at key s ≡ Some field → value_at key s ≡ field.value
value_of key s field e = ap (λ r. option_map_or (λ (f : Field). f.value) r []) e

stack_named : (nodes : List Node) (s : Stanza) → lacks_field (rules_of (Some Stack)) s ≡ false → stack_faults nodes s ≡ []
    → IsNamed nodes (name s) (names_in (value_at (codes "stack") s))
stack_named nodes s lacks e =
    let found = needed_there (codes "stack") s (neither (not (is_there (codes "stack") s)) false lacks).0 in
    let names : List (List ℕ) = names_in found.0.value in
    let whole : naming_faults nodes (name s) names found.0.line ++ fault_if (two_meet nodes names) found.0.line SharedDatabase ≡ [] =
    sym (ap (λ r. option_map_or (λ (field : Field). naming_faults nodes (name s) (names_in field.value) field.line
    ++ fault_if (two_meet nodes (names_in field.value)) field.line SharedDatabase) r []) found.1) ∙ e in
    let parts = nil-append (naming_faults nodes (name s) names found.0.line) (fault_if (two_meet nodes names) found.0.line SharedDatabase) whole in
    let clean = naming_clean nodes (name s) names found.0.line parts.0 in
    subst (λ v. IsNamed nodes (name s) (names_in v)) (sym (value_of (codes "stack") s found.0 found.1))
    (record { there = clean.0; away = clean.1; apart = no_fault (two_meet nodes names) found.0.line SharedDatabase parts.1 })

one_named_there : (nodes : List Node) (key : List ℕ) (s : Stanza) → not (is_there key s) ≡ false → one_faults nodes key s ≡ []
    → (not (is_node nodes (value_at key s)) ≡ false) × (leads_to nodes (value_at key s) (name s) ≡ false)
one_named_there nodes key s has e =
    let found = needed_there key s has in
    let whole : naming_faults nodes (name s) (found.0.value ∷ []) found.0.line ≡ [] =
    sym (ap (λ r. option_map_or (λ (field : Field). naming_faults nodes (name s) (field.value ∷ []) field.line) r []) found.1) ∙ e in
    let clean = naming_clean nodes (name s) (found.0.value ∷ []) found.0.line whole in
    subst (λ v. (not (is_node nodes v) ≡ false) × (leads_to nodes v (name s) ≡ false)) (sym (value_of key s found.0 found.1))
    ((neither (not (is_node nodes found.0.value)) false clean.0).0, (neither (leads_to nodes found.0.value (name s)) false clean.1).0)

debug_named : (nodes : List Node) (s : Stanza) → lacks_field (rules_of (Some Debug)) s ≡ false → one_faults nodes (codes "db") s ≡ []
    → IsNamed nodes (name s) (value_at (codes "db") s ∷ [])
debug_named nodes s lacks e =
    let one = one_named_there nodes (codes "db") s (neither (not (is_there (codes "db") s)) false lacks).0 e in
    record { there = ap (λ b. b || false) one.0; away = ap (λ b. b || false) one.1; apart = refl }

backup_named : (nodes : List Node) (s : Stanza) → lacks_field (rules_of (Some Backup)) s ≡ false → backup_faults nodes s ≡ []
    → IsNamed nodes (name s) (value_at (codes "db") s ∷ value_at (codes "backupdb") s ∷ [])
backup_named nodes s lacks e =
    let db : List ℕ = value_at (codes "db") s in
    let first : List Fault = one_faults nodes (codes "db") s in
    let second : List Fault = one_faults nodes (codes "backupdb") s in
    let shared : List Fault = at_field (codes "backupdb") s (λ field. names_meet nodes db field.value) SharedDatabase in
    let have = neither (not (is_there (codes "db") s)) (not (is_there (codes "backupdb") s) || false) lacks in
    let has = (neither (not (is_there (codes "backupdb") s)) false have.1).0 in
    let two = nil-append (first ++ second) shared e in
    let one = nil-append first second two.0 in
    let a = one_named_there nodes (codes "db") s have.0 one.0 in
    let b = one_named_there nodes (codes "backupdb") s has one.1 in
    let found = needed_there (codes "backupdb") s has in
    let apart : names_meet nodes db (value_at (codes "backupdb") s) ≡ false =
    ap (names_meet nodes db) (value_of (codes "backupdb") s found.0 found.1)
    ∙ no_fault (names_meet nodes db found.0.value) found.0.line SharedDatabase
    (sym (ap (λ r. option_map_or (λ (field : Field). fault_if (names_meet nodes db field.value) field.line SharedDatabase) r []) found.1) ∙ two.1) in
    record {
      there = λ i. a.0 i || (b.0 i || false);
      away = λ i. a.1 i || (b.1 i || false);
      apart = λ i. (apart i || false) || (false || false);
    }

form_named : (nodes : List Node) (s : Stanza) (d : Driver) → lacks_field (rules_of (Some d)) s ≡ false → made_faults nodes (Some d) s ≡ []
    → IsNamed nodes (name s) (named_in (form_by (Some d) s))
form_named nodes s File lacks e = record { there = refl; away = refl; apart = refl }
form_named nodes s DirTree lacks e = record { there = refl; away = refl; apart = refl }
form_named nodes s PackageDir lacks e = record { there = refl; away = refl; apart = refl }
form_named nodes s Pipe lacks e = record { there = refl; away = refl; apart = refl }
form_named nodes s Stack lacks e = stack_named nodes s lacks e
form_named nodes s Backup lacks e = backup_named nodes s lacks e
form_named nodes s Debug lacks e = debug_named nodes s lacks e

database_named : (nodes : List Node) (before : List Stanza) (s : Stanza) → IsClean before s → made_faults nodes (driver_in s) s ≡ []
    → IsNamed nodes (name s) (named_in (node_of s).form)
database_named nodes before s clean e =
    let found = driver_is before s clean in
    subst (λ r. IsNamed nodes (name s) (named_in (form_by r s))) (sym found.1)
    (form_named nodes s found.0
    (subst (λ r. lacks_field (rules_of r) s ≡ false) found.1 (no_fault (lacks_field (rules_of (driver_in s)) s) (first_line s) MissingField clean.lacks))
    (subst (λ r. made_faults nodes r s ≡ []) found.1 e))

-- a database is made well
well_made : (before after : List Stanza) (s : Stanza) → repeats (names_of (nodes_of (before ++ s ∷ after))) ≡ false
    → IsNamed (nodes_of (before ++ s ∷ after)) (name s) (named_in (node_of s).form) → is_well_made (nodes_of (before ++ s ∷ after)) (node_of s) ≡ true
well_made before after s none named =
    let nodes : List Node = nodes_of (before ++ s ∷ after) in
    let names : List (List ℕ) = named_in (node_of s).form in
    let split : nodes ≡ nodes_of before ++ node_of s ∷ nodes_of after = each-append node_of before (s ∷ after) in
    let single : ((c : List ℕ) → list_any (λ m. bytes_eq (name s) m.name && is_among (named_in m.form) c) nodes ≡ is_among names c) =
    λ c. ap (list_any (λ m. bytes_eq (name s) m.name && is_among (named_in m.form) c)) split
    ∙ one_named nodes (λ m. is_among (named_in m.form) c) (nodes_of before) (nodes_of after) (node_of s) (sym (ap (λ ns. repeats (names_of ns)) split) ∙ none) in
    let away : reaches nodes (name s) (name s) ≡ false =
    no_cycle nodes (name s)
    (λ c e. none_among (λ other. leads_to nodes other (name s)) names c named.away
    (sym (single c) ∙ (and_parts (is_node nodes c) (list_any (λ m. bytes_eq (name s) m.name && is_among (named_in m.form) c) nodes) e).1)) in
    λ i. all_there nodes names named.there i && (not (away i) && not (named.apart i))

all_well_made : (all before some : List Stanza) → all ≡ before ++ some → repeats (names_of (nodes_of all)) ≡ false → Runs before some
    → flat_map (λ s. made_faults (nodes_of all) (driver_in s) s) some ≡ [] → list_all (is_well_made (nodes_of all)) (nodes_of some) ≡ true
all_well_made all before [] whole none run e = refl
all_well_made all before (s ∷ some) whole none run e =
    let on = runs_on before some s run in
    let parts = nil-append (made_faults (nodes_of all) (driver_in s) s) (flat_map (λ s. made_faults (nodes_of all) (driver_in s) s) some) e in
    let named : IsNamed (nodes_of all) (name s) (named_in (node_of s).form) = database_named (nodes_of all) before s on.0 parts.0 in
    let here : is_well_made (nodes_of all) (node_of s) ≡ true =
    ap (λ ss. is_well_made (nodes_of ss) (node_of s)) whole
    ∙ well_made before some s (sym (ap (λ ss. repeats (names_of (nodes_of ss))) whole) ∙ none)
    (subst (λ ss. IsNamed (nodes_of ss) (name s) (named_in (node_of s).form)) whole named) in
    λ i. here i && all_well_made all (before ++ s ∷ []) some (whole ∙ sym (append_assoc before (s ∷ []) some)) none on.1 parts.1 i

-- ---- what holds items

or_true : (a : Bool) → (a || true) ≡ true
or_true true = refl
or_true false = refl

abbrev holds_items : Stanza → Bool
holds_items stanza = not (is_made stanza)

spec_there : (before after : List Stanza) (s : Stanza) → is_made s ≡ false → is_spec_of (each spec_of (filter holds_items (before ++ s ∷ after))) (name s) ≡ true
spec_there [] after s off =
    ap (λ b. is_spec_of (each spec_of (cond (not b) (s ∷ filter holds_items after) (filter holds_items after))) (name s)) off
    ∙ ap (λ b. b || is_spec_of (each spec_of (filter holds_items after)) (name s)) ((bytes_eq-Decides (name s) (name s)).1 refl)
spec_there (m ∷ before) after s off =
    let rest : List Stanza = filter holds_items (before ++ s ∷ after) in
    let others : is_spec_of (each spec_of rest) (name s) ≡ true = spec_there before after s off in
    elim (is_made m) as (λ b. is_spec_of (each spec_of (cond (not b) (m ∷ rest) rest)) (name s) ≡ true) [
      | true ↦ others
      | false ↦ ap (λ b. bytes_eq (name m) (name s) || b) others ∙ or_true (bytes_eq (name m) (name s))
    ]

held_by : (specs : List LayerSpec) (r : Option Driver) (s : Stanza) → (is_made_by r ≡ false → is_spec_of specs (name s) ≡ true) → is_held specs (name s) (form_by r s) ≡ true
held_by specs None s h = h refl
held_by specs (Some File) s h = h refl
held_by specs (Some DirTree) s h = h refl
held_by specs (Some PackageDir) s h = h refl
held_by specs (Some Pipe) s h = h refl
held_by specs (Some Stack) s h = refl
held_by specs (Some Backup) s h = refl
held_by specs (Some Debug) s h = refl

all_held : (all before some : List Stanza) → all ≡ before ++ some
    → list_all (λ node. is_held (each spec_of (filter holds_items all)) node.name node.form) (nodes_of some) ≡ true
all_held all before [] whole = refl
all_held all before (s ∷ some) whole =
    let here : is_held (each spec_of (filter holds_items all)) (name s) (form_by (driver_in s) s) ≡ true =
    held_by (each spec_of (filter holds_items all)) (driver_in s) s
    (λ off. ap (λ ss. is_spec_of (each spec_of (filter holds_items ss)) (name s)) whole ∙ spec_there before some s off) in
    λ i. here i && all_held all (before ++ s ∷ []) some (whole ∙ sym (append_assoc before (s ∷ []) some)) i

-- ---- none is shared

not_shared : (head : Stanza) (nodes : List Node) → missing (codes "templates") head NoTemplates ≡ [] → shared_database nodes head ≡ []
    → names_meet nodes (value_at (codes "config") head) (value_at (codes "templates") head) ≡ false
not_shared head nodes has e =
    let config : List ℕ = value_at (codes "config") head in
    let field = needed_there (codes "templates") head (no_fault (not (is_there (codes "templates") head)) (first_line head) NoTemplates has) in
    ap (names_meet nodes config) (value_of (codes "templates") head field.0 field.1)
    ∙ no_fault (names_meet nodes config field.0.value) field.0.line SharedDatabase
    (sym (ap (λ r. option_map_or (λ (f : Field). fault_if (names_meet nodes config f.value) f.line SharedDatabase) r []) field.1) ∙ e)

-- ---- all of it

all_ten : (a b c d e f g h j k : Bool) → a ≡ true → b ≡ true → c ≡ true → d ≡ false → e ≡ true → f ≡ true → g ≡ true → h ≡ true → j ≡ true → k ≡ false
    → (a && (b && (c && (not d && (e && (f && (g && (h && (j && not k))))))))) ≡ true
all_ten a b c d e f g h j k p q r s t u v w x y = λ i. p i && (q i && (r i && (not (s i) && (t i && (u i && (v i && (w i && (x i && not (y i)))))))))

-- each name is that of a database
name_there : (before after : List Stanza) (s : Stanza) → is_node (nodes_of (before ++ s ∷ after)) (name s) ≡ true
name_there [] after s = ap (λ b. b || is_node (nodes_of after) (name s)) ((bytes_eq-Decides (name s) (name s)).1 refl)
name_there (m ∷ before) after s = ap (λ b. bytes_eq (name s) (name m) || b) (name_there before after s) ∙ or_true (bytes_eq (name s) (name m))

names_there : (all before some : List Stanza) → all ≡ before ++ some → list_all (is_node (nodes_of all)) (each name some) ≡ true
names_there all before [] whole = refl
names_there all before (s ∷ some) whole =
    λ i. (ap (λ ss. is_node (nodes_of ss) (name s)) whole ∙ name_there before some s) i
    && names_there all (before ++ s ∷ []) some (whole ∙ sym (append_assoc before (s ∷ []) some)) i

-- each name is one of the names
name_among : (before after : List (List ℕ)) (n : List ℕ) → is_among (before ++ n ∷ after) n ≡ true
name_among [] after n = ap (λ b. b || is_among after n) ((bytes_eq-Decides n n).1 refl)
name_among (m ∷ before) after n = ap (λ b. bytes_eq n m || b) (name_among before after n) ∙ or_true (bytes_eq n m)

names_among : (all before some : List (List ℕ)) → all ≡ before ++ some → list_all (is_among all) some ≡ true
names_among all before [] whole = refl
names_among all before (n ∷ some) whole =
    λ i. (ap (λ names. is_among names n) whole ∙ name_among before some n) i
    && names_among all (before ++ n ∷ []) some (whole ∙ sym (append_assoc before (n ∷ []) some)) i

-- so are those of the databases that hold items
specs_among : (p : List ℕ → Bool) (q : Stanza → Bool) (ss : List Stanza) → list_all p (each name ss) ≡ true
    → list_all (λ spec. p spec.name) (each spec_of (filter q ss)) ≡ true
specs_among p q [] e = refl
specs_among p q (s ∷ ss) e =
    let both = and_parts (p (name s)) (list_all p (each name ss)) e in
    let others = specs_among p q ss both.1 in
    elim (q s) as (λ t. list_all (λ spec. p spec.name) (each spec_of (cond t (s ∷ filter q ss) (filter q ss))) ≡ true) [
      | true ↦ (λ i. both.0 i && others i)
      | false ↦ others
    ]

absent : second_pass [] ≡ [] → ⊥
absent e = cc

pub sound : (stanzas : List Stanza) → second_pass stanzas ≡ [] → third_pass stanzas ≡ [] → fourth_pass stanzas ≡ [] → is_sound (configuration stanzas) ≡ true
sound [] second third fourth = absurd (absent second)
sound (head ∷ ss) second third fourth =
    let nodes : List Node = nodes_of ss in
    let conf : Configuration = configuration (head ∷ ss) in
    let parts = nil-append (head_faults head) (along database_faults [] ss) second in
    let made = nil-append (unknown_database (codes "config") head nodes ++ unknown_database (codes "templates") head nodes)
    (flat_map (λ s. made_faults nodes (driver_in s) s) ss) third in
    let head_is = nil-append (missing (codes "config") head NoConfig) (missing (codes "templates") head NoTemplates) parts.0 in
    let listed : list_all (is_among conf.databases) conf.databases ≡ true = names_among conf.databases [] conf.databases refl in
    all_ten (are_apart conf.specs) (have_names_apart conf.specs) (list_all fits_sort conf.specs) (repeats (names_of nodes)) (list_all (is_node nodes) conf.databases) (list_all (is_well_made nodes) nodes)
    (list_all (λ node. is_held conf.specs node.name node.form) nodes) (list_all (is_among conf.databases) (names_of nodes))
    (list_all (λ spec. is_among conf.databases spec.name) conf.specs)
    (names_meet nodes conf.config conf.templates)
    (databases_apart head ss second)
    (ap not (repeats_kept holds_items ss (none_repeats [] ss parts.1)))
    (all_fit [] ss parts.1)
    (alone head ss second)
    (names_there ss [] ss refl)
    (all_well_made ss [] ss refl (alone head ss second) parts.1 made.1)
    (all_held ss [] ss refl)
    (ap (list_all (is_among conf.databases)) (names_are ss) ∙ listed)
    (specs_among (is_among conf.databases) holds_items ss listed)
    (not_shared head nodes head_is.1 fourth)
