-- What stanzas without faults have.
use Rattle.std.proofs.Common.{◌≡◌, ℕ, Bool, true, false, cond, not, List, [], ◌∷◌, ◌++◌, Option, Some, None, refl, sym, ap, ◌∙◌, subst}
use Rattle.std.specs.Prelude.{codes, ◌&&◌, ◌||◌}
use Rattle.std.specs.List.{AllByRecursion, find, flat_map, list_any}
use Rattle.std.specs.Option.{option_map_or}
use Rattle.std.specs.Str.{bytes_eq}
use Rattle.std.proofs.lemmas.Bool.{not-false}
use Rattle.std.proofs.lemmas.Slice.Eq.{bytes_eq-Decides}
use Rattle.dc_conf.specs.declared.drivers.Driver.{Driver}
use Rattle.dc_conf.specs.declared.drivers.Driver.TheVariants.{File, DirTree, PackageDir, Pipe, Stack, Backup, Debug}
use Rattle.dc_conf.specs.declared.faults.Fault.{Fault}
use Rattle.dc_conf.specs.declared.faults.ConfKind.{ConfKind}
use Rattle.dc_conf.specs.declared.faults.ConfKind.TheVariants.{TooMany, NoName, NoDriver, UnknownDriver, MissingField, BadValue}
use Rattle.dc_conf.specs.declared.fields.Field.{Field}
use Rattle.dc_conf.specs.declared.spec.LayerSort.{LayerSort}
use Rattle.dc_conf.specs.declared.spec.LayerSort.TheVariants as sort
use Rattle.dc_conf.specs.Stanzas.{Stanza, field_at, first_line}
use Rattle.dc_conf.specs.Values.{is_extension, is_mode, driver_of, rules_of}
use Rattle.dc_conf.specs.Configuration.{spec_of, mode_by, extension_by, takes_extension, takes_mode, fits_sort}
use Rattle.dc_conf.specs.ConfFaults.{fault_if, along, missing, lacks_field, rules_in, is_bad, unknown_driver, bad_values, driver_in, sort_by, sort_in, is_made_by, repeated_name, same_place, is_too_many, lone_faults, database_faults, head_faults, second_pass}
use Rattle.dc_conf.specs.Machine.{TakesMode, HasMode, AreModes}
use Rattle.dc_conf.proofs.TestLemmas.{nil-append, find_all, neither}

pub no_fault : (b : Bool) (n : ℕ) (kind : ConfKind) → fault_if b n kind ≡ [] → b ≡ false
no_fault true n kind e = absurd (cc)
no_fault false n kind e = refl

pub find_passes : {X : Type 0} (p : X → Bool) (xs : List X) (x : X) → find p xs ≡ Some x → p x ≡ true
find_passes p [] x e = absurd (cc)
find_passes {X} p (y ∷ xs) x e =
    elim (p y) as (λ t. p y ≡ t → cond t (Some y) (find p xs) ≡ Some x → p x ≡ true) [
      | true ↦ λ h f. (let same : y ≡ x = cc in ap p (sym same) ∙ h)
      | false ↦ λ h f. find_passes p xs x f
    ] refl e

-- what a database without faults is
pub record IsClean (before : List Stanza) (s : Stanza) : Type 0 where
  pub named : missing (codes "name") s NoName ≡ []
  pub alone : repeated_name before s ≡ []
  pub driven : missing (codes "driver") s NoDriver ≡ []
  pub lacks : fault_if (lacks_field (rules_in s) s) (first_line s) MissingField ≡ []
  pub known : unknown_driver s ≡ []
  pub values : bad_values s ≡ []
  pub apart : same_place before s ≡ []

pub clean_database : (before : List Stanza) (s : Stanza) → database_faults before s ≡ [] → IsClean before s
clean_database before s e =
    let many : List Fault = fault_if (is_too_many before s) (first_line s) TooMany in
    let unnamed : List Fault = missing (codes "name") s NoName in
    let undriven : List Fault = missing (codes "driver") s NoDriver in
    let lacking : List Fault = fault_if (lacks_field (rules_in s) s) (first_line s) MissingField in
    let all = nil-append (lone_faults (is_too_many before s) s ++ repeated_name before s) (same_place before s) e in
    let lone = nil-append (lone_faults (is_too_many before s) s) (repeated_name before s) all.0 in
    let five = nil-append (many ++ unnamed ++ undriven ++ lacking ++ unknown_driver s) (bad_values s) lone.0 in
    let four = nil-append (many ++ unnamed ++ undriven ++ lacking) (unknown_driver s) five.0 in
    let three = nil-append (many ++ unnamed ++ undriven) lacking four.0 in
    let two = nil-append (many ++ unnamed) undriven three.0 in
    let one = nil-append many unnamed two.0 in
    record { named = one.1; alone = lone.1; driven = two.1; lacks = three.1; known = four.1; values = five.1; apart = all.1 }

-- its driver
driver_by : (r : Option Field) (n : ℕ) → fault_if (not (option_map_or (λ field. true) r false)) n NoDriver ≡ []
    → option_map_or (λ field. fault_if (option_map_or (λ driver. false) (driver_of field.value) true) field.line UnknownDriver) r [] ≡ []
    → (d : Driver) × (option_map_or (λ field. driver_of field.value) r None ≡ Some d)
driver_by None n there known = absurd (cc)
driver_by (Some field) n there known =
    elim (driver_of field.value) as (λ r. fault_if (option_map_or (λ driver. false) r true) field.line UnknownDriver ≡ [] → (d : Driver) × (r ≡ Some d)) [
      | None ↦ λ e. absurd (cc)
      | Some driver ↦ λ e. (driver, refl)
    ] known

pub driver_is : (before : List Stanza) (s : Stanza) → IsClean before s → (d : Driver) × (driver_in s ≡ Some d)
driver_is before s clean = driver_by (field_at (codes "driver") s) (first_line s) clean.driven clean.known

-- each of its fields takes its value
fields_good : (is : Field → Bool) (s : Stanza) → flat_map (λ field. fault_if (is field) field.line BadValue) s ≡ [] → AllByRecursion (λ field. is field ≡ false) s
fields_good is [] e = tt
fields_good is (field ∷ s) e =
    let parts = nil-append (fault_if (is field) field.line BadValue) (flat_map (λ f. fault_if (is f) f.line BadValue) s) e in
    (no_fault (is field) field.line BadValue parts.0, fields_good is s parts.1)

-- the rules of the driver for the fields with this key take no value but these
abbrev Take : Driver → List ℕ → (List ℕ → Bool) → Type 0
Take d key takes = (value : List ℕ) → list_any (λ rule. bytes_eq rule.key key && not (rule.takes value)) (rules_of (Some d)) ≡ false → takes value ≡ true

alone_takes : (b : Bool) → (not b || false) ≡ false → b ≡ true
alone_takes b e = not-false b (neither (not b) false e).0

-- so the field with the key, if it is there, has one of them
value_is : (before : List Stanza) (s : Stanza) → IsClean before s → (d : Driver) → driver_in s ≡ Some d → (key : List ℕ) (takes : List ℕ → Bool) → Take d key takes
    → option_map_or (λ field. takes field.value) (field_at key s) true ≡ true
value_is before s clean d is key takes only =
    let good : AllByRecursion (λ field. is_bad (rules_of (Some d)) field ≡ false) s =
    subst (λ r. AllByRecursion (λ field. is_bad (rules_of r) field ≡ false) s) is (fields_good (is_bad (rules_in s)) s clean.values) in
    elim (field_at key s) as (λ r. field_at key s ≡ r → option_map_or (λ field. takes field.value) r true ≡ true) [
      | None ↦ λ e. refl
      | Some field ↦ λ e.
          let same : field.key ≡ key = (bytes_eq-Decides field.key key).0 (find_passes (λ f. bytes_eq f.key key) s field e) in
          only field.value (subst (λ k. list_any (λ rule. bytes_eq rule.key k && not (rule.takes field.value)) (rules_of (Some d)) ≡ false) same
          (find_all (λ f. is_bad (rules_of (Some d)) f ≡ false) (λ f. bytes_eq f.key key) s field good e))
    ] refl

mode_of : (before : List Stanza) (s : Stanza) → IsClean before s → (d : Driver) → driver_in s ≡ Some d → is_made_by (Some d) ≡ false
    → TakesMode (sort_by (Some d)) s
mode_of before s clean File is off = value_is before s clean File is (codes "mode") is_mode (λ value. alone_takes (is_mode value))
mode_of before s clean DirTree is off = refl
mode_of before s clean PackageDir is off = value_is before s clean PackageDir is (codes "mode") is_mode (λ value. alone_takes (is_mode value))
mode_of before s clean Pipe is off = refl
mode_of before s clean Stack is off = absurd (cc)
mode_of before s clean Backup is off = absurd (cc)
mode_of before s clean Debug is off = absurd (cc)

pub mode_is : (before : List Stanza) (s : Stanza) → IsClean before s → HasMode s
mode_is before s clean off =
    let found = driver_is before s clean in
    subst (λ r. TakesMode (sort_by r) s) (sym found.1)
    (mode_of before s clean found.0 found.1 (sym (ap is_made_by found.1) ∙ off))

-- ---- what its sort takes

-- a field's value, or another where it isn't there
value_or : (p : List ℕ → Bool) (other : List ℕ) (r : Option Field) → p other ≡ true → option_map_or (λ field. p field.value) r true ≡ true
    → p (option_map_or (λ field. field.value) r other) ≡ true
value_or p other None default given = default
value_or p other (Some field) default given = given

extension_of : (before : List Stanza) (s : Stanza) → IsClean before s → (d : Driver) → driver_in s ≡ Some d
    → takes_extension (sort_by (Some d)) (extension_by (sort_by (Some d)) s) ≡ true
extension_of before s clean File is = refl
extension_of before s clean DirTree is =
    value_or is_extension (codes ".dat") (field_at (codes "extension") s) refl
    (value_is before s clean DirTree is (codes "extension") is_extension (λ value. alone_takes (is_extension value)))
extension_of before s clean PackageDir is =
    value_or is_extension (codes ".dat") (field_at (codes "extension") s) refl
    (value_is before s clean PackageDir is (codes "extension") is_extension (λ value. alone_takes (is_extension value)))
extension_of before s clean Pipe is = refl
extension_of before s clean Stack is = refl
extension_of before s clean Backup is = refl
extension_of before s clean Debug is = refl

mode_fits : (sort : LayerSort) (s : Stanza) → takes_mode sort (mode_by sort s) ≡ true
mode_fits sort.File s = refl
mode_fits sort.Tree s = refl
mode_fits sort.Pack s = refl
mode_fits sort.Pipe s = refl

pub sort_fits : (before : List Stanza) (s : Stanza) → IsClean before s → fits_sort (spec_of s) ≡ true
sort_fits before s clean =
    let found = driver_is before s clean in
    let extension : takes_extension (sort_in s) (extension_by (sort_in s) s) ≡ true =
    subst (λ r. takes_extension (sort_by r) (extension_by (sort_by r) s) ≡ true) (sym found.1) (extension_of before s clean found.0 found.1) in
    ap (λ b. b && takes_mode (sort_in s) (mode_by (sort_in s) s)) extension ∙ mode_fits (sort_in s) s

modes_along : (before ss : List Stanza) → along database_faults before ss ≡ [] → AllByRecursion HasMode ss
modes_along before [] e = tt
modes_along before (s ∷ ss) e =
    let parts = nil-append (database_faults before s) (along database_faults (before ++ s ∷ []) ss) e in
    (mode_is before s (clean_database before s parts.0), modes_along (before ++ s ∷ []) ss parts.1)

pub modes_are : (ss : List Stanza) → second_pass ss ≡ [] → AreModes ss
modes_are [] e = tt
modes_are (head ∷ ss) e = modes_along [] ss (nil-append (head_faults head) (along database_faults [] ss) e).1
