-- Stanzas stand one after another, and so do their faults.
use Rattle.std.proofs.Common.{◌≡◌, ℕ, ◌≤◌, Bool, true, false, List, [], ◌∷◌, ◌++◌, Option, Some, None, refl, sym, ap, ◌∙◌, arith}
use Rattle.std.specs.List.{AllByRecursion, flat_map, list_any}
use Rattle.std.specs.Option.{option_map_or}
use Rattle.std.specs.Prelude.{codes, not}
use Rattle.dc_conf.specs.declared.drivers.Driver.TheVariants.{File, DirTree, PackageDir, Pipe, Stack, Backup, Debug}
use Rattle.dc_conf.specs.declared.faults.Fault.{Fault}
use Rattle.dc_conf.specs.declared.faults.ConfKind.{ConfKind}
use Rattle.dc_conf.specs.declared.faults.ConfKind.TheVariants.{TooMany, NoConfig, NoTemplates, NoName, NoDriver, UnknownDriver, MissingField, BadValue, Twice, SamePlace}
use Rattle.dc_conf.specs.declared.fields.Field.{Field}
use Rattle.dc_conf.specs.Stanzas.{Stanza, field_at, first_line}
use Rattle.dc_conf.specs.Values.{driver_of}
use Rattle.dc_conf.specs.ConfFaults.{fault_if, along, missing, at_field, is_there, lacks_field, rules_in, is_bad, unknown_driver, bad_values, is_named, driver_in, place_by, share_place, same_place, is_too_many, lone_faults, database_faults, head_faults, second_pass}
use Rattle.dc_conf.specs.Machine.{IsBetween, Rise, earlier_of, least_of}
use Rattle.dc_conf.proofs.LeastLemmas.{least_in, least_keeps, least_of-append}
use Rattle.dc_conf.proofs.TestLemmas.{all_each, all-append, find_all}

-- ---- the faults of a stanza stand where it does

module _ (low high : ℕ) where
  abbrev pub Within : Fault → Type 0
  Within f = (low ≤ f.line) × (f.line ≤ high)

  abbrev pub HasWithin : Field → Type 0
  HasWithin field = (low ≤ field.line) × (field.line ≤ high)

  fault_if_within : (b : Bool) (n : ℕ) (kind : ConfKind) → low ≤ n → n ≤ high → AllByRecursion Within (fault_if b n kind)
  fault_if_within true n kind p q = ((p, q), tt)
  fault_if_within false n kind p q = tt

  first_within : (s : Stanza) → IsBetween low high s → (low ≤ first_line s) × (first_line s ≤ high)
  first_within [] is = absurd (is.some refl)
  first_within (field ∷ fields) is = is.within.0

  at_first : (b : Bool) (s : Stanza) (kind : ConfKind) → IsBetween low high s → AllByRecursion Within (fault_if b (first_line s) kind)
  at_first b s kind is = let here : (low ≤ first_line s) × (first_line s ≤ high) = first_within s is in fault_if_within b (first_line s) kind here.0 here.1

  at_field_within : (key : List ℕ) (s : Stanza) (is : Field → Bool) (kind : ConfKind) → IsBetween low high s → AllByRecursion Within (at_field key s is kind)
  at_field_within key s is kind between =
      elim (field_at key s) as (λ r. field_at key s ≡ r → AllByRecursion Within (option_map_or (λ field. fault_if (is field) field.line kind) r [])) [
        | None ↦ λ e. tt
        | Some field ↦ λ e. (let here : HasWithin field = find_all HasWithin _ s field between.within e in fault_if_within (is field) field.line kind here.0 here.1)
      ] refl

  bad_within : (is : Field → Bool) (s : Stanza) → AllByRecursion HasWithin s → AllByRecursion Within (flat_map (λ field. fault_if (is field) field.line BadValue) s)
  bad_within is [] all = tt
  bad_within is (field ∷ s) all =
      all-append Within (fault_if (is field) field.line BadValue) (flat_map (λ f. fault_if (is f) f.line BadValue) s)
      (fault_if_within (is field) field.line BadValue all.0.0 all.0.1) (bad_within is s all.1)

  same_within : (before : List Stanza) (s : Stanza) → IsBetween low high s → AllByRecursion Within (same_place before s)
  same_within before s is =
      let shares : Bool = list_any (λ earlier. share_place earlier s) before in
      elim (driver_in s) as (λ r. AllByRecursion Within (option_map_or (λ (field : Field). fault_if shares field.line SamePlace) (place_by r s) [])) [
        | None ↦ tt
        | Some driver ↦ elim driver as (λ d. AllByRecursion Within (option_map_or (λ (field : Field). fault_if shares field.line SamePlace) (place_by (Some d) s) [])) [
          | File ↦ at_field_within (codes "filename") s (λ field. shares) SamePlace is
          | DirTree ↦ at_field_within (codes "directory") s (λ field. shares) SamePlace is
          | PackageDir ↦ at_field_within (codes "directory") s (λ field. shares) SamePlace is
          | Pipe ↦ tt
          | Stack ↦ tt
          | Backup ↦ tt
          | Debug ↦ tt
        ]
      ]

  lone_within : (many : Bool) (s : Stanza) → IsBetween low high s → AllByRecursion Within (lone_faults many s)
  lone_within many s is =
      let a : AllByRecursion Within (fault_if many (first_line s) TooMany) = at_first many s TooMany is in
      let b : AllByRecursion Within (missing (codes "name") s NoName) = at_first (not (is_there (codes "name") s)) s NoName is in
      let c : AllByRecursion Within (missing (codes "driver") s NoDriver) = at_first (not (is_there (codes "driver") s)) s NoDriver is in
      let d : AllByRecursion Within (fault_if (lacks_field (rules_in s) s) (first_line s) MissingField) = at_first (lacks_field (rules_in s) s) s MissingField is in
      let e : AllByRecursion Within (unknown_driver s) = at_field_within (codes "driver") s (λ field. option_map_or (λ driver. false) (driver_of field.value) true) UnknownDriver is in
      let f : AllByRecursion Within (bad_values s) = bad_within (is_bad (rules_in s)) s is.within in
      all-append Within _ _ (all-append Within _ _ (all-append Within _ _ (all-append Within _ _ (all-append Within _ _ a b) c) d) e) f

  pub database_within : (before : List Stanza) (s : Stanza) → IsBetween low high s → AllByRecursion Within (database_faults before s)
  database_within before s is =
      all-append Within _ _
      (all-append Within _ _ (lone_within (is_too_many before s) s is) (at_field_within (codes "name") s (λ field. is_named before field.value) Twice is))
      (same_within before s is)

  pub head_within : (s : Stanza) → IsBetween low high s → AllByRecursion Within (head_faults s)
  head_within s is =
      all-append Within _ _ (at_first (not (is_there (codes "config") s)) s NoConfig is) (at_first (not (is_there (codes "templates") s)) s NoTemplates is)

-- ---- the faults of later stanzas come later

pub along_above : (low : ℕ) (before ss : List Stanza) → Rise low ss → AllByRecursion (λ f. low ≤ f.line) (along database_faults before ss)
along_above low before [] rise = tt
along_above low before (s ∷ ss) rise =
    all-append (λ f. low ≤ f.line) (database_faults before s) (along database_faults (before ++ s ∷ []) ss)
    (all_each (Within low rise.0) (λ f. low ≤ f.line) (λ f h. h.0) (database_faults before s) (database_within low rise.0 before s rise.2))
    (let up : low ≤ rise.0 = rise.1 in
    all_each (λ f. rise.0 ≤ f.line) (λ f. low ≤ f.line) (λ f h. omega arith) (along database_faults (before ++ s ∷ []) ss) (along_above rise.0 (before ++ s ∷ []) ss rise.3))

pub rise_from : (low high : ℕ) (ss : List Stanza) → low ≤ high → Rise high ss → Rise low ss
rise_from low high [] h rise = tt
rise_from low high (s ∷ ss) h rise =
    let up : high ≤ rise.0 = rise.1 in
    (rise.0, omega arith, record { some = rise.2.some; within = all_each (HasWithin high rise.0) (HasWithin low rise.0) (λ field k. (omega (arith, k.0), k.1)) s rise.2.within }, rise.3)

-- ---- the first stanza with a fault decides

-- a fault of a database
pub first_database : (low : ℕ) (before ss : List Stanza) (s : Stanza) (f : Fault) → Rise low (s ∷ ss) → least_of (database_faults before s) ≡ Some f
    → least_of (along database_faults before (s ∷ ss)) ≡ Some f
first_database low before ss s f rise e =
    let here : Within low rise.0 f = least_in (Within low rise.0) (database_faults before s) f e (database_within low rise.0 before s rise.2) in
    let line : f.line ≤ rise.0 = here.1 in
    least_keeps (database_faults before s) (along database_faults (before ++ s ∷ []) ss) f e
    (all_each (λ g. rise.0 ≤ g.line) (λ g. f.line ≤ g.line) (λ g h. omega arith) _ (along_above rise.0 (before ++ s ∷ []) ss rise.3))

-- a fault of the first stanza
pub first_head : (ss : List Stanza) (s : Stanza) (f : Fault) → Rise 1 (s ∷ ss) → least_of (head_faults s) ≡ Some f → least_of (second_pass (s ∷ ss)) ≡ Some f
first_head ss s f rise e =
    let here : Within 1 rise.0 f = least_in (Within 1 rise.0) (head_faults s) f e (head_within 1 rise.0 s rise.2) in
    let line : f.line ≤ rise.0 = here.1 in
    least_keeps (head_faults s) (along database_faults [] ss) f e
    (all_each (λ g. rise.0 ≤ g.line) (λ g. f.line ≤ g.line) (λ g h. omega arith) _ (along_above rise.0 [] ss rise.3))

-- a turn of the loop over databases: no fault is here
pub databases_turn : (before ss rest : List Stanza) (s : Stanza) (r : Option Fault) → rest ≡ s ∷ ss → least_of (database_faults before s) ≡ None
    → least_of (along database_faults before rest) ≡ r → least_of (along database_faults (before ++ s ∷ []) ss) ≡ r
databases_turn before ss rest s r whole none so_far =
    sym (ap (λ a. earlier_of a (least_of (along database_faults (before ++ s ∷ []) ss))) none)
    ∙ sym (least_of-append (database_faults before s) (along database_faults (before ++ s ∷ []) ss))
    ∙ sym (ap (λ (xs : List Stanza). least_of (along database_faults before xs)) whole) ∙ so_far
