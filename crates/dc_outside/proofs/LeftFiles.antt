-- What a crash leaves of files in memory, path by path.
use Rattle.std.proofs.Common.{◌≡◌, ◌⊎◌, inl, inr, ℕ, true, false, cond, List, [], ◌∷◌, Option, None, Some, refl, sym, ap, subst, ◌∙◌, length, arith}
use Rattle.std.specs.Prelude.{◌-◌, ◌||◌, is_some, unwrap_or, slice_get}
use Rattle.std.specs.List.{list_any}
use Rattle.std.specs.FinMap as map
use Rattle.std.specs.FinMap.{contains_key-keys}
use Rattle.dc_text.specs.Maps.{Texts}
use Rattle.dc_outside.specs.Disk.{File, CrashOutcome, OneOf, Disk, Among, Allows, outcome_at, with_entry}
use Rattle.dc_outside.specs.declared.crashing.Pick.{Pick}
use Rattle.dc_outside.specs.declared.crashing.Pick.TheVariants.{Oldest, Newest, Junk}
use Rattle.dc_outside.specs.Crash.{last_of, listed_by, unlisted_by, IsLeftBy}
use Rattle.dc_outside.proofs.DiskLemmas.{same, same-true, get-with_entry}

-- the last of a list, got by its place
last_at : {X : Type 0} (next : X) (more : List X) → slice_get (next ∷ more) (length more) ≡ Some (last_of next more)
last_at next [] = refl
last_at next (then ∷ more) = last_at then more

last_is : {X : Type 0} (one : X) (more : List X) → unwrap_or (slice_get more (length more - 1)) one ≡ last_of one more
last_is one [] = refl
last_is one (next ∷ more) =
    let place : length (next ∷ more) - 1 ≡ length more = omega arith in
    ap (λ p. unwrap_or (slice_get (next ∷ more) p) one) place ∙ ap (λ o. unwrap_or o one) (last_at next more)

pub last_got : {X : Type 0} (one : X) (more : List X) (found : Option X) → found ≡ slice_get more (length more - 1) → Some (unwrap_or found one) ≡ Some (last_of one more)
last_got one more found e = ap (λ o. Some (unwrap_or o one)) e ∙ ap Some (last_is one more)

among_last : (one : Option File) (more : List (Option File)) → Among (one ∷ more) (last_of one more)
among_last one [] = inl refl
among_last one (next ∷ more) = inr (among_last next more)

pub among_got : (one : Option File) (more : List (Option File)) (found : Option (Option File)) → found ≡ slice_get more (length more - 1) → Among (one ∷ more) (unwrap_or found one)
among_got one more found e = subst (Among (one ∷ more)) (sym (ap (λ o. unwrap_or o one) e ∙ last_is one more)) (among_last one more)

-- where nothing is pending, what stands is left
pub left_alone : (pick : Pick) (disk : Disk) (path : List ℕ) → map.get disk.current.pending path ≡ None → IsLeftBy pick disk path (map.get disk.current.files path)
left_alone pick disk path none =
    let here : outcome_at disk.current path ≡ OneOf (map.get disk.current.files path ∷ []) = ap (λ o. unwrap_or o (OneOf (map.get disk.current.files path ∷ []))) none in
    let listed : listed_by pick (OneOf (map.get disk.current.files path ∷ [])) ≡ Some (map.get disk.current.files path) = elim pick as (λ p. listed_by p (OneOf (map.get disk.current.files path ∷ [])) ≡ Some (map.get disk.current.files path)) [ Oldest ↦ refl | Newest ↦ refl | Junk ↦ refl ] in
    record {
      picked = sym (ap (λ o. unwrap_or o (unlisted_by pick disk path)) (ap (listed_by pick) here ∙ listed));
      may = subst (λ (o : CrashOutcome). Allows o (map.get disk.current.files path)) (sym here) (inl refl);
    }

-- the entry at the path is the one that is left, or the path is to come
abbrev pub IsLeft : Pick → Disk → Texts File → List (List ℕ) → List ℕ → Type 0
IsLeft pick disk files rest path = IsLeftBy pick disk path (map.get files path) ⊎ (list_any (same path) rest ≡ true)

module _ (pick : Pick) (disk : Disk) where
  pub none_left : (path : List ℕ) → IsLeft pick disk disk.current.files (map.keys disk.current.pending) path
  none_left path =
      elim (map.get disk.current.pending path) as (λ o. map.get disk.current.pending path ≡ o → IsLeft pick disk disk.current.files (map.keys disk.current.pending) path) [
        | None ↦ λ e. inl (left_alone pick disk path e)
        | Some outcome ↦ λ e. inr (sym (contains_key-keys disk.current.pending path) ∙ ap is_some e)
      ] refl

  pub one_left : (files : Texts File) (path : List ℕ) (rest : List (List ℕ)) (entry : Option File) → IsLeftBy pick disk path entry → ((q : List ℕ) → IsLeft pick disk files (path ∷ rest) q) → (q : List ℕ) → IsLeft pick disk (with_entry files path entry) rest q
  one_left files path rest entry may so_far q =
      elim (same q path) as (λ b. same q path ≡ b → IsLeftBy pick disk q (map.get files q) ⊎ ((b || list_any (same q) rest) ≡ true) → IsLeft pick disk (with_entry files path entry) rest q) [
        | true ↦ λ e was. inl (subst (λ (f : Option File). IsLeftBy pick disk q f) (sym (get-with_entry files path entry q ∙ ap (λ b. cond b entry (map.get files q)) e)) (subst (λ (p : List ℕ). IsLeftBy pick disk p entry) (sym (same-true q path e)) may))
        | false ↦ λ e was. elim was [
          | inl left ↦ inl (subst (λ (f : Option File). IsLeftBy pick disk q f) (sym (get-with_entry files path entry q ∙ ap (λ b. cond b entry (map.get files q)) e)) left)
          | inr more ↦ inr more
        ]
      ] refl (so_far q)

  pub all_left : (files : Texts File) (path : List ℕ) → IsLeft pick disk files [] path → IsLeftBy pick disk path (map.get files path)
  all_left files path (inl left) = left
  all_left files path (inr none) = absurd (cc)
