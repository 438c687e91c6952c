-- The folders that are kept.
use Rattle.std.proofs.Common.{◌≡◌, ℕ, Bool, true, false, cond, List, Option, Some, refl, ap, ◌∙◌}
use Rattle.std.specs.Ordering.{eq_by_cmp}
use Rattle.std.specs.Cmp.{eq_by_cmp_equiv}
use Rattle.std.specs.Cmp.Lexicographic.{nat_list_cmp_total}
use Rattle.std.specs.FinMap as map
use Rattle.std.specs.FinMap.{get-insert}
use Rattle.dc_text.specs.Maps.{TextSet, text_cmp}
use Rattle.dc_host.specs.Folders.{folder_of, with_folder_of, IsKept, Keeps}

kept_either : (b : Bool) (found : Option (Unit {0})) → found ≡ Some tt → cond b (Some tt) found ≡ Some tt
kept_either true found kept = refl
kept_either false found kept = kept

pub is_kept_with : (folders : TextSet) (path : List ℕ) → IsKept (with_folder_of folders path) path
is_kept_with folders path = get-insert nat_list_cmp_total folders (folder_of path) tt (folder_of path)
    ∙ ap (λ b. cond b (Some tt) (map.get folders (folder_of path))) ((eq_by_cmp_equiv nat_list_cmp_total).refl (folder_of path))

pub keeps_with : (folders : TextSet) (path : List ℕ) → Keeps folders (with_folder_of folders path)
keeps_with folders path folder kept = get-insert nat_list_cmp_total folders (folder_of path) tt folder
    ∙ kept_either (eq_by_cmp text_cmp folder (folder_of path)) (map.get folders folder) kept

pub keeps_same : (folders : TextSet) → Keeps folders folders
keeps_same folders folder kept = kept

pub keeps_on : (first second third : TextSet) → Keeps first second → Keeps second third → Keeps first third
keeps_on first second third early late folder kept = late folder (early folder kept)

-- what is kept after a call is kept after the next
pub kept_on : (path : List ℕ) (first second : TextSet) → IsKept first path → Keeps first second → IsKept second path
kept_on path first second kept late = late (folder_of path) kept
