-- Commands with a wrong number of arguments.
use Rattle.std.proofs.Common.{◌≡◌, ◌≤◌, ◌<◌, ℕ, List, [], ◌∷◌, length, refl, arith}
use Rattle.dc_proto.specs.Commands.{get, reset, subst, fget, fset, metaget, register, unregister, load_template_file, alone, version, set_title, input, progress_start, progress_set, progress_step, progress_info}
use Rattle.dc_proto.specs.declared.command.Command.{Command}
use Rattle.dc_proto.specs.Replies.{wrong_number}
use Rattle.dc_proto.specs.declared.command.Heard.TheVariants.{Refused}

pub get_long : (arguments : List (List ℕ)) → 2 ≤ length arguments → get arguments ≡ Refused wrong_number
get_long [] long = absurd (omega arith)
get_long (question ∷ []) long = absurd (omega arith)
get_long (question ∷ more ∷ arguments) long = refl

pub reset_long : (arguments : List (List ℕ)) → 2 ≤ length arguments → reset arguments ≡ Refused wrong_number
reset_long [] long = absurd (omega arith)
reset_long (question ∷ []) long = absurd (omega arith)
reset_long (question ∷ more ∷ arguments) long = refl

pub subst_one : (arguments : List (List ℕ)) → 1 ≤ length arguments → length arguments < 2 → subst arguments ≡ Refused wrong_number
subst_one [] least below = absurd (omega arith)
subst_one (question ∷ []) least below = refl
subst_one (question ∷ more ∷ arguments) least below = absurd (omega arith)

pub fget_one : (arguments : List (List ℕ)) → 1 ≤ length arguments → length arguments < 2 → fget arguments ≡ Refused wrong_number
fget_one [] least below = absurd (omega arith)
fget_one (question ∷ []) least below = refl
fget_one (question ∷ more ∷ arguments) least below = absurd (omega arith)

pub fget_long : (arguments : List (List ℕ)) → 3 ≤ length arguments → fget arguments ≡ Refused wrong_number
fget_long [] long = absurd (omega arith)
fget_long (question ∷ []) long = absurd (omega arith)
fget_long (question ∷ flag ∷ []) long = absurd (omega arith)
fget_long (question ∷ flag ∷ more ∷ arguments) long = refl

pub fset_one : (arguments : List (List ℕ)) → 1 ≤ length arguments → length arguments < 2 → fset arguments ≡ Refused wrong_number
fset_one [] least below = absurd (omega arith)
fset_one (question ∷ []) least below = refl
fset_one (question ∷ more ∷ arguments) least below = absurd (omega arith)

pub fset_two : (arguments : List (List ℕ)) → 2 ≤ length arguments → length arguments < 3 → fset arguments ≡ Refused wrong_number
fset_two [] least below = absurd (omega arith)
fset_two (question ∷ []) least below = absurd (omega arith)
fset_two (question ∷ flag ∷ []) least below = refl
fset_two (question ∷ flag ∷ more ∷ arguments) least below = absurd (omega arith)

pub fset_long : (arguments : List (List ℕ)) → 4 ≤ length arguments → fset arguments ≡ Refused wrong_number
fset_long [] long = absurd (omega arith)
fset_long (question ∷ []) long = absurd (omega arith)
fset_long (question ∷ flag ∷ []) long = absurd (omega arith)
fset_long (question ∷ flag ∷ value ∷ []) long = absurd (omega arith)
fset_long (question ∷ flag ∷ value ∷ more ∷ arguments) long = refl

pub metaget_one : (arguments : List (List ℕ)) → 1 ≤ length arguments → length arguments < 2 → metaget arguments ≡ Refused wrong_number
metaget_one [] least below = absurd (omega arith)
metaget_one (question ∷ []) least below = refl
metaget_one (question ∷ more ∷ arguments) least below = absurd (omega arith)

pub metaget_long : (arguments : List (List ℕ)) → 3 ≤ length arguments → metaget arguments ≡ Refused wrong_number
metaget_long [] long = absurd (omega arith)
metaget_long (question ∷ []) long = absurd (omega arith)
metaget_long (question ∷ field ∷ []) long = absurd (omega arith)
metaget_long (question ∷ field ∷ more ∷ arguments) long = refl

pub register_one : (arguments : List (List ℕ)) → 1 ≤ length arguments → length arguments < 2 → register arguments ≡ Refused wrong_number
register_one [] least below = absurd (omega arith)
register_one (template ∷ []) least below = refl
register_one (template ∷ more ∷ arguments) least below = absurd (omega arith)

pub register_long : (arguments : List (List ℕ)) → 3 ≤ length arguments → register arguments ≡ Refused wrong_number
register_long [] long = absurd (omega arith)
register_long (template ∷ []) long = absurd (omega arith)
register_long (template ∷ question ∷ []) long = absurd (omega arith)
register_long (template ∷ question ∷ more ∷ arguments) long = refl

pub unregister_long : (arguments : List (List ℕ)) → 2 ≤ length arguments → unregister arguments ≡ Refused wrong_number
unregister_long [] long = absurd (omega arith)
unregister_long (question ∷ []) long = absurd (omega arith)
unregister_long (question ∷ more ∷ arguments) long = refl

pub alone_long : (command : Command) (arguments : List (List ℕ)) → 1 ≤ length arguments → alone command arguments ≡ Refused wrong_number
alone_long command [] long = absurd (omega arith)
alone_long command (more ∷ arguments) long = refl

pub load_long : (arguments : List (List ℕ)) → 3 ≤ length arguments → load_template_file arguments ≡ Refused wrong_number
load_long [] long = absurd (omega arith)
load_long (path ∷ []) long = absurd (omega arith)
load_long (path ∷ owner ∷ []) long = absurd (omega arith)
load_long (path ∷ owner ∷ more ∷ arguments) long = refl

pub version_long : (arguments : List (List ℕ)) → 2 ≤ length arguments → version arguments ≡ Refused wrong_number
version_long [] long = absurd (omega arith)
version_long (number ∷ []) long = absurd (omega arith)
version_long (number ∷ more ∷ arguments) long = refl

pub set_title_long : (arguments : List (List ℕ)) → 2 ≤ length arguments → set_title arguments ≡ Refused wrong_number
set_title_long [] long = absurd (omega arith)
set_title_long (question ∷ []) long = absurd (omega arith)
set_title_long (question ∷ more ∷ arguments) long = refl

pub input_one : (arguments : List (List ℕ)) → 1 ≤ length arguments → length arguments < 2 → input arguments ≡ Refused wrong_number
input_one [] least below = absurd (omega arith)
input_one (priority ∷ []) least below = refl
input_one (priority ∷ more ∷ arguments) least below = absurd (omega arith)

pub input_long : (arguments : List (List ℕ)) → 3 ≤ length arguments → input arguments ≡ Refused wrong_number
input_long [] long = absurd (omega arith)
input_long (priority ∷ []) long = absurd (omega arith)
input_long (priority ∷ question ∷ []) long = absurd (omega arith)
input_long (priority ∷ question ∷ more ∷ arguments) long = refl

pub progress_start_one : (arguments : List (List ℕ)) → 1 ≤ length arguments → length arguments < 2 → progress_start arguments ≡ Refused wrong_number
progress_start_one [] least below = absurd (omega arith)
progress_start_one (min ∷ []) least below = refl
progress_start_one (min ∷ more ∷ arguments) least below = absurd (omega arith)

pub progress_start_two : (arguments : List (List ℕ)) → 2 ≤ length arguments → length arguments < 3 → progress_start arguments ≡ Refused wrong_number
progress_start_two [] least below = absurd (omega arith)
progress_start_two (min ∷ []) least below = absurd (omega arith)
progress_start_two (min ∷ max ∷ []) least below = refl
progress_start_two (min ∷ max ∷ more ∷ arguments) least below = absurd (omega arith)

pub progress_start_long : (arguments : List (List ℕ)) → 4 ≤ length arguments → progress_start arguments ≡ Refused wrong_number
progress_start_long [] long = absurd (omega arith)
progress_start_long (min ∷ []) long = absurd (omega arith)
progress_start_long (min ∷ max ∷ []) long = absurd (omega arith)
progress_start_long (min ∷ max ∷ question ∷ []) long = absurd (omega arith)
progress_start_long (min ∷ max ∷ question ∷ more ∷ arguments) long = refl

pub progress_set_long : (arguments : List (List ℕ)) → 2 ≤ length arguments → progress_set arguments ≡ Refused wrong_number
progress_set_long [] long = absurd (omega arith)
progress_set_long (number ∷ []) long = absurd (omega arith)
progress_set_long (number ∷ more ∷ arguments) long = refl

pub progress_step_long : (arguments : List (List ℕ)) → 2 ≤ length arguments → progress_step arguments ≡ Refused wrong_number
progress_step_long [] long = absurd (omega arith)
progress_step_long (number ∷ []) long = absurd (omega arith)
progress_step_long (number ∷ more ∷ arguments) long = refl

pub progress_info_long : (arguments : List (List ℕ)) → 2 ≤ length arguments → progress_info arguments ≡ Refused wrong_number
progress_info_long [] long = absurd (omega arith)
progress_info_long (question ∷ []) long = absurd (omega arith)
progress_info_long (question ∷ more ∷ arguments) long = refl
