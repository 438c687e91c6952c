-- The plans of a tool's roots, taken from the last.
use Rattle.std.proofs.Common.{◌≡◌, ◌+◌, ◌++◌, List, [], ◌∷◌, length, Option, None, refl, sym, ap, ◌∙◌, arith}
use Rattle.std.proofs.lemmas.List.{length-append}
use Rattle.dc_conf.specs.Configuration.{Configuration}
use Rattle.dc_conf.specs.declared.plans.Plan.{Plan}
use Rattle.dc_layer.specs.Patterns.{Sought}
use Rattle.dc_cli.specs.declared.tool.CopyWords.{CopyWords}
use Rattle.dc_cli.specs.declared.tool.Tool.{Tool}
use Rattle.dc_cli.specs.declared.tool.Tool.TheVariants.{Communicate, LoadTemplate, Run, Show, CopyDb, SetSelections, GetSelections, Drill, Answer}
use Rattle.dc_run.specs.Inside.{IsCopyBy}
use Rattle.dc_run.specs.Starting.{roots}

-- how many are left before the last
before_last : (plans front : List Plan) (last : Plan) → plans ≡ front ++ last ∷ [] → length plans ≡ length front + 1
before_last plans front last is = ap length is ∙ length-append front (last ∷ [])

none_left : (plans : List Plan) → length plans ≡ 0 → plans ≡ []
none_left [] none = refl
none_left (x ∷ plans) none = absurd (omega (arith, none))

-- two plans
pub two_popped : (plans front left : List Plan) (first second : Plan) → length plans ≡ 2 → plans ≡ front ++ second ∷ [] → front ≡ left ++ first ∷ [] → first ∷ second ∷ [] ≡ plans
two_popped plans front left first second two last before =
    let one = before_last plans front second last in
    let other = before_last front left first before in
    let none : left ≡ [] = none_left left (omega (arith, two, one, other)) in
    sym (last ∙ ap (λ l. l ++ second ∷ []) (before ∙ ap (λ l. l ++ first ∷ []) none))

-- a tool that doesn't copy has two roots
pub roots_of_other : (used : Tool) (conf : Configuration) → ((copy : CopyWords) → used ≡ CopyDb copy → ⊥) → length (roots used conf) ≡ 2
roots_of_other (Communicate owner) conf none = refl
roots_of_other (LoadTemplate owner paths) conf none = refl
roots_of_other (Run owner frontend priority command) conf none = refl
roots_of_other (Show database shown) conf none = refl
roots_of_other (CopyDb copy) conf none = absurd (none copy refl)
roots_of_other (SetSelections verbose check unseen) conf none = refl
roots_of_other GetSelections conf none = refl
roots_of_other (Drill count) conf none = refl
roots_of_other (Answer command) conf none = refl

-- one that doesn't copy copies by no patterns
pub no_copy_by : (used : Tool) (by_name by_owner : Option Sought) → ((copy : CopyWords) → used ≡ CopyDb copy → ⊥) → IsCopyBy used by_name by_owner None
no_copy_by (Communicate owner) by_name by_owner none = refl
no_copy_by (LoadTemplate owner paths) by_name by_owner none = refl
no_copy_by (Run owner frontend priority command) by_name by_owner none = refl
no_copy_by (Show database shown) by_name by_owner none = refl
no_copy_by (CopyDb copy) by_name by_owner none = absurd (none copy refl)
no_copy_by (SetSelections verbose check unseen) by_name by_owner none = refl
no_copy_by GetSelections by_name by_owner none = refl
no_copy_by (Drill count) by_name by_owner none = refl
no_copy_by (Answer command) by_name by_owner none = refl
