-- Counting the boxes of a shelf that is filled one by one, and a run over them.
use Rattle.std.proofs.Common.{◌≡◌, ◌+◌, ◌≤◌, ℕ, List, [], length, map as each, refl, sym, ap, subst, arith}
use Rattle.dc_conf.specs.declared.spec.LayerSort.{LayerSort}
use Rattle.dc_layer.specs.State.{LayerState}
use Rattle.dc_outside.specs.State.{FilesState, LinkState}
use Rattle.dc_run.specs.Headline.{IsRun, IsProgramRun}
use Rattle.dc_shelf.specs.Shelves.{AreBlank}
use Rattle.dc_run.specs.World.{Links, stock_of}
use Rattle.dc_run.specs.declared.outcome.Outcome.{Outcome}
use Rattle.dc_run.specs.declared.settings.Settings.{Settings}

-- one more than at least so many
pub grows : {n before now : ℕ} → n ≤ before → now ≡ before + 1 → n + 1 ≤ now
grows few is = omega (arith, few, is)

-- blank boxes that stay
pub kept_blank : {A : Type 0} (f : A → LayerState) (sort : LayerSort) (now before : List A) → now ≡ before → AreBlank sort (each f before) → AreBlank sort (each f now)
kept_blank f sort now before same blank = subst (λ (l : List _). AreBlank sort (each f l)) (sym same) blank

-- one box at least that stays
pub kept_one : {A : Type 0} (now before old : List A) → now ≡ before → length before ≡ length old + 1 → 1 ≤ length now
kept_one now before old same count = let long : length now ≡ length before = ap length same in omega (arith, long, count)

-- a run over a shelf of which no box was used is the program's
pub ran_over : (words : List (List ℕ)) (settings : Settings) (stood used : List LayerState) (files left : FilesState) (links links_left : Links) (err err_left : LinkState) (outcome : Outcome) → stood ≡ []
    → IsRun words settings (record { stock = stock_of files stood; links = links; err = err }) (record { stock = stock_of left used; links = links_left; err = err_left }) outcome
    → IsProgramRun words settings (record { stock = stock_of files []; links = links; err = err }) links_left err_left left outcome.status
ran_over words settings stood used files left links links_left err err_left outcome none ran = record {
  used = used;
  outcome = outcome;
  ran = subst (λ (l : List LayerState). IsRun words settings (record { stock = stock_of files l; links = links; err = err }) (record { stock = stock_of left used; links = links_left; err = err_left }) outcome) none ran;
  status_is = refl;
}
