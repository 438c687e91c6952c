-- A run of one job is one round, and what is said of it at once.
use Rattle.std.proofs.Common.{◌≡◌, ◌≢◌, ◌⊎◌, inl, inr, ◌&&◌, ℕ, Bool, true, false, List, [], ◌∷◌, ◌++◌, refl, sym, ap, subst, ◌∙◌, max, arith, map as each}
use Rattle.std.specs.Prelude.{Option, Result, Ok, Err, MatchResult}
use Rattle.std.proofs.lemmas.List.{append-nil}
use Rattle.dc_layer.specs.State.{LayerState, piped_of, saved}
use Rattle.dc_save.specs.Saving.{Saves, SaveCounts}
use Rattle.dc_save.specs.declared.saving.SaveError.{SaveError}
use Rattle.dc_run.specs.declared.outcome.End.{End}
use Rattle.dc_run.specs.declared.outcome.End.TheVariants.{Done}
use Rattle.dc_run.specs.declared.outcome.End.TheVariants as end
use Rattle.dc_run.specs.declared.outcome.ToolEnd.{ToolEnd}
use Rattle.dc_run.specs.declared.outcome.ToolEnd.TheVariants as tool
use Rattle.dc_run.specs.declared.settings.Settings.{Settings}
use Rattle.dc_run.specs.Roots.{Roots}
use Rattle.dc_cli.specs.declared.tool.Tool.{Tool}
use Rattle.dc_outside.specs.declared.link.LinkError.{LinkError}
use Rattle.dc_run.specs.Ends.{IsEnded, end_by, end_unsent, comes_to_save}
use Rattle.dc_run.specs.Finishing.{Finishes, FinishesWhere, IsBrokenOff, IsWithoutMemory, SendsOf, SendsPiped, all_done, images_of}
use Rattle.dc_run.specs.Rounds.{Job, Whole, Round, AreRounds, HaveRounds, HasDoneJobs, FindsJobs, DoesFound, IsOneRound, status_by, jobs_done, state_after, end_after, status_in, saves_of}
use Rattle.dc_run.specs.Saves.{Save, HasNoImages, HasNotSaved, HasSaved, Commits, kept_by}
use Rattle.dc_run.specs.World.{Ground, RunState}
use Rattle.dc_run.proofs.FinishLemmas.{finished}

pub most_none : (n : ℕ) → max n 0 ≡ n
most_none n = omega arith

pub none_most : (n : ℕ) → max 0 n ≡ n
none_most n = omega arith

-- ---- the save

-- what a save left of the layers, by its answer
pub kept_marked : (layers used : List LayerState) (given : Result (Unit {0}) SaveError) → MatchResult given (λ _. used ≡ each saved layers) (λ _. used ≡ layers) → used ≡ kept_by given layers
kept_marked layers used (Ok done) is = is
kept_marked layers used (Err error) is = is

module _ (ended : ToolEnd) (left new : Ground) where
  -- what the layers asked for was sent, or wasn't
  pub sends_of : (asked text : Option (List ℕ)) (result given : Result (Unit {0}) LinkError) → text ≡ all_done ended asked → asked ≡ piped_of left.used → given ≡ result → SendsPiped text left.sources.link new.sources.link given
      → SendsOf ended left new result
  sends_of asked text result given text_is asked_is is sends =
      subst (λ (t : Option (List ℕ)). SendsPiped t left.sources.link new.sources.link result) (text_is ∙ ap (all_done ended) asked_is)
      (subst (λ (r : Result (Unit {0}) LinkError). SendsPiped text left.sources.link new.sources.link r) is sends)

  -- the images were saved, or not, behind what goes out through a pipe
  pub was_saved : (how : End) (given : Result (Unit {0}) SaveError) → how ≡ end_by ended given → SendsOf ended left new (Ok tt) → Saves (images_of left.used) left.sources.files.view new.sources.files.view given
      → SaveCounts left.sources.files.view new.sources.files.view given left.sources.files.counts new.sources.files.counts → MatchResult given (λ _. new.used ≡ each saved left.used) (λ _. new.used ≡ left.used)
      → (last : List Save) × Commits true ended left new last how
  was_saved how given is sent saves counts marked = (
    (record { layers = left.used; before = left.sources.files; after = new.sources.files; answer = given }) ∷ [],
    inl (record { answer = given; sent = sent; saves_are = refl; is = record { saves = saves; counts = counts }; used_is = kept_marked left.used new.used given marked; end_is = is }),
  )

  -- what goes out through a pipe wasn't sent
  pub was_unsent : (how : End) (error : LinkError) → how ≡ end_unsent error → SendsOf ended left new (Err error) → new.sources.files ≡ left.sources.files → new.used ≡ left.used → (last : List Save) × Commits true ended left new last how
  was_unsent how error is sends files used = ([], inr (inl (record { unsent = record { error = error; end_is = is; sends = sends; files_are = files; used_are = used }; saves_are = refl })))

  -- there was no memory for the images
  pub was_unmade : new ≡ left → (last : List Save) × Commits true ended left new last end.OutOfMemory
  was_unmade stays = ([], inr (inr (record { saves_are = refl; stays = stays; end_is = refl })))

-- what is said of the save by how the tool ended
marked : (left new : Ground) (given : Result (Unit {0}) SaveError) → new.used ≡ kept_by given left.used → MatchResult given (λ _. new.used ≡ each saved left.used) (λ _. new.used ≡ left.used)
marked left new (Ok done) is = is
marked left new (Err error) is = is

module _ (left new : Ground) (last : List Save) (how : End) where
  by_save : (ended : ToolEnd) → IsEnded ended → HasSaved ended left new last how → Finishes left new ended how
  by_save ended at has = subst (λ (h : End). Finishes left new ended h) (sym has.end_is)
      (finished left new ended at has.sent has.answer has.is.saves has.is.counts (marked left new has.answer has.used_is))

  -- no memory for the images
  unmade : (ended : ToolEnd) → HasNoImages left new last how → IsWithoutMemory left new ended how
  unmade ended has = record {
    end_is = has.end_is;
    sent = inr has.stays;
    ran_out = inl (ap (λ (g : Ground). g.sources.files.view) has.stays);
    counts = inr (ap (λ (g : Ground). g.sources.files) has.stays);
    used_are = ap (λ (g : Ground). g.used) has.stays;
  }

  stopped : (ended : ToolEnd) → HasNotSaved ended left new last how → IsBrokenOff left new ended how
  stopped ended has = record { end_is = has.end_is; stays = has.stays }

  pub finishes : (ended : ToolEnd) → Commits (comes_to_save ended) ended left new last how → Finishes left new ended how
  finishes tool.Done (inl has) = by_save tool.Done tt has
  finishes tool.Done (inr (inl unsent)) = inr (inr (inr unsent.unsent))
  finishes tool.Done (inr (inr none)) = inr (inr (inl (unmade tool.Done none)))
  finishes tool.LinkFault (inl has) = by_save tool.LinkFault tt has
  finishes tool.LinkFault (inr (inl unsent)) = inr (inr (inr unsent.unsent))
  finishes tool.LinkFault (inr (inr none)) = inr (inr (inl (unmade tool.LinkFault none)))
  finishes tool.TooLong (inl has) = by_save tool.TooLong tt has
  finishes tool.TooLong (inr (inl unsent)) = inr (inr (inr unsent.unsent))
  finishes tool.TooLong (inr (inr none)) = inr (inr (inl (unmade tool.TooLong none)))
  finishes tool.PrintFault has = stopped tool.PrintFault has
  finishes tool.TermFault has = stopped tool.TermFault has
  finishes tool.ChildFault has = stopped tool.ChildFault has
  finishes tool.OutOfMemory has = stopped tool.OutOfMemory has
  finishes (tool.FilesFault path) has = stopped (tool.FilesFault path) has
  finishes (tool.BadWire line) has = stopped (tool.BadWire line) has

module _ (left new : Ground) (last : List Save) (how : End) where
  -- the same of a tool of which nothing is saved, or of any other
  pub finishes_where : (keeps : Bool) (ended : ToolEnd) → Commits (keeps && comes_to_save ended) ended left new last how → FinishesWhere keeps left new ended how
  finishes_where true ended has = finishes left new last how ended has
  finishes_where false ended has = record { end_is = has.end_is; stays = has.stays }

-- ---- one job has one round

no_job : (job : Job) (jobs : List Job) → job ∷ jobs ≡ [] → ⊥
no_job job jobs e = absurd (cc)

two_jobs : (job one other : Job) (jobs : List Job) → job ∷ [] ≡ one ∷ other ∷ jobs → ⊥
two_jobs job one other jobs e = absurd (cc)

same_job : (job one : Job) (jobs : List Job) → job ∷ [] ≡ one ∷ jobs → one ≡ job
same_job job one jobs e = cc

module _ (roots : Roots) (settings : Settings) (job : Job) (old new : RunState) (how : End) (status : ℕ) (saves : List Save) (rest : List Job) where
  by_rounds : (rounds : List Round) → job ∷ [] ≡ jobs_done rounds ++ rest → AreRounds roots settings old rounds → (how ≡ Done → rest ≡ []) → new ≡ state_after old rounds → how ≡ end_after Done rounds → status ≡ status_in rounds
      → saves ≡ saves_of rounds → IsOneRound roots settings job old new how status saves
  by_rounds [] jobs are all new_is how_is status_is saves_are = absurd (no_job job [] (jobs ∙ all how_is))
  by_rounds (round ∷ []) jobs are all new_is how_is status_is saves_are = record {
    round = round;
    job_is = same_job job round.job rest jobs;
    is = are.0;
    new_is = new_is;
    how_is = how_is;
    status_is = status_is ∙ most_none (status_by round.job round.status) ∙ ap (λ (j : Job). status_by j round.status) (same_job job round.job rest jobs);
    saves_are = saves_are ∙ append-nil (round.inner ++ round.last);
  }
  by_rounds (round ∷ other ∷ rounds) jobs are all new_is how_is status_is saves_are = absurd (two_jobs job round.job other.job (jobs_done rounds ++ rest) jobs)

pub one_round : (roots : Roots) (settings : Settings) (job : Job) (old new : RunState) (how : End) (status : ℕ) (saves : List Save) → HaveRounds roots settings (job ∷ []) old new how status saves
    → IsOneRound roots settings job old new how status saves
one_round roots settings job old new how status saves have =
    by_rounds roots settings job old new how status saves have.rest have.rounds have.jobs_are have.are have.all have.new_is have.how_is have.status_is have.saves_are

-- ---- a run's jobs

-- the jobs of a tool were found: it is one
module _ (used : Tool) (roots : Roots) (settings : Settings) (old left ready : RunState) (how : End) (first later status : ℕ) (saves : List Save) where
  by_found : (found : Result (List Job) End) → FindsJobs used old ready found first → DoesFound found roots settings ready left how later saves → status ≡ max first later
      → HaveRounds roots settings (Whole used ∷ []) old left how status saves
  by_found (Ok jobs) finds have is =
      subst (λ (n : ℕ). HaveRounds roots settings (Whole used ∷ []) old left how n saves) (sym (is ∙ ap (λ (n : ℕ). max n later) finds.2 ∙ none_most later))
      (subst (λ (s : RunState). HaveRounds roots settings (Whole used ∷ []) s left how later saves) finds.1 (subst (λ (js : List Job). HaveRounds roots settings js ready left how later saves) finds.0 have))
  by_found (Err error) finds have is = absurd finds

pub jobs_had : (used : Tool) (roots : Roots) (settings : Settings) (old left : RunState) (how : End) (status : ℕ) (saves : List Save) → HasDoneJobs used roots settings old left how status saves
    → HaveRounds roots settings (Whole used ∷ []) old left how status saves
jobs_had used roots settings old left how status saves has = by_found used roots settings old left has.ready how has.first has.later status saves has.found has.finds has.does has.status_is

-- ---- a round that didn't do all

module _ (roots : Roots) (settings : Settings) (round : Round) (later : List Round) where
  none_later : (before : List Round) (old : RunState) → AreRounds roots settings old (before ++ round ∷ later) → round.how ≢ Done → later ≡ []
  none_later [] old are broken = are.1 broken
  none_later (other ∷ before) old are broken = none_later before other.new are.2 broken

  end_there : (before : List Round) (how : End) → later ≡ [] → end_after how (before ++ round ∷ later) ≡ round.how
  end_there [] how none = ap (λ (l : List Round). end_after round.how l) none
  end_there (other ∷ before) how none = end_there before other.how none

  pub broken_last : (old : RunState) (before : List Round) → AreRounds roots settings old (before ++ round ∷ later) → round.how ≢ Done → (later ≡ []) × (end_after Done (before ++ round ∷ later) ≡ round.how)
  broken_last old before are broken = (none_later before old are broken, end_there before Done (none_later before old are broken))
