-- What is known of a run that did all and at which no call of the files failed, and what two such runs leave.
use Rattle.std.proofs.Common.{◌≡◌, ◌&&◌, ◌||◌, ℕ, Bool, true, false, List, [], ◌∷◌, if◌then◌else◌, ◌++◌, Some, refl, ap, sym, ◌∙◌, arith}
use Rattle.std.specs.Prelude.{◌≤◌, map as each}
use Rattle.dc_outside.specs.Counts.{Counts}
use Rattle.std.specs.List.{AllByRecursion, list_any}
use Rattle.dc_conf.specs.declared.spec.LayerSpec.{LayerSpec}
use Rattle.dc_layer.specs.State.{LayerState, is_pipe, saved}
use Rattle.dc_run.proofs.PipeLemmas.{loaded_unpiped}
use Rattle.dc_save.specs.Saving.{after_images}
use Rattle.dc_outside.specs.Disk.{Disk}
use Rattle.dc_outside.specs.declared.files.FilesCall.{FilesCall}
use Rattle.dc_session.proofs.Determined.{IsTold}
use Rattle.dc_run.specs.EndLines.{end_line}
use Rattle.dc_run.specs.Finishing.{images_of}
use Rattle.dc_run.specs.Starting.{IsOther, keeps_changes, loaded_of}
use Rattle.dc_run.specs.OneRound.{HasUsed}
use Rattle.dc_run.specs.World.{World, ground_in, ground_of}
use Rattle.dc_run.specs.declared.outcome.End.TheVariants as end
use Rattle.dc_run.specs.declared.outcome.Outcome.{Outcome}
use Rattle.dc_run.specs.declared.outcome.ToolEnd.TheVariants as tool
use Rattle.dc_run.specs.declared.settings.Settings.{Settings}
use Rattle.dc_cli.specs.declared.tool.Tool.{Tool}
use Rattle.dc_theorem.specs.Runs.{IsClean, LeaveAlike, TellAlike}
use Rattle.dc_theorem.proofs.EndLemmas.{HasKept, waited, kept_so}
use Rattle.dc_theorem.proofs.StartLaws.{ComeWhereRead, StartAlike, reads_link, started_later, started_told, one_start}
use Rattle.dc_theorem.proofs.TellLaws.{tell_text, tell_then}

-- no database is a pipe
none_read : (specs : List LayerSpec) → AllByRecursion (λ spec. is_pipe spec.sort ≡ false) specs → list_any reads_link specs ≡ true → ⊥
none_read [] none reads = cc
none_read (spec ∷ specs) none reads = none_read specs none.1 (sym (ap (λ (b : Bool). (b && spec.infd) || list_any reads_link specs) none.0) ∙ reads)

module _ (words : List (List ℕ)) (used : Tool) (settings : Settings) (disk : Disk) (calls : List FilesCall) where
  -- ---- one run

  module _ (old new : World) (outcome : Outcome) (clean : IsClean words settings disk calls old new outcome) (has : HasUsed used settings old new outcome) where
    pub wait_is : (has.how ≡ end.Done) × (new.links.child.talk ≡ has.links.child.talk)
    wait_is = waited has.answer.is_started has.links.child new.links.child has.how outcome.end has.answer.status has.status clean.done has.awaits

    save_is : (has.answer.ended ≡ tool.Done) × HasKept (keeps_changes used) has.left.layers new.stock.used has.left.files new.stock.files
    save_is = kept_so (ground_of has.left.files has.links.io has.left.layers) (ground_in new) has.how wait_is.0 (keeps_changes used) has.answer.ended has.finishes

    pub tool_done : has.answer.ended ≡ tool.Done
    tool_done = save_is.0

    pub saves : HasKept (keeps_changes used) has.left.layers new.stock.used has.left.files new.stock.files
    saves = save_is.1

    -- the tool counted no failure of the files
    pub left_sound : has.left.files.counts.faults ≤ old.stock.files.counts.faults
    left_sound =
        let at_save : new.stock.files.counts.faults ≡ has.left.files.counts.faults = ap (λ (c : Counts). c.faults) saves.counts in
        let at_end : new.stock.files.counts.faults ≡ old.stock.files.counts.faults = clean.none_failed.same in
        omega arith

    pub starts_low : old.stock.files.counts.faults ≤ has.mid.sources.files.counts.faults
    starts_low = (started_later used settings.conf_path (ground_in old).sources has.mid has.roots has.started).0

    pub starts_told : IsTold disk has.mid.sources.files.view
    starts_told = started_told used disk settings.conf_path (ground_in old).sources has.mid has.roots has.started (calls, clean.files_are)

  -- ---- both

  module _ (one new other last : World) (outcome again : Outcome) (clean : IsClean words settings disk calls one new outcome) (other_clean : IsClean words settings disk calls other last again)
      (has : HasUsed used settings one new outcome) (other_has : HasUsed used settings other last again) where
    -- they began from the same, where the same came on the links that databases are read from
    pub start_same : has.mid.sources.files.counts.faults ≤ one.stock.files.counts.faults → other_has.mid.sources.files.counts.faults ≤ other.stock.files.counts.faults
        → ComeWhereRead used has.roots.conf one.links.io has.mid.sources.link other.links.io other_has.mid.sources.link → StartAlike has.mid other_has.mid has.roots other_has.roots
    start_same high other_high came =
        one_start used disk settings.conf_path (record { disk = Some disk; calls = Some calls }) (ground_in one).sources (ground_in other).sources has.mid other_has.mid has.roots other_has.roots refl clean.files_are
        other_clean.files_are clean.none_failed.room other_clean.none_failed.room high other_high came has.started other_has.started

    -- so did those of a tool that doesn't copy, which reads none from its link
    pub same_start : IsOther used → has.mid.sources.files.counts.faults ≤ one.stock.files.counts.faults → other_has.mid.sources.files.counts.faults ≤ other.stock.files.counts.faults
        → StartAlike has.mid other_has.mid has.roots other_has.roots
    same_start is high other_high =
        start_same high other_high (λ reads. absurd (none_read (loaded_of used has.roots.conf) (loaded_unpiped used is has.roots.conf has.started.loaded.conf_is.unmisused) reads))

    -- where the tools left and told the same, the runs do
    pub leave_as_told : has.left.layers ≡ other_has.left.layers → has.left.files.view ≡ other_has.left.files.view → TellAlike one.err new.err other.err last.err → has.answer.last_code ≡ other_has.answer.last_code
        → LeaveAlike one new outcome other last again
    leave_as_told layers left err code =
        let first = saves one new outcome clean has in
        let second = saves other last again other_clean other_has in
        record {
          used = second.used_are ∙ ap (λ (ls : List LayerState). if keeps_changes used then each saved ls else ls) (sym layers) ∙ sym first.used_are;
          files = second.files_are ∙ (λ i. if keeps_changes used then after_images (sym left i) (images_of (sym layers i)) else sym left i) ∙ sym first.files_are;
          err = err;
          code = other_has.code_is ∙ sym code ∙ sym has.code_is;
        }

    -- where their sessions told the same, and they told the same behind these
    pub leave_alike : has.left.layers ≡ other_has.left.layers → has.left.files.view ≡ other_has.left.files.view → TellAlike one.err has.left.err other.err other_has.left.err → has.told ≡ other_has.told
        → has.answer.last_code ≡ other_has.answer.last_code → LeaveAlike one new outcome other last again
    leave_alike layers left before told code =
        leave_as_told layers left
        (tell_then one.err has.left.err new.err other.err other_has.left.err last.err before
        (tell_text (has.told ++ end_line outcome.end) (other_has.told ++ end_line again.end) has.left.err new.err other_has.left.err last.err
        (λ i. told i ++ end_line ((clean.done ∙ sym other_clean.done) i)) has.said other_has.said)) code
