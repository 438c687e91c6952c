-- What comes in determines a run of `copydb`, and what it sends through a pipe.
use Rattle.std.proofs.Common.{◌≡◌, ℕ, Bool, true, false, List, [], ◌∷◌, ◌++◌, append_assoc, append-nil, arith, map as each, ap, sym, subst, ◌∙◌, refl, Option, Some, None}
use Rattle.std.specs.Prelude.{◌≤◌, Result, Ok, Err}
use Rattle.std.specs.List.{list_any}
use Rattle.dc_conf.specs.declared.spec.LayerSpec.{LayerSpec}
use Rattle.dc_layer.specs.State.{LayerState, piped_of}
use Rattle.dc_outside.specs.Counts.{Counts}
use Rattle.dc_save.specs.PipeLoading.{HasCome, IsReadBroken, LoadsWhere}
use Rattle.dc_save.specs.declared.pipe_loading.PipeLoaded.{PipeLoaded}
use Rattle.dc_save.specs.declared.pipe_loading.PipeLoaded.TheVariants as piped
use Rattle.dc_shelf.specs.Shelves.{GoesOn, LoadAnswer, LoadsAll, LoadsOne, Sources, all_set_up}
use Rattle.dc_shelf.specs.declared.loading.SourceError.{SourceError}
use Rattle.dc_shelf.specs.declared.loading.SourceError.TheVariants as source
use Rattle.dc_run.specs.Finishing.{Finishes, SendsPiped}
use Rattle.dc_outside.specs.Disk.{Disk}
use Rattle.dc_outside.specs.State.{FilesState, FilesView, LinkState}
use Rattle.dc_outside.specs.Talk.{then_pieces}
use Rattle.dc_outside.specs.declared.files.FilesCall.{FilesCall}
use Rattle.dc_outside.specs.declared.link.Piece.{Piece}
use Rattle.dc_outside.specs.declared.link.Piece.TheVariants.{Got, Sent, Cut, Lost}
use Rattle.dc_session.specs.Serving.{Resources}
use Rattle.dc_session.specs.SessionState.{SessionState}
use Rattle.dc_store.specs.Plans.{stored}
use Rattle.dc_tools.specs.Copying.{Copying, CopyState, after_copies, chosen, so_far, first_report}
use Rattle.dc_run.specs.Ends.{status_of}
use Rattle.dc_run.specs.Jobs.{Copies, CopiesBy, HasCopied, copying, refused_status}
use Rattle.dc_run.specs.OneRound.{HasUsed}
use Rattle.dc_run.specs.Starting.{IsConfiguration, begun, conf_read_in, databases_of, loaded_of}
use Rattle.dc_run.specs.World.{Links, World, before_rounds, on_ground, Ground, ground_in, ground_of}
use Rattle.dc_run.specs.declared.outcome.Outcome.{Outcome}
use Rattle.dc_run.specs.declared.outcome.ToolAnswer.{ToolAnswer}
use Rattle.dc_run.specs.declared.outcome.ToolEnd.{ToolEnd}
use Rattle.dc_run.specs.declared.outcome.ToolEnd.TheVariants as tool
use Rattle.dc_run.specs.declared.settings.Settings.{Settings}
use Rattle.dc_run.specs.Roots.{CopyRoots, Roots}
use Rattle.dc_cli.specs.Tools.{Names}
use Rattle.dc_cli.specs.declared.tool.CopyWords.{CopyWords}
use Rattle.dc_cli.specs.declared.tool.Tool.TheVariants.{CopyDb}
use Rattle.dc_serve.specs.Said.{said}
use Rattle.dc_theorem.specs.Runs.{ComeAlike, CopyAlike, IsClean, NoneFailed, ReadsLink}
use Rattle.dc_theorem.proofs.EndLemmas.{sent_so, was_used, unwaited}
use Rattle.dc_theorem.proofs.CallsLaw.{behind_stays}
use Rattle.dc_theorem.proofs.StartLaws.{IsQuiet, reads_link}
use Rattle.dc_theorem.proofs.TellLaws.{tell_nothing}
use Rattle.dc_theorem.proofs.UsedLemmas.{tool_done, left_sound, start_same, leave_alike, wait_is}

-- ---- what was said

pieces_then : (talk : Option (List Piece)) (one two : List Piece) → then_pieces (then_pieces talk one) two ≡ then_pieces talk (one ++ two)
pieces_then None one two = refl
pieces_then (Some pieces) one two = ap (λ (ps : List Piece). Some ps) (append_assoc pieces one two)

no_pieces : (talk : Option (List Piece)) → talk ≡ then_pieces talk []
no_pieces None = refl
no_pieces (Some pieces) = ap (λ (ps : List Piece). Some ps) (sym (append-nil pieces))

said_both : (one two : List Piece) → said (one ++ two) ≡ said one ++ said two
said_both [] two = refl
said_both (Got bytes ∷ one) two = said_both one two
said_both (Sent bytes ∷ one) two = ap (λ (ps : List Piece). Sent bytes ∷ ps) (said_both one two)
said_both (Cut bytes ∷ one) two = ap (λ (ps : List Piece). Cut bytes ∷ ps) (said_both one two)
said_both (Lost ∷ one) two = said_both one two

none_said : (parts : List (List ℕ)) → said (each (λ (part : List ℕ). Got part) parts) ≡ []
none_said [] = refl
none_said (part ∷ parts) = none_said parts

-- nothing was sent on a link
record SaysNothing (old new : LinkState) : Type 0 where
  pieces : List Piece
  told_is : new.talk ≡ then_pieces old.talk pieces
  none : said pieces ≡ []

says_still : (old new : LinkState) → new ≡ old → SaysNothing old new
says_still old new same = record { pieces = []; told_is = ap (λ (l : LinkState). l.talk) same ∙ no_pieces old.talk; none = refl }

says_then : (old mid new : LinkState) → SaysNothing old mid → SaysNothing mid new → SaysNothing old new
says_then old mid new first second = record {
  pieces = first.pieces ++ second.pieces;
  told_is = second.told_is ∙ ap (λ (t : Option (List Piece)). then_pieces t second.pieces) first.told_is ∙ pieces_then old.talk first.pieces second.pieces;
  none = said_both first.pieces second.pieces ∙ (λ i. first.none i ++ second.none i);
}

says_come : (text : List ℕ) (old new : LinkState) → HasCome text old new → SaysNothing old new
says_come text old new came = record { pieces = each Got came.parts; told_is = ap (λ (l : LinkState). l.talk) came.state; none = none_said came.parts }

says_broken : (old new : LinkState) → IsReadBroken old new → SaysNothing old new
says_broken old new is =
    says_then old is.mid new (says_come is.text old is.mid is.came) (record { pieces = Lost ∷ []; told_is = ap (λ (l : LinkState). l.talk) is.lost.state; none = refl })

-- ---- loads

says_piped : (infd : Bool) (spec : LayerSpec) (layer made : LayerState) (old new : LinkState) (loaded : PipeLoaded) → LoadsWhere infd spec layer made old new (Ok loaded) → SaysNothing old new
says_piped true spec layer made old new piped.Here is = says_come is.text old new is.read.came
says_piped true spec layer made old new piped.LeftOut is = says_broken old new is.1
says_piped false spec layer made old new loaded is = says_still old new is.2

no_error : (error : SourceError) → ◌≡◌ {A = Result (Unit {0}) SourceError} (Ok tt) (Err error) → ⊥
no_error error is = cc

says_one : (spec : LayerSpec) (layer made : LayerState) (from mid left : Sources) (more last : Type 0) → (more → SaysNothing mid.link left.link) → (first : LoadAnswer) → LoadsOne spec layer made from mid first → GoesOn first (Ok tt) more last
    → SaysNothing from.link left.link
says_one spec layer made from mid left more last rest (LoadAnswer.OfFiles (Ok loaded)) is goes = says_then from.link mid.link left.link (says_still from.link mid.link is.3) (rest goes)
says_one spec layer made from mid left more last rest (LoadAnswer.OfPipe (Ok loaded)) is goes =
    says_then from.link mid.link left.link (says_piped spec.infd spec layer made from.link mid.link loaded is.1) (rest goes)
says_one spec layer made from mid left more last rest (LoadAnswer.OfFiles (Err error)) is goes = absurd (no_error (source.Files error) goes.0)
says_one spec layer made from mid left more last rest (LoadAnswer.OfPipe (Err error)) is goes = absurd (no_error (source.Pipe error) goes.0)

loads_say : (specs : List LayerSpec) (old new : List LayerState) (from left : Sources) → LoadsAll specs old new from left (Ok tt) → SaysNothing from.link left.link
loads_say [] old new from left loads = says_still from.link left.link (ap (λ (s : Sources). s.link) loads.2)
loads_say (spec ∷ specs) [] new from left loads = absurd loads
loads_say (spec ∷ specs) (layer ∷ old) [] from left loads = absurd loads
loads_say (spec ∷ specs) (layer ∷ old) (made ∷ new) from left loads =
    says_one spec layer made from loads.1 left _ _ (loads_say specs old new loads.1 left) loads.0 loads.2 loads.3

-- ---- what goes out

-- the one write of it
abbrev writes_of : Option (List ℕ) → List Piece
writes_of None = []
writes_of (Some text) = Sent text ∷ []

sends_talk : (text : Option (List ℕ)) (old new : LinkState) → SendsPiped text old new (Ok tt) → new.talk ≡ then_pieces old.talk (writes_of text)
sends_talk None old new sent = ap (λ (l : LinkState). l.talk) sent.1 ∙ no_pieces old.talk
sends_talk (Some text) old new sent = ap (λ (l : LinkState). l.talk) sent

-- ---- the copy

-- what a copy of all that is chosen comes to
abbrev all_copied : Copying → List LayerState → CopyState
all_copied copy layers = after_copies copy (so_far (stored layers []) (first_report [])) (chosen layers copy)

-- what a copy that did all leaves, tells and has as its status
record IsWhole (copy : Copying) (old new : List LayerState) (told : List ℕ) (status : ℕ) : Type 0 where
  new_is : new ≡ (all_copied copy old).layers
  told_is : told ≡ (all_copied copy old).report.lines
  status_is : status ≡ refused_status (all_copied copy old).report.refused

whole_copy : (copy : Copying) (old new : List LayerState) (told : List ℕ) (status : ℕ) → Copies copy old new tool.Done told status → IsWhole copy old new told status
whole_copy copy old new told status copies =
    let is = copies.2 in
    record {
      new_is = copies.3 ∙ ap (λ (c : CopyState). c.layers) is.copied;
      told_is = copies.4 ∙ ap (λ (c : CopyState). c.report.lines) is.copied;
      status_is = copies.5 ∙ ap (λ (c : CopyState). refused_status c.report.refused) is.copied;
    }

-- the copy of a run, which has what it copies by
record HasMade (found : Option CopyRoots) (start : SessionState) (links new : Links) (answer : ToolAnswer) (told : List ℕ) (left : Resources) : Type 0 where
  roots : CopyRoots
  found_is : found ≡ Some roots
  made : HasCopied (copying start roots) start links new 0 answer told left

made_by : (found : Option CopyRoots) (start : SessionState) (links new : Links) (answer : ToolAnswer) (told : List ℕ) (left : Resources) → CopiesBy found start links new 0 answer told left
    → HasMade found start links new answer told left
made_by None start links new answer told left none = absurd none
made_by (Some roots) start links new answer told left made = record { roots = roots; found_is = refl; made = made }

module _ (words : List (List ℕ)) (copy : CopyWords) (settings : Settings) (disk : Disk) (calls : List FilesCall) where
  module _ (old new : World) (outcome : Outcome) (clean : IsClean words settings disk calls old new outcome) (has : HasUsed (CopyDb copy) settings old new outcome) where
    abbrev start : SessionState
    start = begun (CopyDb copy) (before_rounds (on_ground old has.mid)) has.roots settings

    copied : HasMade has.roots.copy start (on_ground old has.mid).links has.links has.answer has.told has.left
    copied = made_by has.roots.copy start (on_ground old has.mid).links has.links has.answer has.told has.left has.uses.0

    whole : IsWhole (copying start copied.roots) has.mid.used has.left.layers has.told has.answer.status
    whole = whole_copy (copying start copied.roots) has.mid.used has.left.layers has.told has.answer.status
        (subst (λ (e : ToolEnd). Copies (copying start copied.roots) has.mid.used has.left.layers e has.told has.answer.status)
        (tool_done words (CopyDb copy) settings disk calls old new outcome clean has) copied.made.copies)

    copied_high : has.mid.sources.files.counts.faults ≤ old.stock.files.counts.faults
    copied_high = subst (λ (f : FilesState). f.counts.faults ≤ old.stock.files.counts.faults) (ap (λ (l : Resources). l.files) copied.made.left_is)
        (left_sound words (CopyDb copy) settings disk calls old new outcome clean has)

    copied_status : outcome.status ≡ has.answer.status
    copied_status =
        has.status_is ∙ (λ i. status_of (clean.done i) has.status)
        ∙ unwaited has.answer.is_started has.links.child new.links.child has.how outcome.end has.answer.status has.status copied.made.waits has.awaits

    -- what was said on the link: nothing in the loads, and then what goes out
    loads_said : SaysNothing old.links.io has.mid.sources.link
    loads_said = loads_say (loaded_of (CopyDb copy) has.roots.conf) (all_set_up (databases_of (CopyDb copy) has.roots.conf)) has.mid.used (conf_read_in (CopyDb copy) settings.conf_path (ground_in old).sources) has.mid.sources
        has.started.loaded.loads

    abbrev left : Ground
    left = ground_of has.left.files has.links.io has.left.layers

    sent : new.links.io.talk ≡ then_pieces has.mid.sources.link.talk (writes_of (piped_of has.left.layers))
    sent =
        sends_talk (piped_of has.left.layers) has.links.io new.links.io
        (sent_so left (ground_in new) has.how (wait_is words (CopyDb copy) settings disk calls old new outcome clean has).0
        (subst (λ (e : ToolEnd). Finishes left (ground_in new) e has.how) (tool_done words (CopyDb copy) settings disk calls old new outcome clean has) has.finishes))
        ∙ ap (λ (l : Links). then_pieces l.io.talk (writes_of (piped_of has.left.layers))) copied.made.links_are

    all_said : new.links.io.talk ≡ then_pieces old.links.io.talk (loads_said.pieces ++ writes_of (piped_of has.left.layers))
    all_said = sent ∙ ap (λ (t : Option (List Piece)). then_pieces t (writes_of (piped_of has.left.layers))) loads_said.told_is ∙ pieces_then old.links.io.talk loads_said.pieces (writes_of (piped_of has.left.layers))

    says : said (loads_said.pieces ++ writes_of (piped_of has.left.layers)) ≡ said (writes_of (piped_of has.left.layers))
    says = said_both loads_said.pieces (writes_of (piped_of has.left.layers)) ∙ ap (λ (ps : List Piece). ps ++ said (writes_of (piped_of has.left.layers))) loads_said.none

    -- the tool counted nothing on the link
    quiet : NoneFailed old.links.io.counts new.links.io.counts → IsQuiet old.links.io.counts has.mid.sources.link.counts
    quiet none =
        let same : new.links.io.counts.faults ≡ old.links.io.counts.faults = none.same in
        let behind : new.links.io.counts.faults ≡ has.mid.sources.link.counts.faults
        = ap (λ (c : Counts). c.faults) (behind_stays (CopyDb copy) settings old new outcome has clean.done) in
        (old.links.io.counts.faults, none.room, omega arith, omega arith)

    reads : list_any reads_link (databases_of (CopyDb copy) has.roots.conf) ≡ true → ReadsLink (CopyDb copy) disk settings.conf_path
    reads are = (
      has.roots.conf,
      subst (λ (d : Option Disk). IsConfiguration (CopyDb copy) d settings.conf_path has.roots.conf) (ap (λ (v : FilesView). v.disk) clean.files_are) has.started.loaded.conf_is.conf_is.conf_is,
      are,
    )

  pub copy_alike : (one new other last : World) (outcome again : Outcome) → Names words (CopyDb copy)
      → IsClean words settings disk calls one new outcome → IsClean words settings disk calls other last again
      → (ReadsLink (CopyDb copy) disk settings.conf_path → ComeAlike one.links.io new.links.io other.links.io last.links.io) → CopyAlike one new outcome other last again
  copy_alike one new other last outcome again named clean other_clean come_alike =
      let has = was_used words settings disk calls one new outcome (CopyDb copy) named clean in
      let other_has = was_used words settings disk calls other last again (CopyDb copy) named other_clean in
      let starts = start_same words (CopyDb copy) settings disk calls one new other last outcome again clean other_clean has other_has (copied_high one new outcome clean has) (copied_high other last again other_clean other_has)
      (λ are.
      let come = come_alike (reads one new outcome clean has are) in
      record {
        come = (come.input, come.one_input_is, come.other_input_is);
        quiet = quiet one new outcome clean has come.none_failed;
        other_quiet = quiet other last again other_clean other_has come.other_none_failed;
      }) in
      let first = copied one new outcome clean has in
      let second = copied other last again other_clean other_has in
      let found : Some first.roots ≡ Some second.roots = sym first.found_is ∙ ap (λ (r : Roots). r.copy) starts.roots_are ∙ second.found_is in
      let same : first.roots ≡ second.roots = cc in
      let makes : copying (start one new outcome clean has) first.roots ≡ copying (start other last again other_clean other_has) second.roots
      = λ i. record { source = (starts.roots_are i).config; dest = (same i).dest; templates = (starts.roots_are i).templates; by_name = (same i).by_name; by_owner = (same i).by_owner } in
      let one_whole = whole one new outcome clean has in
      let other_whole = whole other last again other_clean other_has in
      let come : all_copied (copying (start one new outcome clean has) first.roots) has.mid.used ≡ all_copied (copying (start other last again other_clean other_has) second.roots) other_has.mid.used
      = λ i. all_copied (makes i) (starts.used i) in
      let layers : has.left.layers ≡ other_has.left.layers = one_whole.new_is ∙ ap (λ (c : CopyState). c.layers) come ∙ sym other_whole.new_is in
      record {
        leave = leave_alike words (CopyDb copy) settings disk calls one new other last outcome again clean other_clean has other_has
            layers
            (ap (λ (l : Resources). l.files.view) first.made.left_is ∙ starts.told ∙ sym (ap (λ (l : Resources). l.files.view) second.made.left_is))
            (tell_nothing one.err has.left.err other.err other_has.left.err (ap (λ (l : Resources). l.err) first.made.left_is) (ap (λ (l : Resources). l.err) second.made.left_is))
            (one_whole.told_is ∙ ap (λ (c : CopyState). c.report.lines) come ∙ sym other_whole.told_is)
            (first.made.code_is ∙ sym second.made.code_is);
        sent = record {
          pieces = (loads_said one new outcome clean has).pieces ++ writes_of (piped_of has.left.layers);
          other_pieces = (loads_said other last again other_clean other_has).pieces ++ writes_of (piped_of other_has.left.layers);
          one_is = all_said one new outcome clean has;
          other_is = all_said other last again other_clean other_has;
          same = says one new outcome clean has ∙ ap (λ (ls : List LayerState). said (writes_of (piped_of ls))) layers ∙ sym (says other last again other_clean other_has);
        };
        status = copied_status other last again other_clean other_has ∙ other_whole.status_is ∙ sym (ap (λ (c : CopyState). refused_status c.report.refused) come) ∙ sym one_whole.status_is ∙ sym (copied_status one new outcome clean has);
      }
