-- What one run printed is set by another.
use Rattle.dc_run.proofs.PipeLemmas.{io_stays, io_unused}
use Rattle.std.proofs.Common.{◌≡◌, ℕ, Bool, true, false, if◌then◌else◌, List, [], ◌∷◌, ◌++◌, Option, Some, None, is_some, option_map, map as each, refl, sym, ap, subst, ◌∙◌, append-nil}
use Rattle.std.specs.Prelude.{not, option_and_then}
use Rattle.std.specs.Option.{option_map_or}
use Rattle.std.proofs.lemmas.List.{append_cancel_left}
use Rattle.dc_text.specs.declared.memory.OutOfMemory.{OutOfMemory as NoMemory}
use Rattle.dc_item.specs.Item.{ItemParts}
use Rattle.dc_layer.specs.State.{LayerState, saved}
use Rattle.dc_store.proofs.ListingLemmas.{is_in}
use Rattle.dc_store.specs.Plans.{names}
use Rattle.dc_question.specs.Questions.{QuestionContext, exists, question}
use Rattle.dc_outside.specs.State.{LinkState}
use Rattle.dc_outside.specs.Talk.{got, sent, then_pieces}
use Rattle.dc_outside.specs.declared.link.Piece.{Piece}
use Rattle.dc_outside.specs.declared.link.Piece.TheVariants.{Sent}
use Rattle.dc_serve.specs.LinkRun.{Answered}
use Rattle.dc_serve.specs.declared.outcome.LinkEnd.{LinkEnd}
use Rattle.dc_serve.specs.declared.outcome.LinkEnd.TheVariants as link
use Rattle.dc_preseed.proofs.SelectingLaws.{does_whole_text}
use Rattle.dc_preseed.specs.Selecting.{DoesText, IsSelected, LosesSelection, SelectorState, selections_over}
use Rattle.dc_dump.proofs.AgainLemmas.{set_again}
use Rattle.dc_dump.specs.AnswerLines.{is_sayable}
use Rattle.dc_dump.specs.Saying.{answer_at, answer_of, said_at, said_text}
use Rattle.dc_dump.specs.SetAgain.{AreSetAgain, BeginsAnew, IsNew, IsSetAgain}
use Rattle.dc_dump.specs.declared.answers.Answer.{Answer}
use Rattle.dc_session.specs.Serving.{Resources}
use Rattle.dc_cli.specs.declared.tool.Tool.{Tool}
use Rattle.dc_cli.specs.declared.tool.Tool.TheVariants.{GetSelections, SetSelections}
use Rattle.dc_run.specs.Ends.{status_of}
use Rattle.dc_run.specs.Jobs.{Prints, refused_status}
use Rattle.dc_run.specs.OneRound.{HasUsed}
use Rattle.dc_run.specs.Starting.{conf_read_in, context_of, databases_of, keeps_changes}
use Rattle.dc_run.specs.World.{World, ground_in, ground_of}
use Rattle.dc_run.specs.declared.outcome.End.TheVariants as end
use Rattle.dc_run.specs.declared.outcome.Outcome.{Outcome}
use Rattle.dc_run.specs.declared.outcome.ToolEnd.{ToolEnd}
use Rattle.dc_run.specs.declared.outcome.ToolEnd.TheVariants as tool
use Rattle.dc_run.specs.declared.settings.Settings.{Settings}
use Rattle.dc_theorem.proofs.EndLemmas.{HasKept, kept_so, unwaited, waited}
use Rattle.dc_theorem.proofs.LoadedTables.{AreTables, held_in, loads_tables}
use Rattle.dc_theorem.proofs.NamesSeen.{is_seen, names_apart, none_of, of_all, of_each}
use Rattle.dc_theorem.proofs.SavedLayers.{answer_saved, look_saved}
use Rattle.dc_theorem.proofs.SelectLaw.{selections_done, served_done, whole_input}
use Rattle.dc_theorem.specs.Moving.{AreMoved, AreNewTo, IsHandedOver, left_by, loaded}

-- ---- how a run ended that did all

module _ {used : Tool} {settings : Settings} {old new : World} {outcome : Outcome} (has : HasUsed used settings old new outcome) (done : outcome.end ≡ end.Done) where
  kept : (has.answer.ended ≡ tool.Done) × HasKept (keeps_changes used) has.left.layers new.stock.used has.left.files new.stock.files
  kept = kept_so (ground_of has.left.files has.links.io has.left.layers) (ground_in new) has.how
      (waited has.answer.is_started has.links.child new.links.child has.how outcome.end has.answer.status has.status done has.awaits).0 (keeps_changes used) has.answer.ended has.finishes

  status_kept : has.answer.is_started ≡ false → outcome.status ≡ has.answer.status
  status_kept none =
      has.status_is ∙ (λ i. status_of (done i) has.status)
      ∙ unwaited has.answer.is_started has.links.child new.links.child has.how outcome.end has.answer.status has.status none has.awaits

-- ---- the text that was handed over

handed : (text : List ℕ) (old new other : LinkState) (ended : ToolEnd) → ended ≡ tool.Done → Prints text old new ended → IsHandedOver old new other → other.input ≡ Some text
handed text old new other ended done prints over =
    let sends : new ≡ record old { talk = then_pieces old.talk (Sent text ∷ []) } = subst (Prints text old new) done prints in
    let whole : Some (over.talk ++ over.pieces) ≡ Some (over.talk ++ Sent text ∷ []) =
    sym over.new_is ∙ ap (λ (l : LinkState). l.talk) sends ∙ ap (λ (t : Option (List Piece)). then_pieces t (Sent text ∷ [])) over.old_is in
    let same : over.pieces ≡ Sent text ∷ [] = append_cancel_left over.talk over.pieces (Sent text ∷ []) (same_list _ _ whole) in
    over.input_is ∙ ap (λ (pieces : List Piece). Some (sent pieces)) same ∙ ap Some (append-nil text) where
      same_list : (one two : List Piece) → Some one ≡ Some two → one ≡ two
      same_list one two e = cc

-- ---- where it is set

unrefused : (refused : Bool) → refused_status refused ≡ 0 → refused ≡ false
unrefused true is = absurd (let one : 1 ≡ 0 = is in cc)
unrefused false is = refl

-- ---- of one name

some_mapped : (f : ItemParts → Answer) (o : Option ItemParts) → is_some o ≡ is_some (option_map f o)
some_mapped f None = refl
some_mapped f (Some item) = refl

-- what is said of an answer
abbrev said_if : List ℕ → Option Answer → Option Answer
said_if name o = option_and_then (λ (answer : Answer). if is_sayable name answer then Some answer else None) o

said_whole : (name : List ℕ) (o : Option Answer) (answer : Answer) → o ≡ Some answer → is_sayable name answer ≡ true → said_if name o ≡ Some answer
said_whole name o answer is sayable = ap (said_if name) is ∙ ap (λ (b : Bool). if b then Some answer else None) sayable

unsaid : (name : List ℕ) (o : Option Answer) → option_map_or (λ (answer : Answer). not (is_sayable name answer)) o false ≡ true → (is_some o ≡ true) × (said_if name o ≡ None)
unsaid name None out = absurd (cc)
unsaid name (Some answer) out = (refl, ap (λ (b : Bool). if b then Some answer else None) (turned (is_sayable name answer) out)) where
  turned : (b : Bool) → not b ≡ true → b ≡ false
  turned true e = absurd (cc)
  turned false e = refl

-- ---- both runs

module _ (settings other_settings : Settings) (old new other last : World) (outcome again : Outcome) (verbose : Bool) (says : HasUsed GetSelections settings old new outcome)
    (sets : HasUsed (SetSelections verbose false false) other_settings other last again) where
  abbrev layers : List LayerState
  layers = says.mid.used

  abbrev at : QuestionContext
  at = context_of says.roots settings

  -- the names of which something is said
  abbrev all : List (List ℕ)
  all = names layers at.config

  abbrev text : List ℕ
  text = said_text layers at all

  abbrev there : QuestionContext
  there = context_of sets.roots other_settings

  -- the selections that the other run begins with
  abbrev start : SelectorState
  start = selections_over sets.mid.used there (record { verbose = verbose; check = false; unseen = false }) other.err

  abbrev left : SelectorState
  left = sets.uses.0.state

  -- all names that are seen are among these
  among : (name : List ℕ) → exists layers at name ≡ true → is_in name all ≡ true
  among name is = sym (is_seen layers at.config name) ∙ is

  module _ (done : outcome.end ≡ end.Done) (again_done : again.end ≡ end.Done) (clean : again.status ≡ 0) (over : IsHandedOver old.links.io new.links.io other.links.io) (are_new : AreNewTo (loaded says) (loaded sets)) where
    comes : other.links.io.input ≡ Some text
    comes = handed text old.links.io new.links.io other.links.io says.answer.ended (kept says done).0 (subst (λ (l : LinkState). Prints text old.links.io l says.answer.ended) (sym (io_stays GetSelections tt settings old new outcome says)) (subst (λ (l : LinkState). Prints text l says.links.io says.answer.ended) (io_unused GetSelections tt settings old new outcome says) says.uses.0.prints)) over

    selected : IsSelected start left other.links.io sets.links.io link.Done 0 sets.answer.last_code
    selected = subst (λ (e : LinkEnd NoMemory). IsSelected start left other.links.io sets.links.io e 0 sets.answer.last_code)
        (selections_done sets.uses.0.ended (sym sets.uses.0.ended_is ∙ (kept sets again_done).0))
        (subst (λ (l : LinkState). IsSelected start left l sets.links.io sets.uses.0.ended 0 sets.answer.last_code) (io_unused (SetSelections verbose false false) tt other_settings other last again sets) sets.uses.0.selected)

    came : got selected.serves.run.pieces ≡ text
    came =
        let run = selected.serves.run in
        whole_input start selected.state run.transitions run.rest run.pieces text 0 sets.answer.last_code run.course
        (subst (λ (i : Option (List ℕ)). Answered LosesSelection link.Done start run.transitions run.rest run.pieces i 0 selected.state sets.answer.last_code) comes
        (subst (λ (e : LinkEnd NoMemory). Answered LosesSelection e start run.transitions run.rest run.pieces other.links.io.input 0 selected.state sets.answer.last_code)
        (served_done selected.served selected.state left selected.finishes) run.answered))

    does : DoesText text start left
    does = subst (λ (t : List ℕ). DoesText t start left) came (does_whole_text start left other.links.io sets.links.io 0 sets.answer.last_code selected refl refl refl)

    free : left.refused ≡ false
    free = unrefused left.refused (sym sets.uses.0.status_is ∙ sym (status_kept sets again_done sets.uses.0.waits) ∙ clean)

    begins : BeginsAnew all start
    begins = record {
      checks = refl;
      leaves_unseen = refl;
      apart = sets.started.apart;
      names_are = of_each (IsNew sets.mid.used there) all (λ name is. are_new name (is_seen layers at.config name ∙ is));
    }

    tables : AreTables layers
    tables = loads_tables (databases_of GetSelections says.roots.conf) layers (conf_read_in GetSelections settings.conf_path (ground_in old).sources) says.mid.sources says.started.loaded.loads

    set : AreSetAgain (said_at layers at) all start left
    set = set_again layers at all (held_in layers at tables all) (names_apart layers at.config) start left begins does free

    -- the layers as they are left are those that the selections left, each saved
    left_so : last.stock.used ≡ each saved left.store.layers
    left_so = (kept sets again_done).1.used_are ∙ ap (each saved) (ap (λ (l : Resources). l.layers) sets.uses.0.left_is)

    answers_so : (name : List ℕ) → answer_at last.stock.used there name ≡ answer_at left.store.layers there name
    answers_so name = ap (λ (ls : List LayerState). answer_at ls there name) left_so ∙ answer_saved left.store.layers there name

    asked_so : (name : List ℕ) → question last.stock.used there name ≡ question left.store.layers there name
    asked_so name = ap (λ (ls : List LayerState). question ls there name) left_so ∙ look_saved left.store.layers there.config name

    named : (name : List ℕ) → is_some (answer_at layers at name) ≡ true → IsSetAgain (said_at layers at name) left.store.layers there name
    named name is = of_all (λ (n : List ℕ). IsSetAgain (said_at layers at n) left.store.layers there n) all name set.named (among name (some_mapped (answer_of layers at) (question layers at name) ∙ is))

    pub moved : AreMoved (loaded says) (loaded sets) (left_by sets)
    moved = record {
      said = λ name answer is sayable settled.
          answers_so name ∙ (named name (ap is_some is)).same settled ∙ said_whole name (answer_at layers at name) answer is sayable;
      unsaid = λ name out. let both = unsaid name (answer_at layers at name) out in asked_so name ∙ (named name both.0).none both.1;
      others = λ name none. asked_so name ∙ set.others name (none_of all name (sym (is_seen layers at.config name) ∙ none));
    }
