-- A tool that doesn't copy has no database that comes or goes through a pipe: the link is as it was when the tool begins, and as the tool left it when
-- the run ends.
use Rattle.std.proofs.Common.{◌≡◌, inl, inr, Bool, true, false, cond, List, [], ◌∷◌, ℕ, Option, Some, None, refl, sym, ap, subst, ◌∙◌, if◌then◌else◌}
use Rattle.std.specs.Prelude.{Result, Ok, Err}
use Rattle.std.specs.Option.{option_or}
use Rattle.std.specs.List.{AllByRecursion, find}
use Rattle.dc_conf.specs.Configuration.{Configuration}
use Rattle.dc_conf.specs.declared.spec.LayerSort.{LayerSort}
use Rattle.dc_conf.specs.declared.spec.LayerSort.TheVariants.{Pipe}
use Rattle.dc_conf.specs.declared.spec.LayerSpec.{LayerSpec}
use Rattle.dc_layer.specs.State.{LayerState, first_text, images, is_pipe, piped, piped_of}
use Rattle.dc_outside.specs.State.{LinkState}
use Rattle.dc_shelf.specs.Shelves.{GoesOn, LoadAnswer, LoadsAll, LoadsOne, Sources}
use Rattle.dc_shelf.specs.declared.loading.SourceError.{SourceError}
use Rattle.dc_cli.specs.declared.tool.Tool.{Tool}
use Rattle.dc_cli.specs.declared.tool.Tool.TheVariants.{Communicate, LoadTemplate, Run, Show, CopyDb, SetSelections, GetSelections, Drill, Answer}
use Rattle.dc_run.specs.declared.outcome.End.{End}
use Rattle.dc_run.specs.declared.outcome.Outcome.{Outcome}
use Rattle.dc_run.specs.declared.outcome.ToolEnd.{ToolEnd}
use Rattle.dc_run.specs.declared.outcome.ToolEnd.TheVariants as tool
use Rattle.dc_run.specs.declared.settings.Settings.{Settings}
use Rattle.dc_run.specs.Finishing.{Finishes, FinishesWhere, SendsOf, SendsPiped, all_done}
use Rattle.dc_run.specs.OneRound.{HasUsed}
use Rattle.dc_run.specs.Starting.{EndsBefore, HasLoaded, HasStarted, IsOther, begun, databases_of, has_files, keeps_changes, loaded_of, misused_among}
use Rattle.dc_run.specs.World.{Ground, World, before_rounds, ground_in, ground_of, on_ground}
use Rattle.dc_run.proofs.CrashLemmas.{loads_keep, set_for, set_up_specs, tool_keeps}
use Rattle.dc_run.proofs.KindLemmas.{Kind, kind_of, specs_in}

-- ---- which databases a tool has

abbrev AreUnpiped : List LayerSpec → Type 0
AreUnpiped specs = AllByRecursion (λ spec. is_pipe spec.sort ≡ false) specs

none_found : (specs : List LayerSpec) → find (λ spec. is_pipe spec.sort) specs ≡ None → AreUnpiped specs
none_found [] none = tt
none_found (spec ∷ specs) none =
    elim (is_pipe spec.sort) as (λ b. is_pipe spec.sort ≡ b → cond b (Some spec) (find (λ s. is_pipe s.sort) specs) ≡ None → AreUnpiped (spec ∷ specs)) [
      | true ↦ λ is some. absurd (let wrong : Some spec ≡ None = some in cc)
      | false ↦ λ is rest. (is, none_found specs rest)
    ] refl none

other_among : (used : Tool) → IsOther used → (specs : List LayerSpec) → misused_among used specs ≡ find (λ spec. is_pipe spec.sort) specs
other_among (Communicate owner) is specs = refl
other_among (LoadTemplate owner paths) is specs = refl
other_among (Run owner frontend priority command) is specs = refl
other_among (Show database shown) is specs = refl
other_among (CopyDb copy) is specs = absurd is
other_among (SetSelections verbose check unseen) is specs = refl
other_among GetSelections is specs = refl
other_among (Drill count) is specs = refl
other_among (Answer command) is specs = refl

module _ (used : Tool) (is : IsOther used) (conf : Configuration) (none : misused_among used (databases_of used conf) ≡ None) where
  pub unpiped : AreUnpiped (databases_of used conf)
  unpiped = none_found (databases_of used conf) (sym (other_among used is (databases_of used conf)) ∙ none)

  where_loaded : (kept : Bool) → AreUnpiped (if kept then databases_of used conf else [])
  where_loaded true = unpiped
  where_loaded false = tt

  pub loaded_unpiped : AreUnpiped (loaded_of used conf)
  loaded_unpiped = where_loaded (has_files used)

-- ---- loads

not_piped : (sort : LayerSort) → sort ≡ Pipe → is_pipe sort ≡ false → ⊥
not_piped sort is none = let wrong : true ≡ false = sym (ap is_pipe is) ∙ none in cc

one_alone : (spec : LayerSpec) (layer made : LayerState) (from mid : Sources) (first : LoadAnswer) → is_pipe spec.sort ≡ false → LoadsOne spec layer made from mid first → mid.link ≡ from.link
one_alone spec layer made from mid (LoadAnswer.OfFiles first) none is = is.3
one_alone spec layer made from mid (LoadAnswer.OfPipe first) none is = absurd (not_piped spec.sort is.0 none)

goes_on : (P : Type 0) (first : LoadAnswer) (result : Result (Unit {0}) SourceError) (more last : Type 0) → (more → P) → (last → P) → GoesOn first result more last → P
goes_on P (LoadAnswer.OfFiles (Ok loaded)) result more last on at is = on is
goes_on P (LoadAnswer.OfPipe (Ok loaded)) result more last on at is = on is
goes_on P (LoadAnswer.OfFiles (Err error)) result more last on at is = at is.1
goes_on P (LoadAnswer.OfPipe (Err error)) result more last on at is = at is.1

loads_alone : (specs : List LayerSpec) (old new : List LayerState) (from left : Sources) (result : Result (Unit {0}) SourceError) → AreUnpiped specs → LoadsAll specs old new from left result → left.link ≡ from.link
loads_alone [] old new from left result none is = ap (λ (s : Sources). s.link) is.2
loads_alone (spec ∷ specs) [] new from left result none is = absurd is
loads_alone (spec ∷ specs) (layer ∷ old) [] from left result none is = absurd is
loads_alone (spec ∷ specs) (layer ∷ old) (made ∷ new) from left result none is =
    goes_on (left.link ≡ is.1.link) is.0 result (LoadsAll specs old new is.1 left result) ((new ≡ old) × (left ≡ is.1))
    (loads_alone specs old new is.1 left result none.1) (λ last. ap (λ (s : Sources). s.link) last.1) is.3
    ∙ one_alone spec layer made from is.1 is.0 none.0 is.2

pub loaded_alone : (used : Tool) → IsOther used → (path : List ℕ) (conf : Configuration) (old : Sources) (new : Ground) (result : Result (Unit {0}) SourceError) → HasLoaded used path conf old new result → new.sources.link ≡ old.link
loaded_alone used is path conf old new result loaded = loads_alone _ _ _ _ _ _ (loaded_unpiped used is conf loaded.conf_is.unmisused) loaded.loads

-- a run that ends before its tool, or comes to it
pub found_unused : (used : Tool) → IsOther used → (path : List ℕ) (old : Sources) (new : Ground) (how : End) → EndsBefore used path old new how → new.sources.link ≡ old.link
found_unused used is path old new how (inl before) = before.1
found_unused used is path old new how (inr unloaded) = loaded_alone used is path unloaded.conf old new (Err unloaded.error) unloaded.loaded

-- ---- what goes out

unpiped_layer : (layer : LayerState) (b : Bool) → is_pipe layer.sort ≡ b → b ≡ false → piped layer ≡ None
unpiped_layer layer b is none = ap (λ (c : Bool). if c then first_text (images layer) else None) (is ∙ none)

pub none_goes_out : (specs : List LayerSpec) (layers : List LayerState) → AreUnpiped specs → specs_in layers ≡ set_for specs → piped_of layers ≡ None
none_goes_out [] [] none are = refl
none_goes_out [] (layer ∷ layers) none are = absurd (let wrong : kind_of layer ∷ specs_in layers ≡ [] = are in cc)
none_goes_out (spec ∷ specs) [] none are = absurd (let wrong : [] ≡ (spec.sort, Some spec) ∷ set_for specs = are in cc)
none_goes_out (spec ∷ specs) (layer ∷ layers) none are =
    let first : kind_of layer ≡ (spec.sort, Some spec) = cc in
    let rest : specs_in layers ≡ set_for specs = cc in
    let here : piped layer ≡ None = unpiped_layer layer (is_pipe spec.sort) (ap (λ (k : Kind). is_pipe k.0) first) none.0 in
    ap (λ (text : Option (List ℕ)). option_or text (piped_of layers)) here ∙ none_goes_out specs layers none.1 rest

-- the link is left alone where nothing goes out
none_sent : (text : Option (List ℕ)) (old new : LinkState) → text ≡ None → SendsPiped text old new (Ok tt) → new ≡ old
none_sent None old new none is = is.1
none_sent (Some text) old new none is = cc

module _ (used : Tool) (is : IsOther used) (settings : Settings) (old new : World) (outcome : Outcome) (run : HasUsed used settings old new outcome) where
  abbrev left : Ground
  left = ground_of run.left.files run.links.io run.left.layers

  specs : keeps_changes used ≡ true → run.answer.ended ≡ tool.Done → specs_in run.left.layers ≡ set_for (databases_of used run.roots.conf)
  specs keeps ended =
      (tool_keeps used run.roots (begun used (before_rounds (on_ground old run.mid)) run.roots settings) (on_ground old run.mid).links run.links 0 run.answer run.told run.left run.inner run.uses).specs keeps
      (subst Rattle.dc_run.specs.Ends.IsEnded (sym ended) tt)
      ∙ loads_keep _ _ _ _ _ _ run.started.loaded.loads ∙ set_up_specs (databases_of used run.roots.conf)

  nothing : keeps_changes used ≡ true → (ended : ToolEnd) → run.answer.ended ≡ ended → all_done ended (piped_of run.left.layers) ≡ None
  nothing keeps tool.Done ended = none_goes_out (databases_of used run.roots.conf) run.left.layers (unpiped used is run.roots.conf run.started.loaded.conf_is.unmisused) (specs keeps ended)
  nothing keeps tool.LinkFault ended = refl
  nothing keeps tool.TooLong ended = refl
  nothing keeps tool.PrintFault ended = refl
  nothing keeps tool.TermFault ended = refl
  nothing keeps tool.ChildFault ended = refl
  nothing keeps tool.OutOfMemory ended = refl
  nothing keeps (tool.FilesFault path) ended = refl
  nothing keeps (tool.BadWire line) ended = refl

  sent_alone : keeps_changes used ≡ true → (ended : ToolEnd) → run.answer.ended ≡ ended → SendsOf ended left (ground_in new) (Ok tt) → new.links.io ≡ run.links.io
  sent_alone keeps ended e sent = none_sent (all_done ended (piped_of run.left.layers)) run.links.io new.links.io (nothing keeps ended e) sent

  none_unsent : keeps_changes used ≡ true → (ended : ToolEnd) → run.answer.ended ≡ ended → (error : Rattle.dc_outside.specs.declared.link.LinkError.LinkError) → SendsOf ended left (ground_in new) (Err error) → ⊥
  none_unsent keeps ended e error sends = by_text (all_done ended (piped_of run.left.layers)) (nothing keeps ended e) sends where
    by_text : (text : Option (List ℕ)) → text ≡ None → SendsPiped text run.links.io new.links.io (Err error) → ⊥
    by_text None none is = let wrong = is.0 in cc
    by_text (Some text) none is = cc

  stayed : ground_in new ≡ left → new.links.io ≡ run.links.io
  stayed same = ap (λ (g : Ground). g.sources.link) same

  by_end : keeps_changes used ≡ true → (ended : ToolEnd) → run.answer.ended ≡ ended → Finishes left (ground_in new) ended run.how → new.links.io ≡ run.links.io
  by_end keeps tool.Done e (inl saved) = sent_alone keeps tool.Done e saved.sent
  by_end keeps tool.Done e (inr (inl unsaved)) = sent_alone keeps tool.Done e unsaved.sent
  by_end keeps tool.Done e (inr (inr (inl none))) = elim none.sent [
    | inl sent ↦ sent_alone keeps tool.Done e sent
    | inr same ↦ stayed same
  ]
  by_end keeps tool.Done e (inr (inr (inr unsent))) = absurd (none_unsent keeps tool.Done e unsent.error unsent.sends)
  by_end keeps tool.LinkFault e (inl saved) = sent_alone keeps tool.LinkFault e saved.sent
  by_end keeps tool.LinkFault e (inr (inl unsaved)) = sent_alone keeps tool.LinkFault e unsaved.sent
  by_end keeps tool.LinkFault e (inr (inr (inl none))) = elim none.sent [
    | inl sent ↦ sent_alone keeps tool.LinkFault e sent
    | inr same ↦ stayed same
  ]
  by_end keeps tool.LinkFault e (inr (inr (inr unsent))) = absurd (none_unsent keeps tool.LinkFault e unsent.error unsent.sends)
  by_end keeps tool.TooLong e (inl saved) = sent_alone keeps tool.TooLong e saved.sent
  by_end keeps tool.TooLong e (inr (inl unsaved)) = sent_alone keeps tool.TooLong e unsaved.sent
  by_end keeps tool.TooLong e (inr (inr (inl none))) = elim none.sent [
    | inl sent ↦ sent_alone keeps tool.TooLong e sent
    | inr same ↦ stayed same
  ]
  by_end keeps tool.TooLong e (inr (inr (inr unsent))) = absurd (none_unsent keeps tool.TooLong e unsent.error unsent.sends)
  by_end keeps tool.PrintFault e broken = stayed broken.stays
  by_end keeps tool.TermFault e broken = stayed broken.stays
  by_end keeps tool.ChildFault e broken = stayed broken.stays
  by_end keeps tool.OutOfMemory e broken = stayed broken.stays
  by_end keeps (tool.FilesFault path) e broken = stayed broken.stays
  by_end keeps (tool.BadWire line) e broken = stayed broken.stays

  by_keeping : (keeps : Bool) → keeps_changes used ≡ keeps → FinishesWhere keeps left (ground_in new) run.answer.ended run.how → new.links.io ≡ run.links.io
  by_keeping true keeps finishes = by_end keeps run.answer.ended refl finishes
  by_keeping false keeps broken = stayed broken.stays

  -- the run leaves the link as the tool did
  pub io_stays : new.links.io ≡ run.links.io
  io_stays = by_keeping (keeps_changes used) refl run.finishes

  -- and the tool begins with it as the run found it
  pub io_unused : run.mid.sources.link ≡ old.links.io
  io_unused = loaded_alone used is settings.conf_path run.roots.conf (ground_in old).sources run.mid (Ok tt) run.started.loaded
