-- What a run does before its tool.
use Rattle.std.proofs.Common.{◌≡◌, ℕ, zero, suc, take, drop, ◌++◌, Bool, true, false, List, [], ◌∷◌, length, Option, Some, None, Ok, cond, refl, sym, ap, subst, ◌∙◌, inl, inr, arith, if◌then◌else◌}
use Rattle.std.specs.Prelude.{Result, Err, is_some, option_map, option_to_list}
use Rattle.std.specs.List.{AllByRecursion, find, list_all}
use Rattle.std.proofs.lemmas.Bool.{and_parts}
use Rattle.dc_outside.specs.Disk.{Disk}
use Rattle.dc_outside.specs.State.{FilesState}
use Rattle.dc_conf.specs.Configuration.{AreDisjoint, Configuration, HavePlans, IsAnswer, IsOnce}
use Rattle.dc_conf.specs.declared.faults.ConfError.{ConfError}
use Rattle.dc_outside.specs.Disk.{bytes_at}
use Rattle.dc_outside.specs.Steps.{after_look}
use Rattle.dc_outside.specs.declared.files.FilesOp.TheVariants.{Read}
use Rattle.dc_save.specs.Loading.{IsTextAt, text_in}
use Rattle.dc_conf.specs.Plans.{IsOver, are_disjoint}
use Rattle.dc_conf.specs.Trees.{shape}
use Rattle.dc_conf.specs.declared.nodes.Node.{Node}
use Rattle.dc_conf.specs.declared.plans.Plan.{Plan}
use Rattle.dc_conf.specs.declared.plans.Resolved.{Resolved}
use Rattle.dc_conf.specs.declared.spec.LayerSpec.{LayerSpec}
use Rattle.dc_layer.specs.Patterns.{Sought}
use Rattle.dc_conf.specs.Nodes.{driver_line_of}
use Rattle.dc_layer.specs.State.{LayerState, is_pipe}
use Rattle.dc_shelf.specs.Shelves.{LoadsAll, Sources, all_patterns, all_set_up, sources_of}
use Rattle.dc_shelf.specs.declared.loading.SourceError.{SourceError}
use Rattle.dc_cli.specs.declared.tool.CopyWords.{CopyWords}
use Rattle.dc_cli.specs.declared.tool.Tool.{Tool}
use Rattle.dc_cli.specs.declared.tool.Tool.TheVariants.{Communicate, LoadTemplate, Run, Show, CopyDb, SetSelections, GetSelections, Drill, Answer}
use Rattle.dc_run.specs.Inside.{AreApartIn, ArePatternsOf, IsCopyBy, IsMisusedIn, IsResolvedFor, IsUnbuilt, plans_of}
use Rattle.dc_run.specs.Starting.{AreApart, AreDisjointFor, AreOver, EndsUnloaded, ReadsConf, HasEachOnce, HasLoaded, HasReadConf, HasStarted, IsConfiguration, IsCopyIn, IsCopyOver, IsFit, IsPlanIn, are_patterns, conf_read_in, conf_text, databases_of, dest_of, has_files, misused_among, pattern_words, roots, source_of}
use Rattle.dc_run.specs.Ends.{end_of_conf}
use Rattle.dc_run.specs.World.{Ground}
use Rattle.dc_run.specs.declared.outcome.End.{End}
use Rattle.dc_run.specs.Roots.{shaped, shaped_copy}
use Rattle.dc_run.specs.declared.starting.CopyRoots.{CopyRoots as CopyRootsOf}
use Rattle.dc_run.specs.declared.starting.Roots.{Roots as RootsOf}

-- a vector that was changed as a slice
pub whole_slice : {A : Type 0} (new old : List A) (count : ℕ) → count ≡ length old → length new ≡ length old → take count (new ++ drop (length new) old) ≡ new
whole_slice [] [] zero same long = refl
whole_slice [] [] (suc count) same long = refl
whole_slice [] (y ∷ old) count same long = absurd (omega arith)
whole_slice (x ∷ new) [] count same long = absurd (omega arith)
whole_slice (x ∷ new) (y ∷ old) zero same long = absurd (omega arith)
whole_slice (x ∷ new) (y ∷ old) (suc count) same long = ap (λ (l : List _). x ∷ l) (whole_slice new old count (omega arith) (omega arith))

-- ---- what is loaded

-- the configuration of a tool whose words are right
pub fit : (used : Tool) (disk : Option Disk) (path : List ℕ) (conf : Configuration) (resolved : Resolved) → IsConfiguration used disk path conf → IsResolvedFor used conf resolved → misused_among used resolved.specs ≡ None → are_patterns (pattern_words used) ≡ true
    → IsFit used disk path conf
fit used disk path conf resolved conf_is is unmisused patterns =
    record { conf_is = record { conf_is = conf_is; databases = is.right }; unmisused = ap (misused_among used) (sym is.specs_are) ∙ unmisused; patterns = patterns }

module _ (used : Tool) (path : List ℕ) (conf : Configuration) (old : Sources) (mid : FilesState) (left : Sources) (specs : List LayerSpec) (set made : List LayerState) (result : Result (Unit {0}) SourceError) where
  abbrev Loaded : List LayerSpec → List LayerState → Sources → Type 0
  Loaded all begin from = LoadsAll (if has_files used then all else []) begin made from left result

  -- the layers of a configuration were loaded, where they are kept
  pub loaded_by : IsFit used old.files.view.disk path conf → HasReadConf used path old.files mid → specs ≡ databases_of used conf → all_patterns specs ≡ true → set ≡ all_set_up specs → Loaded specs set (sources_of mid old.link)
      → HasLoaded used path conf old (record { sources = left; used = made }) result
  loaded_by conf_is read are built set_is loads =
      let after_set : Loaded specs (all_set_up specs) (sources_of mid old.link) = subst (λ (l : List LayerState). Loaded specs l (sources_of mid old.link)) set_is loads in
      let of_conf : Loaded (databases_of used conf) (all_set_up (databases_of used conf)) (sources_of mid old.link) = subst (λ (s : List LayerSpec). Loaded s (all_set_up s) (sources_of mid old.link)) are after_set in
      let same : mid ≡ (conf_read_in used path old).files = λ i. record { view = read.files_are i; counts = read.counts i } in
      record {
        conf_is = conf_is;
        patterns = subst (λ (s : List LayerSpec). all_patterns s ≡ true) are built;
        loads = subst (λ (f : FilesState). Loaded (databases_of used conf) (all_set_up (databases_of used conf)) (sources_of f old.link)) same of_conf;
      }

-- ---- a tool that has a configuration of its own

-- what is read of a text at the path
pub record HasText (used : Tool) (disk : Option Disk) (path : List ℕ) (answer : Result Configuration ConfError) : Type 0 where
  pub text : List ℕ
  pub text_is : IsTextAt disk path text
  pub reads : IsAnswer (conf_text used text) answer

-- there is a text, whatever it is
some_text : (used : Tool) (disk : Option Disk) (path : List ℕ) (answer : Result Configuration ConfError) → ((text : List ℕ) → IsAnswer (conf_text used text) answer) → HasText used disk path answer
some_text used None path answer reads = record { text = []; text_is = tt; reads = reads [] }
some_text used (Some files) path answer reads = record { text = text_in (bytes_at files path); text_is = refl; reads = reads (text_in (bytes_at files path)) }

pub own_text : (used : Tool) (disk : Option Disk) (path text : List ℕ) (answer : Result Configuration ConfError) → has_files used ≡ false → IsAnswer (conf_text used text) answer → HasText used disk path answer
own_text (Drill count) disk path text answer none reads = some_text (Drill count) disk path answer (λ other. reads)
own_text (Answer command) disk path text answer none reads = some_text (Answer command) disk path answer (λ other. reads)
own_text (Communicate owner) disk path text answer none reads = absurd (cc)
own_text (LoadTemplate owner paths) disk path text answer none reads = absurd (cc)
own_text (Run owner frontend priority command) disk path text answer none reads = absurd (cc)
own_text (Show database shown) disk path text answer none reads = absurd (cc)
own_text (CopyDb copy) disk path text answer none reads = absurd (cc)
own_text (SetSelections verbose check unseen) disk path text answer none reads = absurd (cc)
own_text GetSelections disk path text answer none reads = absurd (cc)

-- and no file is read
pub unread_conf : (used : Tool) (path : List ℕ) (old : FilesState) → has_files used ≡ false → HasReadConf used path old old
unread_conf used path old none = record { files_are = sym (ap (λ (is : Bool). if is then after_look old.view Read path true else old.view) none); counts = refl }

pub own_conf : (used : Tool) (path text : List ℕ) (old : FilesState) (conf : Configuration) → has_files used ≡ false → IsAnswer (conf_text used text) (Ok conf) → ReadsConf used path old old (Ok conf)
own_conf used path text old conf none reads =
    let has = own_text used old.view.disk path text (Ok conf) none reads in
    (record { text = has.text; text_is = has.text_is; reads = has.reads }, unread_conf used path old none)

pub own_refused : (used : Tool) (path text : List ℕ) (old : FilesState) (error : ConfError) (how : End) → has_files used ≡ false → IsAnswer (conf_text used text) (Err error) → how ≡ end_of_conf error → ReadsConf used path old old (Err how)
own_refused used path text old error how none reads is =
    let has = own_text used old.view.disk path text (Err error) none reads in
    inr (inr (record { error = error; end_is = is; text = has.text; text_is = has.text_is; refused = has.reads; read = unread_conf used path old none }))

-- ---- the ends before the tool

module _ (used : Tool) (path : List ℕ) (conf : Configuration) (old mid : FilesState) (how : End) where
  -- a word isn't built
  pub unbuilt_ends : (resolved : Resolved) → IsConfiguration used old.view.disk path conf → HasReadConf used path old mid → IsResolvedFor used conf resolved → IsUnbuilt (pattern_words used) how → EndsUnloaded used path old mid how
  unbuilt_ends resolved conf_is read is (inl e) = inl (record { end_is = e; begun = inr read })
  unbuilt_ends resolved conf_is read is (inr at) = inr (inr (inr (inr (inr (inl (record {
    error = at.error;
    before = at.before;
    word = at.word;
    after = at.after;
    end_is = at.end_is;
    conf = conf;
    conf_is = record { conf_is = conf_is; databases = is.right };
    words_are = at.words_are;
    built = at.built;
    refused = at.refused;
    read = read;
  }))))))

  -- a pipe is misused
  pub misused_ends : (resolved : Resolved) (specs : List LayerSpec) → specs ≡ resolved.specs → IsConfiguration used old.view.disk path conf → HasReadConf used path old mid → IsResolvedFor used conf resolved → IsMisusedIn used conf specs how
      → EndsUnloaded used path old mid how
  misused_ends resolved specs are conf_is read is at = inr (inr (inr (inr (inl (record {
    spec = at.spec;
    line = at.line;
    end_is = at.end_is;
    conf = conf;
    conf_is = record { conf_is = conf_is; databases = is.right };
    misused = ap (misused_among used) (sym (are ∙ is.specs_are)) ∙ at.misused;
    line_is = at.line_is;
    read = read;
  })))))

-- ---- what a tool takes from the configuration

-- the roots of a tool, of these plans and by these patterns
pub record AreRootsOf (used : Tool) (conf : Configuration) (plans : List Plan) (by_name by_owner : Option Sought) (taken : RootsOf) : Type 0 where
  pub conf_is : taken.conf ≡ conf
  pub plans_are : plans_of taken ≡ plans
  pub copy_is : IsCopyBy used by_name by_owner taken.copy

-- what is copied into
abbrev dests : Option CopyRootsOf → List Plan
dests made = option_to_list (option_map (λ copy. copy.dest) made)

abbrev HaveDest : Tool → Configuration → Option CopyRootsOf → Type 0
HaveDest used conf made = HavePlans conf.nodes (databases_of used conf) (dests made) (dest_of used)

none_copied : (made : Option CopyRootsOf) → made ≡ None → option_map shaped_copy made ≡ None
none_copied made is = ap (option_map shaped_copy) is

-- what is copied by the patterns of a tool
copied : (used : Tool) (conf : Configuration) (by_name by_owner : Option Sought) (made : Option CopyRootsOf) → ArePatternsOf used by_name by_owner → IsCopyBy used by_name by_owner made
    → HaveDest used conf made → IsCopyIn used conf (option_map shaped_copy made)
copied (Communicate owner) conf by_name by_owner made are is have = none_copied made is
copied (LoadTemplate owner paths) conf by_name by_owner made are is have = none_copied made is
copied (Run owner frontend priority command) conf by_name by_owner made are is have = none_copied made is
copied (Show database shown) conf by_name by_owner made are is have = none_copied made is
copied (CopyDb copy) conf by_name by_owner made are is have =
    subst (λ (m : Option CopyRootsOf). HaveDest (CopyDb copy) conf m → IsCopyIn (CopyDb copy) conf (option_map shaped_copy m)) (sym is.1)
    (λ there. record { dest = there.0; by_name = are.0; by_owner = are.1 }) have
copied (SetSelections verbose check unseen) conf by_name by_owner made are is have = none_copied made is
copied GetSelections conf by_name by_owner made are is have = none_copied made is
copied (Drill count) conf by_name by_owner made are is have = none_copied made is
copied (Answer command) conf by_name by_owner made are is have = none_copied made is

copy_once : (made : Option CopyRootsOf) → AllByRecursion IsOnce (dests made) → AllByRecursion HasEachOnce (option_to_list (option_map (λ copy. copy.dest) (option_map shaped_copy made)))
copy_once None once = tt
copy_once (Some copy) once = once

-- the plans of questions and of templates alone
two_apart : (config templates : Plan) (made : Option CopyRootsOf) → made ≡ None → AreDisjoint (config ∷ templates ∷ dests made) → are_disjoint (shape config) (shape templates) ≡ true
two_apart config templates made none apart = subst (λ (m : Option CopyRootsOf). AreDisjoint (config ∷ templates ∷ dests m)) none apart

apart_by : (used : Tool) (by_name by_owner : Option Sought) (taken : RootsOf) (count : ℕ) → IsCopyBy used by_name by_owner taken.copy → AllByRecursion (λ plan. IsOver (shape plan) count) (plans_of taken)
    → AreApartIn used (plans_of taken) → AreApart used (shaped taken) count
apart_by (Communicate owner) by_name by_owner taken count is over apart = two_apart taken.config taken.templates taken.copy is apart
apart_by (LoadTemplate owner paths) by_name by_owner taken count is over apart = two_apart taken.config taken.templates taken.copy is apart
apart_by (Run owner frontend priority command) by_name by_owner taken count is over apart = two_apart taken.config taken.templates taken.copy is apart
apart_by (Show database shown) by_name by_owner taken count is over apart = tt
apart_by (CopyDb copy) by_name by_owner taken count is over apart =
    subst (λ (m : Option CopyRootsOf). AllByRecursion (λ plan. IsOver (shape plan) count) (dests m) → AreApartIn (CopyDb copy) (taken.config ∷ taken.templates ∷ dests m)
    → IsCopyOver (option_map shaped_copy m) (shape taken.config) count) (sym is.1)
    (λ more too. (more.0, too)) over.1.1 apart
apart_by (SetSelections verbose check unseen) by_name by_owner taken count is over apart = two_apart taken.config taken.templates taken.copy is apart
apart_by GetSelections by_name by_owner taken count is over apart = two_apart taken.config taken.templates taken.copy is apart
apart_by (Drill questions) by_name by_owner taken count is over apart = two_apart taken.config taken.templates taken.copy is apart
apart_by (Answer command) by_name by_owner taken count is over apart = two_apart taken.config taken.templates taken.copy is apart

disjoint_for : (used : Tool) (taken : RootsOf) (count : ℕ) → AreApart used (shaped taken) count → AreDisjointFor used (shaped taken)
disjoint_for (Communicate owner) taken count apart = apart
disjoint_for (LoadTemplate owner paths) taken count apart = apart
disjoint_for (Run owner frontend priority command) taken count apart = apart
disjoint_for (Show database shown) taken count apart = tt
disjoint_for (CopyDb copy) taken count apart = tt
disjoint_for (SetSelections verbose check unseen) taken count apart = apart
disjoint_for GetSelections taken count apart = apart
disjoint_for (Drill questions) taken count apart = apart
disjoint_for (Answer command) taken count apart = apart

module _ (used : Tool) (conf : Configuration) (resolved : Resolved) (by_name by_owner : Option Sought) (taken : RootsOf) (are : AreRootsOf used conf resolved.plans by_name by_owner taken) (is : IsResolvedFor used conf resolved) where
  -- of the plans of the roots what is of all that were resolved
  of_taken : (P : List Plan → Type 0) → P resolved.plans → P (plans_of taken)
  of_taken P given = subst P (sym are.plans_are) given

  have : HavePlans conf.nodes (databases_of used conf) (plans_of taken) (roots used conf)
  have = of_taken (λ plans. HavePlans conf.nodes (databases_of used conf) plans (roots used conf)) is.plans_are

  all_over : (count : ℕ) → count ≡ length resolved.specs → AllByRecursion (λ plan. IsOver (shape plan) count) (plans_of taken)
  all_over count same =
      of_taken (AllByRecursion (λ plan. IsOver (shape plan) count)) (subst (λ n. AllByRecursion (λ plan. IsOver (shape plan) n) resolved.plans) (sym same) is.over)

  pub over_used : (count : ℕ) → count ≡ length resolved.specs → AreOver (shaped taken) count
  over_used count same = let all = all_over count same in record { config = all.0; templates = all.1.0 }

  pub apart_used : (count : ℕ) → count ≡ length resolved.specs → AreApart used (shaped taken) count
  apart_used count same = apart_by used by_name by_owner taken count are.copy_is (all_over count same) (of_taken (AreApartIn used) is.apart)

  pub started : (path : List ℕ) (old : Sources) (new : Ground) → ArePatternsOf used by_name by_owner → HasLoaded used path conf old new (Ok tt) → HasStarted used path old new (shaped taken)
  started path old new patterns loaded =
      let once = of_taken (AllByRecursion IsOnce) is.once in
      record {
        loaded = subst (λ found. HasLoaded used path found old new (Ok tt)) (sym are.conf_is) loaded;
        config_is = subst (λ found. IsPlanIn used found (shape taken.config) (source_of used found)) (sym are.conf_is) have.0;
        templates_is = subst (λ found. IsPlanIn used found (shape taken.templates) found.templates) (sym are.conf_is) have.1.0;
        copy_is = subst (λ found. IsCopyIn used found (option_map shaped_copy taken.copy)) (sym are.conf_is) (copied used conf by_name by_owner taken.copy patterns are.copy_is have.1.1);
        once = (once.0, (once.1.0, copy_once taken.copy once.1.1));
        apart = disjoint_for used taken (length resolved.specs) (apart_used (length resolved.specs) refl);
      }

-- there are as many plans as names
pub as_many : (nodes : List Node) (specs : List LayerSpec) (plans : List Plan) (names : List (List ℕ)) → HavePlans nodes specs plans names → length plans ≡ length names
as_many nodes specs [] [] have = refl
as_many nodes specs [] (name ∷ names) have = ap length (sym have)
as_many nodes specs (plan ∷ plans) [] have = absurd have
as_many nodes specs (plan ∷ plans) (name ∷ names) have = let rest = as_many nodes specs plans names have.1 in omega (arith, rest)

-- ---- databases through pipes

-- of a tool that doesn't copy the first pipe is misused
pub other_misuses : (used : Tool) (specs : List LayerSpec) → ((copy : CopyWords) → used ≡ CopyDb copy → ⊥) → misused_among used specs ≡ find (λ spec. is_pipe spec.sort) specs
other_misuses (Communicate owner) specs none = refl
other_misuses (LoadTemplate owner paths) specs none = refl
other_misuses (Run owner frontend priority command) specs none = refl
other_misuses (Show database shown) specs none = refl
other_misuses (CopyDb copy) specs none = absurd (none copy refl)
other_misuses (SetSelections verbose check unseen) specs none = refl
other_misuses GetSelections specs none = refl
other_misuses (Drill count) specs none = refl
other_misuses (Answer command) specs none = refl

-- what is found is one of them, and so is what is said of all
found_is : (P Q : LayerSpec → Bool) (specs : List LayerSpec) (spec : LayerSpec) → find P specs ≡ Some spec → list_all Q specs ≡ true → Q spec ≡ true
found_is P Q [] spec found all = cc
found_is P Q (first ∷ specs) spec found all =
    let both = and_parts (Q first) (list_all Q specs) all in
    elim (P first) as (λ b. cond b (Some first) (find P specs) ≡ Some spec → Q spec ≡ true) [
      | true ↦ λ is. (let same : first ≡ spec = cc in ap Q (sym same) ∙ both.0)
      | false ↦ λ is. found_is P Q specs spec is both.1
    ] found

some_misused : (used : Tool) (specs : List LayerSpec) (spec : LayerSpec) → misused_among used specs ≡ Some spec → (copy : CopyWords) → used ≡ CopyDb copy → ⊥
some_misused used specs spec found copy is = let wrong : None ≡ Some spec = ap (λ (u : Tool). misused_among u specs) (sym is) ∙ found in cc

-- the line of the driver of what is misused is known
pub misused_line : (used : Tool) (nodes : List Node) (specs : List LayerSpec) (spec : LayerSpec) → misused_among used specs ≡ Some spec → list_all (λ s. is_some (driver_line_of nodes s.name)) specs ≡ true
    → is_some (driver_line_of nodes spec.name) ≡ true
misused_line used nodes specs spec found made =
    found_is (λ s. is_pipe s.sort) (λ s. is_some (driver_line_of nodes s.name)) specs spec (sym (other_misuses used specs (some_misused used specs spec found)) ∙ found) made

pub no_line : (line : Option ℕ) → line ≡ None → is_some line ≡ true → ⊥
no_line line none some = let wrong : false ≡ true = sym (ap is_some none) ∙ some in cc
