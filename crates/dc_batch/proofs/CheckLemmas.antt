-- What the reader sees of the lines so far, and the fault that it finds.
use Rattle.std.proofs.Common.{◌≡◌, ℕ, ◌+◌, Bool, true, false, cond, not, ◌&&◌, List, [], ◌∷◌, ◌++◌, length, map as each, Some, None, Option, Ok, Err, refl, sym, ap, ◌∙◌, subst, arith}
use Rattle.std.specs.Prelude.{◌||◌, MatchResult, is_some, nat_le, option_to_list}
use Rattle.std.specs.List.{list_any, filter, filter_map, cons_option}
use Rattle.std.specs.Option.{option_map}
use Rattle.std.specs.Str.{bytes_eq}
use Rattle.std.proofs.lemmas.List.{append-nil, map-append, length-append}
use Rattle.std.proofs.lemmas.List.Elements.{filter_map-append}
use Rattle.dc_text.specs.Bytes.{is_nil}
use Rattle.dc_text.specs.Faults.{AllStand, IsFirstFault, run}
use Rattle.dc_text.specs.Names.{is_name}
use Rattle.dc_text.proofs.FaultLemmas.{run_finds}
use Rattle.dc_words.specs.Words.{plain_words_of}
use Rattle.dc_batch.specs.Forms.{forms}
use Rattle.dc_batch.specs.Jobs.{stanzas, is_field, value_in, has_field, values_of, value_at}
use Rattle.dc_batch.specs.JobFaults.{since_blank, until_blank, has_work, fault, Stands, HasFault}
use Rattle.dc_batch.specs.Machine.{is_set, with_field, job_from, is_taken, field_fault, fault_seen, opened, noted, at_start, step_by, step}
use Rattle.dc_batch.proofs.TestLemmas.{neither, not-not}
use Rattle.dc_batch.proofs.StanzaLemmas.{since_blank-blank, since_blank-push, not_nil, parts, parts-blank, parts-push, value-new, value-kept, value_some}
use Rattle.dc_batch.specs.declared.draft.Draft.{Draft}
use Rattle.dc_batch.specs.declared.faults.JobKind.{JobKind}
use Rattle.dc_batch.specs.declared.faults.JobKind.TheVariants.{Twice, TooMany, NoPackage, BadName, EmptyField, NoWork}
use Rattle.dc_batch.specs.declared.forms.Field.{Field}
use Rattle.dc_batch.specs.declared.forms.Field.TheVariants.{Package, Templates, Config}
use Rattle.dc_batch.specs.declared.forms.Form.{Form}
use Rattle.dc_batch.specs.declared.forms.Form.TheVariants.{Blank, Colonless, Unknown, Sets}
use Rattle.dc_batch.specs.declared.forms.Line.{Line}
use Rattle.dc_batch.specs.declared.job.Job.{Job}
use Rattle.dc_batch.specs.declared.reading.Reader.{Reader}

-- ---- a stanza

-- the fields of a stanza
abbrev pub draft_of : List Form → Draft
draft_of stanza = record { name = value_at Package stanza; templates = value_at Templates stanza; command = option_map plain_words_of (value_at Config stanza) }

-- its job, where it has a package
abbrev pub job_in : List Form → Option Job
job_in stanza = job_from (draft_of stanza)

abbrev pub names_of : List Job → List (List ℕ)
names_of jobs = each (λ (job : Job). job.package) jobs

some_map : (o : Option (List ℕ)) → is_some (option_map plain_words_of o) ≡ is_some o
some_map None = refl
some_map (Some x) = refl

set_same : (field : Field) (stanza : List Form) → is_set (draft_of stanza) field ≡ has_field field stanza
set_same Package stanza = value_some Package stanza
set_same Templates stanza = value_some Templates stanza
set_same Config stanza = some_map (value_at Config stanza) ∙ value_some Config stanza

-- the field of a line more
draft-push : (field : Field) (value : List ℕ) (stanza : List Form) → has_field field stanza ≡ false → with_field (draft_of stanza) field value ≡ draft_of (stanza ++ Sets field value ∷ [])
draft-push Package value stanza h = λ i. record {
  name = sym (value-new Package value stanza h) i;
  templates = sym (value-kept Templates (Sets Package value) stanza refl) i;
  command = option_map plain_words_of (sym (value-kept Config (Sets Package value) stanza refl) i);
}
draft-push Templates value stanza h = λ i. record {
  name = sym (value-kept Package (Sets Templates value) stanza refl) i;
  templates = sym (value-new Templates value stanza h) i;
  command = option_map plain_words_of (sym (value-kept Config (Sets Templates value) stanza refl) i);
}
draft-push Config value stanza h = λ i. record {
  name = sym (value-kept Package (Sets Config value) stanza refl) i;
  templates = sym (value-kept Templates (Sets Config value) stanza refl) i;
  command = option_map plain_words_of (sym (value-new Config value stanza h) i);
}

-- ---- stanzas

abbrev pub some_of : List (List Form) → List (List Form)
some_of ps = filter (λ p. not (is_nil p)) ps

some_of-append : (ps qs : List (List Form)) → some_of (ps ++ qs) ≡ some_of ps ++ some_of qs
some_of-append [] qs = refl
some_of-append (p ∷ ps) qs = elim (not (is_nil p)) as (λ b. cond b (p ∷ some_of (ps ++ qs)) (some_of (ps ++ qs)) ≡ cond b (p ∷ some_of ps) (some_of ps) ++ some_of qs) [
  | true ↦ ap (λ (rs : List (List Form)). p ∷ rs) (some_of-append ps qs)
  | false ↦ some_of-append ps qs
]

-- how many stanzas there are with these parts, the last of which may be empty
stanza_count : (ps : List (List Form)) (p : List Form) → length (some_of (ps ++ p ∷ [])) ≡ length (some_of ps) + cond (is_nil p) 0 1
stanza_count ps [] = ap length (some_of-append ps ([] ∷ [])) ∙ length-append (some_of ps) []
stanza_count ps (f ∷ p) = ap length (some_of-append ps ((f ∷ p) ∷ [])) ∙ length-append (some_of ps) ((f ∷ p) ∷ [])

-- ---- what was seen of some lines

pub record Sees (before : List Form) (s : Reader) : Type 0 where
  pub ended : List (List Form)
  pub whole : parts before ≡ ended ++ since_blank before ∷ []
  pub jobs : s.jobs ≡ filter_map job_in ended
  pub begun : s.begun ≡ length (stanzas before)
  pub opened : s.is_open ≡ not (is_nil (since_blank before))
  pub draft : s.draft ≡ draft_of (since_blank before)
  pub names : values_of Package before ≡ names_of s.jobs ++ option_to_list s.draft.name

-- ---- the fault

pub any_each : (name : List ℕ) (jobs : List Job) → is_taken jobs name ≡ list_any (bytes_eq name) (names_of jobs)
any_each name [] = refl
any_each name (job ∷ jobs) = ap (λ b. bytes_eq name job.package || b) (any_each name jobs)

-- a package stands twice where its stanza has one or a job has it
twice_by : (name : Option (List ℕ)) (jobs : List Job) (value : List ℕ) → (is_some name || is_taken jobs value) ≡ (is_some name || list_any (bytes_eq value) (names_of jobs ++ option_to_list name))
twice_by None jobs value = any_each value jobs ∙ ap (list_any (bytes_eq value)) (sym (append-nil (names_of jobs)))
twice_by (Some name) jobs value = refl

twice_same : (before : List Form) (s : Reader) (field : Field) (value : List ℕ) → Sees before s
    → (is_set s.draft field || (is_field Package field && is_taken s.jobs value)) ≡ (has_field field (since_blank before) || (is_field Package field && list_any (bytes_eq value) (values_of Package before)))
twice_same before s Package value h =
    twice_by s.draft.name s.jobs value ∙ (λ i. is_some s.draft.name || list_any (bytes_eq value) (sym h.names i))
    ∙ ap (λ b. b || list_any (bytes_eq value) (values_of Package before)) (ap (λ (d : Draft). is_set d Package) h.draft ∙ set_same Package (since_blank before))
twice_same before s Templates value h = ap (λ b. b || false) (ap (λ (d : Draft). is_set d Templates) h.draft ∙ set_same Templates (since_blank before))
twice_same before s Config value h = ap (λ b. b || false) (ap (λ (d : Draft). is_set d Config) h.draft ∙ set_same Config (since_blank before))

begins_same : (before : List Form) (s : Reader) → Sees before s → not s.is_open ≡ is_nil (since_blank before)
begins_same before s h = ap not h.opened ∙ not-not (is_nil (since_blank before))

-- what is seen tells the fault
pub fault_same : (before : List Form) (s : Reader) (line : Form) (after : List Form) → Sees before s → fault_seen s line after ≡ fault before line after
fault_same before s Blank after h = refl
fault_same before s Colonless after h = refl
fault_same before s Unknown after h = refl
fault_same before s (Sets field value) after h = λ i.
    cond (twice_same before s field value h i) (Some Twice)
    (cond (begins_same before s h i && nat_le 256 (h.begun i)) (Some TooMany)
    (cond (begins_same before s h i && not (has_field Package (Sets field value ∷ until_blank after))) (Some NoPackage)
    (cond (is_field Package field && not (is_name value)) (Some BadName)
    (cond (not (is_field Package field) && is_nil value) (Some EmptyField)
    (cond (begins_same before s h i && not (has_work (Sets field value ∷ until_blank after))) (Some NoWork) None)))))

-- ---- a line that is taken

-- the line of a field without a fault
pub record IsTaken (s : Reader) (field : Field) (value : List ℕ) (after : List Form) : Type 0 where
  pub once : (is_set s.draft field || (is_field Package field && is_taken s.jobs value)) ≡ false
  pub room : (not s.is_open && nat_le 256 s.begun) ≡ false
  pub has_package : (not s.is_open && not (has_field Package (Sets field value ∷ until_blank after))) ≡ false
  pub named : (is_field Package field && not (is_name value)) ≡ false
  pub some : (not (is_field Package field) && is_nil value) ≡ false
  pub works : (not s.is_open && not (has_work (Sets field value ∷ until_blank after))) ≡ false

none_of : (a b c d e f : Bool) → cond a (Some Twice) (cond b (Some TooMany) (cond c (Some NoPackage) (cond d (Some BadName) (cond e (Some EmptyField) (cond f (Some NoWork) None))))) ≡ None
    → (a ≡ false) × (b ≡ false) × (c ≡ false) × (d ≡ false) × (e ≡ false) × (f ≡ false)
none_of true b c d e f h = absurd (cc)
none_of false true c d e f h = absurd (cc)
none_of false false true d e f h = absurd (cc)
none_of false false false true e f h = absurd (cc)
none_of false false false false true f h = absurd (cc)
none_of false false false false false true h = absurd (cc)
none_of false false false false false false h = (refl, refl, refl, refl, refl, refl)

pub is_taken_line : (s : Reader) (field : Field) (value : List ℕ) (after : List Form) → field_fault s field value after ≡ None → IsTaken s field value after
is_taken_line s field value after e = let f = none_of _ _ _ _ _ _ e in record { once = f.0; room = f.1; has_package = f.2; named = f.3; some = f.4; works = f.5 }

pub opened_jobs : (s : Reader) → (opened s).jobs ≡ s.jobs
opened_jobs s = elim s.is_open as (λ b. (let t : Reader = cond b s (record s { begun = s.begun + 1; is_open = true }) in t.jobs) ≡ s.jobs) [ true ↦ refl | false ↦ refl ]

pub opened_open : (s : Reader) → (opened s).is_open ≡ true
opened_open s = elim s.is_open as (λ b. s.is_open ≡ b → (let t : Reader = cond b s (record s { begun = s.begun + 1; is_open = true }) in t.is_open) ≡ true) [ true ↦ λ e. e | false ↦ λ e. refl ] refl

pub opened_begun : (s : Reader) → (opened s).begun ≡ s.begun + cond s.is_open 0 1
opened_begun s = elim s.is_open as (λ b. (let t : Reader = cond b s (record s { begun = s.begun + 1; is_open = true }) in t.begun) ≡ s.begun + cond b 0 1) [ true ↦ omega arith | false ↦ refl ]

name_taken : (jobs : List Job) (draft : Draft) → names_of (jobs ++ option_to_list (job_from draft)) ++ [] ≡ names_of jobs ++ option_to_list draft.name
name_taken jobs draft = append-nil (names_of (jobs ++ option_to_list (job_from draft))) ∙ map-append (λ (job : Job). job.package) jobs (option_to_list (job_from draft)) ∙ by_name draft.name where
  by_name : (name : Option (List ℕ)) → names_of jobs ++ names_of (option_to_list (option_map (λ n. record { «package» = n; templates = draft.templates; command = Rattle.std.specs.Prelude.unwrap_or draft.command [] }) name)) ≡ names_of jobs ++ option_to_list name
  by_name None = refl
  by_name (Some n) = refl

names-push : (jobs : List Job) (draft : Draft) (before : List Form) (field : Field) (value : List ℕ) → is_set draft field ≡ false → values_of Package before ≡ names_of jobs ++ option_to_list draft.name
    → values_of Package (before ++ Sets field value ∷ []) ≡ names_of jobs ++ option_to_list (with_field draft field value).name
names-push jobs draft before Package value off h =
    filter_map-append (value_in Package) before (Sets Package value ∷ []) ∙ ap (λ ns. ns ++ value ∷ []) (h ∙ ap (λ (o : Option (List ℕ)). names_of jobs ++ option_to_list o) (no_name draft.name off) ∙ append-nil (names_of jobs)) where
      no_name : (o : Option (List ℕ)) → is_some o ≡ false → o ≡ None
      no_name None e = refl
      no_name (Some n) e = absurd (cc)
names-push jobs draft before Templates value off h = filter_map-append (value_in Package) before (Sets Templates value ∷ []) ∙ append-nil (values_of Package before) ∙ h
names-push jobs draft before Config value off h = filter_map-append (value_in Package) before (Sets Config value ∷ []) ∙ append-nil (values_of Package before) ∙ h

cons_none : (o : Option Job) → cons_option o [] ≡ option_to_list o
cons_none None = refl
cons_none (Some job) = refl

pub noted_sees : (before : List Form) (s : Reader) (line : Form) (after : List Form) → Sees before s → fault_seen s line after ≡ None → Sees (before ++ line ∷ []) (noted s line)
noted_sees before s Blank after h e = record {
  ended = h.ended ++ since_blank before ∷ [];
  whole = parts-blank before ∙ (λ i. h.whole i ++ sym (since_blank-blank before) i ∷ []);
  jobs = (λ i. h.jobs i ++ option_to_list (job_from (h.draft i))) ∙ ap (λ js. filter_map job_in h.ended ++ js) (sym (cons_none (job_in (since_blank before)))) ∙ sym (filter_map-append job_in h.ended (since_blank before ∷ []));
  begun = h.begun ∙ ap length (sym (append-nil (stanzas before)) ∙ sym (some_of-append (parts before) ([] ∷ [])) ∙ ap some_of (sym (parts-blank before)));
  opened = ap (λ g. not (is_nil g)) (sym (since_blank-blank before));
  draft = ap draft_of (sym (since_blank-blank before));
  names = filter_map-append (value_in Package) before (Blank ∷ []) ∙ append-nil (values_of Package before) ∙ h.names ∙ sym (name_taken s.jobs s.draft);
}
noted_sees before s Colonless after h e = absurd (cc)
noted_sees before s Unknown after h e = absurd (cc)
noted_sees before s (Sets field value) after h e =
    let is : IsTaken s field value after = is_taken_line s field value after e in
    let off : is_set s.draft field ≡ false = (neither _ _ is.once).0 in
    let none : has_field field (since_blank before) ≡ false = sym (ap (λ (d : Draft). is_set d field) h.draft ∙ set_same field (since_blank before)) ∙ off in
    let push : since_blank (before ++ Sets field value ∷ []) ≡ since_blank before ++ Sets field value ∷ [] = since_blank-push before (Sets field value) refl in
    let pushed : parts (before ++ Sets field value ∷ []) ≡ h.ended ++ (since_blank before ++ Sets field value ∷ []) ∷ [] = parts-push before (Sets field value) h.ended (since_blank before) refl h.whole in
    record {
      ended = h.ended;
      whole = pushed ∙ ap (λ p. h.ended ++ p ∷ []) (sym push);
      jobs = opened_jobs s ∙ h.jobs;
      begun = opened_begun s
          ∙ (λ i. h.begun i + cond (h.opened i) 0 1)
          ∙ ap (λ n. n + cond (not (is_nil (since_blank before))) 0 1) (ap (λ ps. length (some_of ps)) h.whole ∙ stanza_count h.ended (since_blank before))
          ∙ one_more (length (some_of h.ended)) (is_nil (since_blank before))
          ∙ sym (ap (λ ps. length (some_of ps)) pushed ∙ stanza_count h.ended (since_blank before ++ Sets field value ∷ []) ∙ ap (λ b. length (some_of h.ended) + cond b 0 1) (not_nil (since_blank before) (Sets field value)));
      opened = opened_open s ∙ sym (ap (λ g. not (is_nil g)) push ∙ ap not (not_nil (since_blank before) (Sets field value)));
      draft = ap (λ d. with_field d field value) h.draft ∙ draft-push field value (since_blank before) none ∙ ap draft_of (sym push);
      names = names-push s.jobs s.draft before field value off h.names ∙ ap (λ js. names_of js ++ option_to_list (with_field s.draft field value).name) (sym (opened_jobs s));
    } where
      one_more : (n : ℕ) (b : Bool) → (n + cond b 0 1) + cond (not b) 0 1 ≡ n + 1
      one_more n true = omega arith
      one_more n false = omega arith

-- ---- over numbered lines

abbrev pub Holds : List Line → Reader → Type 0
Holds before s = Sees (forms before) s

-- what a step says
pub step_ok : (found : Option JobKind) (s t : Reader) (line : Line) → step_by found s line ≡ Ok t → (found ≡ None) × (noted s line.form ≡ t)
step_ok None s t line e = (refl, cc)
step_ok (Some kind) s t line e = absurd (cc)

step_err : (found : Option JobKind) (s : Reader) (line : Line) (f : Line × JobKind) → step_by found s line ≡ Err f → (f.0 ≡ line) × (found ≡ Some f.1)
step_err None s line f e = absurd (cc)
step_err (Some kind) s line f e = let same : ◌≡◌ {A = Line × JobKind} (line, kind) f = cc in (ap (λ (p : Line × JobKind). p.0) (sym same), ap (λ (p : Line × JobKind). Some p.1) same)

taken : (before : List Line) (s : Reader) (l : Line) (after : List Line) (t : Reader) → Holds before s → step s l after ≡ Ok t → Stands before l after × Holds (before ++ l ∷ []) t
taken before s l after t h e =
    let f : (fault_seen s l.form (forms after) ≡ None) × (noted s l.form ≡ t) = step_ok (fault_seen s l.form (forms after)) s t l e in (
      sym (fault_same (forms before) s l.form (forms after) h) ∙ f.0,
      subst (λ fs. Sees fs t) (sym (map-append (λ (m : Line). m.form) before (l ∷ []))) (subst (Sees (forms before ++ l.form ∷ [])) f.1 (noted_sees (forms before) s l.form (forms after) h f.0)),
    )

refused : (before : List Line) (s : Reader) (l : Line) (after : List Line) (f : Line × JobKind) → Holds before s → step s l after ≡ Err f → (f.0 ≡ l) × HasFault before l after f.1
refused before s l after f h e =
    let g : (f.0 ≡ l) × (fault_seen s l.form (forms after) ≡ Some f.1) = step_err (fault_seen s l.form (forms after)) s l f e in
    (g.0, sym (fault_same (forms before) s l.form (forms after) h) ∙ g.1)

sees_start : Sees [] at_start
sees_start = record { ended = []; whole = refl; jobs = refl; begun = refl; opened = refl; draft = refl; names = refl }

-- the reader takes all lines, and each stands, or it finds the first fault
pub machine : (lines : List Line) → MatchResult (run step lines at_start) (λ t. Holds lines t × AllStand Stands lines) (λ f. IsFirstFault Stands HasFault lines f.0 f.1)
machine lines = run_finds step Stands HasFault Holds taken refused lines at_start sees_start
