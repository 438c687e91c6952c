-- What is read are jobs: one for each stanza.
use Rattle.std.proofs.Common.{◌≡◌, ℕ, suc, ◌+◌, ◌≤◌, Bool, true, false, cond, not, ◌&&◌, List, [], ◌∷◌, ◌++◌, length, map as each, Some, None, Option, Ok, Err, refl, sym, ap, ◌∙◌, subst, arith}
use Rattle.std.specs.Prelude.{◌||◌, is_some, nat_le, option_to_list, unwrap_or}
use Rattle.std.specs.List.{list_any, filter_map, cons_option, AllByRecursion}
use Rattle.std.specs.Option.{option_map}
use Rattle.std.specs.Str.{bytes_eq}
use Rattle.std.proofs.lemmas.Bool.Decides.{nat_tests}
use Rattle.std.proofs.lemmas.List.{append-nil, map-append, length-append}
use Rattle.std.proofs.lemmas.List.Elements.{filter_map-append}
use Rattle.std.proofs.lemmas.Result.{MatchResult-at_ok}
use Rattle.dc_text.specs.Bytes.{is_nil}
use Rattle.dc_text.specs.Faults.{AllStand, IsFirstFault, run, goes_on}
use Rattle.dc_text.specs.Maps.{AreDistinct}
use Rattle.dc_text.specs.Names.{is_name}
use Rattle.dc_text.proofs.FirstLemmas.{before_first-later}
use Rattle.dc_words.specs.Words.{plain_words_of}
use Rattle.dc_batch.specs.Forms.{forms, lines_in}
use Rattle.dc_batch.specs.Jobs.{is_blank_form, stanzas, is_field, has_field, value_at, job_of, jobs_in}
use Rattle.dc_batch.specs.JobFaults.{until_blank, has_work, Stands, HasFault}
use Rattle.dc_batch.specs.Machine.{no_fields, with_field, job_from, is_taken, fault_seen, closed, noted, at_start, step}
use Rattle.dc_batch.specs.Printed.{IsValue, IsCommandWord, IsJob, AreJobs}
use Rattle.dc_batch.proofs.TestLemmas.{neither, or-true, not_false, all-append, distinct-push}
use Rattle.dc_batch.proofs.StanzaLemmas.{parts}
use Rattle.dc_batch.proofs.ValueLemmas.{IsLineForm, lines_are, are_words}
use Rattle.dc_batch.proofs.CheckLemmas.{job_in, names_of, some_of, any_each, IsTaken, is_taken_line, opened_jobs, opened_open, opened_begun, Holds, step_ok, machine}
use Rattle.dc_batch.specs.declared.draft.Draft.{Draft}
use Rattle.dc_batch.specs.declared.forms.Field.{Field}
use Rattle.dc_batch.specs.declared.forms.Field.TheVariants.{Package, Templates, Config}
use Rattle.dc_batch.specs.declared.forms.Form.{Form}
use Rattle.dc_batch.specs.declared.forms.Form.TheVariants.{Blank, Colonless, Unknown, Sets}
use Rattle.dc_batch.specs.declared.forms.Line.{Line}
use Rattle.dc_batch.specs.declared.job.Job.{Job}
use Rattle.dc_batch.specs.declared.reading.Reader.{Reader}

-- ---- what is known while lines come

-- the fields of a stanza behind these jobs
record IsDraft (jobs : List Job) (d : Draft) : Type 0 where
  name : (n : List ℕ) → d.name ≡ Some n → (is_name n ≡ true) × (list_any (bytes_eq n) (names_of jobs) ≡ false)
  templates : (path : List ℕ) → d.templates ≡ Some path → IsValue path
  command : (words : List (List ℕ)) → d.command ≡ Some words → AllByRecursion IsCommandWord words × (is_nil words ≡ false)

-- the stanza has a package and work, or the lines that come bring them
record IsPromised (d : Draft) (rest : List Form) : Type 0 where
  name : (is_some d.name || has_field Package (until_blank rest)) ≡ true
  work : ((is_some d.templates || is_some d.command) || has_work (until_blank rest)) ≡ true

record IsGood (s : Reader) (rest : List Form) : Type 0 where
  jobs : AllByRecursion IsJob s.jobs
  apart : AreDistinct (names_of s.jobs)
  draft : IsDraft s.jobs s.draft
  count : length s.jobs + cond s.is_open 1 0 ≡ s.begun
  most : s.begun ≤ 256
  none : s.is_open ≡ false → s.draft ≡ no_fields
  promised : s.is_open ≡ true → IsPromised s.draft rest

-- ---- the end of a stanza

some_is : {X : Type 0} (o : Option X) → is_some o ≡ true → (x : X) × (o ≡ Some x)
some_is None e = absurd (cc)
some_is (Some x) e = (x, refl)

unfoldable job_with : Draft → List ℕ → Job
job_with d n = record { «package» = n; templates = d.templates; command = unwrap_or d.command [] }

command_words : (o : Option (List (List ℕ))) → ((words : List (List ℕ)) → o ≡ Some words → AllByRecursion IsCommandWord words × (is_nil words ≡ false)) → AllByRecursion IsCommandWord (unwrap_or o [])
command_words None h = tt
command_words (Some words) h = (h words refl).0

command_works : (t : Bool) (o : Option (List (List ℕ))) → ((words : List (List ℕ)) → o ≡ Some words → AllByRecursion IsCommandWord words × (is_nil words ≡ false)) → (t || is_some o) ≡ true → (t || not (is_nil (unwrap_or o []))) ≡ true
command_works t None h e = e
command_works t (Some words) h e = ap (λ b. t || not b) (h words refl).1 ∙ or-true t

drafted : (jobs : List Job) (d : Draft) (n : List ℕ) → IsDraft jobs d → d.name ≡ Some n → (is_some d.templates || is_some d.command) ≡ true → IsJob (job_with d n)
unfolding job_with
drafted jobs d n h e work = record {
  named = (h.name n e).0;
  templates = h.templates;
  command = command_words d.command h.command;
  work = command_works (is_some d.templates) d.command h.command work;
}

no_more : (a : Bool) (fs : List Form) (field : Field) → fs ≡ [] → (a || has_field field fs) ≡ true → a ≡ true
no_more a fs field none e = sym (or-nothing a) ∙ ap (λ gs. a || has_field field gs) (sym none) ∙ e where
  or-nothing : (b : Bool) → (b || false) ≡ b
  or-nothing true = refl
  or-nothing false = refl

no_more_work : (a : Bool) (fs : List Form) → fs ≡ [] → (a || has_work fs) ≡ true → a ≡ true
no_more_work a fs none e = sym (or-nothing a) ∙ ap (λ gs. a || has_work gs) (sym none) ∙ e where
  or-nothing : (b : Bool) → (b || false) ≡ b
  or-nothing true = refl
  or-nothing false = refl

-- the jobs where the stanza is ended
pub record AreClosed (s : Reader) (jobs : List Job) : Type 0 where
  pub jobs_are : AllByRecursion IsJob jobs
  pub apart : AreDistinct (names_of jobs)
  pub count : length jobs ≡ s.begun

close_open : (s : Reader) (rest : List Form) → IsGood s rest → until_blank rest ≡ [] → s.is_open ≡ true → AreClosed s (closed s).jobs
unfolding job_with
close_open s rest h none e =
    let p : IsPromised s.draft rest = h.promised e in
    let n : (n : List ℕ) × (s.draft.name ≡ Some n) = some_is s.draft.name (no_more (is_some s.draft.name) (until_blank rest) Package none p.name) in
    let job : Job = job_with s.draft n.0 in
    let good : IsJob job = drafted s.jobs s.draft n.0 h.draft n.1 (no_more_work (is_some s.draft.templates || is_some s.draft.command) (until_blank rest) none p.work) in
    let made : job_from s.draft ≡ Some job = ap (option_map (job_with s.draft)) n.1 in
    subst (AreClosed s) (ap (λ (o : Option Job). s.jobs ++ option_to_list o) (sym made)) (record {
      jobs_are = all-append IsJob s.jobs (job ∷ []) h.jobs (good, tt);
      apart = subst AreDistinct (sym (map-append (λ (j : Job). j.package) s.jobs (job ∷ []))) (distinct-push (names_of s.jobs) n.0 h.apart (h.draft.name n.0 n.1).1);
      count = length-append s.jobs (job ∷ []) ∙ ap (λ b. length s.jobs + cond b 1 0) (sym e) ∙ h.count;
    })

close_shut : (s : Reader) (rest : List Form) → IsGood s rest → s.is_open ≡ false → AreClosed s (closed s).jobs
close_shut s rest h e = subst (AreClosed s) (sym (ap (λ (d : Draft). s.jobs ++ option_to_list (job_from d)) (h.none e) ∙ append-nil s.jobs)) (record {
  jobs_are = h.jobs;
  apart = h.apart;
  count = omega (arith, ap (λ b. length s.jobs + cond b 1 0) (sym e) ∙ h.count);
})

close : (s : Reader) (rest : List Form) → IsGood s rest → until_blank rest ≡ [] → AreClosed s (closed s).jobs
close s rest h none = elim s.is_open as (λ b. s.is_open ≡ b → AreClosed s (closed s).jobs) [ true ↦ close_open s rest h none | false ↦ close_shut s rest h ] refl

-- ---- one line more

good_blank : (s : Reader) (rest : List Form) → IsGood s (Blank ∷ rest) → IsGood (closed s) rest
good_blank s rest h =
    let c : AreClosed s (closed s).jobs = close s (Blank ∷ rest) h refl in
    record {
      jobs = c.jobs_are;
      apart = c.apart;
      draft = record { name = λ n e. absurd (cc); templates = λ n e. absurd (cc); command = λ n e. absurd (cc) };
      count = omega (arith, c.count);
      most = h.most;
      none = λ e. refl;
      promised = λ e. absurd (cc);
    }

keeps_name : (d : Draft) (field : Field) (value : List ℕ) (fs : List Form) → (is_some d.name || (is_field Package field || has_field Package fs)) ≡ true → (is_some (with_field d field value).name || has_field Package fs) ≡ true
keeps_name d Package value fs e = refl
keeps_name d Templates value fs e = e
keeps_name d Config value fs e = e

keeps_work : (d : Draft) (field : Field) (value : List ℕ) (fs : List Form) → ((is_some d.templates || is_some d.command) || has_work (Sets field value ∷ fs)) ≡ true
    → ((is_some (with_field d field value).templates || is_some (with_field d field value).command) || has_work fs) ≡ true
keeps_work d Package value fs e = e
keeps_work d Templates value fs e = refl
keeps_work d Config value fs e = ap (λ b. b || has_work fs) (or-true (is_some d.templates))

promises : (s : Reader) (field : Field) (value : List ℕ) (rest : List Form) → IsGood s (Sets field value ∷ rest) → IsTaken s field value rest → IsPromised (with_field s.draft field value) rest
promises s field value rest h is =
    let fs : List Form = Sets field value ∷ until_blank rest in
    let until : until_blank (Sets field value ∷ rest) ≡ fs = before_first-later is_blank_form (Sets field value) rest refl in
    let named : (is_some s.draft.name || has_field Package fs) ≡ true =
    elim s.is_open as (λ b. s.is_open ≡ b → (is_some s.draft.name || has_field Package fs) ≡ true) [
      | true ↦ λ e. ap (λ gs. is_some s.draft.name || has_field Package gs) (sym until) ∙ (h.promised e).name
      | false ↦ λ e. ap (λ b. is_some s.draft.name || b) (not_false _ (ap (λ b. not b && not (has_field Package fs)) (sym e) ∙ is.has_package)) ∙ or-true (is_some s.draft.name)
    ] refl in
    let works : ((is_some s.draft.templates || is_some s.draft.command) || has_work fs) ≡ true =
    elim s.is_open as (λ b. s.is_open ≡ b → ((is_some s.draft.templates || is_some s.draft.command) || has_work fs) ≡ true) [
      | true ↦ λ e. ap (λ gs. (is_some s.draft.templates || is_some s.draft.command) || has_work gs) (sym until) ∙ (h.promised e).work
      | false ↦ λ e. ap (λ b. (is_some s.draft.templates || is_some s.draft.command) || b) (not_false _ (ap (λ b. not b && not (has_work fs)) (sym e) ∙ is.works)) ∙ or-true (is_some s.draft.templates || is_some s.draft.command)
    ] refl in
    record { name = keeps_name s.draft field value (until_blank rest) named; work = keeps_work s.draft field value (until_blank rest) works }

draft_more : (s : Reader) (field : Field) (value : List ℕ) (rest : List Form) → IsDraft s.jobs s.draft → IsLineForm (Sets field value) → IsTaken s field value rest → IsDraft s.jobs (with_field s.draft field value)
draft_more s Package value rest h line is = record {
  name = λ n e.
      (let same : value ≡ n = cc in
      let free : is_taken s.jobs value ≡ false = (neither _ _ is.once).1 in
      subst (λ v. (is_name v ≡ true) × (list_any (bytes_eq v) (names_of s.jobs) ≡ false)) same (not_false _ is.named, sym (any_each value s.jobs) ∙ free));
  templates = h.templates;
  command = h.command;
}
draft_more s Templates value rest h line is = record {
  name = h.name;
  templates = λ path e. (let same : value ≡ path = cc in subst IsValue same (record { some = λ none. (let off : true ≡ false = ap is_nil (sym none) ∙ is.some in cc); trim = line.0; one = line.1 }));
  command = h.command;
}
draft_more s Config value rest h line is = record {
  name = h.name;
  templates = h.templates;
  command = λ words e. (let same : plain_words_of value ≡ words = cc in subst (λ ws. AllByRecursion IsCommandWord ws × (is_nil ws ≡ false)) same (are_words value line.0 line.1 is.some));
}

good_sets : (s : Reader) (field : Field) (value : List ℕ) (rest : List Form) → IsGood s (Sets field value ∷ rest) → IsLineForm (Sets field value) → IsTaken s field value rest → IsGood (noted s (Sets field value)) rest
good_sets s field value rest h line is = record {
  jobs = subst (AllByRecursion IsJob) (sym (opened_jobs s)) h.jobs;
  apart = subst (λ js. AreDistinct (names_of js)) (sym (opened_jobs s)) h.apart;
  draft = subst (λ js. IsDraft js (with_field s.draft field value)) (sym (opened_jobs s)) (draft_more s field value rest h.draft line is);
  count = (λ i. length (opened_jobs s i) + cond (opened_open s i) 1 0) ∙ counted s.is_open (length s.jobs) s.begun h.count ∙ sym (opened_begun s);
  most = subst (λ n. n ≤ 256) (sym (opened_begun s)) (room s.is_open s.begun h.most is.room);
  none = λ e. absurd (let off : true ≡ false = sym (opened_open s) ∙ e in cc);
  promised = λ e. promises s field value rest h is;
} where
  counted : (b : Bool) (n m : ℕ) → n + cond b 1 0 ≡ m → n + 1 ≡ m + cond b 0 1
  counted true n m e = omega (arith, e)
  counted false n m e = omega (arith, e)

  room : (b : Bool) (m : ℕ) → m ≤ 256 → (not b && nat_le 256 m) ≡ false → m + cond b 0 1 ≤ 256
  room true m h e = omega arith
  room false m h e = grind (arith, nat_tests)

good_step : (s : Reader) (line : Form) (rest : List Form) → IsGood s (line ∷ rest) → IsLineForm line → fault_seen s line rest ≡ None → IsGood (noted s line) rest
good_step s Blank rest h is e = good_blank s rest h
good_step s Colonless rest h is e = absurd (cc)
good_step s Unknown rest h is e = absurd (cc)
good_step s (Sets field value) rest h is e = good_sets s field value rest h is (is_taken_line s field value rest e)

good_run : (lines : List Line) (s t : Reader) → IsGood s (forms lines) → AllByRecursion IsLineForm (forms lines) → run step lines s ≡ Ok t → IsGood t []
good_run [] s t h is e = let same : s ≡ t = cc in subst (λ r. IsGood r []) same h
good_run (l ∷ lines) s t h is e = elim (step s l lines) as (λ r. step s l lines ≡ r → goes_on r (λ u. run step lines u) ≡ Ok t → IsGood t []) [
  | Ok u ↦ λ f g.
      let k : (fault_seen s l.form (forms lines) ≡ None) × (noted s l.form ≡ u) = step_ok (fault_seen s l.form (forms lines)) s u l f in
      good_run lines u t (subst (λ r. IsGood r (forms lines)) k.1 (good_step s l.form (forms lines) h is.0 k.0)) is.1 g
  | Err f ↦ λ g k. absurd (cc)
] refl e

start_good : (rest : List Form) → IsGood at_start rest
start_good rest = record {
  jobs = tt;
  apart = tt;
  draft = record { name = λ n e. absurd (cc); templates = λ n e. absurd (cc); command = λ n e. absurd (cc) };
  count = refl;
  most = omega arith;
  none = λ e. refl;
  promised = λ e. absurd (cc);
}

abbrev pub finished : Reader → List Job
finished t = (closed t).jobs

-- what all lines of a text make
record AreRead (t : Reader) : Type 0 where
  jobs : AreJobs (finished t)
  count : length (finished t) ≡ t.begun

read_good : (text : List ℕ) (t : Reader) → run step (lines_in text) at_start ≡ Ok t → AreRead t
read_good text t e =
    let h : IsGood t [] = good_run (lines_in text) at_start t (start_good (forms (lines_in text))) (lines_are text) e in
    let c : AreClosed t (finished t) = close t [] h refl in
    record { jobs = record { each = c.jobs_are; apart = c.apart; few = subst (λ n. n ≤ 256) (sym c.count) h.most }; count = c.count }

-- ---- one job for each stanza

most_given : {X Y : Type 0} (f : X → Option Y) (xs : List X) → length (filter_map f xs) ≤ length xs
most_given f [] = omega arith
most_given f (x ∷ xs) = elim (f x) as (λ o. length (cons_option o (filter_map f xs)) ≤ length (x ∷ xs)) [
  | None ↦ omega (arith, most_given f xs)
  | Some y ↦ omega (arith, most_given f xs)
]

option_words : (o : Option (List ℕ)) → unwrap_or (option_map plain_words_of o) [] ≡ plain_words_of (unwrap_or o [])
option_words None = refl
option_words (Some value) = refl

given_is : (stanza : List Form) (job : Job) → job_in stanza ≡ Some job → job ≡ job_of stanza
given_is stanza job e = by_name (value_at Package stanza) e where
  by_name : (o : Option (List ℕ)) → option_map (λ n. record { «package» = n; templates = value_at Templates stanza; command = unwrap_or (option_map plain_words_of (value_at Config stanza)) [] }) o ≡ Some job
      → job ≡ record { «package» = unwrap_or o []; templates = value_at Templates stanza; command = plain_words_of (unwrap_or (value_at Config stanza) []) }
  by_name None f = absurd (cc)
  by_name (Some n) f =
      let same : job ≡ record { «package» = n; templates = value_at Templates stanza; command = unwrap_or (option_map plain_words_of (value_at Config stanza)) [] } = cc in
      same ∙ (λ i. record { «package» = n; templates = value_at Templates stanza; command = option_words (value_at Config stanza) i })

-- where all give a job, these are the jobs
all_given : (ss : List (List Form)) → length (filter_map job_in ss) ≡ length ss → filter_map job_in ss ≡ each job_of ss
all_given [] e = refl
all_given (s ∷ ss) e = elim (job_in s) as (λ o. job_in s ≡ o → length (cons_option o (filter_map job_in ss)) ≡ suc (length ss) → cons_option o (filter_map job_in ss) ≡ job_of s ∷ each job_of ss) [
  | None ↦ λ f g. absurd (let most = most_given job_in ss in omega (arith, most, g))
  | Some job ↦ λ f g. let fewer : length (filter_map job_in ss) ≡ length ss = omega (arith, g) in λ i. given_is s job f i ∷ all_given ss fewer i
] refl e

-- an empty part gives none
given_some : (ps : List (List Form)) → filter_map job_in ps ≡ filter_map job_in (some_of ps)
given_some [] = refl
given_some ([] ∷ ps) = given_some ps
given_some ((f ∷ p) ∷ ps) = ap (cons_option (job_in (f ∷ p))) (given_some ps)

cons_none : (o : Option Job) → cons_option o [] ≡ option_to_list o
cons_none None = refl
cons_none (Some job) = refl

-- the jobs of a text whose lines are taken
pub jobs_read : (text : List ℕ) (t : Reader) → run step (lines_in text) at_start ≡ Ok t → (finished t ≡ jobs_in (forms (lines_in text))) × AreJobs (finished t)
jobs_read text t e =
    let fs : List Form = forms (lines_in text) in
    let good : AreRead t = read_good text t e in
    let h : Holds (lines_in text) t = (MatchResult-at_ok (λ u. Holds (lines_in text) u × AllStand Stands (lines_in text)) (λ f. IsFirstFault Stands HasFault (lines_in text) f.0 f.1) t e (machine (lines_in text))).0 in
    let given : finished t ≡ filter_map job_in (stanzas fs) =
    (λ i. h.jobs i ++ option_to_list (job_from (h.draft i))) ∙ ap (λ (js : List Job). filter_map job_in h.ended ++ js) (sym (cons_none (job_in (Rattle.dc_batch.specs.JobFaults.since_blank fs)))) ∙ sym (filter_map-append job_in h.ended (Rattle.dc_batch.specs.JobFaults.since_blank fs ∷ []))
    ∙ ap (filter_map job_in) (sym h.whole) ∙ given_some (parts fs) in
    (given ∙ all_given (stanzas fs) (ap length (sym given) ∙ good.count ∙ h.begun), good.jobs)
