-- What is said at once of a run of a tool, which is one round.
use Rattle.std.proofs.Common.{◌≡◌, ◌&&◌, ℕ, List, [], sym, ap, subst, ◌∙◌}
use Rattle.dc_outside.specs.State.{LinkState}
use Rattle.dc_run.specs.declared.outcome.End.{End}
use Rattle.dc_run.specs.declared.outcome.Outcome.{Outcome}
use Rattle.dc_run.specs.declared.outcome.ToolAnswer.{ToolAnswer}
use Rattle.dc_run.specs.declared.settings.Settings.{Settings}
use Rattle.dc_run.specs.Roots.{Roots}
use Rattle.dc_cli.specs.declared.tool.Tool.{Tool}
use Rattle.dc_run.specs.EndLines.{end_line, HasSaid}
use Rattle.dc_run.specs.Ends.{status_of, comes_to_save}
use Rattle.dc_run.specs.Finishing.{FinishesWhere}
use Rattle.dc_run.specs.Headline.{HasWorked}
use Rattle.dc_run.specs.OneRound.{HasUsed}
use Rattle.dc_run.specs.Rounds.{Job, Whole, Round, HasDone, Works, IsRound, is_saved_at, report}
use Rattle.dc_run.specs.Running.{Awaits}
use Rattle.dc_run.specs.Saves.{Save, Commits}
use Rattle.dc_run.specs.Starting.{HasStarted, keeps_changes}
use Rattle.dc_run.specs.World.{Ground, Stock, World, RunState, before_rounds, ground_in, ground_of, on_ground}
use Rattle.dc_run.proofs.Saying.{said_then}
use Rattle.dc_run.proofs.RoundLemmas.{finishes_where, one_round, jobs_had}

module _ (used : Tool) (settings : Settings) (roots : Roots) (old : World) (mid : Ground) (job : Job) (given : ToolAnswer) (left : RunState) (inner last : List Save) (finish : End) (status : ℕ) (how : End) (after : RunState) (job_is : job ≡ Whole used) where
  abbrev start : RunState
  start = before_rounds (on_ground old mid)

  abbrev this : Round
  this = record { job = job; answer = given; left = left; inner = inner; last = last; finish = finish; status = status; how = how; new = after }

  module _ (is : IsRound roots settings start this) where
    works : HasDone used roots settings start left given inner
    works = subst (λ (j : Job). Works j roots settings start left given inner) job_is is.works

    commits : Commits (keeps_changes used && comes_to_save given.ended) given.ended (ground_in left.world) (ground_in after.world) last finish
    commits = subst (λ (j : Job). Commits (is_saved_at j given.ended) given.ended (ground_in left.world) (ground_in after.world) last finish) job_is is.commits

    told : HasSaid [] left.world.err after.world.err
    told = subst (λ (j : Job). HasSaid (report j how status) left.world.err after.world.err) job_is is.told

    pub used_once : (outcome : Outcome) (new : World) → HasStarted used settings.conf_path (ground_in old).sources mid roots → outcome.end ≡ how → HasSaid (end_line outcome.end) after.world.err new.err → new ≡ record after.world { err = new.err }
        → outcome.last_code ≡ after.code → outcome.status ≡ status_of outcome.end status → HasUsed used settings old new outcome
    used_once outcome new started end_is said rest code_is status_is =
        let behind = said_then [] (end_line outcome.end) left.world.err after.world.err new.err told said in
        record {
          mid = mid;
          roots = roots;
          started = started;
          answer = given;
          told = works.told;
          left = works.left;
          links = left.world.links;
          inner = inner;
          uses = works.uses;
          how = finish;
          finishes = subst (λ (s : Stock). FinishesWhere (keeps_changes used) (ground_of s.files left.world.links.io s.used) (ground_in new) given.ended finish) works.stock_is
              (subst (λ (w : World). FinishesWhere (keeps_changes used) (ground_in left.world) (ground_in w) given.ended finish) (sym rest)
              (finishes_where (ground_in left.world) (ground_in after.world) last finish (keeps_changes used) given.ended commits));
          status = status;
          awaits = subst (λ (h : End). Awaits given.is_started left.world.links.child new.links.child finish h given.status status) (sym end_is)
              (subst (λ (l : LinkState). Awaits given.is_started left.world.links.child l finish how given.status status) (sym (ap (λ (w : World). w.links.child) rest)) is.awaits);
          said = (said_then works.told (end_line outcome.end) works.left.err left.world.err new.err works.said behind);
          code_is = code_is ∙ is.code_is ∙ works.code_is;
          status_is = status_is;
        }

-- a run of a tool is one round
pub as_used : (used : Tool) (settings : Settings) (old new : World) (outcome : Outcome) (saves : List Save) → HasWorked used settings old new outcome saves → HasUsed used settings old new outcome
as_used used settings old new outcome saves worked =
    let start : RunState = before_rounds (on_ground old worked.mid) in
    let one = one_round worked.roots settings (Whole used) start worked.left outcome.end worked.status saves (jobs_had used worked.roots settings start worked.left outcome.end worked.status saves worked.does) in
    let r = one.round in
    used_once used settings worked.roots old worked.mid r.job r.answer r.left r.inner r.last r.finish r.status r.how r.new one.job_is
    one.is outcome new worked.started one.how_is
    (subst (λ (s : RunState). HasSaid (end_line outcome.end) s.world.err new.err) one.new_is worked.said)
    (worked.rest_is ∙ ap (λ (s : RunState). record s.world { err = new.err }) one.new_is)
    (worked.code_is ∙ ap (λ (s : RunState). s.code) one.new_is)
    (worked.status_is ∙ ap (status_of outcome.end) one.status_is)
