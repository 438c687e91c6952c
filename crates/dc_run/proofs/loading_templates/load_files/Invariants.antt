use Rattle.std.proofs.Common.{◌≡◌, length}
use Rattle.std.specs.Prelude.{◌||◌}
use Rattle.dc_outside.specs.State.{LinkState}
use Rattle.dc_session.specs.SessionState.{ScreenState, SessionState}
use Rattle.dc_session.specs.declared.asking.Asking.{Asking}
use Rattle.dc_session.specs.declared.policy.AskPolicy.{AskPolicy}
use Rattle.dc_run.specs.Inside.{LoadsFiles}
use Rattle.dc_run.specs.declared.loading_templates.FilesLoaded.{FilesLoaded}
use Rattle.dc_run.proofs.loading_templates.load_files.Given as goal

-- what the files that are left come to is, behind those before, what all of them come to
abbrev pub invariant-loop-rest : goal.invariant-loop-rest
invariant-loop-rest g l = record {
  on : (terminal : ScreenState) (untold : LinkState) (policy : AskPolicy) (asking : Asking) (later : FilesLoaded) (err : LinkState) (left : SessionState)
      → LoadsFiles (g.S.TakesTemplates.state_at l.session terminal untold policy asking) l.rest
      (g.E.Link.link l.err) err later left
      → LoadsFiles (g.S.TakesTemplates.state_at l.fn.session terminal untold policy asking) l.fn.paths
      (g.E.Link.link l.fn.err) err
      (record { ended = later.ended; refused = l.refused || later.refused }) left;
  kept : g.S.TakesTemplates.kept l.session ≡ g.S.TakesTemplates.kept l.fn.session;
}

abbrev pub decreases-loop-rest : goal.decreases-loop-rest
decreases-loop-rest g l = length l.rest
