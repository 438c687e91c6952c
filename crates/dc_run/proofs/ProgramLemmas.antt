-- What follows from what the program did.
use Rattle.std.proofs.Common.{inl, inr, List, ℕ, refl, sym, ap, subst}
use Rattle.dc_outside.specs.State.{LinkState}
use Rattle.dc_run.specs.Ends.{CountsCalls, ProgramCounts}
use Rattle.dc_run.specs.Headline.{HasRunWords, IsRun}
use Rattle.dc_run.specs.Saves.{Save}
use Rattle.dc_run.specs.World.{Ground, World}
use Rattle.dc_run.specs.declared.outcome.End.{End}
use Rattle.dc_run.specs.declared.outcome.Outcome.{Outcome}
use Rattle.dc_run.specs.declared.settings.Settings.{Settings}
use Rattle.dc_run.proofs.CountLemmas.{links_counted, program_counted}
use Rattle.dc_run.proofs.RunSaves.{words_keep}

module _ (words : List (List ℕ)) (settings : Settings) (old new : World) (outcome : Outcome) (saves : List Save) where
  links : HasRunWords words settings old new outcome saves → CountsCalls outcome.end old.links new.links
  links (inl refused) = subst (λ (e : End). CountsCalls e old.links new.links) (sym refused.0.end_is) (record {
    mid = old.links.io;
    loads = inl refl;
    behind = record { on_io = ap (λ (g : Ground). g.sources.link.counts) refused.0.untouched; on_child = ap (λ (l : LinkState). l.counts) refused.0.silent.child_is };
  })
  links (inr ran) = links_counted ran.0 settings old new outcome saves ran.2

  program : HasRunWords words settings old new outcome saves → ProgramCounts outcome.end old.links.child.program.failures new.links.child.program.failures
  program (inl refused) = subst (λ (e : End). ProgramCounts e old.links.child.program.failures new.links.child.program.failures) (sym refused.0.end_is)
      (inl (ap (λ (l : LinkState). l.program.failures) refused.0.silent.child_is))
  program (inr ran) = program_counted ran.0 settings old new outcome saves ran.2

  pub is_run : HasRunWords words settings old new outcome saves → IsRun words settings old new outcome
  is_run ran = record { saves = saves; ran = ran; links_count = links ran; program_counts = program ran; keeps = words_keep words settings old new outcome saves ran }
