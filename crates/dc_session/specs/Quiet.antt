-- Sessions over plans that tell nothing of what is done.
use Rattle.std.specs.Prelude.{◌≡◌, ⊤, []}
use Rattle.dc_conf.specs.Trees.{Tree, Trees, Leaf, Stack, Backup, Debug, End, More}
use Rattle.dc_session.specs.SessionState.{SessionState}

-- no plan in it tells what is done
abbrev mutual
  pub IsQuiet : Tree → Type 0
  IsQuiet (Leaf place) = ⊤
  IsQuiet (Stack plans) = AreQuiet plans
  IsQuiet (Backup first second) = IsQuiet first × IsQuiet second
  IsQuiet (Debug plan) = ⊥

  pub AreQuiet : Trees → Type 0
  AreQuiet End = ⊤
  AreQuiet (More plan plans) = IsQuiet plan × AreQuiet plans

-- neither plan of the session tells, and nothing is left to be told
pub record IsQuietSession (state : SessionState) : Type 0 where
  pub config : IsQuiet state.at.config
  pub templates : IsQuiet state.at.templates
  pub untold : state.store.told ≡ []
