-- The programs of the host, as far as they are known.
use Rattle.std.specs.Prelude.{◌≡◌, ◌≢◌, ℕ, List, ◌∷◌, Some, None, false, codes}
use Rattle.std.specs.declared.process.command.Command.{Command}
use Rattle.std.specs.Process.{command_program, command_args, command_var, clears_env}
use Rattle.dc_outside.specs.Programs.{Life, Unstarted, Running, Ended}
use Rattle.dc_pipes.specs.declared.child.Stage.{Stage}
use Rattle.dc_pipes.specs.declared.child.Stage.TheVariants.{Ready, Runs, Over}

-- its life. Its words aren't told
abbrev pub life_at : {P : Type 0} → Stage P → Life
life_at Ready = Unstarted
life_at (Runs process) = Running None
life_at (Over status) = Ended None status None

-- a command for the program that the first word names, with the further ones as its arguments
abbrev pub HasWords : {A : Type 0} → List (List ℕ) → Command A → Type 0
HasWords words command = command_program command ∷ command_args command ≡ words

-- what the program finds in its environment: that a frontend runs, and nothing of where a confmodule's output went; the rest as it is
pub record HasSurroundings {A : Type 0} (command : Command A) : Type 0 where
  pub inherits : clears_env command ≡ false
  pub frontend : command_var command (codes "DEBIAN_HAS_FRONTEND") ≡ Some (Some (codes "1"))
  pub redirection : command_var command (codes "DEBCONF_REDIR") ≡ Some None
  pub others : (name : List ℕ) → name ≢ codes "DEBIAN_HAS_FRONTEND" → name ≢ codes "DEBCONF_REDIR" → command_var command name ≡ None
