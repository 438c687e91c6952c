-- The program behind a link, where there is one.
use Rattle.std.specs.Prelude.{◌≡◌, ⊤, ℕ, List, Option, None, IfSome}
use Rattle.dc_outside.specs.Counts.{Rose}
use Rattle.dc_outside.specs.declared.link.Piece.{Piece}

-- It wasn't started. It was, with these words where they are told. It was waited for and has ended, with this exit status, and what had
-- been said on the link then, where it is told. Of several that were started one after another it is the last.
pub data Life : Type 0 where
  Unstarted : Life
  Running : Option (List (List ℕ)) → Life
  Ended : Option (List (List ℕ)) → ℕ → Option (List Piece) → Life

-- a program, and how often a start of it or a wait for it failed
pub record Program : Type 0 where
  pub life : Life
  pub failures : ℕ

-- what is behind a link that is no program's
abbrev pub no_program : Program
no_program = record { life = Unstarted; failures = 0 }

-- the words that it was started with last, where it was and they are told
abbrev pub words_of : Life → Option (List (List ℕ))
words_of Unstarted = None
words_of (Running words) = words
words_of (Ended words status talk) = words

-- it may be started: it wasn't yet, or it has ended
abbrev pub IsIdle : Life → Type 0
IsIdle Unstarted = ⊤
IsIdle (Running words) = ⊥
IsIdle (Ended words status talk) = ⊤

abbrev pub IsRunning : Life → Type 0
IsRunning Unstarted = ⊥
IsRunning (Running words) = ⊤
IsRunning (Ended words status talk) = ⊥

-- it runs from now on, and if it tells its words, they are these
pub record Began (words : List (List ℕ)) (before now : Program) : Type 0 where
  pub told : Option (List (List ℕ))
  pub life : now.life ≡ Running told
  pub same : IfSome told (λ known. known ≡ words)
  pub failures : now.failures ≡ before.failures

-- nothing of it changed, and the failure was counted
pub record FailureRose (before now : Program) : Type 0 where
  pub life : now.life ≡ before.life
  pub failures : Rose before.failures now.failures

-- the life of what runs, when it has ended with the status and this was said
abbrev pub ended : Life → ℕ → Option (List Piece) → Life
ended Unstarted status talk = Unstarted
ended (Running words) status talk = Ended words status talk
ended (Ended words earlier said) status talk = Ended words earlier said
