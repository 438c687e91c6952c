use Rattle.std.proofs.Common.{◌≡◌, ℕ, List, [], rules, sym, subst}
use Rattle.dc_text.specs.declared.memory.OutOfMemory.{OutOfMemory}
use Rattle.dc_outside.specs.State.{LinkState}
use Rattle.dc_serve.specs.LinkRun.{ServesLink}
use Rattle.dc_serve.specs.Telling.{Tells, TellsNothing}
use Rattle.dc_serve.specs.declared.outcome.LinkEnd.{LinkEnd}
use Rattle.dc_serve.proofs.tests.tell_lines.Goals as goal

-- the same, where standard error is called otherwise, and nothing was to be told at first
told_as : (io new_io before : LinkState) (first : List ℕ) (end : LinkEnd OutOfMemory) (err given : LinkState) (untold : List ℕ) (last code : ℕ) → given ≡ err → first ≡ []
    → ServesLink Tells TellsNothing io new_io (record { err = before; untold = first }) end (record { err = err; untold = untold }) last code
    → ServesLink Tells TellsNothing io new_io (record { err = before; untold = [] }) end (record { err = given; untold = untold }) last code
told_as io new_io before first end err given untold last code is none served =
    subst (λ (k : LinkState). ServesLink Tells TellsNothing io new_io (record { err = before; untold = [] }) end (record { err = k; untold = untold }) last code) (sym is)
    (subst (λ (f : List ℕ). ServesLink Tells TellsNothing io new_io (record { err = before; untold = f }) end (record { err = err; untold = untold }) last code) none served)

pub returns : goal.returns
returns g c = (c.serve_link-served.new.machine.untold, told_as _ _ _ _ _ _ _ _ _ _ (search rules) c.new.ensures c.serve_link-served.ensures.serves)
