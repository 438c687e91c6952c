-- What sessions tell on standard error.
use Rattle.std.proofs.Common.{◌≡◌, ℕ, List, [], ◌∷◌, map as each, refl, sym, ap, subst}
use Rattle.dc_words.specs.declared.stream.Line.{Line}
use Rattle.dc_words.specs.declared.stream.Line.TheVariants.{Whole, TooLong}
use Rattle.dc_outside.specs.LinkCalls.{Tells}
use Rattle.dc_layer.specs.State.{LayerState}
use Rattle.dc_store.specs.Plans.{stored}
use Rattle.dc_proto.specs.Commands.{heard}
use Rattle.dc_proto.specs.declared.command.Heard.{Heard}
use Rattle.dc_proto.specs.declared.command.Heard.TheVariants.{Nothing, Known, Refused}
use Rattle.dc_serve.specs.declared.machine.Response.{Response}
use Rattle.dc_session.specs.Alike.{TellsEach, TellSame}
use Rattle.dc_session.specs.Machine.{Steps, StepsHeard, TakesLine, TellsStore}
use Rattle.dc_session.specs.SessionState.{LinkState, SessionState}
use Rattle.dc_session.specs.declared.stepped.Stepped.{Stepped}

-- ---- a line that isn't told yet leaves standard error

heard_silent : (said : Heard) (old new : SessionState) (did : Stepped) → StepsHeard said old did new → new.err ≡ old.err
heard_silent Nothing old new did steps = ap (λ (s : SessionState). s.err) steps.1
heard_silent (Known command) old new did done = ap (λ (s : SessionState). s.err) done.new_is
heard_silent (Refused reply) old new did steps = ap (λ (s : SessionState). s.err) steps.1

pub steps_silent : (line : Line) (old new : SessionState) (did : Stepped) → Steps old line did new → new.err ≡ old.err
steps_silent TooLong old new did steps = ap (λ (s : SessionState). s.err) steps.1
steps_silent (Whole line) old new did steps = heard_silent (heard old.asking.escape line) old new did steps

-- what the layers told at a line is told on standard error as it was before the line
pub takes_tells : (line : Line) (old new : SessionState) (did : Response) → (takes : TakesLine old line did new) → Tells takes.mid.store.told old.err new.err
takes_tells line old new did takes =
    subst (λ (l : LinkState). Tells takes.mid.store.told l new.err) (steps_silent line old takes.mid takes.handled.stepped takes.handled.steps) takes.tells.told

-- ---- texts that are told on two links

pub none_told : (one other : LinkState) → TellSame one one other other
none_told one other = record { texts = []; one_tells = refl; other_tells = refl }

pub more_told : (text again : List ℕ) (one mid new other past last : LinkState) → text ≡ again → Tells text one mid → Tells again other past → TellSame mid new past last → TellSame one new other last
more_told text again one mid new other past last same first second later = record {
  texts = text ∷ later.texts;
  one_tells = (mid, first, later.one_tells);
  other_tells = (past, subst (λ (t : List ℕ). Tells t other past) (sym same) second, later.other_tells);
}

-- ---- the layers' lines are told

-- the store keeps its layers, and what it told is told
pub store_told : {X : Type 0} (f : X → LayerState) (state : SessionState) (items others : List X) (told none text : List ℕ) (err new : LinkState) → others ≡ items → none ≡ [] → text ≡ told → Tells text err new
    → TellsStore (record state { store = stored (each f items) told; err = err }) (record state { store = stored (each f others) none; err = new })
store_told f state items others told none text err new are empty same tells = record {
  told = subst (λ (t : List ℕ). Tells t err new) same tells;
  new_is = λ i. record state { store = stored (each f (are i)) (empty i); err = new };
}
