-- What two runs told alike on standard error, one text after another.
use Rattle.std.proofs.Common.{◌≡◌, ℕ, List, [], ◌∷◌, ◌++◌, sym, subst}
use Rattle.dc_outside.specs.LinkCalls.{Tells}
use Rattle.dc_outside.specs.State.{LinkState}
use Rattle.dc_session.specs.Alike.{TellsEach, TellSame}
use Rattle.dc_run.specs.EndLines.{HasSaid}
use Rattle.dc_run.proofs.Saying.{none_said, said_then, told_said}
use Rattle.dc_theorem.specs.Runs.{TellAlike}

-- neither told anything
pub tell_nothing : (one new other last : LinkState) → new ≡ one → last ≡ other → TellAlike one new other last
tell_nothing one new other last first second = record {
  text = [];
  one_is = subst (λ (l : LinkState). HasSaid [] one l) (sym first) (none_said one);
  other_is = subst (λ (l : LinkState). HasSaid [] other l) (sym second) (none_said other);
}

-- the same texts
pub tell_text : (text again : List ℕ) (one new other last : LinkState) → text ≡ again → HasSaid text one new → HasSaid again other last → TellAlike one new other last
tell_text text again one new other last same first second = record { text = text; one_is = first; other_is = subst (λ (t : List ℕ). HasSaid t other last) (sym same) second }

-- one thing behind another
pub tell_then : (one mid new other past last : LinkState) → TellAlike one mid other past → TellAlike mid new past last → TellAlike one new other last
tell_then one mid new other past last first second = record {
  text = first.text ++ second.text;
  one_is = said_then first.text second.text one mid new first.one_is second.one_is;
  other_is = said_then first.text second.text other past last first.other_is second.other_is;
}

-- all of some texts
abbrev joined : List (List ℕ) → List ℕ
joined [] = []
joined (text ∷ texts) = text ++ joined texts

each_said : (texts : List (List ℕ)) (old new : LinkState) → TellsEach texts old new → HasSaid (joined texts) old new
each_said [] old new same = subst (λ (l : LinkState). HasSaid [] old l) (sym same) (none_said old)
each_said (text ∷ texts) old new told = said_then text (joined texts) old told.0 new (told_said text old told.0 told.1) (each_said texts told.0 new told.2)

-- what sessions told
pub tell_each : (one new other last : LinkState) → TellSame one new other last → TellAlike one new other last
tell_each one new other last same = record { text = joined same.texts; one_is = each_said same.texts one new same.one_tells; other_is = each_said same.texts other last same.other_tells }

-- and what their layers told at last
pub tell_last : (text again : List ℕ) (one mid new other past last : LinkState) → TellSame one mid other past → text ≡ again → Tells text mid new → Tells again past last → TellAlike one new other last
tell_last text again one mid new other past last before same first second =
    tell_then one mid new other past last (tell_each one mid other past before) (tell_text text again mid new past last same (told_said text mid new first) (told_said again past last second))
