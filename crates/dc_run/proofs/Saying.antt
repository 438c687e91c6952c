-- What is said in pieces, one after another.
use Rattle.std.proofs.Common.{◌≡◌, ◌⊎◌, inl, inr, ℕ, ◌≤◌, List, [], ◌∷◌, ◌++◌, refl, ap, sym, subst, ◌∙◌, append_assoc, arith, drop, take, ◌-◌, get_or, length, Option, Result, Ok, Err}
use Rattle.std.specs.List.{flat_map}
use Rattle.std.proofs.lemmas.Grind.{flat_map-append}
use Rattle.std.proofs.lemmas.List.{append-nil, take_all}
use Rattle.dc_outside.proofs.Saying.{sent-append}
use Rattle.dc_outside.specs.declared.link.LinkError.{LinkError}
use Rattle.dc_outside.specs.declared.link.LinkError.TheVariants.{Failed, OutOfMemory}
use Rattle.dc_outside.specs.declared.link.Piece.{Piece}
use Rattle.dc_outside.specs.declared.link.Piece.TheVariants.{Sent, Cut}
use Rattle.dc_outside.specs.Counts.{Counts, Rose}
use Rattle.dc_outside.specs.LinkCalls.{Sends, Tells}
use Rattle.dc_outside.specs.State.{LinkState}
use Rattle.dc_outside.specs.Talk.{then_pieces, got, sent}
use Rattle.dc_serve.proofs.Talks.{then_pieces-nil, then_pieces-then_pieces, got-append}
use Rattle.dc_run.specs.EndLines.{HasRisen, IsSentInParts, HasSaid}
use Rattle.dc_run.specs.Jobs.{named_lines}

rose_same : (count : ℕ) → count ≤ count
rose_same count = omega arith

-- what one write says
pub written_said : (bytes : List ℕ) (old new : LinkState) (result : Result (Unit {0}) LinkError) → Sends bytes old new result → HasSaid bytes old new
written_said bytes old new (Ok done) sends = record {
  pieces = Sent bytes ∷ [];
  state = sends ∙ ap (λ (c : Counts). record old { talk = then_pieces old.talk (Sent bytes ∷ []); counts = c }) (sym (ap (λ (l : LinkState). l.counts) sends));
  none_got = refl;
  in_parts = record { parts = (bytes, []) ∷ []; text_is = sym (append-nil (bytes ++ []) ∙ append-nil bytes); bytes_are = refl };
  whole = inl (ap (λ (l : LinkState). l.counts) sends, append-nil bytes);
}
written_said bytes old new (Err Failed) cut = record {
  pieces = Cut cut.front ∷ [];
  state = cut.state;
  none_got = refl;
  in_parts = record { parts = (cut.front, cut.back) ∷ []; text_is = cut.bytes_are ∙ sym (append-nil (cut.front ++ cut.back)); bytes_are = refl };
  whole = inr (record { faults = cut.rose.faults.later; refusals = (let e : new.counts.refusals ≡ old.counts.refusals = cut.rose.refusals in omega arith); one = inl cut.rose.faults });
}
written_said bytes old new (Err OutOfMemory) refused = record {
  pieces = [];
  state = refused.state ∙ ap (λ (t : Option (List Piece)). record old { talk = t; counts = new.counts }) (sym (then_pieces-nil old.talk));
  none_got = refl;
  in_parts = record { parts = ([], bytes) ∷ []; text_is = sym (append-nil bytes); bytes_are = refl };
  whole = inr (record { faults = (let e : new.counts.faults ≡ old.counts.faults = refused.rose.faults in omega arith); refusals = refused.rose.refusals.later; one = inr refused.rose.refusals });
}

rose_on : (before between now : ℕ) → before ≤ between → Rose between now → Rose before now
rose_on before between now early late = record { later = (let a : before ≤ between = early in let b : between ≤ now = late.later in omega arith); rose = (let r = late.rose in omega arith) }

rose_first : (before between now : ℕ) → Rose before between → between ≤ now → Rose before now
rose_first before between now early late = record { later = (let a : before ≤ between = early.later in omega arith); rose = (let r = early.rose in omega arith) }

one_on : (before between now : Counts) → before.faults ≤ between.faults → before.refusals ≤ between.refusals
    → Rose between.faults now.faults ⊎ Rose between.refusals now.refusals → Rose before.faults now.faults ⊎ Rose before.refusals now.refusals
one_on before between now faults refusals (inl rose) = inl (rose_on before.faults between.faults now.faults faults rose)
one_on before between now faults refusals (inr rose) = inr (rose_on before.refusals between.refusals now.refusals refusals rose)

risen_both : (before between now : Counts) → HasRisen before between → HasRisen between now → HasRisen before now
risen_both before between now first second = record {
  faults = (let a : before.faults ≤ between.faults = first.faults in let b : between.faults ≤ now.faults = second.faults in omega arith);
  refusals = (let a : before.refusals ≤ between.refusals = first.refusals in let b : between.refusals ≤ now.refusals = second.refusals in omega arith);
  one = one_on before between now first.faults first.refusals second.one;
}

both_whole : (a b : List ℕ) (first second : List Piece) (before between now : Counts)
    → ((between ≡ before) × (sent first ≡ a)) ⊎ HasRisen before between → ((now ≡ between) × (sent second ≡ b)) ⊎ HasRisen between now
    → ((now ≡ before) × (sent (first ++ second) ≡ a ++ b)) ⊎ HasRisen before now
both_whole a b first second before between now (inl early) (inl late) =
    inl (late.0 ∙ early.0, sent-append first second ∙ ap (λ (l : List ℕ). l ++ sent second) early.1 ∙ ap (λ (l : List ℕ). a ++ l) late.1)
both_whole a b first second before between now (inl early) (inr late) = inr (subst (λ (c : Counts). HasRisen c now) early.0 late)
both_whole a b first second before between now (inr early) (inl late) = inr (subst (λ (c : Counts). HasRisen before c) (sym late.0) early)
both_whole a b first second before between now (inr early) (inr late) = inr (risen_both before between now early late)

both_parts : (a b : List ℕ) (first second : List Piece) → IsSentInParts a (sent first) → IsSentInParts b (sent second) → IsSentInParts (a ++ b) (sent (first ++ second))
both_parts a b first second early late = record {
  parts = early.parts ++ late.parts;
  text_is = ap (λ (l : List ℕ). l ++ b) early.text_is ∙ ap (λ (l : List ℕ). flat_map (λ (part : List ℕ × List ℕ). part.0 ++ part.1) early.parts ++ l) late.text_is
      ∙ sym (flat_map-append (λ (part : List ℕ × List ℕ). part.0 ++ part.1) early.parts late.parts);
  bytes_are = sent-append first second ∙ ap (λ (l : List ℕ). l ++ sent second) early.bytes_are ∙ ap (λ (l : List ℕ). flat_map (λ (part : List ℕ × List ℕ). part.0) early.parts ++ l) late.bytes_are
      ∙ sym (flat_map-append (λ (part : List ℕ × List ℕ). part.0) early.parts late.parts);
}

-- one text and then another
pub said_then : (a b : List ℕ) (old mid new : LinkState) → HasSaid a old mid → HasSaid b mid new → HasSaid (a ++ b) old new
said_then a b old mid new first second = record {
  pieces = first.pieces ++ second.pieces;
  state = second.state ∙ ap (λ (l : LinkState). record l { talk = then_pieces l.talk second.pieces; counts = new.counts }) first.state
      ∙ ap (λ (t : Option (List Piece)). record old { talk = t; counts = new.counts }) (then_pieces-then_pieces old.talk first.pieces second.pieces);
  none_got = got-append first.pieces second.pieces ∙ ap (λ (l : List ℕ). l ++ got second.pieces) first.none_got ∙ second.none_got;
  in_parts = both_parts a b first.pieces second.pieces first.in_parts second.in_parts;
  whole = both_whole a b first.pieces second.pieces old.counts mid.counts new.counts first.whole second.whole;
}

-- nothing
pub none_said : (old : LinkState) → HasSaid [] old old
none_said old = record {
  pieces = [];
  state = ap (λ (t : Option (List Piece)). record old { talk = t }) (sym (then_pieces-nil old.talk));
  none_got = refl;
  in_parts = record { parts = []; text_is = refl; bytes_are = refl };
  whole = inl (refl, refl);
}

-- a text that is told is said
pub told_said : (text : List ℕ) (old new : LinkState) → Tells text old new → HasSaid text old new
told_said [] old new same = subst (HasSaid [] old) (sym same) (none_said old)
told_said (byte ∷ bytes) old new told = written_said (byte ∷ bytes) old new told.0 told.1

-- three texts, and more
pub three_said : (a b c : List ℕ) (l0 l1 l2 l3 : LinkState) → HasSaid a l0 l1 → HasSaid b l1 l2 → HasSaid c l2 l3 → HasSaid (a ++ b ++ c) l0 l3
three_said a b c l0 l1 l2 l3 first second third = said_then (a ++ b) c l0 l2 l3 (said_then a b l0 l1 l2 first second) third

pub five_said : (a b c d e : List ℕ) (l0 l1 l2 l3 l4 l5 : LinkState) → HasSaid a l0 l1 → HasSaid b l1 l2 → HasSaid c l2 l3 → HasSaid d l3 l4 → HasSaid e l4 l5 → HasSaid (a ++ b ++ c ++ d ++ e) l0 l5
five_said a b c d e l0 l1 l2 l3 l4 l5 first second third fourth fifth = three_said (a ++ b ++ c) d e l0 l3 l4 l5 (three_said a b c l0 l1 l2 l3 first second third) fourth fifth

-- three texts, the last of them with an end that stands apart
pub three_said_joined : (a b c end : List ℕ) (l0 l1 l2 l3 : LinkState) → HasSaid a l0 l1 → HasSaid b l1 l2 → HasSaid (c ++ end) l2 l3 → HasSaid (a ++ b ++ c ++ end) l0 l3
three_said_joined a b c end l0 l1 l2 l3 first second third = subst (λ (l : List ℕ). HasSaid l l0 l3) (sym (append_assoc (a ++ b) c end)) (three_said a b (c ++ end) l0 l1 l2 l3 first second third)

-- the first of some names with words behind each, and the others
pub named_said : (words : List ℕ) (names rest : List (List ℕ)) (name : List ℕ) (old told ended new : LinkState) → 1 ≤ length names → name ≡ get_or names 0 name → rest ≡ take (length names - 1) (drop 1 names)
    → HasSaid name old told → HasSaid words told ended → HasSaid (named_lines words rest) ended new → HasSaid (named_lines words names) old new
named_said words [] rest name old told ended new some is left first second later = absurd (omega arith)
named_said words (one ∷ names) rest name old told ended new some is left first second later =
    let line : HasSaid (name ++ words) old ended = said_then name words old told ended first second in
    let all : HasSaid ((name ++ words) ++ named_lines words rest) old new = said_then (name ++ words) (named_lines words rest) old ended new line later in
    subst (λ (t : List ℕ). HasSaid t old new) (λ i. (is i ++ words) ++ named_lines words ((left ∙ take_all (length (one ∷ names) - 1) names (omega arith)) i)) all
