-- A dialogue, turn by turn.
use Rattle.std.proofs.Common.{◌≡◌, Bool, List, [], ◌∷◌, ◌++◌, refl, sym, ap, ◌∙◌, subst, append_assoc, Option, Some}
use Rattle.std.proofs.lemmas.List.{append-nil}
use Rattle.dc_outside.specs.declared.link.Piece.{Piece}
use Rattle.dc_outside.specs.declared.link.Piece.TheVariants.{Sent}
use Rattle.dc_teletype.specs.Dialogue.{Step, Goes, turn}
use Rattle.dc_teletype.specs.TerminalLines.{TypeAhead, Reads}
use Rattle.dc_teletype.specs.declared.terminal.TerminalLine.{TerminalLine}

-- one stretch of a dialogue, and then another
pub goes_then : (backup : Bool) (one two : Step) (three : Step) (a b d : TypeAhead) (came more : List (Option TerminalLine)) (p q : List Piece)
    → Goes backup one a came p two b → Goes backup two b more q three d → Goes backup one a (came ++ more) (p ++ q) three d
goes_then backup one two three a b d [] more p q first second =
    subst (λ (s : Step). Goes backup s a more (p ++ q) three d) first.1
    (subst (λ (h : TypeAhead). Goes backup two h more (p ++ q) three d) first.2
    (subst (λ (l : List Piece). Goes backup two b more (l ++ q) three d) (sym first.0) second))
goes_then backup one two three a b d (line ∷ came) more p q first second =
    let reads = first.0 in
    let later = first.1 in
    let between = first.2 in
    let next = first.3 in (
      reads,
      later ++ q,
      between,
      next,
      ap (λ (l : List Piece). l ++ q) first.4 ∙ ap (λ (l : List Piece). Sent one.said ∷ l) (append_assoc reads later q),
      first.5,
      first.6,
      goes_then backup next two three between b d came more later q first.7 second,
    )

-- one turn
pub goes_once : (backup : Bool) (step next : Step) (old new : TypeAhead) (came : Option TerminalLine) (reads : List Piece)
    → Reads old reads came new → turn backup step.stage came ≡ Some next → Goes backup step old (came ∷ []) (Sent step.said ∷ reads) next new
goes_once backup step next old new came reads read taken =
    (reads, [], new, next, ap (λ (l : List Piece). Sent step.said ∷ l) (sym (append-nil reads)), read, taken, (refl, refl, refl))
