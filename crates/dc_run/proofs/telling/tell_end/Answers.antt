use Rattle.std.proofs.Common.{[], ◌∷◌}
use Rattle.std.specs.Prelude.{codes}
use Rattle.dc_text.specs.Ascii.{newline}
use Rattle.dc_run.proofs.Saying.{three_said, three_said_joined, five_said}
use Rattle.dc_run.proofs.telling.tell_end.Goals as goal

pub returns-in-Usage : goal.returns-in-Usage
returns-in-Usage g c = rw c.in-Usage.is (three_said _ _ _ _ _ _ _ c.say.ensures c.say_number.ensures c.say-in-Usage.ensures)

pub returns-in-ConfRefused : goal.returns-in-ConfRefused
returns-in-ConfRefused g c =
    rw (c.in-ConfRefused.is, ← c.kind_word.ensures) (five_said _ _ _ _ _ _ _ _ _ _ _ c.say-in-ConfRefused.ensures c.say_number-in-ConfRefused.ensures c.say-in-ConfRefused-2.ensures c.say-in-ConfRefused-3.ensures c.say-in-ConfRefused-4.ensures)

pub returns-in-BadPattern : goal.returns-in-BadPattern
returns-in-BadPattern g c = rw c.in-BadPattern.is (three_said _ _ _ _ _ _ _ c.say-in-BadPattern.ensures c.say_place.ensures c.say-in-BadPattern-2.ensures)

pub returns-in-PatternTooLarge : goal.returns-in-PatternTooLarge
returns-in-PatternTooLarge g c = rw c.in-PatternTooLarge.is (three_said _ _ _ _ _ _ _ c.say-in-PatternTooLarge.ensures c.say_place-in-PatternTooLarge.ensures c.say-in-PatternTooLarge-2.ensures)

pub returns-in-Damaged : goal.returns-in-Damaged
returns-in-Damaged g c =
    rw (c.in-Damaged.is, ← c.bytes.ensures) (five_said _ _ _ _ _ _ _ _ _ _ _ c.say-in-Damaged.ensures c.say-in-Damaged-2.ensures c.say-in-Damaged-3.ensures c.say_number-in-Damaged.ensures c.say-in-Damaged-4.ensures)

pub returns-in-FilesFault : goal.returns-in-FilesFault
returns-in-FilesFault g c =
    rw (c.in-FilesFault.is, ← c.bytes-in-FilesFault.ensures) (three_said_joined _ _ (codes ": read or write failed") (newline ∷ []) _ _ _ _ c.say-in-FilesFault.ensures c.say-in-FilesFault-2.ensures c.say-in-FilesFault-3.ensures)

pub returns-in-BadWire : goal.returns-in-BadWire
returns-in-BadWire g c =
    rw c.in-BadWire.is (three_said_joined _ _ (codes ": unreadable") (newline ∷ []) _ _ _ _ c.say-in-BadWire.ensures c.say_number-in-BadWire.ensures c.say-in-BadWire-2.ensures)
