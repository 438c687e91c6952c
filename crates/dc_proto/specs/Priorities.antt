-- The words of priorities.
use Rattle.std.specs.Prelude.{ℕ, List, Option, Some, None, if◌then◌else◌, codes}
use Rattle.std.specs.Str.{bytes_eq}
use Rattle.dc_proto.specs.declared.priority.Priority.{Priority}
use Rattle.dc_proto.specs.declared.priority.Priority.TheVariants.{Low, Medium, High, Critical}

-- the priority of a word in lower case
abbrev pub priority_of : List ℕ → Option Priority
priority_of word =
    if bytes_eq word (codes "low") then Some Low
    else if bytes_eq word (codes "medium") then Some Medium
    else if bytes_eq word (codes "high") then Some High
    else if bytes_eq word (codes "critical") then Some Critical
    else None

-- how much a priority matters, from the least on
abbrev pub rank : Priority → ℕ
rank Low = 0
rank Medium = 1
rank High = 2
rank Critical = 3
