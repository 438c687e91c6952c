-- The commands of a drill, and the template of its questions.
use Rattle.std.specs.Prelude.{ℕ, ◌-◌, ◌/◌, ◌%◌, ◌==◌, List, [], ◌∷◌, ◌++◌, if◌then◌else◌, codes, decimal}
use Rattle.std.specs.List.{flat_map, range_with_len}
use Rattle.dc_text.specs.Lines.{text_of}

-- ---- the template

-- the file of the one template
abbrev pub template_text : List ℕ
template_text = codes "Template: drill/text\nType: string\nDefault: none\nDescription: Drill\n"

-- where it stands among the files of a drill, which are in memory
abbrev pub template_path : List ℕ
template_path = codes "drill.templates"

-- ---- the lines

-- the question of a number
unfoldable pub question_of : ℕ → List ℕ
question_of number = codes "drill/q" ++ decimal number

-- a command about the question of a number, between these words
unfoldable pub about : List ℕ → ℕ → List ℕ → List ℕ
about front number back = front ++ question_of number ++ back

-- it is registered
abbrev pub register_line : ℕ → List ℕ
register_line number = about (codes "REGISTER drill/text ") number []

-- its value becomes a v and the number
abbrev pub set_line : ℕ → List ℕ
set_line number = about (codes "SET ") number (codes " v" ++ decimal number)

-- it becomes seen
abbrev pub seen_line : ℕ → List ℕ
seen_line number = about (codes "FSET ") number (codes " seen true")

-- its value is asked for
abbrev pub get_line : ℕ → List ℕ
get_line number = about (codes "GET ") number []

-- the value of a question is asked for that isn't there
abbrev pub get_none_line : List ℕ
get_none_line = codes "GET drill/none"

-- it isn't wanted any more
abbrev pub unregister_line : ℕ → List ℕ
unregister_line number = about (codes "UNREGISTER ") number []

-- ---- all commands

-- the line, where the step divides the number
unfoldable pub at_each : ℕ → ℕ → List ℕ → List (List ℕ)
at_each step number line = if number % step == 0 then line ∷ [] else []

-- the lines of a number: its question is registered and set; each third becomes seen, at each fifth the one before is asked for, at each seventh
-- one that isn't there, and at each tenth the one of half the number is given up
unfoldable pub lines_at : ℕ → List (List ℕ)
lines_at number =
    register_line number ∷ set_line number ∷ at_each 3 number (seen_line number) ++ at_each 5 number (get_line (number - 1))
    ++ at_each 7 number get_none_line ++ at_each 10 number (unregister_line (number / 2))

-- the lines of the numbers from 1 on, so many
abbrev pub drill_lines : ℕ → List (List ℕ)
drill_lines count = flat_map lines_at (range_with_len 1 count)

-- their text
abbrev pub drill_input : ℕ → List ℕ
drill_input count = text_of (drill_lines count)
