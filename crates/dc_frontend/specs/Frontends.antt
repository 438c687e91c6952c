-- The words for frontends (debconf(7), Frontends).
use Rattle.std.specs.Prelude.{ℕ, Bool, List, [], ◌∷◌, Option, Some, None, map as each, codes, if◌then◌else◌}
use Rattle.std.specs.List.{list_any}
use Rattle.std.specs.Str.{bytes_eq}
use Rattle.dc_text.specs.Bytes.{lower}
use Rattle.dc_frontend.specs.declared.frontend.Frontend.{Frontend}
use Rattle.dc_frontend.specs.declared.frontend.Frontend.TheVariants.{Noninteractive, Teletype, Passthrough}

-- the words for frontends that ask themselves, each of which is the teletype
abbrev pub asking_words : List (List ℕ)
asking_words =
    codes "teletype" ∷ codes "dialog" ∷ codes "readline" ∷ codes "gnome" ∷ codes "kde" ∷ codes "web" ∷ codes "text" ∷ codes "editor" ∷ []

-- the word, read without regard to case
abbrev pub is_word : List ℕ → List ℕ → Bool
is_word word bytes = bytes_eq (each lower bytes) word

-- the frontend of a word
abbrev pub frontend_of : List ℕ → Option Frontend
frontend_of bytes =
    if is_word (codes "noninteractive") bytes then Some Noninteractive
    else if is_word (codes "passthrough") bytes then Some Passthrough
    else if list_any (λ word. is_word word bytes) asking_words then Some Teletype
    else None
