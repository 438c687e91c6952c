-- Lines that are put one after another, and how many they are.
use Rattle.std.proofs.Common.{◌≡◌, ℕ, zero, suc, ◌+◌, ◌/◌, ◌-◌, ◌%◌, cond, length, List, [], ◌∷◌, ◌++◌, sym, ap, ◌∙◌, append_assoc, eq-eqb, ne_eqb, length-append, add-one, add-zero, arith}
use Rattle.std.specs.List.{flat_map, range_with_len}
use Rattle.std.proofs.lemmas.List.{append-nil}
use Rattle.std.proofs.lemmas.Grind.{flat_map-append}
use Rattle.dc_text.specs.Lines.{text_of}
use Rattle.dc_text.proofs.LineLaws.{text_of-append}
use Rattle.dc_drill.specs.Commands.{about, at_each, get_line, get_none_line, lines_at, question_of, register_line, seen_line, set_line, unregister_line}

-- one more piece behind what was put
pub further : (old done piece text new : List ℕ) → text ≡ old ++ done → new ≡ text ++ piece → new ≡ old ++ (done ++ piece)
further old done piece text new so_far is = is ∙ ap (λ t. t ++ piece) so_far ∙ append_assoc old done piece

-- a line of three pieces
pub line_of_three : (front name back old a b c new : List ℕ) → a ≡ old ++ front → b ≡ a ++ name → c ≡ b ++ back → new ≡ c ++ 10 ∷ []
    → new ≡ old ++ text_of ((front ++ name ++ back) ∷ [])
line_of_three front name back old a b c new first second third last =
    further old (front ++ name ++ back) (10 ∷ []) c new (further old (front ++ name) back b c (further old front name a b first second) third) last
    ∙ ap (λ t. old ++ t) (sym (append-nil ((front ++ name ++ back) ++ 10 ∷ [])))

-- a command about a question
pub about_put : (front : List ℕ) (number : ℕ) (back old a b c new : List ℕ) → a ≡ old ++ front → b ≡ a ++ question_of number → c ≡ b ++ back → new ≡ c ++ 10 ∷ []
    → new ≡ old ++ text_of (about front number back ∷ [])
unfolding about
about_put front number back = line_of_three front (question_of number) back

-- where the step divides the number the line is there
pub there : (step number : ℕ) (line : List ℕ) → number % step ≡ 0 → at_each step number line ≡ line ∷ []
unfolding at_each
there step number line is = ap (λ b. cond b (line ∷ []) []) (eq-eqb (number % step) 0 is)

-- and else none is
pub not_there : (step number : ℕ) (line : List ℕ) → (number % step ≡ 0 → ⊥) → at_each step number line ≡ []
unfolding at_each
not_there step number line not = ap (λ b. cond b (line ∷ []) []) (ne_eqb (number % step) 0 not)

-- a line that was put where the step divides the number
pub line_put : (step number : ℕ) (line old new : List ℕ) → number % step ≡ 0 → new ≡ old ++ text_of (line ∷ []) → new ≡ old ++ text_of (at_each step number line)
line_put step number line old new is put = put ∙ ap (λ l. old ++ text_of l) (sym (there step number line is))

-- where it doesn't, nothing is put
pub nothing_put : (step number : ℕ) (line old : List ℕ) → (number % step ≡ 0 → ⊥) → old ≡ old ++ text_of (at_each step number line)
nothing_put step number line old not = sym (ap (λ l. old ++ text_of l) (not_there step number line not) ∙ append-nil old)

-- lines, and more behind them
more_lines : (xs ys : List (List ℕ)) (old text new : List ℕ) → text ≡ old ++ text_of xs → new ≡ text ++ text_of ys → new ≡ old ++ text_of (xs ++ ys)
more_lines xs ys old text new so_far is = further old (text_of xs) (text_of ys) text new so_far is ∙ ap (λ t. old ++ t) (sym (text_of-append xs ys))

-- all lines of a number
pub lines_put : (number : ℕ) (old a b c d e new : List ℕ) → a ≡ old ++ text_of (register_line number ∷ []) → b ≡ a ++ text_of (set_line number ∷ [])
    → c ≡ b ++ text_of (at_each 3 number (seen_line number)) → d ≡ c ++ text_of (at_each 5 number (get_line (number - 1)))
    → e ≡ d ++ text_of (at_each 7 number get_none_line) → new ≡ e ++ text_of (at_each 10 number (unregister_line (number / 2)))
    → new ≡ old ++ text_of (lines_at number)
unfolding lines_at
lines_put number old a b c d e new one two three five seven ten =
    let register : List (List ℕ) = register_line number ∷ [] in
    let set : List (List ℕ) = register_line number ∷ set_line number ∷ [] in
    let seen : List (List ℕ) = set ++ at_each 3 number (seen_line number) in
    let get : List (List ℕ) = seen ++ at_each 5 number (get_line (number - 1)) in
    let none : List (List ℕ) = get ++ at_each 7 number get_none_line in
    more_lines none (at_each 10 number (unregister_line (number / 2))) old e new
    (more_lines get (at_each 7 number get_none_line) old d e
    (more_lines seen (at_each 5 number (get_line (number - 1))) old c d
    (more_lines set (at_each 3 number (seen_line number)) old b c
    (more_lines register (set_line number ∷ []) old a b one two) three) five) seven) ten

-- ---- over the numbers

numbers_more : (first so_far last : ℕ) → first + so_far ≡ last → range_with_len first (so_far + 1) ≡ range_with_len first so_far ++ last ∷ []
numbers_more first so_far last is = ap (range_with_len first) (add-one so_far) ∙ from so_far first is where
  from : (so_far first : ℕ) → first + so_far ≡ last → range_with_len first (suc so_far) ≡ range_with_len first so_far ++ last ∷ []
  from zero first is = ap (λ n. n ∷ []) (sym (add-zero first) ∙ is)
  from (suc n) first is = ap (λ ns. first ∷ ns) (from n (first + 1) (omega (arith, is)))

lines_more : (so_far last : ℕ) → 1 + so_far ≡ last → flat_map lines_at (range_with_len 1 (so_far + 1)) ≡ flat_map lines_at (range_with_len 1 so_far) ++ lines_at last
lines_more so_far last is =
    ap (flat_map lines_at) (numbers_more 1 so_far last is) ∙ flat_map-append lines_at (range_with_len 1 so_far) (last ∷ [])
    ∙ ap (λ l. flat_map lines_at (range_with_len 1 so_far) ++ l) (append-nil (lines_at last))

-- the text with the lines of the next number
pub text_turn : (so_far last : ℕ) (text new : List ℕ) → 1 + so_far ≡ last → text ≡ text_of (flat_map lines_at (range_with_len 1 so_far)) → new ≡ text ++ text_of (lines_at last)
    → new ≡ text_of (flat_map lines_at (range_with_len 1 (so_far + 1)))
text_turn so_far last text new is was more =
    more ∙ ap (λ t. t ++ text_of (lines_at last)) was ∙ sym (text_of-append (flat_map lines_at (range_with_len 1 so_far)) (lines_at last))
    ∙ ap text_of (sym (lines_more so_far last is))

-- the count with those of the next number
pub count_turn : (so_far last sum more : ℕ) → 1 + so_far ≡ last → sum ≡ length (flat_map lines_at (range_with_len 1 so_far)) → more ≡ length (lines_at last)
    → sum + more ≡ length (flat_map lines_at (range_with_len 1 (so_far + 1)))
count_turn so_far last sum more is was next =
    ap (λ n. n + more) was ∙ ap (λ n. length (flat_map lines_at (range_with_len 1 so_far)) + n) next
    ∙ sym (length-append (flat_map lines_at (range_with_len 1 so_far)) (lines_at last)) ∙ ap length (sym (lines_more so_far last is))

-- ---- of one number

-- how many lines a number has
pub lines_counted : (number a b c d n : ℕ) → ((line : List ℕ) → a ≡ length (at_each 3 number line)) → ((line : List ℕ) → b ≡ length (at_each 5 number line))
    → ((line : List ℕ) → c ≡ length (at_each 7 number line)) → ((line : List ℕ) → d ≡ length (at_each 10 number line)) → n ≡ 2 + a + b + c + d → n ≡ length (lines_at number)
unfolding lines_at
lines_counted number a b c d n three five seven ten is =
    let set : List (List ℕ) = register_line number ∷ set_line number ∷ [] in
    let seen : List (List ℕ) = at_each 3 number (seen_line number) in
    let get : List (List ℕ) = at_each 5 number (get_line (number - 1)) in
    let none : List (List ℕ) = at_each 7 number get_none_line in
    let gone : List (List ℕ) = at_each 10 number (unregister_line (number / 2)) in
    let counts : length ((((set ++ seen) ++ get) ++ none) ++ gone) ≡ (((2 + length seen) + length get) + length none) + length gone
    = length-append (((set ++ seen) ++ get) ++ none) gone
    ∙ ap (λ k. k + length gone) (length-append ((set ++ seen) ++ get) none
    ∙ ap (λ k. k + length none) (length-append (set ++ seen) get ∙ ap (λ k. k + length get) (length-append set seen))) in
    is ∙ ap (λ k. 2 + k + b + c + d) (three (seen_line number)) ∙ ap (λ k. 2 + length seen + k + c + d) (five (get_line (number - 1)))
    ∙ ap (λ k. 2 + length seen + length get + k + d) (seven get_none_line) ∙ ap (λ k. 2 + length seen + length get + length none + k) (ten (unregister_line (number / 2))) ∙ sym counts
