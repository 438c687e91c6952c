-- The lines of a reply are no front of another's, and they are of one reply.
use Rattle.std.proofs.Common.{◌≡◌, ℕ, Bool, List, [], ◌∷◌, ◌++◌, map as each, refl, sym, ap, ◌∙◌}
use Rattle.std.specs.Prelude.{codes}
use Rattle.dc_words.specs.declared.stream.Line.{Line}
use Rattle.dc_words.specs.declared.stream.Line.TheVariants as line
use Rattle.dc_frontend.specs.declared.shown.Shown.{Shown}
use Rattle.dc_teletype.specs.declared.teletype.Answer.{Answer}
use Rattle.dc_teletype.specs.declared.teletype.Asked.{Asked}
use Rattle.dc_teletype.specs.declared.teletype.Asked.TheVariants.{Answers, Back}
use Rattle.dc_pass.specs.Wire.{answer_line, reply_lines}
use Rattle.dc_pass.specs.Reading.{replies, GoesOn, IsWhole}
use Rattle.dc_pass.proofs.AgainLemmas.{whole_same}
use Rattle.dc_pass.proofs.ReplyLemmas.{not_done, not_back, done_not_back, answer_one}
use Rattle.dc_pass.proofs.TakeLemmas.{Apart, apart}

-- ---- answers

answers_apart : (some all : List Answer) (bytes : List ℕ) (others : List (List ℕ)) → each answer_line all ++ codes "done" ∷ [] ≡ (each answer_line some ++ codes "done" ∷ []) ++ bytes ∷ others → ⊥
answers_apart [] [] bytes others e = absurd (cc)
answers_apart [] (b ∷ all) bytes others e = let first : answer_line b ≡ codes "done" = cc in not_done b first
answers_apart (a ∷ some) [] bytes others e = let first : codes "done" ≡ answer_line a = cc in not_done a (sym first)
answers_apart (a ∷ some) (b ∷ all) bytes others e =
    let rest : each answer_line all ++ codes "done" ∷ [] ≡ (each answer_line some ++ codes "done" ∷ []) ++ bytes ∷ others = cc in
    answers_apart some all bytes others rest

answers_one : (some all : List Answer) → each answer_line some ++ codes "done" ∷ [] ≡ each answer_line all ++ codes "done" ∷ [] → some ≡ all
answers_one [] [] e = refl
answers_one [] (b ∷ all) e = let first : codes "done" ≡ answer_line b = cc in absurd (not_done b (sym first))
answers_one (a ∷ some) [] e = let first : answer_line a ≡ codes "done" = cc in absurd (not_done a first)
answers_one (a ∷ some) (b ∷ all) e =
    let first : answer_line a ≡ answer_line b = cc in
    let rest : each answer_line some ++ codes "done" ∷ [] ≡ each answer_line all ++ codes "done" ∷ [] = cc in
    (λ i. answer_one a b first i ∷ answers_one some all rest i)

-- `back` begins no answers
no_back : (answers : List Answer) (others more : List (List ℕ)) → (each answer_line answers ++ codes "done" ∷ []) ++ others ≡ codes "back" ∷ more → ⊥
no_back [] others more e = let first : codes "done" ≡ codes "back" = cc in done_not_back first
no_back (a ∷ answers) others more e = let first : answer_line a ≡ codes "back" = cc in not_back a first

back_begins_none : (answers : List Answer) (more : List (List ℕ)) → each answer_line answers ++ codes "done" ∷ [] ≡ codes "back" ∷ more → ⊥
back_begins_none [] more e = let first : codes "done" ≡ codes "back" = cc in done_not_back first
back_begins_none (a ∷ answers) more e = let first : answer_line a ≡ codes "back" = cc in not_back a first

-- ---- replies

lines_apart : (one other : Asked) (bytes : List ℕ) (others : List (List ℕ)) → reply_lines other ≡ reply_lines one ++ bytes ∷ others → ⊥
lines_apart Back Back bytes others e = absurd (cc)
lines_apart Back (Answers all) bytes others e = back_begins_none all (bytes ∷ others) e
lines_apart (Answers some) Back bytes others e = no_back some (bytes ∷ others) [] (sym e)
lines_apart (Answers some) (Answers all) bytes others e = answers_apart some all bytes others e

lines_one : (one other : Asked) → reply_lines one ≡ reply_lines other → one ≡ other
lines_one Back Back e = refl
lines_one Back (Answers all) e = absurd (back_begins_none all [] (sym e))
lines_one (Answers some) Back e = absurd (back_begins_none some [] e)
lines_one (Answers some) (Answers all) e = ap (λ (a : List Answer). Answers a) (answers_one some all e)

-- a reply that is whole doesn't go on
pub reply_apart : (backup : Bool) (shown : List Shown) (lines : List Line) (asked : Asked) → IsWhole (replies backup shown) lines asked → GoesOn (replies backup shown) lines → ⊥
reply_apart backup shown lines asked whole on =
    let l : each line.Whole (reply_lines on.front.whole) ≡ each line.Whole (reply_lines asked) ++ on.next ∷ on.behind =
    on.front.lines_are ∙ ap (λ (ls : List Line). ls ++ on.next ∷ on.behind) (sym whole.lines_are) in
    let a : Apart (reply_lines on.front.whole) (reply_lines asked) on.next on.behind = apart (reply_lines on.front.whole) (reply_lines asked) on.next on.behind l in
    lines_apart asked on.front.whole a.bytes a.others a.lines_are

-- lines are of one reply
pub reply_one : (backup : Bool) (shown : List Shown) (lines : List Line) (one other : Asked) → IsWhole (replies backup shown) lines one → IsWhole (replies backup shown) lines other → one ≡ other
reply_one backup shown lines one other first second =
    lines_one one other (whole_same (reply_lines one) (reply_lines other) (first.lines_are ∙ sym second.lines_are))
