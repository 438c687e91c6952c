-- The first line that doesn't stand is the first bad line.
use Rattle.std.proofs.Common.{◌≡◌, ℕ, zero, suc, ◌+◌, ◌-◌, ◌<◌, List, [], ◌∷◌, ◌++◌, length, take, drop, map, refl, sym, ap, ◌∙◌, subst, arith, length-append, append_assoc, inl, inr}
use Rattle.std.specs.List.{enumerate_from}
use Rattle.std.proofs.lemmas.List.{take_at, take-append-drop, take-take, map-append, length-map}
use Rattle.std.proofs.lemmas.List.FromFn.{length-enumerate_from}
use Rattle.std.proofs.lemmas.Bool.{cases_lt}
use Rattle.dc_text.specs.Faults.{AllStand, IsFirstFault}
use Rattle.dc_text.specs.Lines.{lines_of}
use Rattle.dc_text.proofs.FaultLemmas.{not_in_nil}
use Rattle.dc_item.specs.Grammar.{line_said, RecordLine}
use Rattle.dc_item.specs.Records.{numbered, LineStands, HasReading, IsBadAt, IsBad, records_of}
use Rattle.dc_item.proofs.Groups.{Line}

-- a line that doesn't stand has one fault
abbrev pub HasFault : List Line → Line → List Line → Unit {0} → Type 0
HasFault before line after kind = LineStands before line after → ⊥

-- ---- numbers of lines

number_is : (n : ℕ) (ps : List RecordLine) (before after : List Line) (k : ℕ) (p : RecordLine) → enumerate_from n ps ≡ before ++ (k, p) ∷ after → k ≡ n + length before
number_is n [] before after k p e = absurd (not_in_nil before after (k, p) e)
number_is n (q ∷ ps) [] after k p e = let same : (n, q) ≡ (k, p) = cc in let number : n ≡ k = ap (λ (l : Line). l.0) same in omega arith
number_is n (q ∷ ps) (b ∷ before) after k p e =
    let rest : enumerate_from (n + 1) ps ≡ before ++ (k, p) ∷ after = cc in
    let is : k ≡ (n + 1) + length before = number_is (n + 1) ps before after k p rest in
    omega (arith, is)

enumerate_from-take : (m n : ℕ) (ps : List RecordLine) → enumerate_from n (take m ps) ≡ take m (enumerate_from n ps)
enumerate_from-take zero n ps = refl
enumerate_from-take (suc m) n [] = refl
enumerate_from-take (suc m) n (p ∷ ps) = ap (λ ls. (n, p) ∷ ls) (enumerate_from-take m (n + 1) ps)

map-take : (m : ℕ) (lines : List (List ℕ)) → map line_said (take m lines) ≡ take m (map line_said lines)
map-take zero lines = refl
map-take (suc m) [] = refl
map-take (suc m) (l ∷ lines) = ap (λ ps. line_said l ∷ ps) (map-take m lines)

numbered-take : (m : ℕ) (lines : List (List ℕ)) → numbered (take m lines) ≡ take m (numbered lines)
numbered-take m lines = ap (enumerate_from 1) (map-take m lines) ∙ enumerate_from-take m 1 (map line_said lines)

enumerate_from-append : (n : ℕ) (ps qs : List RecordLine) → enumerate_from n (ps ++ qs) ≡ enumerate_from n ps ++ enumerate_from (n + length ps) qs
enumerate_from-append n [] qs = let e : n ≡ n + 0 = omega arith in ap (λ m. enumerate_from m qs) e
enumerate_from-append n (p ∷ ps) qs =
    let e : (n + 1) + length ps ≡ n + suc (length ps) = omega arith in
    ap (λ ls. (n, p) ∷ ls) (enumerate_from-append (n + 1) ps qs ∙ ap (λ m. enumerate_from (n + 1) ps ++ enumerate_from m qs) e)

numbered-append : (ls ms : List (List ℕ)) → numbered (ls ++ ms) ≡ numbered ls ++ enumerate_from (1 + length (map line_said ls)) (map line_said ms)
numbered-append ls ms = ap (enumerate_from 1) (map-append line_said ls ms) ∙ enumerate_from-append 1 (map line_said ls) (map line_said ms)

-- ---- from the first fault to the first bad line

pub reading_from_all : (lines : List (List ℕ)) → AllStand LineStands (numbered lines) → HasReading lines
reading_from_all lines all = (records_of (numbered lines), record { stand = all; are = refl })

pub bad_from_fault : (lines : List (List ℕ)) (k : ℕ) (p : RecordLine) → IsFirstFault LineStands HasFault (numbered lines) (k, p) tt → IsBadAt lines k
bad_from_fault lines k p f =
    let size : length (numbered lines) ≡ length lines = length-enumerate_from 1 (map line_said lines) ∙ length-map lines line_said in
    let number : k ≡ 1 + length f.before = number_is 1 (map line_said lines) f.before f.after k p f.whole in
    let parted : length (numbered lines) ≡ length f.before + suc (length f.after) = ap length f.whole ∙ length-append f.before ((k, p) ∷ f.after) in
    let front : take (k - 1) (numbered lines) ≡ f.before = ap (take (k - 1)) f.whole ∙ take_at f.before ((k, p) ∷ f.after) (k - 1) (omega (arith, number)) in
    let longer : length (f.before ++ (k, p) ∷ []) ≡ k = omega (arith, number, length-append f.before ((k, p) ∷ [])) in
    let more : take k (numbered lines) ≡ f.before ++ (k, p) ∷ []
    = ap (take k) (f.whole ∙ sym (append_assoc f.before ((k, p) ∷ []) f.after)) ∙ take_at (f.before ++ (k, p) ∷ []) f.after k (sym (sym longer)) in
    record {
      least = omega (arith, number);
      within = omega (arith, number, size, parted);
      read = reading_from_all (take (k - 1) lines) (subst (AllStand LineStands) (sym (numbered-take (k - 1) lines ∙ front)) (λ b a l e. f.none b a l e));
      refused = λ r. f.here (subst (AllStand LineStands) (numbered-take k lines ∙ more) r.1.stand f.before [] (k, p) refl);
    }

-- ---- one first bad line

-- the first lines of a list that has a reading have one
front_read : (ls ms : List (List ℕ)) → HasReading (ls ++ ms) → HasReading ls
front_read ls ms r =
    let rest : List Line = enumerate_from (1 + length (map line_said ls)) (map line_said ms) in
    reading_from_all ls (λ b a l e. r.1.stand b (a ++ rest) l (numbered-append ls ms ∙ ap (λ xs. xs ++ rest) e ∙ append_assoc b (l ∷ a) rest))

pub not_both : (text : List ℕ) (k : ℕ) → HasReading (lines_of text) → IsBad text k → ⊥
not_both text k r bad = bad.refused (front_read (take k (lines_of text)) (drop k (lines_of text)) (subst HasReading (sym (take-append-drop k (lines_of text))) r))

-- the lines before a later bad line have a reading
not_before : (ls : List (List ℕ)) (j k : ℕ) → IsBadAt ls j → IsBadAt ls k → j < k → ⊥
not_before ls j k a b h =
    let front : take j (take (k - 1) ls) ≡ take j ls = take-take j (k - 1) ls (omega (arith, h)) in
    let split : take (k - 1) ls ≡ take j ls ++ drop j (take (k - 1) ls) = sym (take-append-drop j (take (k - 1) ls)) ∙ ap (λ xs. xs ++ drop j (take (k - 1) ls)) front in
    a.refused (front_read (take j ls) _ (subst HasReading split b.read))

pub one_fault : (text : List ℕ) (j k : ℕ) → IsBad text j → IsBad text k → j ≡ k
one_fault text j k a b = elim (cases_lt j k) as (λ _. j ≡ k) [
  | inl h ↦ absurd (not_before (lines_of text) j k a b h)
  | inr h ↦ elim (cases_lt k j) as (λ _. j ≡ k) [ inl i ↦ absurd (not_before (lines_of text) k j b a i) | inr i ↦ omega (arith, h, i) ]
]
