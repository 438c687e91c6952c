-- The laws of the lines of a stream.
use Rattle.std.proofs.Common.{◌≡◌, ◌+◌, ◌-◌, inl, inr, ℕ, ◌≤◌, suc, zero, false, cond, List, [], ◌∷◌, ◌++◌, length, take, drop, map, refl, ap, sym, subst, ◌∙◌, arith, eqb, leb, length-append, append_assoc, Result, Ok, Err, OnErr}
use Rattle.std.proofs.lemmas.Bool.{cases_Bool, cases_lt, lt-leb}
use Rattle.std.proofs.lemmas.List.{map-append, append-nil, drop-drop}
use Rattle.dc_text.proofs.LineLemmas.{to_end}
use Rattle.std.specs.List.{concat}
use Rattle.dc_text.specs.Lines.{TextLines, text_lines, onto_first}
use Rattle.dc_text.proofs.TextLines.{text_lines-append, first, text_lines_none, text_lines_some}
use Rattle.dc_words.specs.Stream.{whole_lines, rest_of, line_of, line_of_rest, clip, clipped, StandsFor, lines_by_pieces, rest_by_pieces, AreCutAnyway, IsTaken, all_lines}
use Rattle.dc_words.specs.declared.stream.Line.TheVariants.{Whole, TooLong}
use Rattle.dc_words.specs.declared.stream.Line.{Line}

-- bytes with no newline stand in front of the first line, or of the rest
abbrev in_front : List ℕ → List (List ℕ) → List ℕ → TextLines
in_front bytes [] rest = record { ended = []; rest = bytes ++ rest }
in_front bytes (line ∷ lines) rest = record { ended = (bytes ++ line) ∷ lines; rest = rest }

abbrev IsPlain : List ℕ → Type 0
IsPlain [] = Unit {0}
IsPlain (x ∷ xs) = (eqb x 10 ≡ false) × IsPlain xs

onto_front : (x : ℕ) (xs : List ℕ) (lines : List (List ℕ)) (rest : List ℕ)
    → onto_first x (in_front xs lines rest).ended (in_front xs lines rest).rest ≡ in_front (x ∷ xs) lines rest
onto_front x xs [] rest = refl
onto_front x xs (line ∷ lines) rest = refl

front_none : (lines : List (List ℕ)) (rest : List ℕ) → record { ended = lines; rest = rest } ≡ in_front [] lines rest
front_none [] rest = refl
front_none (line ∷ lines) rest = refl

text_lines_plain : (xs ys : List ℕ) → IsPlain xs → text_lines (xs ++ ys) ≡ in_front xs (text_lines ys).ended (text_lines ys).rest
text_lines_plain [] ys plain = front_none (text_lines ys).ended (text_lines ys).rest
text_lines_plain (x ∷ xs) ys plain = rw (plain.0, text_lines_plain xs ys plain.1) (onto_front x xs (text_lines ys).ended (text_lines ys).rest)

onto_plain : (x : ℕ) (lines : List (List ℕ)) (rest : List ℕ) → eqb x 10 ≡ false → IsPlain rest → IsPlain (onto_first x lines rest).rest
onto_plain x [] rest other plain = (other, plain)
onto_plain x (line ∷ lines) rest other plain = plain

rest_plain : (xs : List ℕ) → IsPlain (text_lines xs).rest
rest_plain [] = tt
rest_plain (x ∷ xs) = elim (cases_Bool (eqb x 10)) [
  | inl newline ↦ rw newline (rest_plain xs)
  | inr other ↦ rw other (onto_plain x (text_lines xs).ended (text_lines xs).rest other (rest_plain xs))
]

clip_plain : (xs : List ℕ) (n : ℕ) → IsPlain xs → IsPlain (clip xs n)
clip_plain [] n plain = tt
clip_plain (x ∷ xs) zero plain = tt
clip_plain (x ∷ xs) (suc n) plain = (plain.0, clip_plain xs n plain.1)

pub clip-take : (xs : List ℕ) (n : ℕ) → take n xs ≡ clip xs n
clip-take [] zero = refl
clip-take [] (suc n) = refl
clip-take (x ∷ xs) zero = refl
clip-take (x ∷ xs) (suc n) = ap (λ (l : List ℕ). x ∷ l) (clip-take xs n)

clip_none : (xs : List ℕ) → clip xs 0 ≡ []
clip_none [] = refl
clip_none (x ∷ xs) = refl

-- clipping twice is clipping once
clip-clip : (xs rest : List ℕ) (n : ℕ) → clip (clip xs n ++ rest) n ≡ clip (xs ++ rest) n
clip-clip [] rest n = refl
clip-clip (x ∷ xs) rest zero = clip_none rest
clip-clip (x ∷ xs) rest (suc n) = ap (λ (l : List ℕ). x ∷ l) (clip-clip xs rest n)

clip_short : (xs : List ℕ) (n : ℕ) → length xs ≤ n → clip xs n ≡ xs
clip_short [] n short = refl
clip_short (x ∷ xs) zero short = absurd (omega arith)
clip_short (x ∷ xs) (suc n) short = ap (λ (l : List ℕ). x ∷ l) (clip_short xs n (omega arith))

clip_long : (xs : List ℕ) (n : ℕ) → n ≤ length xs → length (clip xs n) ≡ n
clip_long [] n long = omega arith
clip_long (x ∷ xs) zero long = refl
clip_long (x ∷ xs) (suc n) long = ap (λ (m : ℕ). suc m) (clip_long xs n (omega arith))

-- a line is seen the same when its front is clipped past the limit
line-clip : (xs line : List ℕ) (most : ℕ) → cond (leb (length (clip xs (suc most) ++ line)) most) (Whole (clip xs (suc most) ++ line)) TooLong ≡ cond (leb (length (xs ++ line)) most) (Whole (xs ++ line)) TooLong
line-clip xs line most = elim (cases_lt most (length xs)) [
  | inl long ↦
      let clipped_is : length (clip xs (suc most)) ≡ suc most = clip_long xs (suc most) (omega arith) in
      rw (
        lt-leb (length (clip xs (suc most) ++ line)) most (omega (arith, length-append (clip xs (suc most)) line)),
        lt-leb (length (xs ++ line)) most (omega (arith, length-append xs line)),
      ) refl
  | inr short ↦ rw (clip_short xs (suc most) (omega arith)) refl
]

line_of-clipped : (xs line : List ℕ) → line_of (clipped xs ++ line) ≡ line_of (xs ++ line)
line_of-clipped xs line = line-clip xs line 1048576

front_lines : (xs : List ℕ) (lines : List (List ℕ)) (rest : List ℕ) → map line_of (in_front (clipped xs) lines rest).ended ≡ map line_of (in_front xs lines rest).ended
front_lines xs [] rest = refl
front_lines xs (line ∷ lines) rest = ap (λ (l : Line). l ∷ map line_of lines) (line_of-clipped xs line)

front_rest : (xs : List ℕ) (lines : List (List ℕ)) (rest : List ℕ) → clipped (in_front (clipped xs) lines rest).rest ≡ clipped (in_front xs lines rest).rest
front_rest xs [] rest = clip-clip xs rest 1048577
front_rest xs (line ∷ lines) rest = refl

-- clipped bytes stand for the bytes, whatever comes after them
pub clipped_lines : (xs ys : List ℕ) → IsPlain xs → whole_lines (clipped xs ++ ys) ≡ whole_lines (xs ++ ys)
clipped_lines xs ys plain =
    ap (λ (p : TextLines). map line_of p.ended) (text_lines_plain (clipped xs) ys (clip_plain xs 1048577 plain)) ∙ front_lines xs (text_lines ys).ended (text_lines ys).rest
    ∙ sym (ap (λ (p : TextLines). map line_of p.ended) (text_lines_plain xs ys plain))

pub clipped_rest : (xs ys : List ℕ) → IsPlain xs → rest_of (clipped xs ++ ys) ≡ rest_of (xs ++ ys)
clipped_rest xs ys plain =
    ap (λ (p : TextLines). clipped p.rest) (text_lines_plain (clipped xs) ys (clip_plain xs 1048577 plain)) ∙ front_rest xs (text_lines ys).ended (text_lines ys).rest
    ∙ sym (ap (λ (p : TextLines). clipped p.rest) (text_lines_plain xs ys plain))

-- what comes later goes on from the rest, line by line
pub whole_lines-append : (xs ys : List ℕ) → whole_lines (xs ++ ys) ≡ whole_lines xs ++ whole_lines (rest_of xs ++ ys)
whole_lines-append xs ys =
    ap (λ (p : TextLines). map line_of p.ended) (text_lines-append xs ys) ∙ map-append line_of (text_lines xs).ended (text_lines ((text_lines xs).rest ++ ys)).ended
    ∙ ap (λ (l : List Line). whole_lines xs ++ l) (sym (clipped_lines (text_lines xs).rest ys (rest_plain xs)))

pub rest_of-append : (xs ys : List ℕ) → rest_of (xs ++ ys) ≡ rest_of (rest_of xs ++ ys)
rest_of-append xs ys = ap (λ (p : TextLines). clipped p.rest) (text_lines-append xs ys) ∙ sym (clipped_rest (text_lines xs).rest ys (rest_plain xs))

-- where no line is ended, all there is is the rest
pub rest_is_all : (xs : List ℕ) → whole_lines xs ≡ [] → IsPlain xs × ((text_lines xs).rest ≡ xs)
rest_is_all xs none = elim (cases_lt (first xs) (length xs)) [
  | inl within ↦ let some : line_of (take (first xs) xs) ∷ map line_of (text_lines (drop (suc (first xs)) xs)).ended ≡ [] = rw (text_lines_some xs (first xs) refl within) at none in cc
  | inr past ↦ let all : (text_lines xs).rest ≡ xs = ap (λ (p : TextLines). p.rest) (text_lines_none xs past) in (subst IsPlain all (rest_plain xs), all)
]

-- where no line is ended, clipped bytes stand for the bytes
pub stands_clipped : (xs ys : List ℕ) → whole_lines xs ≡ [] → StandsFor (xs ++ ys) (clipped xs ++ ys)
stands_clipped xs ys none =
    let all = rest_is_all xs none in
    record { lines = clipped_lines xs ys all.0; rest = clipped_rest xs ys all.0 }

pub stands_alone : (xs : List ℕ) → whole_lines xs ≡ [] → StandsFor xs (clipped xs)
stands_alone xs none = let both = stands_clipped xs [] none in
    record { lines = rw (append-nil (clipped xs), append-nil xs) at both.lines; rest = rw (append-nil (clipped xs), append-nil xs) at both.rest }

line_of-clip : (xs : List ℕ) → line_of (clipped xs) ≡ line_of xs
line_of-clip xs = rw (append-nil (clipped xs), append-nil xs) at (line_of-clipped xs [])

pub line_of_rest-clipped : (xs : List ℕ) → line_of_rest (clipped xs) ≡ line_of_rest xs
line_of_rest-clipped [] = refl
line_of_rest-clipped (x ∷ xs) = ap (λ (l : Line). l ∷ []) (line_of-clip (x ∷ xs))

pub on_err : {T E : Type 0} (result : Result T E) (P : Type 0) → P → OnErr result P
on_err (Ok value) P holds = tt
on_err (Err error) P holds = holds

-- ---- bytes that come in pieces

-- the lines and the rest of pieces that come behind some bytes
cut_behind : (before : List ℕ) (pieces : List (List ℕ))
    → (whole_lines before ++ lines_by_pieces (rest_of before) pieces ≡ whole_lines (before ++ concat pieces)) × (rest_by_pieces (rest_of before) pieces ≡ rest_of (before ++ concat pieces))
cut_behind before [] = (rw (append-nil (whole_lines before), append-nil before) refl, rw (append-nil before) refl)
cut_behind before (piece ∷ pieces) =
    let rest : List ℕ = rest_of before in
    let all : (before ++ piece) ++ concat pieces ≡ before ++ (piece ++ concat pieces) = append_assoc before piece (concat pieces) in
    let later = cut_behind (before ++ piece) pieces in
    let same : rest_of (rest ++ piece) ≡ rest_of (before ++ piece) = sym (rest_of-append before piece) in (
      ap (λ (r : List ℕ). whole_lines before ++ (whole_lines (rest ++ piece) ++ lines_by_pieces r pieces)) same
          ∙ sym (append_assoc (whole_lines before) (whole_lines (rest ++ piece)) (lines_by_pieces (rest_of (before ++ piece)) pieces))
          ∙ ap (λ (ls : List Line). ls ++ lines_by_pieces (rest_of (before ++ piece)) pieces) (sym (whole_lines-append before piece))
          ∙ later.0 ∙ ap whole_lines all,
      ap (λ (r : List ℕ). rest_by_pieces r pieces) same ∙ later.1 ∙ ap rest_of all,
    )

pub cut_anyway : (pieces : List (List ℕ)) → AreCutAnyway pieces
cut_anyway pieces = let f = cut_behind [] pieces in record { lines = f.0; rest = f.1 }

pub taken-fed : (fed piece held new : List ℕ) (taken : List Line) → IsTaken fed taken held → whole_lines held ≡ [] → StandsFor (held ++ piece) new → IsTaken (fed ++ piece) taken new
taken-fed fed piece held new taken is none stands = record {
  lines = rw (whole_lines-append fed piece, is.lines, none, append-nil taken, stands.lines, whole_lines-append held piece, none, is.rest) refl;
  rest = rw (rest_of-append fed piece, stands.rest, rest_of-append held piece, is.rest) refl;
}

pub taken-next : (fed held new : List ℕ) (taken : List Line) (line : Line) → IsTaken fed taken held → whole_lines held ≡ line ∷ whole_lines new → rest_of new ≡ rest_of held → IsTaken fed (taken ++ line ∷ []) new
taken-next fed held new taken line is first same = record {
  lines = is.lines ∙ ap (λ (ls : List Line). taken ++ ls) first ∙ sym (append_assoc taken (line ∷ []) (whole_lines new));
  rest = is.rest ∙ sym same;
}

pub taken-last : (fed held : List ℕ) (taken : List Line) → IsTaken fed taken held → whole_lines held ≡ [] → taken ++ line_of_rest (rest_of held) ≡ all_lines fed
taken-last fed held taken is none = rw (is.lines, none, append-nil taken, is.rest) refl

-- ---- the rest of the bytes that are held

pub rest_held : (bytes held seen : List ℕ) (taken begins : ℕ) → bytes ≡ held → drop taken held ≡ seen
    → drop begins (take (length bytes - taken) (drop taken bytes)) ≡ (text_lines (take (length bytes - taken) (drop taken bytes))).rest → drop (taken + begins) held ≡ (text_lines seen).rest
rest_held bytes held seen taken begins same view is =
    let whole : drop begins (drop taken bytes) ≡ (text_lines (drop taken bytes)).rest = rw (to_end taken bytes) at is in
    let all : drop taken bytes ≡ seen = ap (drop taken) same ∙ view in
    sym (drop-drop begins taken held) ∙ ap (λ (l : List ℕ). drop begins (drop taken l)) (sym same) ∙ whole ∙ ap (λ (l : List ℕ). (text_lines l).rest) all
