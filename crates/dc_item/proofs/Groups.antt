-- The lines of a text, parted into records, when one more line comes.
use Rattle.std.proofs.Common.{◌≡◌, ℕ, Bool, true, false, cond, List, [], ◌∷◌, ◌++◌, None, refl, sym, ap, ◌∙◌, append_assoc}
use Rattle.std.specs.Prelude.{◌||◌}
use Rattle.std.specs.List.{list_any, filter_map, AllByRecursion, cons_option}
use Rattle.std.proofs.lemmas.List.{map-append}
use Rattle.dc_text.proofs.FirstLemmas.{before_first-cons, before_first-later, after_last-cons}
use Rattle.dc_item.specs.Records.{is_blank, until_blank, since_blank, name_in, item_of, lines_said, record_at, records_of}
use Rattle.dc_item.specs.Table.{names_of}
use Rattle.dc_item.specs.Grammar.{RecordLine, Blank, Name, Owners, Flags, Variables, Variable, Field, Nothing}
use Rattle.dc_item.specs.declared.entry.Entry.{Entry}

-- a line and its number
abbrev pub Line : Type 0
Line = ℕ × RecordLine

pub lines_said-append : (xs ys : List Line) → lines_said (xs ++ ys) ≡ lines_said xs ++ lines_said ys
lines_said-append xs ys = map-append (λ (l : Line). l.1) xs ys

or-true : (a : Bool) → (a || true) ≡ true
or-true true = refl
or-true false = refl

or-false : (a : Bool) → (a || false) ≡ a
or-false true = refl
or-false false = refl

or_or : (a b c : Bool) → (a || (b || c)) ≡ ((a || b) || c)
or_or true b c = refl
or_or false b c = refl

any_push : (p : RecordLine → Bool) (xs : List RecordLine) (x : RecordLine) → list_any p (xs ++ x ∷ []) ≡ (list_any p xs || p x)
any_push p [] x = or-false (p x)
any_push p (y ∷ xs) x = ap (λ b. p y || b) (any_push p xs x) ∙ or_or (p y) (list_any p xs) (p x)

-- a blank line ends what came since the last
pub since_blank-blank : (ps : List RecordLine) → since_blank (ps ++ Blank ∷ []) ≡ []
since_blank-blank [] = refl
since_blank-blank (q ∷ ps) =
    after_last-cons is_blank q (ps ++ Blank ∷ [])
    ∙ ap (λ b. cond b (since_blank (ps ++ Blank ∷ [])) (q ∷ (ps ++ Blank ∷ []))) (any_push is_blank (q ∷ ps) Blank ∙ or-true (list_any is_blank (q ∷ ps)))
    ∙ since_blank-blank ps

cond_push : (b : Bool) (xs ys : List RecordLine) (x : RecordLine) → cond b (xs ++ x ∷ []) (ys ++ x ∷ []) ≡ cond b xs ys ++ x ∷ []
cond_push true xs ys x = refl
cond_push false xs ys x = refl

-- another line comes last
pub since_blank-push : (ps : List RecordLine) (x : RecordLine) → is_blank x ≡ false → since_blank (ps ++ x ∷ []) ≡ since_blank ps ++ x ∷ []
since_blank-push [] x h = after_last-cons is_blank x [] ∙ ap (λ b. cond (b || false) [] (x ∷ [])) h
since_blank-push (q ∷ ps) x h =
    after_last-cons is_blank q (ps ++ x ∷ [])
    ∙ ap (λ b. cond b (since_blank (ps ++ x ∷ [])) (q ∷ (ps ++ x ∷ []))) (any_push is_blank (q ∷ ps) x ∙ ap (λ b. list_any is_blank (q ∷ ps) || b) h ∙ or-false (list_any is_blank (q ∷ ps)))
    ∙ ap (λ xs. cond (list_any is_blank (q ∷ ps)) xs (q ∷ (ps ++ x ∷ []))) (since_blank-push ps x h)
    ∙ cond_push (list_any is_blank (q ∷ ps)) (since_blank ps) (q ∷ ps) x
    ∙ ap (λ xs. xs ++ x ∷ []) (sym (after_last-cons is_blank q ps))

-- up to a blank line nothing after it counts
until_blank-closed : (fs gs : List Line) (n : ℕ) → until_blank (lines_said ((fs ++ (n, Blank) ∷ []) ++ gs)) ≡ until_blank (lines_said (fs ++ (n, Blank) ∷ []))
until_blank-closed [] gs n = refl
until_blank-closed (f ∷ fs) gs n =
    before_first-cons is_blank f.1 (lines_said ((fs ++ (n, Blank) ∷ []) ++ gs)) ∙ ap (λ xs. cond (is_blank f.1) [] (f.1 ∷ xs)) (until_blank-closed fs gs n)
    ∙ sym (before_first-cons is_blank f.1 (lines_said (fs ++ (n, Blank) ∷ [])))

record_at-same : (n : ℕ) (f : RecordLine) (xs ys : List RecordLine) → until_blank xs ≡ until_blank ys → record_at n f xs ≡ record_at n f ys
record_at-same n Blank xs ys e = refl
record_at-same n (Name name) xs ys e = ap (λ us. record { name = name; item = item_of us; line = n } ∷ []) e
record_at-same n (Owners names) xs ys e = refl
record_at-same n (Flags names) xs ys e = refl
record_at-same n Variables xs ys e = refl
record_at-same n (Variable key value) xs ys e = refl
record_at-same n (Field key value) xs ys e = refl
record_at-same n Nothing xs ys e = refl

-- the records before a blank line and those after it
pub records_of-closed : (fs gs : List Line) (n : ℕ) → records_of ((fs ++ (n, Blank) ∷ []) ++ gs) ≡ records_of (fs ++ (n, Blank) ∷ []) ++ records_of gs
records_of-closed [] gs n = refl
records_of-closed (f ∷ fs) gs n =
    ap (λ es. es ++ records_of ((fs ++ (n, Blank) ∷ []) ++ gs)) (record_at-same f.0 f.1 _ _ (until_blank-closed fs gs n))
    ∙ ap (λ es. record_at f.0 f.1 (lines_said (fs ++ (n, Blank) ∷ [])) ++ es) (records_of-closed fs gs n)
    ∙ sym (append_assoc (record_at f.0 f.1 (lines_said (fs ++ (n, Blank) ∷ []))) (records_of (fs ++ (n, Blank) ∷ [])) (records_of gs))

-- a line that is none of the Name lines and blank lines
pub record IsFurther (p : RecordLine) : Type 0 where
  pub unblank : is_blank p ≡ false
  pub nameless : name_in p ≡ None

pub until_blank-body : (rest tail : List RecordLine) → AllByRecursion IsFurther rest → until_blank (rest ++ tail) ≡ rest ++ until_blank tail
until_blank-body [] tail h = refl
until_blank-body (p ∷ rest) tail h = before_first-later is_blank p (rest ++ tail) h.0.unblank ∙ ap (λ xs. p ∷ xs) (until_blank-body rest tail h.1)

record_at-nameless : (n : ℕ) (p : RecordLine) (xs : List RecordLine) → name_in p ≡ None → record_at n p xs ≡ []
record_at-nameless n Blank xs e = refl
record_at-nameless n (Name name) xs e = absurd (cc)
record_at-nameless n (Owners names) xs e = refl
record_at-nameless n (Flags names) xs e = refl
record_at-nameless n Variables xs e = refl
record_at-nameless n (Variable key value) xs e = refl
record_at-nameless n (Field key value) xs e = refl
record_at-nameless n Nothing xs e = refl

-- further lines begin no record
pub tail_only : (rest tail : List Line) → AllByRecursion IsFurther (lines_said rest) → records_of tail ≡ [] → records_of (rest ++ tail) ≡ []
tail_only [] tail h none = none
tail_only (l ∷ rest) tail h none = ap (λ es. es ++ records_of (rest ++ tail)) (record_at-nameless l.0 l.1 (lines_said (rest ++ tail)) h.0.nameless) ∙ tail_only rest tail h.1 none

name_at : (n : ℕ) (p : RecordLine) (xs : List RecordLine) (names : List (List ℕ)) → cons_option (name_in p) names ≡ names_of (record_at n p xs) ++ names
name_at n Blank xs names = refl
name_at n (Name name) xs names = refl
name_at n (Owners os) xs names = refl
name_at n (Flags fs) xs names = refl
name_at n Variables xs names = refl
name_at n (Variable key value) xs names = refl
name_at n (Field key value) xs names = refl
name_at n Nothing xs names = refl

-- the names of the records are those of the Name lines
pub names-records_of : (ls : List Line) → filter_map name_in (lines_said ls) ≡ names_of (records_of ls)
names-records_of [] = refl
names-records_of (l ∷ ls) =
    ap (λ names. cons_option (name_in l.1) names) (names-records_of ls)
    ∙ name_at l.0 l.1 (lines_said ls) _
    ∙ sym (map-append (λ (e : Entry). e.name) (record_at l.0 l.1 (lines_said ls)) (records_of ls))
