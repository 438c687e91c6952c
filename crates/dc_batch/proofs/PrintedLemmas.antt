-- What the printed lines of a job say.
use Rattle.std.proofs.Common.{◌≡◌, ◌≢◌, ℕ, ◌+◌, true, false, cond, not, ◌&&◌, List, [], ◌∷◌, ◌++◌, Some, None, Option, refl, sym, ap, ◌∙◌, arith}
use Rattle.std.specs.Prelude.{◌||◌, ◌==◌}
use Rattle.std.specs.List.{list_all, flat_map, slice_split, AllByRecursion}
use Rattle.std.proofs.lemmas.Bool.Decides.{nat_tests}
use Rattle.dc_text.specs.Bytes.{is_space, is_blank, drop_front, drop_back, trimmed, is_nil}
use Rattle.dc_text.specs.Lines.{has_newline, HaveNoNewline}
use Rattle.dc_text.specs.Names.{is_name, is_word, is_name_byte, is_name_part, has_length}
use Rattle.dc_text.proofs.LineLaws.{lines_of-text_of}
use Rattle.dc_words.specs.Words.{PlainWords, IsWordEnd, plain_words_of}
use Rattle.dc_words.proofs.WordLemmas.{words_of_one}
use Rattle.dc_batch.specs.Forms.{form_of, is_comment, lines_from, lines_in, forms}
use Rattle.dc_batch.specs.Printed.{joined, package_line, templates_lines, command_lines, job_lines, canon, IsValue, IsCommandWord, IsJob}
use Rattle.dc_batch.proofs.TestLemmas.{both, not_true, list_any-append}
use Rattle.dc_batch.proofs.TrimLemmas.{drop_back-append}
use Rattle.dc_batch.specs.declared.forms.Field.TheVariants.{Package, Templates, Config}
use Rattle.dc_batch.specs.declared.forms.Form.{Form}
use Rattle.dc_batch.specs.declared.forms.Form.TheVariants.{Blank, Sets}
use Rattle.dc_batch.specs.declared.job.Job.{Job}

-- ---- names

name_byte : (b : ℕ) → is_name_byte b ≡ true → (is_space b ≡ false) × ((b == 10) ≡ false)
name_byte b e = (grind (arith, nat_tests), grind (arith, nat_tests))

-- bytes without whitespace are trimmed
solid_back : (xs : List ℕ) → list_all (λ b. not (is_space b)) xs ≡ true → drop_back is_space xs ≡ xs
solid_back [] h = refl
solid_back (x ∷ xs) h =
    let g : (not (is_space x) ≡ true) × (list_all (λ b. not (is_space b)) xs ≡ true) = both _ _ h in
    ap (λ t. cond (t && is_blank xs) [] (x ∷ drop_back is_space xs)) (not_true _ g.0) ∙ ap (λ (ys : List ℕ). x ∷ ys) (solid_back xs g.1)

solid_front : (xs ys : List ℕ) → xs ≢ [] → list_all (λ b. not (is_space b)) xs ≡ true → drop_front is_space (xs ++ ys) ≡ xs ++ ys
solid_front [] ys some h = absurd (some refl)
solid_front (x ∷ xs) ys some h =
    let g : (not (is_space x) ≡ true) × (list_all (λ b. not (is_space b)) xs ≡ true) = both _ _ h in
    ap (λ t. cond t (drop_front is_space (xs ++ ys)) (x ∷ (xs ++ ys))) (not_true _ g.0)

name_solid : (bytes : List ℕ) → list_all is_name_byte bytes ≡ true → list_all (λ b. not (is_space b)) bytes ≡ true
name_solid [] e = refl
name_solid (b ∷ bytes) e =
    let f : (is_name_byte b ≡ true) × (list_all is_name_byte bytes ≡ true) = both _ _ e in ap (λ t. not t && list_all (λ c. not (is_space c)) bytes) (name_byte b f.0).0 ∙ name_solid bytes f.1

name_newline : (bytes : List ℕ) → list_all is_name_byte bytes ≡ true → has_newline bytes ≡ false
name_newline [] e = refl
name_newline (b ∷ bytes) e = let f : (is_name_byte b ≡ true) × (list_all is_name_byte bytes ≡ true) = both _ _ e in ap (λ t. t || has_newline bytes) (name_byte b f.0).1 ∙ name_newline bytes f.1

name_bytes : (name : List ℕ) → is_name name ≡ true → list_all is_name_byte name ≡ true
name_bytes name e = (both (has_length 255 name) (list_all is_name_byte name) (both (is_word 255 is_name_byte name) (list_all is_name_part (slice_split (λ b. b == 47) name)) e).0).1

name_trimmed : (name : List ℕ) → list_all is_name_byte name ≡ true → trimmed name ≡ name
name_trimmed [] e = refl
name_trimmed (b ∷ name) e =
    let solid : list_all (λ c. not (is_space c)) (b ∷ name) ≡ true = name_solid (b ∷ name) e in
    ap (λ t. drop_back is_space (cond t (drop_front is_space name) (b ∷ name))) (name_byte b (both (is_name_byte b) (list_all is_name_byte name) e).0).0 ∙ solid_back (b ∷ name) solid

-- ---- words joined by a space

abbrev spaced_words : List (List ℕ) → List ℕ
spaced_words words = flat_map (λ word. 32 ∷ word) words

solid_blank : (xs : List ℕ) → xs ≢ [] → list_all (λ b. not (is_space b)) xs ≡ true → is_blank xs ≡ false
solid_blank [] some h = absurd (some refl)
solid_blank (x ∷ xs) some h = ap (λ t. t && is_blank xs) (not_true (is_space x) (both (not (is_space x)) (list_all (λ b. not (is_space b)) xs) h).0)

blank-append : (xs ys : List ℕ) → is_blank xs ≡ false → is_blank (xs ++ ys) ≡ false
blank-append [] ys h = absurd (cc)
blank-append (x ∷ xs) ys h = elim (is_space x) as (λ t. (t && is_blank xs) ≡ false → (t && is_blank (xs ++ ys)) ≡ false) [ true ↦ λ g. blank-append xs ys g | false ↦ λ g. refl ] h

word_first : (word : List ℕ) (words : List (List ℕ)) → IsCommandWord word → is_blank (word ++ spaced_words words) ≡ false
word_first word words is = blank-append word (spaced_words words) (solid_blank word is.plain.some is.plain.solid)

words_back : (word : List ℕ) (words : List (List ℕ)) → IsCommandWord word → AllByRecursion IsCommandWord words → drop_back is_space (word ++ spaced_words words) ≡ word ++ spaced_words words
words_back word [] is h = ap (drop_back is_space) (append_none word) ∙ solid_back word is.plain.solid ∙ sym (append_none word) where
  append_none : (xs : List ℕ) → xs ++ [] ≡ xs
  append_none [] = refl
  append_none (x ∷ xs) = ap (λ (ys : List ℕ). x ∷ ys) (append_none xs)
words_back word (next ∷ words) is h =
    let more : List ℕ = next ++ spaced_words words in
    let some : is_blank more ≡ false = word_first next words h.0 in
    drop_back-append word (32 ∷ more) some ∙ ap (λ (t : List ℕ). word ++ t) (drop_back-append (32 ∷ []) more some ∙ ap (λ (t : List ℕ). 32 ∷ t) (words_back next words h.0 h.1))

pub joined_trimmed : (word : List ℕ) (words : List (List ℕ)) → IsCommandWord word → AllByRecursion IsCommandWord words → trimmed (joined (word ∷ words)) ≡ joined (word ∷ words)
joined_trimmed word words is h = ap (drop_back is_space) (solid_front word (spaced_words words) is.plain.some is.plain.solid) ∙ words_back word words is h

spaced_newline : (words : List (List ℕ)) → AllByRecursion IsCommandWord words → has_newline (spaced_words words) ≡ false
spaced_newline [] h = refl
spaced_newline (word ∷ words) h = list_any-append (λ b. b == 10) word (spaced_words words) ∙ (λ i. IsCommandWord.one h.0 i || spaced_newline words h.1 i)

joined_newline : (word : List ℕ) (words : List (List ℕ)) → IsCommandWord word → AllByRecursion IsCommandWord words → has_newline (joined (word ∷ words)) ≡ false
joined_newline word words is h = list_any-append (λ b. b == 10) word (spaced_words words) ∙ (λ i. is.one i || spaced_newline words h i)

word_end : (words : List (List ℕ)) → IsWordEnd (spaced_words words)
word_end [] = tt
word_end (word ∷ words) = refl

words_part : (words : List (List ℕ)) → AllByRecursion IsCommandWord words → PlainWords (spaced_words words) words
words_part [] h = refl
words_part (word ∷ words) h = (32 ∷ [], spaced_words words, refl, refl, IsCommandWord.plain h.0, word_end words, words_part words h.1)

-- the words are read again
pub joined_words : (word : List ℕ) (words : List (List ℕ)) → IsCommandWord word → AllByRecursion IsCommandWord words → plain_words_of (joined (word ∷ words)) ≡ word ∷ words
joined_words word words is h = sym ((words_of_one (joined (word ∷ words)) (word ∷ words)).0 ([], spaced_words words, refl, refl, is.plain, word_end words, words_part words h))

pub joined_some : (word : List ℕ) (words : List (List ℕ)) → IsCommandWord word → is_nil (joined (word ∷ words)) ≡ false
joined_some [] words is = absurd (is.plain.some refl)
joined_some (b ∷ word) words is = refl

-- ---- printed lines

abbrev pub templates_forms : Option (List ℕ) → List Form
templates_forms None = []
templates_forms (Some path) = Sets Templates path ∷ []

abbrev pub command_forms : List (List ℕ) → List Form
command_forms [] = []
command_forms (word ∷ words) = Sets Config (joined (word ∷ words)) ∷ []

abbrev pub job_forms : Job → List Form
job_forms job = Sets Package job.package ∷ templates_forms job.templates ++ command_forms job.command ++ Blank ∷ []

-- a printed line: it says this, is no comment and has no newline
record IsPrinted (line : List ℕ) (form : Form) : Type 0 where
  says : form_of line ≡ form
  plain : is_comment line ≡ false
  one : has_newline line ≡ false

-- these lines say these forms
abbrev ArePrinted : List (List ℕ) → List Form → Type 0
ArePrinted [] [] = Unit {0}
ArePrinted [] (f ∷ fs) = ⊥
ArePrinted (l ∷ ls) [] = ⊥
ArePrinted (l ∷ ls) (f ∷ fs) = IsPrinted l f × ArePrinted ls fs

printed-append : (ls ms : List (List ℕ)) (fs gs : List Form) → ArePrinted ls fs → ArePrinted ms gs → ArePrinted (ls ++ ms) (fs ++ gs)
printed-append [] ms [] gs a b = b
printed-append [] ms (f ∷ fs) gs a b = absurd a
printed-append (l ∷ ls) ms [] gs a b = absurd a
printed-append (l ∷ ls) ms (f ∷ fs) gs a b = (a.0, printed-append ls ms fs gs a.1 b)

printed_forms : (n : ℕ) (ls : List (List ℕ)) (fs : List Form) → ArePrinted ls fs → forms (lines_from n ls) ≡ fs
printed_forms n [] [] h = refl
printed_forms n [] (f ∷ fs) h = absurd h
printed_forms n (l ∷ ls) [] h = absurd h
printed_forms n (l ∷ ls) (f ∷ fs) h =
    ap (λ t. forms (cond t [] (record { number = n; form = form_of l } ∷ []) ++ lines_from (n + 1) ls)) (IsPrinted.plain h.0) ∙ (λ i. IsPrinted.says h.0 i ∷ printed_forms (n + 1) ls fs h.1 i)

printed_one : (ls : List (List ℕ)) (fs : List Form) → ArePrinted ls fs → HaveNoNewline ls
printed_one [] fs h = tt
printed_one (l ∷ ls) [] h = absurd h
printed_one (l ∷ ls) (f ∷ fs) h = (IsPrinted.one h.0, printed_one ls fs h.1)

package_printed : (name : List ℕ) → is_name name ≡ true → IsPrinted (package_line name) (Sets Package name)
package_printed name e = record { says = ap (Sets Package) (name_trimmed name (name_bytes name e)); plain = refl; one = name_newline name (name_bytes name e) }

templates_printed : (o : Option (List ℕ)) → ((path : List ℕ) → o ≡ Some path → IsValue path) → ArePrinted (templates_lines o) (templates_forms o)
templates_printed None h = tt
templates_printed (Some path) h = (record { says = ap (Sets Templates) (h path refl).trim; plain = refl; one = (h path refl).one }, tt)

command_printed : (words : List (List ℕ)) → AllByRecursion IsCommandWord words → ArePrinted (command_lines words) (command_forms words)
command_printed [] h = tt
command_printed (word ∷ words) h = (record { says = ap (Sets Config) (joined_trimmed word words h.0 h.1); plain = refl; one = joined_newline word words h.0 h.1 }, tt)

job_printed : (job : Job) → IsJob job → ArePrinted (job_lines job) (job_forms job)
job_printed job h =
    printed-append (package_line job.package ∷ templates_lines job.templates ++ command_lines job.command) ([] ∷ []) (Sets Package job.package ∷ templates_forms job.templates ++ command_forms job.command) (Blank ∷ [])
    (printed-append (package_line job.package ∷ templates_lines job.templates) (command_lines job.command) (Sets Package job.package ∷ templates_forms job.templates) (command_forms job.command)
    (package_printed job.package h.named, templates_printed job.templates h.templates) (command_printed job.command h.command))
    (record { says = refl; plain = refl; one = refl }, tt)

jobs_printed : (jobs : List Job) → AllByRecursion IsJob jobs → ArePrinted (flat_map job_lines jobs) (flat_map job_forms jobs)
jobs_printed [] h = tt
jobs_printed (job ∷ jobs) h = printed-append (job_lines job) (flat_map job_lines jobs) (job_forms job) (flat_map job_forms jobs) (job_printed job h.0) (jobs_printed jobs h.1)

-- the lines of the printed text
pub canon_forms : (jobs : List Job) → AllByRecursion IsJob jobs → forms (lines_in (canon jobs)) ≡ flat_map job_forms jobs
canon_forms jobs h =
    let printed : ArePrinted (flat_map job_lines jobs) (flat_map job_forms jobs) = jobs_printed jobs h in
    ap (λ ls. forms (lines_from 1 ls)) (lines_of-text_of (flat_map job_lines jobs) (printed_one (flat_map job_lines jobs) (flat_map job_forms jobs) printed))
    ∙ printed_forms 1 (flat_map job_lines jobs) (flat_map job_forms jobs) printed
