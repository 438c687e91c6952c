-- What files in memory hold.
use Rattle.std.proofs.Common.{◌≡◌, ◌≢◌, ℕ, Bool, true, false, cond, List, [], ◌∷◌, ◌++◌, Option, None, Some, reverse, map as each, refl, sym, ap, ◌∙◌, MatchOption, Bor}
use Rattle.std.proofs.lemmas.Bool.{eqb-true, eq-eqb}
use Rattle.std.proofs.lemmas.List.{map-append, reverse-append}
use Rattle.std.specs.Prelude.{if◌then◌else◌, ◌==◌}
use Rattle.std.specs.Option.{option_copied}
use Rattle.std.specs.declared.cmp.Ordering.{Ordering}
use Rattle.std.specs.declared.cmp.Ordering.TheVariants.{Less, Equal, Greater}
use Rattle.std.specs.Ordering.{eq_by_cmp, is_eq}
use Rattle.std.specs.Cmp.{eq_by_cmp_equiv}
use Rattle.std.specs.Cmp.Lexicographic.{nat_list_cmp_total}
use Rattle.std.specs.FinMap as map
use Rattle.std.specs.FinMap.{get-insert, get-remove, same_map}
use Rattle.dc_text.specs.Maps.{Texts, text_cmp}
use Rattle.dc_text.proofs.MapLemmas.{exact_texts}
use Rattle.dc_outside.specs.Disk.{File, with_entry, renamed, after_front}
use Rattle.dc_outside.specs.Memory.{files_from, plain_mode}

-- ---- the files at the start

abbrev pub plain : List ℕ × List ℕ → List ℕ × File
plain entry = (entry.0, record { bytes = entry.1; mode = plain_mode })

pub files_from-push : (entries : List (List ℕ × List ℕ)) (path bytes : List ℕ) → files_from (entries ++ (path, bytes) ∷ []) ≡ map.insert (files_from entries) path (record { bytes = bytes; mode = plain_mode })
files_from-push entries path bytes = ap (λ l. map.from_entries {R = text_cmp} (reverse l)) (map-append plain entries ((path, bytes) ∷ []))
    ∙ ap (λ l. map.from_entries {R = text_cmp} l) (reverse-append (each plain entries) (plain (path, bytes) ∷ []))

-- ---- one entry put in the place of another

abbrev pub same : List ℕ → List ℕ → Bool
same = eq_by_cmp text_cmp

is_equal : (o : Ordering) → is_eq o ≡ true → o ≡ Equal
is_equal Less e = absurd (cc)
is_equal Equal e = refl
is_equal Greater e = absurd (cc)

pub same-true : (p q : List ℕ) → same p q ≡ true → p ≡ q
same-true p q e = exact_texts p q (is_equal _ e)

pub same_refl : (p : List ℕ) → same p p ≡ true
same_refl p = (eq_by_cmp_equiv nat_list_cmp_total).refl p

pub same-false : (p q : List ℕ) → p ≢ q → same p q ≡ false
same-false p q apart = elim (same p q) as (λ b. same p q ≡ b → b ≡ false) [ true ↦ λ e. absurd (apart (same-true p q e)) | false ↦ λ e. refl ] refl

-- what stands at each path then
pub get-with_entry : (files : Texts File) (path : List ℕ) (entry : Option File) (q : List ℕ) → map.get (with_entry files path entry) q ≡ cond (same q path) entry (map.get files q)
get-with_entry files path None q = get-remove nat_list_cmp_total files path q
get-with_entry files path (Some file) q = get-insert nat_list_cmp_total files path file q

pub get-here : (files : Texts File) (path : List ℕ) (entry : Option File) → map.get (with_entry files path entry) path ≡ entry
get-here files path entry = rw (get-with_entry files path entry path, same_refl path)

pub with_entry-apart : (files : Texts File) (path : List ℕ) (entry : Option File) → (q : List ℕ) → q ≢ path → map.get (with_entry files path entry) q ≡ map.get files q
with_entry-apart files path entry q apart = rw (get-with_entry files path entry q, same-false q path apart)

-- two filess are the same where the same stands at each path
pub same_files : (old new : Texts File) → ((q : List ℕ) → map.get old q ≡ map.get new q) → old ≡ new
same_files = same_map nat_list_cmp_total exact_texts

pub with_entry-same : (files : Texts File) (path : List ℕ) → with_entry files path (map.get files path) ≡ files
with_entry-same files path = same_files _ _ (λ q. get-with_entry files path (map.get files path) q
    ∙ elim (same q path) as (λ b. same q path ≡ b → cond b (map.get files path) (map.get files q) ≡ map.get files q) [
      | true ↦ λ e. ap (map.get files) (sym (same-true q path e))
      | false ↦ λ e. refl
    ] refl)

-- ---- renames

-- what stands at each path after a rename
pub get-renamed : (files : Texts File) (from to q : List ℕ) → map.get (renamed files from to) q ≡ cond (same q to) (map.get files from) (cond (same q from) None (map.get files q))
get-renamed files from to q = get-with_entry (map.remove files from) to (map.get files from) q
    ∙ ap (cond (same q to) (map.get files from)) (get-remove nat_list_cmp_total files from q)

pub renamed-apart : (files : Texts File) (from to : List ℕ) (file : File) → from ≢ to → map.get files from ≡ Some file → map.remove (map.insert files to file) from ≡ renamed files from to
renamed-apart files from to file apart is = same_files _ _ (λ q.
    get-remove nat_list_cmp_total (map.insert files to file) from q
    ∙ ap (cond (same q from) None) (get-insert nat_list_cmp_total files to file q)
    ∙ elim (same q from) as (λ b. same q from ≡ b → cond b None (cond (same q to) (Some file) (map.get files q)) ≡ cond (same q to) (Some file) (cond b None (map.get files q))) [
      | true ↦ λ e. ap (λ b. cond b (Some file) None) (sym (same-false q to (λ h. apart (sym (same-true q from e) ∙ h))))
      | false ↦ λ e. refl
    ] refl
    ∙ sym (get-renamed files from to q ∙ ap (λ o. cond (same q to) o (cond (same q from) None (map.get files q))) is))

pub renamed-same : (files : Texts File) (from to : List ℕ) (file : File) → from ≡ to → map.get files from ≡ Some file → map.insert files to file ≡ renamed files from to
renamed-same files from to file one is = same_files _ _ (λ q.
    get-insert nat_list_cmp_total files to file q
    ∙ elim (same q to) as (λ b. cond b (Some file) (map.get files q) ≡ cond b (Some file) (cond b None (map.get files q))) [ true ↦ refl | false ↦ refl ]
    ∙ ap (λ p. cond (same q to) (Some file) (cond (same q p) None (map.get files q))) (sym one)
    ∙ sym (get-renamed files from to q ∙ ap (λ o. cond (same q to) o (cond (same q from) None (map.get files q))) is))

-- ---- fronts

after_front-append : (front text : List ℕ) → after_front front (front ++ text) ≡ Some text
after_front-append [] text = refl
after_front-append (byte ∷ front) text = rw (eq-eqb byte byte refl) (after_front-append front text)

after_front-none : (front text : List ℕ) → ((rest : List ℕ) → text ≢ front ++ rest) → after_front front text ≡ None
after_front-none [] text none = absurd (none text refl)
after_front-none (byte ∷ front) [] none = refl
after_front-none (byte ∷ front) (other ∷ text) none = elim (byte == other) as (λ b. (byte == other) ≡ b → (if b then after_front front text else None) ≡ None) [
  | true ↦ λ e. after_front-none front text (λ rest is. none rest (λ i. sym (eqb-true byte other e) i ∷ is i))
  | false ↦ λ e. refl
] refl

pub after_front-cases : (front text : List ℕ) (found : Option (Bor (List ℕ))) → MatchOption found ((rest : List ℕ) → text ≢ front ++ rest) (λ x. text ≡ front ++ x.now) → option_copied found ≡ after_front front text
after_front-cases front text None none = sym (after_front-none front text none)
after_front-cases front text (Some rest) is = sym (ap (after_front front) is ∙ after_front-append front rest.now)
