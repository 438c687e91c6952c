-- Where plain patterns stand in bytes.
use Rattle.std.proofs.Common.{◌≡◌, ℕ, Bool, true, false, cond, ◌||◌, List, [], ◌∷◌, ◌++◌, length, take, drop, refl, sym, ap, ◌∙◌, ⊎_elim}
use Rattle.std.proofs.lemmas.Bool.{or_cases, true≢false}
use Rattle.std.proofs.lemmas.List.{append-nil, length-map, take-append-drop}
use Rattle.std.proofs.lemmas.Slice.Eq.{bytes_eq-Decides}
use Rattle.std.proofs.Math.Seq.{take-append_seam}
use Rattle.dc_text.specs.Bytes.{lower}
use Rattle.dc_layer.specs.Patterns.{spelled, stands, stands_somewhere, is_found, is_found_plainly, matches_in, reading, is_plain, is_at_front, is_at_end, core_of, IsParted}
use Rattle.dc_layer.proofs.PatternLemmas.{somewhere_at_front}

length-spelled : (ignore_case : Bool) (bytes : List ℕ) → length (spelled ignore_case bytes) ≡ length bytes
length-spelled true bytes = length-map bytes lower
length-spelled false bytes = refl

module _ (ignore_case : Bool) (core : List ℕ) where
  -- what spells the core is as long
  length-spells : (middle : List ℕ) → spelled ignore_case middle ≡ spelled ignore_case core → length middle ≡ length core
  length-spells middle e = sym (length-spelled ignore_case middle) ∙ ap length e ∙ length-spelled ignore_case core

  -- the core stands at the front of bytes that part so with nothing before
  parted_of_stands : (at_front at_end : Bool) (bytes : List ℕ) → stands ignore_case at_end core bytes ≡ true → IsParted ignore_case at_front at_end core bytes
  parted_of_stands at_front true bytes e = record {
    before = [];
    middle = bytes;
    after = [];
    whole = sym (append-nil bytes);
    spells = (bytes_eq-Decides _ _).0 e;
    front = λ _. refl;
    end = λ _. refl;
  }
  parted_of_stands at_front false bytes e = record {
    before = [];
    middle = take (length core) bytes;
    after = drop (length core) bytes;
    whole = sym (take-append-drop (length core) bytes);
    spells = (bytes_eq-Decides _ _).0 e;
    front = λ _. refl;
    end = λ (f : false ≡ true). absurd (true≢false (sym f));
  }

  stands_of_parts : (at_end : Bool) (middle after : List ℕ) → spelled ignore_case middle ≡ spelled ignore_case core → (at_end ≡ true → after ≡ []) →
      stands ignore_case at_end core (middle ++ after) ≡ true
  stands_of_parts true middle after e end = (bytes_eq-Decides _ _).1 (ap (λ a. spelled ignore_case (middle ++ a)) (end refl) ∙ ap (spelled ignore_case) (append-nil middle) ∙ e)
  stands_of_parts false middle after e end =
      (bytes_eq-Decides _ _).1
      (ap (λ n. spelled ignore_case (take n (middle ++ after))) (sym (length-spells middle e)) ∙ ap (spelled ignore_case) (take-append_seam middle after) ∙ e)

  parted_of_somewhere : (at_end : Bool) (bytes : List ℕ) → stands_somewhere ignore_case at_end core bytes ≡ true → IsParted ignore_case false at_end core bytes
  parted_of_somewhere at_end [] e = parted_of_stands false at_end [] e
  parted_of_somewhere at_end (byte ∷ bytes) e =
      ⊎_elim (λ here. parted_of_stands false at_end (byte ∷ bytes) here)
      (λ later. let more = parted_of_somewhere at_end bytes later in record {
        before = byte ∷ more.before;
        middle = more.middle;
        after = more.after;
        whole = ap (λ (b : List ℕ). byte ∷ b) more.whole;
        spells = more.spells;
        front = λ (f : false ≡ true). absurd (true≢false (sym f));
        end = more.end;
      })
      (or_cases _ _ e)

  somewhere_behind : (at_end : Bool) (before bytes : List ℕ) → stands ignore_case at_end core bytes ≡ true → stands_somewhere ignore_case at_end core (before ++ bytes) ≡ true
  somewhere_behind at_end [] bytes e = somewhere_at_front ignore_case at_end core bytes e
  somewhere_behind at_end (byte ∷ before) bytes e =
      ap (λ b. stands ignore_case at_end core (byte ∷ before ++ bytes) || b) (somewhere_behind at_end before bytes e) ∙ or-true _
    where
      or-true : (b : Bool) → (b || true) ≡ true
      or-true true = refl
      or-true false = refl

  parted_of_found : (at_front at_end : Bool) (bytes : List ℕ) →
      cond at_front (stands ignore_case at_end core bytes) (stands_somewhere ignore_case at_end core bytes) ≡ true → IsParted ignore_case at_front at_end core bytes
  parted_of_found true at_end bytes e = parted_of_stands true at_end bytes e
  parted_of_found false at_end bytes e = parted_of_somewhere at_end bytes e

  found_of_parts : (at_front at_end : Bool) (bytes : List ℕ) → IsParted ignore_case at_front at_end core bytes →
      cond at_front (stands ignore_case at_end core bytes) (stands_somewhere ignore_case at_end core bytes) ≡ true
  found_of_parts true at_end bytes p =
      ap (stands ignore_case at_end core) (p.whole ∙ ap (λ b. b ++ (p.middle ++ p.after)) (p.front refl)) ∙ stands_of_parts at_end p.middle p.after p.spells p.end
  found_of_parts false at_end bytes p =
      ap (stands_somewhere ignore_case at_end core) p.whole ∙ somewhere_behind at_end p.before (p.middle ++ p.after) (stands_of_parts at_end p.middle p.after p.spells p.end)

found_if_plain : (ignore_case : Bool) (text bytes : List ℕ) → is_plain text ≡ true → is_found ignore_case text bytes ≡ is_found_plainly ignore_case text bytes
found_if_plain ignore_case text bytes plain = ap (λ b. cond b (is_found_plainly ignore_case text bytes) (matches_in (reading ignore_case text) bytes)) plain

pub parted : (ignore_case : Bool) (text bytes : List ℕ) → is_plain text ≡ true → is_found ignore_case text bytes ≡ true →
    IsParted ignore_case (is_at_front text) (is_at_end text) (core_of text) bytes
parted ignore_case text bytes plain e =
    parted_of_found ignore_case (core_of text) (is_at_front text) (is_at_end text) bytes (sym (found_if_plain ignore_case text bytes plain) ∙ e)

pub found : (ignore_case : Bool) (text bytes : List ℕ) → is_plain text ≡ true →
    IsParted ignore_case (is_at_front text) (is_at_end text) (core_of text) bytes → is_found ignore_case text bytes ≡ true
found ignore_case text bytes plain p =
    found_if_plain ignore_case text bytes plain ∙ found_of_parts ignore_case (core_of text) (is_at_front text) (is_at_end text) bytes p
