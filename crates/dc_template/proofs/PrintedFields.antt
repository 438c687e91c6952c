-- The fields that are printed are the fields.
use Rattle.std.proofs.Common.{◌≡◌, ℕ, Bool, true, false, cond, ◌&&◌, List, [], ◌∷◌, ◌++◌, take, drop, Some, None, Option, refl, sym, ap, ◌∙◌}
use Rattle.std.specs.Prelude.{◌||◌, ◌==◌, nat_eq, is_some, codes}
use Rattle.std.specs.List.{flat_map, starts_with}
use Rattle.std.specs.Str.{bytes_eq}
use Rattle.std.specs.Cmp.Lexicographic.{same_text, nat_list_cmp_total}
use Rattle.std.specs.FinMap as map
use Rattle.std.specs.FinMap.{find}
use Rattle.std.proofs.lemmas.List.{take-append-drop}
use Rattle.std.proofs.lemmas.Map.Text.{is_eq-slice_cmp}
use Rattle.std.proofs.lemmas.Slice.Eq.{bytes_eq-Decides}
use Rattle.std.proofs.lemmas.Bool.Decides.{nat_tests}
use Rattle.std.proofs.Common.{arith}
use Rattle.dc_text.specs.Maps.{Texts, text_cmp}
use Rattle.dc_text.proofs.MapLemmas.{exact_texts}
use Rattle.dc_template.specs.Kinds.{kind_word}
use Rattle.dc_template.specs.Forms.{type_word, is_description, is_extended}
use Rattle.dc_template.specs.Stanzas.{Stanza, extended_key, described_by, as_field, field_map, IsTemplate}
use Rattle.dc_template.proofs.TestLemmas.{both, neither}
use Rattle.dc_template.proofs.SoundLemmas.{same_key, key_same}

-- ---- keys of descriptions and of extended descriptions

starts_with_d : (b : ℕ) (k : List ℕ) → is_description (b ∷ k) ≡ true → (b == 100) ≡ true
starts_with_d b k e = elim (b == 100) as (λ t. (b == 100) ≡ t → ((t && bytes_eq k (codes "escription")) || starts_with nat_eq (b ∷ k) (codes "description-")) ≡ true → t ≡ true) [
  | true ↦ λ _ _. refl
  | false ↦ λ off f. swap b off (both (100 == b) _ f).0
] refl e where
  swap : (c : ℕ) → (c == 100) ≡ false → (100 == c) ≡ true → false ≡ true
  swap c h g = grind (arith, nat_tests)

is_number : (a b : ℕ) → (a == b) ≡ true → a ≡ b
is_number a b e = grind (arith, nat_tests)

-- a description is no extended one
pub not_extended : (k : List ℕ) → is_description k ≡ true → is_extended k ≡ false
not_extended [] e = absurd (cc)
not_extended (b ∷ k) e = ap (λ c. is_extended (c ∷ k)) (is_number b 100 (starts_with_d b k e))

-- the key of an extended description is that of its description, and nine bytes before it
pub extended_of : (q : List ℕ) → is_extended q ≡ true → q ≡ extended_key (described_by q)
extended_of q e = elim (bytes_eq q (codes "extended_description")) as (λ t. bytes_eq q (codes "extended_description") ≡ t → (t || starts_with nat_eq q (codes "extended_description-")) ≡ true → q ≡ extended_key (described_by q)) [
  | true ↦ λ same _. (let is : q ≡ codes "extended_description" = same_text q (codes "extended_description") (sym same) in is ∙ ap (λ k. extended_key (described_by k)) (sym is))
  | false ↦ λ _ f.
      let front : codes "extended_description-" ≡ take 21 q = same_text (codes "extended_description-") (take 21 q) (sym f) in
      let whole : q ≡ codes "extended_description-" ++ drop 21 q = sym (take-append-drop 21 q) ∙ ap (λ (t : List ℕ). t ++ drop 21 q) (sym front) in
      whole ∙ ap (λ k. extended_key (described_by k)) (sym whole)
] refl e

pub described : (q : List ℕ) → is_extended q ≡ true → is_description (described_by q) ≡ true
described q e = ap is_extended (sym (extended_of q e)) ∙ e

-- ---- the fields of the printed lines

abbrev pub is_skipped : List ℕ → Bool
is_skipped key = bytes_eq key type_word || is_extended key

-- the extended text that is printed under a field
abbrev pub text_under : Texts (List ℕ) → List ℕ → Option (List ℕ)
text_under m key = cond (is_description key) (map.get m (extended_key key)) None

abbrev pub printed_at : Texts (List ℕ) → List ℕ × List ℕ → List (List ℕ × List ℕ)
printed_at m e = cond (is_skipped e.0) [] ((e.0, e.1) ∷ as_field (extended_key e.0) (text_under m e.0))

type_key : (q : List ℕ) → same_key q type_word ≡ false → bytes_eq q type_word ≡ false
type_key q e = sym (is_eq-slice_cmp q type_word) ∙ e

same_is : (q : List ℕ) → same_key q q ≡ true
same_is q = is_eq-slice_cmp q q ∙ (bytes_eq-Decides q q).1 refl

not_same : (a b : List ℕ) → (a ≡ b → ⊥) → same_key a b ≡ false
not_same a b h = elim (same_key a b) as (λ t. same_key a b ≡ t → t ≡ false) [ true ↦ λ e. absurd (h (key_same a b e)) | false ↦ λ e. refl ] refl

truly : (a : Bool) → a ≡ true → a ≡ false → ⊥
truly true e f = cc
truly false e f = cc

module _ (m : Texts (List ℕ)) (q : List ℕ) (other : same_key q type_word ≡ false) where
  abbrev here : Option (List ℕ)
  here = map.get m q

  -- what is found at the key in the printed fields
  abbrev expected : List (List ℕ × List ℕ) → Option (List ℕ)
  expected es = cond (is_extended q) (cond (is_some (find text_cmp (described_by q) es)) here None) (find text_cmp q es)

  -- a field that is passed over is none that is looked for
  skipped_base : (k : List ℕ) → is_skipped k ≡ true → is_extended q ≡ true → described_by q ≡ k → ⊥
  skipped_base k skip ext is =
      let d : is_description k ≡ true = ap is_description (sym is) ∙ described q ext in
      elim (bytes_eq k type_word) as (λ t. bytes_eq k type_word ≡ t → (t || is_extended k) ≡ true → ⊥) [
        | true ↦ λ same _. truly true refl (sym d ∙ ap is_description (same_text k type_word (sym same)))
        | false ↦ λ _ e. truly (is_extended k) e (not_extended k d)
      ] refl skip

  skipped_key : (k : List ℕ) → is_skipped k ≡ true → is_extended q ≡ false → q ≡ k → ⊥
  skipped_key k skip ext is =
      elim (bytes_eq k type_word) as (λ t. bytes_eq k type_word ≡ t → (t || is_extended k) ≡ true → ⊥) [
        | true ↦ λ same _. truly (bytes_eq k type_word) same (ap (λ x. bytes_eq x type_word) (sym is) ∙ type_key q other)
        | false ↦ λ _ e. truly (is_extended k) e (ap is_extended (sym is) ∙ ext)
      ] refl skip

  -- an entry that is neither the key nor that of its description changes nothing
  unchanged : (e : List ℕ × List ℕ) (es : List (List ℕ × List ℕ)) → (is_extended q ≡ true → described_by q ≡ e.0 → ⊥) → (is_extended q ≡ false → q ≡ e.0 → ⊥) → expected es ≡ expected (e ∷ es)
  unchanged e es a b = elim (is_extended q) as (λ t. is_extended q ≡ t → cond t (cond (is_some (find text_cmp (described_by q) es)) here None) (find text_cmp q es)
      ≡ cond t (cond (is_some (cond (same_key (described_by q) e.0) (Some e.1) (find text_cmp (described_by q) es))) here None) (cond (same_key q e.0) (Some e.1) (find text_cmp q es))) [
        | true ↦ λ x. ap (λ t. cond (is_some (cond t (Some e.1) (find text_cmp (described_by q) es))) here None) (sym (not_same (described_by q) e.0 (a x)))
        | false ↦ λ x. ap (λ t. cond t (Some e.1) (find text_cmp q es)) (sym (not_same q e.0 (b x)))
      ] refl

  skipped_turn : (e : List ℕ × List ℕ) (es : List (List ℕ × List ℕ)) → is_skipped e.0 ≡ true → expected es ≡ expected (e ∷ es)
  skipped_turn e es skip = unchanged e es (skipped_base e.0 skip) (skipped_key e.0 skip)

  -- the extended text of a field that isn't the key
  under_turn : (e : List ℕ × List ℕ) (es rest : List (List ℕ × List ℕ)) (o : Option (List ℕ)) → is_extended e.0 ≡ false → same_key q e.0 ≡ false → text_under m e.0 ≡ o → find text_cmp q rest ≡ expected es
      → find text_cmp q (as_field (extended_key e.0) o ++ rest) ≡ expected (e ∷ es)
  under_turn e es rest None plain off is h =
      h ∙ elim (is_extended q) as (λ t. is_extended q ≡ t → cond t (cond (is_some (find text_cmp (described_by q) es)) here None) (find text_cmp q es)
      ≡ cond t (cond (is_some (cond (same_key (described_by q) e.0) (Some e.1) (find text_cmp (described_by q) es))) here None) (cond (same_key q e.0) (Some e.1) (find text_cmp q es))) [
        | true ↦ λ x. elim (same_key (described_by q) e.0) as (λ t. same_key (described_by q) e.0 ≡ t
            → cond (is_some (find text_cmp (described_by q) es)) here None ≡ cond (is_some (cond t (Some e.1) (find text_cmp (described_by q) es))) here None) [
              | true ↦ λ s. (let none : here ≡ None = nothing x (key_same (described_by q) e.0 s) in
                  ap (λ o. cond (is_some (find text_cmp (described_by q) es)) o None) none ∙ both_none (is_some (find text_cmp (described_by q) es)) ∙ sym none)
              | false ↦ λ s. refl
            ] refl
        | false ↦ λ x. ap (λ t. cond t (Some e.1) (find text_cmp q es)) (sym off)
      ] refl where
        both_none : (b : Bool) → ◌≡◌ {A = Option (List ℕ)} (cond {A = Option (List ℕ)} b None None) None
        both_none true = refl
        both_none false = refl

        nothing : is_extended q ≡ true → described_by q ≡ e.0 → map.get m q ≡ None
        nothing x base =
            let whole : q ≡ extended_key e.0 = extended_of q x ∙ ap extended_key base in
            let d : is_description e.0 ≡ true = ap is_description (sym base) ∙ described q x in
            ap (map.get m) whole ∙ ap (λ t. cond t (map.get m (extended_key e.0)) None) (sym d) ∙ is
  under_turn e es rest (Some v) plain off is h =
      elim (same_key q (extended_key e.0)) as (λ t. same_key q (extended_key e.0) ≡ t → cond t (Some v) (find text_cmp q rest) ≡ expected (e ∷ es)) [
        | true ↦ λ s. sym (found (key_same q (extended_key e.0) s))
        | false ↦ λ s. h ∙ unchanged e es (λ x base. truly true refl (sym (same_is q) ∙ ap (same_key q) (extended_of q x ∙ ap extended_key base) ∙ s))
            (λ x is_q. truly true refl (sym (same_is q) ∙ ap (same_key q) is_q ∙ off))
      ] refl where
        is_described : (d : Bool) (o : Option (List ℕ)) → cond d o None ≡ Some v → (d ≡ true) × (o ≡ Some v)
        is_described true o f = (refl, f)
        is_described false o f = absurd (cc)

        found : q ≡ extended_key e.0 → expected (e ∷ es) ≡ Some v
        found whole =
            let g : (is_description e.0 ≡ true) × (map.get m (extended_key e.0) ≡ Some v) = is_described (is_description e.0) (map.get m (extended_key e.0)) is in
            let ext : is_extended q ≡ true = ap is_extended whole ∙ g.0 in
            let base : same_key (described_by q) e.0 ≡ true = ap (λ k. same_key (described_by k) e.0) whole ∙ same_is e.0 in
            ap (λ t. cond t (cond (is_some (find text_cmp (described_by q) (e ∷ es))) here None) (find text_cmp q (e ∷ es))) ext
            ∙ ap (λ t. cond (is_some (cond t (Some e.1) (find text_cmp (described_by q) es))) here None) base
            ∙ ap (map.get m) whole ∙ g.1

  -- a field that is the key
  key_turn : (e : List ℕ × List ℕ) (es : List (List ℕ × List ℕ)) → is_extended e.0 ≡ false → same_key q e.0 ≡ true → Some e.1 ≡ expected (e ∷ es)
  key_turn e es plain same =
      let is : q ≡ e.0 = key_same q e.0 same in
      sym (ap (λ t. cond t (cond (is_some (find text_cmp (described_by q) (e ∷ es))) here None) (find text_cmp q (e ∷ es))) (ap is_extended is ∙ plain) ∙ ap (λ t. cond t (Some e.1) (find text_cmp q es)) same)

  kept_turn : (e : List ℕ × List ℕ) (es rest : List (List ℕ × List ℕ)) → is_extended e.0 ≡ false → find text_cmp q rest ≡ expected es
      → find text_cmp q ((e.0, e.1) ∷ as_field (extended_key e.0) (text_under m e.0) ++ rest) ≡ expected (e ∷ es)
  kept_turn e es rest plain h = elim (same_key q e.0) as (λ t. same_key q e.0 ≡ t → cond t (Some e.1) (find text_cmp q (as_field (extended_key e.0) (text_under m e.0) ++ rest)) ≡ expected (e ∷ es)) [
    | true ↦ λ s. key_turn e es plain s
    | false ↦ λ s. under_turn e es rest (text_under m e.0) plain s refl h
  ] refl

  find_printed : (es : List (List ℕ × List ℕ)) → find text_cmp q (flat_map (printed_at m) es) ≡ expected es
  find_printed [] = elim (is_extended q) as (λ t. ◌≡◌ {A = Option (List ℕ)} None (cond {A = Option (List ℕ)} t None None)) [ true ↦ refl | false ↦ refl ]
  find_printed (e ∷ es) = elim (is_skipped e.0) as (λ t. is_skipped e.0 ≡ t → find text_cmp q (cond t [] ((e.0, e.1) ∷ as_field (extended_key e.0) (text_under m e.0)) ++ flat_map (printed_at m) es) ≡ expected (e ∷ es)) [
    | true ↦ λ s. find_printed es ∙ skipped_turn e es s
    | false ↦ λ s. kept_turn e es (flat_map (printed_at m) es) (neither (bytes_eq e.0 type_word) (is_extended e.0) s).1 (find_printed es)
  ] refl

-- the printed fields, `type` first
abbrev pub printed_fields : Stanza → List (List ℕ × List ℕ)
printed_fields t = (type_word, kind_word t.kind) ∷ flat_map (printed_at (field_map t)) t.fields

complete : (t : Stanza) (q : List ℕ) → IsTemplate t → cond (is_extended q) (cond (is_some (find text_cmp (described_by q) t.fields)) (map.get (field_map t) q) None) (find text_cmp q t.fields) ≡ map.get (field_map t) q
complete t q h = elim (is_extended q) as (λ b. is_extended q ≡ b → cond b (cond (is_some (find text_cmp (described_by q) t.fields)) (map.get (field_map t) q) None) (find text_cmp q t.fields) ≡ map.get (field_map t) q) [
  | true ↦ λ x. based x (map.get (field_map t) q) refl
  | false ↦ λ x. sym (map.get-from_entries nat_list_cmp_total t.fields q)
] refl where
  based : is_extended q ≡ true → (o : Option (List ℕ)) → map.get (field_map t) q ≡ o → cond (is_some (find text_cmp (described_by q) t.fields)) o None ≡ o
  based x None e = elim (is_some (find text_cmp (described_by q) t.fields)) as (λ b. ◌≡◌ {A = Option (List ℕ)} (cond {A = Option (List ℕ)} b None None) None) [ true ↦ refl | false ↦ refl ]
  based x (Some v) e =
      let has : map.contains_key (field_map t) (described_by q) ≡ true = ((h.sound q v e).extended x).0 in
      ap (λ b. cond b (Some v) None) (ap is_some (sym (map.get-from_entries nat_list_cmp_total t.fields (described_by q))) ∙ has)

-- the printed fields make the same map
pub same_fields : (t : Stanza) → IsTemplate t → map.from_entries {R = text_cmp} (printed_fields t) ≡ field_map t
same_fields t h = map.same_map nat_list_cmp_total exact_texts (map.from_entries (printed_fields t)) (field_map t) (λ q.
    map.get-from_entries nat_list_cmp_total (printed_fields t) q
    ∙ elim (same_key q type_word) as (λ b. same_key q type_word ≡ b → cond b (Some (kind_word t.kind)) (find text_cmp q (flat_map (printed_at (field_map t)) t.fields)) ≡ map.get (field_map t) q) [
      | true ↦ λ s. sym (ap (map.get (field_map t)) (key_same q type_word s) ∙ h.typed)
      | false ↦ λ s. find_printed (field_map t) q s t.fields ∙ complete t q h
    ] refl)
