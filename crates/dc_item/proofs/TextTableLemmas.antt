-- A hash map of the library's, whose keys are texts, as a finite map from texts.
use Rattle.std.proofs.Common.{◌≡◌, ℕ, Bool, true, false, cond, List, [], ◌∷◌, Some, None, Option, refl, sym, ap, ◌∙◌}
use Rattle.std.specs.Prelude.{map}
use Rattle.std.specs.Str.{bytes_eq}
use Rattle.std.specs.declared.cmp.Ordering.{Ordering}
use Rattle.std.specs.declared.cmp.Ordering.TheVariants.{Less, Equal, Greater}
use Rattle.std.specs.Ordering.{eq_by_cmp, is_eq}
use Rattle.std.specs.Cmp.{eq_by_cmp_equiv}
use Rattle.std.specs.Cmp.Lexicographic.{nat_list_cmp_total}
use Rattle.std.specs.Map.{lookup}
use Rattle.std.specs.FinMap.{insert, remove, from_entries, find, get-from_entries, get-insert, get-remove, same_map}
use Rattle.std.proofs.lemmas.Cmp.{tied_itself}
use Rattle.std.proofs.lemmas.Slice.Eq.{bytes_eq-Decides}
use Rattle.indexmap.specs.IndexMap.{insert_entry}
use Rattle.dc_text.specs.Maps.{text_cmp}
use Rattle.dc_text.proofs.MapLemmas.{exact_texts, seen}

is_equal : (o : Ordering) → is_eq o ≡ true → o ≡ Equal
is_equal Less e = absurd (cc)
is_equal Equal e = refl
is_equal Greater e = absurd (cc)

-- texts that tie are the same
pub tied : (a b : List ℕ) → eq_by_cmp text_cmp a b ≡ true → a ≡ b
tied a b e = exact_texts a b (is_equal _ e)

-- to be the same text is to tie with it
pub same_test : (a b : List ℕ) → bytes_eq a b ≡ eq_by_cmp text_cmp a b
same_test a b = elim (bytes_eq a b) as (λ t. bytes_eq a b ≡ t → t ≡ eq_by_cmp text_cmp a b) [
  | true ↦ λ e. sym (ap (λ x. is_eq (text_cmp a x)) (sym ((bytes_eq-Decides a b).0 e)) ∙ ap is_eq (tied_itself nat_list_cmp_total a))
  | false ↦ λ e. elim (eq_by_cmp text_cmp a b) as (λ t. eq_by_cmp text_cmp a b ≡ t → false ≡ t) [
    | true ↦ λ f. absurd (let both : false ≡ true = sym e ∙ (bytes_eq-Decides a b).1 (tied a b f) in cc)
    | false ↦ λ f. refl
  ] refl
] refl

twice : {A : Type 0} (b : Bool) (x y z : A) → cond b x z ≡ cond b x (cond b y z)
twice true x y z = refl
twice false x y z = refl

-- to be another text is not to tie with it
apart : (q k : List ℕ) → eq_by_cmp text_cmp q k ≡ false → bytes_eq k q ≡ false
apart q k other = same_test k q ∙ (eq_by_cmp_equiv nat_list_cmp_total).symm k q ∙ other

module _ {X : Type 0} where
  -- the value at a key is that of the finite map
  pub lookup-find : (q : List ℕ) (es : List (List ℕ × X)) → lookup (bytes_eq q) es ≡ find text_cmp q es
  lookup-find q [] = refl
  lookup-find q (e ∷ es) = λ i. cond (same_test q e.0 i) (Some e.1) (lookup-find q es i)

  -- ---- a value put at a key

  find-insert_entry : (k : List ℕ) (v : X) (q : List ℕ) (es : List (List ℕ × X)) → find text_cmp q (insert_entry bytes_eq es k v) ≡ cond (eq_by_cmp text_cmp q k) (Some v) (find text_cmp q es)
  find-insert_entry k v q [] = refl
  find-insert_entry k v q (e ∷ es) =
      let rest : Option X = find text_cmp q es in
      elim (bytes_eq k e.0) as (λ b. bytes_eq k e.0 ≡ b → find text_cmp q (cond b ((e.0, v) ∷ es) (e ∷ insert_entry bytes_eq es k v))
      ≡ cond (eq_by_cmp text_cmp q k) (Some v) (cond (eq_by_cmp text_cmp q e.0) (Some e.1) rest)) [
        | true ↦ λ t.
            let one : k ≡ e.0 = (bytes_eq-Decides k e.0).0 t in
            twice (eq_by_cmp text_cmp q e.0) (Some v) (Some e.1) rest
            ∙ ap (λ x. cond (eq_by_cmp text_cmp q x) (Some v) (cond (eq_by_cmp text_cmp q e.0) (Some e.1) rest)) (sym one)
        | false ↦ λ t.
            ap (cond (eq_by_cmp text_cmp q e.0) (Some e.1)) (find-insert_entry k v q es)
            ∙ elim (eq_by_cmp text_cmp q k) as (λ b. eq_by_cmp text_cmp q k ≡ b → cond (eq_by_cmp text_cmp q e.0) (Some e.1) (cond b (Some v) rest) ≡ cond b (Some v) (cond (eq_by_cmp text_cmp q e.0) (Some e.1) rest)) [
              | true ↦ λ u. ap (λ c. cond c (Some e.1) (Some v)) (ap (λ p. eq_by_cmp text_cmp p e.0) (tied q k u) ∙ sym (same_test k e.0) ∙ t)
              | false ↦ λ u. refl
            ] refl
      ] refl

  -- to put an entry is to insert it in the finite map
  pub table-insert : (es fs : List (List ℕ × X)) (k : List ℕ) (v : X) → fs ≡ insert_entry bytes_eq es k v → from_entries {R = text_cmp} fs ≡ insert (from_entries es) k v
  table-insert es fs k v is = same_map nat_list_cmp_total exact_texts _ _ (λ q.
      get-from_entries nat_list_cmp_total fs q ∙ ap (find text_cmp q) is ∙ find-insert_entry k v q es
      ∙ sym (get-insert nat_list_cmp_total (from_entries es) k v q ∙ ap (cond (eq_by_cmp text_cmp q k) (Some v)) (get-from_entries nat_list_cmp_total es q)))

  -- ---- an entry taken away

  -- to take an entry away is to take it out of the finite map
  pub table-remove : (k : List ℕ) (es fs : List (List ℕ × X)) → lookup (bytes_eq k) fs ≡ None → ((q : List ℕ) → bytes_eq k q ≡ false → lookup (bytes_eq q) fs ≡ lookup (bytes_eq q) es)
      → from_entries {R = text_cmp} fs ≡ remove (from_entries es) k
  table-remove k es fs gone stays = same_map nat_list_cmp_total exact_texts _ _ (λ q.
      get-from_entries nat_list_cmp_total fs q
      ∙ elim (eq_by_cmp text_cmp q k) as (λ b. eq_by_cmp text_cmp q k ≡ b → find text_cmp q fs ≡ cond b None (find text_cmp q es)) [
        | true ↦ λ t. ap (λ p. find text_cmp p fs) (tied q k t) ∙ sym (lookup-find k fs) ∙ gone
        | false ↦ λ t. sym (lookup-find q fs) ∙ stays q (apart q k t) ∙ lookup-find q es
      ] refl
      ∙ ap (cond (eq_by_cmp text_cmp q k) None) (sym (get-from_entries nat_list_cmp_total es q))
      ∙ sym (get-remove nat_list_cmp_total (from_entries es) k q))

-- ---- entries whose values are seen too

module _ {Y X Z : Type 0} (f : Y → List ℕ) (h : X → Z) where
  abbrev pub shown : List (Y × X) → List (List ℕ × Z)
  shown es = map (λ e. (f e.0, h e.1)) es
