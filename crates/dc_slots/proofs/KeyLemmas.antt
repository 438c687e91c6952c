-- What a finite map has at a key and at all others, where an entry is put or taken away.
use Rattle.std.proofs.Common.{◌≡◌, ◌≢◌, ◌⊎◌, true, false, cond, Some, None, refl, sym, ap, ◌∙◌, inl, inr}
use Rattle.std.specs.declared.cmp.Ordering.{Ordering}
use Rattle.std.specs.declared.cmp.Ordering.TheVariants.{Less, Equal, Greater}
use Rattle.std.specs.Ordering.{eq_by_cmp, is_eq}
use Rattle.std.specs.Cmp.{IsTotalOrder, eq_by_cmp_equiv}
use Rattle.std.specs.FinMap.{FinMap, get, insert, remove, get-insert, get-remove, same_map, IsAntisymmetric}

is_equal : (o : Ordering) → is_eq o ≡ true → o ≡ Equal
is_equal Less e = absurd (cc)
is_equal Equal e = refl
is_equal Greater e = absurd (cc)

module _ {K : Type 0} {R : K → K → Ordering} (o : IsTotalOrder R) (exact : IsAntisymmetric R) where
  tied : (k : K) → eq_by_cmp R k k ≡ true
  tied k = (eq_by_cmp_equiv o).refl k

  untied : (q k : K) → q ≢ k → eq_by_cmp R q k ≡ false
  untied q k differ = elim (eq_by_cmp R q k) as (λ b. eq_by_cmp R q k ≡ b → b ≡ false) [
    | true ↦ λ e. absurd (differ (exact q k (is_equal _ e)))
    | false ↦ λ e. refl
  ] refl

  pub cases_key : (q k : K) → (q ≡ k) ⊎ (q ≢ k)
  cases_key q k = elim (eq_by_cmp R q k) as (λ b. eq_by_cmp R q k ≡ b → (q ≡ k) ⊎ (q ≢ k)) [
    | true ↦ λ e. inl (exact q k (is_equal _ e))
    | false ↦ λ e. inr (λ same. let yes : eq_by_cmp R q k ≡ true = ap (λ p. eq_by_cmp R p k) same ∙ tied k in absurd (cc))
  ] refl

  module _ {X : Type 0} (m : FinMap R X) (k : K) where
    pub insert-here : (v : X) → get (insert m k v) k ≡ Some v
    insert-here v = get-insert o m k v k ∙ ap (λ b. cond b (Some v) (get m k)) (tied k)

    pub insert-other : (v : X) (q : K) → q ≢ k → get (insert m k v) q ≡ get m q
    insert-other v q differ = get-insert o m k v q ∙ ap (λ b. cond b (Some v) (get m q)) (untied q k differ)

    pub remove-here : get (remove m k) k ≡ None
    remove-here = get-remove o m k k ∙ ap (λ b. cond b None (get m k)) (tied k)

    pub remove-other : (q : K) → q ≢ k → get (remove m k) q ≡ get m q
    remove-other q differ = get-remove o m k q ∙ ap (λ b. cond b None (get m q)) (untied q k differ)

    -- a map that has this at the key, and at each other what m has
    pub is_insert : (n : FinMap R X) (v : X) → get n k ≡ Some v → ((q : K) → q ≢ k → get n q ≡ get m q) → n ≡ insert m k v
    is_insert n v here others = same_map o exact n (insert m k v) (λ q. elim (cases_key q k) [
      | inl same ↦ ap (get n) same ∙ here ∙ sym (insert-here v) ∙ ap (get (insert m k v)) (sym same)
      | inr differ ↦ others q differ ∙ sym (insert-other v q differ)
    ])

    pub is_remove : (n : FinMap R X) → get n k ≡ None → ((q : K) → q ≢ k → get n q ≡ get m q) → n ≡ remove m k
    is_remove n here others = same_map o exact n (remove m k) (λ q. elim (cases_key q k) [
      | inl same ↦ ap (get n) same ∙ here ∙ sym remove-here ∙ ap (get (remove m k)) (sym same)
      | inr differ ↦ others q differ ∙ sym (remove-other q differ)
    ])
