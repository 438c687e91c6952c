-- Entries of maps from texts, put and taken away.
use Rattle.std.proofs.Common.{◌≡◌, ◌≢◌, ℕ, Bool, true, false, cond, List, Option, Some, None, refl, sym, ap, ◌∙◌}
use Rattle.std.specs.declared.cmp.Ordering.{Ordering}
use Rattle.std.specs.declared.cmp.Ordering.TheVariants.{Less, Equal, Greater}
use Rattle.std.specs.Ordering.{eq_by_cmp, is_eq}
use Rattle.std.specs.Cmp.{eq_by_cmp_equiv}
use Rattle.std.specs.Cmp.Lexicographic.{nat_list_cmp_total}
use Rattle.std.specs.FinMap.{get, insert, remove, get-insert, get-remove, same_map}
use Rattle.dc_text.specs.Maps.{Texts, text_cmp}
use Rattle.dc_text.proofs.MapLemmas.{exact_texts}

is_equal : (o : Ordering) → is_eq o ≡ true → o ≡ Equal
is_equal Less e = absurd (cc)
is_equal Equal e = refl
is_equal Greater e = absurd (cc)

pub same : (q k : List ℕ) → eq_by_cmp text_cmp q k ≡ true → q ≡ k
same q k t = exact_texts q k (is_equal _ t)

-- what is put is there
pub get_put : {X : Type 0} (m : Texts X) (k : List ℕ) (v : X) → get (insert m k v) k ≡ Some v
get_put m k v = get-insert nat_list_cmp_total m k v k ∙ ap (λ b. cond b (Some v) (get m k)) ((eq_by_cmp_equiv nat_list_cmp_total).refl k)

-- what is taken away isn't
pub get_taken : {X : Type 0} (m : Texts X) (k : List ℕ) → get (remove m k) k ≡ None
get_taken m k = get-remove nat_list_cmp_total m k k ∙ ap (λ b. cond b None (get m k)) ((eq_by_cmp_equiv nat_list_cmp_total).refl k)

-- to put what is there changes nothing
pub put_there : {X : Type 0} (m : Texts X) (k : List ℕ) (v : X) → get m k ≡ Some v → insert m k v ≡ m
put_there m k v there = same_map nat_list_cmp_total exact_texts _ _ (λ q.
    get-insert nat_list_cmp_total m k v q
    ∙ elim (eq_by_cmp text_cmp q k) as (λ b. eq_by_cmp text_cmp q k ≡ b → cond b (Some v) (get m q) ≡ get m q) [
      | true ↦ λ t. sym (ap (get m) (same q k t) ∙ there)
      | false ↦ λ t. refl
    ] refl)

-- what was put at a new key and is taken away leaves what was there
pub taken_back : {X : Type 0} (m : Texts X) (k : List ℕ) (v : X) → get m k ≡ None → remove (insert m k v) k ≡ m
taken_back m k v new = same_map nat_list_cmp_total exact_texts _ _ (λ q.
    get-remove nat_list_cmp_total (insert m k v) k q ∙ ap (cond (eq_by_cmp text_cmp q k) None) (get-insert nat_list_cmp_total m k v q)
    ∙ elim (eq_by_cmp text_cmp q k) as (λ b. eq_by_cmp text_cmp q k ≡ b → cond b None (cond b (Some v) (get m q)) ≡ get m q) [
      | true ↦ λ t. sym (ap (get m) (same q k t) ∙ new)
      | false ↦ λ t. refl
    ] refl)

over_taken : {A : Type 0} (b : Bool) (v found : Option A) → cond b v found ≡ cond b v (cond b None found)
over_taken true v found = refl
over_taken false v found = refl

-- to put over what was taken away
pub put_over : {X : Type 0} (m : Texts X) (k : List ℕ) (v : X) → insert m k v ≡ insert (remove m k) k v
put_over m k v = same_map nat_list_cmp_total exact_texts _ _ (λ q.
    get-insert nat_list_cmp_total m k v q ∙ over_taken (eq_by_cmp text_cmp q k) (Some v) (get m q)
    ∙ sym (get-insert nat_list_cmp_total (remove m k) k v q ∙ ap (cond (eq_by_cmp text_cmp q k) (Some v)) (get-remove nat_list_cmp_total m k q)))

-- to put at one key and to take away at another
pub put_beside : {X : Type 0} (m : Texts X) (from to : List ℕ) (v : X) → from ≢ to → remove (insert m to v) from ≡ insert (remove m from) to v
put_beside m from to v apart = same_map nat_list_cmp_total exact_texts _ _ (λ q.
    get-remove nat_list_cmp_total (insert m to v) from q ∙ ap (cond (eq_by_cmp text_cmp q from) None) (get-insert nat_list_cmp_total m to v q)
    ∙ elim (eq_by_cmp text_cmp q from) as (λ b. eq_by_cmp text_cmp q from ≡ b
    → cond b None (cond (eq_by_cmp text_cmp q to) (Some v) (get m q)) ≡ cond (eq_by_cmp text_cmp q to) (Some v) (cond b None (get m q))) [
      | true ↦ λ t. elim (eq_by_cmp text_cmp q to) as (λ c. eq_by_cmp text_cmp q to ≡ c → None ≡ cond c (Some v) None) [
        | true ↦ λ u. absurd (apart (sym (same q from t) ∙ same q to u))
        | false ↦ λ u. refl
      ] refl
      | false ↦ λ t. refl
    ] refl
    ∙ sym (get-insert nat_list_cmp_total (remove m from) to v q ∙ ap (cond (eq_by_cmp text_cmp q to) (Some v)) (get-remove nat_list_cmp_total m from q)))

-- to put again what stood there before undoes what was put
pub put_back : {X : Type 0} (m : Texts X) (k : List ℕ) (v w : X) → get m k ≡ Some v → insert (insert m k w) k v ≡ m
put_back m k v w there = same_map nat_list_cmp_total exact_texts _ _ (λ q.
    get-insert nat_list_cmp_total (insert m k w) k v q ∙ ap (cond (eq_by_cmp text_cmp q k) (Some v)) (get-insert nat_list_cmp_total m k w q)
    ∙ elim (eq_by_cmp text_cmp q k) as (λ b. eq_by_cmp text_cmp q k ≡ b → cond b (Some v) (cond b (Some w) (get m q)) ≡ get m q) [
      | true ↦ λ t. sym (ap (get m) (same q k t) ∙ there)
      | false ↦ λ t. refl
    ] refl)
