-- A search from a finger: a key above that of the entry there has its place behind that entry.
use Rattle.std.proofs.Common.{◌≡◌, ℕ, true, false, ◌<◌, ◌≤◌, List, [], ◌∷◌, ◌++◌, length, take, drop, Some, None, refl, sym, ap, subst, ◌∙◌, arith, length-append}
use Rattle.std.specs.Prelude.{T, is_some}
use Rattle.std.proofs.Math.Seq.{drop-append_seam, take-length, drop-length}
use Rattle.std.proofs.lemmas.List.{append-nil, length-take, nil_from_length}
use Rattle.std.specs.Ordering.{is_lt, is_gt, ordering_reverse}
use Rattle.std.specs.Cmp.Lexicographic.{nat_list_cmp_total}
use Rattle.std.specs.FinMap.{put, is_sorted}
use Rattle.std.specs.FinMap.Entries.{by_order, below_all}
use Rattle.std.specs.declared.cmp.Ordering.{Ordering}
use Rattle.std.specs.declared.cmp.Ordering.TheVariants.{Less, Equal, Greater}
use Rattle.dc_text.specs.Maps.{text_cmp}
use Rattle.dc_parts.specs.Packed.{packed_text, packed_key, packed, text_at, behind_text, key_at, behind_key, entries_in, IsPacked, IsPlace, IsBehind, before, from, behind, value_at}
use Rattle.dc_parts.proofs.PackedLemmas.{none_in, packed-append, packed_anew, opened, before-from, put-place, put_packed}
use Rattle.dc_parts.proofs.PlaceLemmas.{first, second, less}

higher : (q k l : List ℕ) → text_cmp q k ≡ Greater → text_cmp l k ≡ Less → text_cmp q l ≡ Greater
higher q k l above below =
    let flipped : text_cmp k q ≡ Less = nat_list_cmp_total.antisymm k q ∙ ap ordering_reverse above in
    nat_list_cmp_total.antisymm q l ∙ ap ordering_reverse (nat_list_cmp_total.trans l k q below flipped)

below_later : (k : List ℕ) (front rest : List (List ℕ × List ℕ)) (e : List ℕ × List ℕ) → T (below_all text_cmp k (front ++ e ∷ rest)) → T (is_lt (text_cmp k e.0))
below_later k [] rest e h = first _ _ h
below_later k (f ∷ front) rest e h = below_later k front rest e (second _ _ h)

-- a key above that of an entry has its place among those behind the entry
behind_entry : (q : List ℕ) (front rest : List (List ℕ × List ℕ)) (e : List ℕ × List ℕ) → T (is_sorted text_cmp (front ++ e ∷ rest)) → text_cmp q e.0 ≡ Greater
    → (from q rest ≡ from q (front ++ e ∷ rest)) × (behind q rest ≡ behind q (front ++ e ∷ rest)) × (value_at q rest ≡ value_at q (front ++ e ∷ rest))
behind_entry q [] rest e h above = (
  ap (λ o. by_order o (e ∷ rest) (e ∷ rest) (from q rest)) (sym above),
  ap (λ o. by_order o (e ∷ rest) rest (behind q rest)) (sym above),
  ap (λ o. by_order o None (Some e.1) (value_at q rest)) (sym above),
)
behind_entry q (f ∷ front) rest e h above =
    let es : List (List ℕ × List ℕ) = front ++ e ∷ rest in
    let order : text_cmp q f.0 ≡ Greater = higher q e.0 f.0 above (less _ (below_later f.0 front rest e (first _ _ h))) in
    let same : (from q rest ≡ from q es) × (behind q rest ≡ behind q es) × (value_at q rest ≡ value_at q es) = behind_entry q front rest e (second _ _ h) above in (
      same.0 ∙ ap (λ o. by_order o (f ∷ es) (f ∷ es) (from q es)) (sym order),
      same.1 ∙ ap (λ o. by_order o (f ∷ es) es (behind q es)) (sym order),
      same.2 ∙ ap (λ o. by_order o None (Some f.1) (value_at q es)) (sym order),
    )

module _ (finger : ℕ) (bytes : List ℕ) (is_packed : IsPacked bytes) (is_place : IsPlace finger (entries_in bytes)) where
  laid : bytes ≡ packed is_place.0 ++ packed is_place.1
  laid = sym is_packed ∙ ap packed is_place.2 ∙ packed-append is_place.0 is_place.1

  pub finger_fits : finger ≤ length bytes
  finger_fits = omega (arith, is_place.3, ap length laid, length-append (packed is_place.0) (packed is_place.1))

  module _ (tail : List ℕ) (is : tail ≡ drop finger bytes) where
    tail_is : tail ≡ packed is_place.1
    tail_is = is ∙ (λ i. drop (is_place.3 i) (laid i)) ∙ drop-append_seam (packed is_place.0) (packed is_place.1)

    pub tail_packed : (entries_in tail ≡ is_place.1) × IsPacked tail
    tail_packed = packed_anew is_place.1 tail tail_is

    -- a key above that of the entry at the finger
    pub past_finger : (q k rest : List ℕ) → T (is_sorted text_cmp (entries_in bytes)) → 0 < length tail → k ≡ key_at tail → rest ≡ behind_text (behind_key tail) → text_cmp q k ≡ Greater
        → (from q (entries_in rest) ≡ from q (entries_in bytes)) × (behind q (entries_in rest) ≡ behind q (entries_in bytes)) × (value_at q (entries_in rest) ≡ value_at q (entries_in bytes))
    past_finger q k rest h some key past above =
        let e : List ℕ × List ℕ = (key_at tail, text_at (behind_key tail)) in
        let es : List (List ℕ × List ℕ) = entries_in (behind_text (behind_key tail)) in
        let all : entries_in bytes ≡ is_place.0 ++ e ∷ es
        = is_place.2 ∙ ap (λ l. is_place.0 ++ l) (sym tail_packed.0 ∙ opened tail some tail_packed.1) in
        let same : (from q es ≡ from q (is_place.0 ++ e ∷ es)) × (behind q es ≡ behind q (is_place.0 ++ e ∷ es)) × (value_at q es ≡ value_at q (is_place.0 ++ e ∷ es))
        = behind_entry q is_place.0 es e (subst (λ l. T (is_sorted text_cmp l)) all h) (ap (text_cmp q) (sym key) ∙ above) in (
          ap (λ b. from q (entries_in b)) past ∙ same.0 ∙ ap (from q) (sym all),
          ap (λ b. behind q (entries_in b)) past ∙ same.1 ∙ ap (behind q) (sym all),
          ap (λ b. value_at q (entries_in b)) past ∙ same.2 ∙ ap (value_at q) (sym all),
        )

-- before the first byte stands no entry
pub no_place : (es : List (List ℕ × List ℕ)) → IsPlace 0 es
no_place es = ([], es, refl, refl)

-- where an entry is put, the entries before it end
pub put_place : (q v bytes : List ℕ) (start : ℕ) (es fs : List (List ℕ × List ℕ)) → take start bytes ≡ packed (before q es) → start ≤ length bytes → fs ≡ put text_cmp q v es → IsPlace start fs
put_place q v bytes start es fs starts fits is = (before q es, (q, v) ∷ behind q es, is ∙ put-place q v es, omega (arith, ap length starts, length-take start bytes))

-- ---- usual keys behind all others

none_behind : (q rest : List ℕ) (es : List (List ℕ × List ℕ)) → rest ≡ []
    → (from q (entries_in rest) ≡ from q es) × (behind q (entries_in rest) ≡ behind q es) × (value_at q (entries_in rest) ≡ value_at q es) → IsBehind q es
none_behind q rest es none same =
    let nothing : entries_in rest ≡ [] = ap entries_in none in
    let from_none : [] ≡ from q es = ap (from q) (sym nothing) ∙ same.0 in (
      sym (append-nil (before q es)) ∙ ap (λ l. before q es ++ l) from_none ∙ before-from q es,
      sym same.1 ∙ ap (behind q) nothing,
      sym same.2 ∙ ap (value_at q) nothing,
    )

pub behind_none : (q bytes : List ℕ) → length bytes ≡ 0 → IsBehind q (entries_in bytes)
behind_none q bytes none = subst (IsBehind q) (sym (none_in bytes none)) (refl, refl, refl)

-- a key comes behind all entries if it is above that of the entry at the finger, and nothing stands behind that
pub behind_last : (q bytes tail rest : List ℕ) (finger : ℕ) (is_packed : IsPacked bytes) (is_place : IsPlace finger (entries_in bytes)) → tail ≡ drop finger bytes → T (is_sorted text_cmp (entries_in bytes))
    → 0 < length tail → rest ≡ behind_text (behind_key tail) → length rest ≡ 0 → text_cmp q (key_at tail) ≡ Greater → IsBehind q (entries_in bytes)
behind_last q bytes tail rest finger is_packed is_place at h some past none above =
    none_behind q rest (entries_in bytes) (nil_from_length rest none) (past_finger finger bytes is_packed is_place tail at q (key_at tail) rest h some refl past above)

module _ (q bytes : List ℕ) (is_packed : IsPacked bytes) (last : IsBehind q (entries_in bytes)) where
  all_before : take (length bytes) bytes ≡ packed (before q (entries_in bytes))
  all_before = take-length bytes ∙ sym is_packed ∙ ap packed (sym last.0)

  none_after : drop (length bytes) bytes ≡ packed (behind q (entries_in bytes))
  none_after = drop-length bytes ∙ ap packed (sym last.1)

  pub not_there : false ≡ is_some (value_at q (entries_in bytes))
  not_there = ap is_some (sym last.2)

  -- what an entry does that is put behind all others
  pub pushed : (v key new : List ℕ) → key ≡ packed_key q → new ≡ bytes ++ (key ++ packed_text v)
      → (entries_in new ≡ put text_cmp q v (entries_in bytes)) × IsPacked new × IsPlace (length bytes) (entries_in new)
  pushed v key new key_is is =
      let piece : List ℕ = key ++ packed_text v in
      let entry : piece ≡ packed ((q, v) ∷ []) = (λ i. key_is i ++ (sym (append-nil (packed_text v))) i) in
      let laid : new ≡ take (length bytes) bytes ++ (piece ++ drop (length bytes) bytes)
      = is ∙ (λ i. (sym (take-length bytes)) i ++ (sym (append-nil piece)) i) ∙ ap (λ l. take (length bytes) bytes ++ (piece ++ l)) (sym (drop-length bytes)) in
      let made : (entries_in new ≡ put text_cmp q v (entries_in bytes)) × IsPacked new = put_packed q bytes (length bytes) (length bytes) all_before none_after v piece new entry laid in
      (made.0, made.1, put_place q v bytes (length bytes) (entries_in bytes) (entries_in new) all_before (omega arith) made.0)

pub is_above : (o : Ordering) → is_gt o ≡ true → o ≡ Greater
is_above Less e = absurd (cc)
is_above Equal e = absurd (cc)
is_above Greater e = refl
