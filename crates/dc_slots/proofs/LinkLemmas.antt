-- What becomes of the lists of owners where a link is put or taken away.
use Rattle.std.proofs.Common.{◌≡◌, ◌≢◌, ◌⊎◌, ℕ, suc, ◌+◌, ◌<◌, ◌≤◌, Bool, true, false, cond, List, [], ◌∷◌, ◌++◌, length, nat_eq, map as each, Option, Some, None, option_map, unwrap_or, refl, sym, ap, ◌∙◌, subst, inl, inr, arith, length-append, append_assoc}
use Rattle.std.specs.Prelude.{is_some, not, ◌||◌, MatchOption}
use Rattle.std.specs.List.{IsDistinct, list_any}
use Rattle.std.specs.Ordering.{eq_by_cmp}
use Rattle.std.specs.Cmp.Lexicographic.{nat_list_cmp_total}
use Rattle.std.specs.FinMap.{get, insert, empty, entries, get-empty, get-entries, get-insert, find, same_map}
use Rattle.std.proofs.lemmas.Bool.{cases_eq}
use Rattle.std.proofs.lemmas.List.{get_or_past, get_or-set_same, get_or-set_other, map-append, append-nil}
use Rattle.std.proofs.lemmas.List.Folds.{list_any-append}
use Rattle.std.proofs.lemmas.Map.Keys.{IsDistinct-tail, IsDistinct-push}
use Rattle.dc_text.specs.Maps.{Texts, text_cmp}
use Rattle.dc_text.proofs.MapLemmas.{exact_texts}
use Rattle.dc_slots.specs.Chains.{has, IsWalk, EndsAt}
use Rattle.dc_slots.specs.Slots.{list_of, with_at, without, if_any}
use Rattle.dc_slots.specs.Links.{link_at, next_of, next_in, slot_of, slot_in, links_from, slots_from, slots_by_owner, IsLinkedAs, list_with, list_between, with_next, linked, IsJoined, IsPlace, IsFound, IsUnlinked, first_after, last_after, AreLinked, AreWalked}
use Rattle.dc_slots.specs.declared.owner_lists.Link.{Link}
use Rattle.dc_slots.specs.declared.owner_lists.OwnerList.{OwnerList}
use Rattle.dc_slots.specs.declared.owner_lists.Place.{Place}
use Rattle.dc_slots.proofs.KeyLemmas.{cases_key, insert-here, insert-other, remove-here, remove-other, is_insert, is_remove}
use Rattle.dc_slots.proofs.ChainLemmas.{each_same, walk_none, walk_within, walk_is, walk_same, walk_pushed, walk_cut, walk_behind, length_walk, ends_pushed, ends_before, ends_behind_front, numbers_equiv, has_head, has_tail, has_last, or_first, has_pushed, has_push, has_end, has_append, has_cut, has_uncut, has_middle, not_in_front, not_in_back, not_in_cut, distinct_cut, distinct_back, first_apart, apart, no_end, not_both, neither, tied}

-- ---- what is seen of the links

pub within : (links : List (Option Link)) (n : ℕ) → is_some (link_at links n) ≡ true → n < length links
within links n there = grind (arith, get_or_past)

pub links_are : (links : List (Option Link)) (from : Option ℕ) (ns : List ℕ) → IsWalk (next_in links) from ns → IsDistinct nat_eq ns → ((n : ℕ) → has n ns ≡ true → is_some (link_at links n) ≡ true) → links_from links from ≡ ns
links_are links from ns walks distinct kept = walk_within (next_in links) from ns (length links) walks distinct (λ n there. within links n (kept n there))

abbrev pub seen : List (Option Link) → Option OwnerList → Option (List ℕ)
seen links None = None
seen links (Some l) = Some (slots_from links (Some l.first))

slots_found : (links : List (Option Link)) (es : List (List ℕ × OwnerList)) (q : List ℕ) → get (slots_by_owner links es) q ≡ seen links (find text_cmp q es)
slots_found links [] q = get-empty text_cmp q
slots_found links (e ∷ es) q =
    get-insert nat_list_cmp_total (slots_by_owner links es) e.0 (slots_from links (Some e.1.first)) q
    ∙ elim (eq_by_cmp text_cmp q e.0) as (λ b. cond b (Some (slots_from links (Some e.1.first))) (get (slots_by_owner links es) q) ≡ seen links (cond b (Some e.1) (find text_cmp q es))) [
      | true ↦ refl
      | false ↦ slots_found links es q
    ]

-- the slots of the owners, as they are seen
abbrev pub shown : List (Option Link) → Texts OwnerList → Texts (List ℕ)
shown links lists = slots_by_owner links (entries lists)

found : (links : List (Option Link)) (lists : Texts OwnerList) (q : List ℕ) → get (shown links lists) q ≡ seen links (get lists q)
found links lists q = slots_found links (entries lists) q ∙ ap (seen links) (sym (get-entries lists q))

-- ---- lists of owners

module _ (links : List (Option Link)) where
  none_linked : (l : OwnerList) → IsLinkedAs links (Some l) [] → ⊥
  none_linked l is = let e : Some l.first ≡ None = is.0 in absurd (cc)

  pub linked_any : (o : Option OwnerList) (f : ℕ → ℕ) (ns : List ℕ) → IsLinkedAs links o ns → option_map (λ _. each f ns) o ≡ if_any (each f ns)
  linked_any None f ns is = ap (λ l. if_any (each f l)) (sym is)
  linked_any (Some l) f [] is = absurd (none_linked l is)
  linked_any (Some l) f (n ∷ ns) is = refl

  linked_list : (o : Option OwnerList) (f : ℕ → ℕ) (ns : List ℕ) → IsLinkedAs links o ns → unwrap_or (option_map (λ _. each f ns) o) [] ≡ each f ns
  linked_list None f ns is = ap (each f) (sym is)
  linked_list (Some l) f ns is = refl

  linked_seen : (o : Option OwnerList) (ns : List ℕ) → IsLinkedAs links o ns → IsDistinct nat_eq ns → ((n : ℕ) → has n ns ≡ true → is_some (link_at links n) ≡ true) → seen links o ≡ option_map (λ _. each (slot_in links) ns) o
  linked_seen None ns is distinct kept = refl
  linked_seen (Some l) ns is distinct kept = ap (λ ms. Some (each (slot_in links) ms)) (links_are links (Some l.first) ns is.0 distinct kept)

  module _ (lists : Texts OwnerList) (h : AreLinked links lists) where
    pub get-shown : (q : List ℕ) → get (shown links lists) q ≡ option_map (λ _. each (slot_in links) (h.chain q)) (get lists q)
    get-shown q = found links lists q ∙ linked_seen (get lists q) (h.chain q) (h.linked q) (h.distinct q) (h.kept q)

    pub list_shown : (q : List ℕ) → list_of (shown links lists) q ≡ each (slot_in links) (h.chain q)
    list_shown q = ap (λ o. unwrap_or o []) (get-shown q) ∙ linked_list (get lists q) (slot_in links) (h.chain q) (h.linked q)

    pub any_shown : (q : List ℕ) → get (shown links lists) q ≡ if_any (list_of (shown links lists) q)
    any_shown q = get-shown q ∙ linked_any (get lists q) (slot_in links) (h.chain q) (h.linked q) ∙ ap if_any (sym (list_shown q))

  -- where the links of a list stay
  pub linked_same : (later : List (Option Link)) (o : Option OwnerList) (ns : List ℕ) → ((n : ℕ) → has n ns ≡ true → link_at later n ≡ link_at links n) → IsLinkedAs links o ns → IsLinkedAs later o ns
  linked_same later None ns same is = is
  linked_same later (Some l) ns same is = (walk_same (next_in links) (next_in later) (Some l.first) ns (λ n there. ap next_of (same n there)) is.0, is.1)

-- one of two, by whether two keys are the same
abbrev pub pick : {A B : Type 0} → A ⊎ B → List ℕ → List ℕ → List ℕ
pick (inl same) one other = one
pick (inr differ) one other = other

same_text : (q k : List ℕ) → (q ≡ k) ⊎ (q ≢ k)
same_text = cases_key nat_list_cmp_total exact_texts

-- ---- a link is put

module _ (links later : List (Option Link)) (lists after : Texts OwnerList) (owner : List ℕ) (slot : ℕ) (h : AreLinked links lists) (j : IsJoined links later lists after owner slot)
    (fresh : has slot (each (slot_in links) (h.chain owner)) ≡ false) where
  not_new : (q : List ℕ) (n : ℕ) → has n (h.chain q) ≡ true → n ≢ j.number
  not_new q n there same = not_both (is_some (link_at links n)) (h.kept q n there) (ap (λ m. is_some (link_at links m)) same ∙ ap is_some j.vacant)

  new_out : (q : List ℕ) → has j.number (h.chain q) ≡ false
  new_out q = elim (has j.number (h.chain q)) as (λ b. has j.number (h.chain q) ≡ b → b ≡ false) [ true ↦ λ e. absurd (not_new q j.number e refl) | false ↦ λ e. refl ] refl

  last_there : (l : OwnerList) → get lists owner ≡ Some l → has l.last (h.chain owner) ≡ true
  last_there l is = has_end (h.chain owner) l.last (subst (λ o. IsLinkedAs links o (h.chain owner)) is (h.linked owner)).1

  at_old : (n : ℕ) → n ≢ j.number → (link_at later n ≡ link_at links n) ⊎ (link_at later n ≡ with_next (link_at links n) (Some j.number))
  at_old n differ = by (get lists owner) refl where
    by : (o : Option OwnerList) → get lists owner ≡ o → (link_at later n ≡ link_at links n) ⊎ (link_at later n ≡ with_next (link_at links n) (Some j.number))
    by None is = inl (j.others n differ (λ l found. absurd (cc)))
    by (Some l) is = elim (cases_eq n l.last) [
      | inl last ↦ inr (ap (link_at later) last ∙ j.named l is ∙ ap (λ m. with_next (link_at links m) (Some j.number)) (sym last))
      | inr not_last ↦ inl (j.others n differ (λ k found same. not_last (same ∙ ap (λ (o : OwnerList). o.last) (let e : k ≡ l = cc in e))))
    ]

  slot_of_next : (o : Option Link) (next : Option ℕ) → slot_of (with_next o next) ≡ slot_of o
  slot_of_next None next = refl
  slot_of_next (Some link) next = refl

  some_of_next : (o : Option Link) (next : Option ℕ) → is_some (with_next o next) ≡ is_some o
  some_of_next None next = refl
  some_of_next (Some link) next = refl

  kept_old : (n : ℕ) → n ≢ j.number → is_some (link_at later n) ≡ is_some (link_at links n)
  kept_old n differ = elim (at_old n differ) [ inl same ↦ ap is_some same | inr named ↦ ap is_some named ∙ some_of_next (link_at links n) (Some j.number) ]

  slot_old : (n : ℕ) → n ≢ j.number → slot_in later n ≡ slot_in links n
  slot_old n differ = elim (at_old n differ) [ inl same ↦ ap slot_of same | inr named ↦ ap slot_of named ∙ slot_of_next (link_at links n) (Some j.number) ]

  slots_old : (q : List ℕ) → each (slot_in later) (h.chain q) ≡ each (slot_in links) (h.chain q)
  slots_old q = each_same (slot_in later) (slot_in links) (h.chain q) (λ n there. slot_old n (not_new q n there))

  abbrev joined : List ℕ → List ℕ
  joined q = pick (same_text q owner) (h.chain owner ++ j.number ∷ []) (h.chain q)

  slots_new : each (slot_in later) (h.chain owner ++ j.number ∷ []) ≡ each (slot_in links) (h.chain owner) ++ slot ∷ []
  slots_new = map-append (slot_in later) (h.chain owner) (j.number ∷ []) ∙ (λ i. slots_old owner i ++ slot_of (j.here i) ∷ [])

  after_here : get after owner ≡ Some (list_with (get lists owner) j.number)
  after_here = ap (λ m. get m owner) j.list ∙ insert-here nat_list_cmp_total exact_texts lists owner _

  after_other : (q : List ℕ) → q ≢ owner → get after q ≡ get lists q
  after_other q differ = ap (λ m. get m q) j.list ∙ insert-other nat_list_cmp_total exact_texts lists owner _ q differ

  linked_here : IsLinkedAs later (Some (list_with (get lists owner) j.number)) (h.chain owner ++ j.number ∷ [])
  linked_here = by (get lists owner) refl (h.linked owner) where
    by : (o : Option OwnerList) → get lists owner ≡ o → IsLinkedAs links o (h.chain owner) → IsLinkedAs later (Some (list_with o j.number)) (h.chain owner ++ j.number ∷ [])
    by None is none = subst (λ ns. IsLinkedAs later (Some (list_with None j.number)) (ns ++ j.number ∷ [])) (sym none) ((refl, ap next_of j.here), refl)
    by (Some l) is walked =
        let named : next_in later l.last ≡ Some j.number = ap next_of (j.named l is) ∙ named_next (link_at links l.last) (h.kept owner l.last (has_end (h.chain owner) l.last walked.1)) in (
          walk_pushed (next_in links) (next_in later) (Some l.first) (h.chain owner) l.last j.number walked.0 walked.1 (h.distinct owner) (new_out owner) named (ap next_of j.here)
              (λ m not_last new. ap next_of (j.others m new (λ k found same. not_last (same ∙ ap (λ (o : OwnerList). o.last) (let e : k ≡ l = cc in e))))),
          ends_pushed (h.chain owner) j.number,
        ) where
          named_next : (o : Option Link) → is_some o ≡ true → next_of (with_next o (Some j.number)) ≡ Some j.number
          named_next None e = absurd (cc)
          named_next (Some link) e = refl

  linked_other : (q : List ℕ) → q ≢ owner → IsLinkedAs later (get lists q) (h.chain q)
  linked_other q differ = linked_same links later (get lists q) (h.chain q) (λ n there. j.others n (not_new q n there) (λ l is same. differ (h.apart q owner n there (ap (λ m. has m (h.chain owner)) same ∙ last_there l is)))) (h.linked q)

  member : (q : List ℕ) (n : ℕ) → has n (joined q) ≡ true → ((n ≡ j.number) × (q ≡ owner)) ⊎ (has n (h.chain q) ≡ true)
  member q n = elim (same_text q owner) as (λ s. has n (pick s (h.chain owner ++ j.number ∷ []) (h.chain q)) ≡ true → ((n ≡ j.number) × (q ≡ owner)) ⊎ (has n (h.chain q) ≡ true)) [
    | inl same ↦ λ e. elim (has_pushed n (h.chain owner) j.number e) [ inl new ↦ inl (new, same) | inr old ↦ inr (ap (λ o. has n (h.chain o)) same ∙ old) ]
    | inr differ ↦ λ e. inr e
  ]

  pub are_joined : AreLinked later after
  are_joined = record {
    chain = joined;
    linked = λ q. elim (same_text q owner) as (λ s. IsLinkedAs later (get after q) (pick s (h.chain owner ++ j.number ∷ []) (h.chain q))) [
      | inl same ↦ subst (λ o. IsLinkedAs later o (h.chain owner ++ j.number ∷ [])) (sym (ap (get after) same ∙ after_here)) linked_here
      | inr differ ↦ subst (λ o. IsLinkedAs later o (h.chain q)) (sym (after_other q differ)) (linked_other q differ)
    ];
    kept = λ q n there. elim (member q n there) [
      | inl new ↦ ap (λ m. is_some (link_at later m)) new.0 ∙ ap is_some j.here
      | inr old ↦ kept_old n (not_new q n old) ∙ h.kept q n old
    ];
    whole = λ n there. elim (cases_eq n j.number) [
      | inl new ↦ (
        owner,
        elim (same_text owner owner) as (λ s. has n (pick s (h.chain owner ++ j.number ∷ []) (h.chain owner)) ≡ true) [
          | inl same ↦ ap (λ m. has m (h.chain owner ++ j.number ∷ [])) new ∙ has_last (h.chain owner) j.number
          | inr differ ↦ absurd (differ refl)
        ],
      )
      | inr old ↦ let place = h.whole n (sym (kept_old n old) ∙ there) in (
        place.0,
        elim (same_text place.0 owner) as (λ s. has n (pick s (h.chain owner ++ j.number ∷ []) (h.chain place.0)) ≡ true) [
          | inl same ↦ has_push n (h.chain owner) j.number (ap (λ o. has n (h.chain o)) (sym same) ∙ place.1)
          | inr differ ↦ place.1
        ],
      )
    ];
    apart = λ q r n in_q in_r. elim (member q n in_q) [
      | inl new ↦ elim (member r n in_r) [
        | inl also ↦ new.1 ∙ sym also.1
        | inr old ↦ absurd (not_new r n old new.0)
      ]
      | inr old ↦ elim (member r n in_r) [
        | inl new ↦ absurd (not_new q n old new.0)
        | inr also ↦ h.apart q r n old also
      ]
    ];
    distinct = λ q. elim (same_text q owner) as (λ s. IsDistinct nat_eq (pick s (h.chain owner ++ j.number ∷ []) (h.chain q))) [
      | inl same ↦ IsDistinct-push numbers_equiv (h.chain owner) j.number (h.distinct owner) (new_out owner)
      | inr differ ↦ h.distinct q
    ];
    slots = λ q. elim (same_text q owner) as (λ s. IsDistinct nat_eq (each (slot_in later) (pick s (h.chain owner ++ j.number ∷ []) (h.chain q)))) [
      | inl same ↦ subst (IsDistinct nat_eq) (sym slots_new) (IsDistinct-push numbers_equiv _ slot (h.slots owner) fresh)
      | inr differ ↦ subst (IsDistinct nat_eq) (sym (slots_old q)) (h.slots q)
    ];
  }

  pub joined_shown : shown later after ≡ insert (shown links lists) owner (list_of (shown links lists) owner ++ slot ∷ [])
  unfolding are_joined
  joined_shown = is_insert nat_list_cmp_total exact_texts (shown links lists) owner (shown later after) _
      (get-shown later after are_joined owner
      ∙ ap (option_map (λ _. each (slot_in later) (joined owner))) after_here
      ∙ ap Some (elim (same_text owner owner) as (λ s. each (slot_in later) (pick s (h.chain owner ++ j.number ∷ []) (h.chain owner)) ≡ list_of (shown links lists) owner ++ slot ∷ []) [
        | inl same ↦ slots_new ∙ ap (λ l. l ++ slot ∷ []) (sym (list_shown links lists h owner))
        | inr differ ↦ absurd (differ refl)
      ]))
      (λ q differ. get-shown later after are_joined q
      ∙ ap (option_map (λ _. each (slot_in later) (joined q))) (after_other q differ)
      ∙ ap (λ l. option_map (λ _. l) (get lists q)) (elim (same_text q owner) as (λ s. each (slot_in later) (pick s (h.chain owner ++ j.number ∷ []) (h.chain q)) ≡ each (slot_in links) (h.chain q)) [
        | inl same ↦ absurd (differ same)
        | inr apart ↦ slots_old q
      ])
      ∙ sym (get-shown links lists h q))

-- ---- a link is taken away

module _ {X : Type 0} (m : Texts X) (k : List ℕ) where
  pub with-here : (o : Option X) → get (with_at m k o) k ≡ o
  with-here None = remove-here nat_list_cmp_total exact_texts m k
  with-here (Some x) = insert-here nat_list_cmp_total exact_texts m k x

  pub with-other : (o : Option X) (q : List ℕ) → q ≢ k → get (with_at m k o) q ≡ get m q
  with-other None q differ = remove-other nat_list_cmp_total exact_texts m k q differ
  with-other (Some x) q differ = insert-other nat_list_cmp_total exact_texts m k x q differ

  pub is_with : (n : Texts X) (o : Option X) → get n k ≡ o → ((q : List ℕ) → q ≢ k → get n q ≡ get m q) → n ≡ with_at m k o
  is_with n None here others = is_remove nat_list_cmp_total exact_texts m k n here others
  is_with n (Some x) here others = is_insert nat_list_cmp_total exact_texts m k n x here others

  pub with_same : (o : Option X) → get m k ≡ o → m ≡ with_at m k o
  with_same o here = is_with m o here (λ q _. refl)

module _ {X : Type 0} (same : X → X → Bool) where
  pub without_none : (xs : List X) (x : X) → list_any (same x) xs ≡ false → without same xs x ≡ xs
  without_none [] x none = refl
  without_none (y ∷ ys) x none =
      let parts : (same x y ≡ false) × (list_any (same x) ys ≡ false) = neither (same x y) (list_any (same x) ys) none in
      ap (λ b. cond (not b) (y ∷ without same ys x) (without same ys x)) parts.0 ∙ ap (λ l. y ∷ l) (without_none ys x parts.1)

  pub without_middle : (front back : List X) (x : X) → same x x ≡ true → list_any (same x) front ≡ false → list_any (same x) back ≡ false → without same (front ++ x ∷ back) x ≡ front ++ back
  without_middle [] back x itself none_before none_behind = ap (λ b. cond (not b) (x ∷ without same back x) (without same back x)) itself ∙ without_none back x none_behind
  without_middle (y ∷ front) back x itself none_before none_behind =
      let parts : (same x y ≡ false) × (list_any (same x) front ≡ false) = neither (same x y) (list_any (same x) front) none_before in
      ap (λ b. cond (not b) (y ∷ without same (front ++ x ∷ back) x) (without same (front ++ x ∷ back) x)) parts.0 ∙ ap (λ l. y ∷ l) (without_middle front back x itself parts.1 none_behind)

module _ (links later : List (Option Link)) (lists after : Texts OwnerList) (owner : List ℕ) (slot : ℕ) (l : OwnerList) (before : Option ℕ) (number : ℕ) (h : AreLinked links lists)
    (is : get lists owner ≡ Some l) (p : IsPlace links (h.chain owner) slot before number) (u : IsUnlinked links later before number)
    (list : after ≡ with_at lists owner (list_between (first_after before (next_in links number) l.first) (last_after before (next_in links number) l.last))) where
  abbrev left : List ℕ
  left = p.front ++ p.back

  whole_distinct : IsDistinct nat_eq (p.front ++ number ∷ p.back)
  whole_distinct = subst (IsDistinct nat_eq) p.split (h.distinct owner)

  walks_whole : IsWalk (next_in links) (Some l.first) (p.front ++ number ∷ p.back) × EndsAt (p.front ++ number ∷ p.back) (Some l.last)
  walks_whole = subst (λ ns. IsLinkedAs links (Some l) ns) p.split (subst (λ o. IsLinkedAs links o (h.chain owner)) is (h.linked owner))

  in_owner : (n : ℕ) → has n (p.front ++ number ∷ p.back) ≡ true → has n (h.chain owner) ≡ true
  in_owner n there = ap (has n) p.split ∙ there

  number_there : has number (h.chain owner) ≡ true
  number_there = in_owner number (has_middle p.front p.back number)

  before_there : (b : ℕ) → EndsAt p.front (Some b) → has b (h.chain owner) ≡ true
  before_there b ends = in_owner b (has_append b p.front (number ∷ p.back) ∙ or_first (has b p.front) _ (has_end p.front b ends))

  -- a link that stays has what it had, but for the number that it names
  at_left : (n : ℕ) → n ≢ number → (link_at later n ≡ link_at links n) ⊎ (link_at later n ≡ with_next (link_at links n) (next_in links number))
  at_left n differ = by before u.named u.others where
    by : (b : Option ℕ) → MatchOption b (Unit {0}) (λ b. link_at later b ≡ with_next (link_at links b) (next_in links number)) → ((n : ℕ) → n ≢ number → MatchOption b (Unit {0}) (λ b. n ≢ b) → link_at later n ≡ link_at links n)
        → (link_at later n ≡ link_at links n) ⊎ (link_at later n ≡ with_next (link_at links n) (next_in links number))
    by None named others = inl (others n differ tt)
    by (Some b) named others = elim (cases_eq n b) [
      | inl same ↦ inr (ap (link_at later) same ∙ named ∙ ap (λ m. with_next (link_at links m) (next_in links number)) (sym same))
      | inr apart ↦ inl (others n differ apart)
    ]

  some_next : (o : Option Link) (next : Option ℕ) → is_some (with_next o next) ≡ is_some o
  some_next None next = refl
  some_next (Some link) next = refl

  slot_next : (o : Option Link) (next : Option ℕ) → slot_of (with_next o next) ≡ slot_of o
  slot_next None next = refl
  slot_next (Some link) next = refl

  kept_left : (n : ℕ) → n ≢ number → is_some (link_at later n) ≡ is_some (link_at links n)
  kept_left n differ = elim (at_left n differ) [ inl same ↦ ap is_some same | inr named ↦ ap is_some named ∙ some_next (link_at links n) (next_in links number) ]

  slot_left : (n : ℕ) → n ≢ number → slot_in later n ≡ slot_in links n
  slot_left n differ = elim (at_left n differ) [ inl same ↦ ap slot_of same | inr named ↦ ap slot_of named ∙ slot_next (link_at links n) (next_in links number) ]

  left_apart : (n : ℕ) → has n left ≡ true → n ≢ number
  left_apart n there = apart n number left there (not_in_cut p.front p.back number whole_distinct)

  other_apart : (q : List ℕ) (n : ℕ) → q ≢ owner → has n (h.chain q) ≡ true → n ≢ number
  other_apart q n differ there same = differ (h.apart q owner n there (ap (λ m. has m (h.chain owner)) same ∙ number_there))

  other_at : (q : List ℕ) (n : ℕ) → q ≢ owner → has n (h.chain q) ≡ true → link_at later n ≡ link_at links n
  other_at q n differ there = u.others n (other_apart q n differ there) (by before p.ends) where
    by : (b : Option ℕ) → EndsAt p.front b → MatchOption b (Unit {0}) (λ b. n ≢ b)
    by None ends = tt
    by (Some b) ends = λ same. differ (h.apart q owner n there (ap (λ m. has m (h.chain owner)) same ∙ before_there b ends))

  slots_left : each (slot_in later) left ≡ each (slot_in links) left
  slots_left = each_same (slot_in later) (slot_in links) left (λ n there. slot_left n (left_apart n there))

  slots_other : (q : List ℕ) → q ≢ owner → each (slot_in later) (h.chain q) ≡ each (slot_in links) (h.chain q)
  slots_other q differ = each_same (slot_in later) (slot_in links) (h.chain q) (λ n there. slot_left n (other_apart q n differ there))

  left_here : get after owner ≡ list_between (first_after before (next_in links number) l.first) (last_after before (next_in links number) l.last)
  left_here = ap (λ m. get m owner) list ∙ with-here lists owner _

  left_other : (q : List ℕ) → q ≢ owner → get after q ≡ get lists q
  left_other q differ = ap (λ m. get m q) list ∙ with-other lists owner _ q differ

  abbrev parted : List ℕ → List ℕ
  parted q = pick (same_text q owner) left (h.chain q)

  -- what is left of the owner's list
  cut_first : (front back : List ℕ) (next : Option ℕ) → front ≡ [] → next ≡ next_in links number → IsDistinct nat_eq (number ∷ back) → IsWalk (next_in links) (next_in links number) back → EndsAt (number ∷ back) (Some l.last)
      → ((n : ℕ) → n ≢ number → link_at later n ≡ link_at links n) → IsLinkedAs later (list_between (first_after None next l.first) (last_after None next l.last)) (front ++ back)
  cut_first front back next none next_is distinct walks ends same =
      subst (λ f. IsLinkedAs later (list_between (first_after None next l.first) (last_after None next l.last)) (f ++ back)) (sym none) (by next back next_is distinct walks ends) where
        by : (next : Option ℕ) (back : List ℕ) → next ≡ next_in links number → IsDistinct nat_eq (number ∷ back) → IsWalk (next_in links) (next_in links number) back → EndsAt (number ∷ back) (Some l.last)
            → IsLinkedAs later (list_between (first_after None next l.first) (last_after None next l.last)) back
        by None [] next_is distinct walks ends = refl
        by None (k ∷ back) next_is distinct walks ends = let e : None ≡ Some k = next_is ∙ walks.0 in absurd (cc)
        by (Some n) [] next_is distinct walks ends = let e : Some n ≡ None = next_is ∙ walks in absurd (cc)
        by (Some n) (k ∷ back) next_is distinct walks ends = (
          walk_same (next_in links) (next_in later) (Some n) (k ∷ back) (λ m there. ap next_of (same m (apart m number (k ∷ back) there (first_apart nat_eq number (k ∷ back) distinct))))
              (subst (λ o. IsWalk (next_in links) o (k ∷ back)) (sym next_is) walks),
          ends,
        )

  cut_behind : (front back : List ℕ) (b : ℕ) (next : Option ℕ) → next ≡ next_in links number → EndsAt front (Some b) → IsWalk (next_in links) (next_in links number) back → EndsAt (number ∷ back) (Some l.last)
      → IsWalk (next_in later) (Some l.first) (front ++ back) → IsLinkedAs later (list_between (first_after (Some b) next l.first) (last_after (Some b) next l.last)) (front ++ back)
  cut_behind front [] b None next_is ends walks last walked = (walked, subst (λ f. EndsAt f (Some b)) (sym (append-nil front)) ends)
  cut_behind front (k ∷ back) b None next_is ends walks last walked = let e : None ≡ Some k = next_is ∙ walks.0 in absurd (cc)
  cut_behind front [] b (Some n) next_is ends walks last walked = let e : Some n ≡ None = next_is ∙ walks in absurd (cc)
  cut_behind front (k ∷ back) b (Some n) next_is ends walks last walked = (walked, ends_before front k back (Some l.last) last)

  linked_left : IsLinkedAs later (list_between (first_after before (next_in links number) l.first) (last_after before (next_in links number) l.last)) left
  linked_left = by before p.ends u.named u.others where
    behind : IsWalk (next_in links) (next_in links number) p.back
    behind = walk_behind (next_in links) (Some l.first) p.front number p.back walks_whole.0

    ends : EndsAt (number ∷ p.back) (Some l.last)
    ends = ends_behind_front p.front number p.back (Some l.last) walks_whole.1

    by : (b : Option ℕ) → EndsAt p.front b → MatchOption b (Unit {0}) (λ b. link_at later b ≡ with_next (link_at links b) (next_in links number))
        → ((n : ℕ) → n ≢ number → MatchOption b (Unit {0}) (λ b. n ≢ b) → link_at later n ≡ link_at links n)
        → IsLinkedAs later (list_between (first_after b (next_in links number) l.first) (last_after b (next_in links number) l.last)) left
    by None front_ends named others =
        cut_first p.front p.back (next_in links number) (no_end p.front front_ends) refl (distinct_back nat_eq p.front (number ∷ p.back) whole_distinct) behind ends (λ n differ. others n differ tt)
    by (Some b) front_ends named others =
        cut_behind p.front p.back b (next_in links number) refl front_ends behind ends
        (walk_cut (next_in links) (next_in later) (Some l.first) p.front b number p.back walks_whole.0 front_ends whole_distinct
        (ap next_of named ∙ next_named (link_at links b) (next_in links number) (h.kept owner b (before_there b front_ends)))
        (λ m not_before not_number. ap next_of (others m not_number not_before))) where
          next_named : (o : Option Link) (next : Option ℕ) → is_some o ≡ true → next_of (with_next o next) ≡ next
          next_named None next e = absurd (cc)
          next_named (Some link) next e = refl

  was_there : (q : List ℕ) (n : ℕ) → has n (parted q) ≡ true → (has n (h.chain q) ≡ true) × (n ≢ number)
  was_there q n = elim (same_text q owner) as (λ s. has n (pick s left (h.chain q)) ≡ true → (has n (h.chain q) ≡ true) × (n ≢ number)) [
    | inl same ↦ λ e. (ap (λ o. has n (h.chain o)) same ∙ in_owner n (has_cut n p.front p.back number e), left_apart n e)
    | inr differ ↦ λ e. (e, other_apart q n differ e)
  ]

  left_distinct : IsDistinct nat_eq (each (slot_in later) left)
  left_distinct =
      let whole : IsDistinct nat_eq (each (slot_in links) p.front ++ slot_in links number ∷ each (slot_in links) p.back)
      = subst (IsDistinct nat_eq) (ap (each (slot_in links)) p.split ∙ map-append (slot_in links) p.front (number ∷ p.back)) (h.slots owner) in
      subst (IsDistinct nat_eq) (sym (slots_left ∙ map-append (slot_in links) p.front p.back)) (distinct_cut nat_eq _ _ (slot_in links number) whole)

  pub are_parted : AreLinked later after
  are_parted = record {
    chain = parted;
    linked = λ q. elim (same_text q owner) as (λ s. IsLinkedAs later (get after q) (pick s left (h.chain q))) [
      | inl same ↦ subst (λ o. IsLinkedAs later o left) (sym (ap (get after) same ∙ left_here)) linked_left
      | inr differ ↦ subst (λ o. IsLinkedAs later o (h.chain q)) (sym (left_other q differ)) (linked_same links later (get lists q) (h.chain q) (λ n there. other_at q n differ there) (h.linked q))
    ];
    kept = λ q n there. let was = was_there q n there in kept_left n was.1 ∙ h.kept q n was.0;
    whole = λ n there.
        let differ : n ≢ number = (λ same. not_both (is_some (link_at later n)) there (ap (λ m. is_some (link_at later m)) same ∙ ap is_some u.gone)) in
        let place : (q : List ℕ) × (has n (h.chain q) ≡ true) = h.whole n (sym (kept_left n differ) ∙ there) in (
          place.0,
          elim (same_text place.0 owner) as (λ s. has n (pick s left (h.chain place.0)) ≡ true) [
            | inl same ↦ has_uncut n p.front p.back number differ (ap (has n) (sym p.split) ∙ ap (λ o. has n (h.chain o)) (sym same) ∙ place.1)
            | inr apart ↦ place.1
          ],
        );
    apart = λ q r n in_q in_r. h.apart q r n (was_there q n in_q).0 (was_there r n in_r).0;
    distinct = λ q. elim (same_text q owner) as (λ s. IsDistinct nat_eq (pick s left (h.chain q))) [
      | inl same ↦ distinct_cut nat_eq p.front p.back number whole_distinct
      | inr differ ↦ h.distinct q
    ];
    slots = λ q. elim (same_text q owner) as (λ s. IsDistinct nat_eq (each (slot_in later) (pick s left (h.chain q)))) [
      | inl same ↦ left_distinct
      | inr differ ↦ subst (IsDistinct nat_eq) (sym (slots_other q differ)) (h.slots q)
    ];
  }

  slots_without : each (slot_in later) left ≡ without nat_eq (list_of (shown links lists) owner) slot
  slots_without =
      let whole : list_of (shown links lists) owner ≡ each (slot_in links) p.front ++ slot ∷ each (slot_in links) p.back
      = list_shown links lists h owner ∙ ap (each (slot_in links)) p.split ∙ map-append (slot_in links) p.front (number ∷ p.back) ∙ ap (λ n. each (slot_in links) p.front ++ n ∷ each (slot_in links) p.back) p.found in
      let behind : has slot (each (slot_in links) p.back) ≡ false
      = not_in_back nat_eq (each (slot_in links) p.front) (each (slot_in links) p.back) slot (subst (IsDistinct nat_eq) (sym (list_shown links lists h owner) ∙ whole) (h.slots owner)) in
      slots_left ∙ map-append (slot_in links) p.front p.back ∙ sym (ap (λ l. without nat_eq l slot) whole ∙ without_middle nat_eq _ _ slot (tied slot) p.first behind)

  pub parted_shown : shown later after ≡ with_at (shown links lists) owner (if_any (without nat_eq (list_of (shown links lists) owner) slot))
  unfolding are_parted
  parted_shown = is_with (shown links lists) owner (shown later after) _
      (get-shown later after are_parted owner
      ∙ elim (same_text owner owner) as (λ s. option_map (λ _. each (slot_in later) (pick s left (h.chain owner))) (get after owner) ≡ if_any (without nat_eq (list_of (shown links lists) owner) slot)) [
        | inl same ↦ ap (option_map (λ _. each (slot_in later) left)) left_here ∙ linked_any later _ (slot_in later) left linked_left ∙ ap if_any slots_without
        | inr differ ↦ absurd (differ refl)
      ])
      (λ q differ. get-shown later after are_parted q
      ∙ ap (option_map (λ _. each (slot_in later) (parted q))) (left_other q differ)
      ∙ ap (λ l. option_map (λ _. l) (get lists q)) (elim (same_text q owner) as (λ s. each (slot_in later) (pick s left (h.chain q)) ≡ each (slot_in links) (h.chain q)) [
        | inl same ↦ absurd (differ same)
        | inr apart ↦ slots_other q differ
      ])
      ∙ sym (get-shown links lists h q))

-- ---- a link is looked for

-- so far the slot wasn't found, and behind the last link that was looked at stand these
pub record IsSearched (links : List (Option Link)) (ns : List ℕ) (slot : ℕ) (before at : Option ℕ) : Type 0 where
  pub front : List ℕ
  pub back : List ℕ
  pub split : ns ≡ front ++ back
  pub ends : EndsAt front before
  pub walks : IsWalk (next_in links) at back
  pub first : has slot (each (slot_in links) front) ≡ false

module _ (links : List (Option Link)) (from : Option ℕ) (slot : ℕ) where
  pub search_begins : IsWalk (next_in links) from (links_from links from) → IsSearched links (links_from links from) slot None from
  search_begins walks = record { front = []; back = links_from links from; split = refl; ends = refl; walks = walks; first = refl }

  back_is : (before at : Option ℕ) (s : IsSearched links (links_from links from) slot before at) → links_from links at ≡ s.back
  back_is before at s =
      walk_is (next_in links) at s.back (length links) s.walks
      (let e : length (links_from links from) ≡ length s.front + length s.back = ap length s.split ∙ length-append s.front s.back in
      let short : length (links_from links from) ≤ length links = length_walk (next_in links) (length links) from in omega arith)

  back_at : (before : Option ℕ) (at : Option ℕ) (n : ℕ) (s : IsSearched links (links_from links from) slot before at) → at ≡ Some n → (rest : List ℕ) × (s.back ≡ n ∷ rest) × IsWalk (next_in links) (next_in links n) rest
  back_at before at n s is = by s.back s.walks where
    by : (ns : List ℕ) → IsWalk (next_in links) at ns → (rest : List ℕ) × (ns ≡ n ∷ rest) × IsWalk (next_in links) (next_in links n) rest
    by [] walks = let e : Some n ≡ None = sym is ∙ walks in absurd (cc)
    by (k ∷ ns) walks =
        let e : k ≡ n = (let f : Some k ≡ Some n = sym walks.0 ∙ is in cc) in
        (ns, ap (λ j. j ∷ ns) e, subst (λ j. IsWalk (next_in links) (next_in links j) ns) e walks.1)

  pub search_kept : (before at : Option ℕ) (n : ℕ) → IsSearched links (links_from links from) slot before at → at ≡ Some n → ((m : ℕ) → has m (links_from links from) ≡ true → is_some (link_at links m) ≡ true) → is_some (link_at links n) ≡ true
  search_kept before at n s is kept =
      let rest = back_at before at n s is in
      kept n (ap (has n) (s.split ∙ ap (λ l. s.front ++ l) rest.1) ∙ has_middle s.front rest.0 n)

  pub search_found : (before at : Option ℕ) (n : ℕ) → IsSearched links (links_from links from) slot before at → at ≡ Some n → slot_in links n ≡ slot → IsPlace links (links_from links from) slot before n
  search_found before at n s is found =
      let rest = back_at before at n s is in
      record { front = s.front; back = rest.0; split = s.split ∙ ap (λ l. s.front ++ l) rest.1; ends = s.ends; found = found; first = s.first }

  pub search_goes : (before at next : Option ℕ) (n : ℕ) → IsSearched links (links_from links from) slot before at → at ≡ Some n → nat_eq slot (slot_in links n) ≡ false → next ≡ next_in links n → IsSearched links (links_from links from) slot (Some n) next
  search_goes before at next n s is other next_is =
      let rest = back_at before at n s is in
      record {
        front = s.front ++ n ∷ [];
        back = rest.0;
        split = s.split ∙ ap (λ l. s.front ++ l) rest.1 ∙ sym (append_assoc s.front (n ∷ []) rest.0);
        ends = ends_pushed s.front n;
        walks = subst (λ o. IsWalk (next_in links) o rest.0) (sym next_is) rest.2;
        first = ap (has slot) (map-append (slot_in links) s.front (n ∷ [])) ∙ list_any-append (nat_eq slot) (each (slot_in links) s.front) (slot_in links n ∷ []) ∙ (λ i. s.first i || (other i || false));
      }

  pub search_shrinks : (before at next : Option ℕ) (n : ℕ) → IsSearched links (links_from links from) slot before at → at ≡ Some n → nat_eq slot (slot_in links n) ≡ false → next ≡ next_in links n
      → length (links_from links next) < length (links_from links at)
  search_shrinks before at next n s is other next_is =
      let rest = back_at before at n s is in
      let here : links_from links at ≡ n ∷ rest.0 = back_is before at s ∙ rest.1 in
      let later : links_from links next ≡ rest.0 = (let t : IsSearched links (links_from links from) slot (Some n) next = search_goes before at next n s is other next_is in
      walk_is (next_in links) next rest.0 (length links) (subst (λ o. IsWalk (next_in links) o rest.0) (sym next_is) rest.2)
      (let e : length (links_from links at) ≡ suc (length rest.0) = ap length here in let short : length (links_from links at) ≤ length links = length_walk (next_in links) (length links) at in omega arith)) in
      let e : length (links_from links at) ≡ suc (length rest.0) = ap length here in
      let f : length (links_from links next) ≡ length rest.0 = ap length later in
      omega arith

  pub search_ends : (before at : Option ℕ) → IsSearched links (links_from links from) slot before at → at ≡ None → has slot (slots_from links from) ≡ false
  search_ends before at s is = ap (λ l. has slot (each (slot_in links) l)) (s.split ∙ ap (λ l. s.front ++ l) (none s.back s.walks) ∙ append-nil s.front) ∙ s.first where
    none : (ns : List ℕ) → IsWalk (next_in links) at ns → ns ≡ []
    none [] walks = refl
    none (k ∷ ns) walks = let e : None ≡ Some k = sym is ∙ walks.0 in absurd (cc)

-- ---- no list

none_twice : IsDistinct nat_eq []
unfolding IsDistinct
none_twice = tt

pub none_linked_yet : (links : List (Option Link)) (lists : Texts OwnerList) → links ≡ [] → lists ≡ empty → AreLinked links lists
none_linked_yet links lists no_link no_list = subst (λ ls. AreLinked ls lists) (sym no_link) (subst (λ m. AreLinked [] m) (sym no_list) (record {
  chain = λ q. [];
  linked = λ q. subst (λ o. IsLinkedAs [] o []) (sym (get-empty text_cmp q)) refl;
  kept = λ q n there. absurd (cc);
  whole = λ n there. absurd (cc);
  apart = λ q r n there _. absurd (cc);
  distinct = λ q. none_twice;
  slots = λ q. none_twice;
}))

pub none_shown : (links : List (Option Link)) (lists : Texts OwnerList) → links ≡ [] → lists ≡ empty → shown links lists ≡ empty
none_shown links lists no_link no_list = same_map nat_list_cmp_total exact_texts (shown links lists) empty (λ q.
    found links lists q ∙ ap (seen links) (ap (λ m. get m q) no_list ∙ get-empty text_cmp q) ∙ sym (get-empty text_cmp q))

-- ---- a link put behind the last

pub joined_behind : (links mid later : List (Option Link)) (lists after : Texts OwnerList) (owner : List ℕ) (slot : ℕ) (l : OwnerList) (number : ℕ) → get lists owner ≡ Some l → is_some (link_at links l.last) ≡ true
    → link_at links number ≡ None → link_at mid number ≡ Some (record { slot = slot; next = None }) → ((n : ℕ) → n ≢ number → link_at mid n ≡ link_at links n)
    → later ≡ linked mid (Some l.last) (Some number) → after ≡ insert lists owner (record l { last = number }) → IsJoined links later lists after owner slot
joined_behind links mid later lists after owner slot l number is last_kept vacant here others later_is after_is =
    let differ : l.last ≢ number = (λ same. not_both (is_some (link_at links l.last)) last_kept (ap (λ n. is_some (link_at links n)) same ∙ ap is_some vacant)) in
    let mid_last : link_at mid l.last ≡ link_at links l.last = others l.last differ in
    let stays : (n : ℕ) → n ≢ l.last → link_at later n ≡ link_at mid n = (λ n e. ap (λ ls. link_at ls n) later_is ∙ get_or-set_other mid l.last n _ None e) in
    record {
      number = number;
      vacant = vacant;
      here = stays number (λ same. differ (sym same)) ∙ here;
      named = λ k found.
          let e : k ≡ l = (let f : Some k ≡ Some l = sym found ∙ is in cc) in
          ap (λ (o : OwnerList). link_at later o.last) e ∙ ap (λ ls. link_at ls l.last) later_is ∙ get_or-set_same mid l.last _ None (within mid l.last (ap is_some mid_last ∙ last_kept))
          ∙ ap (λ o. with_next o (Some number)) mid_last ∙ ap (λ (o : OwnerList). with_next (link_at links o.last) (Some number)) (sym e);
      others = λ n new not_last. stays n (not_last l is) ∙ others n new;
      list = after_is ∙ ap (λ o. insert lists owner (list_with o number)) (sym is);
    }

-- a list's last link is a link
pub last_is_kept : (links : List (Option Link)) (lists : Texts OwnerList) (h : AreLinked links lists) (owner : List ℕ) (l : OwnerList) → get lists owner ≡ Some l → is_some (link_at links l.last) ≡ true
last_is_kept links lists h owner l is =
    let walked : IsLinkedAs links (Some l) (h.chain owner) = subst (λ o. IsLinkedAs links o (h.chain owner)) is (h.linked owner) in
    h.kept owner l.last (has_end (h.chain owner) l.last walked.1)

-- the links of a list, as they are walked
pub walked_links : (links : List (Option Link)) (lists : Texts OwnerList) (h : AreLinked links lists) (owner : List ℕ) (l : OwnerList) → get lists owner ≡ Some l → links_from links (Some l.first) ≡ h.chain owner
walked_links links lists h owner l is =
    let walked : IsLinkedAs links (Some l) (h.chain owner) = subst (λ o. IsLinkedAs links o (h.chain owner)) is (h.linked owner) in
    links_are links (Some l.first) (h.chain owner) walked.0 (h.distinct owner) (h.kept owner)

pub list_walks : (links : List (Option Link)) (lists : Texts OwnerList) (h : AreLinked links lists) (owner : List ℕ) (l : OwnerList) → get lists owner ≡ Some l → IsWalk (next_in links) (Some l.first) (links_from links (Some l.first))
list_walks links lists h owner l is =
    subst (IsWalk (next_in links) (Some l.first)) (sym (walked_links links lists h owner l is)) (subst (λ o. IsLinkedAs links o (h.chain owner)) is (h.linked owner)).0

pub list_kept : (links : List (Option Link)) (lists : Texts OwnerList) (h : AreLinked links lists) (owner : List ℕ) (l : OwnerList) → get lists owner ≡ Some l → (n : ℕ) → has n (links_from links (Some l.first)) ≡ true → is_some (link_at links n) ≡ true
list_kept links lists h owner l is n there = h.kept owner n (ap (has n) (sym (walked_links links lists h owner l is)) ∙ there)

-- ---- what a search says of an owner's list

module _ (links : List (Option Link)) (lists : Texts OwnerList) (h : AreLinked links lists) (owner : List ℕ) (slot : ℕ) where
  pub no_list : get lists owner ≡ None → has slot (list_of (shown links lists) owner) ≡ false
  no_list none = ap (has slot) (list_shown links lists h owner ∙ ap (each (slot_in links)) (subst (λ o. IsLinkedAs links o (h.chain owner)) none (h.linked owner)))

  pub list_is : (l : OwnerList) → get lists owner ≡ Some l → list_of (shown links lists) owner ≡ slots_from links (Some l.first)
  list_is l is = list_shown links lists h owner ∙ ap (each (slot_in links)) (sym (walked_links links lists h owner l is))

  pub nothing_left : has slot (list_of (shown links lists) owner) ≡ false → shown links lists ≡ with_at (shown links lists) owner (if_any (without nat_eq (list_of (shown links lists) owner) slot))
  nothing_left none = with_same (shown links lists) owner _ (any_shown links lists h owner ∙ ap if_any (sym (without_none nat_eq (list_of (shown links lists) owner) slot none)))

  module _ (l : OwnerList) (is : get lists owner ≡ Some l) (before : Option ℕ) (number : ℕ) (p : IsPlace links (links_from links (Some l.first)) slot before number) where
    pub place_in_chain : IsPlace links (h.chain owner) slot before number
    place_in_chain = subst (λ ns. IsPlace links ns slot before number) (walked_links links lists h owner l is) p

    pub place_there : has slot (list_of (shown links lists) owner) ≡ true
    place_there =
        ap (has slot) (list_is l is ∙ ap (each (slot_in links)) p.split ∙ map-append (slot_in links) p.front (number ∷ p.back) ∙ ap (λ n. each (slot_in links) p.front ++ n ∷ each (slot_in links) p.back) p.found)
        ∙ has_middle (each (slot_in links) p.front) (each (slot_in links) p.back) slot

    pub place_kept : is_some (link_at links number) ≡ true
    place_kept = list_kept links lists h owner l is number (ap (has number) p.split ∙ has_middle p.front p.back number)

    pub before_kept : MatchOption before (Unit {0}) (λ b. (is_some (link_at links b) ≡ true) × (b ≢ number))
    before_kept = by before p.ends where
      by : (b : Option ℕ) → EndsAt p.front b → MatchOption b (Unit {0}) (λ b. (is_some (link_at links b) ≡ true) × (b ≢ number))
      by None ends = tt
      by (Some b) ends =
          let there : has b p.front ≡ true = has_end p.front b ends in
          let distinct : IsDistinct nat_eq (p.front ++ number ∷ p.back) = subst (IsDistinct nat_eq) (sym (walked_links links lists h owner l is) ∙ p.split) (h.distinct owner) in
          (list_kept links lists h owner l is b (ap (has b) p.split ∙ has_append b p.front (number ∷ p.back) ∙ or_first (has b p.front) _ there), apart b number p.front there (not_in_front p.front p.back number distinct))

pub told : (links : List (Option Link)) (from : Option ℕ) (slot : ℕ) (o : Option Place) → IsFound links from slot o
    → ((before : Option ℕ) (number : ℕ) → IsPlace links (links_from links from) slot before number → has slot (slots_from links from) ≡ true) → is_some o ≡ has slot (slots_from links from)
told links from slot None none is = sym none
told links from slot (Some p) place is = sym (is p.before p.number place)

-- ---- a walk over a list

pub walked_whole : (links : List (Option Link)) (lists : Texts OwnerList) (h : AreLinked links lists) (owner : List ℕ) → AreWalked links (option_map (λ l. l.first) (get lists owner))
walked_whole links lists h owner = by (get lists owner) (h.linked owner) where
  by : (o : Option OwnerList) → IsLinkedAs links o (h.chain owner) → AreWalked links (option_map (λ l. l.first) o)
  by None is = record { numbers = h.chain owner; walks = subst (λ ns. IsWalk (next_in links) None ns) (sym is) refl; kept = h.kept owner; distinct = h.distinct owner }
  by (Some l) is = record { numbers = h.chain owner; walks = is.0; kept = h.kept owner; distinct = h.distinct owner }

walked_are : (links : List (Option Link)) (from : Option ℕ) (w : AreWalked links from) → links_from links from ≡ w.numbers
walked_are links from w = links_are links from w.numbers w.walks w.distinct w.kept

pub slots_whole : (links : List (Option Link)) (lists : Texts OwnerList) (h : AreLinked links lists) (owner : List ℕ) → slots_from links (option_map (λ l. l.first) (get lists owner)) ≡ list_of (shown links lists) owner
slots_whole links lists h owner = by (get lists owner) refl where
  by : (o : Option OwnerList) → get lists owner ≡ o → slots_from links (option_map (λ l. l.first) o) ≡ list_of (shown links lists) owner
  by None none = ap (each (slot_in links)) (walk_none (next_in links) (length links)) ∙ sym (list_shown links lists h owner ∙ ap (each (slot_in links)) (subst (λ o. IsLinkedAs links o (h.chain owner)) none (h.linked owner)))
  by (Some l) is = sym (list_shown links lists h owner ∙ ap (each (slot_in links)) (sym (walked_links links lists h owner l is)))

pub slots_none : (links : List (Option Link)) (from : Option ℕ) → from ≡ None → slots_from links from ≡ []
slots_none links from none = ap (slots_from links) none ∙ ap (each (slot_in links)) (walk_none (next_in links) (length links))

-- what is left where the first was walked
pub record AreStepped (links : List (Option Link)) (from next : Option ℕ) (slot : ℕ) : Type 0 where
  pub walked : AreWalked links next
  pub named : slots_from links from ≡ slot ∷ slots_from links next

walk_rest : (next : ℕ → Option ℕ) (from : Option ℕ) (n : ℕ) (ns : List ℕ) → from ≡ Some n → IsWalk next from ns → (rest : List ℕ) × (ns ≡ n ∷ rest) × IsWalk next (next n) rest
walk_rest next from n [] is walks = let e : None ≡ Some n = sym walks ∙ is in absurd (cc)
walk_rest next from n (k ∷ ns) is walks =
    let e : k ≡ n = (let f : Some k ≡ Some n = sym walks.0 ∙ is in cc) in
    (ns, ap (λ j. j ∷ ns) e, subst (λ j. IsWalk next (next j) ns) e walks.1)

pub walk_kept : (links : List (Option Link)) (from : Option ℕ) (n : ℕ) → AreWalked links from → from ≡ Some n → is_some (link_at links n) ≡ true
walk_kept links from n w is = let rest = walk_rest (next_in links) from n w.numbers is w.walks in w.kept n (ap (has n) rest.1 ∙ has_head n rest.0)

pub walk_steps : (links : List (Option Link)) (from : Option ℕ) (n : ℕ) (one : Link) → AreWalked links from → from ≡ Some n → link_at links n ≡ Some one → AreStepped links from one.next one.slot
walk_steps links from n one w is at =
    let rest = walk_rest (next_in links) from n w.numbers is w.walks in
    let later : AreWalked links one.next = record {
      numbers = rest.0;
      walks = subst (λ o. IsWalk (next_in links) o rest.0) (ap next_of at) rest.2;
      kept = λ m there. w.kept m (ap (has m) rest.1 ∙ has_tail m n rest.0 there);
      distinct = IsDistinct-tail nat_eq n rest.0 (subst (IsDistinct nat_eq) rest.1 w.distinct);
    } in
    record {
      walked = later;
      named = ap (each (slot_in links)) (walked_are links from w ∙ rest.1) ∙ (λ i. slot_of (at i) ∷ each (slot_in links) (sym (walked_are links one.next later) i));
    }
