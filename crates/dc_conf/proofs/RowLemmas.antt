-- Rows of flags: which databases lead to which.
use Rattle.std.proofs.Common.{◌≡◌, ℕ, zero, suc, ◌+◌, ◌<◌, ◌≤◌, Bool, true, false, cond, not, ◌&&◌, List, [], ◌∷◌, ◌++◌, length, get_or, set, take, drop, map as each, Option, Some, None, refl, sym, ap, ◌∙◌, subst, append_assoc, arith}
use Rattle.std.specs.Prelude.{◌||◌, slice_get, option_map}
use Rattle.std.specs.List.{AllByRecursion, list_any, position_or_len}
use Rattle.std.specs.Option.{unwrap_or}
use Rattle.std.specs.Str.{bytes_eq}
use Rattle.std.proofs.lemmas.Option.{slice_get-map, slice_get_past, slice_get_read}
use Rattle.std.proofs.lemmas.Slice.Eq.{bytes_eq-Decides}
use Rattle.dc_conf.specs.declared.nodes.Node.{Node}
use Rattle.dc_conf.specs.Machine.{leads_by, rows_over, direct_row, led_row, joined, widened, share_flag}
use Rattle.dc_conf.specs.Nodes.{is_node, is_among, named_in, names_it, names_of, leads_to, names_meet, two_meet, reaches, repeats}
use Rattle.dc_conf.specs.Reaching.{by_way}
use Rattle.dc_conf.proofs.TestLemmas.{neither, false_unless}

-- ---- tests

pub or_true : (a : Bool) → (a || true) ≡ true
or_true true = refl
or_true false = refl

pub or_false : (a : Bool) → (a || false) ≡ a
or_false true = refl
or_false false = refl

and_false : (a : Bool) → (a && false) ≡ false
and_false true = refl
and_false false = refl

pub or_assoc : (a b c : Bool) → ((a || b) || c) ≡ (a || (b || c))
or_assoc true b c = refl
or_assoc false b c = refl

or_both : (a b c d : Bool) → ((a || b) || (c || d)) ≡ ((a || c) || (b || d))
or_both true b c d = refl
or_both false true true d = refl
or_both false true false d = refl
or_both false false c d = refl

and_or : (a b c : Bool) → ((a || b) && c) ≡ ((a && c) || (b && c))
and_or true true c = elim c as (λ c. c ≡ (c || c)) [ true ↦ refl | false ↦ refl ]
and_or true false c = sym (or_false c)
and_or false b c = refl

pub any_or : {X : Type 0} (p q : X → Bool) (xs : List X) → list_any (λ x. p x || q x) xs ≡ (list_any p xs || list_any q xs)
any_or p q [] = refl
any_or p q (x ∷ xs) = ap (λ b. (p x || q x) || b) (any_or p q xs) ∙ or_both (p x) (q x) (list_any p xs) (list_any q xs)

pub any_same : {X : Type 0} (p q : X → Bool) → ((x : X) → p x ≡ q x) → (xs : List X) → list_any p xs ≡ list_any q xs
any_same p q h [] = refl
any_same p q h (x ∷ xs) = λ i. h x i || any_same p q h xs i

pub any_never : {X : Type 0} (p : X → Bool) → ((x : X) → p x ≡ false) → (xs : List X) → list_any p xs ≡ false
any_never p h [] = refl
any_never p h (x ∷ xs) = ap (λ b. b || list_any p xs) (h x) ∙ any_never p h xs

each_same_on : {X Y : Type 0} (f g : X → Y) (xs : List X) → AllByRecursion (λ x. f x ≡ g x) xs → each f xs ≡ each g xs
each_same_on f g [] all = refl
each_same_on f g (x ∷ xs) all = λ i. all.0 i ∷ each_same_on f g xs all.1 i

pub each_same : {X Y : Type 0} (f g : X → Y) → ((x : X) → f x ≡ g x) → (xs : List X) → each f xs ≡ each g xs
each_same f g h [] = refl
each_same f g h (x ∷ xs) = λ i. h x i ∷ each_same f g h xs i

pub each_named : {Y : Type 0} (f : List ℕ → Y) (nodes : List Node) → each f (names_of nodes) ≡ each (λ node. f node.name) nodes
each_named f [] = refl
each_named f (node ∷ nodes) = ap (λ ys. f node.name ∷ ys) (each_named f nodes)

each_each : {X Y Z : Type 0} (f : Y → Z) (g : X → Y) (xs : List X) → each f (each g xs) ≡ each (λ x. f (g x)) xs
each_each f g [] = refl
each_each f g (x ∷ xs) = ap (λ ys. f (g x) ∷ ys) (each_each f g xs)

-- ---- rows

joined_each : {X : Type 0} (f g : X → Bool) (xs : List X) → joined (each f xs) (each g xs) ≡ each (λ x. f x || g x) xs
joined_each f g [] = refl
joined_each f g (x ∷ xs) = ap (λ r. (f x || g x) ∷ r) (joined_each f g xs)

share_each : {X : Type 0} (f g : X → Bool) (xs : List X) → share_flag (each f xs) (each g xs) ≡ list_any (λ x. f x && g x) xs
share_each f g [] = refl
share_each f g (x ∷ xs) = ap (λ b. (f x && g x) || b) (share_each f g xs)

share_nothing : {X : Type 0} (row : List Bool) (xs : List X) → share_flag row (each (λ _. false) xs) ≡ false
share_nothing [] [] = refl
share_nothing [] (x ∷ xs) = refl
share_nothing (b ∷ row) [] = refl
share_nothing (b ∷ row) (x ∷ xs) = (λ i. and_false b i || share_nothing row xs i)

pub nothing_shares : {X : Type 0} (row : List Bool) (xs : List X) → share_flag (each (λ _. false) xs) row ≡ false
nothing_shares [] [] = refl
nothing_shares [] (x ∷ xs) = refl
nothing_shares (b ∷ row) [] = refl
nothing_shares (b ∷ row) (x ∷ xs) = nothing_shares row xs

share_empty : (row : List Bool) → share_flag row [] ≡ false
share_empty [] = refl
share_empty (b ∷ row) = refl

pub joined_length : (row other : List Bool) → length (joined row other) ≡ length row
joined_length [] [] = refl
joined_length [] (b ∷ other) = refl
joined_length (a ∷ row) [] = refl
joined_length (a ∷ row) (b ∷ other) = ap suc (joined_length row other)

pub share_joined : (row more other : List Bool) → length more ≤ length row → share_flag (joined row more) other ≡ (share_flag row other || share_flag more other)
share_joined [] [] other h = refl
share_joined [] (b ∷ more) other h = absurd (omega arith)
share_joined (a ∷ row) [] other h = sym (or_false (share_flag (a ∷ row) other))
share_joined (a ∷ row) (b ∷ more) [] h = refl
share_joined (a ∷ row) (b ∷ more) (c ∷ other) h =
    (λ i. and_or a b c i || share_joined row more other (omega arith) i)
    ∙ or_both (a && c) (b && c) (share_flag row other) (share_flag more other)

pub joined_nothing : (row : List Bool) → joined row [] ≡ row
joined_nothing [] = refl
joined_nothing (b ∷ row) = refl

-- one more flag is joined
pub join_step : (row other : List Bool) (i : ℕ) (d e : Bool) → i < length other → length other ≤ length row
    → set (joined row (take i other)) i (get_or (joined row (take i other)) i d || get_or other i e) ≡ joined row (take (suc i) other)
join_step row [] i d e h l = absurd (omega arith)
join_step [] (b ∷ other) i d e h l = absurd (omega arith)
join_step (a ∷ row) (b ∷ other) zero d e h l = ap (λ r. (a || b) ∷ r) (sym (joined_nothing row))
join_step (a ∷ row) (b ∷ other) (suc i) d e h l = ap (λ r. (a || b) ∷ r) (join_step row other i d e (omega arith) (omega arith))

pub join_turn : (old row other : List Bool) (i : ℕ) (flag : Bool) → i < length other → length other ≤ length old → row ≡ joined old (take i other)
    → flag ≡ (get_or row i false || get_or other i false) → set row i flag ≡ joined old (take (i + 1) other)
join_turn old row other i flag h l is e =
    let next : suc i ≡ i + 1 = omega arith in
    (λ j. set row i (e j)) ∙ (λ j. set (is j) i (get_or (is j) i false || get_or other i false)) ∙ join_step old other i false false h l
    ∙ ap (λ n. joined old (take n other)) next

-- the rows before this place are widened, and those from it on are as they were
abbrev pub Widening : {V : Type 0} → (V → List Bool) → ℕ → List Bool → List V → ℕ → List V → Type 0
Widening items place through old n rows =
    each items rows ≡ each (widened place through) (each items (take n old)) ++ each items (drop n old)

module _ {V : Type 0} (items : V → List Bool) (place : ℕ) (through : List Bool) where
  heads : {X : Type 0} (x y : X) (xs ys : List X) → x ∷ xs ≡ y ∷ ys → x ≡ y
  heads x y xs ys e = cc

  tails : {X : Type 0} (x y : X) (xs ys : List X) → x ∷ xs ≡ y ∷ ys → xs ≡ ys
  tails x y xs ys e = cc

  abbrev W : ℕ → List V → List (List Bool)
  W n old = each (widened place through) (each items (take n old)) ++ each items (drop n old)

  widening_step : (old rows : List V) (n : ℕ) (new d : V) → n < length old → each items rows ≡ W n old → items new ≡ widened place through (items (get_or rows n d))
      → each items (set rows n new) ≡ W (suc n) old
  widening_step [] rows n new d h e is = absurd (omega arith)
  widening_step (o ∷ old) [] zero new d h e is = absurd (cc)
  widening_step (o ∷ old) [] (suc n) new d h e is = absurd (cc)
  widening_step (o ∷ old) (r ∷ rows) zero new d h e is =
      (λ i. is i ∷ tails (items r) (items o) (each items rows) (each items old) e i)
      ∙ ap (λ x. widened place through x ∷ each items old) (heads (items r) (items o) (each items rows) (each items old) e)
  widening_step (o ∷ old) (r ∷ rows) (suc n) new d h e is =
      λ i. heads (items r) (widened place through (items o)) (each items rows) (W n old) e i
      ∷ widening_step old rows n new d (omega arith) (tails (items r) (widened place through (items o)) (each items rows) (W n old) e) is i

  pub widening_turn : (old rows : List V) (n : ℕ) (new d : V) → n < length old → Widening items place through old n rows
      → items new ≡ widened place through (items (get_or rows n d)) → Widening items place through old (n + 1) (set rows n new)
  widening_turn old rows n new d h e is =
      let next : suc n ≡ n + 1 = omega arith in
      subst (λ k. Widening items place through old k (set rows n new)) next (widening_step old rows n new d h e is)

  pub widening_ends : (old rows : List V) (n : ℕ) → length old ≤ n → Widening items place through old n rows → each items rows ≡ each (widened place through) (each items old)
  widening_ends old rows n h e = e ∙ whole old n h where
    whole : (old : List V) (n : ℕ) → length old ≤ n → W n old ≡ each (widened place through) (each items old)
    whole [] zero h = refl
    whole [] (suc n) h = refl
    whole (o ∷ old) zero h = absurd (omega arith)
    whole (o ∷ old) (suc n) h = ap (λ rs. widened place through (items o) ∷ rs) (whole old n (omega arith))

  -- the row at the place is as it was
  pub widening_here : (old rows : List V) (n : ℕ) (d : V) → n < length old → Widening items place through old n rows
      → AllByRecursion (λ row. length through ≤ length (items row)) old → length through ≤ length (items (get_or rows n d))
  widening_here [] rows n d h e all = absurd (omega arith)
  widening_here (o ∷ old) [] zero d h e all = absurd (cc)
  widening_here (o ∷ old) [] (suc n) d h e all = absurd (cc)
  widening_here (o ∷ old) (r ∷ rows) zero d h e all =
      subst (λ x. length through ≤ length x) (sym (heads (items r) (items o) (each items rows) (each items old) e)) all.0
  widening_here (o ∷ old) (r ∷ rows) (suc n) d h e all =
      widening_here old rows n d (omega arith) (tails (items r) (widened place through (items o)) (each items rows) (W n old) e) all.1

-- ---- the place of a name

one_on : {X : Type 0} (x : X) (xs : List X) (i : ℕ) → slice_get (x ∷ xs) (1 + i) ≡ slice_get xs i
one_on x xs i = let same : 1 + i ≡ suc i = omega arith in ap (slice_get (x ∷ xs)) same

pub found_named : {Y : Type 0} (f : List ℕ → Y) (nodes : List Node) (name : List ℕ) → is_node nodes name ≡ true
    → slice_get (each f (names_of nodes)) (position_or_len (bytes_eq name) (names_of nodes)) ≡ Some (f name)
found_named f [] name h = absurd (cc)
found_named f (node ∷ nodes) name h =
    elim (bytes_eq name node.name) as (λ t. bytes_eq name node.name ≡ t → (t || is_node nodes name) ≡ true
    → slice_get (f node.name ∷ each f (names_of nodes)) (cond (not t) (1 + position_or_len (bytes_eq name) (names_of nodes)) 0) ≡ Some (f name)) [
      | true ↦ λ same k. ap (λ n. Some (f n)) (sym ((bytes_eq-Decides name node.name).0 same))
      | false ↦ λ same k. one_on (f node.name) (each f (names_of nodes)) _ ∙ found_named f nodes name k
    ] refl h

pub missing_named : {Y : Type 0} (f : List ℕ → Y) (nodes : List Node) (name : List ℕ) → is_node nodes name ≡ false
    → slice_get (each f (names_of nodes)) (position_or_len (bytes_eq name) (names_of nodes)) ≡ None
missing_named f [] name h = refl
missing_named f (node ∷ nodes) name h =
    elim (bytes_eq name node.name) as (λ t. (t || is_node nodes name) ≡ false
    → slice_get (f node.name ∷ each f (names_of nodes)) (cond (not t) (1 + position_or_len (bytes_eq name) (names_of nodes)) 0) ≡ None) [
      | true ↦ λ k. absurd (cc)
      | false ↦ λ k. one_on (f node.name) (each f (names_of nodes)) _ ∙ missing_named f nodes name k
    ] h

-- ---- names that no database has

not_named : (q : Node → Bool) (nodes : List Node) (a : List ℕ) → is_node nodes a ≡ false → list_any (λ node. bytes_eq a node.name && q node) nodes ≡ false
not_named q [] a h = refl
not_named q (node ∷ nodes) a h =
    let both = neither (bytes_eq a node.name) (is_node nodes a) h in
    λ i. (both.0 i && q node) || not_named q nodes a both.1 i

module _ (nodes : List Node) where
  pub lost_start : (a : List ℕ) → is_node nodes a ≡ false → (way : List (List ℕ)) (b : List ℕ) → by_way (names_it nodes) way a b ≡ false
  lost_start a h [] b =
      ap (λ t. is_node nodes b && t) (not_named (λ node. is_among (named_in node.form) b) nodes a h) ∙ and_false (is_node nodes b)
  lost_start a h (c ∷ way) b = λ i. lost_start a h way b i || (lost_start a h way c i && by_way (names_it nodes) way c b)

  pub lost_end : (b : List ℕ) → is_node nodes b ≡ false → (way : List (List ℕ)) (a : List ℕ) → by_way (names_it nodes) way a b ≡ false
  lost_end b h [] a = ap (λ t. t && list_any (λ node. bytes_eq a node.name && is_among (named_in node.form) b) nodes) h
  lost_end b h (c ∷ way) a =
      (λ i. lost_end b h way a i || (by_way (names_it nodes) way a c && lost_end b h way c i)) ∙ and_false (by_way (names_it nodes) way a c)

  -- a name of no database leads to none of these
  led_nowhere : (a : List ℕ) → is_node nodes a ≡ false → (some : List Node) → is_node some a ≡ false → each (leads_to nodes a) (names_of some) ≡ each (λ _. false) some
  led_nowhere a h [] k = refl
  led_nowhere a h (node ∷ some) k =
      let both = neither (bytes_eq a node.name) (is_node some a) k in
      λ i. (both.0 i || lost_start a h (names_of nodes) node.name i) ∷ led_nowhere a h some both.1 i

  pub row_is : (name : List ℕ) (r : Option (List Bool)) → r ≡ slice_get (rows_over nodes (names_of nodes)) (position_or_len (bytes_eq name) (names_of nodes))
      → unwrap_or r [] ≡ led_row nodes name
  row_is name r e =
      elim (is_node nodes name) as (λ t. is_node nodes name ≡ t → unwrap_or r [] ≡ cond t (each (leads_to nodes name) (names_of nodes)) []) [
        | true ↦ λ is. ap (λ o. unwrap_or o []) (e ∙ found_named (λ one. each (leads_by nodes (names_of nodes) one) (names_of nodes)) nodes name is)
        | false ↦ λ is. ap (λ o. unwrap_or o []) (e ∙ missing_named (λ one. each (leads_by nodes (names_of nodes) one) (names_of nodes)) nodes name is)
      ] refl

  pub row_at : {V : Type 0} (items : V → List Bool) (rows : List V) (name : List ℕ) (place : ℕ) (row : V) → each items rows ≡ rows_over nodes (names_of nodes)
      → place ≡ position_or_len (bytes_eq name) (names_of nodes) → place < length rows → row ≡ get_or rows place row → items row ≡ led_row nodes name
  row_at items rows name place row are at within is =
      row_is name (Some (items row))
      (sym (ap (option_map items) (slice_get_read rows (length rows) place row refl within is))
      ∙ sym (slice_get-map items rows place) ∙ (λ i. slice_get (are i) (at i)))

  pub no_row_at : {V : Type 0} (items : V → List Bool) (rows : List V) (name : List ℕ) (place : ℕ) → each items rows ≡ rows_over nodes (names_of nodes)
      → place ≡ position_or_len (bytes_eq name) (names_of nodes) → length rows ≤ place → [] ≡ led_row nodes name
  no_row_at items rows name place are at past =
      row_is name None
      (sym (ap (option_map items) (slice_get_past rows place past)) ∙ sym (slice_get-map items rows place) ∙ (λ i. slice_get (are i) (at i)))

  same_or : (a b : Bool) → (a || (a || b)) ≡ (a || b)
  same_or true b = refl
  same_or false b = refl

  pub flag_led : (name other : List ℕ)
      → (bytes_eq name other || unwrap_or (slice_get (led_row nodes name) (position_or_len (bytes_eq other) (names_of nodes))) false) ≡ leads_to nodes name other
  flag_led name other =
      let place : ℕ = position_or_len (bytes_eq other) (names_of nodes) in
      elim (is_node nodes name) as (λ t. is_node nodes name ≡ t
      → (bytes_eq name other || unwrap_or (slice_get (cond t (each (leads_to nodes name) (names_of nodes)) []) place) false) ≡ leads_to nodes name other) [
        | true ↦ λ is. elim (is_node nodes other) as (λ t. is_node nodes other ≡ t
            → (bytes_eq name other || unwrap_or (slice_get (each (leads_to nodes name) (names_of nodes)) place) false) ≡ leads_to nodes name other) [
              | true ↦ λ there. ap (λ o. bytes_eq name other || unwrap_or o false) (found_named (leads_to nodes name) nodes other there)
                  ∙ same_or (bytes_eq name other) (reaches nodes name other)
              | false ↦ λ there. ap (λ o. bytes_eq name other || unwrap_or o false) (missing_named (leads_to nodes name) nodes other there)
                  ∙ ap (λ b. bytes_eq name other || b) (sym (lost_end other there (names_of nodes) name))
            ] refl
        | false ↦ λ is. ap (λ b. bytes_eq name other || b) (sym (lost_start name is (names_of nodes) other))
      ] refl

  -- the row of a name shares what its flags do
  share_row : (row : List Bool) (name : List ℕ) → share_flag row (led_row nodes name) ≡ share_flag row (each (leads_to nodes name) (names_of nodes))
  share_row row name =
      elim (is_node nodes name) as (λ t. is_node nodes name ≡ t → share_flag row (cond t (each (leads_to nodes name) (names_of nodes)) [])
      ≡ share_flag row (each (leads_to nodes name) (names_of nodes))) [
        | true ↦ λ is. refl
        | false ↦ λ is. share_empty row ∙ sym (ap (share_flag row) (led_nowhere name is nodes is) ∙ share_nothing row nodes)
      ] refl

  row_shares : (row : List Bool) (name : List ℕ) → share_flag (led_row nodes name) row ≡ share_flag (each (leads_to nodes name) (names_of nodes)) row
  row_shares row name =
      elim (is_node nodes name) as (λ t. is_node nodes name ≡ t → share_flag (cond t (each (leads_to nodes name) (names_of nodes)) []) row
      ≡ share_flag (each (leads_to nodes name) (names_of nodes)) row) [
        | true ↦ λ is. refl
        | false ↦ λ is. sym (ap (λ r. share_flag r row) (led_nowhere name is nodes is) ∙ nothing_shares row nodes)
      ] refl

  pub rows_meet : (one other : List ℕ) → share_flag (led_row nodes one) (led_row nodes other) ≡ names_meet nodes one other
  rows_meet one other =
      row_shares (led_row nodes other) one ∙ share_row (each (leads_to nodes one) (names_of nodes)) other
      ∙ share_each (leads_to nodes one) (leads_to nodes other) (names_of nodes)

  pub each_length : {X Y : Type 0} (f : X → Y) (xs : List X) → length (each f xs) ≡ length xs
  each_length f [] = refl
  each_length f (x ∷ xs) = ap suc (each_length f xs)

  pub row_short : (name : List ℕ) → length (led_row nodes name) ≤ length nodes
  row_short name =
      elim (is_node nodes name) as (λ t. length (cond t (each (leads_to nodes name) (names_of nodes)) []) ≤ length nodes) [
        | true ↦ subst (λ n. n ≤ length nodes) (sym (each_length (leads_to nodes name) (names_of nodes) ∙ each_length (λ node. node.name) nodes)) (omega arith)
        | false ↦ omega arith
      ]

  -- the flags of the names before, and those that are left
  abbrev pub Meeting : List Bool → List (List ℕ) → Bool → Type 0
  Meeting led rest all = (list_any (λ n. share_flag led (led_row nodes n)) rest || two_meet nodes rest) ≡ all

  pub meeting_starts : (names : List (List ℕ)) → Meeting (each (λ _. false) nodes) names (two_meet nodes names)
  meeting_starts names =
      ap (λ b. b || two_meet nodes names)
      (any_never (λ n. share_flag (each (λ _. false) nodes) (led_row nodes n)) (λ n. nothing_shares (led_row nodes n) nodes) names)

  pub meeting_found : (led : List Bool) (rest tail : List (List ℕ)) (name : List ℕ) (all : Bool) → rest ≡ name ∷ tail
      → share_flag led (led_row nodes name) ≡ true → Meeting led rest all → true ≡ all
  meeting_found led rest tail name all whole is so_far =
      sym (ap (λ b. (b || list_any (λ n. share_flag led (led_row nodes n)) tail) || two_meet nodes (name ∷ tail)) is)
      ∙ sym (ap (λ ns. list_any (λ n. share_flag led (led_row nodes n)) ns || two_meet nodes ns) whole) ∙ so_far

  pub meeting_turn : (led new : List Bool) (rest tail : List (List ℕ)) (name : List ℕ) (all : Bool) → rest ≡ name ∷ tail
      → length led ≡ length nodes → new ≡ joined led (led_row nodes name)
      → share_flag led (led_row nodes name) ≡ false → Meeting led rest all → Meeting new tail all
  meeting_turn led new rest tail name all whole long is none so_far =
      let old : (List ℕ → Bool) = λ n. share_flag led (led_row nodes n) in
      let more : (List ℕ → Bool) = λ n. share_flag (led_row nodes name) (led_row nodes n) in
      let one : ((n : List ℕ) → share_flag new (led_row nodes n) ≡ (old n || more n)) =
      λ n. ap (λ r. share_flag r (led_row nodes n)) is ∙ share_joined led (led_row nodes name) (led_row nodes n) (subst (λ k. length (led_row nodes name) ≤ k) (sym long) (row_short name)) in
      ap (λ b. b || two_meet nodes tail)
      (any_same (λ n. share_flag new (led_row nodes n)) (λ n. old n || more n) one tail
      ∙ any_or old more tail ∙ ap (λ b. list_any old tail || b) (any_same more (names_meet nodes name) (rows_meet name) tail))
      ∙ or_assoc (list_any old tail) (list_any (names_meet nodes name) tail) (two_meet nodes tail)
      ∙ sym (ap (λ b. (b || list_any old tail) || two_meet nodes (name ∷ tail)) none)
      ∙ sym (ap (λ ns. list_any old ns || two_meet nodes ns) whole) ∙ so_far

  -- ---- one more on the way

  or_inner : (a b c : Bool) → (a || (b || c)) ≡ (b || (a || c))
  or_inner true b c = sym (or_true b)
  or_inner false b c = refl

  pub leads_step : (c : List ℕ) (way : List (List ℕ)) (a b : List ℕ)
      → cond (leads_by nodes way a c) (leads_by nodes way a b || leads_by nodes way c b) (leads_by nodes way a b) ≡ leads_by nodes (c ∷ way) a b
  leads_step c way a b =
      elim (bytes_eq a c) as (λ t. bytes_eq a c ≡ t
      → cond (t || by_way (names_it nodes) way a c) (leads_by nodes way a b || leads_by nodes way c b) (leads_by nodes way a b) ≡ leads_by nodes (c ∷ way) a b) [
        | true ↦ λ same.
            let is : a ≡ c = (bytes_eq-Decides a c).0 same in
            subst (λ d. (leads_by nodes way a b || leads_by nodes way d b) ≡ (bytes_eq a b || (by_way (names_it nodes) way a b || (by_way (names_it nodes) way a d && by_way (names_it nodes) way d b)))) is
            (itself (bytes_eq a b) (by_way (names_it nodes) way a b) (by_way (names_it nodes) way a a))
        | false ↦ λ same.
            elim (by_way (names_it nodes) way a c) as (λ u. by_way (names_it nodes) way a c ≡ u
            → cond u (leads_by nodes way a b || leads_by nodes way c b) (leads_by nodes way a b)
            ≡ (bytes_eq a b || (by_way (names_it nodes) way a b || (u && by_way (names_it nodes) way c b)))) [
              | true ↦ λ goes. elim (bytes_eq c b) as (λ v. bytes_eq c b ≡ v
                  → (leads_by nodes way a b || (v || by_way (names_it nodes) way c b)) ≡ (bytes_eq a b || (by_way (names_it nodes) way a b || by_way (names_it nodes) way c b))) [
                    | true ↦ λ too.
                        let there : by_way (names_it nodes) way a b ≡ true = ap (by_way (names_it nodes) way a) (sym ((bytes_eq-Decides c b).0 too)) ∙ goes in
                        or_true (leads_by nodes way a b) ∙ sym (ap (λ t. bytes_eq a b || (t || by_way (names_it nodes) way c b)) there ∙ or_true (bytes_eq a b))
                    | false ↦ λ too. or_assoc (bytes_eq a b) (by_way (names_it nodes) way a b) (by_way (names_it nodes) way c b)
                  ] refl
              | false ↦ λ goes. ap (λ t. bytes_eq a b || t) (sym (or_false (by_way (names_it nodes) way a b)))
            ] refl
      ] refl where
        itself : (s r l : Bool) → ((s || r) || (s || r)) ≡ (s || (r || (l && r)))
        itself true r l = refl
        itself false true l = refl
        itself false false l = sym (and_false l)

  -- one row, where it gets those of the row at a place
  widened_row : (place : ℕ) (c : List ℕ) (way : List (List ℕ)) → slice_get (names_of nodes) place ≡ Some c → (one : List ℕ)
      → widened place (each (leads_by nodes way c) (names_of nodes)) (each (leads_by nodes way one) (names_of nodes)) ≡ each (leads_by nodes (c ∷ way) one) (names_of nodes)
  widened_row place c way at one =
      let row : List Bool = each (leads_by nodes way one) (names_of nodes) in
      let through : List Bool = each (leads_by nodes way c) (names_of nodes) in
      ap (λ o. cond (unwrap_or o false) (joined row through) row) (get_each (leads_by nodes way one) (names_of nodes) place c at)
      ∙ either (leads_by nodes way one c)
      ∙ each_same (λ b. cond (leads_by nodes way one c) (leads_by nodes way one b || leads_by nodes way c b) (leads_by nodes way one b)) (leads_by nodes (c ∷ way) one) (leads_step c way one) (names_of nodes) where
        get_each : {X Y : Type 0} (f : X → Y) (xs : List X) (i : ℕ) (x : X) → slice_get xs i ≡ Some x → slice_get (each f xs) i ≡ Some (f x)
        get_each f [] i x e = absurd (cc)
        get_each f (y ∷ xs) zero x e = let same : y ≡ x = cc in ap (λ z. Some (f z)) same
        get_each f (y ∷ xs) (suc i) x e = get_each f xs i x e

        either : (t : Bool) → cond t (joined (each (leads_by nodes way one) (names_of nodes)) (each (leads_by nodes way c) (names_of nodes))) (each (leads_by nodes way one) (names_of nodes))
            ≡ each (λ b. cond t (leads_by nodes way one b || leads_by nodes way c b) (leads_by nodes way one b)) (names_of nodes)
        either true = joined_each (leads_by nodes way one) (leads_by nodes way c) (names_of nodes)
        either false = refl

  pub widened_rows : (place : ℕ) (c : List ℕ) (way : List (List ℕ)) → slice_get (names_of nodes) place ≡ Some c
      → each (widened place (each (leads_by nodes way c) (names_of nodes))) (rows_over nodes way) ≡ rows_over nodes (c ∷ way)
  widened_rows place c way at =
      each_each (widened place (each (leads_by nodes way c) (names_of nodes))) (λ one. each (leads_by nodes way one) (names_of nodes)) (names_of nodes)
      ∙ each_same (λ one. widened place (each (leads_by nodes way c) (names_of nodes)) (each (leads_by nodes way one) (names_of nodes)))
      (λ one. each (leads_by nodes (c ∷ way) one) (names_of nodes)) (widened_row place c way at) (names_of nodes)

  -- the row at a place, and its name
  pub row_here : {V : Type 0} (items : V → List Bool) (rows : List V) (way : List (List ℕ)) (place : ℕ) (row : V) → each items rows ≡ rows_over nodes way
      → place < length rows → row ≡ get_or rows place row
      → (c : List ℕ) × (slice_get (names_of nodes) place ≡ Some c) × (items row ≡ each (leads_by nodes way c) (names_of nodes))
  row_here items rows way place row are within is =
      let here : Some (items row) ≡ option_map (λ one. each (leads_by nodes way one) (names_of nodes)) (slice_get (names_of nodes) place) =
      sym (ap (option_map items) (slice_get_read rows (length rows) place row refl within is)) ∙ sym (slice_get-map items rows place) ∙ ap (λ rs. slice_get rs place) are
      ∙ slice_get-map (λ one. each (leads_by nodes way one) (names_of nodes)) (names_of nodes) place in
      elim (slice_get (names_of nodes) place) as (λ r. Some (items row) ≡ option_map (λ one. each (leads_by nodes way one) (names_of nodes)) r
      → (c : List ℕ) × (r ≡ Some c) × (items row ≡ each (leads_by nodes way c) (names_of nodes))) [
        | None ↦ λ e. absurd (cc)
        | Some c ↦ λ e. (let same : items row ≡ each (leads_by nodes way c) (names_of nodes) = cc in (c, refl, same))
      ] here

  -- each row is as long as another
  pub rows_even : {V : Type 0} (items : V → List Bool) (way : List (List ℕ)) (c : List ℕ) (through : List Bool) → through ≡ each (leads_by nodes way c) (names_of nodes)
      → (rows : List V) (some : List (List ℕ)) → each items rows ≡ each (λ one. each (leads_by nodes way one) (names_of nodes)) some
      → AllByRecursion (λ row. length through ≤ length (items row)) rows
  rows_even items way c through is [] some e = tt
  rows_even items way c through is (row ∷ rows) [] e = absurd (cc)
  rows_even items way c through is (row ∷ rows) (one ∷ some) e =
      let here : items row ≡ each (leads_by nodes way one) (names_of nodes) = cc in
      let rest : each items rows ≡ each (λ one. each (leads_by nodes way one) (names_of nodes)) some = cc in
      let long : length through ≡ length (items row) =
      ap length is ∙ each_length (leads_by nodes way c) (names_of nodes) ∙ sym (ap length here ∙ each_length (leads_by nodes way one) (names_of nodes)) in
      (omega (arith, long), rows_even items way c through is rows some rest)

  pub rows_long : {V : Type 0} (items : V → List Bool) (rows : List V) (way : List (List ℕ)) → each items rows ≡ rows_over nodes way → length rows ≡ length nodes
  rows_long items rows way e =
      sym (each_length items rows) ∙ ap length e ∙ each_length (λ one. each (leads_by nodes way one) (names_of nodes)) (names_of nodes) ∙ each_length (λ node. node.name) nodes

  drop_at : {X : Type 0} (xs : List X) (i : ℕ) (x : X) → slice_get xs i ≡ Some x → drop i xs ≡ x ∷ drop (suc i) xs
  drop_at [] i x e = absurd (cc)
  drop_at (y ∷ xs) zero x e = let same : y ≡ x = cc in ap (λ z. z ∷ xs) same
  drop_at (y ∷ xs) (suc i) x e = drop_at xs i x e

  -- the rows at one place less
  pub rows_turn : {V : Type 0} (items : V → List Bool) (rows new : List V) (n place : ℕ) (row : V) (through : List Bool) → n ≡ suc place
      → each items rows ≡ rows_over nodes (drop n (names_of nodes)) → place < length rows → row ≡ get_or rows place row → through ≡ items row
      → each items new ≡ each (widened place through) (each items rows) → each items new ≡ rows_over nodes (drop place (names_of nodes))
  rows_turn items rows new n place row through next are within is copy made =
      let way : List (List ℕ) = drop n (names_of nodes) in
      let here = row_here items rows way place row are within is in
      made ∙ (λ i. each (widened place ((copy ∙ here.2) i)) (are i)) ∙ widened_rows place here.0 way here.1
      ∙ ap (rows_over nodes) (ap (λ m. here.0 ∷ drop m (names_of nodes)) next ∙ sym (drop_at (names_of nodes) place here.0 here.1))

  -- ---- the rows at first

  -- one of the databases is alone with its name
  pub one_named : (q : Node → Bool) (before after : List Node) (node : Node) → repeats (names_of (before ++ node ∷ after)) ≡ false
      → list_any (λ m. bytes_eq node.name m.name && q m) (before ++ node ∷ after) ≡ q node
  one_named q [] after node none =
      let both = neither (list_any (bytes_eq node.name) (names_of after)) (repeats (names_of after)) none in
      (λ i. ((bytes_eq-Decides node.name node.name).1 refl i && q node) || nowhere after both.0 i) ∙ or_false (q node) where
        nowhere : (after : List Node) → list_any (bytes_eq node.name) (names_of after) ≡ false → list_any (λ m. bytes_eq node.name m.name && q m) after ≡ false
        nowhere [] e = refl
        nowhere (m ∷ after) e =
            let both = neither (bytes_eq node.name m.name) (list_any (bytes_eq node.name) (names_of after)) e in
            λ i. (both.0 i && q m) || nowhere after both.1 i
  one_named q (m ∷ before) after node none =
      let both = neither (list_any (bytes_eq m.name) (names_of (before ++ node ∷ after))) (repeats (names_of (before ++ node ∷ after))) none in
      ap (λ b. (b && q m) || list_any (λ m. bytes_eq node.name m.name && q m) (before ++ node ∷ after)) (differs before both.0) ∙ one_named q before after node both.1 where
        swapped : (a b : List ℕ) → bytes_eq a b ≡ false → bytes_eq b a ≡ false
        swapped a b e = false_unless (bytes_eq b a) (λ same. (let off : true ≡ false = sym ((bytes_eq-Decides a b).1 (sym ((bytes_eq-Decides b a).0 same))) ∙ e in cc))

        differs : (before : List Node) → list_any (bytes_eq m.name) (names_of (before ++ node ∷ after)) ≡ false → bytes_eq node.name m.name ≡ false
        differs [] e = swapped m.name node.name (neither (bytes_eq m.name node.name) (list_any (bytes_eq m.name) (names_of after)) e).0
        differs (k ∷ before) e = differs before (neither (bytes_eq m.name k.name) (list_any (bytes_eq m.name) (names_of (before ++ node ∷ after))) e).1

  there_too : (before after : List Node) (node : Node) → is_node (before ++ node ∷ after) node.name ≡ true
  there_too [] after node = ap (λ b. b || is_node after node.name) ((bytes_eq-Decides node.name node.name).1 refl)
  there_too (m ∷ before) after node = ap (λ b. bytes_eq node.name m.name || b) (there_too before after node) ∙ or_true (bytes_eq node.name m.name)

  direct_row_is : (node : Node) → ((b : List ℕ) → list_any (λ m. bytes_eq node.name m.name && is_among (named_in m.form) b) nodes ≡ is_among (named_in node.form) b)
      → (before some : List Node) → nodes ≡ before ++ some → direct_row node some ≡ each (leads_by nodes [] node.name) (names_of some)
  direct_row_is node alone before [] whole = refl
  direct_row_is node alone before (other ∷ some) whole =
      let there : is_node nodes other.name ≡ true = ap (λ ns. is_node ns other.name) whole ∙ there_too before some other in
      λ i. (bytes_eq node.name other.name || (sym there i && sym (alone other.name) i))
      ∷ direct_row_is node alone (before ++ other ∷ []) some (whole ∙ sym (append_assoc before (other ∷ []) some)) i

  pub direct_rows_are : (before some : List Node) → nodes ≡ before ++ some → repeats (names_of nodes) ≡ false
      → each (λ node. direct_row node nodes) some ≡ each (λ one. each (leads_by nodes [] one) (names_of nodes)) (names_of some)
  direct_rows_are before [] whole none = refl
  direct_rows_are before (node ∷ some) whole none =
      let alone : ((b : List ℕ) → list_any (λ m. bytes_eq node.name m.name && is_among (named_in m.form) b) nodes ≡ is_among (named_in node.form) b) =
      λ b. ap (list_any (λ m. bytes_eq node.name m.name && is_among (named_in m.form) b)) whole
      ∙ one_named (λ m. is_among (named_in m.form) b) before some node (sym (ap (λ ns. repeats (names_of ns)) whole) ∙ none) in
      λ i. direct_row_is node alone [] nodes refl i ∷ direct_rows_are (before ++ node ∷ []) some (whole ∙ sym (append_assoc before (node ∷ []) some)) none i

  pub drop_all : (some : List Node) → drop (length some) (names_of some) ≡ []
  drop_all [] = refl
  drop_all (node ∷ some) = drop_all some
