-- The names that are seen with an owner are among those that the layers have for it.
use Rattle.std.proofs.Common.{◌≡◌, ℕ, Bool, true, false, cond, ◌||◌, List, [], ◌∷◌, Option, Some, None, is_some, refl, sym, ap, ◌∙◌}
use Rattle.std.specs.Prelude.{slice_get, option_and_then}
use Rattle.std.specs.Option.{option_or, option_map_or}
use Rattle.std.specs.List.{flat_map, filter, list_any}
use Rattle.std.specs.Ordering.{eq_by_cmp}
use Rattle.std.specs.Cmp.Lexicographic.{nat_list_cmp_total}
use Rattle.std.proofs.lemmas.List.Folds.{list_any-append}
use Rattle.std.proofs.lemmas.Slice.Eq.{bytes_eq-Decides}
use Rattle.std.proofs.lemmas.Map.Text.{is_eq-slice_cmp}
use Rattle.std.specs.FinMap.{get, find, entries, keys, contains_key, retain_keys, same_map, get-entries, get-retain_keys, contains_key-keys}
use Rattle.dc_text.specs.Maps.{set_of, text_cmp}
use Rattle.dc_text.proofs.MapLemmas.{exact_texts, get-set_of}
use Rattle.dc_item.specs.Item.{ItemParts}
use Rattle.dc_item.proofs.ItemLemmas.{keys-retain_keys}
use Rattle.dc_layer.specs.State.{LayerState, owned, owned_in}
use Rattle.dc_store.specs.Holders.{item_at, look_of}
use Rattle.dc_store.specs.Listings.{owned_at}
use Rattle.dc_conf.specs.Plans.{leaves}
use Rattle.dc_conf.specs.Trees.{Tree}
use Rattle.dc_store.specs.Plans.{look, names_at, is_owned, owned as seen_owned}
use Rattle.dc_store.proofs.Searches.{look_step}

-- the text is in the list
abbrev pub is_in : List ℕ → List (List ℕ) → Bool
is_in q texts = list_any (eq_by_cmp text_cmp q) texts

or_later : (a b : Bool) → b ≡ true → (a || b) ≡ true
or_later true b h = refl
or_later false b h = h

put_later : (b : Bool) (q x : List ℕ) (xs : List (List ℕ)) → is_in q xs ≡ true → is_in q (cond b (x ∷ xs) xs) ≡ true
put_later true q x xs h = or_later (eq_by_cmp text_cmp q x) (is_in q xs) h
put_later false q x xs h = h

-- ---- in one table

owned_found : (es : List (List ℕ × ItemParts)) (owner q : List ℕ) (item : ItemParts) → find text_cmp q es ≡ Some item → contains_key item.owners owner ≡ true → is_in q (owned_in es owner) ≡ true
owned_found [] owner q item f h = cc
owned_found (e ∷ es) owner q item f h = elim (eq_by_cmp text_cmp q e.0) as (λ b. eq_by_cmp text_cmp q e.0 ≡ b → cond b (Some e.1) (find text_cmp q es) ≡ Some item
    → is_in q (cond (contains_key e.1.owners owner) (e.0 ∷ owned_in es owner) (owned_in es owner)) ≡ true) [
      | true ↦ λ t f. let same : e.1 ≡ item = cc in
          ap (λ b. is_in q (cond b (e.0 ∷ owned_in es owner) (owned_in es owner))) (ap (λ (p : ItemParts). contains_key p.owners owner) same ∙ h) ∙ ap (λ b. b || is_in q (owned_in es owner)) t
      | false ↦ λ t f. put_later (contains_key e.1.owners owner) q e.0 (owned_in es owner) (owned_found es owner q item f h)
    ] refl f

owned_there : (ls : List LayerState) (owner q : List ℕ) (place : ℕ) (item : ItemParts) → item_at ls place q ≡ Some item → contains_key item.owners owner ≡ true → is_in q (owned_at ls owner place) ≡ true
owned_there ls owner q place item is h =
    elim (slice_get ls place) as (λ o. option_and_then (λ layer. get layer.table q) o ≡ Some item → is_in q (option_map_or (λ layer. owned layer.table owner) o []) ≡ true) [
      | None ↦ λ e. cc
      | Some layer ↦ λ e. owned_found (entries layer.table) owner q item (sym (get-entries layer.table q) ∙ e) h
    ] is

name_there : (ls : List LayerState) (q : List ℕ) (place : ℕ) (item : ItemParts) → item_at ls place q ≡ Some item → is_in q (names_at ls place) ≡ true
name_there ls q place item is =
    elim (slice_get ls place) as (λ o. option_and_then (λ layer. get layer.table q) o ≡ Some item → is_in q (option_map_or (λ layer. keys layer.table) o []) ≡ true) [
      | None ↦ λ e. cc
      | Some layer ↦ λ e. sym (contains_key-keys layer.table q) ∙ ap is_some e
    ] is

-- ---- in the layers of a base

-- a name whose item is seen is in the lists of the layers, where it is in that of the layer that has it
listed : (f : ℕ → List (List ℕ)) (ls : List LayerState) (q : List ℕ) (item : ItemParts) → ((place : ℕ) → item_at ls place q ≡ Some item → is_in q (f place) ≡ true)
    → (ps : List ℕ) → look_of ls ps q ≡ Some item → is_in q (flat_map f ps) ≡ true
listed f ls q item here [] e = cc
listed f ls q item here (p ∷ ps) e =
    list_any-append (eq_by_cmp text_cmp q) (f p) (flat_map f ps)
    ∙ elim (item_at ls p q) as (λ o. item_at ls p q ≡ o → option_or o (look_of ls ps q) ≡ Some item → (is_in q (f p) || is_in q (flat_map f ps)) ≡ true) [
      | None ↦ λ a e. or_later (is_in q (f p)) (is_in q (flat_map f ps)) (listed f ls q item here ps e)
      | Some x ↦ λ a e. let same : x ≡ item = cc in ap (λ b. b || is_in q (flat_map f ps)) (here p (a ∙ ap Some same))
    ] refl (sym (look_step ls p ps q) ∙ e)

in_both : (a b : List (List ℕ)) (q : List ℕ) → is_in q a ≡ true → is_in q b ≡ true → get (set_of a) q ≡ get (set_of b) q
in_both a b q x y = get-set_of a q ∙ ap (λ t. cond t (Some tt) None) (x ∙ sym y) ∙ sym (get-set_of b q)

pub same_text : (q k : List ℕ) → eq_by_cmp text_cmp q k ≡ true → q ≡ k
same_text q k t = (bytes_eq-Decides q k).0 (sym (is_eq-slice_cmp q k) ∙ t)

in_filter : (has : List ℕ → Bool) (q : List ℕ) (ks : List (List ℕ)) → has q ≡ true → is_in q ks ≡ true → is_in q (filter has ks) ≡ true
in_filter has q [] h e = cc
in_filter has q (k ∷ ks) h e = elim (eq_by_cmp text_cmp q k) as (λ b. eq_by_cmp text_cmp q k ≡ b → (b || is_in q ks) ≡ true → is_in q (cond (has k) (k ∷ filter has ks) (filter has ks)) ≡ true) [
  | true ↦ λ t e. ap (λ b. is_in q (cond b (k ∷ filter has ks) (filter has ks))) (ap has (sym (same_text q k t)) ∙ h) ∙ ap (λ b. b || is_in q (filter has ks)) t
  | false ↦ λ t e. put_later (has k) q k (filter has ks) (in_filter has q ks h e)
] refl e

-- a name whose item is seen with the owner is among those that have it
pub owned_listed : (ls : List LayerState) (plan : Tree) (owner q : List ℕ) → is_owned owner (look ls plan q) ≡ true → is_in q (seen_owned ls plan owner) ≡ true
owned_listed ls plan owner q has = by_item (look ls plan q) refl has where
  by_item : (o : Option ItemParts) → look ls plan q ≡ o → is_owned owner o ≡ true → is_in q (seen_owned ls plan owner) ≡ true
  by_item None e h = cc
  by_item (Some item) e h =
      let all = flat_map (names_at ls) (leaves plan) in
      let here : is_in q all ≡ true = listed (names_at ls) ls q item (λ place is. name_there ls q place item is) (leaves plan) e in
      in_filter (λ name. is_owned owner (look ls plan name)) q (keys (set_of all)) has
      (sym (contains_key-keys (set_of all) q) ∙ ap is_some (get-set_of all q) ∙ ap (λ b. is_some (cond b (Some tt) None)) here)

-- those that are seen with the owner, of all names and of those that the layers have for it
pub seen_with : (ls : List LayerState) (ps owner : List ℕ)
    → filter (λ name. is_owned owner (look_of ls ps name)) (keys (set_of (flat_map (owned_at ls owner) ps))) ≡ filter (λ name. is_owned owner (look_of ls ps name)) (keys (set_of (flat_map (names_at ls) ps)))
seen_with ls ps owner =
    let has : List ℕ → Bool = λ name. is_owned owner (look_of ls ps name) in
    let few : List (List ℕ) = flat_map (owned_at ls owner) ps in
    let all : List (List ℕ) = flat_map (names_at ls) ps in
    keys-retain_keys (set_of few) has
    ∙ ap keys (same_map nat_list_cmp_total exact_texts (retain_keys (set_of few) has) (retain_keys (set_of all) has) (λ q.
    get-retain_keys (set_of few) has q (λ x t. ap has (sym (exact_texts q x t)))
    ∙ elim (look_of ls ps q) as (λ o. look_of ls ps q ≡ o → cond (is_owned owner o) (get (set_of few) q) None ≡ cond (is_owned owner o) (get (set_of all) q) None) [
      | None ↦ λ e. refl
      | Some item ↦ λ e. elim (contains_key item.owners owner) as (λ b. contains_key item.owners owner ≡ b → cond b (get (set_of few) q) None ≡ cond b (get (set_of all) q) None) [
        | true ↦ λ h. in_both few all q (listed (owned_at ls owner) ls q item (λ place is. owned_there ls owner q place item is h) ps e) (listed (names_at ls) ls q item (λ place is. name_there ls q place item is) ps e)
        | false ↦ λ h. refl
      ] refl
    ] refl
    ∙ sym (get-retain_keys (set_of all) has q (λ x t. ap has (sym (exact_texts q x t))))))
    ∙ sym (keys-retain_keys (set_of all) has)

-- the same of the lists that a store makes of them
pub owned_seen : (ls all : List LayerState) (ps : List ℕ) (plan : Tree) (owner : List ℕ) (found names : List (List ℕ)) → ls ≡ all → ps ≡ leaves plan
    → found ≡ flat_map (owned_at ls owner) ps → names ≡ keys (set_of found) → filter (λ name. is_owned owner (look all plan name)) names ≡ seen_owned all plan owner
owned_seen ls all ps plan owner found names same base few once =
    (λ i. filter (λ name. is_owned owner (look_of (sym same i) (sym base i) name)) names)
    ∙ (ap (filter (λ name. is_owned owner (look_of ls ps name))) (once ∙ ap (λ l. keys (set_of l)) few)
    ∙ (seen_with ls ps owner ∙ (λ i. filter (λ name. is_owned owner (look_of (same i) (base i) name)) (keys (set_of (flat_map (names_at (same i)) (base i)))))))
