-- What is seen of an item that was put, or lost a flag, in a row of writes.
use Rattle.std.proofs.Common.{◌≡◌, ℕ, Bool, true, false, not, List, [], ◌∷◌, Option, Some, None, is_some, refl, sym, ap, subst, ◌∙◌, inl, inr}
use Rattle.std.specs.Prelude.{◌⊎◌, unwrap_or, if◌then◌else◌}
use Rattle.std.specs.FinMap as map
use Rattle.std.specs.List.{All}
use Rattle.std.proofs.lemmas.List.Elements.{All-nil, All-cons}
use Rattle.dc_conf.specs.Trees.{Tree}
use Rattle.dc_item.proofs.AfterLemmas.{parts_eq-Decides}
use Rattle.dc_item.specs.After.{parts_eq}
use Rattle.dc_item.specs.Item.{ItemParts}
use Rattle.dc_item.specs.declared.op.After.TheVariants.{Same, Changed}
use Rattle.dc_item.specs.declared.op.Op.TheVariants.{Put, SetFlag}
use Rattle.dc_template.specs.declared.kinds.Kind.{Kind}
use Rattle.dc_store.proofs.TakenLemmas.{row_stays}
use Rattle.dc_store.proofs.TestLemmas.{taken_is, tests_apart}
use Rattle.dc_store.specs.Batches.{AreDistinct, Write, all_done, is_refused}
use Rattle.dc_store.specs.Plans.{StoreState, look, write}
use Rattle.dc_dump.proofs.MadeLemmas.{Makes, made_by, put_makes}

-- ---- a write of which an item is left

write_seen : (store : StoreState) (w : Write) (item : ItemParts) → Makes item w.op (look store.layers w.plan w.name) → is_refused store.layers w ≡ false
    → look (all_done store (w ∷ [])).layers w.plan w.name ≡ Some item
write_seen store w item makes taken = by_write (write store w.plan w.name w.kind w.op) refl where
  by_write : (o : Option StoreState) → write store w.plan w.name w.kind w.op ≡ o → look (unwrap_or o store).layers w.plan w.name ≡ Some item
  by_write None e = let bad : true ≡ false = sym (ap not (sym (taken_is store w.plan w.name w.kind w.op) ∙ ap is_some e)) ∙ taken in absurd (cc)
  by_write (Some new) e = (made_by w.name item w.kind w.plan store new w.op makes e).seen

-- ---- an item that is put

module _ (store : StoreState) (plan : Tree) (n : List ℕ) (k : Option Kind) (item : ItemParts) (names : List (List ℕ)) where
  abbrev the_put : Write
  the_put = record { plan = plan; name = n; kind = k; op = Put item; reported_for = names }

  pub put_seen : is_refused store.layers the_put ≡ false → look (all_done store (the_put ∷ [])).layers plan n ≡ Some item
  put_seen taken = write_seen store the_put item (put_makes item (look store.layers plan n)) taken

alone : (v w : Write) → AreDistinct v w → All (λ u. AreDistinct u w) (v ∷ [])
alone v w apart = All-cons (λ u. AreDistinct u w) v [] apart (All-nil (λ u. AreDistinct u w))

test_behind : (store : StoreState) (v w : Write) → AreDistinct v w → is_refused store.layers w ≡ false → is_refused (all_done store (v ∷ [])).layers w ≡ false
test_behind store v w apart taken = by_write (write store v.plan v.name v.kind v.op) refl where
  by_write : (o : Option StoreState) → write store v.plan v.name v.kind v.op ≡ o → is_refused (unwrap_or o store).layers w ≡ false
  by_write None e = taken
  by_write (Some new) e = tests_apart store new v w apart e ∙ taken

-- the first and the second of a row of two that put items
module _ (store : StoreState) (here there : Tree) (n : List ℕ) (j k : Option Kind) (first second : ItemParts) (names others : List (List ℕ)) where
  abbrev one : Write
  one = the_put store here n j first names

  abbrev two : Write
  two = the_put store there n k second others

  pub first_seen : AreDistinct two one → is_refused store.layers one ≡ false → look (all_done store (one ∷ two ∷ [])).layers here n ≡ Some first
  first_seen apart taken = row_stays (all_done store (one ∷ [])) (two ∷ []) one (alone two one apart) ∙ put_seen store here n j first names taken

  pub second_seen : AreDistinct one two → is_refused store.layers two ≡ false → look (all_done store (one ∷ two ∷ [])).layers there n ≡ Some second
  second_seen apart taken = put_seen (all_done store (one ∷ [])) there n k second others (test_behind store one two apart taken)

-- ---- a flag that is taken away

abbrev pub without_flag : ItemParts → List ℕ → ItemParts
without_flag item key = record item { flags = map.remove item.flags key }

flag_makes : (item : ItemParts) (key : List ℕ) → Makes (without_flag item key) (SetFlag key false) (Some item)
flag_makes item key = by_test (parts_eq (without_flag item key) item) refl where
  by_test : (b : Bool) → parts_eq (without_flag item key) item ≡ b → ((if b then Same else Changed (without_flag item key)) ≡ Changed (without_flag item key))
      ⊎ (((if b then Same else Changed (without_flag item key)) ≡ Same) × (Some item ≡ Some (without_flag item key)))
  by_test true e = inr (refl, ap (λ i. Some i) (sym ((parts_eq-Decides (without_flag item key) item).0 e)))
  by_test false e = inl refl

module _ (store : StoreState) (plan : Tree) (n : List ℕ) (k : Option Kind) (key : List ℕ) (item : ItemParts) (names : List (List ℕ)) where
  abbrev the_flag : Write
  the_flag = record { plan = plan; name = n; kind = k; op = SetFlag key false; reported_for = names }

  pub flag_seen : look store.layers plan n ≡ Some item → is_refused store.layers the_flag ≡ false → look (all_done store (the_flag ∷ [])).layers plan n ≡ Some (without_flag item key)
  flag_seen there taken = write_seen store the_flag (without_flag item key) (subst (Makes (without_flag item key) (SetFlag key false)) (sym there) (flag_makes item key)) taken
