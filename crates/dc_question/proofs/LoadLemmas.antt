-- Templates that are loaded.
use Rattle.std.proofs.Common.{◌≡◌, ◌≢◌, ℕ, true, Option, Some, List, [], ◌∷◌, map as each, refl, sym, ap, ◌∙◌, inl, inr}
use Rattle.std.specs.List.{All, AllByRecursion, flat_map}
use Rattle.std.specs.FinMap.{insert, empty}
use Rattle.std.specs.Option.{option_map_or}
use Rattle.std.proofs.lemmas.List.Elements.{All-nil, All-cons}
use Rattle.std.proofs.lemmas.List.Kept.{AllPairs-cons}
use Rattle.dc_text.specs.Maps.{AreDistinct as AllDiffer}
use Rattle.dc_item.specs.After.{after_at}
use Rattle.dc_item.specs.Item.{ItemParts}
use Rattle.dc_item.specs.declared.op.Op.TheVariants.{Put}
use Rattle.dc_template.specs.declared.kinds.Kind.{Kind}
use Rattle.dc_conf.specs.Plans.{IsOver, are_disjoint}
use Rattle.dc_layer.specs.State.{LayerState}
use Rattle.dc_store.specs.Plans.{look}
use Rattle.dc_store.specs.Batches.{Write, AreDistinct, AllDistinct, AreOver}
use Rattle.dc_template.specs.Stanzas.{Stanza}
use Rattle.dc_question.specs.Ownership.{kept_after, template_write, write_beside, binding, loaded_template, load_batch}
use Rattle.dc_question.specs.Questions.{QuestionContext, IsSetOver, question}
use Rattle.dc_question.specs.Readings.{kind_by}
use Rattle.dc_question.proofs.ApartLemmas.{apart_too, no_pairs}
use Rattle.dc_question.proofs.FieldLemmas.{of_fields}
use Rattle.dc_question.proofs.KindLemmas.{kind_reads, put_kept}

-- ---- the owners

abbrev pub with_owner : List ℕ → ItemParts → ItemParts
with_owner name item = record item { owners = insert item.owners name tt }

pub no_owners : (item : ItemParts) → item.owners ≡ empty → item ≡ record item { owners = empty }
no_owners item h = ap (λ s. record item { owners = s }) h

pub kept_owners : (old : Option ItemParts) (parts : ItemParts) → old ≡ Some parts → parts.owners ≡ option_map_or (λ parts. parts.owners) old empty
kept_owners old parts some = ap (λ o. option_map_or (λ parts. parts.owners) o empty) (sym some)

pub load_made : (t : Stanza) (old : Option ItemParts) (a b c : ItemParts) (fields : List (List ℕ × List ℕ)) (name : List ℕ) → fields ≡ t.fields → name ≡ t.name
    → a ≡ of_fields fields
    → b ≡ record a { owners = option_map_or (λ parts. parts.owners) old empty } → c ≡ with_owner name b → c ≡ loaded_template t old
load_made t old a b c fields name f n a' b' c' =
    c' ∙ (λ i. with_owner (n i) (b' i))
    ∙ ap (λ (x : ItemParts). with_owner t.name (record x { owners = option_map_or (λ parts. parts.owners) old empty }))
    (a' ∙ ap of_fields f)

-- ---- the write that puts a template

pub put_made : (ls : List LayerState) (at : QuestionContext) (t : Stanza) (old : Option ItemParts) (item : ItemParts) (name : List ℕ) (kind : Kind) → old ≡ look ls at.templates t.name
    → item ≡ loaded_template t old → kind_by (Some item) ≡ Some t.kind → name ≡ t.name → kind ≡ t.kind
    → record { plan = at.templates; name = name; kind = Some kind; op = Put item; reported_for = name ∷ [] } ≡ template_write ls at t.name (Put (loaded_template t (look ls at.templates t.name))) (t.name ∷ [])
put_made ls at t old item name kind o m k n is =
    let found : Option ItemParts = look ls at.templates t.name in
    let made : item ≡ loaded_template t found = m ∙ ap (loaded_template t) o in
    let tested : Some kind ≡ kind_by (kept_after found (after_at (Put (loaded_template t found)) found))
    = ap Some is ∙ sym k ∙ put_kept kind_by kind_reads (Put item) item found refl ∙ ap (λ i. kind_by (kept_after found (after_at (Put i) found))) made in
    λ i. record { plan = at.templates; name = n i; kind = tested i; op = Put (made i); reported_for = n i ∷ [] }

-- ---- two writes for each template

module _ (first second : Stanza → Write) where
  abbrev both : Stanza → List Write
  both t = first t ∷ second t ∷ []

  pairs_over : (count : ℕ) → ((t : Stanza) → IsOver (first t).plan count) → ((t : Stanza) → IsOver (second t).plan count) → (ts : List Stanza) → AreOver (flat_map both ts) count
  pairs_over count f s [] = All-nil (λ (w : Write). IsOver w.plan count)
  pairs_over count f s (t ∷ ts) =
      All-cons (λ (w : Write). IsOver w.plan count) (first t) (second t ∷ flat_map both ts) (f t)
      (All-cons (λ (w : Write). IsOver w.plan count) (second t) (flat_map both ts) (s t) (pairs_over count f s ts))

  module _ (f_named : (t : Stanza) → (first t).name ≡ t.name) (s_named : (t : Stanza) → (second t).name ≡ t.name) where
    others : (w : Write) (k : List ℕ) → w.name ≡ k → (ts : List Stanza) → AllByRecursion (λ other. other ≢ k) (each (λ t. t.name) ts) → All (AreDistinct w) (flat_map both ts)
    others w k is [] h = All-nil (AreDistinct w)
    others w k is (t ∷ ts) h =
        All-cons (AreDistinct w) (first t) (second t ∷ flat_map both ts) (inl (λ e. h.0 (sym (f_named t) ∙ sym e ∙ is)))
        (All-cons (AreDistinct w) (second t) (flat_map both ts) (inl (λ e. h.0 (sym (s_named t) ∙ sym e ∙ is))) (others w k is ts h.1))

    pairs_distinct : ((t : Stanza) → AreDistinct (first t) (second t)) → (ts : List Stanza) → AllDiffer (each (λ t. t.name) ts) → AllDistinct (flat_map both ts)
    pairs_distinct apart [] d = no_pairs AreDistinct
    pairs_distinct apart (t ∷ ts) d =
        AllPairs-cons AreDistinct (first t) (second t ∷ flat_map both ts)
        (All-cons (AreDistinct (first t)) (second t) (flat_map both ts) (apart t) (others (first t) t.name (f_named t) ts d.0))
        (AllPairs-cons AreDistinct (second t) (flat_map both ts) (others (second t) t.name (s_named t) ts d.0) (pairs_distinct apart ts d.1))

module _ (ls : List LayerState) (at : QuestionContext) (o : List ℕ) where
  abbrev put : Stanza → Write
  put t = template_write ls at t.name (Put (loaded_template t (look ls at.templates t.name))) (t.name ∷ [])

  abbrev bound : Stanza → Write
  bound t = write_beside ls at (put t ∷ []) t.name (binding t.name o (question ls at t.name))

  -- the writes that put templates of distinct names are on different items
  pub load_distinct : (ts : List Stanza) → are_disjoint at.config at.templates ≡ true → AllDiffer (each (λ t. t.name) ts) → AllDistinct (load_batch ls at o ts)
  load_distinct ts h d = pairs_distinct put bound (λ t. refl) (λ t. refl) (λ t. inr (apart_too at.config at.templates h)) ts d

  pub load_over : (ts : List Stanza) (count : ℕ) → IsSetOver at count → AreOver (load_batch ls at o ts) count
  load_over ts count over = pairs_over put bound count (λ t. over.templates) (λ t. over.config) ts
