-- Fields of a template, put in turn, each where none has its key.
use Rattle.std.proofs.Common.{◌≡◌, ℕ, ◌+◌, ◌<◌, length, get_or, take, Bool, true, false, cond, List, [], ◌∷◌, ◌++◌, Some, None, Option, Result, Ok, Err, IfOk, map as each, refl, sym, ap, ◌∙◌}
use Rattle.std.specs.Prelude.{is_some, not, option_map, option_and_then, codes, if◌then◌else◌}
use Rattle.std.specs.Ordering.{eq_by_cmp}
use Rattle.std.specs.Cmp.Lexicographic.{nat_list_cmp_total}
use Rattle.std.specs.FinMap.{get, insert, contains_key, from_entries, find, same_map, get-empty, get-from_entries, from_entries_push}
use Rattle.std.proofs.lemmas.List.{take_more}
use Rattle.dc_text.specs.Maps.{text_cmp}
use Rattle.dc_text.specs.Settled.{settled}
use Rattle.dc_text.proofs.MapLemmas.{exact_texts}
use Rattle.dc_item.specs.Item.{ItemParts, no_parts}
use Rattle.dc_item.proofs.ItemLemmas.{same_key}
use Rattle.dc_template.specs.declared.kinds.Kind.{Kind}
use Rattle.dc_template.specs.declared.kinds.Kind.TheVariants.{Str, Bool as BoolOf, Select, Multiselect, Password, Note, Txt, Error, Title}
use Rattle.dc_template.specs.Kinds.{kind_of, kind_word}
use Rattle.dc_template.specs.Stanzas.{Stanza, IsTemplate}
use Rattle.dc_question.specs.Ownership.{loaded_template, new_question}
use Rattle.dc_question.specs.Readings.{kind_by}

abbrev pub Fields : Type 0
Fields = List (List ℕ × List ℕ)

-- what stands under a key stays when an entry of another is put behind
other_key : (es : Fields) (k v q : List ℕ) → eq_by_cmp text_cmp q k ≡ false → find text_cmp q (es ++ (k, v) ∷ []) ≡ find text_cmp q es
other_key [] k v q h = ap (λ b. cond b (Some v) None) h
other_key (e ∷ es) k v q h = ap (cond (eq_by_cmp text_cmp q e.0) (Some e.1)) (other_key es k v q h)

-- what stands under a key is the first entry of it
found_stays : (es last : Fields) (q : List ℕ) → is_some (find text_cmp q es) ≡ true → find text_cmp q (es ++ last) ≡ find text_cmp q es
found_stays [] last q h = absurd (cc)
found_stays (e ∷ es) last q h =
    elim (eq_by_cmp text_cmp q e.0) as (λ b. is_some (cond b (Some e.1) (find text_cmp q es)) ≡ true → cond b (Some e.1) (find text_cmp q (es ++ last)) ≡ cond b (Some e.1) (find text_cmp q es)) [
      | true ↦ λ is. refl
      | false ↦ λ is. found_stays es last q is
    ] h

known_key : (es : Fields) (k v q : List ℕ) → is_some (find text_cmp k es) ≡ true → find text_cmp q (es ++ (k, v) ∷ []) ≡ find text_cmp q es
known_key es k v q h =
    elim (eq_by_cmp text_cmp q k) as (λ b. eq_by_cmp text_cmp q k ≡ b → find text_cmp q (es ++ (k, v) ∷ []) ≡ find text_cmp q es) [
      | true ↦ λ t. found_stays es ((k, v) ∷ []) q (ap (λ key. is_some (find text_cmp key es)) (same_key q k t) ∙ h)
      | false ↦ λ t. other_key es k v q t
    ] refl

none_from : {X : Type 0} (o : Option X) → is_some o ≡ false → o ≡ None
none_from None h = refl
none_from (Some x) h = absurd (cc)

-- an entry that is put behind others stands where none of them has its key
pub fields_push : (es : Fields) (k v : List ℕ) (has : Bool) → contains_key (from_entries {R = text_cmp} es) k ≡ has
    → from_entries {R = text_cmp} (es ++ (k, v) ∷ []) ≡ (if not has then insert (from_entries es) k v else from_entries es)
fields_push es k v false h = from_entries_push nat_list_cmp_total exact_texts es k v (sym (get-from_entries nat_list_cmp_total es k) ∙ none_from (get (from_entries es) k) h)
fields_push es k v true h =
    same_map nat_list_cmp_total exact_texts _ _ (λ q.
    get-from_entries nat_list_cmp_total (es ++ (k, v) ∷ []) q
    ∙ known_key es k v q (ap is_some (sym (get-from_entries nat_list_cmp_total es k)) ∙ h) ∙ sym (get-from_entries nat_list_cmp_total es q))

-- what stands under a key when each value is changed
pub find_each : (g : List ℕ → List ℕ) (es : Fields) (q : List ℕ) → find text_cmp q (each (λ f. (f.0, g f.1)) es) ≡ option_map g (find text_cmp q es)
find_each g [] q = refl
find_each g (e ∷ es) q =
    elim (eq_by_cmp text_cmp q e.0) as (λ b. cond b (Some (g e.1)) (find text_cmp q (each (λ f. (f.0, g f.1)) es)) ≡ option_map g (cond b (Some e.1) (find text_cmp q es))) [
      | true ↦ refl
      | false ↦ find_each g es q
    ]

abbrev settled_each : Fields → Fields
settled_each es = each (λ f. (f.0, settled f.1)) es

each_push : (es : Fields) (x : List ℕ × List ℕ) → settled_each (es ++ x ∷ []) ≡ settled_each es ++ (x.0, settled x.1) ∷ []
each_push [] x = refl
each_push (e ∷ es) x = ap (λ l. (e.0, settled e.1) ∷ l) (each_push es x)

-- the item of some fields
abbrev pub of_fields : Fields → ItemParts
of_fields es = record no_parts { fields = from_entries (each (λ field. (field.0, settled field.1)) es) }

-- an item with a field that is put where it has none
abbrev pub with_new : ItemParts → List ℕ → List ℕ → Bool → ItemParts
with_new item key value is_new = if is_new then record item { fields = insert item.fields key value } else item

with_pushed : (es : Fields) (k v : List ℕ) (is_new : Bool) → is_new ≡ not (contains_key (of_fields es).fields k) → with_new (of_fields es) k (settled v) is_new ≡ of_fields (es ++ (k, v) ∷ [])
with_pushed es k v true h = ap (λ m. record no_parts { fields = m }) (sym (fields_push (settled_each es) k (settled v) _ refl ∙ ap (λ b. if b then insert (from_entries (settled_each es)) k (settled v) else from_entries (settled_each es)) (sym h)) ∙ ap from_entries (sym (each_push es (k, v))))
with_pushed es k v false h = ap (λ m. record no_parts { fields = m }) (sym (fields_push (settled_each es) k (settled v) _ refl ∙ ap (λ b. if b then insert (from_entries (settled_each es)) k (settled v) else from_entries (settled_each es)) (sym h)) ∙ ap from_entries (sym (each_push es (k, v))))

-- one more field is put
pub field_more : (item new : ItemParts) (es : Fields) (i : ℕ) (x : List ℕ × List ℕ) (key written : List ℕ) (is_new : Bool) → item ≡ of_fields (take i es) → i < length es
    → x ≡ get_or es i x → key ≡ x.0 → written ≡ x.1 → is_new ≡ not (contains_key item.fields key) → new ≡ with_new item key (settled written) is_new
    → new ≡ of_fields (take (i + 1) es)
field_more item new es i x key written is_new is h at k v fresh made =
    let fresh' : is_new ≡ not (contains_key (of_fields (take i es)).fields x.0) = fresh ∙ (λ j. not (contains_key (is j).fields (k j))) in
    made ∙ (λ j. with_new (is j) (k j) (settled (v j)) is_new) ∙ with_pushed (take i es) x.0 x.1 is_new fresh'
    ∙ ap of_fields (ap (λ y. take i es ++ y ∷ []) at ∙ sym (take_more es i x h))

-- ---- the kind of a template that is loaded

settled_word : (k : Kind) → option_and_then kind_of (Some (settled (kind_word k))) ≡ Some k
settled_word Str = refl
settled_word BoolOf = refl
settled_word Select = refl
settled_word Multiselect = refl
settled_word Password = refl
settled_word Note = refl
settled_word Txt = refl
settled_word Error = refl
settled_word Title = refl

pub loaded_kind : (t : Stanza) (old : Option ItemParts) → IsTemplate t → kind_by (Some (loaded_template t old)) ≡ Some t.kind
loaded_kind t old is =
    ap (option_and_then kind_of)
    (get-from_entries nat_list_cmp_total (settled_each t.fields) (codes "type") ∙ find_each settled t.fields (codes "type")
    ∙ ap (option_map settled) (sym (get-from_entries nat_list_cmp_total t.fields (codes "type")) ∙ is.typed))
    ∙ settled_word t.kind

-- the kind of an item that is made
pub kind_made : {E : Type 0} (r : Result ItemParts E) (made : ItemParts) (k : Option Kind) → IfOk r (λ item. item ≡ made) → kind_by (Some made) ≡ k → IfOk r (λ item. kind_by (Some item) ≡ k)
kind_made (Ok item) made k is e = ap (λ i. kind_by (Some i)) is ∙ e
kind_made (Err error) made k is e = tt

-- ---- a new question

pub nothing_there : (key : List ℕ) → contains_key no_parts.fields key ≡ false
nothing_there key = ap is_some (get-empty text_cmp key)

pub question_made : (bare bound owned : ItemParts) (t o template owner : List ℕ) (is_new : Bool) → bare ≡ no_parts → template ≡ t → owner ≡ o
    → is_new ≡ not (contains_key bare.fields (codes "template")) → bound ≡ with_new bare (codes "template") (settled template) is_new
    → owned ≡ record bound { owners = insert bound.owners owner tt } → owned ≡ new_question t o
question_made bare bound owned t o template owner is_new b n w fresh made owns =
    let is_fresh : is_new ≡ true = fresh ∙ ap (λ (i : ItemParts). not (contains_key i.fields (codes "template"))) b ∙ ap not (nothing_there (codes "template")) in
    let bound' : bound ≡ with_new no_parts (codes "template") (settled t) true = made ∙ (λ j. with_new (b j) (codes "template") (settled (n j)) (is_fresh j)) in
    owns ∙ (λ j. record (bound' j) { owners = insert (bound' j).owners (w j) tt })
