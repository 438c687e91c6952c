-- The texts of prefixes, which a hash map holds.
use Rattle.std.proofs.Common.{◌≡◌, ℕ, Bool, true, false, cond, List, [], ◌∷◌, ◌++◌, map as each, Some, None, suc, ◌+◌, ◌<◌, length, take, get_or, refl, sym, ap, subst, ◌∙◌, append_assoc, arith}
use Rattle.std.specs.Prelude.{◌||◌, filter, if◌then◌else◌}
use Rattle.std.specs.List.{flat_map, list_any, IsDistinct, AllByRecursion}
use Rattle.std.specs.Map.{lookup, set_value}
use Rattle.std.specs.FinMap as map
use Rattle.std.specs.Str.{bytes_eq}
use Rattle.std.proofs.lemmas.List.{map-append, append-nil}
use Rattle.std.proofs.lemmas.List.Sums.{fold-append}
use Rattle.std.proofs.lemmas.Slice.Eq.{bytes_eq-Decides}
use Rattle.std.proofs.Math.Seq.{take-suc}
use Rattle.indexmap.specs.IndexMap.{insert_entry}
use Rattle.dc_text.specs.Lines.{text_of}
use Rattle.dc_text.proofs.LineLaws.{text_of-append}
use Rattle.dc_item.specs.Item.{ItemParts}
use Rattle.dc_item.specs.Printed.{record_lines}
use Rattle.dc_conf.specs.declared.spec.LayerSpec.{LayerSpec}
use Rattle.dc_layer.specs.declared.image.Image.{Image}
use Rattle.dc_layer.specs.Folders.{prefix}
use Rattle.dc_layer.specs.PrefixTexts.{empty_texts, with_records}
use Rattle.dc_layer.specs.State.{Table, touch, firsts, image_in, unless_nil, prefix_image}

-- the prefixes of the names, each where it comes first
abbrev pub prefixes : List (List ℕ) → List (List ℕ)
prefixes names = firsts (each prefix names)

-- a text with the printed record of the entry, if it has its prefix
abbrev with_record : List ℕ × ItemParts → List ℕ × List ℕ → List ℕ × List ℕ
with_record entry text = (text.0, if bytes_eq (prefix entry.0) text.0 then text.1 ++ text_of (record_lines entry) else text.1)

-- the files of the texts
abbrev pub files : LayerSpec → List (List ℕ × List ℕ) → List Image
files spec texts = each (λ t. image_in spec t.0 (unless_nil t.1)) texts

-- ---- one empty text for each prefix

-- one more name of a list
pub taken_more : {X : Type 0} (names : List X) (n : ℕ) (d : X) → n < length names → take (n + 1) names ≡ take n names ++ get_or names n d ∷ []
taken_more names n d within = let one : n + 1 ≡ suc n = omega arith in ap (λ m. take m names) one ∙ take-suc names n d within

prefixes_next : (names : List (List ℕ)) (name : List ℕ) → prefixes (names ++ name ∷ []) ≡ touch (prefixes names) (prefix name)
prefixes_next names name = ap firsts (map-append prefix names (name ∷ [])) ∙ fold-append touch [] (each prefix names) (prefix name ∷ [])

onto : (b : Bool) (front : List ℕ) (fronts more : List (List ℕ)) → front ∷ cond b fronts more ≡ cond b (front ∷ fronts) (front ∷ more)
onto true front fronts more = refl
onto false front fronts more = refl

-- an empty text that is put over an empty one changes nothing
blank_put : (k : List ℕ) (fronts : List (List ℕ)) → insert_entry bytes_eq (empty_texts fronts) k [] ≡ empty_texts (touch fronts k)
blank_put k [] = refl
blank_put k (f ∷ fs) = elim (bytes_eq k f) as (λ b. bytes_eq k f ≡ b → cond b ((f, []) ∷ empty_texts fs) ((f, []) ∷ insert_entry bytes_eq (empty_texts fs) k []) ≡ empty_texts (touch (f ∷ fs) k)) [
  | true ↦ λ t. ap (λ b. empty_texts (cond (b || list_any (bytes_eq k) fs) (f ∷ fs) ((f ∷ fs) ++ k ∷ []))) (sym t)
  | false ↦ λ t. ap (λ l. (f, []) ∷ l) (blank_put k fs)
      ∙ ap empty_texts (onto (list_any (bytes_eq k) fs) f fs (fs ++ k ∷ []))
      ∙ ap (λ b. empty_texts (cond (b || list_any (bytes_eq k) fs) (f ∷ fs) ((f ∷ fs) ++ k ∷ []))) (sym t)
] refl

-- the prefix of one more name
pub blank_next : (texts new : List (List ℕ × List ℕ)) (names : List (List ℕ)) (name k text : List ℕ) → texts ≡ empty_texts (prefixes names) → text ≡ [] → new ≡ insert_entry bytes_eq texts k text → k ≡ prefix name
    → new ≡ empty_texts (prefixes (names ++ name ∷ []))
blank_next texts new names name k text so_far none is key =
    is ∙ (λ i. insert_entry bytes_eq (so_far i) (key i) (none i)) ∙ blank_put (prefix name) (prefixes names) ∙ ap empty_texts (sym (prefixes_next names name))

-- ---- a record at the end of the text of its prefix

filled_one : (b : Bool) (entry : List ℕ × ItemParts) (text : List ℕ) (rest : List (List ℕ × ItemParts))
    → cond b (text ++ text_of (record_lines entry)) text ++ text_of (flat_map record_lines rest) ≡ text ++ text_of (flat_map record_lines (cond b (entry ∷ rest) rest))
filled_one true entry text rest =
    append_assoc text (text_of (record_lines entry)) (text_of (flat_map record_lines rest)) ∙ ap (λ t. text ++ t) (sym (text_of-append (record_lines entry) (flat_map record_lines rest)))
filled_one false entry text rest = refl

filled_each : (entry : List ℕ × ItemParts) (rest : List (List ℕ × ItemParts)) (texts : List (List ℕ × List ℕ))
    → each (with_records rest) (each (with_record entry) texts) ≡ each (with_records (entry ∷ rest)) texts
filled_each entry rest [] = refl
filled_each entry rest (t ∷ ts) = λ i.
    (t.0, filled_one (bytes_eq (prefix entry.0) t.0) entry t.1 (filter (λ e. bytes_eq (prefix e.0) t.0) rest) i) ∷ filled_each entry rest ts i

one_record : (b : Bool) (entry : List ℕ × ItemParts) (text : List ℕ) → cond b (text ++ text_of (record_lines entry)) text ≡ text ++ text_of (flat_map record_lines (cond b (entry ∷ []) []))
one_record true entry text = ap (λ t. text ++ t) (sym (text_of-append (record_lines entry) [] ∙ append-nil (text_of (record_lines entry))))
one_record false entry text = sym (append-nil text)

each_one : (entry : List ℕ × ItemParts) (texts : List (List ℕ × List ℕ)) → each (with_record entry) texts ≡ each (with_records (entry ∷ [])) texts
each_one entry [] = refl
each_one entry (t ∷ ts) = λ i. (t.0, one_record (bytes_eq (prefix entry.0) t.0) entry t.1 i) ∷ each_one entry ts i

-- one more entry of a walk
pub filled_next : (entry : List ℕ × ItemParts) (rest : List (List ℕ × ItemParts)) (old new : List (List ℕ × List ℕ)) → new ≡ each (with_records (entry ∷ [])) old → each (with_records rest) new ≡ each (with_records (entry ∷ rest)) old
filled_next entry rest old new is = ap (each (with_records rest)) (is ∙ sym (each_one entry old)) ∙ filled_each entry rest old

-- none is left
pub filled_all : (texts : List (List ℕ × List ℕ)) → each (with_records []) texts ≡ texts
filled_all [] = refl
filled_all (t ∷ ts) = λ i. (t.0, append-nil t.1 i) ∷ filled_all ts i

-- ---- the text that is found

-- the texts of other prefixes stay
other : (entry : List ℕ × ItemParts) (texts : List (List ℕ × List ℕ)) → AllByRecursion (λ k. bytes_eq (prefix entry.0) k ≡ false) (each (λ e. e.0) texts) → texts ≡ each (with_record entry) texts
other entry [] apart = refl
other entry (e ∷ es) apart = λ i. (e.0, cond (sym apart.0 i) (e.1 ++ text_of (record_lines entry)) e.1) ∷ other entry es apart.1 i

found_here : (entry : List ℕ × ItemParts) (text new : List ℕ) → new ≡ text ++ text_of (record_lines entry) → (texts : List (List ℕ × List ℕ)) → IsDistinct bytes_eq (each (λ e. e.0) texts)
    → Some text ≡ lookup (bytes_eq (prefix entry.0)) texts → set_value (bytes_eq (prefix entry.0)) texts new ≡ each (with_record entry) texts
unfolding IsDistinct
found_here entry text new is [] apart has = absurd (cc)
found_here entry text new is (e ∷ es) apart has =
    let front : List ℕ = prefix entry.0 in
    elim (bytes_eq front e.0) as (λ b. bytes_eq front e.0 ≡ b → Some text ≡ cond b (Some e.1) (lookup (bytes_eq front) es) → cond b ((e.0, new) ∷ es) (e ∷ set_value (bytes_eq front) es new) ≡ each (with_record entry) (e ∷ es)) [
      | true ↦ λ t here.
          let held : text ≡ e.1 = cc in
          let key : e.0 ≡ front = sym ((bytes_eq-Decides front e.0).0 t) in
          (λ i. (e.0, (is ∙ ap (λ x. x ++ text_of (record_lines entry)) held) i) ∷ other entry es (subst (λ (p : List ℕ). AllByRecursion (λ k. bytes_eq p k ≡ false) (each (λ e. e.0) es)) key apart.0) i)
          ∙ (λ i. (e.0, cond (sym t i) (e.1 ++ text_of (record_lines entry)) e.1) ∷ each (with_record entry) es)
      | false ↦ λ t there.
          (λ i. e ∷ found_here entry text new is es apart.1 there i)
          ∙ (λ i. (e.0, cond (sym t i) (e.1 ++ text_of (record_lines entry)) e.1) ∷ each (with_record entry) es)
    ] refl has

found_nowhere : (entry : List ℕ × ItemParts) (texts : List (List ℕ × List ℕ)) → None ≡ lookup (bytes_eq (prefix entry.0)) texts → texts ≡ each (with_record entry) texts
found_nowhere entry [] none = refl
found_nowhere entry (e ∷ es) none =
    let front : List ℕ = prefix entry.0 in
    elim (bytes_eq front e.0) as (λ b. bytes_eq front e.0 ≡ b → None ≡ cond b (Some e.1) (lookup (bytes_eq front) es) → e ∷ es ≡ each (with_record entry) (e ∷ es)) [
      | true ↦ λ t here. absurd (cc)
      | false ↦ λ t there. (λ i. (e.0, cond (sym t i) (e.1 ++ text_of (record_lines entry)) e.1) ∷ found_nowhere entry es there i)
    ] refl none

-- the text of the prefix gets the record
pub found_text : (entry : List ℕ × ItemParts) (front text made : List ℕ) → front ≡ prefix entry.0 → made ≡ text ++ text_of (record_lines entry) → (old new : List (List ℕ × List ℕ)) → IsDistinct bytes_eq (each (λ e. e.0) old)
    → Some text ≡ lookup (bytes_eq front) old → new ≡ set_value (bytes_eq front) old made → new ≡ each (with_records (entry ∷ [])) old
found_text entry front text made at is old new apart has set =
    set ∙ ap (λ p. set_value (bytes_eq p) old made) at ∙ found_here entry text made is old apart (has ∙ ap (λ p. lookup (bytes_eq p) old) at) ∙ each_one entry old

-- no text has the prefix
pub no_text : (entry : List ℕ × ItemParts) (front : List ℕ) → front ≡ prefix entry.0 → (old : List (List ℕ × List ℕ)) → None ≡ lookup (bytes_eq front) old → old ≡ each (with_records (entry ∷ [])) old
no_text entry front at old none = found_nowhere entry old (none ∙ ap (λ p. lookup (bytes_eq p) old) at) ∙ each_one entry old

-- ---- the files

-- one more file
pub files_next : (spec : LayerSpec) (images made : List Image) (image : Image) (text : List ℕ × List ℕ) (rest all : List (List ℕ × List ℕ)) → made ≡ images ++ image ∷ []
    → image ≡ image_in spec text.0 (unless_nil text.1) → all ≡ text ∷ rest → made ++ files spec rest ≡ images ++ files spec all
files_next spec images made image text rest all more is next =
    ap (λ l. l ++ files spec rest) more ∙ append_assoc images (image ∷ []) (files spec rest) ∙ ap (λ x. images ++ x ∷ files spec rest) is ∙ ap (λ l. images ++ files spec l) (sym next)

files_filled : (spec : LayerSpec) (entries : List (List ℕ × ItemParts)) (fronts : List (List ℕ))
    → files spec (each (with_records entries) (empty_texts fronts))
    ≡ each (λ front. image_in spec front (unless_nil (text_of (flat_map record_lines (filter (λ entry. bytes_eq (prefix entry.0) front) entries))))) fronts
files_filled spec entries [] = refl
files_filled spec entries (f ∷ fs) =
    ap (λ l. image_in spec f (unless_nil (text_of (flat_map record_lines (filter (λ entry. bytes_eq (prefix entry.0) f) entries)))) ∷ l) (files_filled spec entries fs)

-- the files of the prefixes
pub prefix_files : (spec : LayerSpec) (table : Table) (fronts : List (List ℕ)) (blank texts : List (List ℕ × List ℕ)) → blank ≡ empty_texts fronts → texts ≡ each (with_records (map.entries table)) blank
    → files spec texts ≡ each (prefix_image spec table) fronts
prefix_files spec table fronts blank texts empty is = ap (files spec) (is ∙ ap (each (with_records (map.entries table))) empty) ∙ files_filled spec (map.entries table) fronts
