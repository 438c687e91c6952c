-- The kinds that writes to templates leave.
use Rattle.std.proofs.Common.{◌≡◌, ℕ, Bool, true, false, cond, not, List, [], ◌∷◌, Option, Some, None, is_some, refl, sym, ap, ◌∙◌}
use Rattle.std.specs.Prelude.{◌&&◌, ◌||◌, option_map, option_and_then, unwrap_or, codes, if◌then◌else◌}
use Rattle.std.specs.Option.{option_map_or, option_or}
use Rattle.std.specs.List.{find}
use Rattle.std.specs.Str.{bytes_eq}
use Rattle.std.specs.FinMap.{keys, get, insert, contains_key, empty, get-empty, get-insert}
use Rattle.std.specs.Cmp.Lexicographic.{nat_list_cmp_total}
use Rattle.std.proofs.lemmas.Slice.Eq.{bytes_eq-Decides}
use Rattle.std.proofs.lemmas.Map.Text.{is_eq-slice_cmp}
use Rattle.dc_text.specs.Bytes.{is_nil}
use Rattle.dc_text.specs.Maps.{Texts, text_cmp}
use Rattle.dc_item.specs.Item.{ItemParts}
use Rattle.dc_item.specs.After.{after_at, asked, parts_eq, effect_of}
use Rattle.dc_item.specs.declared.op.After.{After}
use Rattle.dc_item.specs.declared.op.After.TheVariants.{Same, Changed, Gone}
use Rattle.dc_item.specs.declared.op.Op.{Op}
use Rattle.dc_item.specs.declared.op.Op.TheVariants.{Put, SetField, DropField, SetFlag, SetVar, AddOwner, DropOwners}
use Rattle.dc_item.specs.declared.effect.Effect.TheVariants as effect
use Rattle.dc_item.proofs.AfterLemmas.{parts_eq-Decides}
use Rattle.dc_template.specs.declared.kinds.Kind.{Kind}
use Rattle.dc_conf.specs.Trees.{Tree}
use Rattle.dc_layer.specs.State.{LayerState}
use Rattle.dc_store.specs.Plans.{look, look_below, look_after, seen_after}
use Rattle.dc_store.specs.Batches.{Write, is_refused}
use Rattle.dc_question.specs.KindsLeft.{kind_left, with_kind, with_kinds, known_kind, item_kind, write_by, is_on_owners}
use Rattle.dc_question.specs.Ownership.{is_gone, kept_after, is_taken_on, template_then, write_beside}
use Rattle.dc_question.specs.Questions.{QuestionContext}
use Rattle.dc_template.specs.Kinds.{kind_of}
use Rattle.dc_question.specs.Readings.{kind_by, template_of}

-- ---- what is seen then

pub same_seen : {A : Type 0} (ls : List LayerState) (p : Tree) (name : List ℕ) (op : Op) (f : Option ItemParts → A) (item : Option ItemParts) (made : After)
    → item ≡ look ls p name → made ≡ after_at op item → made ≡ Same → f item ≡ f (look_after ls p name op)
same_seen ls p name op f item made found is same =
    ap (λ m. f (seen_after item (look_below ls p name) m)) (sym same ∙ is) ∙ ap (λ i. f (seen_after i (look_below ls p name) (after_at op i))) found

pub changed_seen : {A : Type 0} (ls : List LayerState) (p : Tree) (name : List ℕ) (op : Op) (f : Option ItemParts → A) (item : Option ItemParts) (made : After) (new : ItemParts)
    → item ≡ look ls p name → made ≡ after_at op item → made ≡ Changed new → f (Some new) ≡ f (look_after ls p name op)
changed_seen ls p name op f item made new found is changed =
    ap (λ m. f (seen_after item (look_below ls p name) m)) (sym changed ∙ is) ∙ ap (λ i. f (seen_after i (look_below ls p name) (after_at op i))) found

pub gone_seen : {A : Type 0} (ls : List LayerState) (p : Tree) (name : List ℕ) (op : Op) (f : Option ItemParts → A) (item below : Option ItemParts) (made : After)
    → item ≡ look ls p name → below ≡ look_below ls p name → made ≡ after_at op item → made ≡ Gone → f below ≡ f (look_after ls p name op)
gone_seen ls p name op f item below made found lower is gone =
    ap f lower ∙ ap (λ m. f (seen_after item (look_below ls p name) m)) (sym gone ∙ is) ∙ ap (λ i. f (seen_after i (look_below ls p name) (after_at op i))) found

-- ---- what is read of the fields of what is seen then

-- what is read of an item is read of its fields
abbrev pub ReadsFields : {A : Type 0} → (Option ItemParts → A) → Type 0
ReadsFields f = (i j : ItemParts) → i.fields ≡ j.fields → f (Some i) ≡ f (Some j)

pub kind_reads : ReadsFields kind_by
kind_reads i j e = ap (λ fields. option_and_then kind_of (get fields (codes "type"))) e

pub item_kind_reads : (ls : List LayerState) (at : QuestionContext) (kinds : Texts (Option Kind)) → ReadsFields (item_kind ls at kinds)
item_kind_reads ls at kinds i j e = ap (λ fields. option_and_then (known_kind ls at kinds) (get fields (codes "template"))) e

module _ {A : Type 0} (f : Option ItemParts → A) (reads : ReadsFields f) where
  put_made : (new : ItemParts) (item below : Option ItemParts) → f (Some new) ≡ f (seen_after item below (after_at (Put new) item))
  put_made new None below = refl
  put_made new (Some parts) below =
      elim (parts_eq new parts) as (λ b. parts_eq new parts ≡ b → f (Some new) ≡ f (seen_after (Some parts) below (if b then Same else Changed new))) [
        | true ↦ λ e. ap (λ i. f (Some i)) ((parts_eq-Decides new parts).0 e)
        | false ↦ λ e. refl
      ] refl

  -- an item that is put is read
  pub put_seen : (ls : List LayerState) (p : Tree) (name : List ℕ) (op : Op) (new : ItemParts) → op ≡ Put new → f (Some new) ≡ f (look_after ls p name op)
  put_seen ls p name op new is =
      put_made new (look ls p name) (look_below ls p name) ∙ ap (λ o. f (look_after ls p name o)) (sym is)

  pub put_kept : (op : Op) (new : ItemParts) (item : Option ItemParts) → op ≡ Put new → f (Some new) ≡ f (kept_after item (after_at op item))
  put_kept op new item is = by_item item ∙ ap (λ o. f (kept_after item (after_at o item))) (sym is) where
    by_item : (item : Option ItemParts) → f (Some new) ≡ f (kept_after item (after_at (Put new) item))
    by_item None = refl
    by_item (Some parts) =
        elim (parts_eq new parts) as (λ b. parts_eq new parts ≡ b → f (Some new) ≡ f (kept_after (Some parts) (if b then Same else Changed new))) [
          | true ↦ λ e. ap (λ i. f (Some i)) ((parts_eq-Decides new parts).0 e)
          | false ↦ λ e. refl
        ] refl

  -- what changes owners alone leaves the fields, where the item doesn't go
  stays_by : (op : Op) (parts : ItemParts) (below : Option ItemParts) (same gone : Bool) → (asked op parts).fields ≡ parts.fields
      → is_gone (if same then Same else if gone then Gone else Changed (asked op parts)) ≡ false
      → f (Some parts) ≡ f (seen_after (Some parts) below (if same then Same else if gone then Gone else Changed (asked op parts)))
  stays_by op parts below true gone e h = refl
  stays_by op parts below false true e h = cc
  stays_by op parts below false false e h = reads parts (asked op parts) (sym e)

  kept_by : (op : Op) (parts : ItemParts) (same gone : Bool) → (asked op parts).fields ≡ parts.fields
      → f (Some parts) ≡ f (kept_after (Some parts) (if same then Same else if gone then Gone else Changed (asked op parts)))
  kept_by op parts true gone e = refl
  kept_by op parts false true e = refl
  kept_by op parts false false e = reads parts (asked op parts) (sym e)

  owners_made : (op : Op) (item below : Option ItemParts) → is_on_owners op ≡ true → is_gone (after_at op item) ≡ false → f item ≡ f (seen_after item below (after_at op item))
  owners_made (Put i) item below on h = absurd (cc)
  owners_made (SetField k v) item below on h = absurd (cc)
  owners_made (DropField k) item below on h = absurd (cc)
  owners_made (SetFlag k b) item below on h = absurd (cc)
  owners_made (SetVar k v) item below on h = absurd (cc)
  owners_made (AddOwner o) None below on h = refl
  owners_made (AddOwner o) (Some parts) below on h = stays_by (AddOwner o) parts below (parts_eq (asked (AddOwner o) parts) parts) false refl h
  owners_made (DropOwners os) None below on h = refl
  owners_made (DropOwners os) (Some parts) below on h =
      stays_by (DropOwners os) parts below (parts_eq (asked (DropOwners os) parts) parts) (is_nil (keys (asked (DropOwners os) parts).owners)) refl h

  pub owners_kept : (op : Op) (item : Option ItemParts) → is_on_owners op ≡ true → f item ≡ f (kept_after item (after_at op item))
  owners_kept (Put i) item on = absurd (cc)
  owners_kept (SetField k v) item on = absurd (cc)
  owners_kept (DropField k) item on = absurd (cc)
  owners_kept (SetFlag k b) item on = absurd (cc)
  owners_kept (SetVar k v) item on = absurd (cc)
  owners_kept (AddOwner o) None on = refl
  owners_kept (AddOwner o) (Some parts) on = kept_by (AddOwner o) parts (parts_eq (asked (AddOwner o) parts) parts) false refl
  owners_kept (DropOwners os) None on = refl
  owners_kept (DropOwners os) (Some parts) on = kept_by (DropOwners os) parts (parts_eq (asked (DropOwners os) parts) parts) (is_nil (keys (asked (DropOwners os) parts).owners)) refl

  pub owners_seen : (ls : List LayerState) (p : Tree) (name : List ℕ) (op : Op) (item : Option ItemParts) (does : Bool) → item ≡ look ls p name → is_on_owners op ≡ true
      → does ≡ is_gone (after_at op item) → does ≡ false → f item ≡ f (look_after ls p name op)
  owners_seen ls p name op item does found on is stays =
      owners_made op item (look_below ls p name) on (sym is ∙ stays) ∙ ap (λ i. f (seen_after i (look_below ls p name) (after_at op i))) found

gone_by : (made : After) → is_gone made ≡ true → made ≡ Gone
gone_by Same h = cc
gone_by (Changed item) h = cc
gone_by Gone h = refl

-- where the item goes, the one below it is seen
pub below_seen : {A : Type 0} (f : Option ItemParts → A) (ls : List LayerState) (p : Tree) (name : List ℕ) (op : Op) (item below : Option ItemParts) (does : Bool)
    → item ≡ look ls p name → below ≡ look_below ls p name → does ≡ is_gone (after_at op item) → does ≡ true → f below ≡ f (look_after ls p name op)
below_seen f ls p name op item below does found lower is goes =
    gone_seen ls p name op f item below (after_at op item) found lower refl (gone_by (after_at op item) (sym is ∙ goes))

-- whether an item goes, by what is done to it
pub effect_goes : (made : After) → effect_of made ≡ effect.Gone → true ≡ is_gone made
effect_goes Same h = cc
effect_goes (Changed item) h = cc
effect_goes Gone h = refl

pub effect_stays : (made : After) → (effect_of made ≡ effect.Gone → ⊥) → false ≡ is_gone made
effect_stays Same h = refl
effect_stays (Changed item) h = refl
effect_stays Gone h = absurd (h refl)

-- ---- the map of kinds

or_none : {X : Type 0} (o : Option X) → o ≡ option_or o None
or_none None = refl
or_none (Some x) = refl

first_stays : {X : Type 0} (o last : Option X) → is_some o ≡ true → o ≡ option_or o last
first_stays None last h = cc
first_stays (Some x) last h = refl

fresh_or : {X : Type 0} (o : Option X) (x : X) → is_some o ≡ false → Some x ≡ option_or o (Some x)
fresh_or None x h = refl
fresh_or (Some y) x h = cc

-- what a taken write to the name leaves
abbrev left_to : List LayerState → QuestionContext → List ℕ → Option Write → Option (Option Kind)
left_to ls at name found = option_map (λ (w : Write). kind_left ls at name w.op) found

abbrev by_write : List LayerState → QuestionContext → Write → List ℕ → Bool → Option (Option Kind)
by_write ls at w name b = cond b (Some (kind_left ls at name w.op)) None

module _ (ls : List LayerState) (at : QuestionContext) (kinds : Texts (Option Kind)) (w : Write) (name : List ℕ) where
  -- the name has a kind already
  there_first : contains_key kinds w.name ≡ true → (same : Bool) → bytes_eq name w.name ≡ same → (b : Bool) → get kinds name ≡ option_or (get kinds name) (by_write ls at w name (same && b))
  there_first has false other b = or_none (get kinds name)
  there_first has true is b =
      first_stays (get kinds name) (by_write ls at w name b) (ap (λ n. is_some (get kinds n)) ((bytes_eq-Decides name w.name).0 is) ∙ has)

  no_write : (same : Bool) → get kinds name ≡ option_or (get kinds name) (by_write ls at w name (same && false))
  no_write true = or_none (get kinds name)
  no_write false = or_none (get kinds name)

  put_in : contains_key kinds w.name ≡ false → (same : Bool) → bytes_eq name w.name ≡ same
      → cond same (Some (kind_left ls at w.name w.op)) (get kinds name) ≡ option_or (get kinds name) (by_write ls at w name (same && true))
  put_in fresh false other = or_none (get kinds name)
  put_in fresh true is =
      let same : name ≡ w.name = (bytes_eq-Decides name w.name).0 is in
      ap (λ n. Some (kind_left ls at n w.op)) (sym same) ∙ fresh_or (get kinds name) (kind_left ls at name w.op) (ap (λ n. is_some (get kinds n)) same ∙ fresh)

  inserted : get (insert kinds w.name (kind_left ls at w.name w.op)) name ≡ cond (bytes_eq name w.name) (Some (kind_left ls at w.name w.op)) (get kinds name)
  inserted = get-insert nat_list_cmp_total kinds w.name (kind_left ls at w.name w.op) name ∙ ap (λ b. cond b (Some (kind_left ls at w.name w.op)) (get kinds name)) (is_eq-slice_cmp name w.name)

  by_cases : (has refused : Bool) → contains_key kinds w.name ≡ has → is_refused ls w ≡ refused
      → get (if has || refused then kinds else insert kinds w.name (kind_left ls at w.name w.op)) name ≡ option_or (get kinds name) (by_write ls at w name (bytes_eq name w.name && not refused))
  by_cases true refused has e = there_first has (bytes_eq name w.name) refl (not refused)
  by_cases false true has e = no_write (bytes_eq name w.name)
  by_cases false false has e = inserted ∙ put_in has (bytes_eq name w.name) refl

  with_kind_is : get (with_kind ls at kinds w) name ≡ option_or (get kinds name) (by_write ls at w name (is_taken_on ls name w))
  with_kind_is = by_cases (contains_key kinds w.name) (is_refused ls w) refl refl

or_then : (ls : List LayerState) (at : QuestionContext) (name : List ℕ) (w : Write) (had : Option (Option Kind)) (taken : Bool) (rest : Option Write)
    → option_or (option_or had (by_write ls at w name taken)) (left_to ls at name rest) ≡ option_or had (left_to ls at name (cond taken (Some w) rest))
or_then ls at name w (Some k) taken rest = refl
or_then ls at name w None true rest = refl
or_then ls at name w None false rest = refl

kinds_are : (ls : List LayerState) (at : QuestionContext) (batch : List Write) (kinds : Texts (Option Kind)) (name : List ℕ)
    → get (with_kinds ls at kinds batch) name ≡ option_or (get kinds name) (left_to ls at name (find (is_taken_on ls name) batch))
kinds_are ls at [] kinds name = or_none (get kinds name)
kinds_are ls at (w ∷ batch) kinds name =
    kinds_are ls at batch (with_kind ls at kinds w) name
    ∙ ap (λ o. option_or o (left_to ls at name (find (is_taken_on ls name) batch))) (with_kind_is ls at kinds w name)
    ∙ or_then ls at name w (get kinds name) (is_taken_on ls name w) (find (is_taken_on ls name) batch)

-- ---- a write beside others

module _ (ls : List LayerState) (at : QuestionContext) (batch : List Write) where
  abbrev kinds : Texts (Option Kind)
  kinds = with_kinds ls at empty batch

  left : (name : List ℕ) → get kinds name ≡ left_to ls at name (find (is_taken_on ls name) batch)
  left name = kinds_are ls at batch empty name ∙ ap (λ o. option_or o (left_to ls at name (find (is_taken_on ls name) batch))) (get-empty text_cmp name)

  chosen : (name : List ℕ) (found : Option Write) (before : Option ItemParts)
      → unwrap_or (left_to ls at name found) (kind_by before) ≡ kind_by (option_map_or (λ w. look_after ls at.templates name w.op) found before)
  chosen name None before = refl
  chosen name (Some w) before = refl

  kind_known : (name : List ℕ) → known_kind ls at kinds name ≡ kind_by (template_then ls at batch name)
  kind_known name =
      ap (λ o. unwrap_or o (kind_by (look ls at.templates name))) (left name) ∙ chosen name (find (is_taken_on ls name) batch) (look ls at.templates name)

  kind_of_name : (name : Option (List ℕ)) → option_and_then (known_kind ls at kinds) name ≡ kind_by (option_and_then (template_then ls at batch) name)
  kind_of_name None = refl
  kind_of_name (Some name) = kind_known name

  kind_of_item : (item : Option ItemParts) → item_kind ls at kinds item ≡ option_and_then (λ i. kind_by (template_of (template_then ls at batch) i)) item
  kind_of_item None = refl
  kind_of_item (Some i) = kind_of_name (get i.fields (codes "template"))

  -- a write by the kinds that others leave is the write beside them
  pub beside : (name : List ℕ) (op : Op) → write_by ls at kinds name op ≡ write_beside ls at batch name op
  beside name op = ap (λ k. record { plan = at.config; name = name; kind = k; op = op; reported_for = name ∷ [] }) (kind_of_item (look_after ls at.config name op))

-- ---- the kind that one write leaves

module _ (ls : List LayerState) (at : QuestionContext) (w : Write) (refused : Bool) (is : refused ≡ is_refused ls w) where
  fresh : contains_key (empty {K = List ℕ} {X = Option Kind} {R = text_cmp}) w.name ≡ false
  fresh = ap is_some (get-empty text_cmp w.name)

  pub none_left : refused ≡ true → empty ≡ with_kinds ls at empty (w ∷ [])
  none_left h = sym (λ i. if fresh i || (sym is ∙ h) i then empty else insert empty w.name (kind_left ls at w.name w.op))

  pub one_left : (name : List ℕ) (kind : Option Kind) → name ≡ w.name → refused ≡ false → kind ≡ kind_left ls at w.name w.op → insert empty name kind ≡ with_kinds ls at empty (w ∷ [])
  one_left name kind n h k =
      (λ i. insert empty (n i) (k i)) ∙ sym (λ i. if fresh i || (sym is ∙ h) i then empty else insert empty w.name (kind_left ls at w.name w.op))

-- the kind by which a write is tested that puts an item is the one that it leaves
pub put_taken : (ls : List LayerState) (at : QuestionContext) (w : Write) (made : ItemParts) → w.op ≡ Put made
    → w.kind ≡ kind_by (kept_after (look ls at.templates w.name) (after_at w.op (look ls at.templates w.name))) → w.kind ≡ kind_left ls at w.name w.op
put_taken ls at w made op k = k ∙ sym (put_kept kind_by kind_reads w.op made (look ls at.templates w.name) op) ∙ put_seen kind_by kind_reads ls at.templates w.name w.op made op

-- ---- kinds of which one stands before the others

module _ (others : Texts (Option Kind)) (n : List ℕ) (k : Option Kind) (name : List ℕ) where
  one_more : get (insert others n k) name ≡ cond (bytes_eq name n) (Some k) (get others name)
  one_more = get-insert nat_list_cmp_total others n k name ∙ ap (λ b. cond b (Some k) (get others name)) (is_eq-slice_cmp name n)

  pub one_known : (same : Bool) → same ≡ bytes_eq n name → same ≡ true → Some k ≡ get (insert others n k) name
  one_known same e h =
      let equal : n ≡ name = (bytes_eq-Decides n name).0 (sym e ∙ h) in
      let back : bytes_eq name n ≡ true = ap (λ x. bytes_eq x n) (sym equal) ∙ ap (bytes_eq n) equal ∙ sym e ∙ h in
      sym (one_more ∙ ap (λ b. cond b (Some k) (get others name)) back)

  other_test : (same : Bool) → same ≡ bytes_eq n name → same ≡ false → (b : Bool) → bytes_eq name n ≡ b → cond b (Some k) (get others name) ≡ get others name
  other_test same e h false t = refl
  other_test same e h true t =
      let equal : name ≡ n = (bytes_eq-Decides name n).0 t in
      let both : bytes_eq n name ≡ true = ap (λ x. bytes_eq x name) (sym equal) ∙ ap (bytes_eq name) equal ∙ t in
      absurd (cc)

  pub one_other : (same : Bool) → same ≡ bytes_eq n name → same ≡ false → (found : Option (Option Kind)) → found ≡ get others name → found ≡ get (insert others n k) name
  one_other same e h found f = f ∙ sym (one_more ∙ other_test same e h (bytes_eq name n) refl)
