-- What layers ask to be saved, one after another.
use Rattle.std.proofs.Common.{◌≡◌, ◌⊎◌, inl, inr, ◌-◌, ◌≤◌, ℕ, Bool, true, false, cond, List, [], ◌∷◌, ◌++◌, length, take, drop, get_or, map as each, Option, None, Some, Result, Ok, Err, refl, sym, ap, subst, ◌∙◌, append_assoc}
use Rattle.std.proofs.lemmas.List.{append-nil}
use Rattle.std.specs.Prelude.{OnOk, not, ◌||◌}
use Rattle.std.specs.Option.{option_or, option_map_or}
use Rattle.dc_text.specs.Bytes.{is_nil}
use Rattle.dc_text.specs.declared.memory.OutOfMemory.{OutOfMemory}
use Rattle.dc_conf.specs.declared.spec.LayerSort.{LayerSort}
use Rattle.dc_conf.specs.declared.spec.LayerSort.TheVariants.{File, Tree, Pack, Pipe}
use Rattle.dc_conf.specs.declared.spec.LayerSpec.{LayerSpec}
use Rattle.dc_layer.specs.State.{LayerState, is_pipe, images, images_by, file_images, pipe_image, first_text, piped, piped_of}
use Rattle.dc_layer.specs.declared.image.Image.{Image}
use Rattle.dc_shelf.specs.Asks.{Gathers}
use Rattle.dc_shelf.specs.declared.saving.Asked.{Asked}
use Rattle.dc_shelf.proofs.ShelfLemmas.{first_and_rest}

or_none : (text : Option (List ℕ)) → text ≡ option_or text None
or_none None = refl
or_none (Some bytes) = refl

or_more : (a b c : Option (List ℕ)) → option_or (option_or a (option_or b None)) c ≡ option_or a (option_or b c)
or_more None None c = refl
or_more None (Some bytes) c = refl
or_more (Some bytes) b c = refl

-- ---- layer by layer

pub gathered_none : (asked : Asked) → Gathers [] asked asked
gathered_none asked = record { files = sym (append-nil asked.files); text = or_none asked.text }

gathered_more : (layer : LayerState) (behind : List LayerState) (old mid new : Asked) → Gathers (layer ∷ []) old mid → Gathers behind mid new → Gathers (layer ∷ behind) old new
gathered_more layer behind old mid new first rest = record {
  files = rest.files ∙ ap (λ (l : List (List Image)). l ++ each file_images behind) first.files ∙ append_assoc old.files (file_images layer ∷ []) (each file_images behind);
  text = rest.text ∙ ap (λ (t : Option (List ℕ)). option_or t (piped_of behind)) first.text ∙ or_more old.text (piped layer) (piped_of behind);
}

pub gathered_if : {A : Type 0} (f : A → LayerState) (layers : List A) (layer : A) (old mid new : Asked) → 1 ≤ length layers → layer ≡ get_or layers 0 layer → Gathers (f layer ∷ []) old mid
    → (result : Result (Unit {0}) OutOfMemory) → OnOk result (Gathers (each f (take (length layers - 1) (drop 1 layers))) mid new) → OnOk result (Gathers (each f layers) old new)
gathered_if {A} f layers layer old mid new long is first (Ok value) rest =
    subst (λ (l : List A). Gathers (each f l) old new) (sym (first_and_rest layers layer long is)) (gathered_more (f layer) (each f (take (length layers - 1) (drop 1 layers))) old mid new first rest)
gathered_if f layers layer old mid new long is first (Err error) rest = tt

-- one that goes out through a pipe
pub asks_text : (layer : LayerState) (old new : Asked) (text : Option (List ℕ)) → is_pipe layer.sort ≡ true → new.files ≡ old.files ++ [] ∷ [] → new.text ≡ option_or old.text text → text ≡ piped layer → Gathers (layer ∷ []) old new
asks_text layer old new text is files texts are = record {
  files = files ∙ ap (λ (b : Bool). old.files ++ cond b [] (images layer) ∷ []) (sym is);
  text = texts ∙ ap (λ (t : Option (List ℕ)). option_or old.text t) (are ∙ or_none (piped layer));
}

-- one that is kept in files
pub asks_files : (layer : LayerState) (old new : Asked) (asked : List Image) → is_pipe layer.sort ≡ false → new.files ≡ old.files ++ asked ∷ [] → new.text ≡ old.text → asked ≡ images layer → Gathers (layer ∷ []) old new
asks_files layer old new asked is files texts are = record {
  files = files ∙ ap (λ (l : List Image). old.files ++ l ∷ []) (are ∙ ap (λ (b : Bool). cond b [] (images layer)) (sym is));
  text = texts ∙ or_none old.text ∙ ap (λ (b : Bool). option_or old.text (option_or (cond b (first_text (images layer)) None) None)) (sym is);
}

-- ---- the text of the one image

abbrev IsOneAtMost : List Image → Type 0
IsOneAtMost asked = (asked ≡ []) ⊎ ((image : Image) × (asked ≡ image ∷ []))

one_of : (sort : LayerSort) (spec : Option LayerSpec) (layer : LayerState) → is_pipe sort ≡ true → IsOneAtMost (option_map_or (λ s. images_by sort s layer) spec [])
one_of File spec layer is = absurd (cc)
one_of Tree spec layer is = absurd (cc)
one_of Pack spec layer is = absurd (cc)
one_of Pipe None layer is = inl refl
one_of Pipe (Some spec) layer is = one_at_most (is_nil layer.touched || not spec.outfd) where
  one_at_most : (b : Bool) → IsOneAtMost (cond b [] (pipe_image layer.table ∷ []))
  one_at_most true = inl refl
  one_at_most false = inr (pipe_image layer.table, refl)

no_last : (rest : List Image) (last : Image) → [] ≡ rest ++ last ∷ [] → ⊥
no_last [] last are = absurd (cc)
no_last (image ∷ rest) last are = absurd (cc)

last_text : (asked rest : List Image) (last : Image) → IsOneAtMost asked → asked ≡ rest ++ last ∷ [] → last.bytes ≡ first_text asked
last_text asked [] last one are = sym (ap first_text are)
last_text asked (image ∷ rest) last (inl none) are = absurd (no_last (image ∷ rest) last (sym none ∙ are))
last_text asked (image ∷ rest) last (inr one) are =
    let same : one.0 ∷ [] ≡ image ∷ (rest ++ last ∷ []) = sym one.1 ∙ are in
    let tails : [] ≡ rest ++ last ∷ [] = cc in
    absurd (no_last rest last tails)

piped_is : (layer : LayerState) → is_pipe layer.sort ≡ true → first_text (images layer) ≡ piped layer
piped_is layer is = ap (λ (b : Bool). cond b (first_text (images layer)) None) (sym is)

pub text_taken : (layer : LayerState) (asked rest : List Image) (last : Image) → is_pipe layer.sort ≡ true → asked ≡ images layer → asked ≡ rest ++ last ∷ [] → last.bytes ≡ piped layer
text_taken layer asked rest last is are ends =
    last_text asked rest last (subst IsOneAtMost (sym are) (one_of layer.sort layer.spec layer is)) ends ∙ ap first_text are ∙ piped_is layer is

pub no_text : (layer : LayerState) (asked : List Image) → is_pipe layer.sort ≡ true → asked ≡ images layer → asked ≡ [] → None ≡ piped layer
no_text layer asked is are none = sym (ap first_text none) ∙ ap first_text are ∙ piped_is layer is
