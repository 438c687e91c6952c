-- Layers marked as saved, the last first.
use Rattle.std.proofs.Common.{◌≡◌, ℕ, true, cond, zero, suc, ◌<◌, List, [], ◌∷◌, ◌++◌, map as each, length, take, drop, get_or, refl, sym, ap, ◌∙◌, arith}
use Rattle.std.specs.Prelude.{slice_get, Some}
use Rattle.std.proofs.Math.ListN.{set}
use Rattle.dc_conf.specs.declared.spec.LayerSort.{LayerSort}
use Rattle.dc_conf.specs.declared.spec.LayerSort.TheVariants.{File, Tree, Pack, Pipe}
use Rattle.dc_layer.specs.State.{LayerState, file_images, images, is_file, is_pipe, saved}
use Rattle.dc_layer.specs.declared.image.Image.{Image}
use Rattle.dc_shelf.specs.Shelves.{IsMarkedAt}
use Rattle.dc_shelf.proofs.LoadLemmas.{stood, stands, before}

pub is_marked_at : {A : Type 0} (f : A → LayerState) (xs : List A) (i : ℕ) (d y : A) → i < length xs → f y ≡ saved (f (get_or xs i d)) → IsMarkedAt i (each f xs) (each f (set xs i y))
is_marked_at f xs i d y within is = record {
  layer = f (get_or xs i d);
  stood = stood f xs i d within;
  stands = stands f xs i y within ∙ ap (λ l. l ∷ drop (suc i) (each f xs)) is;
  kept = before f xs i y;
}

-- what is handed out last, of so many first elements
pub last_asked : (layers : List LayerState) (i : ℕ) (rest : List (List Image)) (asked : List Image) → i < length layers → take (suc i) (each file_images layers) ≡ rest ++ asked ∷ []
    → ((layer : LayerState) → slice_get layers i ≡ Some layer → asked ≡ file_images layer) × (rest ≡ take i (each file_images layers))
last_asked [] i rest asked within are = absurd (omega arith)
last_asked (x ∷ layers) zero [] asked within are = ((λ layer at. let same : x ≡ layer = cc in let one : file_images x ≡ asked = cc in sym one ∙ ap file_images same), refl)
last_asked (x ∷ layers) zero (r ∷ []) asked within are = cc
last_asked (x ∷ layers) zero (r ∷ (s ∷ rest)) asked within are = cc
last_asked (x ∷ []) (suc i) rest asked within are = absurd (omega arith)
last_asked (x ∷ (y ∷ layers)) (suc i) [] asked within are = cc
last_asked (x ∷ (y ∷ layers)) (suc i) (r ∷ rest) asked within are =
    let head : file_images x ≡ r = cc in
    let tails : take (suc i) (each file_images (y ∷ layers)) ≡ rest ++ asked ∷ [] = cc in
    let later = last_asked (y ∷ layers) i rest asked (omega arith) tails in
    (later.0, λ k. sym head k ∷ later.1 k)

joined : (i : ℕ) (old : List LayerState) (layer : LayerState) → drop i old ≡ layer ∷ drop (suc i) old → each saved (take i old) ++ saved layer ∷ drop (suc i) old ≡ each saved (take (suc i) old) ++ drop (suc i) old
joined zero [] layer is = cc
joined zero (x ∷ old) layer is = let same : x ≡ layer = cc in ap (λ l. saved l ∷ old) (sym same)
joined (suc i) [] layer is = cc
joined (suc i) (x ∷ old) layer is = ap (λ l. saved x ∷ l) (joined i old layer is)

-- one more was marked behind those that are to be
pub marked_more : (i : ℕ) (old mid new : List LayerState) → IsMarkedAt i old mid → new ≡ each saved (take i mid) ++ drop i mid → new ≡ each saved (take (suc i) old) ++ drop (suc i) old
marked_more i old mid new at is = is ∙ ap (λ l. each saved l ++ drop i mid) at.kept ∙ ap (λ l. each saved (take i old) ++ l) at.stands ∙ joined i old at.layer at.stood

images_less : (i : ℕ) (new old : List LayerState) → take i new ≡ take i old → take i (each file_images new) ≡ take i (each file_images old)
images_less zero new old same = refl
images_less (suc i) [] [] same = refl
images_less (suc i) [] (y ∷ old) same = cc
images_less (suc i) (x ∷ new) [] same = cc
images_less (suc i) (x ∷ new) (y ∷ old) same =
    let head : x ≡ y = cc in
    let tails : take i new ≡ take i old = cc in
    λ k. file_images (head k) ∷ images_less i new old tails k

-- those that are still to be marked ask for the same
pub same_asked : (i : ℕ) (old mid : List LayerState) (left : List (List Image)) → IsMarkedAt i old mid → left ≡ take i (each file_images old) → left ≡ take i (each file_images mid)
same_asked i old mid left at are = are ∙ sym (images_less i mid old at.kept)

unpiped : (sort : LayerSort) (asked : List Image) → is_file sort ≡ true → cond (is_pipe sort) [] asked ≡ asked
unpiped File asked is = refl
unpiped Tree asked is = refl
unpiped Pack asked is = refl
unpiped Pipe asked is = absurd (cc)

-- what a layer in one file asks is all saved in files
pub all_in_files : (layer : LayerState) (asked : List Image) → asked ≡ file_images layer → is_file layer.sort ≡ true → asked ≡ images layer
all_in_files layer asked are is = are ∙ unpiped layer.sort (images layer) is
