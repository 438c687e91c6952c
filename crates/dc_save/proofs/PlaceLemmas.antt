-- Images of layers whose places don't meet.
use Rattle.std.proofs.Common.{◌≡◌, ◌⊎◌, inl, inr, ℕ, Bool, true, false, cond, List, [], ◌∷◌, ◌++◌, map as each, reverse, refl, sym, ap, subst, ◌∙◌, append_assoc}
use Rattle.std.proofs.lemmas.Bool.Decides.{Decides-eqb}
use Rattle.std.proofs.lemmas.Slice.Eq.{bytes_eq-Decides}
use Rattle.std.proofs.lemmas.List.{append-nil, append_cancel_right, append_cancel_left, reverse-append}
use Rattle.std.specs.Prelude.{◌||◌, ◌&&◌, ◌==◌, ◌≢◌, nat_le, not, fold, length, codes}
use Rattle.std.specs.List.{list_any, list_all, AllByRecursion}
use Rattle.std.specs.Char.{is_ascii_alphanumeric}
use Rattle.std.specs.Str.{bytes_eq}
use Rattle.dc_text.specs.Maps.{AreDistinct}
use Rattle.dc_conf.specs.declared.spec.LayerSpec.{LayerSpec}
use Rattle.dc_conf.specs.declared.spec.LayerSort.{LayerSort}
use Rattle.dc_conf.specs.declared.spec.LayerSort.TheVariants.{File, Tree, Pack, Pipe}
use Rattle.dc_conf.specs.ConfFaults.{meet, is_front}
use Rattle.dc_conf.specs.Values.{is_extension}
use Rattle.dc_conf.specs.Configuration.{paths_at, places_meet, are_apart, fits_sort, takes_extension, takes_mode}
use Rattle.dc_layer.specs.declared.image.Image.{Image}
use Rattle.dc_outside.specs.Disk.{Among}
use Rattle.std.specs.Option.{option_map_or}
use Rattle.dc_text.specs.Bytes.{is_nil}
use Rattle.dc_layer.specs.Folders.{path_in, prefix}
use Rattle.dc_layer.specs.State.{LayerState, file_images, is_pipe, images_by, image_of, item_image, prefix_image, firsts, touch}
use Rattle.dc_save.specs.Saving.{all_images, paths_of, new_path, old_path, ShareNone, AreApart}
use Rattle.dc_save.specs.Places.{AreNamed, AreOwn, AreOf, AreSetUpFor}

both_ways : (b : Bool) → b ≡ false → b ≡ true → ⊥
both_ways true e f = absurd (cc)
both_ways false e f = absurd (cc)

either_false : (a b : Bool) → (a || b) ≡ false → (a ≡ false) × (b ≡ false)
either_false true b e = absurd (cc)
either_false false b e = (refl, e)

both_true : (a b : Bool) → (a && b) ≡ true → (a ≡ true) × (b ≡ true)
both_true true b e = (refl, e)
both_true false b e = absurd (cc)

not_true : (b : Bool) → not b ≡ true → b ≡ false
not_true true e = absurd (cc)
not_true false e = refl

any_false : {X : Type 0} (test : X → Bool) (xs : List X) (x : X) → list_any test xs ≡ false → Among xs x → test x ≡ false
any_false test [] x none among = absurd among
any_false test (y ∷ ys) x none (inl e) = ap test e ∙ (either_false (test y) (list_any test ys) none).0
any_false test (y ∷ ys) x none (inr among) = any_false test ys x (either_false (test y) (list_any test ys) none).1 among

-- ---- paths that are one place, or lie below it

either-right : (a b : Bool) → b ≡ true → (a || b) ≡ true
either-right true b e = refl
either-right false b e = e

equal_itself : (byte : ℕ) → (byte == byte) ≡ true
equal_itself byte = (Decides-eqb byte byte).1 refl

front_below : (path rest : List ℕ) → is_front (path ++ 47 ∷ []) (path ++ 47 ∷ rest) ≡ true
front_below [] rest = refl
front_below (byte ∷ path) rest = ap (λ b. b && is_front (path ++ 47 ∷ []) (path ++ 47 ∷ rest)) (equal_itself byte) ∙ front_below path rest

abbrev IsBelow : List ℕ → List ℕ → Type 0
IsBelow place path = (path ≡ place) ⊎ ((rest : List ℕ) × (path ≡ place ++ 47 ∷ rest))

cons_first : (a b : ℕ) (xs ys : List ℕ) → a ∷ xs ≡ b ∷ ys → a ≡ b
cons_first a b xs ys e = cc

cons_rest : (a b : ℕ) (xs ys : List ℕ) → a ∷ xs ≡ b ∷ ys → xs ≡ ys
cons_rest a b xs ys e = cc

meet_cons : (a b : ℕ) (one other : List ℕ) → a ≡ b → meet one other ≡ true → meet (a ∷ one) (b ∷ other) ≡ true
meet_cons a b one other same e =
    subst (λ (c : ℕ). meet (a ∷ one) (c ∷ other) ≡ true) same
    ((λ i. (equal_itself a i && bytes_eq one other) || ((equal_itself a i && is_front (one ++ 47 ∷ []) other) || (equal_itself a i && is_front (other ++ 47 ∷ []) one))) ∙ e)

-- two places below which one path lies
below_both : (one other a b : List ℕ) → one ++ 47 ∷ a ≡ other ++ 47 ∷ b → meet one other ≡ true
below_both [] [] a b e = refl
below_both [] (byte ∷ other) a b e =
    ap (λ c. bytes_eq [] (byte ∷ other) || (((47 == c) && true) || is_front ((byte ∷ other) ++ 47 ∷ []) [])) (sym (cons_first 47 byte a (other ++ 47 ∷ b) e))
below_both (byte ∷ one) [] a b e =
    ap (λ c. bytes_eq (byte ∷ one) [] || (is_front ((byte ∷ one) ++ 47 ∷ []) [] || ((47 == c) && true))) (cons_first byte 47 (one ++ 47 ∷ a) b e)
below_both (x ∷ one) (y ∷ other) a b e = meet_cons x y one other (cons_first x y _ _ e) (below_both one other a b (cons_rest x y _ _ e))

at_meet : (one other path : List ℕ) → IsBelow one path → IsBelow other path → meet one other ≡ true
at_meet one other path (inl here) (inl there) =
    ap (λ b. b || (is_front (one ++ 47 ∷ []) other || is_front (other ++ 47 ∷ []) one)) ((bytes_eq-Decides one other).1 (sym here ∙ there))
at_meet one other path (inl here) (inr below) =
    either-right (bytes_eq one other) _ (either-right (is_front (one ++ 47 ∷ []) other) _ (ap (is_front (other ++ 47 ∷ [])) (sym here ∙ below.1) ∙ front_below other below.0))
at_meet one other path (inr below) (inl there) =
    either-right (bytes_eq one other) _ (ap (λ b. b || is_front (other ++ 47 ∷ []) one) (ap (is_front (one ++ 47 ∷ [])) (sym there ∙ below.1) ∙ front_below one below.0))
at_meet one other path (inr below) (inr beside) = below_both one other below.0 beside.0 (sym below.1 ∙ beside.1)

-- a path that lies at one of the places of a database
abbrev IsWithin : LayerSpec → List ℕ → Type 0
IsWithin spec path = (place : List ℕ) × Among (paths_at spec.sort spec.place) place × IsBelow place path

within_none : (one other : LayerSpec) → places_meet one other ≡ false → (path : List ℕ) → IsWithin one path → IsWithin other path → ⊥
within_none one other apart path here there =
    both_ways (meet here.0 there.0)
    (any_false (meet here.0) (paths_at other.sort other.place) there.0 (any_false (λ p. list_any (meet p) (paths_at other.sort other.place)) (paths_at one.sort one.place) here.0 apart here.1) there.1)
    (at_meet here.0 there.0 path here.2 there.2)

-- ---- the images of one database

abbrev AreWithin : LayerSpec → Image → Type 0
AreWithin spec image = (path : List ℕ) → Among (paths_of image) path → IsWithin spec path

file_within : (spec : LayerSpec) (image : Image) → spec.sort ≡ File → image.path ≡ spec.place → AreWithin spec image
file_within spec image is at path among =
    (path, subst (λ (s : LayerSort). Among (paths_at s spec.place) path) (sym is) (subst (λ (p : List ℕ). Among (paths_at File p) path) at among), inl refl)

path_is : (spec : LayerSpec) (name : List ℕ) → path_in spec name ≡ spec.place ++ (47 ∷ (name ++ spec.extension))
path_is spec name = append_assoc spec.place (47 ∷ name) spec.extension

beside_path : (spec : LayerSpec) (name behind : List ℕ) → path_in spec name ++ behind ≡ spec.place ++ (47 ∷ ((name ++ spec.extension) ++ behind))
beside_path spec name behind = ap (λ (p : List ℕ). p ++ behind) (path_is spec name) ∙ append_assoc spec.place (47 ∷ (name ++ spec.extension)) behind

below_folder : (spec : LayerSpec) (name path : List ℕ) → Among (path_in spec name ∷ new_path (path_in spec name) ∷ old_path (path_in spec name) ∷ []) path → (rest : List ℕ) × (path ≡ spec.place ++ (47 ∷ rest))
below_folder spec name path (inl e) = (name ++ spec.extension, e ∙ path_is spec name)
below_folder spec name path (inr (inl e)) = ((name ++ spec.extension) ++ codes "-new", e ∙ beside_path spec name (codes "-new"))
below_folder spec name path (inr (inr (inl e))) = ((name ++ spec.extension) ++ codes "-old", e ∙ beside_path spec name (codes "-old"))
below_folder spec name path (inr (inr (inr none))) = absurd none

folder_within : (spec : LayerSpec) (image : Image) (name : List ℕ) → paths_at spec.sort spec.place ≡ spec.place ∷ [] → image.path ≡ path_in spec name → AreWithin spec image
folder_within spec image name is at path among =
    let below = below_folder spec name path (subst (λ (p : List ℕ). Among (p ∷ new_path p ∷ old_path p ∷ []) path) at among) in
    (spec.place, subst (λ (l : List (List ℕ)). Among l spec.place) (sym is) (inl refl), inr below)

-- ---- the files of one folder

abbrev pub IsEnding : List ℕ → Type 0
IsEnding extension = (rest : List ℕ) × (extension ≡ 46 ∷ rest) × (list_all is_ascii_alphanumeric rest ≡ true)

all_at : (p : ℕ → Bool) (xs ys : List ℕ) (y : ℕ) → list_all p (xs ++ y ∷ ys) ≡ true → p y ≡ true
all_at p [] ys y e = (both_true (p y) _ e).0
all_at p (x ∷ xs) ys y e = all_at p xs ys y (both_true (p x) _ e).1

-- a text that ends in a dot and such bytes doesn't end in a dash and such bytes
marks_apart : (p : ℕ → Bool) → p 45 ≡ false → p 46 ≡ false → (x z rest other : List ℕ) → list_all p rest ≡ true → list_all p other ≡ true → x ++ 46 ∷ rest ≡ z ++ 45 ∷ other → ⊥
marks_apart p dash dot [] [] rest other all more e = both_ways (45 == 46) refl (sym (ap (λ (b : ℕ). b == 46) (cons_first 46 45 rest other e)))
marks_apart p dash dot [] (c ∷ z) rest other all more e = both_ways (p 45) dash (all_at p z other 45 (ap (list_all p) (sym (cons_rest 46 c rest (z ++ 45 ∷ other) e)) ∙ all))
marks_apart p dash dot (c ∷ x) [] rest other all more e = both_ways (p 46) dot (all_at p x rest 46 (ap (list_all p) (cons_rest c 45 (x ++ 46 ∷ rest) other e) ∙ more))
marks_apart p dash dot (c ∷ x) (d ∷ z) rest other all more e = marks_apart p dash dot x z rest other all more (cons_rest c d _ _ e)

new_and_old : (a b : List ℕ) → a ++ codes "-new" ≡ b ++ codes "-old" → ⊥
new_and_old a b e = both_ways (100 == 119) refl (sym (ap (λ (c : ℕ). c == 119) (cons_first 119 100 _ _ (sym (reverse-append a (codes "-new")) ∙ ap reverse e ∙ reverse-append b (codes "-old")))))

-- what may stand behind the path of a file
abbrev tails : List (List ℕ)
tails = [] ∷ codes "-new" ∷ codes "-old" ∷ []

module _ (extension : List ℕ) (is : IsEnding extension) where
  dash_behind : (n m tail : List ℕ) → list_all is_ascii_alphanumeric tail ≡ true → (n ++ extension) ++ [] ≡ (m ++ extension) ++ 45 ∷ tail → ⊥
  dash_behind n m tail all e = marks_apart is_ascii_alphanumeric refl refl n (m ++ extension) is.0 tail is.2 all (sym (ap (λ x. n ++ x) is.1) ∙ sym (append-nil (n ++ extension)) ∙ e)

  same_name : (n m s : List ℕ) → (n ++ extension) ++ s ≡ (m ++ extension) ++ s → n ≡ m
  same_name n m s e = append_cancel_right n m extension (append_cancel_right (n ++ extension) (m ++ extension) s e)

  tails_apart : (n m s t : List ℕ) → Among tails s → Among tails t → (n ++ extension) ++ s ≡ (m ++ extension) ++ t → n ≡ m
  tails_apart n m s t (inl a) (inl b) e = same_name n m [] (sym (ap (λ x. (n ++ extension) ++ x) a) ∙ e ∙ ap (λ x. (m ++ extension) ++ x) b)
  tails_apart n m s t (inl a) (inr (inl b)) e = absurd (dash_behind n m (codes "new") refl (sym (ap (λ x. (n ++ extension) ++ x) a) ∙ e ∙ ap (λ x. (m ++ extension) ++ x) b))
  tails_apart n m s t (inl a) (inr (inr (inl b))) e = absurd (dash_behind n m (codes "old") refl (sym (ap (λ x. (n ++ extension) ++ x) a) ∙ e ∙ ap (λ x. (m ++ extension) ++ x) b))
  tails_apart n m s t (inl a) (inr (inr (inr none))) e = absurd none
  tails_apart n m s t (inr (inl a)) (inl b) e = absurd (dash_behind m n (codes "new") refl (sym (ap (λ x. (m ++ extension) ++ x) b) ∙ sym e ∙ ap (λ x. (n ++ extension) ++ x) a))
  tails_apart n m s t (inr (inl a)) (inr (inl b)) e = same_name n m (codes "-new") (sym (ap (λ x. (n ++ extension) ++ x) a) ∙ e ∙ ap (λ x. (m ++ extension) ++ x) b)
  tails_apart n m s t (inr (inl a)) (inr (inr (inl b))) e = absurd (new_and_old (n ++ extension) (m ++ extension) (sym (ap (λ x. (n ++ extension) ++ x) a) ∙ e ∙ ap (λ x. (m ++ extension) ++ x) b))
  tails_apart n m s t (inr (inl a)) (inr (inr (inr none))) e = absurd none
  tails_apart n m s t (inr (inr (inl a))) (inl b) e = absurd (dash_behind m n (codes "old") refl (sym (ap (λ x. (m ++ extension) ++ x) b) ∙ sym e ∙ ap (λ x. (n ++ extension) ++ x) a))
  tails_apart n m s t (inr (inr (inl a))) (inr (inl b)) e = absurd (new_and_old (m ++ extension) (n ++ extension) (sym (ap (λ x. (m ++ extension) ++ x) b) ∙ sym e ∙ ap (λ x. (n ++ extension) ++ x) a))
  tails_apart n m s t (inr (inr (inl a))) (inr (inr (inl b))) e = same_name n m (codes "-old") (sym (ap (λ x. (n ++ extension) ++ x) a) ∙ e ∙ ap (λ x. (m ++ extension) ++ x) b)
  tails_apart n m s t (inr (inr (inl a))) (inr (inr (inr none))) e = absurd none
  tails_apart n m s t (inr (inr (inr none))) b e = absurd none

with_tail : (path p : List ℕ) → Among (p ∷ new_path p ∷ old_path p ∷ []) path → (s : List ℕ) × Among tails s × (path ≡ p ++ s)
with_tail path p (inl e) = ([], inl refl, e ∙ sym (append-nil p))
with_tail path p (inr (inl e)) = (codes "-new", inr (inl refl), e)
with_tail path p (inr (inr (inl e))) = (codes "-old", inr (inr (inl refl)), e)
with_tail path p (inr (inr (inr none))) = absurd none

same_end : (spec : LayerSpec) (n m s t : List ℕ) → path_in spec n ++ s ≡ path_in spec m ++ t → (n ++ spec.extension) ++ s ≡ (m ++ spec.extension) ++ t
same_end spec n m s t e = cons_rest 47 47 _ _ (append_cancel_left spec.place _ _ (sym (beside_path spec n s) ∙ e ∙ beside_path spec m t))

named_apart : (spec : LayerSpec) → IsEnding spec.extension → (n m : List ℕ) → (n ≡ m → ⊥) → (one other : Image) → one.path ≡ path_in spec n → other.path ≡ path_in spec m → ShareNone (paths_of one) (paths_of other)
named_apart spec is n m differ one other at there path here among =
    let s = with_tail path (path_in spec n) (subst (λ (p : List ℕ). Among (p ∷ new_path p ∷ old_path p ∷ []) path) at here) in
    let t = with_tail path (path_in spec m) (subst (λ (p : List ℕ). Among (p ∷ new_path p ∷ old_path p ∷ []) path) there among) in
    differ (tails_apart spec.extension is n m s.0 t.0 s.1 t.1 (same_end spec n m s.0 t.0 (sym s.2 ∙ t.2)))

no_cons : {X : Type 0} (x : X) (xs : List X) → [] ≡ x ∷ xs → ⊥
no_cons x xs e = absurd (cc)

first_same : {X : Type 0} (x y : X) (xs ys : List X) → x ∷ xs ≡ y ∷ ys → x ≡ y
first_same x y xs ys e = cc

rest_same : {X : Type 0} (x y : X) (xs ys : List X) → x ∷ xs ≡ y ∷ ys → xs ≡ ys
rest_same x y xs ys e = cc

abbrev paths_in : List Image → List (List ℕ)
paths_in images = each (λ (image : Image). image.path) images

others_apart : (spec : LayerSpec) → IsEnding spec.extension → (n : List ℕ) (one : Image) → one.path ≡ path_in spec n → (images : List Image) (names : List (List ℕ)) → AllByRecursion (λ m. m ≢ n) names
    → paths_in images ≡ each (path_in spec) names → AllByRecursion (λ other. ShareNone (paths_of one) (paths_of other)) images
others_apart spec is n one at [] names apart e = tt
others_apart spec is n one at (image ∷ images) [] apart e = absurd (no_cons _ _ (sym e))
others_apart spec is n one at (image ∷ images) (m ∷ names) apart e = (
  named_apart spec is n m (λ same. apart.0 (sym same)) one image at (first_same _ _ _ _ e),
  others_apart spec is n one at images names apart.1 (rest_same _ _ _ _ e),
)

own_apart : (spec : LayerSpec) → IsEnding spec.extension → (images : List Image) (names : List (List ℕ)) → AreDistinct names → paths_in images ≡ each (path_in spec) names → AreApart images
own_apart spec is [] names apart e = tt
own_apart spec is (image ∷ images) [] apart e = absurd (no_cons _ _ (sym e))
own_apart spec is (image ∷ images) (n ∷ names) apart e = (
  others_apart spec is n image (first_same _ _ _ _ e) images names apart.0 (rest_same _ _ _ _ e),
  own_apart spec is images names apart.1 (rest_same _ _ _ _ e),
)

own_within : (spec : LayerSpec) → paths_at spec.sort spec.place ≡ spec.place ∷ [] → (images : List Image) (names : List (List ℕ)) → paths_in images ≡ each (path_in spec) names → AllByRecursion (AreWithin spec) images
own_within spec is [] names e = tt
own_within spec is (image ∷ images) [] e = absurd (no_cons _ _ (sym e))
own_within spec is (image ∷ images) (n ∷ names) e = (folder_within spec image n is (first_same _ _ _ _ e), own_within spec is images names (rest_same _ _ _ _ e))

-- ---- the images of one database, whatever its sort

abbrev EndsWell : LayerSort → List ℕ → Type 0
EndsWell File extension = Unit {0}
EndsWell Tree extension = IsEnding extension
EndsWell Pack extension = IsEnding extension
EndsWell Pipe extension = Unit {0}

abbrev EndWell : List LayerSpec → Type 0
EndWell specs = AllByRecursion (λ spec. EndsWell spec.sort spec.extension) specs

is_ending : (extension : List ℕ) → is_extension extension ≡ true → IsEnding extension
is_ending [] e = absurd (cc)
is_ending (byte ∷ bytes) e =
    let most : Bool = nat_le (length bytes) 16 && list_all is_ascii_alphanumeric bytes in
    let first = both_true (byte == 46) (nat_le 1 (length bytes) && most) e in
    let second = both_true (nat_le 1 (length bytes)) most first.1 in
    let third = both_true (nat_le (length bytes) 16) (list_all is_ascii_alphanumeric bytes) second.1 in
    (bytes, ap (λ (b : ℕ). b ∷ bytes) ((Decides-eqb byte 46).0 first.0), third.1)

ends_well : (sort : LayerSort) (extension : List ℕ) → takes_extension sort extension ≡ true → EndsWell sort extension
ends_well File extension e = tt
ends_well Tree extension e = is_ending extension e
ends_well Pack extension e = is_ending extension e
ends_well Pipe extension e = tt

all_end_well : (specs : List LayerSpec) → list_all fits_sort specs ≡ true → EndWell specs
all_end_well [] e = tt
all_end_well (spec ∷ specs) e =
    let both = both_true (fits_sort spec) (list_all fits_sort specs) e in
    (ends_well spec.sort spec.extension (both_true (takes_extension spec.sort spec.extension) (takes_mode spec.sort spec.mode) both.0).0, all_end_well specs both.1)

-- they are apart, and lie at its places
record IsFine (spec : LayerSpec) (images : List Image) : Type 0 where
  pub apart : AreApart images
  pub within : AllByRecursion (AreWithin spec) images

named_fine : (spec : LayerSpec) (images : List Image) → paths_at spec.sort spec.place ≡ spec.place ∷ [] → IsEnding spec.extension → AreNamed spec images → IsFine spec images
named_fine spec images is ends named = record { apart = own_apart spec ends images named.names named.apart named.paths; within = own_within spec is images named.names named.paths }

own_fine : (spec : LayerSpec) (images : List Image) (sort : LayerSort) → spec.sort ≡ sort → EndsWell sort spec.extension → AreOwn sort spec images → IsFine spec images
own_fine spec images File is ends (inl none) = subst (IsFine spec) (sym none) (record { apart = tt; within = tt })
own_fine spec images File is ends (inr one) = subst (IsFine spec) (sym one.1) (record { apart = (tt, tt); within = (file_within spec one.0 is one.2, tt) })
own_fine spec images Tree is ends named = named_fine spec images (ap (λ (s : LayerSort). paths_at s spec.place) is) ends named
own_fine spec images Pack is ends named = named_fine spec images (ap (λ (s : LayerSort). paths_at s spec.place) is) ends named
own_fine spec images Pipe is ends none = subst (IsFine spec) (sym none) (record { apart = tt; within = tt })

-- ---- of several databases

abbrev IsOfOne : List LayerSpec → Image → Type 0
IsOfOne specs image = (spec : LayerSpec) × Among specs spec × AreWithin spec image

all_later : (spec : LayerSpec) (specs : List LayerSpec) (images : List Image) → AllByRecursion (IsOfOne specs) images → AllByRecursion (IsOfOne (spec ∷ specs)) images
all_later spec specs [] all = tt
all_later spec specs (image ∷ images) all = ((all.0.0, inr all.0.1, all.0.2), all_later spec specs images all.1)

all_here : (spec : LayerSpec) (specs : List LayerSpec) (images : List Image) → AllByRecursion (AreWithin spec) images → AllByRecursion (IsOfOne (spec ∷ specs)) images
all_here spec specs [] all = tt
all_here spec specs (image ∷ images) all = ((spec, inl refl, all.0), all_here spec specs images all.1)

all_append : {X : Type 0} (P : X → Type 0) (xs ys : List X) → AllByRecursion P xs → AllByRecursion P ys → AllByRecursion P (xs ++ ys)
all_append P [] ys a b = b
all_append P (x ∷ xs) ys a b = (a.0, all_append P xs ys a.1 b)

shares_none : (spec : LayerSpec) (specs : List LayerSpec) → list_any (places_meet spec) specs ≡ false → (image : Image) → AreWithin spec image → (rest : List Image) → AllByRecursion (IsOfOne specs) rest
    → AllByRecursion (λ other. ShareNone (paths_of image) (paths_of other)) rest
shares_none spec specs apart image within [] all = tt
shares_none spec specs apart image within (other ∷ rest) all = (
  (λ path here there. within_none spec all.0.0 (any_false (places_meet spec) specs all.0.0 apart all.0.1) path (within path here) (all.0.2 path there)),
  shares_none spec specs apart image within rest all.1,
)

apart_append : (spec : LayerSpec) (specs : List LayerSpec) → list_any (places_meet spec) specs ≡ false → (own rest : List Image) → AreApart own → AllByRecursion (AreWithin spec) own → AreApart rest → AllByRecursion (IsOfOne specs) rest → AreApart (own ++ rest)
apart_append spec specs none [] rest own_apart within rest_apart all = rest_apart
apart_append spec specs none (image ∷ own) rest own_apart within rest_apart all = (
  all_append (λ other. ShareNone (paths_of image) (paths_of other)) own rest own_apart.0 (shares_none spec specs none image within.0 rest all),
  apart_append spec specs none own rest own_apart.1 within.1 rest_apart all,
)

record AreFine (specs : List LayerSpec) (images : List Image) : Type 0 where
  pub apart : AreApart images
  pub all : AllByRecursion (IsOfOne specs) images

places_fine : (specs : List LayerSpec) (images : List Image) → EndWell specs → are_apart specs ≡ true → AreOf specs images → AreFine specs images
places_fine [] images ends apart none = subst (AreFine []) (sym none) (record { apart = tt; all = tt })
places_fine (spec ∷ specs) images ends apart are =
    let own = own_fine spec are.0 spec.sort refl ends.0 are.3 in
    let later = places_fine specs are.1 ends.1 (both_true _ _ apart).1 are.4 in
    subst (AreFine (spec ∷ specs)) (sym are.2) (record {
      apart = apart_append spec specs (not_true _ (both_true _ _ apart).0) are.0 are.1 own.apart own.within later.apart later.all;
      all = all_append (IsOfOne (spec ∷ specs)) are.0 are.1 (all_here spec specs are.0 own.within) (all_later spec specs are.1 later.all);
    })

pub places_apart : (specs : List LayerSpec) (images : List Image) → list_all fits_sort specs ≡ true → are_apart specs ≡ true → AreOf specs images → AreApart images
places_apart specs images fit apart are = (places_fine specs images (all_end_well specs fit) apart are).apart

-- ---- images of layers

distinct_push : (names : List (List ℕ)) (name : List ℕ) → AreDistinct names → list_any (bytes_eq name) names ≡ false → AreDistinct (names ++ name ∷ [])
distinct_push [] name apart none = (tt, tt)
distinct_push (n ∷ names) name apart none =
    let both = either_false (bytes_eq name n) (list_any (bytes_eq name) names) none in (
      all_append (λ m. m ≢ n) names (name ∷ []) apart.0 ((λ same. both_ways (bytes_eq name n) both.0 ((bytes_eq-Decides name n).1 same)), tt),
      distinct_push names name apart.1 both.1,
    )

touch_distinct : (names : List (List ℕ)) (name : List ℕ) → AreDistinct names → AreDistinct (touch names name)
touch_distinct names name apart = elim (list_any (bytes_eq name) names) as (λ b. list_any (bytes_eq name) names ≡ b → AreDistinct (cond b names (names ++ name ∷ []))) [
  | true ↦ λ e. apart
  | false ↦ λ e. distinct_push names name apart e
] refl

fold_distinct : (done names : List (List ℕ)) → AreDistinct done → AreDistinct (fold touch done names)
fold_distinct done [] apart = apart
fold_distinct done (name ∷ names) apart = fold_distinct (touch done name) names (touch_distinct done name apart)

pub firsts_distinct : (names : List (List ℕ)) → AreDistinct (firsts names)
firsts_distinct names = fold_distinct [] names tt

item_paths : (spec : LayerSpec) (layer : LayerState) (names : List (List ℕ)) → paths_in (each (item_image spec layer.table) names) ≡ each (path_in spec) names
item_paths spec layer [] = refl
item_paths spec layer (n ∷ names) = ap (λ l. path_in spec n ∷ l) (item_paths spec layer names)

prefix_paths : (spec : LayerSpec) (layer : LayerState) (names : List (List ℕ)) → paths_in (each (prefix_image spec layer.table) names) ≡ each (path_in spec) names
prefix_paths spec layer [] = refl
prefix_paths spec layer (n ∷ names) = ap (λ l. path_in spec n ∷ l) (prefix_paths spec layer names)

own_of : (sort : LayerSort) (spec : LayerSpec) (layer : LayerState) → AreOwn sort spec (cond (is_pipe sort) [] (images_by sort spec layer))
own_of File spec layer = one_at_most (is_nil layer.touched) where
  one_at_most : (b : Bool) → AreOwn File spec (cond b [] (image_of spec layer.table layer.old ∷ []))
  one_at_most true = inl refl
  one_at_most false = inr (image_of spec layer.table layer.old, refl, refl)
own_of Tree spec layer = record { names = firsts layer.touched; apart = firsts_distinct layer.touched; paths = item_paths spec layer (firsts layer.touched) }
own_of Pack spec layer = record { names = firsts (each prefix layer.touched); apart = firsts_distinct (each prefix layer.touched); paths = prefix_paths spec layer (firsts (each prefix layer.touched)) }
own_of Pipe spec layer = refl

pub layers_of : (layers : List LayerState) (specs : List LayerSpec) → AreSetUpFor layers specs → AreOf specs (all_images (each file_images layers))
layers_of [] [] e = refl
layers_of [] (spec ∷ specs) e = absurd e
layers_of (layer ∷ layers) [] e = absurd e
layers_of (layer ∷ layers) (spec ∷ specs) e =
    let found : file_images layer ≡ cond (is_pipe spec.sort) [] (images_by spec.sort spec layer) = (λ i. cond (is_pipe (e.0.1 i)) [] (option_map_or (λ s. images_by (e.0.1 i) s layer) (e.0.0 i) [])) in
    (file_images layer, all_images (each file_images layers), refl, subst (AreOwn spec.sort spec) (sym found) (own_of spec.sort spec layer), layers_of layers specs e.1)
