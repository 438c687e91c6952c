-- Databases in folders (debconf.conf(5), DirTree and PackageDir): which names have a file there, and where it is.
use Rattle.std.specs.Prelude.{ℕ, ◌-◌, Bool, true, not, ◌&&◌, ◌||◌, nat_le, nat_eq, List, ◌∷◌, ◌++◌, length, take, codes, ◌==◌}
use Rattle.std.specs.List.{list_all, list_any, slice_split, before_first, ends_with}
use Rattle.dc_text.specs.Ascii.{slash}
use Rattle.dc_conf.specs.declared.spec.LayerSort.{LayerSort}
use Rattle.dc_conf.specs.declared.spec.LayerSort.TheVariants.{File, Tree, Pack, Pipe}
use Rattle.dc_conf.specs.declared.spec.LayerSpec.{LayerSpec}

-- the parts of a name, between its slashes
abbrev pub parts : List ℕ → List (List ℕ)
parts name = slice_split (λ byte. byte == slash) name

-- the parts before the last, each of which is a folder where each item has a file
abbrev pub folders : List ℕ → List (List ℕ)
folders name = take (length (parts name) - 1) (parts name)

-- the part before the first slash, and the whole where there is none
abbrev pub prefix : List ℕ → List ℕ
prefix name = before_first (λ byte. byte == slash) name

-- a file may have it in its name, with what is written beside it
abbrev pub is_short : List ℕ → Bool
is_short part = nat_le (length part) 200

-- a folder of this name could be taken for an item's file, or for one that is being written
abbrev pub is_like_a_file : List ℕ → List ℕ → Bool
is_like_a_file extension folder = ends_with nat_eq folder extension || ends_with nat_eq folder (extension ++ codes "-new")

-- the item of this name can have a file of its own
abbrev pub fits_tree : List ℕ → List ℕ → Bool
fits_tree extension name = list_all is_short (parts name) && not (list_any (is_like_a_file extension) (folders name))

-- a database of this sort, whose files end in the extension, has a place for an item of this name
abbrev pub has_place_for : LayerSort → List ℕ → List ℕ → Bool
has_place_for File extension name = true
has_place_for Tree extension name = fits_tree extension name
has_place_for Pack extension name = is_short (prefix name)
has_place_for Pipe extension name = true

-- the path of the file of this name in the folder of the database
abbrev pub path_in : LayerSpec → List ℕ → List ℕ
path_in spec name = spec.place ++ slash ∷ name ++ spec.extension
