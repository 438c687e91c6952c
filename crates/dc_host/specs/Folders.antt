-- The folders that changed.
use Rattle.std.specs.Prelude.{◌≡◌, ℕ, List, [], ◌∷◌, ◌++◌, Option, Some, None}
use Rattle.std.specs.Coded.{Coded, coded_list, coded_ℕ}
use Rattle.std.specs.FinMap as map
use Rattle.std.specs.Path.{path_parent}
use Rattle.dc_text.specs.Maps.{TextSet}
use base.Stored.{coded_unit}

-- how sets of folders are told apart
abbrev pub folders_code : Coded TextSet
folders_code = map.code (coded_list coded_ℕ) coded_unit

-- the folder, where it has a name, and else the one that the program runs in
abbrev pub named_folder : List ℕ → List ℕ
named_folder [] = 46 ∷ []
named_folder (byte ∷ bytes) = byte ∷ bytes

-- what stands above a path, or else the folder that the program runs in
abbrev pub above_or_here : Option (List ℕ) → List ℕ
above_or_here None = 46 ∷ []
above_or_here (Some folder) = named_folder folder

-- the folder that holds the entry of a path
abbrev pub folder_of : List ℕ → List ℕ
folder_of path = above_or_here (path_parent path)

-- the folders, and that of the path
abbrev pub with_folder_of : TextSet → List ℕ → TextSet
with_folder_of folders path = map.insert folders (folder_of path) tt

-- the folder of the path is kept
abbrev pub IsKept : TextSet → List ℕ → Type 0
IsKept folders path = map.get folders (folder_of path) ≡ Some tt

-- each folder that was kept still is
abbrev pub Keeps : TextSet → TextSet → Type 0
Keeps before now = (folder : List ℕ) → map.get before folder ≡ Some tt → map.get now folder ≡ Some tt

-- the path of a name in a folder. A folder or a name without bytes adds nothing
abbrev pub joined : List ℕ → List ℕ → List ℕ
joined [] name = name
joined (byte ∷ bytes) [] = byte ∷ bytes
joined (byte ∷ bytes) (first ∷ others) = (byte ∷ bytes) ++ 47 ∷ first ∷ others
