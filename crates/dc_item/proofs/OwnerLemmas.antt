-- The owners among entries, from the first entry on.
use Rattle.std.proofs.Common.{◌≡◌, ℕ, true, false, cond, List, [], ◌∷◌, map as each, ap, ◌∙◌}
use Rattle.std.specs.List.{filter}
use Rattle.dc_item.specs.Sections.{has_mark, unmarked, keys_under, owners_mark}

abbrev Entries : Type 0
Entries = List (List ℕ × List ℕ)

module _ (entries rest : Entries) (key value : List ℕ) (is : entries ≡ (key, value) ∷ rest) where
  abbrev others : Entries
  others = filter (λ entry. has_mark owners_mark entry.0) rest

  pub owner_here : has_mark owners_mark key ≡ true → keys_under owners_mark entries ≡ unmarked key ∷ keys_under owners_mark rest
  owner_here e =
      ap (keys_under owners_mark) is
      ∙ ap (λ b. each (λ (entry : List ℕ × List ℕ). entry.0) (each (λ (entry : List ℕ × List ℕ). (unmarked entry.0, entry.1)) (cond b ((key, value) ∷ others) others))) e

  pub no_owner : has_mark owners_mark key ≡ false → keys_under owners_mark entries ≡ keys_under owners_mark rest
  no_owner e =
      ap (keys_under owners_mark) is
      ∙ ap (λ b. each (λ (entry : List ℕ × List ℕ). entry.0) (each (λ (entry : List ℕ × List ℕ). (unmarked entry.0, entry.1)) (cond b ((key, value) ∷ others) others))) e
