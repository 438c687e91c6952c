-- Texts that were seen, among others.
use Rattle.std.proofs.Common.{◌≡◌, ℕ, Bool, true, false, List, [], ◌∷◌, ◌++◌, map as each, refl, sym, ap, ◌∙◌}
use Rattle.std.specs.Prelude.{◌||◌}
use Rattle.std.specs.List.{list_any}
use Rattle.std.specs.Str.{bytes_eq}
use Rattle.dc_text.specs.Bytes.{is_nil}
use Rattle.dc_template.proofs.TestLemmas.{list_any-append}

pub none_in : (p : List ℕ → Bool) (texts : List (List ℕ)) → is_nil texts ≡ true → list_any p texts ≡ false
none_in p [] is = refl
none_in p (text ∷ texts) is = absurd (cc)

module _ {Y : Type 0} (g : Y → List ℕ) where
  -- a text is looked for among the texts that these are
  pub any-each : (same : Y → Bool) (q : List ℕ) → ((y : Y) → same y ≡ bytes_eq q (g y)) → (ys : List Y) → list_any same ys ≡ list_any (bytes_eq q) (each g ys)
  any-each same q is [] = refl
  any-each same q is (y ∷ ys) = λ i. is y i || any-each same q is ys i

  -- and among others
  pub any-both : (q : List ℕ) (ys : List Y) (others all : List (List ℕ)) → each g ys ++ others ≡ all → list_any (bytes_eq q) all ≡ (list_any (λ y. bytes_eq q (g y)) ys || list_any (bytes_eq q) others)
  any-both q ys others all whole =
      ap (list_any (bytes_eq q)) (sym whole) ∙ list_any-append (bytes_eq q) (each g ys) others
      ∙ ap (λ b. b || list_any (bytes_eq q) others) (sym (any-each (λ y. bytes_eq q (g y)) q (λ y. refl) ys))
