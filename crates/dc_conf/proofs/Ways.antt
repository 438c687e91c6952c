-- The test of reaching is its rule.
use Rattle.std.proofs.Common.{◌≡◌, Bool, true, false, ◌||◌, ◌&&◌, List, [], ◌∷◌, ◌++◌, refl, ap, subst, ◌∙◌, ⊎_elim, inl, inr}
use Rattle.std.specs.Prelude.{◌⊎◌}
use Rattle.dc_conf.specs.Reaching.{IsWay, Reaches, by_way}

or_left : (a b : Bool) → a ≡ true → (a || b) ≡ true
or_left a b h = ap (λ c. c || b) h

or_right : (a b : Bool) → b ≡ true → (a || b) ≡ true
or_right true b h = refl
or_right false b h = h

pub or_cases : (a b : Bool) → (a || b) ≡ true → (a ≡ true) ⊎ (b ≡ true)
or_cases true b h = inl refl
or_cases false b h = inr h

and_both : (a b : Bool) → a ≡ true → b ≡ true → (a && b) ≡ true
and_both a b h k = ap (λ c. c && b) h ∙ k

pub and_parts : (a b : Bool) → (a && b) ≡ true → (a ≡ true) × (b ≡ true)
and_parts true b h = (refl, h)
and_parts false b h = cc

module _ {X : Type 0} (names : X → X → Bool) where
  abbrev pub Among : List X → X → Type 0
  Among [] x = ⊥
  Among (y ∷ ys) x = (x ≡ y) ⊎ Among ys x

  pub direct : (cs : List X) (a b : X) → names a b ≡ true → by_way names cs a b ≡ true
  direct [] a b h = h
  direct (c ∷ cs) a b h = or_left (by_way names cs a b) (by_way names cs a c && by_way names cs c b) (direct cs a b h)

  over : (c : X) (cs : List X) (a b : X) → by_way names cs a c ≡ true → by_way names cs c b ≡ true → by_way names (c ∷ cs) a b ≡ true
  over c cs a b h k = or_right (by_way names cs a b) (by_way names cs a c && by_way names cs c b) (and_both (by_way names cs a c) (by_way names cs c b) h k)

  -- without it, or to it and from it
  cases : (c : X) (cs : List X) (a b : X) → by_way names (c ∷ cs) a b ≡ true → (by_way names cs a b ≡ true) ⊎ ((by_way names cs a c ≡ true) × (by_way names cs c b ≡ true))
  cases c cs a b h =
      ⊎_elim (λ one. inl one) (λ two. inr (and_parts (by_way names cs a c) (by_way names cs c b) two)) (or_cases (by_way names cs a b) (by_way names cs a c && by_way names cs c b) h)

  -- to one of them, and from it on
  pub through : (cs : List X) (a b c : X) → Among cs c → by_way names cs a c ≡ true → by_way names cs c b ≡ true → by_way names cs a b ≡ true
  through [] a b c m h k = absurd m
  through (d ∷ cs) a b c (inl same) h k =
      let h' : by_way names (d ∷ cs) a d ≡ true = subst (λ x. by_way names (d ∷ cs) a x ≡ true) same h in
      let k' : by_way names (d ∷ cs) d b ≡ true = subst (λ x. by_way names (d ∷ cs) x b ≡ true) same k in
      over d cs a b (⊎_elim (λ one. one) (λ two. two.0) (cases d cs a d h')) (⊎_elim (λ one. one) (λ two. two.1) (cases d cs d b k'))
  through (d ∷ cs) a b c (inr m) h k =
      ⊎_elim
      (λ ac. ⊎_elim
      (λ cb. or_left (by_way names cs a b) (by_way names cs a d && by_way names cs d b) (through cs a b c m ac cb))
      (λ cb. over d cs a b (through cs a d c m ac cb.0) cb.1)
      (cases d cs c b k))
      (λ ac. ⊎_elim
      (λ cb. over d cs a b ac.0 (through cs d b c m ac.1 cb))
      (λ cb. over d cs a b ac.0 cb.1)
      (cases d cs c b k))
      (cases d cs a c h)

  -- what is named is among them
  pub complete : (cs : List X) → ((x y : X) → names x y ≡ true → Among cs y) → (way : List X) (a b : X) → IsWay names a way b → by_way names cs a b ≡ true
  complete cs all [] a b h = direct cs a b h
  complete cs all (c ∷ way) a b h = through cs a b c (all a c h.0) (direct cs a c h.0) (complete cs all way c b h.1)

  joined : (one two : List X) (a c b : X) → IsWay names a one c → IsWay names c two b → IsWay names a (one ++ c ∷ two) b
  joined [] two a c b h k = (h, k)
  joined (d ∷ one) two a c b h k = (h.0, joined one two d c b h.1 k)

  pub sound : (cs : List X) (a b : X) → by_way names cs a b ≡ true → Reaches names a b
  sound [] a b h = record { way = []; is_way = h }
  sound (c ∷ cs) a b h =
      ⊎_elim (λ one. sound cs a b one)
      (λ two. let to = sound cs a c two.0 in let from = sound cs c b two.1 in record { way = to.way ++ c ∷ from.way; is_way = joined to.way from.way a c b to.is_way from.is_way })
      (cases c cs a b h)
