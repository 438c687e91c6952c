use Rattle.std.proofs.Common.{rules, ◌≡◌, ℕ, List, ◌++◌, Some, sym, ap, ◌∙◌}
use Rattle.std.specs.Prelude.{nat_eq, codes}
use Rattle.std.proofs.lemmas.Bool.Decides.{Decides-eqb}
use Rattle.std.proofs.lemmas.Slice.Eq.{strip_suffix_is}
use Rattle.dc_host.proofs.paths.place_of_new.Goals as goal

pub returns-in-Ok : goal.returns-in-Ok
returns-in-Ok c =
    let front : List ℕ = c.in-Some.place.now in
    let split : c.as_bytes.result.now ≡ front ++ c.as_slice.result.now = strip_suffix_is {E = nat_eq} Decides-eqb c.as_bytes.result.now c.as_slice.result.now (Some c.in-Some.place) c.in-Some.ensures.cases in
    let same : c.in-Ok.place.now ≡ front = search rules in
    ap (λ (p : List ℕ). p ++ codes "-new") same ∙ ap (λ (end : List ℕ). front ++ end) (sym c.as_slice.ensures) ∙ sym split ∙ c.as_bytes.ensures.value
