use Rattle.std.proofs.Common.{◌≡◌, ◌≢◌, ℕ, List, ◌++◌, Some, None, sym, ap, ◌∙◌}
use Rattle.std.specs.Prelude.{nat_eq, codes}
use Rattle.std.specs.List.{ends_with}
use Rattle.std.proofs.lemmas.Bool.Decides.{Decides-eqb}
use Rattle.std.proofs.lemmas.Slice.Eq.{strip_suffix_is}
use Rattle.dc_layer.proofs.FolderLemmas.{ends_joined, ends_apart}
use Rattle.dc_layer.proofs.folders.is_like_a_new_file.Goals as goal

pub returns-in-Some : goal.returns-in-Some
returns-in-Some c =
    let front = c.in-Some.front.now in
    let extension = c.args.extension.now in
    let split : c.args.folder.now ≡ front ++ c.as_slice.result.now = strip_suffix_is {E = nat_eq} Decides-eqb c.args.folder.now c.as_slice.result.now (Some c.in-Some.front) c.in-Some.ensures.cases in
    c.ends_with.ensures.value ∙ sym (ends_joined front extension (codes "-new"))
    ∙ ap (λ text. ends_with nat_eq text (extension ++ codes "-new")) (sym (split ∙ ap (λ end. front ++ end) c.as_slice.ensures))

pub returns-in-None : goal.returns-in-None
returns-in-None c =
    let none : (front : List ℕ) → c.args.folder.now ≢ front ++ c.as_slice.result.now = strip_suffix_is {E = nat_eq} Decides-eqb c.args.folder.now c.as_slice.result.now None c.in-None.ensures.cases in
    sym (ends_apart c.args.folder.now c.args.extension.now (codes "-new") (λ front e. none front (e ∙ ap (λ end. front ++ end) (sym c.as_slice.ensures))))
