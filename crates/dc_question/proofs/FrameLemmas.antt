-- What no call on questions changes.
use Rattle.std.proofs.Common.{◌≡◌, ℕ, List, [], ◌∷◌, refl, subst, ◌∙◌}
use Rattle.std.specs.List.{All}
use Rattle.std.proofs.lemmas.List.Elements.{All-contains}
use Rattle.dc_layer.specs.State.{LayerState}
use Rattle.dc_store.proofs.Frames.{same_layers, same_layers_then}
use Rattle.dc_store.proofs.RowLemmas.{same_all_refl}
use Rattle.dc_store.specs.StoreLaws.{AreSameBut, AreSameButAll}
use Rattle.dc_question.specs.Asked.{QuestionsState, SameBut, SameButAll}

pub same_asked : (name : List ℕ) (q : QuestionsState) → SameBut name q q
same_asked name q = record { others = same_layers name q.store.layers; count = refl; context = refl; borrows = refl }

pub all_same_asked : (names : List (List ℕ)) (q : QuestionsState) → SameButAll names q q
all_same_asked names q = record { others = same_all_refl names q.store.layers; count = refl; context = refl; borrows = refl }

pub same_asked_then : (name : List ℕ) (a b c : QuestionsState) → SameBut name a b → SameBut name b c → SameBut name a c
same_asked_then name a b c first second = record {
  others = same_layers_then name a.store.layers b.store.layers c.store.layers first.others second.others;
  count = second.count ∙ first.count;
  context = second.context ∙ first.context;
  borrows = second.borrows ∙ first.borrows;
}

pub same_named : (names others : List (List ℕ)) (old new : QuestionsState) → names ≡ others → SameButAll names old new → SameButAll others old new
same_named names others old new are same = subst (λ ns. SameButAll ns old new) are same

-- all of the names are one
one_layers : (name : List ℕ) (names : List (List ℕ)) (xs ys : List LayerState) → All (λ n. n ≡ name) names → AreSameButAll names xs ys → AreSameBut name xs ys
one_layers name names [] [] all same = tt
one_layers name names [] (y ∷ ys) all same = absurd same
one_layers name names (x ∷ xs) [] all same = absurd same
one_layers name names (x ∷ xs) (y ∷ ys) all same = (
  record {
    sort = same.0.sort;
    spec = same.0.spec;
    left_out = same.0.left_out;
    text = same.0.text;
    items = λ other differs. same.0.items other (λ in'. differs (All-contains (λ n. n ≡ name) names other all in'));
  },
  one_layers name names xs ys all same.1,
)

pub one_named : (name : List ℕ) (names : List (List ℕ)) (old new : QuestionsState) → All (λ n. n ≡ name) names → SameButAll names old new → SameBut name old new
one_named name names old new all same = record {
  others = one_layers name names old.store.layers new.store.layers all same.others;
  count = same.count;
  context = same.context;
  borrows = same.borrows;
}
