-- The questions that templates lose, by the templates.
use Rattle.std.specs.Prelude.{ℕ, List, [], map as each, option_map, unwrap_or}
use Rattle.std.specs.List.{filter, filter_map}
use Rattle.std.specs.Str.{bytes_eq}
use Rattle.std.specs.FinMap as map
use Rattle.dc_text.specs.Maps.{Texts, set_of}
use Rattle.dc_item.specs.declared.op.Op.TheVariants.{DropOwners}
use Rattle.dc_layer.specs.State.{LayerState}
use Rattle.dc_store.specs.Batches.{Write}
use Rattle.dc_question.specs.Ownership.{template_write, loser_of}
use Rattle.dc_question.specs.Questions.{QuestionContext}

-- each question that a template loses with the owner, behind the name of the template
abbrev pub pairs_lost : List LayerState → QuestionContext → List ℕ → List (List ℕ) → List (List ℕ × List ℕ)
pairs_lost layers at owner names = filter_map (λ name. option_map (λ t. (t, name)) (loser_of layers at owner name)) names

-- the names that stand behind a name
abbrev pub behind : List ℕ → List (List ℕ × List ℕ) → List (List ℕ)
behind first pairs = each (λ p. p.1) (filter (λ p. bytes_eq first p.0) pairs)

-- each first name of the pairs, in byte order, with those that stand behind it
abbrev pub grouped : List (List ℕ × List ℕ) → List (List ℕ × List (List ℕ))
grouped pairs = each (λ t. (t, behind t pairs)) (map.keys (set_of (each (λ p. p.0) pairs)))

-- the names that a map of lists holds at a name
abbrev pub held_at : Texts (List (List ℕ)) → List ℕ → List (List ℕ)
held_at held t = unwrap_or (map.get held t) []

-- the writes by which templates lose questions
abbrev pub losses_of : List LayerState → QuestionContext → List (List ℕ × List (List ℕ)) → List Write
losses_of layers at groups = each (λ g. template_write layers at g.0 (DropOwners g.1) g.1) groups
