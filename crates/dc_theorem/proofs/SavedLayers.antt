-- Layers that were saved answer as before.
use Rattle.std.proofs.Common.{◌≡◌, ℕ, List, [], ◌∷◌, Option, Some, None, option_map, map as each, refl, sym, ap, ◌∙◌}
use Rattle.std.specs.Prelude.{codes, option_and_then, slice_get}
use Rattle.std.specs.FinMap as map
use Rattle.std.specs.Option.{option_or}
use Rattle.std.proofs.lemmas.Option.{slice_get-map}
use Rattle.dc_conf.specs.Plans.{leaves}
use Rattle.dc_conf.specs.Trees.{Tree}
use Rattle.dc_item.specs.Item.{ItemParts}
use Rattle.dc_layer.specs.State.{LayerState, saved}
use Rattle.dc_question.specs.Questions.{QuestionContext}
use Rattle.dc_question.specs.Readings.{kind_by, template_of, value_of}
use Rattle.dc_store.proofs.Searches.{look_step}
use Rattle.dc_store.specs.Holders.{item_at, look_of}
use Rattle.dc_store.specs.Plans.{look}
use Rattle.dc_dump.specs.Saying.{answer_at}
use Rattle.dc_dump.specs.declared.answers.Answer.{Answer}

module _ (ls : List LayerState) where
  item_saved : (place : ℕ) (name : List ℕ) → item_at (each saved ls) place name ≡ item_at ls place name
  item_saved place name =
      ap (option_and_then (λ (layer : LayerState). map.get layer.table name)) (slice_get-map saved ls place)
      ∙ by_layer (slice_get ls place) where
        by_layer : (o : Option LayerState) → option_and_then (λ (layer : LayerState). map.get layer.table name) (option_map saved o) ≡ option_and_then (λ (layer : LayerState). map.get layer.table name) o
        by_layer None = refl
        by_layer (Some layer) = refl

  seen_saved : (ps name : List ℕ) → look_of (each saved ls) ps name ≡ look_of ls ps name
  seen_saved [] name = refl
  seen_saved (p ∷ ps) name =
      look_step (each saved ls) p ps name ∙ (λ i. option_or (item_saved p name i) (seen_saved ps name i)) ∙ sym (look_step ls p ps name)

  pub look_saved : (plan : Tree) (name : List ℕ) → look (each saved ls) plan name ≡ look ls plan name
  look_saved plan name = seen_saved (leaves plan) name

  -- an answer, by what is seen of questions and of templates
  abbrev answer_by : QuestionContext → (List ℕ → Option ItemParts) → ItemParts → Answer
  answer_by at templates item = record {
    owners = map.keys item.owners;
    kind = kind_by (template_of templates item);
    value = value_of at.lang item (template_of templates item);
    seen = map.contains_key item.flags (codes "seen");
  }

  pub answer_saved : (at : QuestionContext) (name : List ℕ) → answer_at (each saved ls) at name ≡ answer_at ls at name
  answer_saved at name = λ i. option_map (answer_by at (λ n. look_saved at.templates n i)) (look_saved at.config name i)
