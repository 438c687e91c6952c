use Rattle.std.proofs.Common.{◌≡◌, ap, ◌∙◌, subst}
use Rattle.std.specs.Prelude.{IfOk}
use Rattle.std.specs.List.{list_all}
use Rattle.dc_text.specs.Names.{is_name}
use Rattle.dc_item.proofs.ItemLemmas.{all_keys}
use Rattle.dc_item.proofs.item.Item.owner_names.Goals as goal

pub names_of-requires : goal.names_of-requires
names_of-requires c = ap (list_all is_name) c.owners.ensures.owners ∙ all_keys is_name c.args.self.now.owners c.owners.ensures.item.owners

pub returns : goal.returns
returns c = subst (λ l. IfOk c.names_of.result (λ names. names ≡ l)) c.owners.ensures.owners c.names_of.ensures
