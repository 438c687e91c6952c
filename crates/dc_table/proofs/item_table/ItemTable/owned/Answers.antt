use Rattle.std.proofs.Common.{◌≡◌, ◌++◌, map as each, ap, ◌∙◌, subst}
use Rattle.std.specs.List.{list_all}
use Rattle.std.specs.FinMap as map
use Rattle.dc_text.specs.Names.{is_name}
use Rattle.dc_table.specs.Tracked.{owned_in}
use Rattle.dc_table.proofs.TableLemmas.{AreNamed, firsts, names_are_names}
use Rattle.dc_table.proofs.item_table.ItemTable.owned.Goals as goal

pub loop-name-init : goal.loop-name-init
loop-name-init c =
    let listed : each (λ e. (e.0.now, e.1.now)) c.deref-name-items.result.now ≡ map.entries c.args.self.now.items = ap (each (λ e. (e.0.now, e.1.now))) c.deref-name-items.ensures.value ∙ c.in_ok-order.ensures in
    let named : AreNamed c.args.self.now.items = subst (λ t. AreNamed t.items) c.self.view_is c.self.invariant.0 in
    record {
      so_far = ap (λ l. l ++ owned_in (each (λ e. (e.0.now, e.1.now)) c.deref-name-items.result.now) c.args.owner.now) c.new-names.ensures ∙ ap (λ es. owned_in es c.args.owner.now) listed;
      named = ap (λ es. list_all is_name (firsts es)) listed ∙ names_are_names c.args.self.now.items named;
    }
