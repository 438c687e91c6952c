use Rattle.std.proofs.Common.{◌≡◌, ◌∷◌, ◌++◌, [], List, ℕ, map as each, refl, sym, ap, ◌∙◌, append_assoc}
use Rattle.std.specs.FinMap.{insert, keys}
use Rattle.std.specs.List.{list_all}
use Rattle.std.proofs.lemmas.List.{map-append, append-nil}
use Rattle.dc_text.specs.Maps.{set_of}
use Rattle.dc_text.specs.Names.{is_name}
use Rattle.dc_text.proofs.MapLemmas.{set_of-push}
use Rattle.dc_item.specs.Item.{ItemParts}
use Rattle.dc_item.specs.Owners.{owners_left}
use Rattle.dc_item.proofs.ItemLemmas.{all_keys, first_passes, set_of-keys}
use Rattle.dc_item.proofs.item_builder.ItemBuilder.put_owners_of.Goals as goal

pub put_owner-requires : goal.put_owner-requires
put_owner-requires c =
    (first_passes is_name (owners_left c.loop-owner.owner-iterator) (owners_left c.next.new.self) c.in-Some.owner.now c.in-Some.ensures.steps c.loop-owner.invariant.named).0

pub loop-owner-preserved : goal.loop-owner-preserved
loop-owner-preserved c =
    let name = c.in-Some.owner.now in
    let more = map-append (λ name. name.now) c.loop-owner.yielded (c.in-Some.owner ∷ []) in
    let before : List (List ℕ) = each (λ name. name.now) c.loop-owner.yielded in
    record {
      put = c.in_ok-put_owner.ensures.ok ∙ ap (λ (p : ItemParts). record p { owners = insert p.owners name tt }) c.loop-owner.invariant.put
          ∙ ap (λ s. record c.args.self.now { owners = s }) (sym (ap set_of more ∙ set_of-push before name));
      left = ap (λ l. l ++ owners_left c.next.new.self) more ∙ append_assoc before (name ∷ []) (owners_left c.next.new.self) ∙ ap (λ l. before ++ l) (sym c.in-Some.ensures.steps) ∙ c.loop-owner.invariant.left;
      named = (first_passes is_name (owners_left c.loop-owner.owner-iterator) (owners_left c.next.new.self) name c.in-Some.ensures.steps c.loop-owner.invariant.named).1;
    }

pub loop-owner-init : goal.loop-owner-init
loop-owner-init c =
    let left = ap owners_left c.into_iter-owner-iterator.ensures.into_iter_gives ∙ c.owners-owner-items.ensures.owners in
    record {
      put = ap (λ s. record c.args.self.now { owners = s }) c.requires;
      left = left;
      named = ap (list_all is_name) left ∙ all_keys is_name c.args.item.now.owners c.owners-owner-items.ensures.item.owners;
    }

pub returns : goal.returns
returns c =
    let before : List (List ℕ) = each (λ name. name.now) c.loop-owner.yielded in
    let all : before ≡ keys c.args.item.now.owners = sym (append-nil before) ∙ ap (λ l. before ++ l) (sym c.in-None.ensures.steps.0) ∙ c.loop-owner.invariant.left in
    c.loop-owner.invariant.put ∙ ap (λ s. record c.args.self.now { owners = s }) (ap set_of all ∙ set_of-keys c.args.item.now.owners)
