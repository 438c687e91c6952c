use Rattle.std.proofs.Common.{◌≡◌, rules, None, Some, is_some, sym, ap, ◌∙◌, subst}
use Rattle.std.specs.FinMap as map
use Rattle.std.specs.List.{IsDistinct, position_or_len}
use Rattle.std.specs.Map.{keys_of, lookup}
use Rattle.std.specs.Str.{bytes_eq}
use Rattle.std.proofs.lemmas.Slice.Eq.{bytes_eq-Decides}
use Rattle.dc_text.specs.Names.{is_name}
use Rattle.indexmap.specs.Entry.{entry_map, entry_value, entry_key, entry_index, map_with_value}
use Rattle.indexmap.specs.declared.map.entry.Entry.TheVariants.{Occupied, Vacant}
use Rattle.dc_item.specs.After.{after_at, effect_of}
use Rattle.dc_item.specs.declared.effect.Effect.TheVariants.{Same, Changed}
use Rattle.dc_item.specs.declared.op.After.TheVariants as made
use Rattle.dc_item.specs.declared.op.Op.TheVariants.{Put}
use Rattle.dc_table.specs.Marks.{marks_of, with_mark}
use Rattle.dc_table.specs.Tracked.{with_made}
use Rattle.dc_table.proofs.TableLemmas.{here, made_same, made_changed}
use Rattle.dc_table.proofs.WriteLemmas.{shown, IsSound, written, written_sound}
use Rattle.dc_table.proofs.item_table.ItemTable.put.Goals as goal
use Rattle.dc_table.proofs.item_table.ItemTable.put.Goals.{in-Put-3, in-SetField-3, in-DropField-3, in-SetFlag-3, in-SetVar-3, in-AddOwner-3, in-DropOwners-3}

pub returns-in-Same-clause-told : goal.returns-in-Same-clause-told
returns-in-Same-clause-told c =
    let table = c.args.self.now.items in
    let name = c.args.name in
    let es = c.self.inside.items.entries in
    let k = c.of.result in
    let stood : Some c.get.result.now ≡ lookup (bytes_eq k) es = sym c.get.ensures ∙ ap entry_value (sym c.in-Occupied.is) ∙ c.in_ok-entry.ensures.value in
    let there : map.get table name ≡ Some c.get.result.now = here table es k name (Some c.get.result.now) (ap (λ t. t.items) c.self.view_is) c.of.ensures.value stood in
    let told : Same ≡ effect_of (after_at (Put c.args.item) (map.get table name)) = sym c.in-Same.is ∙ c.in_ok-effect-in-Occupied.ensures ∙ ap (λ o. effect_of (after_at (Put c.args.item) o)) (sym there) in
    told

pub returns-in-Same-clause-ok : goal.returns-in-Same-clause-ok
returns-in-Same-clause-ok c =
    let table = c.args.self.now.items in
    let name = c.args.name in
    let es = c.self.inside.items.entries in
    let k = c.of.result in
    let stood : Some c.get.result.now ≡ lookup (bytes_eq k) es = sym c.get.ensures ∙ ap entry_value (sym c.in-Occupied.is) ∙ c.in_ok-entry.ensures.value in
    let there : map.get table name ≡ Some c.get.result.now = here table es k name (Some c.get.result.now) (ap (λ t. t.items) c.self.view_is) c.of.ensures.value stood in
    let told : Same ≡ effect_of (after_at (Put c.args.item) (map.get table name)) = sym c.in-Same.is ∙ c.in_ok-effect-in-Occupied.ensures ∙ ap (λ o. effect_of (after_at (Put c.args.item) o)) (sym there) in
    let marks = marks_of c.self.inside.touched in
    let now : c.in-Occupied.entry.map.now ≡ entry_map c.in_ok-entry.field-0 = ap entry_map (sym c.in-Occupied.is) in
    let lands : (x : _) → x ≡ c.in-Occupied.entry.map.now → shown x.entries marks ≡ c.args.self.now = λ x is. ap (λ m. shown m.entries marks) (is ∙ now) ∙ ap (λ l. shown l marks) c.in_ok-entry.ensures.unchanged ∙ c.self.view_is in
    let kept : c.match-op-2.self ≡ c.args.self.now =
    elim c.match-op-2.branch as (λ _. c.match-op-2.self ≡ c.args.self.now) [
      | in-Put-3 w ↦ w.self-is ∙ search (rules, lands)
      | in-SetField-3 w ↦ w.self-is ∙ search rules
      | in-DropField-3 w ↦ w.self-is ∙ search rules
      | in-SetFlag-3 w ↦ w.self-is ∙ search rules
      | in-SetVar-3 w ↦ w.self-is ∙ search rules
      | in-AddOwner-3 w ↦ w.self-is ∙ search rules
      | in-DropOwners-3 w ↦ w.self-is ∙ search rules
    ] in
    kept ∙ ap (with_made c.args.self.now name) (sym (made_same (Put c.args.item) (map.get table name) told (ap is_some there)))

pub invariant_of-self-in-Changed : goal.invariant_of-self-in-Changed
invariant_of-self-in-Changed c =
    let table = c.args.self.now.items in
    let name = c.args.name in
    let es = c.self.inside.items.entries in
    let k = c.of.result in
    let e = c.in_ok-entry.ensures in
    let w = c.put_over.new.item in
    let marks = marks_of c.self.inside.touched in
    let more = marks_of c.touch-in-Changed.new.self in
    let place = c.index-in-Changed.result in
    let at : place ≡ position_or_len (bytes_eq k) (keys_of es) = c.index-in-Changed.ensures ∙ ap entry_index (sym c.in-Occupied.is) ∙ e.index in
    let key : c.bytes-in-Changed.result.now ≡ k = c.bytes-in-Changed.ensures ∙ c.key-in-Changed.ensures ∙ ap entry_key (sym c.in-Occupied.is) ∙ sym ((bytes_eq-Decides k _).0 e.same_key) in
    let marked : more ≡ with_mark marks place k = c.in_ok-touch-in-Changed.ensures.ok ∙ ap (with_mark marks place) key in
    let entry = Occupied c.in-Occupied.entry in
    let last = map_with_value entry w in
    let known : last ≡ map_with_value c.in_ok-entry.field-0 w = ap (λ e. map_with_value e w) (sym c.in-Occupied.is) in
    let lands : (fs : _) → fs ≡ last.entries → IsSound fs more
    = λ fs is. let all : fs ≡ (map_with_value c.in_ok-entry.field-0 w).entries = is ∙ ap (λ m. m.entries) known in written_sound es fs k w marks more place (all ∙ e.update.1 w) at (subst (λ l. IsDistinct bytes_eq (keys_of l)) (sym all) (e.update.2 w)) marked c.self.invariant (ap is_name c.of.ensures.value ∙ c.of.ensures.name) in
    lands _ (search rules)

pub returns-in_ok-touch-in-Changed-clause-told : goal.returns-in_ok-touch-in-Changed-clause-told
returns-in_ok-touch-in-Changed-clause-told c =
    let table = c.args.self.now.items in
    let name = c.args.name in
    let es = c.self.inside.items.entries in
    let k = c.of.result in
    let stood : Some c.get.result.now ≡ lookup (bytes_eq k) es = sym c.get.ensures ∙ ap entry_value (sym c.in-Occupied.is) ∙ c.in_ok-entry.ensures.value in
    let there : map.get table name ≡ Some c.get.result.now = here table es k name (Some c.get.result.now) (ap (λ t. t.items) c.self.view_is) c.of.ensures.value stood in
    let told : Changed ≡ effect_of (after_at (Put c.args.item) (map.get table name)) = sym c.in-Changed.is ∙ c.in_ok-effect-in-Occupied.ensures ∙ ap (λ o. effect_of (after_at (Put c.args.item) o)) (sym there) in
    told

pub returns-in_ok-touch-in-Changed-clause-ok : goal.returns-in_ok-touch-in-Changed-clause-ok
returns-in_ok-touch-in-Changed-clause-ok c =
    let table = c.args.self.now.items in
    let name = c.args.name in
    let es = c.self.inside.items.entries in
    let k = c.of.result in
    let stood : Some c.get.result.now ≡ lookup (bytes_eq k) es = sym c.get.ensures ∙ ap entry_value (sym c.in-Occupied.is) ∙ c.in_ok-entry.ensures.value in
    let there : map.get table name ≡ Some c.get.result.now = here table es k name (Some c.get.result.now) (ap (λ t. t.items) c.self.view_is) c.of.ensures.value stood in
    let told : Changed ≡ effect_of (after_at (Put c.args.item) (map.get table name)) = sym c.in-Changed.is ∙ c.in_ok-effect-in-Occupied.ensures ∙ ap (λ o. effect_of (after_at (Put c.args.item) o)) (sym there) in
    let e = c.in_ok-entry.ensures in
    let w = c.put_over.new.item in
    let marks = marks_of c.self.inside.touched in
    let more = marks_of c.touch-in-Changed.new.self in
    let place = c.index-in-Changed.result in
    let at : place ≡ position_or_len (bytes_eq k) (keys_of es) = c.index-in-Changed.ensures ∙ ap entry_index (sym c.in-Occupied.is) ∙ e.index in
    let key : c.bytes-in-Changed.result.now ≡ k = c.bytes-in-Changed.ensures ∙ c.key-in-Changed.ensures ∙ ap entry_key (sym c.in-Occupied.is) ∙ sym ((bytes_eq-Decides k _).0 e.same_key) in
    let marked : more ≡ with_mark marks place k = c.in_ok-touch-in-Changed.ensures.ok ∙ ap (with_mark marks place) key in
    let entry = Occupied c.in-Occupied.entry in
    let last = map_with_value entry w in
    let known : last ≡ map_with_value c.in_ok-entry.field-0 w = ap (λ e. map_with_value e w) (sym c.in-Occupied.is) in
    let lands : (fs : _) → fs ≡ last.entries → shown fs more ≡ with_made c.args.self.now name (made.Changed c.args.item)
    = λ fs is. let all : fs ≡ (map_with_value c.in_ok-entry.field-0 w).entries = is ∙ ap (λ m. m.entries) known in written es fs k w marks more place (all ∙ e.update.1 w) at (subst (λ l. IsDistinct bytes_eq (keys_of l)) (sym all) (e.update.2 w)) marked c.self.invariant c.args.self.now name c.args.item c.self.view_is c.of.ensures.value c.put_over.ensures in
    lands _ (search rules) ∙ ap (with_made c.args.self.now name) (sym (made_changed (Put c.args.item) (map.get table name) c.get.result.now told there))

pub invariant_of-self-in-Vacant : goal.invariant_of-self-in-Vacant
invariant_of-self-in-Vacant c =
    let table = c.args.self.now.items in
    let name = c.args.name in
    let es = c.self.inside.items.entries in
    let k = c.of.result in
    let e = c.in_ok-entry.ensures in
    let w = c.insert.result.now in
    let marks = marks_of c.self.inside.touched in
    let more = marks_of c.touch.new.self in
    let place = c.index.result in
    let at : place ≡ position_or_len (bytes_eq k) (keys_of es) = c.index.ensures ∙ ap entry_index (sym c.in-Vacant.is) ∙ e.index in
    let key : c.bytes.result.now ≡ k = c.bytes.ensures ∙ c.key.ensures ∙ ap entry_key (sym c.in-Vacant.is) ∙ sym ((bytes_eq-Decides k _).0 e.same_key) in
    let marked : more ≡ with_mark marks place k = c.in_default.ensures.ok ∙ ap (with_mark marks place) key in
    let entry = Vacant c.in-Vacant.entry in
    let last = map_with_value entry w in
    let known : last ≡ map_with_value c.in_ok-entry.field-0 w = ap (λ e. map_with_value e w) (sym c.in-Vacant.is) in
    let lands : (fs : _) → fs ≡ last.entries → IsSound fs more
    = λ fs is. let all : fs ≡ (map_with_value c.in_ok-entry.field-0 w).entries = is ∙ ap (λ m. m.entries) known in written_sound es fs k w marks more place (all ∙ e.update.1 w) at (subst (λ l. IsDistinct bytes_eq (keys_of l)) (sym all) (e.update.2 w)) marked c.self.invariant (ap is_name c.of.ensures.value ∙ c.of.ensures.name) in
    lands _ (search rules)

pub returns-in_default-clause-told : goal.returns-in_default-clause-told
unfolding entry_value
returns-in_default-clause-told c =
    let table = c.args.self.now.items in
    let name = c.args.name in
    let es = c.self.inside.items.entries in
    let k = c.of.result in
    let stood : None ≡ lookup (bytes_eq k) es = ap entry_value (sym c.in-Vacant.is) ∙ c.in_ok-entry.ensures.value in
    let none : map.get table name ≡ None = here table es k name None (ap (λ t. t.items) c.self.view_is) c.of.ensures.value stood in
    ap (λ o. effect_of (after_at (Put c.args.item) o)) (sym none)

pub returns-in_default-clause-ok : goal.returns-in_default-clause-ok
unfolding entry_value
returns-in_default-clause-ok c =
    let table = c.args.self.now.items in
    let name = c.args.name in
    let es = c.self.inside.items.entries in
    let k = c.of.result in
    let stood : None ≡ lookup (bytes_eq k) es = ap entry_value (sym c.in-Vacant.is) ∙ c.in_ok-entry.ensures.value in
    let none : map.get table name ≡ None = here table es k name None (ap (λ t. t.items) c.self.view_is) c.of.ensures.value stood in
    let e = c.in_ok-entry.ensures in
    let w = c.insert.result.now in
    let marks = marks_of c.self.inside.touched in
    let more = marks_of c.touch.new.self in
    let place = c.index.result in
    let at : place ≡ position_or_len (bytes_eq k) (keys_of es) = c.index.ensures ∙ ap entry_index (sym c.in-Vacant.is) ∙ e.index in
    let key : c.bytes.result.now ≡ k = c.bytes.ensures ∙ c.key.ensures ∙ ap entry_key (sym c.in-Vacant.is) ∙ sym ((bytes_eq-Decides k _).0 e.same_key) in
    let marked : more ≡ with_mark marks place k = c.in_default.ensures.ok ∙ ap (with_mark marks place) key in
    let entry = Vacant c.in-Vacant.entry in
    let last = map_with_value entry w in
    let known : last ≡ map_with_value c.in_ok-entry.field-0 w = ap (λ e. map_with_value e w) (sym c.in-Vacant.is) in
    let lands : (fs : _) → fs ≡ last.entries → shown fs more ≡ with_made c.args.self.now name (made.Changed c.args.item)
    = λ fs is. let all : fs ≡ (map_with_value c.in_ok-entry.field-0 w).entries = is ∙ ap (λ m. m.entries) known in written es fs k w marks more place (all ∙ e.update.1 w) at (subst (λ l. IsDistinct bytes_eq (keys_of l)) (sym all) (e.update.2 w)) marked c.self.invariant c.args.self.now name c.args.item c.self.view_is c.of.ensures.value c.insert.ensures.value in
    lands _ (search rules) ∙ ap (λ o. with_made c.args.self.now name (after_at (Put c.args.item) o)) (sym none)
