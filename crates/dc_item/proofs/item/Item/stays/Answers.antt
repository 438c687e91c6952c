use Rattle.std.proofs.Common.{◌≡◌, false, sym, ap, ◌∙◌}
use Rattle.std.specs.Prelude.{is_some, not}
use Rattle.std.specs.List.{list_any}
use Rattle.std.specs.Option.{option_map_or}
use Rattle.std.specs.Str.{bytes_eq}
use Rattle.std.specs.Cmp.{booleans_Decides}
use Rattle.std.specs.FinMap as map
use Rattle.dc_item.specs.After.{asked, parts_eq}
use Rattle.dc_item.proofs.EffectLemmas.{copied_is, stays_field, stays_variable, stays_without_field, stays_flag, stays_owner, stays_owned}
use Rattle.dc_item.proofs.item.Item.stays.Goals as goal

pub returns-in-SetField : goal.returns-in-SetField
returns-in-SetField c =
    let key = c.in-SetField.key in
    let value = c.in-SetField.value in
    c.is_value-stays.ensures
    ∙ ap (λ o. option_map_or (λ bytes. bytes_eq bytes value) o false) (c.field.ensures.value ∙ ap (map.get c.args.self.now.fields) c.bytes.ensures.value)
    ∙ stays_field c.args.self.now key value ∙ ap (λ op. parts_eq (asked op c.args.self.now) c.args.self.now) (sym c.in-SetField.is)

pub returns-in-DropField : goal.returns-in-DropField
returns-in-DropField c =
    let key = c.in-DropField.key in
    let is = sym (ap is_some (c.field-in-DropField.ensures.value ∙ ap (map.get c.args.self.now.fields) c.bytes-in-DropField.ensures.value)) ∙ copied_is c.field-in-DropField.result ∙ c.is_none-stays.ensures in
    stays_without_field c.args.self.now key c.is_none-stays.result is ∙ ap (λ op. parts_eq (asked op c.args.self.now) c.args.self.now) (sym c.in-DropField.is)

pub returns-in-SetFlag : goal.returns-in-SetFlag
returns-in-SetFlag c =
    let flag = c.in-SetFlag.flag in
    let is_set = c.in-SetFlag.is_set in
    let has : c.flag.result ≡ map.contains_key c.args.self.now.flags flag = c.flag.ensures ∙ ap (map.contains_key c.args.self.now.flags) c.bytes-in-SetFlag.ensures.value in
    let d = booleans_Decides c.flag.result is_set in
    stays_flag c.args.self.now flag is_set _ (λ e. sym has ∙ d.0 e, λ h. d.1 (has ∙ h)) ∙ ap (λ op. parts_eq (asked op c.args.self.now) c.args.self.now) (sym c.in-SetFlag.is)

pub returns-in-SetVar : goal.returns-in-SetVar
returns-in-SetVar c =
    let key = c.in-SetVar.key in
    let value = c.in-SetVar.value in
    c.is_value-stays-in-SetVar.ensures
    ∙ ap (λ o. option_map_or (λ bytes. bytes_eq bytes value) o false) (c.var.ensures.value ∙ ap (map.get c.args.self.now.variables) c.bytes-in-SetVar.ensures.value)
    ∙ stays_variable c.args.self.now key value ∙ ap (λ op. parts_eq (asked op c.args.self.now) c.args.self.now) (sym c.in-SetVar.is)

pub returns-in-AddOwner : goal.returns-in-AddOwner
returns-in-AddOwner c =
    c.has_owner-stays.ensures ∙ ap (map.contains_key c.args.self.now.owners) c.bytes-in-AddOwner.ensures.value
    ∙ stays_owner c.args.self.now c.in-AddOwner.name ∙ ap (λ op. parts_eq (asked op c.args.self.now) c.args.self.now) (sym c.in-AddOwner.is)

pub returns-in-DropOwners : goal.returns-in-DropOwners
returns-in-DropOwners c =
    ap not (c.has_any.ensures ∙ ap (list_any (map.contains_key c.args.self.now.owners)) c.as_slice.ensures)
    ∙ stays_owned c.args.self.now c.in-DropOwners.names ∙ ap (λ op. parts_eq (asked op c.args.self.now) c.args.self.now) (sym c.in-DropOwners.is)
