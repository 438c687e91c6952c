use Rattle.std.proofs.Common.{◌≡◌, ◌∷◌, length, not, false, ap, ◌∙◌, subst, arith}
use Rattle.std.specs.FinMap as map
use Rattle.dc_parts.specs.Packed.{entries_in, IsPlace, IsBehind}
use Rattle.dc_parts.proofs.FingerLemmas.{not_there, pushed}
use Rattle.dc_parts.proofs.PackedLemmas.{count_fits, put_count, there-place}
use Rattle.dc_parts.proofs.PlaceLemmas.{is_sorted_put, from_sorted_put}
use Rattle.dc_parts.proofs.packed_builder.PackedBuilder.insert_new.Goals as goal

-- the key comes behind all others
pub count_with-self-inside-requires : goal.count_with-self-inside-requires
count_with-self-inside-requires c = omega (arith, count_fits c.self.inside.bytes.items c.self.invariant.0, c.self.invariant.2)

pub invariant_of-self-then-is_behind : goal.invariant_of-self-then-is_behind
invariant_of-self-then-is_behind c =
    let q = c.args.key.mark ∷ c.args.key.key.now in
    let old = c.self.inside.bytes.items in
    let new = c.push_short.new.bytes.items in
    let last = subst (λ b. IsBehind q (entries_in b)) c.deref.ensures.value (c.is_behind.ensures c.if-is_behind.true) in
    let is = pushed q old c.self.invariant.0 last c.args.value.now _ new c.short_key.ensures.packed c.in_ok-push_short.ensures.ok in
    let at_start : length old ≡ c.len-start.result = omega arith in
    let many = put_count q (entries_in old) (entries_in new) false (not_there q old c.self.invariant.0 last) c.args.value.now c.self.inside.count c.count_with-self-inside.result is.0 c.self.invariant.2 c.count_with-self-inside.ensures in
    (is.1, is_sorted_put q c.args.value.now (entries_in old) (entries_in new) c.self.invariant.1 is.0, many, subst (λ n. IsPlace n (entries_in new)) at_start is.2)

pub returns-then-is_behind-clause-new : goal.returns-then-is_behind-clause-new
returns-then-is_behind-clause-new c =
    let q = c.args.key.mark ∷ c.args.key.key.now in
    let old = c.self.inside.bytes.items in
    let last = subst (λ b. IsBehind q (entries_in b)) c.deref.ensures.value (c.is_behind.ensures c.if-is_behind.true) in
    ap not (not_there q old c.self.invariant.0 last ∙ there-place q (entries_in old) c.args.self.now c.self.invariant.1 c.self.view_is)

pub returns-then-is_behind-clause-put : goal.returns-then-is_behind-clause-put
returns-then-is_behind-clause-put c =
    let q = c.args.key.mark ∷ c.args.key.key.now in
    let old = c.self.inside.bytes.items in
    let new = c.push_short.new.bytes.items in
    let last = subst (λ b. IsBehind q (entries_in b)) c.deref.ensures.value (c.is_behind.ensures c.if-is_behind.true) in
    let is = pushed q old c.self.invariant.0 last c.args.value.now _ new c.short_key.ensures.packed c.in_ok-push_short.ensures.ok in
    from_sorted_put q c.args.value.now (entries_in old) (entries_in new) c.self.invariant.1 is.0 ∙ ap (λ m. map.insert m q c.args.value.now) c.self.view_is
