use Rattle.std.proofs.Common.{◌≡◌, rules}
use Rattle.std.specs.Cmp.Lexicographic.{nat_list_cmp_total}
use Rattle.std.specs.Ordering.{is_lt}
use Rattle.std.proofs.lemmas.Fn.{always_returns_same}
use Rattle.std.proofs.lemmas.List.Sorted.{ranks_by}
use Rattle.dc_text.specs.Maps.{text_cmp}
use Rattle.dc_template.proofs.SortedFields.{sorted_fields}
use Rattle.dc_template.proofs.reading.in_order.Goals as goal

pub returns : goal.returns
returns c =
    let ranks = ranks_by nat_list_cmp_total (λ e. e.0) in
    let answers = always_returns_same _ (λ a r. is_lt r ≡ is_lt (text_cmp a.0.now.0 a.1.0.now.0)) _ (λ a r f k. search rules) in
    sorted_fields c.args.fields.items c.sort_by.new.self.items c.requires c.in_ok-sort_by.ensures.permutation (c.in_ok-sort_by.ensures.sorted _ ranks answers) (c.in_ok-sort_by.ensures.stable _ ranks answers)
