use Rattle.std.proofs.Common.{◌++◌, length, sym, ap, ◌∙◌}
use Rattle.std.specs.List.{list_all}
use Rattle.dc_text.specs.Names.{is_name}
use Rattle.dc_item.specs.RecordsRead.{with_lines, names_in}
use Rattle.dc_item.proofs.RecordsReadLemmas.{first_named}
use Rattle.dc_item.proofs.records_read.Records.into_list.Goals as goal

pub loop-key-init : goal.loop-key-init
loop-key-init c =
    let all = c.into_iter-key-iterator.ensures.into_iter_gives.0 in
    record {
      as_many = ap length c.as_slice-rest.ensures.value ∙ c.self.invariant.0.as_many ∙ sym (ap length all);
      named = ap (λ es. list_all is_name (names_in es)) all ∙ c.self.invariant.0.named;
      so_far = (λ i. c.new-list.ensures i ++ with_lines (all i) (c.as_slice-rest.ensures.value i)) ∙ c.self.view_is;
    }

pub name_of-requires : goal.name_of-requires
name_of-requires c =
    ap is_name c.bytes.ensures ∙ first_named c.loop-key.key-iterator c.next.new.self c.in-Some.key c.in-Some.item c.in-Some.ensures.steps c.loop-key.invariant.named
