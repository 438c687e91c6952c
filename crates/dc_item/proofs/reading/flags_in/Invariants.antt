use Rattle.std.proofs.Common.{◌≡◌, ◌++◌, length, true}
use Rattle.std.specs.List.{list_all}
use Rattle.dc_text.specs.Names.{is_flag_name}
use Rattle.dc_item.specs.Grammar.{pieces}
use Rattle.dc_item.proofs.reading.flags_in.Given as goal

abbrev pub invariant-loop-rest : goal.invariant-loop-rest
invariant-loop-rest l = record {
  so_far : l.flags ++ pieces l.rest ≡ pieces l.text;
  good : list_all is_flag_name l.flags ≡ true;
}

abbrev pub decreases-loop-rest : goal.decreases-loop-rest
decreases-loop-rest l = length l.rest
