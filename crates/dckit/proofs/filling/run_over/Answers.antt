-- The shelf that is made has sixteen boxes of each sort, and the run is that over it.
use Rattle.std.proofs.Common.{◌∙◌, map as each, ap, arith}
use Rattle.std.proofs.lemmas.Result.{err_from_is_err_and}
use Rattle.dc_conf.specs.declared.spec.LayerSort.TheVariants.{Pipe}
use Rattle.dckit.proofs.ShelfLemmas.{grows, kept_blank, kept_one, ran_over}
use Rattle.dckit.proofs.filling.run_over.Goals as goal

pub run_words-outcome-requires-clause-ready : goal.run_words-outcome-requires-clause-ready
run_words-outcome-requires-clause-ready g c = record {
  files = c.in_ok-take_each-16.ensures.files;
  trees = c.in_ok-take_each-16.ensures.trees;
  packs = c.in_ok-take_each-16.ensures.packs;
  pipes = kept_blank _ Pipe _ _ (c.take_each-16.ensures.pipes ∙ c.take_each-15.ensures.pipes ∙ c.take_each-14.ensures.pipes ∙ c.take_each-13.ensures.pipes ∙ c.take_each-12.ensures.pipes ∙ c.take_each-11.ensures.pipes ∙ c.take_each-10.ensures.pipes ∙ c.take_each-9.ensures.pipes ∙ c.take_each-8.ensures.pipes ∙ c.take_each-7.ensures.pipes ∙ c.take_each-6.ensures.pipes ∙ c.take_each-5.ensures.pipes ∙ c.take_each-4.ensures.pipes ∙ c.take_each-3.ensures.pipes ∙ c.take_each-2.ensures.pipes ∙ c.take_each.ensures.pipes) c.in_ok-take_pipe.ensures.pipes;
  some_files =
      grows (grows (grows (grows (grows (grows (grows (grows (grows (grows (grows (grows (grows (grows (grows (grows {n = 0} (omega arith) c.in_ok-take_each.ensures.count_files) c.in_ok-take_each-2.ensures.count_files) c.in_ok-take_each-3.ensures.count_files) c.in_ok-take_each-4.ensures.count_files) c.in_ok-take_each-5.ensures.count_files) c.in_ok-take_each-6.ensures.count_files) c.in_ok-take_each-7.ensures.count_files) c.in_ok-take_each-8.ensures.count_files) c.in_ok-take_each-9.ensures.count_files) c.in_ok-take_each-10.ensures.count_files) c.in_ok-take_each-11.ensures.count_files) c.in_ok-take_each-12.ensures.count_files) c.in_ok-take_each-13.ensures.count_files) c.in_ok-take_each-14.ensures.count_files) c.in_ok-take_each-15.ensures.count_files) c.in_ok-take_each-16.ensures.count_files;
  some_trees =
      grows (grows (grows (grows (grows (grows (grows (grows (grows (grows (grows (grows (grows (grows (grows (grows {n = 0} (omega arith) c.in_ok-take_each.ensures.count_trees) c.in_ok-take_each-2.ensures.count_trees) c.in_ok-take_each-3.ensures.count_trees) c.in_ok-take_each-4.ensures.count_trees) c.in_ok-take_each-5.ensures.count_trees) c.in_ok-take_each-6.ensures.count_trees) c.in_ok-take_each-7.ensures.count_trees) c.in_ok-take_each-8.ensures.count_trees) c.in_ok-take_each-9.ensures.count_trees) c.in_ok-take_each-10.ensures.count_trees) c.in_ok-take_each-11.ensures.count_trees) c.in_ok-take_each-12.ensures.count_trees) c.in_ok-take_each-13.ensures.count_trees) c.in_ok-take_each-14.ensures.count_trees) c.in_ok-take_each-15.ensures.count_trees) c.in_ok-take_each-16.ensures.count_trees;
  some_packs =
      grows (grows (grows (grows (grows (grows (grows (grows (grows (grows (grows (grows (grows (grows (grows (grows {n = 0} (omega arith) c.in_ok-take_each.ensures.count_packs) c.in_ok-take_each-2.ensures.count_packs) c.in_ok-take_each-3.ensures.count_packs) c.in_ok-take_each-4.ensures.count_packs) c.in_ok-take_each-5.ensures.count_packs) c.in_ok-take_each-6.ensures.count_packs) c.in_ok-take_each-7.ensures.count_packs) c.in_ok-take_each-8.ensures.count_packs) c.in_ok-take_each-9.ensures.count_packs) c.in_ok-take_each-10.ensures.count_packs) c.in_ok-take_each-11.ensures.count_packs) c.in_ok-take_each-12.ensures.count_packs) c.in_ok-take_each-13.ensures.count_packs) c.in_ok-take_each-14.ensures.count_packs) c.in_ok-take_each-15.ensures.count_packs) c.in_ok-take_each-16.ensures.count_packs;
  some_pipes = kept_one _ _ _ (c.take_each-16.ensures.pipes ∙ c.take_each-15.ensures.pipes ∙ c.take_each-14.ensures.pipes ∙ c.take_each-13.ensures.pipes ∙ c.take_each-12.ensures.pipes ∙ c.take_each-11.ensures.pipes ∙ c.take_each-10.ensures.pipes ∙ c.take_each-9.ensures.pipes ∙ c.take_each-8.ensures.pipes ∙ c.take_each-7.ensures.pipes ∙ c.take_each-6.ensures.pipes ∙ c.take_each-5.ensures.pipes ∙ c.take_each-4.ensures.pipes ∙ c.take_each-3.ensures.pipes ∙ c.take_each-2.ensures.pipes ∙ c.take_each.ensures.pipes) c.in_ok-take_pipe.ensures.count;
  none_used =
      c.take_each-16.ensures.used ∙ c.take_each-15.ensures.used ∙ c.take_each-14.ensures.used ∙ c.take_each-13.ensures.used ∙ c.take_each-12.ensures.used ∙ c.take_each-11.ensures.used ∙ c.take_each-10.ensures.used ∙ c.take_each-9.ensures.used ∙ c.take_each-8.ensures.used ∙ c.take_each-7.ensures.used ∙ c.take_each-6.ensures.used ∙ c.take_each-5.ensures.used ∙ c.take_each-4.ensures.used ∙ c.take_each-3.ensures.used ∙ c.take_each-2.ensures.used ∙ c.take_each.ensures.used ∙ c.take_pipe.ensures.used ∙ c.empty-shelf.ensures.used;
}

pub returns : goal.returns
returns g c =
    let none = c.take_each-16.ensures.used ∙ c.take_each-15.ensures.used ∙ c.take_each-14.ensures.used ∙ c.take_each-13.ensures.used ∙ c.take_each-12.ensures.used ∙ c.take_each-11.ensures.used ∙ c.take_each-10.ensures.used ∙ c.take_each-9.ensures.used ∙ c.take_each-8.ensures.used ∙ c.take_each-7.ensures.used ∙ c.take_each-6.ensures.used ∙ c.take_each-5.ensures.used ∙ c.take_each-4.ensures.used ∙ c.take_each-3.ensures.used ∙ c.take_each-2.ensures.used ∙ c.take_each.ensures.used ∙ c.take_pipe.ensures.used ∙ c.empty-shelf.ensures.used in
    ran_over _ _ _ _ _ _ _ _ _ _ c.run_words-outcome.result (ap (each _) none) c.run_words-outcome.ensures.ran

pub returns-in_err-file-10 : goal.returns-in_err-file-10
returns-in_err-file-10 g c = let p = err_from_is_err_and c.from_residual-in_err-file-10.result c.from_residual-in_err-file-10.ensures.1 in rw p.1 tt

pub returns-in_err-take_each-10 : goal.returns-in_err-take_each-10
returns-in_err-take_each-10 g c = let p = err_from_is_err_and c.from_residual-in_err-take_each-10.result c.from_residual-in_err-take_each-10.ensures.1 in rw p.1 tt

pub returns-in_err-file-11 : goal.returns-in_err-file-11
returns-in_err-file-11 g c = let p = err_from_is_err_and c.from_residual-in_err-file-11.result c.from_residual-in_err-file-11.ensures.1 in rw p.1 tt

pub returns-in_err-take_each-11 : goal.returns-in_err-take_each-11
returns-in_err-take_each-11 g c = let p = err_from_is_err_and c.from_residual-in_err-take_each-11.result c.from_residual-in_err-take_each-11.ensures.1 in rw p.1 tt

pub returns-in_err-file-12 : goal.returns-in_err-file-12
returns-in_err-file-12 g c = let p = err_from_is_err_and c.from_residual-in_err-file-12.result c.from_residual-in_err-file-12.ensures.1 in rw p.1 tt

pub returns-in_err-take_each-12 : goal.returns-in_err-take_each-12
returns-in_err-take_each-12 g c = let p = err_from_is_err_and c.from_residual-in_err-take_each-12.result c.from_residual-in_err-take_each-12.ensures.1 in rw p.1 tt

pub returns-in_err-file-13 : goal.returns-in_err-file-13
returns-in_err-file-13 g c = let p = err_from_is_err_and c.from_residual-in_err-file-13.result c.from_residual-in_err-file-13.ensures.1 in rw p.1 tt

pub returns-in_err-take_each-13 : goal.returns-in_err-take_each-13
returns-in_err-take_each-13 g c = let p = err_from_is_err_and c.from_residual-in_err-take_each-13.result c.from_residual-in_err-take_each-13.ensures.1 in rw p.1 tt

pub returns-in_err-file-14 : goal.returns-in_err-file-14
returns-in_err-file-14 g c = let p = err_from_is_err_and c.from_residual-in_err-file-14.result c.from_residual-in_err-file-14.ensures.1 in rw p.1 tt

pub returns-in_err-take_each-14 : goal.returns-in_err-take_each-14
returns-in_err-take_each-14 g c = let p = err_from_is_err_and c.from_residual-in_err-take_each-14.result c.from_residual-in_err-take_each-14.ensures.1 in rw p.1 tt

pub returns-in_err-file-15 : goal.returns-in_err-file-15
returns-in_err-file-15 g c = let p = err_from_is_err_and c.from_residual-in_err-file-15.result c.from_residual-in_err-file-15.ensures.1 in rw p.1 tt

pub returns-in_err-take_each-15 : goal.returns-in_err-take_each-15
returns-in_err-take_each-15 g c = let p = err_from_is_err_and c.from_residual-in_err-take_each-15.result c.from_residual-in_err-take_each-15.ensures.1 in rw p.1 tt

pub returns-in_err-file-16 : goal.returns-in_err-file-16
returns-in_err-file-16 g c = let p = err_from_is_err_and c.from_residual-in_err-file-16.result c.from_residual-in_err-file-16.ensures.1 in rw p.1 tt

pub returns-in_err-take_each-16 : goal.returns-in_err-take_each-16
returns-in_err-take_each-16 g c = let p = err_from_is_err_and c.from_residual-in_err-take_each-16.result c.from_residual-in_err-take_each-16.ensures.1 in rw p.1 tt
