-- The shelf that is made has sixteen boxes of each sort.
use Rattle.std.proofs.Common.{◌∙◌, arith}
use Rattle.dc_conf.specs.declared.spec.LayerSort.TheVariants.{Pipe}
use Rattle.dc_transcripts.proofs.ShelfLemmas.{grows, kept_blank, kept_one}
use Rattle.dc_transcripts.proofs.playing.play.Goals as goal

pub play_over-requires-clause-some_files : goal.play_over-requires-clause-some_files
play_over-requires-clause-some_files c =
    grows (grows (grows (grows (grows (grows (grows (grows (grows (grows (grows (grows (grows (grows (grows (grows {n = 0} (omega arith) c.in_ok-take_each.ensures.count_files) c.in_ok-take_each-2.ensures.count_files) c.in_ok-take_each-3.ensures.count_files) c.in_ok-take_each-4.ensures.count_files) c.in_ok-take_each-5.ensures.count_files) c.in_ok-take_each-6.ensures.count_files) c.in_ok-take_each-7.ensures.count_files) c.in_ok-take_each-8.ensures.count_files) c.in_ok-take_each-9.ensures.count_files) c.in_ok-take_each-10.ensures.count_files) c.in_ok-take_each-11.ensures.count_files) c.in_ok-take_each-12.ensures.count_files) c.in_ok-take_each-13.ensures.count_files) c.in_ok-take_each-14.ensures.count_files) c.in_ok-take_each-15.ensures.count_files) c.in_ok-take_each-16.ensures.count_files

pub play_over-requires-clause-some_trees : goal.play_over-requires-clause-some_trees
play_over-requires-clause-some_trees c =
    grows (grows (grows (grows (grows (grows (grows (grows (grows (grows (grows (grows (grows (grows (grows (grows {n = 0} (omega arith) c.in_ok-take_each.ensures.count_trees) c.in_ok-take_each-2.ensures.count_trees) c.in_ok-take_each-3.ensures.count_trees) c.in_ok-take_each-4.ensures.count_trees) c.in_ok-take_each-5.ensures.count_trees) c.in_ok-take_each-6.ensures.count_trees) c.in_ok-take_each-7.ensures.count_trees) c.in_ok-take_each-8.ensures.count_trees) c.in_ok-take_each-9.ensures.count_trees) c.in_ok-take_each-10.ensures.count_trees) c.in_ok-take_each-11.ensures.count_trees) c.in_ok-take_each-12.ensures.count_trees) c.in_ok-take_each-13.ensures.count_trees) c.in_ok-take_each-14.ensures.count_trees) c.in_ok-take_each-15.ensures.count_trees) c.in_ok-take_each-16.ensures.count_trees

pub play_over-requires-clause-some_packs : goal.play_over-requires-clause-some_packs
play_over-requires-clause-some_packs c =
    grows (grows (grows (grows (grows (grows (grows (grows (grows (grows (grows (grows (grows (grows (grows (grows {n = 0} (omega arith) c.in_ok-take_each.ensures.count_packs) c.in_ok-take_each-2.ensures.count_packs) c.in_ok-take_each-3.ensures.count_packs) c.in_ok-take_each-4.ensures.count_packs) c.in_ok-take_each-5.ensures.count_packs) c.in_ok-take_each-6.ensures.count_packs) c.in_ok-take_each-7.ensures.count_packs) c.in_ok-take_each-8.ensures.count_packs) c.in_ok-take_each-9.ensures.count_packs) c.in_ok-take_each-10.ensures.count_packs) c.in_ok-take_each-11.ensures.count_packs) c.in_ok-take_each-12.ensures.count_packs) c.in_ok-take_each-13.ensures.count_packs) c.in_ok-take_each-14.ensures.count_packs) c.in_ok-take_each-15.ensures.count_packs) c.in_ok-take_each-16.ensures.count_packs

pub play_over-requires-clause-pipes : goal.play_over-requires-clause-pipes
play_over-requires-clause-pipes c =
    kept_blank _ Pipe _ _ (c.take_each-16.ensures.pipes ∙ c.take_each-15.ensures.pipes ∙ c.take_each-14.ensures.pipes ∙ c.take_each-13.ensures.pipes ∙ c.take_each-12.ensures.pipes ∙ c.take_each-11.ensures.pipes ∙ c.take_each-10.ensures.pipes ∙ c.take_each-9.ensures.pipes ∙ c.take_each-8.ensures.pipes ∙ c.take_each-7.ensures.pipes ∙ c.take_each-6.ensures.pipes ∙ c.take_each-5.ensures.pipes ∙ c.take_each-4.ensures.pipes ∙ c.take_each-3.ensures.pipes ∙ c.take_each-2.ensures.pipes ∙ c.take_each.ensures.pipes) c.in_ok-take_pipe.ensures.pipes

pub play_over-requires-clause-some_pipes : goal.play_over-requires-clause-some_pipes
play_over-requires-clause-some_pipes c =
    kept_one _ _ _ (c.take_each-16.ensures.pipes ∙ c.take_each-15.ensures.pipes ∙ c.take_each-14.ensures.pipes ∙ c.take_each-13.ensures.pipes ∙ c.take_each-12.ensures.pipes ∙ c.take_each-11.ensures.pipes ∙ c.take_each-10.ensures.pipes ∙ c.take_each-9.ensures.pipes ∙ c.take_each-8.ensures.pipes ∙ c.take_each-7.ensures.pipes ∙ c.take_each-6.ensures.pipes ∙ c.take_each-5.ensures.pipes ∙ c.take_each-4.ensures.pipes ∙ c.take_each-3.ensures.pipes ∙ c.take_each-2.ensures.pipes ∙ c.take_each.ensures.pipes) c.in_ok-take_pipe.ensures.count

pub play_over-requires-clause-used : goal.play_over-requires-clause-used
play_over-requires-clause-used c =
    c.take_each-16.ensures.used ∙ c.take_each-15.ensures.used ∙ c.take_each-14.ensures.used ∙ c.take_each-13.ensures.used ∙ c.take_each-12.ensures.used ∙ c.take_each-11.ensures.used ∙ c.take_each-10.ensures.used ∙ c.take_each-9.ensures.used ∙ c.take_each-8.ensures.used ∙ c.take_each-7.ensures.used ∙ c.take_each-6.ensures.used ∙ c.take_each-5.ensures.used ∙ c.take_each-4.ensures.used ∙ c.take_each-3.ensures.used ∙ c.take_each-2.ensures.used ∙ c.take_each.ensures.used ∙ c.take_pipe.ensures.used ∙ c.empty-shelf.ensures.used
