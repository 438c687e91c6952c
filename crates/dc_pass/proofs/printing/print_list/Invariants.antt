use Rattle.std.proofs.Common.{◌≡◌, ◌++◌, drop, map as each}
use Rattle.dc_text.specs.Lines.{text_of}
use Rattle.dc_pass.specs.Wire.{answer_line, sent_answer}
use Rattle.dc_pass.proofs.printing.print_list.Given as goal

abbrev pub invariant-loop-answer : goal.invariant-loop-answer
invariant-loop-answer l = l.out ++ text_of (each answer_line (each sent_answer (drop l.answer-index l.answer-items))) ≡ l.initial.out ++ text_of (each answer_line (each sent_answer l.answer-items))
