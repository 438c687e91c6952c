use Rattle.std.proofs.Common.{◌≡◌, ℕ, ◌+◌, ◌==◌, List, [], ◌∷◌, rules, arith, cond, length, map, Some, None, Ok, true, ap, sym, refl, subst, ◌∙◌}
use Rattle.std.specs.List.{enumerate_from}
use Rattle.std.proofs.lemmas.Bool.Decides.{nat_tests}
use Rattle.dc_text.specs.Faults.{run}
use Rattle.dc_text.specs.Lines.{lines_of}
use Rattle.dc_item.specs.Grammar.{line_said}
use Rattle.dc_item.specs.Reader.{line_step}
use Rattle.dc_item.specs.declared.reader.Reader.{Reader}
use Rattle.dc_item.proofs.PlainLines.{PlainFront, plain_anew, plain_line, plain_later}
use Rattle.dc_item.proofs.StepLemmas.{reading_after}
use Rattle.dc_item.proofs.records.read_lines.Goals as goal

equal : (a b : ℕ) → (a == b) ≡ true → a ≡ b
equal a b is = grind (arith, nat_tests)

-- nothing is left to read
all_read : (n : ℕ) (rest : List ℕ) (r : Reader) → length rest ≡ 0 → run line_step (enumerate_from n (map line_said (lines_of rest))) r ≡ Ok r
all_read n [] r none = refl
all_read n (b ∷ rest) r none = absurd (omega arith)

pub take-requires-clause-plain : goal.take-requires-clause-plain
take-requires-clause-plain c =
    let rest = c.loop-rest.rest.now in
    let line = c.split_line.result.0.now in
    let n = c.plain_front-plain.result in
    plain_line n rest line c.split_line.result.1.now c.split_line.ensures.lines (plain_anew n c.loop-rest.plain (length line) rest c.plain_front-plain.ensures c.loop-rest.invariant.plain)

pub loop-rest-preserved : goal.loop-rest-preserved
loop-rest-preserved c =
    let stood = c.in_ok-take.ensures ∙ ap (λ b. cond b (Some c.take.new.self) None) c.if-not-branch.false in
    let rest = c.loop-rest.rest.now in
    let line = c.split_line.result.0.now in
    let after = c.split_line.result.1.now in
    let n = c.plain_front-plain.result in
    record {
      read = search rules;
      is_reading = reading_after c.loop-rest.reader c.take.new.self _ _ stood c.loop-rest.invariant.is_reading;
      plain =
          subst (λ k. PlainFront k after) (sym c.saturating_sub-plain.ensures)
          (plain_later n rest line after c.split_line.ensures.lines (plain_anew n c.loop-rest.plain (length line) rest c.plain_front-plain.ensures c.loop-rest.invariant.plain));
      counted = omega (arith, c.loop-rest.invariant.counted, c.split_line.ensures.shorter);
    }

pub returns-clause-read : goal.returns-clause-read
returns-clause-read c = sym c.loop-rest.invariant.read ∙ all_read (c.loop-rest.line + 1) c.loop-rest.rest.now c.loop-rest.reader (equal (length c.loop-rest.rest.now) 0 (sym c.is_empty.ensures ∙ c.loop-rest-test.false))
