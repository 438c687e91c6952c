use Rattle.std.proofs.Common.{refl}
use Rattle.regex.proofs.OnLiterals.{regex_on_literals}
use Rattle.regex_hir.specs.Find.{find, first_from}
use Rattle.regex_hir.specs.Looks.{holds, holds_between}
use Rattle.regex_hir.specs.Re.{attempt, rounds}
use Rattle.regex_hir.specs.Text.{byte_before, has_bytes_at}
use Rattle.dc_layer.proofs.laws.answers_are_worked_out.Goals as goal

pub returns-clause-cores : goal.returns-clause-cores
returns-clause-cores c = record { both = refl; front = refl; once = refl; twice = refl; none = refl }

pub returns-clause-plain : goal.returns-clause-plain
returns-clause-plain c = record { none = refl; front = refl; end = refl; each = refl; dot = refl; once = refl; inside = refl; space = refl }

pub returns-clause-answers : goal.returns-clause-answers
returns-clause-answers c = record {
  inside = refl;
  absent = refl;
  front = refl;
  behind = refl;
  end = refl;
  before = refl;
  whole = refl;
  longer = refl;
  case = refl;
  either = refl;
  nothing = refl;
  anything = refl;
  starts = refl;
  ends = refl;
  empty = refl;
  other = refl;
}

pub returns-clause-others : goal.returns-clause-others
unfolding regex_on_literals find first_from holds holds_between attempt rounds byte_before has_bytes_at
returns-clause-others c = record { some = refl; none = refl; case = refl; choice = refl; front = refl; end = refl }

pub returns-clause-none : goal.returns-clause-none
unfolding regex_on_literals
returns-clause-none c = record { unclosed = refl; repeat = refl; closed = refl }

pub returns-clause-rules : goal.returns-clause-rules
returns-clause-rules c = record {
  all = refl;
  named = refl;
  unnamed = refl;
  left_out = refl;
  left_in = refl;
  typed = refl;
  untyped = refl;
  no_kind = refl;
  type_out = refl;
  type_in = refl;
  kindless = refl;
}
