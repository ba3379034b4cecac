use denote.Text.{Utf8}
use denote.Shadow.{shadow}
use Rattle.reference_tests.proofs.instructions.check_all.Given as goal

-- the name is text
abbrev pub invariant-loop-line : goal.invariant-loop-line
invariant-loop-line l =
    (goal.iterator-loop-line).can_next l.line-iterator ×
    (goal.iterator-loop-line).is_finite l.line-iterator ×
    shadow (Utf8 l.name)
