use Rattle.std.proofs.Common.{◌≡◌, ◌%◌, All}
use Rattle.asm.specs.declared.program.Placed.{Placed}
use Rattle.testbench.proofs.args.Value.placed.Given as goal

-- words in place stay in place
abbrev pub invariant-loop-part : goal.invariant-loop-part
invariant-loop-part l =
    (goal.iterator-loop-part).can_next l.part-iterator ×
    (goal.iterator-loop-part).is_finite l.part-iterator ×
    (All (λ (p : Placed). p.address % 4 ≡ 0) l.fn.list.items → All (λ (p : Placed). p.address % 4 ≡ 0) l.list.items)
