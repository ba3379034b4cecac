use Rattle.std.proofs.Common.{◌≡◌}
use denote.Param.Always.{always_mut}
use Rattle.testbench.proofs.runner.run.Given as goal

-- as many clocks are summed as were run
abbrev pub invariant-loop : goal.invariant-loop
invariant-loop g l = (always_mut g.F.FnMut l.initial.each → always_mut g.F.FnMut l.each) × (l.summary.clocks ≡ l.counter)
