use Rattle.std.proofs.Common.{◌≡◌, [], length, false}
use Rattle.testbench.proofs.options.read.Given as goal

-- with no words, nothing has been set
abbrev pub invariant-loop-word : goal.invariant-loop-word
invariant-loop-word g l = l.fn.words ≡ [] → (l.left.rest.now ≡ []) × (l.set ≡ l.fn.set) × (l.help ≡ false)

abbrev pub decreases-loop-word : goal.decreases-loop-word
decreases-loop-word g l = length l.left.rest.now
