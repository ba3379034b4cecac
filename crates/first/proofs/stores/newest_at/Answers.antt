use Rattle.std.proofs.Common.{rules}
use Rattle.first.specs.StoreRules.{newest, here}
use Rattle.first.proofs.stores.newest_at.Goals as goal

pub returns : goal.returns
unfolding newest
returns c = c.newest.ensures (here c.args.stores.now c.args.address) (λ k t e. search rules)
