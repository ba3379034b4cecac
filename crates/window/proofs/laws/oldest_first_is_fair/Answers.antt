use Rattle.window.proofs.OldestFirst.{oldest_first_fair}
use Rattle.window.proofs.laws.oldest_first_is_fair.Goals as goal

pub returns : goal.returns
returns g c = oldest_first_fair _
