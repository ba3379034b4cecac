use Rattle.std.proofs.Common.{rules, None}
use Rattle.window.specs.Machine.{kept, renumber}
use Rattle.window.proofs.QueueMap.{map_is}
use Rattle.window.proofs.queues.FetchesNumbered.flushed.Goals as goal

pub returns : goal.returns
returns c =
    map_is _ _ (renumber (kept c.args.n)) None (λ x y q e. search rules) c.args.self.now c.map.result c.map.ensures.places c.map.ensures.count c.map.ensures.items
