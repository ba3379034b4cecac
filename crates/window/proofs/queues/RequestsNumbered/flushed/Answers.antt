use Rattle.std.proofs.Common.{rules}
use Rattle.window.specs.declared.entry.Tag.TheVariants.{Acknowledgment}
use Rattle.window.specs.Machine.{kept, retag}
use Rattle.window.proofs.QueueMap.{map_is}
use Rattle.window.proofs.queues.RequestsNumbered.flushed.Goals as goal

pub returns : goal.returns
returns c =
    map_is _ _ (retag (kept c.args.n)) Acknowledgment (λ x y q e. search rules) c.args.self.now c.map.result c.map.ensures.places c.map.ensures.count c.map.ensures.items
