use Rattle.std.proofs.Common.{get_or}
use Rattle.pins.proofs.ReadBack.{rets_read}
use Rattle.pins.proofs.ports.done_of.Goals as goal

pub returns : goal.returns
returns c h =
    let w = c.args.outs.now in
    rets_read w (get_or w 7 0) c.retired_at.result c.retired_at-2.result c.retired_at-3.result c.retired_at-4.result h c.retired_at.ensures c.retired_at-2.ensures c.retired_at-3.ensures c.retired_at-4.ensures
