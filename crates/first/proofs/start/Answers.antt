use Rattle.std.proofs.Common.{◌≤◌, length, refl, arith, rules}
use Rattle.pins.proofs.Calls.{call_laws}
use Rattle.first.specs.declared.state.Core.{Core}
use Rattle.first.specs.WorkRules.{core_start}
use Rattle.first.specs.Layout.{decode}
use Rattle.first.specs.Stands.{machine}
use Rattle.first.proofs.RoundTrip.{written}
use Rattle.first.proofs.AlwaysRight.{parts}
use Rattle.first.proofs.Posts.{started}
use Rattle.first.proofs.start.Goals as goal

pub returns-then-core-lt-CORE_WORDS : goal.returns-then-core-lt-CORE_WORDS
returns-then-core-lt-CORE_WORDS c = record { post = started refl (search rules); parts = parts }

pub returns : goal.returns
returns c =
    let w = c.args.core.now in
    let w' = c.save.new.w in
    let n : 65536 ≤ length w = omega arith in
    let saved = written w w' c.start.result (core_start c.args.address) n c.start.ensures c.save.ensures.is c.save.ensures.shaped in
    record { post = started ((call_laws Core).ready machine decode c.args.address w w' saved) (search rules); parts = parts }
