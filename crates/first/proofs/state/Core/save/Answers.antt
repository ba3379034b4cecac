use Rattle.std.proofs.Common.{rules}
use Rattle.first.specs.Layout.{core_words, head_words, fetch_words, load_words, requests_words, stores_words}
use Rattle.first.proofs.Parts.{parts_are}
use Rattle.first.proofs.state.Core.save.Goals as goal

pub returns-clause-is : goal.returns-clause-is
unfolding core_words
returns-clause-is c =
    let k = c.args.self.now in
    parts_are c.args.w.now _ _ _ _ _ _ (head_words k) (fetch_words k.fetch) (load_words k.lsu.load) (requests_words k.lsu.requests) (stores_words k.lsu.stores) k.regs.values
    (search rules) (search rules) (search rules) (search rules) (search rules) (search rules) (search rules) (search rules) (search rules) (search rules) (search rules)
