use Rattle.std.proofs.Common.{ℕ, ◌+◌, ◌*◌, get_or, rules}
use Rattle.first.specs.StoreRules.{no_store}
use Rattle.first.specs.Layout.{store_of, stores_of}
use Rattle.first.proofs.FromFn.{from_fn_is}
use Rattle.first.proofs.words.StoreBufferInWords18.load.Goals as goal

pub returns : goal.returns
unfolding stores_of
returns c =
    let w = c.args.w.now in
    let e = from_fn_is (λ (k : ℕ). store_of w (2 + 2 * k)) (λ i y q called. (search rules, search rules)) c.from_fn.result 8 no_store c.from_fn.ensures.items in
    λ i. record { begin = get_or w 0 0; count = get_or w 1 0; at = e i }
