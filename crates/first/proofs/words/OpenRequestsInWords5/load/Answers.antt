use Rattle.std.proofs.Common.{ℕ, ◌+◌, get_or, rules}
use Rattle.first.specs.declared.state.Open.TheVariants.{Acknowledgment}
use Rattle.first.specs.Layout.{open_of}
use Rattle.first.proofs.FromFn.{from_fn_is}
use Rattle.first.proofs.words.OpenRequestsInWords5.load.Goals as goal

pub returns : goal.returns
returns c =
    let w = c.args.w.now in
    let e = from_fn_is (λ (k : ℕ). open_of (get_or w (1 + k) 0)) (λ i y q called. (search rules, search rules)) c.from_fn.result 4 Acknowledgment c.from_fn.ensures.items in
    λ i. record { count = get_or w 0 0; at = e i }
