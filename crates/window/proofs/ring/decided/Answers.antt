use Rattle.std.proofs.Common.{rules, ℕ, Bool, None, is_some, sym, ap, ◌∙◌}
use Rattle.window.specs.Entries.{given}
use Rattle.window.specs.Scans.{decides}
use Rattle.window.specs.Rings.{entry}
use Rattle.window.proofs.Searches.{store_is}
use Rattle.window.proofs.ring.decided.Goals as goal

pub returns-in_err-k : goal.returns-in_err-k
returns-in_err-k c =
    let w = c.args.window.now in
    let f : ℕ → Bool = λ k. is_some (decides c.args.number (entry w k)) in
    let there = c.newest.ensures f (λ k b e. search rules) in
    c.from_residual.ensures ∙ sym (store_is w c.args.number c.args.n ∙ ap (λ o. given o None (λ k. decides c.args.number (entry w k))) (sym there ∙ c.in_err-k.was))

pub returns : goal.returns
returns c =
    let w = c.args.window.now in
    let f : ℕ → Bool = λ k. is_some (decides c.args.number (entry w k)) in
    let there = c.newest.ensures f (λ k b e. search rules) in
    c.decides.ensures
    ∙ sym (store_is w c.args.number c.args.n ∙ ap (λ o. given o None (λ k. decides c.args.number (entry w k))) (sym there ∙ c.in_ok-k.was))
