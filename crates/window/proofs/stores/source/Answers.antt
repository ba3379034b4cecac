use Rattle.std.proofs.Common.{rules, sym, ap, ◌∙◌}
use Rattle.pins.specs.declared.held.Store.{Store}
use Rattle.window.specs.declared.entry.Source.TheVariants.{Memory, Forwarded}
use Rattle.window.specs.Entries.{given}
use Rattle.window.specs.Rings.{no_store, buffer_entry, matches}
use Rattle.window.proofs.Searches.{read, row_is_newest}
use Rattle.window.proofs.stores.source.Goals as goal

pub returns-in-Some : goal.returns-in-Some
returns-in-Some c =
    let b = c.args.stores.now in
    let there = c.newest.ensures (matches b c.args.number) (λ k t e. search rules) in
    ap (λ (p : Store). Forwarded p.value) (read b.at _ c.entry.result no_store c.entry.ensures)
    ∙ sym (row_is_newest b c.args.number b.count ∙ ap (λ o. given o Memory (λ k. Forwarded (buffer_entry b k).value)) (sym there ∙ c.in-Some.is))

pub returns-in-None : goal.returns-in-None
returns-in-None c =
    let b = c.args.stores.now in
    let there = c.newest.ensures (matches b c.args.number) (λ k t e. search rules) in
    sym (row_is_newest b c.args.number b.count ∙ ap (λ o. given o Memory (λ k. Forwarded (buffer_entry b k).value)) (sym there ∙ c.in-None.is))
