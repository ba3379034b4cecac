use Rattle.std.proofs.Common.{rules, ◌≡◌, ℕ, Bool, refl, sym, ap, ◌∙◌, arith}
use Rattle.std.specs.List.{find, range_with_len}
use Rattle.std.specs.Option.{unwrap_or, option_map}
use Rattle.std.proofs.lemmas.Iterator.{YieldsList-from_range}
use Rattle.std.proofs.lemmas.Iterator.Search.{find_from_yields_List}
use Rattle.window.specs.Rings.{entry}
use Rattle.pipeline.specs.Stages.{stands}
use Rattle.pipeline.proofs.Searches.{same_number, first_found}
use Rattle.pipeline.proofs.stages.Stage.first.Goals as goal

pub returns : goal.returns
returns c =
    let k = c.args.path.now in
    let test : ℕ → Bool = λ n. stands c.args.self k.requests n (entry k.window n) in
    let found : option_map (λ x. x) c.find.result ≡ find test (range_with_len 0 k.window.count) =
    find_from_yields_List test _ _ c.find.result c.find.ensures.ran (YieldsList-from_range 0 k.window.count k.window.count refl (omega arith)) (λ x b q e. search rules) in
    c.unwrap_or.ensures
    ∙ ap (λ o. unwrap_or o k.window.count) (sym (same_number c.find.result) ∙ found)
    ∙ first_found test 0 k.window.count k.window.count (omega arith)
