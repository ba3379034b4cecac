use Rattle.std.proofs.Common.{rules, ◌≡◌, sym, ap, ◌∙◌, arith}
use Rattle.rings.specs.Searches.{newest_below}
use Rattle.rings.proofs.Below.{below_on, below_here}
use Rattle.rings.proofs.search.newest.Goals as goal
use Rattle.rings.proofs.search.newest.Goals.{then-k-eq0, else-k-eq0+then-holds}

pub search-preserved : goal.search-preserved
search-preserved g c = (
  search rules,
  λ f says. c.search.invariant.1 f says ∙ below_on f c.search.k (omega arith) (sym c.if-holds.false ∙ says _ _ c.holds.ensures),
)

pub returns : goal.returns
returns g c = λ f says.
    elim c.if-k-eq0.branch [
      | then-k-eq0 w ↦ (let e : c.search.k ≡ 0 = omega arith in w.result-is ∙ sym (c.search.invariant.1 f says ∙ ap (newest_below f) e))
      | else-k-eq0+then-holds w ↦ w.result-is ∙ sym (c.search.invariant.1 f says ∙ below_here f c.search.k (omega arith) (sym w.if-holds.true ∙ says _ _ w.holds.ensures))
    ]
