use Rattle.std.proofs.Common.{◌≡◌, ℕ, Bool}
use Rattle.rings.specs.Searches.{Computes, newest_below}
use Rattle.rings.proofs.search.newest.Given as goal

abbrev pub invariant-search : goal.invariant-search
invariant-search g l = goal.F-IsAlwaysCallable g l.holds × ((f : ℕ → Bool) → Computes (goal.F-post g l.holds) f → newest_below f l.n ≡ newest_below f l.k)

abbrev pub decreases-search : goal.decreases-search
decreases-search g l = l.k
