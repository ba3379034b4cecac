-- A search from the newest place down.
use Rattle.std.proofs.Common.{◌≡◌, ℕ, zero, suc, ◌-◌, ◌<◌, Bool, true, false, cond, Some, sym, refl, ap, ◌∙◌, sub-one, arith}
use Rattle.rings.specs.Searches.{newest_below}

-- the newest below k, by what the place before k is
below_step : (f : ℕ → Bool) (k : ℕ) → 0 < k → newest_below f k ≡ cond (f (k - 1)) (Some (k - 1)) (newest_below f (k - 1))
below_step f zero h = absurd (omega arith)
below_step f (suc k) h = rw sub-one refl

pub below_on : (f : ℕ → Bool) (k : ℕ) → 0 < k → false ≡ f (k - 1) → newest_below f k ≡ newest_below f (k - 1)
below_on f k h e = below_step f k h ∙ ap (λ z. cond z (Some (k - 1)) (newest_below f (k - 1))) (sym e)

pub below_here : (f : ℕ → Bool) (k : ℕ) → 0 < k → true ≡ f (k - 1) → newest_below f k ≡ Some (k - 1)
below_here f k h e = below_step f k h ∙ ap (λ z. cond z (Some (k - 1)) (newest_below f (k - 1))) (sym e)
