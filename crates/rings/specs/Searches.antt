-- The newest place that meets a test.
use Rattle.std.specs.Prelude.{◌≡◌, ℕ, zero, suc, Bool, cond, Some, None, Option}

-- the newest before the n-th for which f holds
abbrev pub newest_below : (ℕ → Bool) → ℕ → Option ℕ
newest_below f zero = None
newest_below f (suc n) = cond (f n) (Some n) (newest_below f n)

-- what a test answers is what f computes
abbrev pub Computes : (ℕ → Bool → Type 0) → (ℕ → Bool) → Type 0
Computes Answers f = (k : ℕ) (b : Bool) → Answers k b → b ≡ f k
