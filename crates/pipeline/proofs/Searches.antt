-- The search for a stage's instruction, as the library's.
use Rattle.std.proofs.Common.{◌≡◌, ℕ, zero, suc, ◌+◌, Bool, true, false, cond, Some, None, Option, refl, arith}
use Rattle.std.specs.List.{find, range_with_len}
use Rattle.std.specs.Option.{unwrap_or, option_map}
use Rattle.isa.specs.Words.{pick}
use Rattle.pipeline.specs.Stages.{first_from}

pub same_number : (o : Option ℕ) → option_map (λ x. x) o ≡ o
same_number None = refl
same_number (Some n) = refl

-- m, if there is none of the r numbers from n on
pub first_found : (p : ℕ → Bool) (n r m : ℕ) → n + r ≡ m → unwrap_or (find p (range_with_len n r)) m ≡ first_from p n r
first_found p n zero m e = omega arith
first_found p n (suc r) m e = by (p n) (first_found p (n + 1) r m (omega arith))
  where
    by : (b : Bool) → unwrap_or (find p (range_with_len (n + 1) r)) m ≡ first_from p (n + 1) r → unwrap_or (cond b (Some n) (find p (range_with_len (n + 1) r))) m ≡ pick b n (first_from p (n + 1) r)
    by true h = refl
    by false h = h
