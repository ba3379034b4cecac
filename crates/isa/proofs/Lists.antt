-- The manual's lists are the machine's.
use Rattle.std.proofs.Common.{◌≡◌, ℕ, zero, suc, ◌<◌, eqb, List, [], ◌∷◌, length, get_or, set, refl, ap, arith}
use mathlib.Core.Option.{some}
use lib.Dec.{eqb-zero-suc, eqb-suc-zero, eqb-suc-suc}
use Rattle.isa.specs.Words.{pick, opt, nth, put}
use Rattle.isa.specs.Registers.{value_in}

pub nth_get_d : (l : List ℕ) (n : ℕ) → opt (nth l n) 0 (λ x. x) ≡ get_or l n 0
nth_get_d [] n = refl
nth_get_d (x ∷ xs) zero = refl
nth_get_d (x ∷ xs) (suc n) = nth_get_d xs n

pub put_set : (l : List ℕ) (n v : ℕ) → put l n v ≡ set l n v
put_set [] n v = refl
put_set (x ∷ xs) zero v = refl
put_set (x ∷ xs) (suc n) v = ap (λ t. x ∷ t) (put_set xs n v)

-- a register after a write to another, or to itself
pub nth_put : (l : List ℕ) (n v q : ℕ) → n < length l → nth (put l n v) q ≡ pick (eqb n q) (some v) (nth l q)
nth_put [] n v q h = absurd (omega arith)
nth_put (x ∷ xs) zero v zero h = refl
nth_put (x ∷ xs) zero v (suc q) h = rw eqb-zero-suc
nth_put (x ∷ xs) (suc n) v zero h = rw eqb-suc-zero
nth_put (x ∷ xs) (suc n) v (suc q) h = rw eqb-suc-suc (nth_put xs n v q (omega arith))

pub value_put : (l : List ℕ) (n v q : ℕ) → n < length l → value_in (put l n v) q ≡ pick (eqb q 0) 0 (pick (eqb n q) v (value_in l q))
value_put l n v q h = rw (nth_put l n v q h) (grind arith)
