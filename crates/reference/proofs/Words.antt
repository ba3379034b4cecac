-- A map of words as a function, after what is done to it.
use Rattle.std.proofs.Common.{◌≡◌, ℕ, Bool, true, false, cond, Some, Option, unwrap_or, refl, ap, ◌∙◌}
use Rattle.std.specs.BTreeMap.{BTreeMap}
use Rattle.std.specs.BTreeMap.{get, IsEmpty, Updates, IsUnchanged}
use Rattle.std.specs.Map.{lookup}
use Rattle.std.specs.Ordering.{nat_cmp, eq_by_cmp}
use Rattle.std.specs.Cmp.{unsigned_tied}
use Rattle.isa.specs.Words.{pick}
use Rattle.isa.specs.Manual.{store}
use Rattle.reference.specs.Memory.{reads}

picked : (b : Bool) (v : ℕ) (o : Option ℕ) → unwrap_or (cond b (Some v) o) 0 ≡ pick b v (unwrap_or o 0)
picked true v o = refl
picked false v o = refl

pub reads_none : (m : BTreeMap ℕ ℕ) → IsEmpty m → reads m ≡ (λ _. 0)
reads_none m e i k = ap (λ es. unwrap_or (lookup (λ q. eq_by_cmp nat_cmp k q) es) 0) e i

pub reads_kept : (m n : BTreeMap ℕ ℕ) → IsUnchanged m n → reads n ≡ reads m
reads_kept m n u i k = ap (λ es. unwrap_or (lookup (λ q. eq_by_cmp nat_cmp k q) es) 0) u i

pub reads_set : (m n : BTreeMap ℕ ℕ) (k v : ℕ) → Updates nat_cmp m n k (Some v) → reads n ≡ store (reads m) k v
reads_set m n k v s i q =
    (ap (λ o. unwrap_or o 0) (s.0 q)
    ∙ picked (eq_by_cmp nat_cmp k q) v (get nat_cmp m q)
    ∙ ap (λ b. pick b v (unwrap_or (get nat_cmp m q) 0)) (unsigned_tied k q)) i
