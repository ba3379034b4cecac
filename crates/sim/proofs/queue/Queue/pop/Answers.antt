use Rattle.std.proofs.Common.{rules, arith, ◌≡◌, true, false, ◌∷◌, ◌≤◌, List, Bool, Some, inl, inr, refl, MutBor}
use Rattle.std.specs.Fn.{FnOnceReturnsAtMut, Once}
use Rattle.std.specs.List.Retain.{PopsFrontIf}
use Rattle.sim.proofs.queue.Queue.pop.Goals as goal

-- a closure that changes nothing lets the first go only where P holds of it
popped : {F A : Type 0} (R : Once F (MutBor A × Unit {0}) (Bool × (MutBor A × Unit {0}))) (f : F) (P : A → Type 0) (old new : List A) (x : A)
    → ((z y : A) (b : Bool) → FnOnceReturnsAtMut R f z b y → (y ≡ z) × (b ≡ true → P z))
    → PopsFrontIf R old new f (Some x) → (old ≡ x ∷ new) × P x
popped R f P old new x k (inl (a, b, e)) = grind arith
popped R f P old new x k (inr (xs, z, true, y, e1, call, e2, e3)) = let h = k z y true call in let p = h.1 refl in grind arith
popped R f P old new x k (inr (xs, z, false, y, e1, call, e2, e3)) = grind arith

pub returns : goal.returns
returns g c = let h = popped _ _ (λ z. z.due ≤ c.args.clock) _ _ _ (λ z y b k. search rules) c.in_ok-oldest.ensures.cases in (_, h.0, h.1)
