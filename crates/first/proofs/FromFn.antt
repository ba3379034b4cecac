-- An array made by one closure, each call of which answers by the place alone.
use Rattle.std.proofs.Common.{◌≡◌, ℕ, zero, suc, ◌+◌, ◌<◌, ◌≤◌, ◌⊎◌, List, get_or, sym, ap, ◌∙◌, subst, inl, inr, arith}
use Rattle.std.proofs.lemmas.Bool.{cases_lt}
use Rattle.std.proofs.lemmas.List.FromFn.{fill_by_all}
use Rattle.std.specs.List.{range_with_len}
use Rattle.std.specs.Array.{IsFromFnResult, IsFromFnResultFrom}
use denote.Param.Members.{Mut, Called}
use mathlib.Core.List.{map}

module _ {F B : Type 0} {g : Mut F (ℕ × Unit {0}) B} {f : F} (h : ℕ → B) (step : (i : ℕ) (y : B) (q : F) → Called g f (i, tt) y q → (q ≡ f) × (y ≡ h i)) where
  each_is : (ys : List B) (n i : ℕ) (p : F) → p ≡ f → IsFromFnResultFrom g p ys i n → (k : ℕ) (d : B) → i ≤ k → k < i + n → get_or ys k d ≡ h k
  each_is ys zero i p e r k d a b = absurd (omega arith)
  each_is ys (suc n) i p e (q, y, el, called, more) k d a b =
      let s = step i y q (subst (λ (x : F). Called g x (i, tt) y q) e called) in
      by s (cases_lt i k) (λ l. each_is ys n (i + 1) q s.0 more k d (omega arith) (omega arith))
    where
      by : (q ≡ f) × (y ≡ h i) → (i < k) ⊎ (k ≤ i) → (i < k → get_or ys k d ≡ h k) → get_or ys k d ≡ h k
      by s (inl l) later = later l
      by s (inr l) later =
          let z : k ≡ i = omega arith in
          ap (λ (j : ℕ). get_or ys j d) z ∙ el.1 d ∙ s.1 ∙ ap h (sym z)

  pub from_fn_is : (ys : List B) (n : ℕ) (d : B) → IsFromFnResult g f ys n → ys ≡ map h (range_with_len 0 n)
  from_fn_is ys n d r = fill_by_all h ys n d r.long (λ k l. each_is ys n 0 f (λ i. f) r.each k d (omega arith) (omega arith))
