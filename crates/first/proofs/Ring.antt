-- A ring of eight, as the list of what it holds from its begin on.
use Rattle.std.proofs.Common.{◌≡◌, ℕ, zero, suc, ◌+◌, ◌%◌, ◌<◌, List, [], ◌∷◌, ◌++◌, length, get_or, set, refl, ap, ◌∙◌, ap₂, arith, get_or-set_other, get_or-set_same}

-- n elements of xs from place h on, around the circle; d stands for what is not there
abbrev pub ring : {A : Type 0} → A → List A → ℕ → ℕ → List A
ring d xs h zero = []
ring d xs h (suc n) = get_or xs (h % 8) d ∷ ring d xs (suc h) n

module _ {A : Type 0} (d : A) where
  pub ring_length : (xs : List A) (h n : ℕ) → length (ring d xs h n) ≡ n
  ring_length xs h zero = refl
  ring_length xs h (suc n) = ap suc (ring_length xs (suc h) n)

  -- only the place in the circle matters
  pub ring_turn : (xs : List A) (h g n : ℕ) → h % 8 ≡ g % 8 → ring d xs h n ≡ ring d xs g n
  ring_turn xs h g zero e = refl
  ring_turn xs h g (suc n) e = ap₂ ◌∷◌ (ap (λ z. get_or xs z d) e) (ring_turn xs (suc h) (suc g) n (omega arith))

  pub ring_push : (xs : List A) (h n j : ℕ) (x : A) → length xs ≡ 8 → n < 8 → j ≡ (h + n) % 8 → ring d (set xs j x) h (suc n) ≡ ring d xs h n ++ (x ∷ [])
  ring_push xs h zero j x s l e = ap₂ ◌∷◌ (ap (λ z. get_or (set xs j x) z d) (omega arith) ∙ get_or-set_same xs j x d (omega arith)) refl
  ring_push xs h (suc n) j x s l e = ap₂ ◌∷◌ (get_or-set_other xs j (h % 8) x d (λ q. omega arith)) (ring_push xs (suc h) n j x s (omega arith) (omega arith))

  -- the last of n + 1
  pub ring_last : (xs : List A) (h n : ℕ) → ring d xs h (suc n) ≡ ring d xs h n ++ (get_or xs ((h + n) % 8) d ∷ [])
  ring_last xs h zero = ap₂ ◌∷◌ (ap (λ z. get_or xs z d) (omega arith)) refl
  ring_last xs h (suc n) = ap₂ ◌∷◌ refl (ring_last xs (suc h) n ∙ ap (λ z. ring d xs (suc h) n ++ (get_or xs z d ∷ [])) (omega arith))
