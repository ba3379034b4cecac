-- A circle of any size N: what is written and read around it, as lists.
use Rattle.std.proofs.Common.{◌≡◌, ℕ, zero, suc, ◌+◌, ◌-◌, ◌*◌, ◌/◌, ◌%◌, ◌<◌, ◌≤◌, Bool, true, false, cond, ltb, ◌⊎◌, List, [], ◌∷◌, ◌++◌, length, get_or, take, set, sym, refl, ap, ◌∙◌, inl, inr, add-zero, mod-lt, mul-le-mul_left, mul-suc, add-one, sub-one, arith, get_or-set_other, get_or-set_same, ltb-false, ltb-true}
use mathlib.Core.Option.{some, none}
use native.Mathlib.Nat.{mod-mod, add-mod, mod-add-mod, mod-add-div}
use Rattle.std.proofs.lemmas.Bool.{cases_lt}
use Rattle.isa.specs.Words.{nth, put}
use Rattle.window.specs.Rings.{around, rest}

-- by a test, with what it tells
pub by_test : {B : Type 0} (P : B → Type 0) (a b : ℕ) (x y : B) → (a < b → P x) → (b ≤ a → P y) → P (cond (ltb a b) x y)
by_test P a b x y f g = by (ltb a b) refl
  where
    by : (t : Bool) → ltb a b ≡ t → P (cond t x y)
    by true e = f (ltb-true a b e)
    by false e = g (ltb-false a b e)

-- two places less than N apart are two slots
mul_more : (N p q : ℕ) → p < q → N * p + N ≤ N * q
mul_more N p q h = let l = mul-le-mul_left N h in let e = mul-suc N p in omega arith

pub one_slot : (N h i j : ℕ) → i < N → j < N → (h + i) % N ≡ (h + j) % N → i ≡ j
one_slot N h i j a b e =
    let p = mod-add-div (h + i) N in
    let q = mod-add-div (h + j) N in
    by (cases_lt ((h + i) / N) ((h + j) / N)) (cases_lt ((h + j) / N) ((h + i) / N)) p q
  where
    by : ((h + i) / N < (h + j) / N) ⊎ ((h + j) / N ≤ (h + i) / N) → ((h + j) / N < (h + i) / N) ⊎ ((h + i) / N ≤ (h + j) / N)
        → (h + i) % N + N * ((h + i) / N) ≡ h + i → (h + j) % N + N * ((h + j) / N) ≡ h + j → i ≡ j
    by (inl l) r p q = let m = mul_more N ((h + i) / N) ((h + j) / N) l in absurd (omega arith)
    by (inr l) (inl r) p q = let m = mul_more N ((h + j) / N) ((h + i) / N) r in absurd (omega arith)
    by (inr l) (inr r) p q = let s : (h + i) / N ≡ (h + j) / N = omega arith in let t = ap (λ z. N * z) s in omega arith

-- the slot as the code has it
pub slot_is : (N h n : ℕ) → (h % N + n % N) % N ≡ (h + n) % N
slot_is N h n = sym (add-mod h n N)

next_slot : (N h i : ℕ) → (suc h + i) % N ≡ (h + suc i) % N
next_slot N h i = let e : suc h + i ≡ h + suc i = omega arith in ap (λ z. z % N) e

this_slot : (N h : ℕ) → (h + 0) % N ≡ h % N
this_slot N h = ap (λ z. z % N) (add-zero h)

module _ {A : Type 0} (N : ℕ) (pos : 0 < N) (d : A) where
  cons_eq : {x y : A} {xs ys : List A} → x ≡ y → xs ≡ ys → ◌≡◌ {A = List A} (x ∷ xs) (y ∷ ys)
  cons_eq p q = λ i. p i ∷ q i

  pub around_length : (xs : List A) (h n : ℕ) → length (around N d xs h n) ≡ n
  around_length xs h zero = refl
  around_length xs h (suc n) = ap suc (around_length xs (suc h) n)

  -- only the place in the circle matters
  pub around_turn : (xs : List A) (h g n : ℕ) → h % N ≡ g % N → around N d xs h n ≡ around N d xs g n
  around_turn xs h g zero e = refl
  around_turn xs h g (suc n) e =
      cons_eq (ap (λ z. get_or xs z d) e)
      (around_turn xs (suc h) (suc g) n
      (ap (λ z. z % N) (sym (add-one h)) ∙ sym (mod-add-mod h N 1) ∙ ap (λ z. (z + 1) % N) e ∙ mod-add-mod g N 1 ∙ ap (λ z. z % N) (add-one g)))

  pub around_pop : (xs : List A) (h n : ℕ) → 0 < n → around N d xs ((h % N + 1) % N) (n - 1) ≡ rest (around N d xs h n)
  around_pop xs h zero l = absurd (omega arith)
  around_pop xs h (suc n) l =
      rw (sub-one (suc n)) (around_turn xs ((h % N + 1) % N) (suc h) n (mod-mod (h % N + 1) N ∙ mod-add-mod h N 1 ∙ ap (λ z. z % N) (add-one h)))

  pub around_none : (xs : List A) (h n : ℕ) → n ≤ 0 → around N d xs h n ≡ rest (around N d xs h n)
  around_none xs h zero l = refl
  around_none xs h (suc n) l = absurd (omega arith)

  -- a write to a slot that is not of the list
  around_other : (xs : List A) (h n j : ℕ) (x : A) → ((i : ℕ) → i < n → (h + i) % N ≡ j → ⊥) → around N d (set xs j x) h n ≡ around N d xs h n
  around_other xs h zero j x g = refl
  around_other xs h (suc n) j x g =
      cons_eq (get_or-set_other xs j (h % N) x d (λ e. g 0 (omega arith) (this_slot N h ∙ e)))
      (around_other xs (suc h) n j x (λ i l e. g (suc i) (omega arith) (sym (next_slot N h i) ∙ e)))

  -- behind the last
  pub around_push : (xs : List A) (h n j : ℕ) (x : A) → length xs ≡ N → n < N → j ≡ (h + n) % N → around N d (set xs j x) h (suc n) ≡ around N d xs h n ++ (x ∷ [])
  around_push xs h zero j x s l e =
      cons_eq (ap (λ z. get_or (set xs j x) z d) (sym (e ∙ this_slot N h)) ∙ get_or-set_same xs j x d (let m = mod-lt (h + 0) pos in omega arith)) refl
  around_push xs h (suc n) j x s l e =
      cons_eq (get_or-set_other xs j (h % N) x d (λ q. (let z = one_slot N h (suc n) 0 l pos (sym e ∙ sym q ∙ sym (this_slot N h)) in omega arith)))
      (around_push xs (suc h) n j x s (omega arith) (e ∙ sym (next_slot N h n)))

  -- at the k-th
  pub around_put : (xs : List A) (h n k j : ℕ) (x : A) → length xs ≡ N → n ≤ N → k < n → j ≡ (h + k) % N → around N d (set xs j x) h n ≡ put (around N d xs h n) k x
  around_put xs h zero k j x s m l e = absurd (omega arith)
  around_put xs h (suc n) zero j x s m l e =
      cons_eq (ap (λ z. get_or (set xs j x) z d) (sym (e ∙ this_slot N h)) ∙ get_or-set_same xs j x d (let m = mod-lt (h + 0) pos in omega arith))
      (around_other xs (suc h) n j x (λ i b q. (let z = one_slot N h (suc i) 0 (omega arith) pos (sym (next_slot N h i) ∙ q ∙ e) in omega arith)))
  around_put xs h (suc n) (suc k) j x s m l e =
      cons_eq (get_or-set_other xs j (h % N) x d (λ q. (let z = one_slot N h (suc k) 0 (omega arith) pos (sym e ∙ sym q ∙ sym (this_slot N h)) in omega arith)))
      (around_put xs (suc h) n k j x s (omega arith) (omega arith) (e ∙ sym (next_slot N h k)))

  pub put_beyond : (xs : List A) (h n k : ℕ) (x : A) → n ≤ k → put (around N d xs h n) k x ≡ around N d xs h n
  put_beyond xs h zero k x l = refl
  put_beyond xs h (suc n) zero x l = absurd (omega arith)
  put_beyond xs h (suc n) (suc k) x l = cons_eq refl (put_beyond xs (suc h) n k x (omega arith))

  -- the first k
  pub around_take : (xs : List A) (h n k : ℕ) → k ≤ n → around N d xs h k ≡ take k (around N d xs h n)
  around_take xs h n zero l = refl
  around_take xs h zero (suc k) l = absurd (omega arith)
  around_take xs h (suc n) (suc k) l = cons_eq refl (around_take xs (suc h) n k (omega arith))

  pub take_beyond : (xs : List A) (h n k : ℕ) → n ≤ k → take k (around N d xs h n) ≡ around N d xs h n
  take_beyond xs h zero zero l = refl
  take_beyond xs h zero (suc k) l = refl
  take_beyond xs h (suc n) zero l = absurd (omega arith)
  take_beyond xs h (suc n) (suc k) l = cons_eq refl (take_beyond xs (suc h) n k (omega arith))

  -- the k-th
  pub around_nth : (xs : List A) (h n k : ℕ) → k < n → nth (around N d xs h n) k ≡ some (get_or xs ((h + k) % N) d)
  around_nth xs h zero k l = absurd (omega arith)
  around_nth xs h (suc n) zero l = ap (λ z. some (get_or xs z d)) (sym (this_slot N h))
  around_nth xs h (suc n) (suc k) l = around_nth xs (suc h) n k (omega arith) ∙ ap (λ z. some (get_or xs z d)) (next_slot N h k)

  pub nth_beyond : (xs : List A) (h n k : ℕ) → n ≤ k → nth (around N d xs h n) k ≡ none
  nth_beyond xs h zero k l = refl
  nth_beyond xs h (suc n) zero l = absurd (omega arith)
  nth_beyond xs h (suc n) (suc k) l = nth_beyond xs (suc h) n k (omega arith)

  -- one more
  pub around_last : (xs : List A) (h n : ℕ) → around N d xs h (suc n) ≡ around N d xs h n ++ (get_or xs ((h + n) % N) d ∷ [])
  around_last xs h zero = cons_eq (ap (λ z. get_or xs z d) (sym (this_slot N h))) refl
  around_last xs h (suc n) = cons_eq refl (around_last xs (suc h) n ∙ ap (λ z. around N d xs (suc h) n ++ (get_or xs z d ∷ [])) (next_slot N h n))
