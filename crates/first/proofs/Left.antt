-- How many clocks an open request has left, by the ages of what is open.
use Rattle.std.proofs.Common.{◌≡◌, ℕ, zero, suc, ◌+◌, ◌-◌, ◌<◌, ◌≤◌, true, leb, List, [], ◌∷◌, map, length, refl, ap, arith}
use mathlib.Core.Option.{Option, some, none}
use Rattle.std.proofs.lemmas.Bool.{leb-true, and_parts}
use Rattle.pins.specs.Outside.{Want, Wish, young, young1}
use Rattle.pins.specs.View.{push}
use Rattle.pins.specs.Waits.{ages, ages1}

-- none has waited for more than l clocks
abbrev pub Young : ℕ → List ℕ → Type 0
Young l [] = Unit {0}
Young l (g ∷ q) = (g ≤ l) × Young l q

pub young_codes : (l : ℕ) (ws : List Want) → young l ws ≡ true → Young l (ages ws)
young_codes l [] y = tt
young_codes l (w ∷ ws) y = (leb-true w.age l (and_parts (leb w.age l) (young l ws) y).0, young_codes l ws (and_parts (leb w.age l) (young l ws) y).1)

pub young_datas : (l : ℕ) (ws : List Wish) → young1 l ws ≡ true → Young l (ages1 ws)
young_datas l [] y = tt
young_datas l (w ∷ ws) y = (leb-true w.age l (and_parts (leb w.age l) (young1 l ws) y).0, young_datas l ws (and_parts (leb w.age l) (young1 l ws) y).1)

-- an answer comes only to what is open
abbrev pub AskedFor : Option ℕ → List ℕ → Type 0
AskedFor none q = Unit {0}
AskedFor (some x) [] = ⊥
AskedFor (some x) (g ∷ q) = Unit {0}

-- one clock older
abbrev pub older : List ℕ → List ℕ
older q = map (λ n. n + 1) q

-- of the n-th open one; one that is not asked for yet has a clock for that too
abbrev pub left : ℕ → ℕ → List ℕ → ℕ
left l n [] = l + 2
left l zero (g ∷ q) = suc l - g
left l (suc n) (g ∷ q) = left l n q

pub older_length : (q : List ℕ) → length (older q) ≡ length q
older_length [] = refl
older_length (g ∷ q) = ap suc (older_length q)

pub young_push : (l : ℕ) (y : Option ℕ) (q : List ℕ) → Young l (push y q) → Young l q
young_push l none q h = h
young_push l (some y) [] h = tt
young_push l (some y) (g ∷ q) (e, h) = (e, young_push l (some y) q h)

pub left_older : (l n : ℕ) (q : List ℕ) → n < length q → Young l (older q) → left l n (older q) < left l n q
left_older l n [] h y = absurd (omega arith)
left_older l zero (g ∷ q) h (e, y) = omega arith
left_older l (suc n) (g ∷ q) h (e, y) = left_older l n q (omega arith) y

pub left_push : (l n : ℕ) (y : Option ℕ) (q : List ℕ) → n < length q → left l n (push y q) ≡ left l n q
left_push l n none q h = refl
left_push l n (some y) [] h = absurd (omega arith)
left_push l zero (some y) (g ∷ q) h = refl
left_push l (suc n) (some y) (g ∷ q) h = left_push l n (some y) q (omega arith)

pub left_new : (l y : ℕ) (q : List ℕ) → left l (length q) (push (some y) q) ≡ suc l - y
left_new l y [] = refl
left_new l y (g ∷ q) = left_new l y q

pub left_past : (l n : ℕ) (q : List ℕ) → n ≡ length q → left l n q ≡ l + 2
left_past l n [] e = refl
left_past l zero (g ∷ q) e = absurd (omega arith)
left_past l (suc n) (g ∷ q) e = left_past l n q (omega arith)

pub left_most : (l n : ℕ) (q : List ℕ) → left l n q ≤ l + 2
left_most l n [] = omega arith
left_most l zero (g ∷ q) = omega arith
left_most l (suc n) (g ∷ q) = left_most l n q

pub left_some : (l n : ℕ) (q : List ℕ) → Young l q → 0 < left l n q
left_some l n [] y = omega arith
left_some l zero (g ∷ q) (e, y) = omega arith
left_some l (suc n) (g ∷ q) (e, y) = left_some l n q y
