-- Four open at a time: how long until the port was free m + 1 times, by the ages of what is open. All four are answered within l + 1 clocks together.
use Rattle.std.proofs.Common.{◌≡◌, ℕ, zero, suc, ◌+◌, ◌-◌, ◌*◌, ◌<◌, ◌≤◌, List, [], ◌∷◌, ◌++◌, map, length, sym, subst, arith}
use mathlib.Core.Option.{Option as Opt, some, none}
use Rattle.isa.specs.Manual.{Mem}
use Rattle.pins.specs.Outside.{Io, Hist, O, begin, onward, outside, after}
use Rattle.pins.specs.View.{pop}
use Rattle.pins.specs.Waits.{ages1, aged, age0}
use Rattle.pins.proofs.Waiting.{wait_laws}
use Rattle.window.proofs.Marks.{Young}

-- four places, by when each is free; one that is used is free again l + 1 later
abbrev pub after_free : ℕ → ℕ → ℕ → ℕ → ℕ → ℕ → ℕ
after_free l zero a b c d = a
after_free l (suc m) a b c d = suc (after_free l m b c d (a + (l + 1)))

pub free_mono : (l m a b c d p q r s : ℕ) → a ≤ p → b ≤ q → c ≤ r → d ≤ s → after_free l m a b c d ≤ after_free l m p q r s
free_mono l zero a b c d p q r s h i j k = h
free_mono l (suc m) a b c d p q r s h i j k = let z = free_mono l m b c d (a + (l + 1)) q r s (p + (l + 1)) i j k (omega arith) in omega arith

pub free_older : (l m a b c d p q r s : ℕ) → a < p → b < q → c < r → d < s → after_free l m a b c d < after_free l m p q r s
free_older l zero a b c d p q r s h i j k = h
free_older l (suc m) a b c d p q r s h i j k = let z = free_older l m b c d (a + (l + 1)) q r s (p + (l + 1)) i j k (omega arith) in omega arith

abbrev pub left : ℕ → ℕ → ℕ
left l a = (l + 1) - a

abbrev pub frees : ℕ → ℕ → List ℕ → ℕ
frees l m [] = after_free l m 1 1 1 1
frees l m (a ∷ []) = after_free l m 1 1 1 (left l a)
frees l m (a ∷ b ∷ []) = after_free l m 1 1 (left l a) (left l b)
frees l m (a ∷ b ∷ c ∷ []) = after_free l m 1 (left l a) (left l b) (left l c)
frees l m (a ∷ b ∷ c ∷ d ∷ q) = after_free l m (left l a) (left l b) (left l c) (left l d)

-- older ones stand before younger ones
abbrev pub Falling : List ℕ → Type 0
Falling [] = Unit {0}
Falling (a ∷ []) = Unit {0}
Falling (a ∷ b ∷ q) = (b ≤ a) × Falling (b ∷ q)

-- with room, the place is used, or not: one time less
pub frees_used : (l m : ℕ) (i r : Opt ℕ) (q : List ℕ) → length (pop i q) < 4 → length q ≤ 4 → Falling q → Young l q
    → frees l m (aged i r q) < frees l (suc m) q
frees_used l m none none [] h g s v = let z = free_mono l m 1 1 1 1 1 1 1 (1 + (l + 1)) (omega arith) (omega arith) (omega arith) (omega arith) in omega arith
frees_used l m (some x) none [] h g s v = let z = free_mono l m 1 1 1 1 1 1 1 (1 + (l + 1)) (omega arith) (omega arith) (omega arith) (omega arith) in omega arith
frees_used l m none (some y) [] h g s v = let z = free_mono l m 1 1 1 (left l y) 1 1 1 (1 + (l + 1)) (omega arith) (omega arith) (omega arith) (omega arith) in omega arith
frees_used l m (some x) (some y) [] h g s v = let z = free_mono l m 1 1 1 (left l y) 1 1 1 (1 + (l + 1)) (omega arith) (omega arith) (omega arith) (omega arith) in omega arith
frees_used l m none none (a ∷ []) h g s v = let u = v 0 in let z = free_mono l m 1 1 1 (left l (a + 1)) 1 1 (left l a) (1 + (l + 1)) (omega arith) (omega arith) (omega arith) (omega arith) in omega arith
frees_used l m (some x) none (a ∷ []) h g s v = let u = v 0 in let z = free_mono l m 1 1 1 1 1 1 (left l a) (1 + (l + 1)) (omega arith) (omega arith) (omega arith) (omega arith) in omega arith
frees_used l m none (some y) (a ∷ []) h g s v = let u = v 0 in let z = free_mono l m 1 1 (left l (a + 1)) (left l y) 1 1 (left l a) (1 + (l + 1)) (omega arith) (omega arith) (omega arith) (omega arith) in omega arith
frees_used l m (some x) (some y) (a ∷ []) h g s v = let u = v 0 in let z = free_mono l m 1 1 1 (left l y) 1 1 (left l a) (1 + (l + 1)) (omega arith) (omega arith) (omega arith) (omega arith) in omega arith
frees_used l m none none (a ∷ b ∷ []) h g s v = let u = v 0 in let w = s.0 in let z = free_mono l m 1 1 (left l (a + 1)) (left l (b + 1)) 1 (left l a) (left l b) (1 + (l + 1)) (omega arith) (omega arith) (omega arith) (omega arith) in omega arith
frees_used l m (some x) none (a ∷ b ∷ []) h g s v = let u = v 0 in let w = s.0 in let z = free_mono l m 1 1 1 (left l (b + 1)) 1 (left l a) (left l b) (1 + (l + 1)) (omega arith) (omega arith) (omega arith) (omega arith) in omega arith
frees_used l m none (some y) (a ∷ b ∷ []) h g s v = let u = v 0 in let w = s.0 in let z = free_mono l m 1 (left l (a + 1)) (left l (b + 1)) (left l y) 1 (left l a) (left l b) (1 + (l + 1)) (omega arith) (omega arith) (omega arith) (omega arith) in omega arith
frees_used l m (some x) (some y) (a ∷ b ∷ []) h g s v = let u = v 0 in let w = s.0 in let z = free_mono l m 1 1 (left l (b + 1)) (left l y) 1 (left l a) (left l b) (1 + (l + 1)) (omega arith) (omega arith) (omega arith) (omega arith) in omega arith
frees_used l m none none (a ∷ b ∷ c ∷ []) h g s v = let u = v 0 in let w = s.0 in let w2 = s.1.0 in let z = free_mono l m 1 (left l (a + 1)) (left l (b + 1)) (left l (c + 1)) (left l a) (left l b) (left l c) (1 + (l + 1)) (omega arith) (omega arith) (omega arith) (omega arith) in omega arith
frees_used l m (some x) none (a ∷ b ∷ c ∷ []) h g s v = let u = v 0 in let w = s.0 in let w2 = s.1.0 in let z = free_mono l m 1 1 (left l (b + 1)) (left l (c + 1)) (left l a) (left l b) (left l c) (1 + (l + 1)) (omega arith) (omega arith) (omega arith) (omega arith) in omega arith
frees_used l m none (some y) (a ∷ b ∷ c ∷ []) h g s v = let u = v 0 in let w = s.0 in let w2 = s.1.0 in let z = free_mono l m (left l (a + 1)) (left l (b + 1)) (left l (c + 1)) (left l y) (left l a) (left l b) (left l c) (1 + (l + 1)) (omega arith) (omega arith) (omega arith) (omega arith) in omega arith
frees_used l m (some x) (some y) (a ∷ b ∷ c ∷ []) h g s v = let u = v 0 in let w = s.0 in let w2 = s.1.0 in let z = free_mono l m 1 (left l (b + 1)) (left l (c + 1)) (left l y) (left l a) (left l b) (left l c) (1 + (l + 1)) (omega arith) (omega arith) (omega arith) (omega arith) in omega arith
frees_used l m none r (a ∷ b ∷ c ∷ d ∷ q) h g s v = absurd (omega arith)
frees_used l m (some x) r (a ∷ b ∷ c ∷ d ∷ e ∷ q) h g s v = absurd (omega arith)
frees_used l m (some x) none (a ∷ b ∷ c ∷ d ∷ []) h g s v = let u = v 0 in let u2 = v 1 in let w = s.0 in let w2 = s.1.0 in let w3 = s.1.1.0 in let z = free_mono l m 1 (left l (b + 1)) (left l (c + 1)) (left l (d + 1)) (left l b) (left l c) (left l d) (left l a + (l + 1)) (omega arith) (omega arith) (omega arith) (omega arith) in omega arith
frees_used l m (some x) (some y) (a ∷ b ∷ c ∷ d ∷ []) h g s v = let u = v 0 in let u2 = v 1 in let w = s.0 in let w2 = s.1.0 in let w3 = s.1.1.0 in let z = free_mono l m (left l (b + 1)) (left l (c + 1)) (left l (d + 1)) (left l y) (left l b) (left l c) (left l d) (left l a + (l + 1)) (omega arith) (omega arith) (omega arith) (omega arith) in omega arith

-- with four open and none answered, all get older
pub frees_full : (l m : ℕ) (q : List ℕ) → length q ≡ 4 → Young l (map (λ n. n + 1) q) → frees l m (map (λ n. n + 1) q) < frees l m q
frees_full l m [] e v = absurd (omega arith)
frees_full l m (a ∷ []) e v = absurd (omega arith)
frees_full l m (a ∷ b ∷ []) e v = absurd (omega arith)
frees_full l m (a ∷ b ∷ c ∷ []) e v = absurd (omega arith)
frees_full l m (a ∷ b ∷ c ∷ d ∷ q) e v = let u = v 0 in let u1 = v 1 in let u2 = v 2 in let u3 = v 3 in free_older l m (left l (a + 1)) (left l (b + 1)) (left l (c + 1)) (left l (d + 1)) (left l a) (left l b) (left l c) (left l d) (omega arith) (omega arith) (omega arith) (omega arith)

-- once more is later
pub frees_more : (l m : ℕ) (q : List ℕ) → Falling q → Young l q → frees l m q ≤ frees l (suc m) q
frees_more l m [] s v = let z = free_mono l m 1 1 1 1 1 1 1 (1 + (l + 1)) (omega arith) (omega arith) (omega arith) (omega arith) in omega arith
frees_more l m (a ∷ []) s v = let u = v 0 in let z = free_mono l m 1 1 1 (left l a) 1 1 (left l a) (1 + (l + 1)) (omega arith) (omega arith) (omega arith) (omega arith) in omega arith
frees_more l m (a ∷ b ∷ []) s v = let u = v 0 in let u1 = v 1 in let w = s.0 in let z = free_mono l m 1 1 (left l a) (left l b) 1 (left l a) (left l b) (1 + (l + 1)) (omega arith) (omega arith) (omega arith) (omega arith) in omega arith
frees_more l m (a ∷ b ∷ c ∷ []) s v = let u = v 0 in let u1 = v 1 in let w = s.0 in let w2 = s.1.0 in let z = free_mono l m 1 (left l a) (left l b) (left l c) (left l a) (left l b) (left l c) (1 + (l + 1)) (omega arith) (omega arith) (omega arith) (omega arith) in omega arith
frees_more l m (a ∷ b ∷ c ∷ d ∷ q) s v = let u = v 0 in let u1 = v 1 in let w = s.0 in let w2 = s.1.0 in let w3 = s.1.1.0 in let z = free_mono l m (left l a) (left l b) (left l c) (left l d) (left l b) (left l c) (left l d) (left l a + (l + 1)) (omega arith) (omega arith) (omega arith) (omega arith) in omega arith

pub frees_up : (l m d : ℕ) (q : List ℕ) → Falling q → Young l q → frees l m q ≤ frees l (d + m) q
frees_up l m zero q s v = let e : 0 + m ≡ m = omega arith in rw e (omega arith)
frees_up l m (suc d) q s v = let e : suc d + m ≡ suc (d + m) = omega arith in let x = frees_up l m d q s v in let y = frees_more l (d + m) q s v in rw e (omega arith)

pub frees_le : (l m n : ℕ) (q : List ℕ) → m ≤ n → Falling q → Young l q → frees l m q ≤ frees l n q
frees_le l m n q h s v = let e : (n - m) + m ≡ n = omega arith in subst (λ z. frees l m q ≤ frees l z q) e (frees_up l m (n - m) q s v)

-- sixteen times: 4 l + 19; forty-eight times: 12 l + 59
pub frees_16 : (l : ℕ) (q : List ℕ) → frees l 15 q ≤ 4 * l + 19
frees_16 l [] = omega arith
frees_16 l (a ∷ []) = omega arith
frees_16 l (a ∷ b ∷ []) = omega arith
frees_16 l (a ∷ b ∷ c ∷ []) = omega arith
frees_16 l (a ∷ b ∷ c ∷ d ∷ q) = omega arith

pub frees_48 : (l : ℕ) (q : List ℕ) → frees l 47 q ≤ 12 * l + 59
frees_48 l [] = omega arith
frees_48 l (a ∷ []) = omega arith
frees_48 l (a ∷ b ∷ []) = omega arith
frees_48 l (a ∷ b ∷ c ∷ []) = omega arith
frees_48 l (a ∷ b ∷ c ∷ d ∷ q) = omega arith

-- the queue stays in order
pub falling_older : (q : List ℕ) → Falling q → Falling (map (λ n. n + 1) q)
falling_older [] s = tt
falling_older (a ∷ []) s = tt
falling_older (a ∷ b ∷ q) s = let w = s.0 in (omega arith, falling_older (b ∷ q) s.1)

pub falling_pop : (i : Opt ℕ) (q : List ℕ) → Falling q → Falling (pop i q)
falling_pop none q s = s
falling_pop (some x) [] s = tt
falling_pop (some x) (a ∷ []) s = tt
falling_pop (some x) (a ∷ b ∷ q) s = s.1

pub falling_snoc : (q : List ℕ) → Falling q → Falling (q ++ (0 ∷ []))
falling_snoc [] s = tt
falling_snoc (a ∷ []) s = (omega arith, tt)
falling_snoc (a ∷ b ∷ q) s = (s.0, falling_snoc (b ∷ q) s.1)

-- never less than the times wanted
pub free_least : (l m a b c d : ℕ) → m ≤ after_free l m a b c d
free_least l zero a b c d = omega arith
free_least l (suc m) a b c d = let h = free_least l m b c d (a + (l + 1)) in omega arith

pub frees_least : (l m : ℕ) (q : List ℕ) → m ≤ frees l m q
frees_least l m [] = free_least l m 1 1 1 1
frees_least l m (a ∷ []) = free_least l m 1 1 1 (left l a)
frees_least l m (a ∷ b ∷ []) = free_least l m 1 1 (left l a) (left l b)
frees_least l m (a ∷ b ∷ c ∷ []) = free_least l m 1 (left l a) (left l b) (left l c)
frees_least l m (a ∷ b ∷ c ∷ d ∷ q) = free_least l m (left l a) (left l b) (left l c) (left l d)

-- once: l + 1
pub frees_1 : (l : ℕ) (q : List ℕ) → frees l 0 q ≤ l + 1
frees_1 l [] = omega arith
frees_1 l (a ∷ []) = omega arith
frees_1 l (a ∷ b ∷ []) = omega arith
frees_1 l (a ∷ b ∷ c ∷ []) = omega arith
frees_1 l (a ∷ b ∷ c ∷ d ∷ q) = omega arith

-- any queue of ages in the outside
falling_aged : (i : Opt ℕ) {A : Type 0} (r : Opt A) (q : List ℕ) → Falling q → Falling (aged i (age0 r) q)
falling_aged i none q s = falling_older (pop i q) (falling_pop i q s)
falling_aged i (some r) q s = falling_snoc (map (λ n. n + 1) (pop i q)) (falling_older (pop i q) (falling_pop i q s))

pub falling_after : (o : O) (x : Io) → Falling (ages1 o.datas) → Falling (ages1 (after o x).datas)
falling_after o x s = subst Falling (sym (wait_laws.datas_aged o x)) (falling_aged x.in1.data1 x.out1.data1 (ages1 o.datas) s)

falling_onward : (o : O) (h : Hist) → Falling (ages1 o.datas) → Falling (ages1 (onward o h).datas)
falling_onward o [] s = s
falling_onward o (x ∷ h) s = falling_onward (after o x) h (falling_after o x s)

pub falling_outside : (m : Mem) (h : Hist) → Falling (ages1 (outside m h).datas)
falling_outside m h = falling_onward (begin m) h tt
