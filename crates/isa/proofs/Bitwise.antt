-- The manual's operations, bit by bit, are the machine's.
use Rattle.std.proofs.Common.{◌≡◌, ℕ, zero, suc, ◌+◌, ◌-◌, ◌*◌, ◌/◌, ◌%◌, ◌^◌, ◌<◌, ◌≤◌, min, max, Bool, true, false, ◌&&◌, ◌||◌, eqb, sym, refl, ap, ◌∙◌, ap₂, arith}
use lib.Bits.{bit_and, bit_or, bit_xor, differ, and_step, or_step, xor_step, and_comm, and_mask, xor_add_and}
use mir.Val.{bool_byte}
use Rattle.std.proofs.lemmas.Nat.{shr_le}
use Rattle.std.proofs.lemmas.Bool.{lt-ltb, le-ltb}
use Rattle.isa.specs.Manual.{sar}
use Rattle.isa.specs.Words.{pick, all, bit, bits, xor1, and_w, or_w, xor_w, shl, shr}

-- an operation that goes by digits is `bits` of its table
module _ (f : Bool → Bool → Bool) (g op : ℕ → ℕ → ℕ) (step : (a b : ℕ) → op a b ≡ op (a / 2) (b / 2) * 2 + g (a % 2) (b % 2)) (digit : (a b : ℕ) → a < 2 → b < 2 → bit (f (eqb a 1) (eqb b 1)) ≡ g a b) (none : op 0 0 ≡ 0) where
  bits_is : (n x y : ℕ) → x < 2 ^ n → y < 2 ^ n → bits f n x y ≡ op x y
  bits_is zero x y p q =
      let ex : x ≡ 0 = omega arith in
      let ey : y ≡ 0 = omega arith in
      sym (ap₂ op ex ey ∙ none)
  bits_is (suc n) x y p q =
      let hx : x / 2 < 2 ^ n = omega arith in
      let hy : y / 2 < 2 ^ n = omega arith in
      let ih = bits_is n (x / 2) (y / 2) hx hy in
      let s = step x y in
      let d = digit (x % 2) (y % 2) (omega arith) (omega arith) in
      omega arith

and_digit : (a b : ℕ) → a < 2 → b < 2 → bit (eqb a 1 && eqb b 1) ≡ min a b
and_digit a b p q = grind arith

or_digit : (a b : ℕ) → a < 2 → b < 2 → bit (eqb a 1 || eqb b 1) ≡ max a b
or_digit a b p q = grind arith

xor_digit : (a b : ℕ) → a < 2 → b < 2 → bit (xor1 (eqb a 1) (eqb b 1)) ≡ differ a b
xor_digit a b p q = grind arith

pub and_is : (x y : ℕ) → x < 2 ^ 32 → y < 2 ^ 32 → and_w x y ≡ bit_and x y
and_is x y p q = bits_is (λ a b. a && b) min bit_and and_step and_digit refl 32 x y p q

pub or_is : (x y : ℕ) → x < 2 ^ 32 → y < 2 ^ 32 → or_w x y ≡ bit_or x y
or_is x y p q = bits_is (λ a b. a || b) max bit_or or_step or_digit refl 32 x y p q

pub xor_is : (x y : ℕ) → x < 2 ^ 32 → y < 2 ^ 32 → xor_w x y ≡ bit_xor x y
xor_is x y p q = bits_is xor1 differ bit_xor xor_step xor_digit refl 32 x y p q

pub not_is : (x : ℕ) → x < 2 ^ 32 → xor_w 4294967295 x ≡ 4294967295 - x
not_is x p =
    let e = xor_is 4294967295 x (omega arith) p in
    let s = xor_add_and 4294967295 x in
    let a = and_comm 4294967295 x ∙ and_mask x 32 in
    let m : x % 2 ^ 32 ≡ x = omega arith in
    e ∙ omega arith

pub shl_is : (x n : ℕ) → n < 32 → shl x n ≡ (x * 2 ^ n) % 2 ^ 32
shl_is x n p = ap₂ (λ b k. pick b ((x * 2 ^ k) % all) 0) (lt-ltb n 32 p) (omega arith)

pub shr_is : (x n : ℕ) → n < 32 → shr x n ≡ x / 2 ^ n
shr_is x n p = ap₂ (λ b k. pick b (x / 2 ^ k) 0) (lt-ltb n 32 p) (omega arith)

pub sar_low : (x n : ℕ) → x < 2147483648 → n < 32 → x / 2 ^ n ≡ sar x n
sar_low x n h p = sym (ap (λ b. pick b (shr x n) (xor_w 4294967295 (shr (xor_w 4294967295 x) n))) (lt-ltb x 2147483648 h) ∙ shr_is x n p)

pub sar_high : (x n : ℕ) → 2147483648 ≤ x → x < 2 ^ 32 → n < 32 → 4294967295 - (4294967295 - x) / 2 ^ n ≡ sar x n
sar_high x n h q p =
    let s : shr (xor_w 4294967295 x) n ≡ (4294967295 - x) / 2 ^ n = shr_is (xor_w 4294967295 x) n p ∙ ap (λ k. k / 2 ^ n) (not_is x q) in
    let b : (4294967295 - x) / 2 ^ n < 2 ^ 32 = omega (arith, shr_le (4294967295 - x) n) in
    sym (ap (λ t. pick t (shr x n) (xor_w 4294967295 (shr (xor_w 4294967295 x) n))) (le-ltb x 2147483648 h) ∙ ap (λ k. xor_w 4294967295 k) s ∙ not_is ((4294967295 - x) / 2 ^ n) b)

pub bit_is : (b : Bool) → bool_byte b ≡ bit b
bit_is true = refl
bit_is false = refl
