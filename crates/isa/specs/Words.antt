-- Numbers of 32 bits.
use Rattle.std.specs.Prelude.{ℕ, zero, suc, ◌+◌, ◌-◌, ◌*◌, ◌/◌, ◌%◌, ◌^◌, Bool, true, false, not, ◌&&◌, ◌||◌, List, [], ◌∷◌, ◌==◌, nat_lt}
use Rattle.std.proofs.Math.Option.{Option, some, none}

abbrev pub pick : {A : Type 0} → Bool → A → A → A
pick true a b = a
pick false a b = b

abbrev pub opt : {A C : Type 0} → Option A → C → (A → C) → C
opt none c f = c
opt (some x) c f = f x

abbrev pub nth : {A : Type 0} → List A → ℕ → Option A
nth [] n = none
nth (x ∷ xs) zero = some x
nth (x ∷ xs) (suc n) = nth xs n

abbrev pub put : {A : Type 0} → List A → ℕ → A → List A
put [] n v = []
put (x ∷ xs) zero v = v ∷ xs
put (x ∷ xs) (suc n) v = x ∷ put xs n v

abbrev pub all : ℕ
all = 4294967296

abbrev pub bit : Bool → ℕ
bit b = pick b 1 0

abbrev pub odd : ℕ → Bool
odd x = x % 2 == 1

-- bit by bit, from the lowest
abbrev pub bits : (Bool → Bool → Bool) → ℕ → ℕ → ℕ → ℕ
bits f zero x y = 0
bits f (suc n) x y = bit (f (odd x) (odd y)) + 2 * bits f n (x / 2) (y / 2)

abbrev pub xor1 : Bool → Bool → Bool
xor1 true b = not b
xor1 false b = b

abbrev pub and_w : ℕ → ℕ → ℕ
and_w x y = bits (λ a b. a && b) 32 x y

abbrev pub or_w : ℕ → ℕ → ℕ
or_w x y = bits (λ a b. a || b) 32 x y

abbrev pub xor_w : ℕ → ℕ → ℕ
xor_w x y = bits xor1 32 x y

abbrev pub add : ℕ → ℕ → ℕ
add x y = (x + y) % all

abbrev pub sub : ℕ → ℕ → ℕ
sub x y = ((x + all) - y) % all

abbrev pub mul : ℕ → ℕ → ℕ
mul x y = (x * y) % all

-- left shifts lose what passes the top; by 32 and more all is lost
abbrev pub shl : ℕ → ℕ → ℕ
shl x n = pick (nat_lt n 32) ((x * 2 ^ (n % 32)) % all) 0

abbrev pub shr : ℕ → ℕ → ℕ
shr x n = pick (nat_lt n 32) (x / 2 ^ (n % 32)) 0

-- with a sign: compared after the top bit is turned
abbrev pub up : ℕ → ℕ
up x = (x + 2147483648) % all

-- n bits with a sign, as 32
abbrev pub signed : ℕ → ℕ → ℕ
signed n x = pick (nat_lt x (2 ^ (n - 1))) x ((x + all) - 2 ^ n)
