-- The numbers in an instruction word, put together by shifts and masks.
use Rattle.std.proofs.Common.{◌≡◌, ℕ, ◌+◌, ◌-◌, ◌*◌, ◌/◌, ◌%◌, ◌^◌, ◌<◌, ◌≤◌, sym, ap, ◌∙◌, arith}
use lib.Bits.{bit_and, bit_or, and_mask, and_high, or_shifted}
use Rattle.std.proofs.lemmas.Nat.{div-add-mod', shr-shr, field_of}
use Rattle.std.proofs.lemmas.Bool.{lt-ltb, le-ltb}
use Rattle.isa.specs.Words.{pick, all, signed}
use Rattle.isa.specs.Manual.{f_rd, f_7, imm_u}

-- a number with nothing in its k lowest bits, and one that has no others
or_add : (k x y : ℕ) → x % 2 ^ k ≡ 0 → y < 2 ^ k → bit_or x y ≡ x + y
or_add k x y p q =
    let e : x ≡ x / 2 ^ k * 2 ^ k = omega (arith, div-add-mod' x (2 ^ k)) in
    ap (λ v. bit_or v y) e ∙ or_shifted (x / 2 ^ k) k y q ∙ ap (λ v. v + y) (sym e)

pub signed_low : (n x : ℕ) → x < 2 ^ (n - 1) → x ≡ signed n x
signed_low n x h = ap (λ b. pick b x ((x + all) - 2 ^ n)) (sym (lt-ltb x (2 ^ (n - 1)) h))

pub signed_high : (n x : ℕ) → 2 ^ (n - 1) ≤ x → (x + all) - 2 ^ n ≡ signed n x
signed_high n x h = ap (λ b. pick b x ((x + all) - 2 ^ n)) (sym (le-ltb x (2 ^ (n - 1)) h))

pub upper : (w : ℕ) → w < 2 ^ 32 → bit_and w 4294963200 ≡ imm_u w
upper w h = and_high w 20 12 ∙ omega arith

pub s_parts : (w : ℕ) → w < 2 ^ 32 → bit_or ((w / 33554432 * 32) % 4294967296) (bit_and (w / 128) 31) ≡ f_7 w * 32 + f_rd w
s_parts w h =
    let m = and_mask (w / 128) 5 in
    or_add 5 ((w / 33554432 * 32) % 4294967296) (bit_and (w / 128) 31) (omega arith) (omega arith) ∙ omega arith

-- four fields side by side, each below the one before it
b_join : (a b d e : ℕ) → a < 2 → b < 2 → d < 64 → e < 16
    → bit_or (bit_or (bit_or ((a * 4096) % 4294967296) ((b * 2048) % 4294967296)) ((d * 32) % 4294967296)) ((e * 2) % 4294967296) ≡ a * 4096 + (b * 2048 + (d * 32 + e * 2))
b_join a b d e ha hb hd he =
    let x = (a * 4096) % 4294967296 in
    let y = (b * 2048) % 4294967296 in
    let z = (d * 32) % 4294967296 in
    let t = (e * 2) % 4294967296 in
    let p = or_add 12 x y (omega arith) (omega arith) in
    let q = or_add 11 (bit_or x y) z (omega arith) (omega arith) in
    let r = or_add 5 (bit_or (bit_or x y) z) t (omega arith) (omega arith) in
    r ∙ omega arith

j_join : (a b d e : ℕ) → a < 2 → b < 256 → d < 2 → e < 1024
    → bit_or (bit_or (bit_or ((a * 1048576) % 4294967296) ((b * 4096) % 4294967296)) ((d * 2048) % 4294967296)) ((e * 2) % 4294967296) ≡ a * 1048576 + (b * 4096 + (d * 2048 + e * 2))
j_join a b d e ha hb hd he =
    let x = (a * 1048576) % 4294967296 in
    let y = (b * 4096) % 4294967296 in
    let z = (d * 2048) % 4294967296 in
    let t = (e * 2) % 4294967296 in
    let p = or_add 20 x y (omega arith) (omega arith) in
    let q = or_add 12 (bit_or x y) z (omega arith) (omega arith) in
    let r = or_add 11 (bit_or (bit_or x y) z) t (omega arith) (omega arith) in
    r ∙ omega arith

pub b_sum : (w : ℕ) → w < 2 ^ 32
    → bit_or (bit_or (bit_or ((w / 2147483648 * 4096) % 4294967296) ((bit_and (w / 128) 1 * 2048) % 4294967296)) ((bit_and (w / 33554432) 63 * 32) % 4294967296)) ((bit_and (w / 256) 15 * 2) % 4294967296)
    ≡ w / 2147483648 * 4096 + (w / 128 % 2 * 2048 + (w / 33554432 % 64 * 32 + w / 256 % 16 * 2))
b_sum w h =
    let mb = and_mask (w / 128) 1 in
    let md = and_mask (w / 33554432) 6 in
    let me = and_mask (w / 256) 4 in
    b_join (w / 2147483648) (bit_and (w / 128) 1) (bit_and (w / 33554432) 63) (bit_and (w / 256) 15) (omega arith) (omega arith) (omega arith) (omega arith)
    ∙ rw (mb, md, me)

-- the manual takes the same bits out of fields
pub b_same : (v : ℕ) → v / 2147483648 * 4096 + (v / 128 % 2 * 2048 + (v / 33554432 % 64 * 32 + v / 256 % 16 * 2)) ≡ f_7 v / 64 * 4096 + (f_rd v % 2 * 2048 + (f_7 v % 64 * 32 + f_rd v / 2 * 2))
b_same v =
    let top = shr-shr v 25 6 in
    let low : v / 128 % 32 % 2 ≡ v / 128 % 2 = omega arith in
    let mid = field_of (v / 128) 4 1 ∙ ap (λ n. n % 16) (shr-shr v 7 1) in
    rw (top, low, mid)

pub j_parts : (w : ℕ) → w < 2 ^ 32
    → bit_or (bit_or (bit_or ((w / 2147483648 * 1048576) % 4294967296) ((bit_and (w / 4096) 255 * 4096) % 4294967296)) ((bit_and (w / 1048576) 1 * 2048) % 4294967296)) ((bit_and (w / 2097152) 1023 * 2) % 4294967296)
    ≡ w / 2147483648 * 1048576 + (w / 4096 % 256 * 4096 + (w / 1048576 % 2 * 2048 + w / 2097152 % 1024 * 2))
j_parts w h =
    let mb = and_mask (w / 4096) 8 in
    let md = and_mask (w / 1048576) 1 in
    let me = and_mask (w / 2097152) 10 in
    j_join (w / 2147483648) (bit_and (w / 4096) 255) (bit_and (w / 1048576) 1) (bit_and (w / 2097152) 1023) (omega arith) (omega arith) (omega arith) (omega arith)
    ∙ rw (mb, md, me)
