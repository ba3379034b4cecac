-- What the RISC-V manual says, one step an instruction: RV32I without bytes, half words and fences, and mul, mulhu, divu, remu of M; code in a memory of its own, data below 2^31, devices from there on.
use Rattle.std.specs.Prelude.{ℕ, zero, suc, ◌+◌, ◌*◌, ◌/◌, ◌%◌, Bool, true, not, ◌&&◌, ◌||◌, List, [], ◌∷◌, ◌++◌, ◌==◌, nat_le, nat_lt}
use Rattle.std.proofs.Math.Option.{Option, some, none}
use Rattle.isa.specs.Words.{pick, opt, nth, put, all, bit, and_w, or_w, xor_w, add, sub, mul, shl, shr, up, signed}

-- code and data: what stands at each word's number, its address divided by 4
abbrev pub Code : Type 0
Code = ℕ → ℕ

abbrev pub Mem : Type 0
Mem = ℕ → ℕ

abbrev pub store : Mem → ℕ → ℕ → Mem
store m a x = λ b. pick (a == b) x (m b)

pub record S : Type 0 where
  pub regs : List ℕ
  pub pc : ℕ
  pub mem : Mem
  -- what devices will answer, in order
  pub answers : List ℕ

-- an instruction's trace: its address, the register that it writes with what, or 0 and 0
pub record Ret : Type 0 where
  pub pc : ℕ
  pub reg : ℕ
  pub val : ℕ

-- what is done to the outside, in order
pub data Ev : Type 0 where
  writes : ℕ → ℕ → Ev
  asks : ℕ → Ev

pub data Next : Type 0 where
  goes : S → Ret → List Ev → Next
  -- it stops: 0 by ecall, 1 no instruction, 2 an address that is not a multiple of 4, 3 (only so that the run is a function of the answers) the devices' answers run out
  stops : ℕ → Next

-- fields of an instruction word: opcode, rd, funct3, rs1, rs2, funct7, and the immediates of the five formats
abbrev pub f_op : ℕ → ℕ
f_op w = w % 128

abbrev pub f_rd : ℕ → ℕ
f_rd w = w / 128 % 32

abbrev pub f_3 : ℕ → ℕ
f_3 w = w / 4096 % 8

abbrev pub f_1 : ℕ → ℕ
f_1 w = w / 32768 % 32

abbrev pub f_2 : ℕ → ℕ
f_2 w = w / 1048576 % 32

abbrev pub f_7 : ℕ → ℕ
f_7 w = w / 33554432

abbrev pub imm_i : ℕ → ℕ
imm_i w = signed 12 (w / 1048576)

abbrev pub imm_s : ℕ → ℕ
imm_s w = signed 12 (f_7 w * 32 + f_rd w)

abbrev pub imm_b : ℕ → ℕ
imm_b w = signed 13 (f_7 w / 64 * 4096 + (f_rd w % 2 * 2048 + (f_7 w % 64 * 32 + f_rd w / 2 * 2)))

abbrev pub imm_u : ℕ → ℕ
imm_u w = w / 4096 * 4096

abbrev pub imm_j : ℕ → ℕ
imm_j w = signed 21 (w / 2147483648 * 1048576 + (w / 4096 % 256 * 4096 + (w / 1048576 % 2 * 2048 + w / 2097152 % 1024 * 2)))

abbrev pub less_s : ℕ → ℕ → Bool
less_s x y = nat_lt (up x) (up y)

-- shift to the right with the top bit kept
abbrev pub sar : ℕ → ℕ → ℕ
sar x n = pick (nat_lt x 2147483648) (shr x n) (xor_w 4294967295 (shr (xor_w 4294967295 x) n))

-- arithmetic by funct3, with the other form of 0 (subtraction) and of 5 (arithmetic shift)
abbrev pub alu : ℕ → Bool → ℕ → ℕ → ℕ
alu f other x y = pick (f == 0) (pick other (sub x y) (add x y)) (pick (f == 1) (shl x (y % 32)) (pick (f == 2) (bit (less_s x y)) (pick (f == 3) (bit (nat_lt x y)) (pick (f == 4) (xor_w x y) (pick (f == 5) (pick other (sar x (y % 32)) (shr x (y % 32))) (pick (f == 6) (or_w x y) (and_w x y)))))))

-- unsigned multiplication and division by funct3: 0 low word, 3 high word, 5 quotient, 7 remainder; the others are no instruction here
abbrev pub muls : ℕ → ℕ → ℕ → Option ℕ
muls f x y = pick (f == 0) (some (mul x y)) (pick (f == 3) (some (x * y / all)) (pick (f == 5) (some (pick (y == 0) 4294967295 (x / y))) (pick (f == 7) (some (pick (y == 0) x (x % y))) none)))

abbrev pub branch : ℕ → ℕ → ℕ → Option Bool
branch f x y = pick (f == 0) (some (x == y)) (pick (f == 1) (some (not (x == y))) (pick (f == 4) (some (less_s x y)) (pick (f == 5) (some (not (less_s x y))) (pick (f == 6) (some (nat_lt x y)) (pick (f == 7) (some (not (nat_lt x y))) none)))))

-- reserved encodings are no instruction: a shift by an immediate has funct7 0, or 32 for the arithmetic one; an operation on registers has funct7 0, or 32 for subtraction and the arithmetic shift
abbrev pub ok_i : ℕ → Bool
ok_i w = pick (f_3 w == 1) (f_7 w == 0) (pick (f_3 w == 5) (f_7 w == 0 || f_7 w == 32) true)

abbrev pub ok_r : ℕ → Bool
ok_r w = f_7 w == 0 || (f_7 w == 32 && (f_3 w == 0 || f_3 w == 5))

abbrev pub reg : S → ℕ → ℕ
reg s r = pick (r == 0) 0 (opt (nth s.regs r) 0 (λ x. x))

abbrev pub device : ℕ → Bool
device a = nat_le 2147483648 a

-- writes a register and goes on at a
abbrev pub wrote : S → ℕ → ℕ → ℕ → Next
wrote s r x a = goes (record { regs = put s.regs r x; pc = a; mem = s.mem; answers = s.answers }) (record { pc = s.pc; reg = r; val = pick (r == 0) 0 x }) []

abbrev pub jumped : S → ℕ → Next
jumped s a = goes (record { regs = s.regs; pc = a; mem = s.mem; answers = s.answers }) (record { pc = s.pc; reg = 0; val = 0 }) []

-- a jump to an address that is not a multiple of 4 isn't done
abbrev pub to : ℕ → Next → Next
to a n = pick (a % 4 == 0) n (stops 2)

abbrev pub after1 : S → ℕ
after1 s = add s.pc 4

abbrev pub asked : S → ℕ → ℕ → List ℕ → Next
asked s r a [] = stops 3
asked s r a (x ∷ xs) = goes (record { regs = put s.regs r x; pc = after1 s; mem = s.mem; answers = xs }) (record { pc = s.pc; reg = r; val = pick (r == 0) 0 x }) (asks a ∷ [])

abbrev pub loads : S → ℕ → ℕ → Next
loads s r a = pick (a % 4 == 0) (pick (device a) (asked s r a s.answers) (wrote s r (s.mem (a / 4)) (after1 s))) (stops 2)

abbrev pub saved : S → ℕ → ℕ → Next
saved s a x = goes (record { regs = s.regs; pc = after1 s; mem = pick (device a) s.mem (store s.mem (a / 4) x); answers = s.answers }) (record { pc = s.pc; reg = 0; val = 0 }) (writes a x ∷ [])

abbrev pub saves : S → ℕ → ℕ → Next
saves s a x = pick (a % 4 == 0) (saved s a x) (stops 2)

abbrev pub does : S → ℕ → Next
does s w = pick (f_op w == 55) (wrote s (f_rd w) (imm_u w) (after1 s))
    (pick (f_op w == 23) (wrote s (f_rd w) (add s.pc (imm_u w)) (after1 s))
    (pick (f_op w == 111) (to (add s.pc (imm_j w)) (wrote s (f_rd w) (after1 s) (add s.pc (imm_j w))))
    (pick (f_op w == 103 && f_3 w == 0) (to (add (reg s (f_1 w)) (imm_i w) / 2 * 2) (wrote s (f_rd w) (after1 s) (add (reg s (f_1 w)) (imm_i w) / 2 * 2)))
    (pick (f_op w == 99) (opt (branch (f_3 w) (reg s (f_1 w)) (reg s (f_2 w))) (stops 1) (λ b. to (pick b (add s.pc (imm_b w)) (after1 s)) (jumped s (pick b (add s.pc (imm_b w)) (after1 s)))))
    (pick (f_op w == 3 && f_3 w == 2) (loads s (f_rd w) (add (reg s (f_1 w)) (imm_i w)))
    (pick (f_op w == 35 && f_3 w == 2) (saves s (add (reg s (f_1 w)) (imm_s w)) (reg s (f_2 w)))
    (pick (f_op w == 19 && ok_i w) (wrote s (f_rd w) (alu (f_3 w) (f_3 w == 5 && f_7 w == 32) (reg s (f_1 w)) (imm_i w)) (after1 s))
    (pick (f_op w == 51 && f_7 w == 1) (opt (muls (f_3 w) (reg s (f_1 w)) (reg s (f_2 w))) (stops 1) (λ x. wrote s (f_rd w) x (after1 s)))
    (pick (f_op w == 51 && ok_r w) (wrote s (f_rd w) (alu (f_3 w) (f_7 w == 32) (reg s (f_1 w)) (reg s (f_2 w))) (after1 s))
    (pick (w == 115) (stops 0) (stops 1)))))))))))

-- an address of code that is not a multiple of 4 stops
abbrev pub step : Code → S → Next
step c s = pick (s.pc % 4 == 0) (does s (c (s.pc / 4))) (stops 2)

-- the first n instructions: their traces, what they did to the outside, and how it stands then
pub record Run : Type 0 where
  pub rets : List Ret
  pub evs : List Ev
  pub is : Next

abbrev pub more : Code → Run → Next → Run
more c r (goes s t es) = grown (step c s)
  where
    grown : Next → Run
    grown (goes u v fs) = record { rets = r.rets ++ (v ∷ []); evs = r.evs ++ fs; is = goes u v fs }
    grown (stops k) = record { rets = r.rets; evs = r.evs; is = stops k }
more c r (stops k) = r

abbrev pub run : Code → S → ℕ → Run
run c s zero = record { rets = []; evs = []; is = goes s (record { pc = 0; reg = 0; val = 0 }) [] }
run c s (suc n) = let r = run c s n in more c r r.is
