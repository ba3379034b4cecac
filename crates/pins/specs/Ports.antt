-- One clock at the ports.
use Rattle.std.specs.Prelude.{ℕ, zero, suc, Bool, ◌&&◌, List, [], ◌∷◌, length, drop, ◌==◌, nat_le}
use Rattle.std.proofs.Math.Option.{Option, some, none}
use Rattle.isa.specs.Words.{pick, opt, nth}
use Rattle.isa.specs.Manual.{Ret}

-- in: an answer for the oldest word of code that is wanted, an answer for the oldest request for data or to a device; each with 1 in front if there is one
pub record In : Type 0 where
  pub code : Option ℕ
  pub data1 : Option ℕ

-- out: a word of code that is wanted; a request: 1 read, 2 write; the instructions that are done with this clock, oldest first; whether it has stopped, and how
pub data Req : Type 0 where
  reads : ℕ → Req
  writes1 : ℕ → ℕ → Req

pub record Out : Type 0 where
  pub code : Option ℕ
  pub data1 : Option Req
  pub rets : List Ret
  pub stopped : Option ℕ

abbrev pub at : List ℕ → ℕ → ℕ
at s n = opt (nth s n) 0 (λ x. x)

abbrev pub flagged : ℕ → ℕ → Option ℕ
flagged f x = pick (f == 1) (some x) none

-- four words in
abbrev pub in_of : List ℕ → In
in_of s = record { code = flagged (at s 0) (at s 1); data1 = flagged (at s 2) (at s 3) }

-- words out: wants code (0, 1), address; request (0, 1, 2), address, value; stopped (0, 1), how; how many done, up to four; three for each
abbrev pub req_of : ℕ → ℕ → ℕ → Option Req
req_of k a x = pick (k == 1) (some (reads a)) (pick (k == 2) (some (writes1 a x)) none)

abbrev pub rets_of : ℕ → List ℕ → List Ret
rets_of zero s = []
rets_of (suc n) s = record { pc = at s 0; reg = at s 1; val = at s 2 } ∷ rets_of n (drop 3 s)

abbrev pub out_of : List ℕ → Out
out_of s = record { code = flagged (at s 0) (at s 1); data1 = req_of (at s 2) (at s 3) (at s 4); rets = rets_of (at s 7) (drop 8 s); stopped = flagged (at s 5) (at s 6) }

abbrev pub sound_out : List ℕ → Bool
sound_out s = length s == 20 && (nat_le (at s 0) 1 && (nat_le (at s 2) 2 && (nat_le (at s 5) 1 && nat_le (at s 7) 4)))
