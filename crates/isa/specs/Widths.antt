-- All that the manual works with fits 32 bits, if it did at first.
use Rattle.std.specs.Prelude.{◌≡◌, ℕ, ◌^◌, ◌<◌, List, slice_index}
use Rattle.isa.specs.Manual.{Code, S, Ret, Ev, goes, step}
use Rattle.isa.specs.Runs.{At}

-- each element of a list, and each word of a memory
abbrev pub Words : List ℕ → Type 0
Words l = (n : ℕ) → slice_index l n < 2 ^ 32

abbrev pub WordMemory : (ℕ → ℕ) → Type 0
WordMemory m = (n : ℕ) → m n < 2 ^ 32

pub record WordState (s : S) : Type 0 where
  pub regs : Words s.regs
  pub pc : s.pc < 2 ^ 32
  pub mem : WordMemory s.mem
  pub answers : Words s.answers

pub record WidthLaws : Type 0 where
  pub step : (c : Code) (s : S) {u : S} {t : Ret} {es : List Ev}
      → WordMemory c
      → WordState s
      → step c s ≡ goes u t es
      → WordState u × (t.val < 2 ^ 32)
  pub run : {c : Code} {s u : S} {n : ℕ} → WordMemory c → WordState s → At c s n u → WordState u
