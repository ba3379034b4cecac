-- One step of the manual, seen by its trace and by what it does to the outside.
use Rattle.std.specs.Prelude.{◌≡◌, ℕ, suc, ◌/◌, ◌<◌, ◌≤◌, ◌⊎◌, List, [], ◌∷◌, ◌++◌, length, ◌==◌}
use Rattle.isa.specs.Words.{pick}
use Rattle.isa.specs.Manual.{Code, Mem, store, device, S, Ret, Ev, writes, asks, goes, stops, step}
use Rattle.isa.specs.Registers.{value_in}

-- data memory after one effect, and after several in order
abbrev pub effect : Mem → Ev → Mem
effect m (writes a x) = pick (device a) m (store m (a / 4) x)
effect m (asks a) = m

abbrev pub effects : Mem → List Ev → Mem
effects m [] = m
effects m (e ∷ es) = effects (effect m e) es

-- how many answers of devices they take
abbrev pub device_reads : List Ev → ℕ
device_reads [] = 0
device_reads (writes a x ∷ es) = device_reads es
device_reads (asks a ∷ es) = suc (device_reads es)

-- the answers before are those that the effects took, in order, and then those after
abbrev pub Takes : List Ev → List ℕ → List ℕ → Type 0
Takes es before after = (xs : List ℕ) × (length xs ≡ device_reads es) × (before ≡ xs ++ after)

-- from s to u, with this trace and these effects
pub record Traced (s u : S) (t : Ret) (es : List Ev) : Type 0 where
  pub pc : t.pc ≡ s.pc
  pub reg : t.reg < 32
  -- only the trace's register changes; of x0 the trace's value is 0, as it always reads
  pub regs : length s.regs ≡ 32 → (r : ℕ) → value_in u.regs r ≡ pick (t.reg == r) t.val (value_in s.regs r)
  pub width : length u.regs ≡ length s.regs
  pub mem : u.mem ≡ effects s.mem es
  pub answers : Takes es s.answers u.answers
  pub few : length es ≤ 1

pub record StepLaws : Type 0 where
  pub by_trace : (c : Code) (s : S) {u : S} {t : Ret} {es : List Ev} → step c s ≡ goes u t es → Traced s u t es
  -- it stops for one of the manual's three reasons, or because no answer is left
  pub stops_how : (c : Code) (s : S) {k : ℕ} → step c s ≡ stops k → (k < 3) ⊎ ((k ≡ 3) × (s.answers ≡ []))
