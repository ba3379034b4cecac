-- A step by its trace: outcome by outcome, after which no proof opens a step again.
use Rattle.std.proofs.Common.{◌≡◌, ℕ, zero, suc, ◌/◌, ◌<◌, ◌≤◌, Bool, true, false, eqb, ◌⊎◌, List, [], ◌∷◌, length, sym, refl, ap, ◌∙◌, subst, inl, inr, arith}
use Rattle.isa.specs.Words.{pick, put}
use Rattle.isa.specs.Manual.{Code, Mem, S, Ev, writes, asks, Next, goes, stops, wrote, asked, device, after1, step}
use Rattle.isa.specs.Registers.{value_in}
use Rattle.isa.specs.Executing.{work, how, enact}
use Rattle.isa.specs.Traces.{effects, device_reads, Takes, Traced, StepLaws}
use Rattle.isa.specs.declared.reg.Reg.{Reg}
use Rattle.isa.specs.declared.execute.Outcome.{Outcome}
use Rattle.isa.specs.declared.execute.Outcome.TheVariants.{Write, Jump, Load as Read, Store as Save, Halt}
use Rattle.isa.specs.declared.execute.Stop.{Stop}
use Rattle.isa.specs.declared.execute.Stop.TheVariants.{EnvCall, Illegal, Misaligned}
use Rattle.isa.proofs.Lists.{value_put}
use Rattle.isa.proofs.Does.{step_is}

pub put_length : {A : Type 0} (l : List A) (n : ℕ) (x : A) → length (put l n x) ≡ length l
put_length [] n x = refl
put_length (y ∷ l) zero x = refl
put_length (y ∷ l) (suc n) x = ap suc (put_length l n x)

-- what a step comes to, by cases
abbrev Ends : S → Next → Type 0
Ends s (goes u t es) = Traced s u t es
Ends s (stops k) = (k < 3) ⊎ ((k ≡ 3) × (s.answers ≡ []))

-- a register written with x, by the trace's value
written : (l : List ℕ) (n x r : ℕ) → n < 32 → length l ≡ 32 → value_in (put l n x) r ≡ pick (eqb n r) (pick (eqb n 0) 0 x) (value_in l r)
written l n x r h e = value_put l n x r (omega arith) ∙ grind arith

unwritten : (l : List ℕ) (r : ℕ) → value_in l r ≡ pick (eqb 0 r) 0 (value_in l r)
unwritten l r = grind arith

-- a step that writes a register, and one that writes none
sets : (s : S) (rd : Reg) (x n : ℕ) (ys : List ℕ) (es : List Ev) → s.mem ≡ effects s.mem es → Takes es s.answers ys → length es ≤ 1
    → Traced s
    (record { regs = put s.regs rd.number x; pc = n; mem = s.mem; answers = ys })
    (record { pc = s.pc; reg = rd.number; val = pick (eqb rd.number 0) 0 x })
    es
sets s rd x n ys es m t f = record {
  pc = refl;
  reg = rd.low;
  regs = λ e r. written s.regs rd.number x r rd.low e;
  width = put_length s.regs rd.number x;
  mem = m;
  answers = t;
  few = f;
}

sets_none : (s : S) (n : ℕ) (m : Mem) (es : List Ev) → m ≡ effects s.mem es → device_reads es ≡ 0 → length es ≤ 1
    → Traced s (record { regs = s.regs; pc = n; mem = m; answers = s.answers }) (record { pc = s.pc; reg = 0; val = 0 }) es
sets_none s n m es e d f = record {
  pc = refl;
  reg = omega arith;
  regs = λ l r. unwritten s.regs r;
  width = refl;
  mem = e;
  answers = ([], sym d, refl);
  few = f;
}

ends_wrote : (s : S) (rd : Reg) (x n : ℕ) → Ends s (wrote s rd.number x n)
ends_wrote s rd x n = sets s rd x n s.answers [] refl ([], refl, refl) (omega arith)

ends_asked : (s : S) (rd : Reg) (a : ℕ) (xs : List ℕ) → s.answers ≡ xs → Ends s (asked s rd.number a xs)
ends_asked s rd a [] e = inr (refl, e)
ends_asked s rd a (x ∷ xs) e = sets s rd x (after1 s) xs (asks a ∷ []) refl (x ∷ [], refl, e) (omega arith)

ends_load : (s : S) (rd : Reg) (a : ℕ) (b : Bool)
    → Ends s (pick b (asked s rd.number a s.answers) (wrote s rd.number (s.mem (a / 4)) (after1 s)))
ends_load s rd a true = ends_asked s rd a s.answers refl
ends_load s rd a false = ends_wrote s rd (s.mem (a / 4)) (after1 s)

ends_halt : (s : S) (h : Stop) → Ends s (stops (how h))
ends_halt s EnvCall = inl (omega arith)
ends_halt s Illegal = inl (omega arith)
ends_halt s Misaligned = inl (omega arith)

ends : (s : S) (o : Outcome) → Ends s (enact s o)
ends s (Write rd v n) = ends_wrote s rd v n
ends s (Jump n) = sets_none s n s.mem [] refl refl (omega arith)
ends s (Read rd a) = ends_load s rd a (device a)
ends s (Save a v) = sets_none s (after1 s) _ (writes a v ∷ []) refl refl (omega arith)
ends s (Halt h) = ends_halt s h

step_ends : (c : Code) (s : S) {n : Next} → step c s ≡ n → Ends s n
step_ends c s e = subst (Ends s) (sym (step_is c s) ∙ e) (ends s (work s.regs s.pc (c (s.pc / 4))))

pub step_laws : StepLaws
step_laws = record { by_trace = λ c s e. step_ends c s e; stops_how = λ c s e. step_ends c s e }
