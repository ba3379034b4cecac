-- The rules by which one instruction learns more keep the invariant.
use Rattle.std.proofs.Common.{◌≡◌, ℕ, ◌/◌, ◌<◌, Bool, true, false, List, take, Some, None, Option, sym, refl, ap, ◌∙◌}
use mathlib.Core.Option.{some}
use Rattle.isa.specs.Words.{pick, nth, put}
use Rattle.isa.specs.Manual.{Code, Mem, S, device}
use Rattle.isa.specs.Registers.{value_in}
use Rattle.isa.specs.Decoding.{decodes}
use Rattle.isa.specs.Executing.{source1, source2}
use Rattle.isa.specs.declared.reg.Reg.{Reg}
use Rattle.isa.specs.declared.execute.Outcome.{Outcome}
use Rattle.isa.specs.declared.execute.Outcome.TheVariants.{Write as Writes, Jump as Jumps, Load as Loads, Store as Stores, Halt as Halts}
use Rattle.window.specs.declared.entry.Entry.{Entry}
use Rattle.window.specs.declared.entry.Source.{Source}
use Rattle.window.specs.declared.entry.Source.TheVariants.{Unknown, Memory, Forwarded}
use Rattle.window.specs.Entries.{given}
use Rattle.window.specs.Operands.{left_register, right_register, work_with, plan}
use Rattle.window.specs.Newest.{newest, source}
use Rattle.window.specs.Machine.{Core, with_window, learn, read_left, read_right, execute, forwarded, forward_outcome, forward}
use Rattle.window.proofs.Cases.{opt_cases, given_cases}
use Rattle.window.proofs.Outcomes.{plan_with, register_low}
use Rattle.window.proofs.Lines.{Known, known, Agrees, Reaches, predictions}
use Rattle.window.proofs.NewestRight.{newest_right}
use Rattle.window.proofs.SourceRight.{Is, source_right}
use Rattle.window.proofs.Held.{held_learn}
use Rattle.window.proofs.Invariant.{Seen, stand, Inv}

-- d knows more than e, which is the n-th
pub record Better (c : Code) (k : Core) (v : Seen) (n : ℕ) (e d : Entry) : Type 0 where
  pub predicted : e.predicted ≡ d.predicted
  pub pc : e.pc ≡ d.pc
  pub agrees : (zs : List ℕ) (s : S) → Reaches c (stand k v.mem zs) (take n (predictions k.window)) s → Agrees c s e → Agrees c s d

loads_same : {d d' : Reg} {b b' : ℕ} → ◌≡◌ {A = Outcome} (Loads d b) (Loads d' b') → b ≡ b'
loads_same e = cc

pub same_load : {c : Code} {s : S} {e : Entry} {d d' : Reg} {b b' : ℕ} → Agrees c s e → e.outcome ≡ Some (Loads d b) → plan c s ≡ Loads d' b' → b ≡ b'
same_load f p q = loads_same (known f.outcome p ∙ q)

module _ (c : Code) (m : Mem) (a : ℕ) (k : Core) (v : Seen) (h : Inv c m a k v) where
  abbrev pub MaybeBetter : ℕ → Entry → Option Entry → Type 0
  MaybeBetter n e None = Unit {0}
  MaybeBetter n e (Some d) = Better c k v n e d

  pub learn_kept : (f : Core → ℕ → Entry → Option Entry) (n : ℕ) → ((e : Entry) → nth k.window n ≡ some e → MaybeBetter n e (f k n e))
      → Inv c m a (learn f n k) v
  learn_kept f n g = opt_cases (λ z. Inv c m a z v) (nth k.window n) (λ _. h) (λ e at. by e at (f k n e) (g e at))
    where
      by : (e : Entry) → nth k.window n ≡ some e → (o : Option Entry) → MaybeBetter n e o
          → Inv c m a (given o k (λ d. with_window k (put k.window n d))) v
      by e at None b = h
      by e at (Some d) b = record {
        runs = record { at = h.runs.at; done = h.runs.done; did = h.runs.did; size = h.runs.size };
        held = held_learn h.held n e d at b.predicted b.pc b.agrees;
        oldest = h.oldest;
        one_reading = h.one_reading;
      }

  newest_at : (n r : ℕ) → r < 32 → (zs : List ℕ) (s : S) → Reaches c (stand k v.mem zs) (take n (predictions k.window)) s
      → Known (newest k.regs k.window n r) (value_in s.regs r)
  newest_at n r low zs s w = newest_right c (stand k v.mem zs) s k.window n r h.runs.size low (h.held.line zs) w

  pub left_kept : (n : ℕ) → Inv c m a (learn read_left n k) v
  left_kept n =
      learn_kept read_left n (λ e at.
      given_cases (MaybeBetter n e) e.left (λ _.
      given_cases (MaybeBetter n e) e.word (λ _. tt) (λ w ew.
      given_cases (MaybeBetter n e) (newest k.regs k.window n (left_register w)) (λ _. tt) (λ x ex.
      record {
        predicted = refl;
        pc = refl;
        agrees = λ zs s r f. record {
          here = f.here;
          word = f.word;
          left = known (newest_at n (left_register w) (register_low source1 (decodes w)) zs s r) ex ∙ ap (λ z. value_in s.regs (left_register z)) (known f.word ew);
          right = f.right;
          outcome = f.outcome;
          loaded = f.loaded;
        };
      })))
      (λ _ _. tt))

  pub right_kept : (n : ℕ) → Inv c m a (learn read_right n k) v
  right_kept n =
      learn_kept read_right n (λ e at.
      given_cases (MaybeBetter n e) e.right (λ _.
      given_cases (MaybeBetter n e) e.word (λ _. tt) (λ w ew.
      given_cases (MaybeBetter n e) (newest k.regs k.window n (right_register w)) (λ _. tt) (λ x ex.
      record {
        predicted = refl;
        pc = refl;
        agrees = λ zs s r f. record {
          here = f.here;
          word = f.word;
          left = f.left;
          right = known (newest_at n (right_register w) (register_low source2 (decodes w)) zs s r) ex ∙ ap (λ z. value_in s.regs (right_register z)) (known f.word ew);
          outcome = f.outcome;
          loaded = f.loaded;
        };
      })))
      (λ _ _. tt))

  -- executed at operands that are the manual's
  pub execute_kept : (n : ℕ) → Inv c m a (learn execute n k) v
  execute_kept n =
      learn_kept execute n (λ e at.
      given_cases (MaybeBetter n e) e.outcome (λ _.
      given_cases (MaybeBetter n e) e.word (λ _. tt) (λ w ew.
      given_cases (MaybeBetter n e) e.left (λ _. tt) (λ x ex.
      given_cases (MaybeBetter n e) e.right (λ _. tt) (λ y ey.
      record {
        predicted = refl;
        pc = refl;
        agrees = λ zs s r f. record {
          here = f.here;
          word = f.word;
          left = f.left;
          right = f.right;
          outcome = (λ i. work_with (f.here i) (known f.word ew i) (known f.left ex i) (known f.right ey i)) ∙ plan_with c s;
          loaded = f.loaded;
        };
      }))))
      (λ _ _. tt))

  pub source_at : (n i : ℕ) (zs : List ℕ) (s : S) → Reaches c (stand k v.mem zs) (take n (predictions k.window)) s
      → Is (v.mem i) (source k.stores k.window n i) (s.mem i)
  source_at n i zs s w = source_right c v.mem k.stores (stand k v.mem zs) s k.window n i refl (h.held.line zs) w

  pub forward_kept : (n : ℕ) → Inv c m a (learn forward n k) v
  forward_kept n =
      learn_kept forward n (λ e at.
      given_cases (MaybeBetter n e) e.loaded (λ _. given_cases (MaybeBetter n e) e.outcome (λ _. tt) (λ o eo. by e o eo)) (λ _ _. tt))
    where
      from : (e : Entry) (d : Reg) (b : ℕ) → e.outcome ≡ Some (Loads d b) → (x : Bool) → device b ≡ x → (q : Source)
          → ((zs : List ℕ) (s : S) → Reaches c (stand k v.mem zs) (take n (predictions k.window)) s → Is (v.mem (b / 4)) q (s.mem (b / 4)))
          → MaybeBetter n e (pick x None (forwarded e q))
      from e d b eo true dv q g = tt
      from e d b eo false dv Unknown g = tt
      from e d b eo false dv Memory g = tt
      from e d b eo false dv (Forwarded x) g = record {
        predicted = refl;
        pc = refl;
        agrees = λ zs s w f. record {
          here = f.here;
          word = f.word;
          left = f.left;
          right = f.right;
          outcome = f.outcome;
          loaded = λ d' b' q. let e : b ≡ b' = same_load f eo q in (ap device (sym e) ∙ dv, g zs s w ∙ ap (λ z. s.mem (z / 4)) e);
        };
      }

      by : (e : Entry) (o : Outcome) → e.outcome ≡ Some o → MaybeBetter n e (forward_outcome k n e o)
      by e (Writes r x b) eo = tt
      by e (Jumps b) eo = tt
      by e (Loads d b) eo = from e d b eo (device b) refl (source k.stores k.window n (b / 4)) (source_at n (b / 4))
      by e (Stores b x) eo = tt
      by e (Halts j) eo = tt
