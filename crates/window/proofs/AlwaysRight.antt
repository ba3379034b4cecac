-- Every core with a window is always right, whatever its schedule and its predictor.
use Rattle.std.proofs.Common.{◌≡◌, ℕ, suc, ◌+◌, ◌/◌, ◌<◌, ◌≤◌, true, List, [], ◌∷◌, ◌++◌, length, sym, refl, ap, ◌∙◌, subst, append-nil, arith, length-append}
use mathlib.Core.Option.{some}
use Rattle.isa.specs.Words.{pick}
use Rattle.isa.specs.Manual.{Code, Mem, S, step, stops, run, asked, wrote, after1, device}
use Rattle.isa.specs.Runs.{Begins, more_answers}
use Rattle.isa.specs.Executing.{enact}
use Rattle.isa.specs.declared.reg.Reg.{Reg}
use Rattle.isa.specs.declared.execute.Outcome.TheVariants.{Load as Loads}
use Rattle.isa.proofs.RunSteps.{at_zero}
use Rattle.pins.specs.Says.{first}
use Rattle.pins.specs.View.{View, view, run_at, RightView}
use Rattle.pins.specs.Settled.{flushed}
use Rattle.pins.specs.Beside.{Beside, Asked}
use Rattle.pins.specs.Reach.{Invariant}
use Rattle.pins.proofs.Settling.{settled_laws}
use Rattle.pins.proofs.ManualBeside.{beside_laws}
use Rattle.pins.proofs.Invariants.{invariant_laws}
use Rattle.pins.specs.declared.held.Store.{Store}
use Rattle.pins.specs.declared.held.Reading.{Reading}
use Rattle.pins.specs.declared.held.Reading.TheVariants.{Idle, Waiting, Answered}
use Rattle.window.specs.Operands.{plan}
use Rattle.window.specs.Machine.{Core, begun, halted}
use Rattle.window.specs.Clocks.{Schedule, machine}
use Rattle.window.specs.Right.{WindowRight}
use Rattle.window.proofs.Outcomes.{step_plan}
use Rattle.window.proofs.Lines.{line_nil}
use Rattle.window.proofs.SourceRight.{store_evs}
use Rattle.window.proofs.Claims.{no_more, each_length}
use Rattle.window.proofs.Invariant.{seen, unread, reading, OldestReads, base, stand, Inv}
use Rattle.window.proofs.RetireKept.{Stops, StopRight, halted_right}
use Rattle.window.proofs.Counted.{Few, clock_few}
use Rattle.window.proofs.Fed.{FedCore, fed_none, clock_fed}
use Rattle.window.proofs.ClockKept.{clock_kept}

pub record InvWhole (c : Code) (m : Mem) (a : ℕ) (k : Core) (v : View) : Type 0 where
  pub inv : Inv c m a k (seen v)
  pub few : Few k
  -- an instruction without its word has a fetch open
  pub fed : FedCore k
  -- the ports show whether it has stopped
  pub halt : v.stopped ≡ halted k

begun_inv : (c : Code) (m : Mem) (a : ℕ) → Inv c m a (begun a) (seen (view m []))
begun_inv c m a = record {
  runs = record { at = at_zero; done = refl; did = refl; size = refl };
  held = record { line = λ zs. line_nil c (stand (begun a) m zs); datas = no_more; codes = no_more };
  oldest = tt;
  one_reading = refl;
}

pub store_evs_length : (ps : List Store) → length (store_evs ps) ≡ length ps
store_evs_length [] = refl
store_evs_length (p ∷ ps) = ap suc (store_evs_length ps)

module _ (c : Code) (m : Mem) (a : ℕ) (k : Core) (v : View) (h : InvWhole c m a k v) where
  abbrev at_base : S
  at_base = base k (flushed v)

  beside : Beside c m a v.told v.rets (base k (flushed v)) (run_at c m a v).evs
  beside = record { at = h.inv.runs.at; done = h.inv.runs.done; did = refl }

  -- with an answer at hand the oldest reads its device
  reads_device : (zs : List ℕ) (x : ℕ) (ys : List ℕ) {b : ℕ} (d : Reg) → unread k.device ++ zs ≡ x ∷ ys → plan c at_base ≡ Loads d b → device b ≡ true
      → step c (more_answers at_base zs) ≡ asked (more_answers at_base zs) d.number b (x ∷ ys)
  reads_device zs x ys {b} d e p dv =
      let s = more_answers at_base zs in
      step_plan c s ∙ ap (enact s) p
      ∙ ap (λ y. pick y (asked s d.number b s.answers) (wrote s d.number (s.mem (b / 4)) (after1 s))) dv
      ∙ ap (asked s d.number b) e

  asked_now : (q : Reading) → k.device ≡ q → Asked c m a v.told v.rets v.evs
  asked_now q e = by q e (subst (OldestReads c at_base) e h.inv.oldest) (begins q (h.inv.runs.did ∙ ap (λ z. (run_at c m a v).evs ++ reading z) e))
    where
      begins : (q : Reading) → v.evs ++ store_evs k.stores ≡ (run_at c m a v).evs ++ reading q → Begins v.evs ((run_at c m a v).evs ++ reading q)
      begins q e = record { rest = store_evs k.stores; is = sym e }

      by : (q : Reading) → k.device ≡ q → OldestReads c at_base q → Begins v.evs ((run_at c m a v).evs ++ reading q) → Asked c m a v.told v.rets v.evs
      by Idle e o b = beside_laws.asked_done beside (rw append-nil at b)
      by (Waiting b) e (d, p, dv) g = beside_laws.asked_next (0 ∷ []) beside (reads_device (0 ∷ []) 0 [] d (ap (λ z. unread z ++ (0 ∷ [])) e) p dv) g
      by (Answered b x) e (d, p, dv) g = beside_laws.asked_next [] beside (reads_device [] x [] d (ap (λ z. unread z ++ []) e) p dv) g

  pub behind : length (run_at c m a v).evs ≤ length v.evs + length k.stores
  behind =
      let p = ap length h.inv.runs.did in
      let q = length-append v.evs (store_evs k.stores) in
      let r = length-append (run_at c m a v).evs (reading k.device) in
      let t = store_evs_length k.stores in
      omega arith

  stop_now : (j : ℕ) → v.stopped ≡ some j → (j < 3) × ((run c (first a m v.told) (suc (length v.rets))).is ≡ stops j) × (v.evs ≡ (run_at c m a v).evs)
  stop_now j e =
      let s : Stops c m a k (seen v) h.inv j = subst (StopRight c m a k (seen v) h.inv) (sym h.halt ∙ e) (halted_right c m a k (seen v) h.inv) in (
        s.low,
        beside_laws.stops_next beside s.stops,
        sym (append-nil v.evs) ∙ ap (λ z. v.evs ++ store_evs z) (sym s.stores) ∙ h.inv.runs.did
            ∙ ap (λ z. (run_at c m a v).evs ++ reading z) s.idle ∙ append-nil _,
      )

  pub right_now : RightView c m a v
  right_now = record {
    done = h.inv.runs.done;
    asked = asked_now k.device refl;
    behind = let b = behind in let f = h.few.stores in omega arith;
    stop = stop_now;
    few_codes = let l = each_length h.inv.held.codes in let f = h.few.fetches in omega arith;
    few_datas = let l = each_length h.inv.held.datas in let n = settled_laws.number v in let f = h.few.requests in omega arith;
  }

pub invariant : {T : Type 0} (s : Schedule T) → Invariant (machine s) (λ c m a z v. InvWhole c m a z.core v)
invariant s = record {
  starts = λ c m a. record {
    inv = begun_inv c m a;
    few = record { requests = omega arith; fetches = omega arith; stores = omega arith };
    fed = fed_none [];
    halt = refl;
  };
  kept = λ c m a z v i r h. record { inv = clock_kept c m a s z i v r h.inv; few = clock_few s z i h.few; fed = clock_fed s z i h.fed; halt = refl };
  right = λ c m a z v h. right_now c m a z.core v h;
}

pub window_right : (T : Type 0) → WindowRight T
window_right T s decode = (invariant_laws (invariant s)).always_right decode
