-- The history of a run, step by step.
use Rattle.std.proofs.Common.{◌≡◌, ℕ, suc, ◌+◌, ◌-◌, ◌<◌, ◌≤◌, true, List, [], ◌∷◌, ◌++◌, is_err, None, Ok, Err, Option, Result, sym, ap, ◌∙◌, subst, true≢false, add-one, arith}
use Rattle.isa.specs.Manual.{Code, S, Next, goes, stops, step, Run, run}
use Rattle.isa.specs.Runs.{At, with_step}
use Rattle.isa.proofs.RunSteps.{at_zero, at_suc, rets_suc, evs_suc, run_laws}
use Rattle.reference.specs.declared.history.History.{History}
use Rattle.reference.specs.declared.machine.Machine.{Machine}
use Rattle.pins.specs.declared.ports.Retired.{Retired}
use Rattle.reference.specs.declared.trace.Halt.{Halt}
use Rattle.reference.specs.declared.trace.Effect.{Effect}
use Rattle.pins.specs.PortWords.{ret_of}
use Rattle.reference.specs.Machine.{Step, events_of, next_of, StepsTo}
use Rattle.reference.specs.History.{rets_of, evs_of, Ends, HistoryOf, RunsTo}

-- a history in the middle of a run
pub record SoFar (h : History) (c : Code) (s : S) (n : ℕ) (u : S) : Type 0 where
  pub rets : rets_of h ≡ (run c s n).rets
  pub evs : evs_of h ≡ (run c s n).evs
  pub at : At c s n u
  pub running : h.end ≡ None

pub none_yet : {h : History} (c : Code) (s : S) → rets_of h ≡ [] → evs_of h ≡ [] → h.end ≡ None → SoFar h c s 0 s
none_yet c s er ee ed = record { rets = er; evs = ee; at = at_zero; running = ed }

pub all_done : {h : History} {c : Code} {s u : S} {n m : ℕ} → SoFar h c s n u → n ≡ m → HistoryOf h c s m u
all_done {h} {c} {s} {u} {n} p e = subst (λ k. HistoryOf h c s k u) e all
  where
    all : HistoryOf h c s n u
    all = record { rets = p.rets; evs = p.evs; ends = subst (λ (x : Option Halt). Ends x c s n u) (sym p.running) p.at }

-- what came of a step, in the manual
pub came : {k j : Step} {m u : Machine} {answers : List ℕ} {n : Next} → k ≡ j → StepsTo k m u answers n → next_of j u answers ≡ n
came {u = u} {answers} e p = ap (λ x. next_of x u answers) (sym e) ∙ p.next

-- without memory
pub on_the_way : {E : Type 0} (r : Result History E) {c : Code} {s u : S} {n k : ℕ} → is_err r ≡ true → k ≤ n → At c s k u → RunsTo r c s n u
on_the_way (Ok h) e l p = absurd (true≢false (sym e))
on_the_way (Err x) {k = k} e l p = (k, l, p)

module _ {h : History} {c : Code} {s u : S} {n : ℕ} (p : SoFar h c s n u) (g : History) where
  pub one_more : {v : S} (t : Retired) (e : Option Effect) → goes v (ret_of t) (events_of e) ≡ step c u
      → rets_of g ≡ rets_of h ++ ret_of t ∷ [] → evs_of g ≡ evs_of h ++ events_of e → g.end ≡ h.end → SoFar g c s (n + 1) v
  one_more {v} t e w er ee ed =
      rw (add-one n) (record {
        rets = er ∙ ap (λ l. l ++ ret_of t ∷ []) p.rets ∙ sym (rets_suc p.at (sym w));
        evs = ee ∙ ap (λ l. l ++ events_of e) p.evs ∙ sym (evs_suc p.at (sym w));
        at = at_suc p.at (sym w);
        running = ed ∙ p.running;
      })

  -- it stops at the next, and stays so
  run_ended : {k : ℕ} → stops k ≡ step c u → (m : ℕ) → n < m → run c s m ≡ with_step (run c s n) (stops k)
  run_ended {k} w m l =
      let e = run_laws.one_more p.at (sym w) in
      let q : m ≡ suc n + (m - suc n) = omega arith in
      ap (run c s) q ∙ run_laws.stays c s (suc n) (ap (λ (r : Run). r.is) e) (m - suc n) ∙ e

  pub ended : {k : ℕ} → stops k ≡ step c u → (m : ℕ) → n < m → rets_of g ≡ rets_of h → evs_of g ≡ evs_of h
      → (x : Option Halt) → g.end ≡ x → (v : S) → ((run c s m).is ≡ stops k → Ends x c s m v) → HistoryOf g c s m v
  ended w m l er ee x ed v f =
      let e = run_ended w m l in
      record {
        rets = er ∙ p.rets ∙ sym (ap (λ (r : Run). r.rets) e);
        evs = ee ∙ p.evs ∙ sym (ap (λ (r : Run). r.evs) e);
        ends = subst (λ (y : Option Halt). Ends y c s m v) (sym ed) (f (ap (λ (r : Run). r.is) e));
      }
