-- The first core is always right.
use Rattle.std.proofs.Common.{◌≡◌, ℕ, ◌%◌, [], length, sym, refl, ap, ◌∙◌, subst, arith}
use Rattle.isa.specs.Manual.{Code, Mem}
use Rattle.isa.proofs.Does.{single_laws}
use Rattle.isa.proofs.StepByTrace.{step_laws}
use Rattle.isa.proofs.RunSteps.{at_zero, run_laws}
use Rattle.isa.proofs.MoreAnswers.{answer_laws}
use Rattle.pins.specs.Ports.{In, Out}
use Rattle.pins.specs.PortWords.{inputs_of, shown}
use Rattle.pins.specs.Says.{AlwaysRight}
use Rattle.pins.specs.View.{View, view, take_in, add_out, Allowed}
use Rattle.pins.specs.Reach.{Invariant}
use Rattle.pins.proofs.Invariants.{invariant_laws}
use Rattle.pins.proofs.Settling.{settled_laws}
use Rattle.first.specs.declared.state.Core.{Core}
use Rattle.first.specs.WorkRules.{core_start}
use Rattle.first.specs.Step.{next, outputs}
use Rattle.first.specs.Model.{Model, model_start, model_next}
use Rattle.first.specs.Layout.{decode}
use Rattle.first.specs.Stands.{machine, Stands}
use Rattle.first.specs.Parts.{AtWork, Parts}
use Rattle.first.proofs.ModelOf.{model_of, Sized}
use Rattle.first.proofs.ClockModel.{clock_is}
use Rattle.first.proofs.Buffered.{final}
use Rattle.first.proofs.Invariant.{stands_at, Inv}
use Rattle.first.proofs.ClockKept.{clock_kept}
use Rattle.first.proofs.Counted.{next_counts}
use Rattle.first.proofs.RightNow.{right_now}

-- of the core's own state: its counts are in bounds, its model keeps the invariant, the ports show whether it has stopped, and it counts what is done
pub record InvCore (c : Code) (m : Mem) (a : ℕ) (k : Core) (v : View) : Type 0 where
  pub sized : Sized k
  pub model : Inv c m a (model_of k) v
  pub stop : v.stopped ≡ (model_of k).stop
  pub number : k.number.0 ≡ length v.rets % 4294967296

start_sized : (a : ℕ) → Sized (core_start a)
start_sized a =
    record {
      fetch = record { array = refl; ahead = omega arith; asked = omega arith };
      stores = record { array = refl; few = omega arith };
      requests = record { array = refl; few = omega arith };
    }

start_kept : (c : Code) (m : Mem) (a : ℕ) → Inv c m a (model_start a) (view m [])
start_kept c m a =
    record {
      fetched = record { chain = refl; count = refl; few = omega arith };
      tags = tt;
      few = omega arith;
      room = omega arith;
      runs = record { at = at_zero; done = refl; did = refl; works = tt; halts = tt };
    }

pub invariant : Invariant machine InvCore
invariant =
    record {
      starts = λ c m a. record { sized = start_sized a; model = start_kept c m a; stop = refl; number = refl };
      kept = λ c m a k v i r h. kept c m a k v i r h;
      right = λ c m a k v h. right_now c m a (model_of k) v h.model h.stop;
    }
  where
    kept : (c : Code) (m : Mem) (a : ℕ) (k : Core) (v : View) (i : In) → Allowed c v i → InvCore c m a k v → InvCore c m a (next k (inputs_of i)) (add_out (shown (outputs k (inputs_of i))) (take_in i v))
    kept c m a k v i r h =
        let e = clock_is k i h.sized in
        let n = clock_kept c m a (model_of k) v i r h.model in
        record {
          sized = e.sized;
          model = subst (λ (x : Model). Inv c m a x (add_out (shown (outputs k (inputs_of i))) (take_in i v))) (sym e.core) (subst (λ (o : Out). Inv c m a (model_next (model_of k) i).core (add_out o (take_in i v))) (sym e.out) n);
          stop = ap (λ (o : Out). o.stopped) e.out ∙ sym (ap (λ (x : Model). x.stop) e.core);
          number = next_counts k i v h.number;
        }

pub always_right : AlwaysRight Stands
always_right = (invariant_laws invariant).always_right decode

-- what stands in the words is the manual's state after those that are done
at_work : AtWork
at_work c m a h w (k, e, r) =
    let i = (invariant_laws invariant).holds r in
    (k, e, record { state = stands_at (model_of k) (final (view m h) (model_of k).lsu.row); at = i.model.runs.at; pc = refl; regs = refl; number = i.number })

pub parts : Parts
parts = record { one_way = run_laws; more_answers = answer_laws; single = single_laws; traced = step_laws; settled = settled_laws; at_work = at_work }
