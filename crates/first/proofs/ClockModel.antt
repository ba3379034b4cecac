-- A clock of the core is a clock of the model, and shows the same.
use Rattle.std.proofs.Common.{◌≡◌, ℕ, Option, ap, ◌∙◌, ap₂}
use mathlib.Core.Option.{Option as Opt}
use Rattle.pins.specs.Ports.{In}
use Rattle.pins.specs.PortWords.{optional, request_of, done_list, inputs_of, shown}
use Rattle.first.specs.declared.state.Core.{Core}
use Rattle.first.specs.WorkRules.{action}
use Rattle.first.specs.Step.{answered, worked, middle, middle_effect, next, outputs}
use Rattle.first.specs.Model.{Fetching, Storing, Model, Did, decide, apply, latched, taken, take_data, take_code, drain, want, Clock, ending, model_next}
use Rattle.first.proofs.ModelOf.{storing, model_of, Sized}
use Rattle.first.proofs.FetchModel as fetch
use Rattle.first.proofs.LsuModel as lsu
use Rattle.first.proofs.LsuModel.{SizedLsu, DrainIs}
use Rattle.first.proofs.WorkModel.{action_is}
use Rattle.first.proofs.ActModel.{action_fits, act_is}

with_storing : Model → Storing → Model
with_storing m d = record { regs = m.regs; pc = m.pc; fetch = m.fetch; lsu = d; stop = m.stop }

-- the answer to a request is taken
answered_is : (k : Core) (x : Opt ℕ) → Sized k → model_of (answered k (optional x)) ≡ with_storing (model_of k) (take_data x (storing k.lsu))
unfolding with_storing
answered_is k x h = ap (with_storing (model_of k)) (lsu.take_is k.lsu x h.requests)

answered_sized : (k : Core) (x : Option ℕ) → Sized k → Sized (answered k x)
answered_sized k x h =
    let s = lsu.take_sized k.lsu x (record { stores = h.stores; requests = h.requests }) in
    record { fetch = h.fetch; stores = s.stores; requests = s.requests }

-- what a clock has come to when its instruction has been at work and the code's answer is taken
pub record MiddleIs (k : Core) (i : In) (d : Did) : Type 0 where
  pub core : model_of (middle k (inputs_of i)) ≡ d.core
  pub rets : done_list (middle_effect k (inputs_of i)).done ≡ d.rets
  pub req : request_of (middle_effect k (inputs_of i)).request ≡ d.req
  pub sized : Sized (middle k (inputs_of i))

with_fetching : Model → Fetching → Model
with_fetching m f = record { regs = m.regs; pc = m.pc; fetch = f; lsu = m.lsu; stop = m.stop }

middle_is : (k : Core) (i : In) → Sized k → MiddleIs k i (latched i.code (apply (taken (model_of k) i) (decide (taken (model_of k) i))))
unfolding with_storing with_fetching
middle_is k i h =
    let a = answered k (optional i.data1) in
    let sa = answered_sized k (optional i.data1) h in
    let am : model_of a ≡ taken (model_of k) i = answered_is k i.data1 h in
    let w = act_is a (action a) sa (action_fits a) in
    let d : apply (model_of a) (action a) ≡ apply (taken (model_of k) i) (decide (taken (model_of k) i)) =
    ap (apply (model_of a)) (action_is a sa) ∙ ap (λ m. apply m (decide m)) am in
    let f = fetch.take_is (worked a).fetch i.code w.sized.fetch in
    record {
      core = ap (with_fetching (model_of (worked a))) f ∙ ap (λ (m : Model). with_fetching m (take_code i.code m.fetch)) w.core ∙ ap (λ (x : Did). (latched i.code x).core) d;
      rets = w.rets ∙ ap (λ (x : Did). x.rets) d;
      req = w.req ∙ ap (λ (x : Did). x.req) d;
      sized = record { fetch = fetch.take_sized (worked a).fetch (optional i.code) w.sized.fetch; stores = w.sized.stores; requests = w.sized.requests };
    }

-- the rest of the clock, from there
pub record ClockIs (k : Core) (i : In) (c : Clock) : Type 0 where
  pub core : model_of (next k (inputs_of i)) ≡ c.core
  pub out : shown (outputs k (inputs_of i)) ≡ c.out
  pub sized : Sized (next k (inputs_of i))

ending_is : (k : Core) (i : In) (d : Did) → MiddleIs k i d → ClockIs k i (ending d)
unfolding next outputs with_storing with_fetching
ending_is k i d h =
    let m = middle k (inputs_of i) in
    let r = (middle_effect k (inputs_of i)).request in
    let s = lsu.drain_is m.lsu r (record { stores = h.sized.stores; requests = h.sized.requests }) in
    let ds : drain (request_of r) (storing m.lsu) ≡ drain d.req d.core.lsu = ap₂ drain h.req (ap (λ (x : Model). x.lsu) h.core) in
    let wf = ap (λ (x : Model). want x.fetch) h.core in
    let ef = fetch.wanted_is m.fetch h.sized.fetch ∙ ap (λ w. w.fetch) wf in
    let el = s.lsu ∙ ap (λ x. x.lsu) ds in
    let ew = fetch.want_is m.fetch h.sized.fetch ∙ ap (λ w. w.want) wf in
    let er = s.req ∙ ap (λ x. x.req) ds in
    record {
      core = λ j. record { regs = (h.core j).regs; pc = (h.core j).pc; fetch = ef j; lsu = el j; stop = (h.core j).stop };
      out = λ j. record { code = ew j; data1 = er j; rets = h.rets j; stopped = (h.core j).stop };
      sized = record { fetch = fetch.wanted_sized m.fetch h.sized.fetch; stores = s.sized.stores; requests = s.sized.requests };
    }

pub clock_is : (k : Core) (i : In) → Sized k → ClockIs k i (model_next (model_of k) i)
clock_is k i h = ending_is k i _ (middle_is k i h)
