-- Doing what was decided is the model's doing it.
use Rattle.std.proofs.Common.{◌≡◌, ℕ, ◌<◌, Bool, true, false, ◌&&◌, ltb, List, Some, None, Option, refl}
use mathlib.Core.Option.{Option as Opt}
use Rattle.std.proofs.lemmas.Bool.{ltb-true, and_parts, cond_both}
use Rattle.isa.specs.Words.{add}
use Rattle.isa.specs.Manual.{device}
use Rattle.isa.specs.Executing.{work}
use Rattle.isa.specs.declared.reg.Reg.{Reg}
use Rattle.isa.specs.declared.execute.Outcome.{Outcome}
use Rattle.isa.specs.declared.execute.Outcome.TheVariants.{Write as Writes, Jump as Jumps, Load as Loads, Store as Stores, Halt as Halts}
use Rattle.pins.specs.PortWords.{request_of, done_list}
use Rattle.pins.specs.declared.held.Store.{Store}
use Rattle.first.specs.declared.state.Open.{Open}
use Rattle.first.specs.declared.state.Open.TheVariants.{Load as ForLoad}
use Rattle.pins.specs.declared.held.Reading.{Reading}
use Rattle.pins.specs.declared.held.Reading.TheVariants.{Idle, Waiting, Answered}
use Rattle.first.specs.declared.state.Core.{Core}
use Rattle.first.specs.declared.state.Action.{Action}
use Rattle.first.specs.declared.state.Action.TheVariants.{Wait, Halt, Write, Jump, Push, Ask}
use Rattle.first.specs.StoreRules.{forwarded}
use Rattle.first.specs.LsuRules.{lsu_room}
use Rattle.first.specs.FetchRules.{fetch_head}
use Rattle.first.specs.WorkRules.{no_stores, forward_or_ask, load_action, outcome_action, word_action, is_some, action_unless, action, act, effect}
use Rattle.first.specs.Model.{Fetching, Model, apply}
use Rattle.first.proofs.ModelOf.{model_of, Sized}
use Rattle.first.proofs.FetchModel.{goto_is, goto_sized}
use Rattle.first.proofs.StoreModel as stores
use Rattle.first.proofs.LsuModel as lsu

-- an action for which there is room
abbrev pub Fits : Core → Action → Type 0
Fits k Wait = Unit {0}
Fits k (Halt s) = Unit {0}
Fits k (Write r x a) = Unit {0}
Fits k (Jump a) = Unit {0}
Fits k (Push s) = k.lsu.stores.count < 8
Fits k (Ask a) = k.lsu.requests.count < 4

-- only such are decided
module _ (k : Core) where
  ask_fits : (a : ℕ) (t : Bool) → (lsu_room k.lsu && t) ≡ true → Fits k (Ask a)
  ask_fits a t e = ltb-true k.lsu.requests.count 4 (and_parts (lsu_room k.lsu) t e).0

  load_fits : (r : Reg) (a : ℕ) (l : Reading) → Fits k (load_action k r a l)
  load_fits r a (Waiting b) = tt
  load_fits r a (Answered b x) = tt
  load_fits r a Idle = cond_both (device a) _ _ (Fits k) (λ _. cond_both (lsu_room k.lsu && no_stores k) _ _ (Fits k) (ask_fits a (no_stores k)) (λ _. tt)) (λ _. forwards (forwarded k.lsu.stores a))
    where
      forwards : (o : Option ℕ) → Fits k (forward_or_ask k r a o)
      forwards None = cond_both (lsu_room k.lsu) _ _ (Fits k) (λ e. ltb-true k.lsu.requests.count 4 e) (λ _. tt)
      forwards (Some x) = tt

  outcome_fits : (o : Outcome) → Fits k (outcome_action k o)
  outcome_fits (Writes r x a) = tt
  outcome_fits (Jumps a) = tt
  outcome_fits (Loads r a) = load_fits r a k.lsu.load
  outcome_fits (Stores a x) = cond_both (ltb k.lsu.stores.count 8) _ _ (Fits k) (λ e. ltb-true k.lsu.stores.count 8 e) (λ _. tt)
  outcome_fits (Halts s) = cond_both (no_stores k) _ _ (Fits k) (λ _. tt) (λ _. tt)

  word_fits : (o : Option ℕ) → Fits k (word_action k o)
  word_fits None = tt
  word_fits (Some w) = outcome_fits (work k.regs.values k.pc w)

  pub action_fits : Fits k (action k)
  action_fits = by (is_some k.stopped)
    where
      by : (b : Bool) → Fits k (action_unless k b)
      by true = tt
      by false = word_fits (fetch_head k.fetch)

pub record ActIs (k : Core) (x : Action) : Type 0 where
  pub core : model_of (act k x) ≡ (apply (model_of k) x).core
  pub rets : done_list (effect k x).done ≡ (apply (model_of k) x).rets
  pub req : request_of (effect k x).request ≡ (apply (model_of k) x).req
  pub sized : Sized (act k x)

same_model : {gs : List ℕ} {a : ℕ} {f g : Fetching} {r s : List Store} {o p : List Open} {l : Reading} {h : Opt ℕ} → f ≡ g → r ≡ s → o ≡ p
    → ◌≡◌ {A = Model} (record { regs = gs; pc = a; fetch = f; lsu = record { row = r; opens = o; load = l }; stop = h }) (record { regs = gs; pc = a; fetch = g; lsu = record { row = s; opens = p; load = l }; stop = h })
same_model {gs} {a} {l = l} {h = h} e q t = λ i. record { regs = gs; pc = a; fetch = e i; lsu = record { row = q i; opens = t i; load = l }; stop = h }

pub act_is : (k : Core) (x : Action) → Sized k → Fits k x → ActIs k x
act_is k Wait h t = record { core = refl; rets = refl; req = refl; sized = h }
act_is k (Halt s) h t = record { core = refl; rets = refl; req = refl; sized = record { fetch = h.fetch; stores = h.stores; requests = h.requests } }
act_is k (Write r x a) h t =
    record {
      core = same_model (goto_is k.fetch k.pc a h.fetch) refl refl;
      rets = refl;
      req = refl;
      sized = record { fetch = goto_sized k.fetch k.pc a h.fetch; stores = h.stores; requests = h.requests };
    }
act_is k (Jump a) h t =
    record {
      core = same_model (goto_is k.fetch k.pc a h.fetch) refl refl;
      rets = refl;
      req = refl;
      sized = record { fetch = goto_sized k.fetch k.pc a h.fetch; stores = h.stores; requests = h.requests };
    }
act_is k (Push s) h t =
    record {
      core = same_model (goto_is k.fetch k.pc (add k.pc 4) h.fetch) (stores.push_is k.lsu.stores s h.stores t) refl;
      rets = refl;
      req = refl;
      sized = record { fetch = goto_sized k.fetch k.pc (add k.pc 4) h.fetch; stores = stores.push_sized k.lsu.stores s h.stores t; requests = h.requests };
    }
act_is k (Ask a) h t =
    record {
      core = same_model refl refl (lsu.opened_push k.lsu.requests ForLoad h.requests t);
      rets = refl;
      req = refl;
      sized = record { fetch = h.fetch; stores = h.stores; requests = lsu.push_sized k.lsu.requests ForLoad h.requests t };
    }
