-- What the use of the request port leaves.
use Rattle.std.proofs.Common.{◌≡◌, ℕ, suc, ◌+◌, ◌/◌, ◌<◌, ◌≤◌, Bool, true, false, List, [], ◌∷◌, ◌++◌, length, Some, sym, refl, ap, ◌∙◌, append-nil, arith}
use mathlib.Core.Option.{Option as Opt, some, none}
use Rattle.isa.specs.Words.{pick, opt, nth}
use Rattle.isa.specs.Manual.{asks, device}
use Rattle.isa.specs.declared.reg.Reg.{Reg}
use Rattle.isa.specs.declared.execute.Outcome.TheVariants.{Load as Loads}
use Rattle.pins.specs.Ports.{Req, reads, writes1}
use Rattle.pins.specs.Outside.{ev_of}
use Rattle.window.specs.declared.entry.Entry.{Entry}
use Rattle.window.specs.declared.entry.Tag.{Tag}
use Rattle.window.specs.declared.entry.Tag.TheVariants.{Acknowledgment, Load, Device}
use Rattle.pins.specs.declared.held.Store.{Store}
use Rattle.pins.specs.declared.held.Reading.TheVariants.{Idle, Waiting, Answered}
use Rattle.window.specs.declared.entry.Source.TheVariants.{Memory}
use Rattle.window.specs.Entries.{given, number}
use Rattle.window.specs.Newest.{source}
use Rattle.window.specs.Machine.{Core, Asked, nothing_asked, ask_from, ask_outcome, ask_load, drain_first, drain, device_if, device_outcome, device_oldest, ask_device}
use Rattle.window.specs.Clocks.{Port, request_if}
use Rattle.window.proofs.RuleCases.{load_asked, device_asked, request_by}

ev_one : (r : Opt Req) → length (ev_of r) ≤ 1
ev_one none = omega arith
ev_one (some (reads b)) = by (device b)
  where
    by : (x : Bool) → length (pick x (asks b ∷ []) []) ≤ 1
    by true = omega arith
    by false = omega arith
ev_one (some (writes1 b x)) = omega arith

-- whatever is asked
pub record LeftOver (k : Core) (z : Asked) : Type 0 where
  pub more : List Tag
  pub requests : z.core.requests ≡ k.requests ++ more
  pub waiting : (b : ℕ) → k.device ≡ Waiting b → z.core.device ≡ Waiting b
  pub answered : (b x : ℕ) → k.device ≡ Answered b x → z.core.device ≡ Answered b x
  pub stores : length k.stores ≤ length z.core.stores + length (ev_of z.req)
  pub less : length z.core.stores ≤ length k.stores
  pub one : length (ev_of z.req) ≤ 1

nothing_left : (k : Core) → LeftOver k (nothing_asked k)
nothing_left k = record {
  more = [];
  requests = sym (append-nil k.requests);
  waiting = λ b e. e;
  answered = λ b x e. e;
  stores = omega arith;
  less = omega arith;
  one = omega arith;
}

pub left_over : (b : Bool) (p : Port) (k : Core) → LeftOver k (request_if b p k)
left_over false p k = nothing_left k
left_over true p k =
    request_by (LeftOver k) k (nothing_left k)
    (λ n b d. record {
      more = Load (number n) ∷ [];
      requests = refl;
      waiting = λ b e. e;
      answered = λ b x e. e;
      stores = omega arith;
      less = omega arith;
      one = ev_one (some (reads b));
    })
    (λ q ps s. let z : length k.stores ≡ suc (length ps) = ap length s in record {
      more = Acknowledgment ∷ [];
      requests = refl;
      waiting = λ b e. e;
      answered = λ b x e. e;
      stores = omega arith;
      less = omega arith;
      one = omega arith;
    })
    (λ b d i s. record {
      more = Device ∷ [];
      requests = refl;
      waiting = λ x e. not_idle x e i;
      answered = λ x y e. not_answered x y e i;
      stores = omega arith;
      less = omega arith;
      one = ev_one (some (reads b));
    })
    p
  where
    not_idle : (x : ℕ) {A : Type 0} → k.device ≡ Waiting x → k.device ≡ Idle → A
    not_idle x e i = let y : Idle ≡ Waiting x = sym i ∙ e in absurd (let z : ◌≡◌ {A = ℕ} 0 1 = cc in omega arith)

    not_answered : (x y : ℕ) {A : Type 0} → k.device ≡ Answered x y → k.device ≡ Idle → A
    not_answered x y e i = let w : Idle ≡ Answered x y = sym i ∙ e in absurd (let z : ◌≡◌ {A = ℕ} 0 1 = cc in omega arith)

-- a store goes out
pub drained : (k : Core) → 0 < length k.stores → (suc (length (drain k).core.stores) ≡ length k.stores) × (length (ev_of (drain k).req) ≡ 1)
drained k h = by k.stores refl
  where
    by : (ps : List Store) → k.stores ≡ ps → (suc (length (drain_first k ps).core.stores) ≡ length k.stores) × (length (ev_of (drain_first k ps).req) ≡ 1)
    by [] e = let z : length k.stores ≡ 0 = ap length e in absurd (omega arith)
    by (p ∷ ps) e = (sym (ap length e), refl)

-- the load of the oldest is asked for
pub asked_oldest : (k : Core) (e : Entry) (es : List Entry) (r : Reg) (b : ℕ) → k.window ≡ e ∷ es → e.outcome ≡ Some (Loads r b)
    → source k.stores k.window 0 (b / 4) ≡ Memory → device b ≡ false → ask_load 0 k ≡ load_asked k 0 b
asked_oldest k e es r b we eo so dv =
    ap (λ w. opt (nth w 0) (nothing_asked k) (λ x. given x.outcome (nothing_asked k) (ask_outcome k 0))) we
    ∙ ap (λ o. given o (nothing_asked k) (ask_outcome k 0)) eo
    ∙ (λ i. ask_from k 0 b (dv i) (so i))

-- the device of the oldest is asked
pub asked_device : (k : Core) (e : Entry) (es : List Entry) (r : Reg) (b : ℕ) → k.window ≡ e ∷ es → e.outcome ≡ Some (Loads r b)
    → k.device ≡ Idle → k.stores ≡ [] → device b ≡ true → ask_device k ≡ device_asked k b
asked_device k e es r b we eo di st dv =
    ap (device_oldest k) we ∙ ap (λ o. given o (nothing_asked k) (device_outcome k)) eo ∙ (λ i. device_if k b (dv i) (di i) (st i))
