-- What a rule can come to, each case once: for whatever is to be shown of it.
use Rattle.std.proofs.Common.{◌≡◌, ℕ, ◌/◌, ◌≤◌, Bool, true, false, ltb, List, [], ◌∷◌, ◌++◌, length, Some, Option, refl, arith, length-append, ltb-true}
use mathlib.Core.Option.{some}
use Rattle.isa.specs.Words.{nth, put, add}
use Rattle.isa.specs.Manual.{Ret, device}
use Rattle.isa.specs.declared.execute.Outcome.{Outcome}
use Rattle.isa.specs.declared.execute.Outcome.TheVariants.{Write as Writes, Jump as Jumps, Load as Loads, Store as Stores, Halt as Halts}
use Rattle.pins.specs.Ports.{reads, writes1}
use Rattle.window.specs.declared.entry.Entry.{Entry}
use Rattle.window.specs.declared.entry.Tag.TheVariants.{Acknowledgment, Load, Device}
use Rattle.pins.specs.declared.held.Store.{Store}
use Rattle.pins.specs.declared.held.Reading.{Reading}
use Rattle.pins.specs.declared.held.Reading.TheVariants.{Idle, Waiting, Answered}
use Rattle.window.specs.declared.entry.Source.{Source}
use Rattle.window.specs.declared.entry.Source.TheVariants.{Unknown, Memory, Forwarded}
use Rattle.window.specs.Entries.{number}
use Rattle.window.specs.Newest.{source}
use Rattle.window.specs.Machine.{Core, with_window, with_requests, learn, Retired, none_retired, finish, write_ret, plain_ret, retire_device, retire_store, retire_outcome, retire_oldest, retire, Asked, nothing_asked, ask_from, ask_outcome, drain_first, device_if, device_outcome, device_oldest}
use Rattle.window.specs.Clocks.{Port, leaves, loads, drains, asks_device, request}
use Rattle.window.proofs.Cases.{opt_cases, given_cases}

-- an entry learns, or not
pub learn_by : (P : Core → Type 0) (f : Core → ℕ → Entry → Option Entry) (n : ℕ) (k : Core) → P k
    → ((e d : Entry) → nth k.window n ≡ some e → f k n e ≡ Some d → P (with_window k (put k.window n d)))
    → P (learn f n k)
learn_by P f n k h g = opt_cases P (nth k.window n) (λ _. h) (λ e at. given_cases P (f k n e) (λ _. h) (λ d ed. g e d at ed))

-- the oldest is retired, with these stores waiting then
pub record Finished (k : Core) (e : Entry) (es : List Entry) (ps : List Store) : Type 0 where
  pub window : k.window ≡ e ∷ es
  pub more : length k.stores ≤ length ps
  pub few : length k.stores ≤ 8 → length ps ≤ 8

module _ (P : Retired → Type 0) (k : Core) (rests : P (none_retired k))
    (finishes : (e : Entry) (es : List Entry) (gs : List ℕ) (b : ℕ) (ps : List Store) (t : Ret) → Finished k e es ps → P (finish k e es gs b ps t)) where
  pub retire_by : P (retire k)
  retire_by = by k.window refl
    where
      same : (e : Entry) (es : List Entry) → k.window ≡ e ∷ es → Finished k e es k.stores
      same e es we = record { window = we; more = omega arith; few = λ h. h }

      device : (e : Entry) (es : List Entry) → k.window ≡ e ∷ es → (d : ℕ) (q : Reading) → P (retire_device k e es d q)
      device e es we d Idle = rests
      device e es we d (Waiting b) = rests
      device e es we d (Answered b x) = finishes e es (put k.regs d x) (add k.pc 4) k.stores (write_ret k d x) (same e es we)

      store : (e : Entry) (es : List Entry) → k.window ≡ e ∷ es → (p : Store) (b : Bool) → ltb (length k.stores) 8 ≡ b → P (retire_store k e es p b)
      store e es we p false q = rests
      store e es we p true q =
          let l = length-append k.stores (p ∷ []) in
          let h = ltb-true (length k.stores) 8 q in
          finishes e es k.regs (add k.pc 4) (k.stores ++ (p ∷ [])) (plain_ret k) (record { window = we; more = omega arith; few = λ _. omega arith })

      outcome : (e : Entry) (es : List Entry) → k.window ≡ e ∷ es → (o : Outcome) → P (retire_outcome k e es o)
      outcome e es we (Writes d x b) = finishes e es (put k.regs d.number x) b k.stores (write_ret k d.number x) (same e es we)
      outcome e es we (Jumps b) = finishes e es k.regs b k.stores (plain_ret k) (same e es we)
      outcome e es we (Loads d b) =
          given_cases P e.loaded (λ _. device e es we d.number k.device)
          (λ x _. finishes e es (put k.regs d.number x) (add k.pc 4) k.stores (write_ret k d.number x) (same e es we))
      outcome e es we (Stores b x) = store e es we (record { address = b; value = x }) (ltb (length k.stores) 8) refl
      outcome e es we (Halts s) = rests

      by : (es : List Entry) → k.window ≡ es → P (retire_oldest k es)
      by [] we = rests
      by (e ∷ es) we = given_cases P e.outcome (λ _. rests) (λ o _. outcome e es we o)

-- nothing is asked; the load of the n-th; a waiting store; the oldest's device
abbrev pub load_asked : Core → ℕ → ℕ → Asked
load_asked k n b = record { core = with_requests k (k.requests ++ (Load (number n) ∷ [])); req = some (reads b) }

abbrev pub store_asked : Core → Store → List Store → Asked
store_asked k p ps = record {
  core = record {
    regs = k.regs;
    pc = k.pc;
    stores = ps;
    device = k.device;
    window = k.window;
    requests = k.requests ++ (Acknowledgment ∷ []);
    fetches = k.fetches;
  };
  req = some (writes1 p.address p.value);
}

abbrev pub device_asked : Core → ℕ → Asked
device_asked k b = record {
  core = record {
    regs = k.regs;
    pc = k.pc;
    stores = k.stores;
    device = Waiting b;
    window = k.window;
    requests = k.requests ++ (Device ∷ []);
    fetches = k.fetches;
  };
  req = some (reads b);
}

module _ (P : Asked → Type 0) (k : Core) (nothing : P (nothing_asked k))
    (load : (n b : ℕ) → device b ≡ false → P (load_asked k n b))
    (store : (p : Store) (ps : List Store) → k.stores ≡ p ∷ ps → P (store_asked k p ps))
    (reading : (b : ℕ) → device b ≡ true → k.device ≡ Idle → k.stores ≡ [] → P (device_asked k b)) where
  pub request_by : (p : Port) → P (request p k)
  request_by leaves = nothing
  request_by (loads n) = opt_cases P (nth k.window n) (λ _. nothing) (λ e _. given_cases P e.outcome (λ _. nothing) (λ o _. by o))
    where
      from : (b : ℕ) (x : Bool) → device b ≡ x → (q : Source) → P (ask_from k n b x q)
      from b true d q = nothing
      from b false d Unknown = nothing
      from b false d (Forwarded x) = nothing
      from b false d Memory = load n b d

      by : (o : Outcome) → P (ask_outcome k n o)
      by (Writes r x b) = nothing
      by (Jumps b) = nothing
      by (Loads r b) = from b (device b) refl (source k.stores k.window n (b / 4))
      by (Stores b x) = nothing
      by (Halts s) = nothing
  request_by drains = by k.stores refl
    where
      by : (ps : List Store) → k.stores ≡ ps → P (drain_first k ps)
      by [] e = nothing
      by (p ∷ ps) e = store p ps e
  request_by asks_device = by k.window
    where
      from : (b : ℕ) (x : Bool) → device b ≡ x → (q : Reading) → k.device ≡ q → (ps : List Store) → k.stores ≡ ps → P (device_if k b x q ps)
      from b false d q e ps f = nothing
      from b true d (Waiting x) e ps f = nothing
      from b true d (Answered x y) e ps f = nothing
      from b true d Idle e (p ∷ ps) f = nothing
      from b true d Idle e [] f = reading b d e f

      outcome : (o : Outcome) → P (device_outcome k o)
      outcome (Writes r x b) = nothing
      outcome (Jumps b) = nothing
      outcome (Loads r b) = from b (device b) refl k.device refl k.stores refl
      outcome (Stores b x) = nothing
      outcome (Halts s) = nothing

      by : (es : List Entry) → P (device_oldest k es)
      by [] = nothing
      by (e ∷ es) = given_cases P e.outcome (λ _. nothing) (λ o _. outcome o)
