-- The oldest instruction in the memory stage: what is asked for it; and who has the request port.
use Rattle.std.proofs.Common.{◌≡◌, ℕ, ◌/◌, ◌<◌, ◌≤◌, Bool, true, false, not, ◌&&◌, ◌||◌, ltb, leb, ◌⊎◌, List, ◌∷◌, Some, None, sym, refl, ap, ◌∙◌, inl, inr, arith, Option}
use Rattle.std.proofs.lemmas.Bool.{ltb-true, lt-ltb, le-leb}
use Rattle.isa.specs.Words.{pick, nth}
use Rattle.isa.specs.Manual.{device}
use Rattle.isa.specs.declared.reg.Reg.{Reg}
use Rattle.isa.specs.declared.execute.Stop.{Stop}
use Rattle.isa.specs.declared.execute.Outcome.{Outcome}
use Rattle.isa.specs.declared.execute.Outcome.TheVariants.{Load as Loads, Halt as Halts}
use Rattle.pins.specs.PortWords.{optional}
use Rattle.window.specs.declared.entry.Entry.{Entry}
use Rattle.window.specs.declared.entry.Source.TheVariants.{Memory}
use Rattle.window.specs.Entries.{given}
use Rattle.window.specs.Newest.{row_source}
use Rattle.window.specs.Machine.{Core, learn, forward}
use Rattle.window.specs.Clocks.{forwards, Port, loads, drains}
use Rattle.window.specs.Fairness.{load_open}
use Rattle.window.proofs.Onward.{More, not_loaded, Onward, move_onward, head_more}
use Rattle.window.proofs.OldestReady.{not_forwarded}
use Rattle.pipeline.specs.declared.stages.Ask.{Ask}
use Rattle.pipeline.specs.declared.stages.Ask.TheVariants.{Load, Device}
use Rattle.pipeline.specs.Stages.{waits_outcome, waits, ask_outcome, ask_of}
use Rattle.pipeline.specs.Step.{store_goes}
use Rattle.pipeline.specs.Schedule.{at_memory, the_entry, ask_port}
use Rattle.pipeline.proofs.OldestLearns.{at_oldest}

abbrev pub memory_stage : Core → Core
memory_stage k = learn forward (at_memory k) k

abbrev pub memory_ask : Core → Option Ask
memory_ask k = ask_of (at_memory k) (the_entry (memory_stage k) (at_memory k))

pub memory_onward : (k : Core) → Onward k (memory_stage k)
memory_onward k = move_onward (forwards (at_memory k)) k refl

-- e is the oldest before the stage, d after it
module _ (k : Core) (e d : Entry) (es ds : List Entry) (we : k.window ≡ e ∷ es) (wd : (memory_stage k).window ≡ d ∷ ds) where
  more : More e d
  more = head_more k.window (memory_stage k).window e d es ds we wd (memory_onward k).window

  module _ (o : Outcome) (eo : e.outcome ≡ Some o) (w : waits_outcome (load_open 0 k) e o ≡ true) where
    at : at_memory k ≡ 0
    at = at_oldest (λ n e. waits (load_open n k) e) k.window e es we (ap (λ q. given q true (waits_outcome (load_open 0 k) e)) eo ∙ w)

    asks : memory_ask k ≡ ask_outcome 0 d o
    asks =
        ap (λ n. ask_of n (the_entry (memory_stage k) n)) at ∙ ap (λ (w : List Entry). ask_of 0 (optional (nth w 0))) wd
        ∙ ap (λ q. given q None (ask_outcome 0 d)) (more.outcome o eo)

  -- a device is read
  pub asks_device_read : (r : Reg) (b : ℕ) → e.outcome ≡ Some (Loads r b) → device b ≡ true → memory_ask k ≡ Some Device
  asks_device_read r b eo dv =
      asks (Loads r b) eo (ap (λ t. pick t true (given e.loaded (not (load_open 0 k)) (λ _. false))) dv)
      ∙ ap (λ t. pick t (Some Device) (given d.loaded (Some (Load 0)) (λ _. None))) dv

  -- a halt asks for nothing, and nothing younger does
  pub halt_asks : (h : Stop) → e.outcome ≡ Some (Halts h) → memory_ask k ≡ None
  halt_asks h eo = asks (Halts h) eo refl

  -- a load without its word, and not asked for yet, is not with a waiting store, and is asked for
  module _ (r : Reg) (b : ℕ) (eo : e.outcome ≡ Some (Loads r b)) (dv : device b ≡ false) (unasked : load_open 0 k ≡ false) (dl : d.loaded ≡ None) where
    load_waits : waits_outcome (load_open 0 k) e (Loads r b) ≡ true
    load_waits =
        ap (λ t. pick t true (given e.loaded (not (load_open 0 k)) (λ _. false))) dv
        ∙ (λ i. given (not_loaded e d more dl i) (not (unasked i)) (λ _. false))

    pub asks_load : memory_ask k ≡ Some (Load 0)
    asks_load =
        asks (Loads r b) eo load_waits ∙ ap (λ t. pick t (Some Device) (given d.loaded (Some (Load 0)) (λ _. None))) dv
        ∙ ap (λ g. given g (Some (Load 0)) (λ _. None)) dl

    pub not_in_stores : row_source (b / 4) Memory k.stores ≡ Memory
    not_in_stores =
        let w0 : (learn forward 0 k).window ≡ d ∷ ds = ap (λ n. (learn forward n k).window) (sym (at (Loads r b) eo load_waits)) ∙ wd in
        not_forwarded k e es r b we eo dv d ds w0 dl

-- the port, by whose turn it is, how many stores wait, and what is asked
abbrev pub port_for : Bool → ℕ → Option Ask → Port
port_for t c a = pick (store_goes t c a) drains (ask_port a)

-- with stores waiting one goes, unless it is a load's turn
pub goes_or_loads : (t : Bool) (c : ℕ) (a : Option Ask) → 0 < c → (store_goes t c a ≡ true) ⊎ (t ≡ false)
goes_or_loads t c None h = inl (lt-ltb 0 c h)
goes_or_loads true c (Some (Load n)) h = inl (ap (λ b. b && true) (lt-ltb 0 c h))
goes_or_loads false c (Some (Load n)) h = inr refl
goes_or_loads t c (Some Device) h = inl (lt-ltb 0 c h)

-- a full buffer goes first
pub goes_full : (t : Bool) (c : ℕ) (a : Option Ask) → 8 ≤ c → store_goes t c a ≡ true
goes_full t c None h = lt-ltb 0 c (omega arith)
goes_full true c (Some (Load n)) h = ap (λ b. b && true) (lt-ltb 0 c (omega arith))
goes_full false c (Some (Load n)) h = λ i. lt-ltb 0 c (omega arith) i && le-leb 8 c h i
goes_full t c (Some Device) h = lt-ltb 0 c (omega arith)

pub load_port : (t : Bool) (c : ℕ) → (port_for t c (Some (Load 0)) ≡ loads 0) ⊎ ((port_for t c (Some (Load 0)) ≡ drains) × (0 < c))
load_port t c = by (ltb 0 c) refl (t || leb 8 c)
  where
    by : (a : Bool) → ltb 0 c ≡ a → (b : Bool) → (pick (a && b) drains (loads 0) ≡ loads 0) ⊎ ((pick (a && b) drains (loads 0) ≡ drains) × (0 < c))
    by true q true = inr (refl, ltb-true 0 c q)
    by true q false = inl refl
    by false q b = inl refl
