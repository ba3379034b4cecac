-- What an open request will be answered with is settled when it is asked for.
use Rattle.std.specs.Prelude.{◌≡◌, ℕ, suc, ◌+◌, ◌/◌, List, [], ◌∷◌, ◌++◌, length}
use Rattle.std.proofs.Math.Option.{Option, some, none, map}
use Rattle.isa.specs.Words.{pick}
use Rattle.isa.specs.Manual.{Mem, device}
use Rattle.isa.specs.Traces.{effects, device_reads}
use Rattle.pins.specs.Ports.{Req, reads, writes1}
use Rattle.pins.specs.Outside.{Io, Hist, mem_by, IsWord, evs}
use Rattle.pins.specs.View.{View, view, pop, push, take_data, ask_data, DataAllowed}

-- memory with requests done, oldest first; of a view, memory as it will be when all is answered
abbrev pub flush : Mem → List Req → Mem
flush m [] = m
flush m (r ∷ rs) = flush (mem_by m r) rs

abbrev pub flushed : View → Mem
flushed v = flush v.mem v.datas

abbrev pub mem_with : Mem → Option Req → Mem
mem_with m none = m
mem_with m (some r) = mem_by m r

-- what one request will be answered with: any word, a device's, or that word
pub data Due : Type 0 where
  any_word : Due
  from_device : Due
  that_word : ℕ → Due

abbrev pub due : Mem → Req → Due
due m (reads a) = pick (device a) from_device (that_word (m (a / 4)))
due m (writes1 a x) = any_word

-- of each open request, with the writes before it done
abbrev pub dues_of : Mem → List Req → List Due
dues_of m [] = []
dues_of m (r ∷ rs) = due m r ∷ dues_of (mem_by m r) rs

abbrev pub dues : View → List Due
dues v = dues_of v.mem v.datas

-- what an answer must be, by the oldest due
abbrev pub Meets : Option ℕ → List Due → Type 0
Meets none q = Unit {0}
Meets (some x) [] = ⊥
Meets (some x) (any_word ∷ q) = IsWord x
Meets (some x) (from_device ∷ q) = IsWord x
Meets (some x) (that_word y ∷ q) = IsWord x × (x ≡ y)

-- what it tells of a device
abbrev pub tells : Option ℕ → List Due → List ℕ
tells none q = []
tells (some x) [] = []
tells (some x) (any_word ∷ q) = []
tells (some x) (from_device ∷ q) = x ∷ []
tells (some x) (that_word y ∷ q) = []

-- reads of devices that are open
abbrev pub device_dues : List Due → ℕ
device_dues [] = 0
device_dues (any_word ∷ q) = device_dues q
device_dues (from_device ∷ q) = suc (device_dues q)
device_dues (that_word y ∷ q) = device_dues q

pub record SettledLaws : Type 0 where
  -- an answer takes the oldest due away; a request adds its own, by memory with all before it done; the others stay
  pub answered : (x : Option ℕ) (v : View) → dues (take_data x v) ≡ pop x (dues v)
  pub asked : (r : Option Req) (v : View) → dues (ask_data r v) ≡ push (map (due (flushed v)) r) (dues v)
  pub number : (v : View) → length (dues v) ≡ length v.datas
  -- at the head, the allowed answer is what was due
  pub meets : (x : Option ℕ) (v : View) → DataAllowed v.mem x v.datas → Meets x (dues v)
  -- memory when all is answered changes by requests alone, and is the first memory with the history's effects
  pub flushed_answered : (x : Option ℕ) (v : View) → flushed (take_data x v) ≡ flushed v
  pub flushed_asked : (r : Option Req) (v : View) → flushed (ask_data r v) ≡ mem_with (flushed v) r
  pub flushed_is : (m : Mem) (h : Hist) → flushed (view m h) ≡ effects m (evs h)
  -- what devices have told grows by the answers to reads of devices, in order; with those still open they are all that was asked
  pub told : (x : Option ℕ) (v : View) → (take_data x v).told ≡ v.told ++ tells x (dues v)
  pub told_clock : (m : Mem) (h : Hist) (x : Io) → (view m (h ++ (x ∷ []))).told ≡ (view m h).told ++ tells x.in1.data1 (dues (view m h))
  pub told_count : (m : Mem) (h : Hist) → length (view m h).told + device_dues (dues (view m h)) ≡ device_reads (evs h)
