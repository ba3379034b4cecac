-- What the outside and the ports stand at, in the middle of a clock too.
use Rattle.std.specs.Prelude.{◌≡◌, ℕ, suc, ◌+◌, ◌/◌, ◌<◌, ◌≤◌, false, List, [], ◌∷◌, ◌++◌, map, length}
use Rattle.std.proofs.Math.Option.{Option, some, none}
use Rattle.isa.specs.Manual.{Code, Mem, device, Ret, Ev, stops, Run, run}
use Rattle.pins.specs.Ports.{In, Out, Req, reads, writes1}
use Rattle.pins.specs.Outside.{Io, Hist, Want, Wish, outside, mem_by, told_by, IsWord, RightIn, rets, ev_of, evs, stopped}
use Rattle.pins.specs.Says.{Front, first, Right}

pub record View : Type 0 where
  -- addresses of code that are wanted, and requests, not answered yet, oldest first
  pub codes : List ℕ
  pub datas : List Req
  -- data memory as far as requests were answered, and what devices answered
  pub mem : Mem
  pub told : List ℕ
  -- the instructions that are done, and what was asked of the outside
  pub rets : List Ret
  pub evs : List Ev
  -- what the last clock showed of stopping
  pub stopped : Option ℕ

-- a history's view: the outside without its ages, and what the ports have shown
abbrev pub addrs : List Want → List ℕ
addrs ws = map (λ w. w.addr) ws

abbrev pub reqs : List Wish → List Req
reqs ws = map (λ w. w.req) ws

abbrev pub view : Mem → Hist → View
view m h = record {
  codes = addrs (outside m h).codes;
  datas = reqs (outside m h).datas;
  mem = (outside m h).mem;
  told = (outside m h).told;
  rets = rets h;
  evs = evs h;
  stopped = stopped h;
}

-- queues: an answer takes the oldest away, what is asked for stands behind
abbrev pub pop : {A : Type 0} → Option ℕ → List A → List A
pop none q = q
pop (some x) [] = []
pop (some x) (y ∷ q) = q

abbrev pub push : {A : Type 0} → Option A → List A → List A
push none q = q
push (some y) q = q ++ (y ∷ [])

-- memory, and what devices have told, with the answer to the oldest request
abbrev pub mem_then : Option ℕ → List Req → Mem → Mem
mem_then none q m = m
mem_then (some x) [] m = m
mem_then (some x) (r ∷ q) m = mem_by m r

abbrev pub told_then : Option ℕ → List Req → List ℕ → List ℕ
told_then none q ts = ts
told_then (some x) [] ts = ts
told_then (some x) (r ∷ q) ts = told_by ts r x

-- effects with one request more, traces with some more, one by one
abbrev pub evs_then : Option Req → List Ev → List Ev
evs_then none es = es
evs_then (some r) es = es ++ ev_of (some r)

abbrev pub rets_then : List Ret → List Ret → List Ret
rets_then [] rs = rs
rets_then (t ∷ ts) rs = rets_then ts (rs ++ (t ∷ []))

-- what a rule of a clock does to the view: each changes its own fields, so that they go in any order
abbrev pub take_code : Option ℕ → View → View
take_code x v = record {
  codes = pop x v.codes;
  datas = v.datas;
  mem = v.mem;
  told = v.told;
  rets = v.rets;
  evs = v.evs;
  stopped = v.stopped;
}

abbrev pub take_data : Option ℕ → View → View
take_data x v = record {
  codes = v.codes;
  datas = pop x v.datas;
  mem = mem_then x v.datas v.mem;
  told = told_then x v.datas v.told;
  rets = v.rets;
  evs = v.evs;
  stopped = v.stopped;
}

abbrev pub want_code : Option ℕ → View → View
want_code a v = record {
  codes = push a v.codes;
  datas = v.datas;
  mem = v.mem;
  told = v.told;
  rets = v.rets;
  evs = v.evs;
  stopped = v.stopped;
}

abbrev pub ask_data : Option Req → View → View
ask_data r v = record {
  codes = v.codes;
  datas = push r v.datas;
  mem = v.mem;
  told = v.told;
  rets = v.rets;
  evs = evs_then r v.evs;
  stopped = v.stopped;
}

abbrev pub retire : List Ret → View → View
retire ts v = record {
  codes = v.codes;
  datas = v.datas;
  mem = v.mem;
  told = v.told;
  rets = rets_then ts v.rets;
  evs = v.evs;
  stopped = v.stopped;
}

abbrev pub show_stop : Option ℕ → View → View
show_stop k v = record {
  codes = v.codes;
  datas = v.datas;
  mem = v.mem;
  told = v.told;
  rets = v.rets;
  evs = v.evs;
  stopped = k;
}

-- a clock: its answers are taken in, then what it shows is added
abbrev pub take_in : In → View → View
take_in i v = take_data i.data1 (take_code i.code v)

abbrev pub add_out : Out → View → View
add_out o v = show_stop o.stopped (want_code o.code (ask_data o.data1 (retire o.rets v)))

abbrev pub clock_view : Io → View → View
clock_view x v = add_out x.out1 (take_in x.in1 v)

-- the answers that are allowed at a view
abbrev pub CodeAllowed : Code → Option ℕ → List ℕ → Type 0
CodeAllowed c none q = Unit {0}
CodeAllowed c (some x) [] = ⊥
CodeAllowed c (some x) (a ∷ q) = x ≡ c (a / 4)

abbrev pub ReadAllowed : Mem → Req → ℕ → Type 0
ReadAllowed m (reads a) x = device a ≡ false → x ≡ m (a / 4)
ReadAllowed m (writes1 a y) x = Unit {0}

abbrev pub DataAllowed : Mem → Option ℕ → List Req → Type 0
DataAllowed m none q = Unit {0}
DataAllowed m (some x) [] = ⊥
DataAllowed m (some x) (r ∷ q) = IsWord x × ReadAllowed m r x

pub record Allowed (c : Code) (v : View) (i : In) : Type 0 where
  pub code : CodeAllowed c i.code v.codes
  pub data1 : DataAllowed v.mem i.data1 v.datas

-- how many
abbrev pub ones : {A : Type 0} → Option A → ℕ
ones none = 0
ones (some x) = 1

-- `Right`, said of a view
abbrev pub run_at : Code → Mem → ℕ → View → Run
run_at c m a v = run c (first a m v.told) (length v.rets)

pub record RightView (c : Code) (m : Mem) (a : ℕ) (v : View) : Type 0 where
  pub done : v.rets ≡ (run_at c m a v).rets
  pub asked : (xs : List ℕ) × Front v.evs (run c (first a m (v.told ++ xs)) (suc (length v.rets))).evs
  pub behind : length (run_at c m a v).evs ≤ length v.evs + 8
  pub stop : (k : ℕ)
      → v.stopped ≡ some k
      → (k < 3) × ((run c (first a m v.told) (suc (length v.rets))).is ≡ stops k) × (v.evs ≡ (run_at c m a v).evs)
  pub few_codes : length v.codes ≤ 4
  pub few_datas : length v.datas ≤ 4

pub record ViewLaws : Type 0 where
  pub at_start : (m : Mem) → view m [] ≡ record { codes = []; datas = []; mem = m; told = []; rets = []; evs = []; stopped = none }
  pub one_clock : (m : Mem) (h : Hist) (x : Io) → view m (h ++ (x ∷ [])) ≡ clock_view x (view m h)
  -- what is allowed after a history is allowed at its view, and a view that is right is that of a right history
  pub allowed : {c : Code} {m : Mem} {h : Hist} {i : In} → RightIn c m h i → Allowed c (view m h) i
  pub right : {c : Code} {m : Mem} {a : ℕ} {h : Hist} → RightView c m a (view m h) → Right c m a h
  -- how many are open: an answer is one less, a request one more
  pub codes_answered : {c : Code} {v : View} {i : In} → Allowed c v i → ones i.code + length (take_in i v).codes ≡ length v.codes
  pub datas_answered : {c : Code} {v : View} {i : In} → Allowed c v i → ones i.data1 + length (take_in i v).datas ≡ length v.datas
  pub codes_asked : (o : Out) (v : View) → length (add_out o v).codes ≡ length v.codes + ones o.code
  pub datas_asked : (o : Out) (v : View) → length (add_out o v).datas ≡ length v.datas + ones o.data1
