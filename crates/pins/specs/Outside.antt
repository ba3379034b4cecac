-- The outside: memories and devices that answer in order, after any time.
use Rattle.std.specs.Prelude.{◌≡◌, ℕ, ◌+◌, ◌/◌, ◌<◌, Bool, true, false, ◌&&◌, List, [], ◌∷◌, ◌++◌, nat_le}
use Rattle.std.proofs.Math.Option.{Option, some, none}
use Rattle.isa.specs.Words.{pick}
use Rattle.isa.specs.Manual.{Code, Mem, store, device, Ret, Ev, writes, asks}
use Rattle.pins.specs.Ports.{In, Out, Req, reads, writes1}

pub record Io : Type 0 where
  pub in1 : In
  pub out1 : Out

abbrev pub Hist : Type 0
Hist = List Io

-- what is wanted and not yet answered, oldest first, with how many clocks it has waited; data memory as far as requests were answered; what devices answered, in order
pub record Want : Type 0 where
  pub addr : ℕ
  pub age : ℕ

pub record Wish : Type 0 where
  pub req : Req
  pub age : ℕ

pub record O : Type 0 where
  pub codes : List Want
  pub datas : List Wish
  pub mem : Mem
  pub told : List ℕ

abbrev pub begin : Mem → O
begin m = record { codes = []; datas = []; mem = m; told = [] }

abbrev pub older : List Want → List Want
older [] = []
older (w ∷ ws) = record { addr = w.addr; age = w.age + 1 } ∷ older ws

abbrev pub older1 : List Wish → List Wish
older1 [] = []
older1 (w ∷ ws) = record { req = w.req; age = w.age + 1 } ∷ older1 ws

-- a read of a device takes what is answered; other reads are answered by memory, writes with any word
abbrev pub mem_by : Mem → Req → Mem
mem_by m (reads a) = m
mem_by m (writes1 a x) = pick (device a) m (store m (a / 4) x)

abbrev pub told_by : List ℕ → Req → ℕ → List ℕ
told_by ts (reads a) x = pick (device a) (ts ++ (x ∷ [])) ts
told_by ts (writes1 a y) x = ts

-- answers of this clock, to what was wanted before it
abbrev pub code_by : Option ℕ → List Want → List Want
code_by none ws = ws
code_by (some x) [] = []
code_by (some x) (w ∷ ws) = ws

abbrev pub data_by : Option ℕ → List Wish → O → O
data_by none ws o = o
data_by (some x) [] o = o
data_by (some x) (w ∷ ws) o = record { codes = o.codes; datas = ws; mem = mem_by o.mem w.req; told = told_by o.told w.req x }

abbrev pub wanted : Option ℕ → List Want → List Want
wanted none ws = ws
wanted (some a) ws = ws ++ (record { addr = a; age = 0 } ∷ [])

abbrev pub wished : Option Req → List Wish → List Wish
wished none ws = ws
wished (some r) ws = ws ++ (record { req = r; age = 0 } ∷ [])

abbrev pub answered : O → In → O
answered o i = data_by i.data1 o.datas (record { codes = code_by i.code o.codes; datas = o.datas; mem = o.mem; told = o.told })

abbrev pub after : O → Io → O
after o io = go (answered o io.in1) io.out1
  where
    go : O → Out → O
    go p u = record { codes = wanted u.code (older p.codes); datas = wished u.data1 (older1 p.datas); mem = p.mem; told = p.told }

abbrev pub onward : O → Hist → O
onward o [] = o
onward o (x ∷ xs) = onward (after o x) xs

abbrev pub outside : Mem → Hist → O
outside m h = onward (begin m) h

-- (Where data at first, or code, are no words there's no right answer, and the history ends.)
-- this clock's answers are right: of code what stands there, of data what memory holds, of devices any word; and none comes unasked
abbrev pub IsWord : ℕ → Type 0
IsWord x = x < 4294967296

abbrev pub CodeRight : Code → Option ℕ → List Want → Type 0
CodeRight c none ws = Unit {0}
CodeRight c (some x) [] = ⊥
CodeRight c (some x) (w ∷ ws) = x ≡ c (w.addr / 4)

abbrev pub ReadRight : O → Req → ℕ → Type 0
ReadRight o (reads a) x = device a ≡ false → x ≡ o.mem (a / 4)
ReadRight o (writes1 a y) x = Unit {0}

abbrev pub DataRight : O → Option ℕ → List Wish → Type 0
DataRight o none ws = Unit {0}
DataRight o (some x) [] = ⊥
DataRight o (some x) (w ∷ ws) = IsWord x × ReadRight o w.req x

pub record RightIn (c : Code) (m : Mem) (h : Hist) (i : In) : Type 0 where
  pub code : CodeRight c i.code (outside m h).codes
  pub data1 : DataRight (outside m h) i.data1 (outside m h).datas

-- nothing has waited for more than n clocks
abbrev pub young : ℕ → List Want → Bool
young n [] = true
young n (w ∷ ws) = nat_le w.age n && young n ws

abbrev pub young1 : ℕ → List Wish → Bool
young1 n [] = true
young1 n (w ∷ ws) = nat_le w.age n && young1 n ws

abbrev pub Prompt : ℕ → Mem → Hist → Type 0
Prompt n m h = (a b : Hist) → h ≡ a ++ b → (young n (outside m a).codes ≡ true) × (young1 n (outside m a).datas ≡ true)

-- what the ports have shown: instructions that are done, and what was done to the outside
abbrev pub rets : Hist → List Ret
rets [] = []
rets (x ∷ xs) = x.out1.rets ++ rets xs

abbrev pub ev_of : Option Req → List Ev
ev_of none = []
ev_of (some (reads a)) = pick (device a) (asks a ∷ []) []
ev_of (some (writes1 a x)) = writes a x ∷ []

abbrev pub evs : Hist → List Ev
evs [] = []
evs (x ∷ xs) = ev_of x.out1.data1 ++ evs xs

abbrev pub stopped : Hist → Option ℕ
stopped [] = none
stopped (x ∷ []) = x.out1.stopped
stopped (x ∷ y ∷ xs) = stopped (y ∷ xs)
