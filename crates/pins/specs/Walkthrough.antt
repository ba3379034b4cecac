-- One history, clock by clock: a store, and a load of the same word that is asked for before the store is answered.
use Rattle.std.specs.Prelude.{◌≡◌, ℕ, List, [], ◌∷◌, take}
use Rattle.std.proofs.Math.Option.{Option, some, none}
use Rattle.isa.specs.Words.{opt, nth}
use Rattle.isa.specs.Manual.{Code, Mem, Ret, writes}
use Rattle.pins.specs.Ports.{Req, reads, writes1}
use Rattle.pins.specs.Outside.{Io, Hist, outside}
use Rattle.pins.specs.Says.{Right}
use Rattle.pins.specs.View.{View, view}
use Rattle.pins.specs.Settled.{flushed, any_word, that_word, dues}

-- 0 sw x0, 12(x0)    4 lw x5, 12(x0)
abbrev pub code : Code
code = λ n. opt (nth (9763 ∷ 12591747 ∷ []) n) 0 (λ x. x)

-- each word of data is 7 at first
abbrev pub sevens : Mem
sevens = λ n. 7

-- a clock: answers of code and data, code wanted, a request, what is retired
abbrev pub clock : Option ℕ → Option ℕ → Option ℕ → Option Req → List Ret → Io
clock c d w r ts = record { in1 = record { code = c; data1 = d }; out1 = record { code = w; data1 = r; rets = ts; stopped = none } }

abbrev pub stored : Ret
stored = record { pc = 0; reg = 0; val = 0 }

abbrev pub loaded : Ret
loaded = record { pc = 4; reg = 5; val = 0 }

abbrev pub history : Hist
history =
    clock none none (some 0) none []
    ∷ clock (some 9763) none (some 4) none []
    ∷ clock (some 12591747) none none (some (writes1 12 0)) (stored ∷ [])
    ∷ clock none none none (some (reads 12)) []
    ∷ clock none (some 0) none none []
    ∷ clock none (some 0) none none (loaded ∷ [])
    ∷ []

-- the view after n of its clocks
abbrev pub seen : ℕ → View
seen n = view sevens (take n history)

pub record Walked : Type 0 where
  -- what is wanted goes when it is answered
  pub wanted : (seen 1).codes ≡ 0 ∷ []
  pub wanted_next : (seen 2).codes ≡ 4 ∷ []
  pub none_wanted : (seen 3).codes ≡ []
  -- after the fourth clock both requests are open, the write for one clock, and memory has the old word yet
  pub both_open : (outside sevens (take 4 history)).datas ≡ record { req = writes1 12 0; age = 1 } ∷ record { req = reads 12; age = 0 } ∷ []
  pub memory : (seen 4).mem 3 ≡ 7
  -- but what the read will be answered with is settled, by memory with the write done
  pub memory_flushed : flushed (seen 4) 3 ≡ 0
  pub due : dues (seen 4) ≡ any_word ∷ that_word 0 ∷ []
  -- the write's answer changes neither
  pub memory_answered : (seen 5).mem 3 ≡ 0
  pub due_still : dues (seen 5) ≡ that_word 0 ∷ []
  pub flushed_still : flushed (seen 5) 3 ≡ 0
  -- and in the end all is retired as the manual says
  pub retired : (seen 6).rets ≡ stored ∷ loaded ∷ []
  pub effects : (seen 6).evs ≡ writes 12 0 ∷ []
  pub right : Right code sevens 0 history
