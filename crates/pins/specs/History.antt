-- Histories put together: the outside, and what the ports have shown.
use Rattle.std.specs.Prelude.{◌≡◌, [], ◌∷◌, ◌++◌}
use Rattle.isa.specs.Manual.{Mem}
use Rattle.pins.specs.Outside.{Io, Hist, O, after, onward, outside, rets, ev_of, evs, stopped}

pub record HistoryLaws : Type 0 where
  pub onward_append : (o : O) (h g : Hist) → onward o (h ++ g) ≡ onward (onward o h) g
  pub outside_append : (m : Mem) (h g : Hist) → outside m (h ++ g) ≡ onward (outside m h) g
  pub rets_append : (h g : Hist) → rets (h ++ g) ≡ rets h ++ rets g
  pub evs_append : (h g : Hist) → evs (h ++ g) ≡ evs h ++ evs g
  pub stopped_append : (h : Hist) (x : Io) (g : Hist) → stopped (h ++ (x ∷ g)) ≡ stopped (x ∷ g)
  -- one clock more
  pub outside_clock : (m : Mem) (h : Hist) (x : Io) → outside m (h ++ (x ∷ [])) ≡ after (outside m h) x
  pub rets_clock : (h : Hist) (x : Io) → rets (h ++ (x ∷ [])) ≡ rets h ++ x.out1.rets
  pub evs_clock : (h : Hist) (x : Io) → evs (h ++ (x ∷ [])) ≡ evs h ++ ev_of x.out1.data1
  pub stopped_clock : (h : Hist) (x : Io) → stopped (h ++ (x ∷ [])) ≡ x.out1.stopped
