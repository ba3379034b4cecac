-- Where a core can come: a history of two parts goes through a state between them.
use Rattle.std.proofs.Common.{ℕ, [], ◌∷◌, ◌++◌, subst, append_assoc, append-nil}
use Rattle.isa.specs.Manual.{Code, Mem}
use Rattle.pins.specs.Ports.{In}
use Rattle.pins.specs.Outside.{Io, Hist, RightIn}
use Rattle.pins.specs.Reach.{Mealy, clock_io, Reach, started, clocked, Trail, arrived, passed, Through, ReachLaws}

module _ {State : Type 0} {k : Mealy State} {c : Code} {m : Mem} where
  -- one clock more at the end of a trail
  trail_clock : {h g : Hist} {s t : State} (i : In) → Trail k c m h s g t → RightIn c m (h ++ g) i
      → Trail k c m h s (g ++ (clock_io k t i ∷ [])) (k.next t i)
  trail_clock i arrived r = passed i (rw append-nil at r) arrived
  trail_clock {h} i (passed {g = g} {s = s} j q p) r = passed j q (trail_clock i p (rw append_assoc r))

  reach_trail : {a : ℕ} {h : Hist} {s : State} → Reach k c m a h s → Trail k c m [] (k.first a) h s
  reach_trail started = arrived
  reach_trail (clocked i p r) = trail_clock i (reach_trail p) r

  split : (a : ℕ) (b : Hist) (s : State) (h g : Hist) (t : State) → Reach k c m a b s → Trail k c m b s (h ++ g) t → Through k c m a (b ++ h) g t
  split a b s [] g t p q = record { between = s; reach = rw append-nil p; trail = rw append-nil q }
  split a b s (x ∷ h) g t p q = by s x p q (λ b s p q. split a b s h g t p q)
    where
      by : (s : State) (x : Io) → Reach k c m a b s → Trail k c m b s (x ∷ (h ++ g)) t
          → ((b : Hist) (s : State) → Reach k c m a b s → Trail k c m b s (h ++ g) t → Through k c m a (b ++ h) g t)
          → Through k c m a (b ++ (x ∷ h)) g t
      by s x p (passed i r q) rest = subst (λ z. Through k c m a z g t) (append_assoc b (clock_io k s i ∷ []) h) (rest _ _ (clocked i p r) q)

  join : {a : ℕ} {h g : Hist} {s t : State} → Reach k c m a h s → Trail k c m h s g t → Reach k c m a (h ++ g) t
  join p arrived = rw append-nil p
  join {a} {h} p (passed {g = g} {s = s} {t = t} i r q) = subst (λ z. Reach k c m a z t) (append_assoc h (clock_io k s i ∷ []) g) (join (clocked i p r) q)

pub reach_laws : (State : Type 0) → ReachLaws State
reach_laws State = record {
  through = λ {k} {c} {m} {a} h g {t} p. split a [] (k.first a) h g t started (reach_trail p);
  join = λ p q. join p q;
}
