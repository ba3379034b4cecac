-- An invariant that each clock keeps holds wherever the core can come.
use Rattle.std.proofs.Common.{ℕ, sym, subst}
use Rattle.isa.specs.Manual.{Code, Mem}
use Rattle.pins.specs.Outside.{Hist}
use Rattle.pins.specs.View.{View, view}
use Rattle.pins.specs.Reach.{Mealy, clock_io, Reach, started, clocked, Invariant, InvariantLaws}
use Rattle.pins.proofs.ViewClock.{view_laws}

module _ {State : Type 0} {k : Mealy State} {Inv : Code → Mem → ℕ → State → View → Type 0} (v : Invariant k Inv) where
  holds : {c : Code} {m : Mem} {a : ℕ} {h : Hist} {s : State} → Reach k c m a h s → Inv c m a s (view m h)
  holds {c} {m} {a} started = v.starts c m a
  holds {c} {m} {a} (clocked {h} {s} i p r) =
      subst (Inv c m a (k.next s i)) (sym (view_laws.one_clock m h (clock_io k s i))) (v.kept c m a s (view m h) i (view_laws.allowed r) (holds p))

  pub invariant_laws : InvariantLaws k Inv
  invariant_laws = record {
    holds = λ p. holds p;
    always_right = λ decode c m a h w (s, e, p). view_laws.right (v.right c m a s (view m h) (holds p));
  }
