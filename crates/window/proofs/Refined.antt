-- A core that refines a machine is right where the machine is, and goes on where it does.
use Rattle.std.proofs.Common.{◌≡◌, ℕ, List, [], ◌∷◌, ◌++◌, Option, sym, ap, subst}
use Rattle.isa.specs.Manual.{Code, Mem}
use Rattle.pins.specs.Ports.{In}
use Rattle.pins.specs.Outside.{Hist, RightIn}
use Rattle.pins.specs.Reach.{Mealy, clock_io, Reach, started, clocked, Stands}
use Rattle.window.specs.Refining.{SameClock, Refines, read_as, RefineLaws, RefinesWith}

module _ {A B : Type 0} (k : Mealy A) (j : Mealy B) (of : A → B) where
  -- one clock more
  more : {c : Code} {m : Mem} {a : ℕ} {h : Hist} {s : A} (i : In) → SameClock k j of s i → Reach j c m a h (of s) → RightIn c m h i
      → Reach j c m a (h ++ (clock_io k s i ∷ [])) (of (k.next s i))
  more {c} {m} {a} {h} {s} i e p r =
      let io : clock_io j (of s) i ≡ clock_io k s i = λ n. record { in1 = i; out1 = sym e.out n } in
      subst (λ z. Reach j c m a (h ++ (clock_io k s i ∷ [])) z) (sym e.next) (subst (λ x. Reach j c m a (h ++ (x ∷ [])) (j.next (of s) i)) io (clocked i p r))

  module _ (v : Refines k j of) where
    reaches : {c : Code} {m : Mem} {a : ℕ} {h : Hist} {s : A} → Reach k c m a h s → Reach j c m a h (of s)
    reaches {c} {m} {a} started = subst (Reach j c m a []) (sym (v.first a)) started
    reaches {c} {m} {a} (clocked {h} {s} i p r) = more i (v.clocks c m a h s i p r) (reaches p) r

    stands : (decode : List ℕ → Option A) {c : Code} {m : Mem} {a : ℕ} {h : Hist} {w : List ℕ} → Stands k decode c m a h w
        → Stands j (λ w. read_as of (decode w)) c m a h w
    stands decode (s, e, p) = (of s, ap (read_as of) e, reaches p)

  -- from what it keeps true of itself
  module _ {Good : A → Type 0} (v : RefinesWith k j of Good) where
    both : {c : Code} {m : Mem} {a : ℕ} {h : Hist} {s : A} → Reach k c m a h s → Reach j c m a h (of s) × Good s
    both {c} {m} {a} started = (subst (Reach j c m a []) (sym (v.first a)) started, v.good_first a)
    both {c} {m} {a} (clocked {h} {s} i p r) = by (both p)
      where
        by : Reach j c m a h (of s) × Good s → Reach j c m a (h ++ (clock_io k s i ∷ [])) (of (k.next s i)) × Good (k.next s i)
        by (q, g) = let n = v.clocks c m a h s i q r g in (more i n.0 q r, n.1)

    pub refines : Refines k j of
    refines = record {
      first = v.first;
      clocks = λ c m a h s i p r. (let b = both p in (v.clocks c m a h s i b.0 r b.1).0);
    }

    pub refines_good : {c : Code} {m : Mem} {a : ℕ} {h : Hist} {s : A} → Reach k c m a h s → Good s
    refines_good p = (both p).1

pub refine_laws : (A B : Type 0) → RefineLaws A B
refine_laws A B = record {
  reaches = λ {k} {j} {of} v p. reaches k j of v p;
  right = λ k j of decode v law c m a h w q. law c m a h w (stands k j of v decode q);
  goes_on = λ k j of decode v law c m a l h g w q prompt long. law c m a l h g w (stands k j of v decode q) prompt long;
}
