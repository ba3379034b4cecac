-- A core whose ranks fall goes on.
use Rattle.std.proofs.Common.{◌≡◌, ℕ, zero, suc, ◌+◌, ◌*◌, ◌<◌, ◌≤◌, Bool, true, false, ◌⊎◌, List, [], ◌∷◌, ◌++◌, length, sym, refl, ap, ◌∙◌, subst, inl, inr, append_assoc, append-nil, mul-le-mul_right, arith, length-append}
use mathlib.Core.Option.{some, none, Option as Opt}
use Rattle.isa.specs.Words.{pick}
use Rattle.isa.specs.Manual.{Code, Mem, Ret, device, asks}
use Rattle.pins.specs.Ports.{In, Req, reads, writes1}
use Rattle.pins.specs.Outside.{Io, Hist, O, outside, RightIn, Prompt, rets, ev_of, evs, stopped}
use Rattle.pins.specs.Says.{here}
use Rattle.pins.specs.Waits.{Calm}
use Rattle.pins.specs.Reach.{Mealy, clock_io, Reach, clocked, Trail, arrived, passed}
use Rattle.pins.specs.Progress.{Point, around, Clock, next_state, next_around, effects_shown, Retires, Drains, DrainsEach, rank_each, ProgressLaws}
use Rattle.pins.proofs.Histories.{history_laws}
use Rattle.pins.proofs.Waiting.{wait_laws}
use Rattle.pins.proofs.Reaching.{reach_laws}

nil_left : {A : Type 0} (xs ys : List A) → xs ++ ys ≡ [] → xs ≡ []
nil_left [] ys e = refl
nil_left (x ∷ xs) ys e = let z : ◌≡◌ {A = ℕ} 0 1 = cc in absurd (omega arith)

nil_right : {A : Type 0} (xs ys : List A) → xs ++ ys ≡ [] → ys ≡ []
nil_right [] ys e = e
nil_right (x ∷ xs) ys e = let z : ◌≡◌ {A = ℕ} 0 1 = cc in absurd (omega arith)

some_none : {A : Type 0} {x : A} {y : Opt A} → y ≡ some x → y ≡ none → ⊥
some_none p q = let z : ◌≡◌ {A = ℕ} 0 1 = cc in omega arith

-- a clock shows at most one effect
one_effect : (r : Opt Req) → length (ev_of r) ≤ 1
one_effect none = omega arith
one_effect (some (reads a)) = by (device a)
  where
    by : (b : Bool) → length (pick b (asks a ∷ []) []) ≤ 1
    by true = omega arith
    by false = omega arith
one_effect (some (writes1 a x)) = omega arith

prompt_next : (l : ℕ) (m : Mem) (h : Hist) (x : Io) (g : Hist) → Prompt l m (h ++ (x ∷ g)) → Prompt l m ((h ++ (x ∷ [])) ++ g)
prompt_next l m h x g p = rw append_assoc p

module _ {State : Type 0} {k : Mealy State} {c : Code} {m : Mem} {a : ℕ} (l : ℕ) where
  -- where a trail begins over which answers come within l, and its first clock
  abbrev point : (h g : Hist) (s : State) → Reach k c m a h s → Prompt l m (h ++ g) → Point k l
  point h g s p y = record { code = c; mem = m; start = a; hist = h; state = s; reach = p; calm = wait_laws.calm l m h g y }

  abbrev clock : (h g : Hist) (s : State) (i : In) → Reach k c m a h s → RightIn c m h i → Prompt l m (h ++ (clock_io k s i ∷ g)) → Clock k l
  clock h g s i p r y =
      let x = clock_io k s i in
      record {
        at = point h (x ∷ g) s p y;
        answers = i;
        allowed = r;
        calm = subst (Calm l) (history_laws.outside_clock m h x) (wait_laws.calm l m (h ++ (x ∷ [])) g (prompt_next l m h x g y));
      }

  module _ (rank : ℕ → State → O → ℕ) (v : Retires k rank) where
    stop_stays : {h g : Hist} {s t : State} → Reach k c m a h s → Trail k c m h s g t → Prompt l m (h ++ g) → (j : ℕ) → stopped h ≡ some j
        → (n : ℕ) × (stopped (h ++ g) ≡ some n)
    stop_stays p arrived y j e = (j, rw append-nil e)
    stop_stays {h} p (passed {g = g} {s = s} i r q) y j e =
        let x = clock_io k s i in
        let n = v.stays (clock h g s i p r y) j e in
        let f = stop_stays (clocked i p r) q (prompt_next l m h x g y) n.0 (history_laws.stopped_clock h x ∙ n.1) in
        rw append_assoc at f

    -- while nothing is retired and it has not stopped, no more clocks go by than the rank
    quiet : {h g : Hist} {s t : State} → Reach k c m a h s → Trail k c m h s g t → Prompt l m (h ++ g) → rets g ≡ [] → stopped (h ++ g) ≡ none
        → length g ≤ rank l s (outside m h)
    quiet p arrived y e f = omega arith
    quiet {h} p (passed {g = g} {s = s} i r q) y e f =
        let x = clock_io k s i in
        let fall = v.falls (clock h g s i p r y) (nil_left x.out1.rets (rets g) e) (by (k.out s i).stopped refl) in
        let rest = quiet (clocked i p r) q (prompt_next l m h x g y) (nil_right x.out1.rets (rets g) e) (rw append_assoc f) in
        omega (arith, ap (rank l (k.next s i)) (history_laws.outside_clock m h x))
      where
        by : (o : Opt ℕ) → (k.out s i).stopped ≡ o → (k.out s i).stopped ≡ none
        by none d = d
        by (some j) d =
            let x = clock_io k s i in
            let n = stop_stays (clocked i p r) q (prompt_next l m h x g y) j (history_laws.stopped_clock h x ∙ d) in
            absurd (some_none (rw append_assoc at n.1) f)

    first_half : (h g : Hist) {t : State} → Reach k c m a (h ++ g) t → Prompt l m (h ++ g) → 64 + 16 * l ≤ length g
        → (length (rets h) < length (rets (h ++ g))) ⊎ ((j : ℕ) × (stopped (h ++ g) ≡ some j))
    first_half h g p y long = by (rets g) refl (stopped (h ++ g)) refl
      where
        by : (rs : List Ret) → rets g ≡ rs → (o : Opt ℕ) → stopped (h ++ g) ≡ o
            → (length (rets h) < length (rets (h ++ g))) ⊎ ((j : ℕ) × (stopped (h ++ g) ≡ some j))
        by (r ∷ rs) e o f =
            let n = ap length (history_laws.rets_append h g) ∙ length-append (rets h) (rets g) in
            let u = ap length e in
            inl (omega arith)
        by [] e (some j) f = inr (j, f)
        by [] e none f =
            let b = (reach_laws State).through h g p in
            let n = quiet b.reach b.trail y e f in
            let w = v.bounded (point h g b.between b.reach y) in
            absurd (omega arith)

  module _ (owed : State → ℕ) (rank : ℕ → State → O → ℕ → ℕ) (v : Drains k owed rank) where
    -- the first j of what is owed are shown within their rank
    drained : {h g : Hist} {s t : State} → Reach k c m a h s → Trail k c m h s g t → Prompt l m (h ++ g) → (j : ℕ)
        → j ≤ owed s → rank l s (outside m h) j < length g → j ≤ length (evs g)
    drained p q y zero n f = omega arith
    drained p arrived y (suc j) n f = absurd (omega arith)
    drained {h} p (passed {g = g} {s = s} i r q) y (suc j) n f =
        by (λ j n f. drained (clocked i p r) q (prompt_next l m h (clock_io k s i) g y) j n f) (length (ev_of (k.out s i).data1)) refl j n f
      where
        x : Clock k l
        x = clock h g s i p r y

        by : ((j : ℕ) → j ≤ owed (k.next s i) → rank l (k.next s i) (outside m (h ++ (clock_io k s i ∷ []))) j < length g → j ≤ length (evs g))
            → (n : ℕ) → effects_shown x ≡ n → (j : ℕ) → suc j ≤ owed s → rank l s (outside m h) (suc j) < suc (length g)
            → suc j ≤ length (ev_of (k.out s i).data1 ++ evs g)
        by rest zero e j n f =
            let fall = v.waits x (suc j) (omega arith) n e in
            let kept = v.owes.kept x in
            let all = rest (suc j) (omega arith) (rw (history_laws.outside_clock m h (clock_io k s i)) (omega arith)) in
            rw length-append (omega arith)
        by rest (suc z) e zero n f = rw length-append (omega arith)
        by rest (suc z) e (suc j) n f =
            let one = one_effect (k.out s i).data1 in
            let fall = v.shows x (suc j) (omega arith) n (omega arith) in
            let kept = v.owes.kept x in
            let all = rest (suc j) (omega arith) (rw (history_laws.outside_clock m h (clock_io k s i)) (omega arith)) in
            rw length-append (omega arith)

    second_half : (h g : Hist) {t : State} → Reach k c m a (h ++ g) t → Prompt l m (h ++ g) → 64 + 16 * l ≤ length g
        → length (here c m a h).evs ≤ length (evs (h ++ g))
    second_half h g p y long =
        let b = (reach_laws State).through h g p in
        let z = point h g b.between b.reach y in
        let w = v.bounded z (owed b.between) (omega arith) in
        let all = drained b.reach b.trail y (owed b.between) (omega arith) (omega arith) in
        let d = v.owes.behind z in
        rw (history_laws.evs_append h g, length-append (evs h) (evs g)) (omega arith)

-- the simpler form is the general one, with a rank that gives each its full time
module _ {State : Type 0} {k : Mealy State} {owed : State → ℕ} {rank : ℕ → State → O → ℕ} (v : DrainsEach k owed rank) where
  each_bounded : {l : ℕ} (p : Point k l) (j : ℕ) → j ≤ owed p.state → rank_each rank l p.state (around p) j ≤ 63 + 16 * l
  each_bounded p zero n = omega arith
  each_bounded {l} p (suc j) n =
      let b = v.bounded p in
      let f = v.few p in
      let u : j ≤ 7 = omega arith in
      omega (arith, mul-le-mul_right (8 + 2 * l) u)

  each_waits : {l : ℕ} (x : Clock k l) (j : ℕ) → 0 < j → j ≤ owed x.at.state → effects_shown x ≡ 0
      → rank_each rank l (next_state x) (next_around x) j < rank_each rank l x.at.state (around x.at) j
  each_waits x zero z n e = absurd (omega arith)
  each_waits x (suc j) z n e = let f = v.waits x (omega arith) e in omega arith

  next_bounded : {l : ℕ} (x : Clock k l) → rank l (next_state x) (next_around x) ≤ 7 + 2 * l
  next_bounded {l} x =
      let z = x.at in
      let io = clock_io k z.state x.answers in
      let o = history_laws.outside_clock z.mem z.hist io in
      let p : Point k l = record {
        code = z.code;
        mem = z.mem;
        start = z.start;
        hist = z.hist ++ (io ∷ []);
        state = next_state x;
        reach = clocked x.answers z.reach x.allowed;
        calm = subst (Calm l) (sym o) x.calm;
      } in
      subst (λ q. rank l (next_state x) q ≤ 7 + 2 * l) o (v.bounded p)

  each_shows : {l : ℕ} (x : Clock k l) (j : ℕ) → 0 < j → suc j ≤ owed x.at.state → effects_shown x ≡ 1
      → rank_each rank l (next_state x) (next_around x) j < rank_each rank l x.at.state (around x.at) (suc j)
  each_shows x zero z n e = absurd (omega arith)
  each_shows x (suc j) z n e = let b = next_bounded x in omega arith

  each : Drains k owed (rank_each rank)
  each = record {
    owes = v.owes;
    bounded = λ p j n. each_bounded p j n;
    waits = λ x j z n e. each_waits x j z n e;
    shows = λ x j z n e. each_shows x j z n e;
  }

pub progress_laws : (State : Type 0) → ProgressLaws State
progress_laws State = record {
  goes_on = λ k decode rank owed drain_rank u v c m a l h g w (t, e, p) y long.
      (first_half l rank u h g p y long, second_half l owed drain_rank v h g p y long);
  each = λ k owed rank v. each v;
}
