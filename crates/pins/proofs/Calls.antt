-- What the public calls have to show of their words.
use Rattle.std.proofs.Common.{◌≡◌, ℕ, List, [], ◌∷◌, ◌++◌, Some, None, Option, sym, subst, arith}
use Rattle.isa.specs.Manual.{Code, Mem}
use Rattle.pins.specs.Outside.{Io, Hist, RightIn}
use Rattle.pins.specs.Reach.{Mealy, clock_io, Reach, started, clocked, Stands, CallLaws}

module _ {State : Type 0} where
  one_state : (o : Option State) {s t : State} → o ≡ Some s → o ≡ Some t → s ≡ t
  one_state o p q = cc

  no_state : (o : Option State) {s : State} → o ≡ Some s → o ≡ None → ⊥
  no_state o p q = let z : ◌≡◌ {A = ℕ} 0 1 = cc in omega arith

  one_clock : (k : Mealy State) (decode : List ℕ → Option State) (w w' : List ℕ) (x : Io) (s : State)
      → decode w ≡ Some s → decode w' ≡ Some (k.next s x.in1) → x.out1 ≡ k.out s x.in1
      → (c : Code) (m : Mem) (a : ℕ) (h : Hist) → Stands k decode c m a h w → RightIn c m h x.in1 → Stands k decode c m a (h ++ (x ∷ [])) w'
  one_clock k decode w w' x s e e' f c m a h (t, d, p) r =
      let q = clocked x.in1 (subst (Reach k c m a h) (one_state (decode w) d e) p) r in
      let g : clock_io k s x.in1 ≡ x = λ i. record { in1 = x.in1; out1 = sym f i } in
      (k.next s x.in1, e', subst (λ z. Reach k c m a (h ++ (z ∷ [])) (k.next s x.in1)) g q)

pub call_laws : (State : Type 0) → CallLaws State
call_laws State = record {
  ready = λ k decode a w w' e c m. (k.first a, e, started);
  done = λ k decode w w' i o o' s n g e e' f. (n, g, one_clock k decode w w' _ s e e' f);
  no_core = λ k decode w w' i o o' e p q. (λ c m a h st. no_state (decode w) st.1 e, p, q);
}
