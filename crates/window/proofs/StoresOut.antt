-- What is retired and waits is asked of the outside: how often the port must be free until the first j stores are out.
use Rattle.std.proofs.Common.{◌≡◌, ℕ, zero, suc, ◌+◌, ◌*◌, ◌<◌, ◌≤◌, Bool, true, false, ◌⊎◌, length, refl, ap, ◌∙◌, inl, inr, mul-le-mul_right, arith}
use Rattle.pins.specs.Outside.{O, ev_of}
use Rattle.pins.specs.Waits.{ages1}
use Rattle.pins.specs.Progress.{Point, around, Clock, Owes, Drains}
use Rattle.pins.proofs.Waiting.{wait_laws}
use Rattle.pins.specs.View.{view}
use Rattle.window.specs.Clocks.{drains, room, request_if, Schedule, State, chosen_port, next, machine}
use Rattle.window.specs.Fairness.{FairClock, Fair}
use Rattle.window.proofs.AlwaysRight.{behind}
use Rattle.window.proofs.Slots.{frees, frees_le, frees_48, falling_outside}
use Rattle.window.proofs.AtPort.{drained}
use Rattle.window.proofs.Clocked.{holds, k2, asked, q0, q1, stores2, stores4, one_use, no_room, older}

-- b other uses may come before the first, five before each that follows
abbrev pub uses : ℕ → ℕ → ℕ
uses b zero = 0
uses b (suc j) = j * 6 + b

uses_most : (b j : ℕ) → b ≤ 5 → j ≤ 8 → uses b j ≤ 47
uses_most b zero h i = omega arith
uses_most b (suc j) h i = let f : j ≤ 7 = omega arith in let m = mul-le-mul_right 6 f in omega arith

module _ {T : Type 0} (s : Schedule T) (f : Fair s) where
  abbrev pub owed : State T → ℕ
  owed z = length z.core.stores

  abbrev pub store_rank : ℕ → State T → O → ℕ → ℕ
  store_rank l z o j = frees l (uses (f.turns z) j) (ages1 o.datas)

  owes : Owes (machine s) owed
  owes = record {
    behind = λ p. behind p.code p.mem p.start p.state.core (view p.mem p.hist) (holds s p);
    kept = λ x. stores4 s x;
  }

  bounded : {l : ℕ} (p : Point (machine s) l) (j : ℕ) → j ≤ owed p.state → store_rank l p.state (around p) j ≤ 63 + 16 * l
  bounded {l} p j h =
      let few = (holds s p).few.stores in
      let u = uses_most (f.turns p.state) j (f.turns_most p.state) (omega arith) in
      let q = ages1 (around p).datas in
      let a = frees_le l (uses (f.turns p.state) j) 47 q u (falling_outside p.mem p.hist) (wait_laws.datas_young l (around p).datas p.calm.1) in
      let b = frees_48 l q in
      omega arith

  module _ {l : ℕ} (x : Clock (machine s) l) where
    abbrev z : State T
    z = x.at.state

    abbrev z' : State T
    z' = next s z x.answers

    fair : FairClock s f.work f.late f.turns z x.answers
    fair = f.clocks x.at.code x.at.mem x.at.start x.at.hist z x.answers x.at.reach x.allowed

    -- no store went out: a use fewer before its turn, or no room
    waits : (j : ℕ) → 0 < j → j ≤ owed z → length (ev_of (asked s x)) ≡ 0 → frees l (uses (f.turns z') j) (q1 s x) < frees l (uses (f.turns z) j) (q0 s x)
    waits zero n h e = absurd (omega arith)
    waits (suc j) n h e = by (room (k2 s x)) refl
      where
        some2 : 0 < length (k2 s x).stores
        some2 = let a = stores2 s x in omega arith

        turn : room (k2 s x) ≡ true → (chosen_port s z x.answers ≡ drains) ⊎ (f.turns z' < f.turns z) → f.turns z' < f.turns z
        turn r (inr t) = t
        turn r (inl p) =
            let g : length (ev_of (asked s x)) ≡ 1 = (λ i. length (ev_of (request_if (r i) (p i) (k2 s x)).req)) ∙ (drained (k2 s x) some2).1 in
            absurd (omega arith)

        by : (b : Bool) → room (k2 s x) ≡ b → frees l (uses (f.turns z') (suc j)) (q1 s x) < frees l (uses (f.turns z) (suc j)) (q0 s x)
        by true r = let t = turn r (fair.turn some2 r) in one_use s x r (uses (f.turns z') (suc j)) (uses (f.turns z) (suc j)) (omega arith)
        by false r = let t = fair.turn_kept r in older s x r (uses (f.turns z') (suc j)) (uses (f.turns z) (suc j)) (omega arith)

    -- one went out
    shows : (j : ℕ) → 0 < j → suc j ≤ owed z → length (ev_of (asked s x)) ≡ 1 → frees l (uses (f.turns z') j) (q1 s x) < frees l (uses (f.turns z) (suc j)) (q0 s x)
    shows zero n h e = absurd (omega arith)
    shows (suc j) n h e = by (room (k2 s x)) refl
      where
        by : (b : Bool) → room (k2 s x) ≡ b → frees l (uses (f.turns z') (suc j)) (q1 s x) < frees l (uses (f.turns z) (suc (suc j))) (q0 s x)
        by true r = let t = f.turns_most z' in one_use s x r (uses (f.turns z') (suc j)) (uses (f.turns z) (suc (suc j))) (omega arith)
        by false r = let g = ap (λ y. length (ev_of y)) (no_room s x r) in absurd (omega arith)

  pub drains_fair : Drains (machine s) owed store_rank
  drains_fair = record {
    owes = owes;
    bounded = λ p j h. bounded p j h;
    waits = λ x j n h e. waits x j n h e;
    shows = λ x j n h e. shows x j n h e;
  }
