-- The walkthrough, by computing.
use Rattle.std.proofs.Common.{◌≡◌, ℕ, [], refl, arith}
use mathlib.Core.Option.{some}
use Rattle.pins.specs.Outside.{stopped}
use Rattle.pins.specs.Says.{Right, none_yet, and_so}
use Rattle.pins.specs.Walkthrough.{code, sevens, history, Walked}

never : (k : ℕ) → stopped history ≡ some k → ⊥
never k e = let z : ◌≡◌ {A = ℕ} 0 1 = cc in omega arith

right : Right code sevens 0 history
right = record {
  done = refl;
  asked = ([], and_so none_yet);
  behind = omega arith;
  stop = λ k e. absurd (never k e);
  few_codes = omega arith;
  few_datas = omega arith;
}

pub walked : Walked
walked = record {
  wanted = refl;
  wanted_next = refl;
  none_wanted = refl;
  both_open = refl;
  memory = refl;
  memory_flushed = refl;
  due = refl;
  memory_answered = refl;
  due_still = refl;
  flushed_still = refl;
  retired = refl;
  effects = refl;
  right = right;
}
