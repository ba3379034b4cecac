-- While a word is at work and nothing is done, what is still to be requested and answered falls.
use Rattle.std.proofs.Common.{◌≡◌, ℕ, suc, ◌+◌, ◌*◌, ◌<◌, ◌≤◌, Bool, true, false, ltb, List, [], ◌∷◌, length, sym, refl, ap, subst, arith, length-append}
use mathlib.Core.Option.{Option, some, none}
use Rattle.std.proofs.lemmas.Bool.{ltb-false, lt-ltb}
use Rattle.isa.specs.Words.{pick, opt, add}
use Rattle.isa.specs.Manual.{Ret, device}
use Rattle.isa.specs.Executing.{work, how}
use Rattle.isa.specs.declared.reg.Reg.{Reg}
use Rattle.isa.specs.declared.execute.Stop.{Stop}
use Rattle.isa.specs.declared.execute.Outcome.{Outcome}
use Rattle.isa.specs.declared.execute.Outcome.TheVariants.{Write as Writes, Jump as Jumps, Load as Loads, Store as Stores, Halt as Halts}
use Rattle.pins.specs.Ports.{Req}
use Rattle.pins.specs.View.{pop, push}
use Rattle.pins.specs.Waits.{age0}
use Rattle.pins.specs.declared.held.Store.{Store}
use Rattle.first.specs.declared.state.Open.{Open}
use Rattle.first.specs.declared.state.Open.TheVariants.{Acknowledgment, Load as ForLoad}
use Rattle.pins.specs.declared.held.Reading.{Reading}
use Rattle.pins.specs.declared.held.Reading.TheVariants.{Idle, Waiting, Answered}
use Rattle.first.specs.declared.state.Action.{Action}
use Rattle.first.specs.declared.state.Action.TheVariants.{Wait, Halt, Write, Push, Ask}
use Rattle.first.specs.Model.{Fetching, Storing, Model, Did, answer, answer_load, take_data, lookup, if_drained, loading, act, work_on, decide, apply, drain, drain_one, drain_if}
use Rattle.first.proofs.Left.{AskedFor, Young, older, left, left_most}

-- what is open, what waits, and the load that is not requested yet
abbrev pub to_ask : Reading → ℕ
to_ask Idle = 1
to_ask (Waiting a) = 0
to_ask (Answered a x) = 0

abbrev pub amount : Storing → ℕ
amount d = length d.opens + length d.row + to_ask d.load

abbrev pub data_rank : ℕ → Storing → List ℕ → ℕ
data_rank l d q = amount d * (l + 2) + left l 0 q

pub to_ask_most : (p : Reading) → to_ask p ≤ 1
to_ask_most Idle = omega arith
to_ask_most (Waiting a) = omega arith
to_ask_most (Answered a x) = omega arith

-- an answer is one less
to_ask_same : (x : ℕ) (p : Reading) → to_ask (answer_load x p) ≡ to_ask p
to_ask_same x Idle = refl
to_ask_same x (Waiting a) = refl
to_ask_same x (Answered a y) = refl

amount_answer : (x : ℕ) (d : Storing) (ks : List Open) → d.opens ≡ ks → 0 < length ks → amount (answer x d ks) + 1 ≡ amount d
amount_answer x d [] e h = absurd (omega arith)
amount_answer x d (Acknowledgment ∷ ks) e h = let n : length d.opens ≡ suc (length ks) = ap length e in omega arith
amount_answer x d (ForLoad ∷ ks) e h = let n : length d.opens ≡ suc (length ks) = ap length e in let t = to_ask_same x d.load in omega arith

pub less_open : (l : ℕ) (i : Option ℕ) (d : Storing) (q : List ℕ) → AskedFor i q → length d.opens ≡ length q → amount (take_data i d) * (l + 2) + left l 0 (pop i q) ≤ amount d * (l + 2) + left l 0 q
less_open l none d q s e = omega arith
less_open l (some x) d [] s e = absurd s
less_open l (some x) d (g ∷ q) s e =
    let n : amount (take_data (some x) d) + 1 ≡ amount d = amount_answer x d d.opens refl (omega arith) in
    rw (← n) (omega (arith, left_most l 0 q))

-- a store that goes out is open then
drain_if_amount : (d : Storing) (p : Store) (ps : List Store) (b : Bool) → d.row ≡ p ∷ ps → amount (drain_if d p ps b).lsu ≡ amount d
drain_if_amount d p ps true e = let n = length-append d.opens (Acknowledgment ∷ []) in let r : length d.row ≡ suc (length ps) = ap length e in omega arith
drain_if_amount d p ps false e = refl

drain_one_amount : (d : Storing) (row : List Store) → d.row ≡ row → amount (drain_one d row).lsu ≡ amount d
drain_one_amount d [] e = refl
drain_one_amount d (p ∷ ps) e = drain_if_amount d p ps (ltb (length d.opens) 4) e

pub drain_amount : (q : Option Req) (d : Storing) → amount (drain q d).lsu ≡ amount d
drain_amount none d = drain_one_amount d d.row refl
drain_amount (some r) d = refl

abbrev pub Some : {A : Type 0} → Option A → Type 0
Some none = ⊥
Some (some x) = Unit {0}

drain_one_some : (d : Storing) (row : List Store) → length d.opens ≡ 0 → (length row ≡ 0 → ⊥) → Some (drain_one d row).req
drain_one_some d [] o h = absurd (h refl)
drain_one_some d (p ∷ ps) o h = subst (λ b. Some (drain_if d p ps b).req) (sym (lt-ltb (length d.opens) 4 (omega arith))) tt

-- a clock in which nothing is done: what is to be requested stays, code stays; and with nothing open something goes out
pub record Quiet (k : Model) (d : Did) : Type 0 where
  pub same : amount d.core.lsu ≡ amount k.lsu
  pub code : d.core.fetch ≡ k.fetch
  pub out : length k.lsu.opens ≡ 0 → Some (drain d.req d.core.lsu).req

-- a load that was requested is open
abbrev pub Busy : Reading → List Open → Type 0
Busy Idle ks = Unit {0}
Busy (Waiting a) ks = 0 < length ks
Busy (Answered a x) ks = Unit {0}

no_rets : (t : Ret) (ts : List Ret) → t ∷ ts ≡ [] → ⊥
no_rets t ts e = let z : ◌≡◌ {A = ℕ} 0 1 = cc in omega arith

no_stop : (j : ℕ) → some j ≡ none → ⊥
no_stop j e = let z : ◌≡◌ {A = ℕ} 0 1 = cc in omega arith

module _ (gs : List ℕ) (p : ℕ) (f : Fetching) (row : List Store) (ks : List Open) where
  abbrev K : Reading → Model
  K l = record { regs = gs; pc = p; fetch = f; lsu = record { row = row; opens = ks; load = l }; stop = none }

  abbrev Calm : Reading → Action → Type 0
  Calm l x = (apply (K l) x).rets ≡ [] → (apply (K l) x).core.stop ≡ none → Quiet (K l) (apply (K l) x)

  calm_wait : (l : Reading) → (length ks ≡ 0 → length row ≡ 0 → ⊥) → Calm l Wait
  calm_wait l h a b = record { same = refl; code = refl; out = λ o. drain_one_some (record { row = row; opens = ks; load = l }) row o (h o) }

  calm_ask : (b : ℕ) (t : Bool) → (t ≡ false → 4 ≤ length ks) → Calm Idle (pick t (Ask b) Wait)
  calm_ask b true t = λ u v. record { same = let n = length-append ks (ForLoad ∷ []) in omega arith; code = refl; out = λ o. tt }
  calm_ask b false t = let q : 4 ≤ length ks = t refl in calm_wait Idle (λ o r. omega arith)

  calm_device : (b : ℕ) (t : Bool) → (t ≡ false → 4 ≤ length ks) → (rr : List Store) → row ≡ rr → Calm Idle (pick t (if_drained rr (Ask b)) Wait)
  calm_device b true t [] e = calm_ask b true t
  calm_device b true t (s ∷ rr) e = calm_wait Idle (λ o r. let z : length row ≡ suc (length rr) = ap length e in omega arith)
  calm_device b false t rr e = let q : 4 ≤ length ks = t refl in calm_wait Idle (λ o r. omega arith)

  calm_data : (r : Reg) (b : ℕ) (t : Bool) → (t ≡ false → 4 ≤ length ks) → (o : Option ℕ) → Calm Idle (opt o (pick t (Ask b) Wait) (λ x. Write r x (add p 4)))
  calm_data r b t h none = calm_ask b t h
  calm_data r b t h (some x) = λ u v. absurd (no_rets _ _ u)

  calm_idle : (r : Reg) (b : ℕ) (dv : Bool) → Calm Idle (pick dv (pick (ltb (length ks) 4) (if_drained row (Ask b)) Wait) (opt (lookup row b) (pick (ltb (length ks) 4) (Ask b) Wait) (λ x. Write r x (add p 4))))
  calm_idle r b true = calm_device b (ltb (length ks) 4) (ltb-false (length ks) 4) row refl
  calm_idle r b false = calm_data r b (ltb (length ks) 4) (ltb-false (length ks) 4) (lookup row b)

  calm_load : (r : Reg) (b : ℕ) (l : Reading) → Busy l ks → Calm l (loading (K l) r b l)
  calm_load r b Idle h = calm_idle r b (device b)
  calm_load r b (Waiting d) h = calm_wait (Waiting d) (λ o n. omega arith)
  calm_load r b (Answered d x) h = λ u v. absurd (no_rets _ _ u)

  calm_push : (l : Reading) (s : Store) (t : Bool) → (t ≡ false → 8 ≤ length row) → Calm l (pick t (Push s) Wait)
  calm_push l s true t = λ u v. absurd (no_rets _ _ u)
  calm_push l s false t = let q : 8 ≤ length row = t refl in calm_wait l (λ o r. omega arith)

  calm_halt : (l : Reading) (j : Stop) (rr : List Store) → row ≡ rr → Calm l (if_drained rr (Halt j))
  calm_halt l j [] e = λ u v. absurd (no_stop (how j) v)
  calm_halt l j (s ∷ rr) e = calm_wait l (λ o r. let z : length row ≡ suc (length rr) = ap length e in omega arith)

  calm_act : (l : Reading) → Busy l ks → (x : Outcome) → Calm l (act (K l) x)
  calm_act l h (Writes r x b) = λ u v. absurd (no_rets _ _ u)
  calm_act l h (Jumps b) = λ u v. absurd (no_rets _ _ u)
  calm_act l h (Loads r b) = calm_load r b l h
  calm_act l h (Stores b x) = calm_push l (record { address = b; value = x }) (ltb (length row) 8) (ltb-false (length row) 8)
  calm_act l h (Halts j) = calm_halt l j row refl

abbrev with_stop : Model → Option ℕ → Model
with_stop k o = record { regs = k.regs; pc = k.pc; fetch = k.fetch; lsu = k.lsu; stop = o }

pub quiet : (k : Model) → Busy k.lsu.load k.lsu.opens → (length k.fetch.words ≡ 0 → ⊥) → (apply k (decide k)).rets ≡ [] → (apply k (decide k)).core.stop ≡ none → Quiet k (apply k (decide k))
quiet k h n u v = by k.stop u v
  where
    at_words : (ws : List ℕ) → (length ws ≡ 0 → ⊥) → (apply (with_stop k none) (work_on (with_stop k none) ws)).rets ≡ [] → (apply (with_stop k none) (work_on (with_stop k none) ws)).core.stop ≡ none
        → Quiet (with_stop k none) (apply (with_stop k none) (work_on (with_stop k none) ws))
    at_words [] n u v = absurd (n refl)
    at_words (w ∷ ws) n u v = calm_act k.regs k.pc k.fetch k.lsu.row k.lsu.opens k.lsu.load h (work k.regs k.pc w) u v

    by : (o : Option ℕ) → (apply (with_stop k o) (decide (with_stop k o))).rets ≡ [] → (apply (with_stop k o) (decide (with_stop k o))).core.stop ≡ none → Quiet (with_stop k o) (apply (with_stop k o) (decide (with_stop k o)))
    by (some j) u v = absurd (no_stop j v)
    by none u v = at_words k.fetch.words n u v

-- the wait for the oldest request falls, if one goes out when none is open
pub oldest_falls : (l : ℕ) (q : List ℕ) (y : Option Req) → (length q ≡ 0 → Some y) → Young l (push (age0 y) (older q)) → left l 0 (push (age0 y) (older q)) < left l 0 q
oldest_falls l [] none h y = absurd (h refl)
oldest_falls l [] (some r) h y = omega arith
oldest_falls l (g ∷ q) none h (e, y) = omega arith
oldest_falls l (g ∷ q) (some r) h (e, y) = omega arith
