-- In each clock in which nothing is done and the core has not stopped, its rank falls.
use Rattle.std.proofs.Common.{◌≡◌, ℕ, zero, suc, ◌+◌, ◌*◌, ◌<◌, ◌≤◌, Bool, true, false, List, [], ◌∷◌, length, sym, refl, ap, ◌∙◌, subst, mul-le-mul_right, arith, length-append}
use mathlib.Core.Option.{Option, some, none}
use Rattle.isa.specs.Words.{opt}
use Rattle.pins.specs.Ports.{In}
use Rattle.pins.specs.View.{pop}
use Rattle.pins.specs.Waits.{aged, age0}
use Rattle.first.specs.declared.state.Action.{Action}
use Rattle.first.specs.declared.state.Action.TheVariants.{Wait}
use Rattle.first.specs.Model.{Fetching, Model, took, took_use, take_code, taken, latched, work_on, decide, apply, drain, want, want_if, Clock, ending, model_next}
use Rattle.first.proofs.Left.{AskedFor, Young, left, left_most, left_some}
use Rattle.first.proofs.CodeFalls.{code_rank, code_most, code_falls}
use Rattle.first.proofs.DataFalls.{amount, data_rank, to_ask_most, less_open, drain_amount, Busy, quiet, oldest_falls}

-- without a word the wait for code, and all that may follow; with one what its instruction waits for
abbrev pub rank_of : ℕ → List ℕ → Model → List ℕ → List ℕ → ℕ
rank_of l [] k qc qd = 14 * (l + 2) + code_rank l k.fetch qc
rank_of l (w ∷ ws) k qc qd = data_rank l k.lsu qd

abbrev pub rank : ℕ → Model → List ℕ → List ℕ → ℕ
rank l k qc qd = rank_of l k.fetch.words k qc qd

rank_without : (l : ℕ) (ws : List ℕ) (k : Model) (qc qd : List ℕ) → length ws ≡ 0 → rank_of l ws k qc qd ≡ 14 * (l + 2) + code_rank l k.fetch qc
rank_without l [] k qc qd e = refl
rank_without l (w ∷ ws) k qc qd e = absurd (omega arith)

rank_with : (l : ℕ) (ws : List ℕ) (k : Model) (qc qd : List ℕ) → (length ws ≡ 0 → ⊥) → rank_of l ws k qc qd ≡ data_rank l k.lsu qd
rank_with l [] k qc qd e = absurd (e refl)
rank_with l (w ∷ ws) k qc qd e = refl

-- the numbers that the invariant bounds
pub record Bounded (k : Model) (qc qd : List ℕ) : Type 0 where
  pub codes : k.fetch.stale + k.fetch.coming ≡ length qc
  pub few_codes : length qc ≤ 4
  pub opens : length k.lsu.opens ≡ length qd
  pub few_datas : length qd ≤ 4
  pub room : length k.lsu.row ≤ 8

data_most : (l : ℕ) (k : Model) (qc qd : List ℕ) → Bounded k qc qd → data_rank l k.lsu qd ≤ 14 * (l + 2)
data_most l k qc qd h =
    let p = to_ask_most k.lsu.load in
    let am : amount k.lsu ≤ 13 = omega (arith, h.opens, h.few_datas, h.room) in
    omega (arith, mul-le-mul_right (l + 2) am, left_most l 0 qd)

pub rank_most : (l : ℕ) (k : Model) (qc qd : List ℕ) → Bounded k qc qd → rank l k qc qd ≤ 16 * (l + 2)
rank_most l k qc qd h = by k.fetch.words
  where
    by : (ws : List ℕ) → rank_of l ws k qc qd ≤ 16 * (l + 2)
    by [] = omega (arith, code_most l k.fetch qc)
    by (w ∷ ws) = omega (arith, data_most l k qc qd h)

-- without a word nothing is done
wait_without : (k : Model) → length k.fetch.words ≡ 0 → decide k ≡ Wait
wait_without k e = by k.stop k.fetch.words e
  where
    by : (o : Option ℕ) (ws : List ℕ) → length ws ≡ 0 → opt o (work_on k ws) (λ j. Wait) ≡ Wait
    by none [] e = refl
    by none (w ∷ ws) e = absurd (omega arith)
    by (some j) ws e = refl

-- words come, and only the instruction at work takes one
want_words : (f : Fetching) (b : Bool) → (want_if f b).fetch.words ≡ f.words
want_words f true = refl
want_words f false = refl

use_grows : (x : ℕ) (f : Fetching) (n : ℕ) → length (took_use x f n).words ≡ 0 → length f.words ≡ 0
use_grows x f zero e = e
use_grows x f (suc n) e = let q = length-append f.words (x ∷ []) in omega arith

took_grows : (x : ℕ) (f : Fetching) (n : ℕ) → length (took x f n).words ≡ 0 → length f.words ≡ 0
took_grows x f zero e = use_grows x f f.coming e
took_grows x f (suc n) e = e

code_grows : (i : Option ℕ) (f : Fetching) → length (take_code i f).words ≡ 0 → length f.words ≡ 0
code_grows none f e = e
code_grows (some x) f e = took_grows x f f.stale e

-- a clock: before it, and with its answer to a request taken
module _ (l : ℕ) (k : Model) (i : In) (qc qd : List ℕ) (h : Bounded k qc qd) (t : Bounded (taken k i) qc (pop i.data1 qd))
    (busy : Busy (taken k i).lsu.load (taken k i).lsu.opens) (rc : AskedFor i.code qc) (rd : AskedFor i.data1 qd) where
  abbrev qc' : Clock → List ℕ
  qc' n = aged i.code (age0 n.out.code) qc

  abbrev qd' : Clock → List ℕ
  qd' n = aged i.data1 (age0 n.out.data1) qd

  abbrev Falls : Clock → Type 0
  Falls n = rank l n.core (qc' n) (qd' n) < rank l k qc qd

  -- no word is there, nor comes one: the wait for it falls
  falls_waiting : length k.fetch.words ≡ 0 → length (take_code i.code k.fetch).words ≡ 0 → Young l (qc' (model_next k i)) → Falls (model_next k i)
  falls_waiting e e' y =
      subst (λ (n : Clock). Young l (qc' n) → Falls n) (ap (λ (x : Action). ending (latched i.code (apply (taken k i) x))) (sym (wait_without (taken k i) e)))
      (λ y.
      let f = take_code i.code k.fetch in
      let n = ending (latched i.code (apply (taken k i) Wait)) in
      let none : length (want f).fetch.words ≡ 0 = ap length (want_words f _) ∙ e' in
      let r = code_falls l k.fetch i.code qc h.codes h.few_codes rc e' y in
      rw (rank_without l (want f).fetch.words n.core (qc' n) (qd' n) none, rank_without l k.fetch.words k qc qd e) (omega arith))
      y

  -- one comes
  falls_coming : length k.fetch.words ≡ 0 → (length (take_code i.code k.fetch).words ≡ 0 → ⊥) → Young l qc → Bounded (model_next k i).core (qc' (model_next k i)) (qd' (model_next k i)) → Falls (model_next k i)
  falls_coming e n y b =
      let n' = model_next k i in
      let ww : n'.core.fetch.words ≡ (take_code i.code k.fetch).words = want_words _ _ ∙ ap (λ (x : Action). (take_code i.code (apply (taken k i) x).core.fetch).words) (wait_without (taken k i) e) in
      rw (rank_with l n'.core.fetch.words n'.core (qc' n') (qd' n') (λ z. n (sym (ap length ww) ∙ z)), rank_without l k.fetch.words k qc qd e)
      (omega (arith, left_some l k.fetch.stale qc y, data_most l n'.core (qc' n') (qd' n') b))

  -- one is at work: what it waits for falls
  less : (ws : List ℕ) → amount (taken k i).lsu * (l + 2) + left l 0 (pop i.data1 qd) ≤ rank_of l ws k qc qd
  less [] =
      let p = to_ask_most (taken k i).lsu.load in
      let am : amount (taken k i).lsu ≤ 13 = omega (arith, t.opens, t.few_datas, t.room) in
      omega (arith, mul-le-mul_right (l + 2) am, left_most l 0 (pop i.data1 qd))
  less (w ∷ ws) = less_open l i.data1 k.lsu qd rd h.opens

  falls_working : (length k.fetch.words ≡ 0 → ⊥) → (model_next k i).out.rets ≡ [] → (model_next k i).core.stop ≡ none → Young l (qd' (model_next k i)) → Falls (model_next k i)
  falls_working n u v y =
      let n' = model_next k i in
      let d = apply (taken k i) (decide (taken k i)) in
      let q = quiet (taken k i) busy n u v in
      let ww : n'.core.fetch.words ≡ (take_code i.code k.fetch).words = want_words _ _ ∙ ap (λ (f : Fetching). (take_code i.code f).words) q.code in
      let am : amount (drain d.req d.core.lsu).lsu ≡ amount (taken k i).lsu = drain_amount d.req d.core.lsu ∙ q.same in
      let wf = oldest_falls l (pop i.data1 qd) (drain d.req d.core.lsu).req (λ z. q.out (t.opens ∙ z)) y in
      let le = less k.fetch.words in
      rw (rank_with l n'.core.fetch.words n'.core (qc' n') (qd' n') (λ z. n (code_grows i.code k.fetch (sym (ap length ww) ∙ z))), am) (omega arith)

  pub falls : Young l qc → Young l (qc' (model_next k i)) → Young l (qd' (model_next k i)) → Bounded (model_next k i).core (qc' (model_next k i)) (qd' (model_next k i))
      → (model_next k i).out.rets ≡ [] → (model_next k i).core.stop ≡ none → Falls (model_next k i)
  falls y yc yd b u v = by (length k.fetch.words) refl (length (take_code i.code k.fetch).words) refl
    where
      by : (n : ℕ) → length k.fetch.words ≡ n → (n' : ℕ) → length (take_code i.code k.fetch).words ≡ n' → Falls (model_next k i)
      by zero e zero e' = falls_waiting e e' yc
      by zero e (suc n') e' = falls_coming e (λ q. omega arith) y b
      by (suc n) e n' e' = falls_working (λ q. omega arith) u v yd
