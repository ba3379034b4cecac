-- The instruction at work does what the model's does.
use Rattle.std.proofs.Common.{◌≡◌, ℕ, zero, suc, Bool, true, false, cond, ◌&&◌, eqb, ltb, List, length, get_or, Some, None, Option, sym, refl, ap, ◌∙◌, ap₂, arith}
use lib.Dec.{eqb-suc-zero}
use Rattle.isa.specs.Words.{add, pick, opt}
use Rattle.isa.specs.Manual.{device}
use Rattle.isa.specs.Executing.{work}
use Rattle.isa.specs.declared.reg.Reg.{Reg}
use Rattle.isa.specs.declared.execute.Stop.{Stop}
use Rattle.isa.specs.declared.execute.Outcome.{Outcome}
use Rattle.isa.specs.declared.execute.Outcome.TheVariants.{Write as Writes, Jump as Jumps, Load as Loads, Store as Stores, Halt as Halts}
use Rattle.pins.specs.PortWords.{plain, stop_word}
use Rattle.pins.specs.declared.held.Store.{Store}
use Rattle.pins.specs.declared.held.Reading.{Reading}
use Rattle.pins.specs.declared.held.Reading.TheVariants.{Idle, Waiting, Answered}
use Rattle.first.specs.declared.state.Core.{Core}
use Rattle.first.specs.declared.state.Action.{Action}
use Rattle.first.specs.declared.state.Action.TheVariants.{Wait, Halt, Write, Push, Ask}
use Rattle.first.specs.StoreRules.{no_store, forwarded}
use Rattle.first.specs.WorkRules.{no_stores, ask_device, forward_or_ask, load_action, outcome_action, word_action, action_unless, is_some, action}
use Rattle.first.specs.Model.{Model, lookup, if_drained, loading, work_on, decide}
use Rattle.first.specs.Model as M
use Rattle.first.proofs.Ring.{ring}
use Rattle.first.proofs.ModelOf.{waiting, opened, kept, model_of, Sized}
use Rattle.first.proofs.FetchModel.{head_is}
use Rattle.first.proofs.StoreModel.{waiting_length, forward_is}
use Rattle.first.proofs.LsuModel.{room_is}

cond_pick : (b : Bool) (x y : Action) → cond b x y ≡ pick b x y
cond_pick true x y = refl
cond_pick false x y = refl

-- with no store that waits
drained_is : (k : Core) (x : Action) → cond (no_stores k) x Wait ≡ if_drained (waiting k.lsu.stores) x
drained_is k x = by k.lsu.stores.at k.lsu.stores.begin k.lsu.stores.count
  where
    by : (l : List Store) (h n : ℕ) → cond (eqb n 0) x Wait ≡ if_drained (ring no_store l h n) x
    by l h zero = refl
    by l h (suc n) = rw eqb-suc-zero refl

module _ (k : Core) (h : Sized k) where
  device_is : (a : ℕ) → ask_device k a ≡ pick (ltb (length (opened k.lsu.requests)) 4) (if_drained (waiting k.lsu.stores) (Ask a)) Wait
  device_is a =
      ap (λ b. cond (b && no_stores k) (Ask a) Wait) (room_is k.lsu h.requests)
      ∙ by (ltb (length (opened k.lsu.requests)) 4)
    where
      by : (b : Bool) → cond (b && no_stores k) (Ask a) Wait ≡ pick b (if_drained (waiting k.lsu.stores) (Ask a)) Wait
      by true = drained_is k (Ask a)
      by false = refl

  forward_or_ask_is : (r : Reg) (a : ℕ) (o : Option ℕ) → forward_or_ask k r a o ≡ opt (plain o) (pick (ltb (length (opened k.lsu.requests)) 4) (Ask a) Wait) (λ x. Write r x (add k.pc 4))
  forward_or_ask_is r a None = ap (λ b. cond b (Ask a) Wait) (room_is k.lsu h.requests) ∙ cond_pick (ltb (length (opened k.lsu.requests)) 4) (Ask a) Wait
  forward_or_ask_is r a (Some x) = refl

  loading_is : (r : Reg) (a : ℕ) (l : Reading) → load_action k r a l ≡ loading (model_of k) r a l
  loading_is r a (Waiting b) = refl
  loading_is r a (Answered b x) = refl
  loading_is r a Idle =
      cond_pick (device a) _ _
      ∙ ap₂ (λ x y. pick (device a) x y) (device_is a)
      (forward_or_ask_is r a (forwarded k.lsu.stores a)
      ∙ ap (λ o. opt o (pick (ltb (length (opened k.lsu.requests)) 4) (Ask a) Wait) (λ x. Write r x (add k.pc 4))) (forward_is k.lsu.stores a h.stores))

  outcome_is : (o : Outcome) → outcome_action k o ≡ M.act (model_of k) o
  outcome_is (Writes r x a) = refl
  outcome_is (Jumps a) = refl
  outcome_is (Loads r a) = loading_is r a k.lsu.load
  outcome_is (Stores a x) = cond_pick (ltb k.lsu.stores.count 8) _ _ ∙ ap (λ n. pick (ltb n 8) (Push (record { address = a; value = x })) Wait) (sym (waiting_length k.lsu.stores))
  outcome_is (Halts s) = drained_is k (Halt s)

  word_is : word_action k (cond (eqb k.fetch.words.count 0) None (Some (get_or k.fetch.words.at 0 0))) ≡ work_on (model_of k) (kept k.fetch)
  word_is =
      by (eqb k.fetch.words.count 0)
      ∙ sym (head_is k.fetch.words.count k.fetch.words.at h.fetch.array (omega (arith, h.fetch.ahead)) Wait (λ w. M.act (model_of k) (work k.regs.values k.pc w)) (work_on (model_of k)) refl (λ x xs. refl))
    where
      by : (b : Bool) → word_action k (cond b None (Some (get_or k.fetch.words.at 0 0))) ≡ cond b Wait (M.act (model_of k) (work k.regs.values k.pc (get_or k.fetch.words.at 0 0)))
      by true = refl
      by false = outcome_is (work k.regs.values k.pc (get_or k.fetch.words.at 0 0))

  -- what is decided is what the model decides
  pub action_is : action k ≡ decide (model_of k)
  action_is = by k.stopped
    where
      by : (o : Option Stop) → action_unless k (is_some o) ≡ opt (plain (stop_word o)) (work_on (model_of k) (kept k.fetch)) (λ j. Wait)
      by None = word_is
      by (Some s) = refl
