-- Where the invariant holds, the ports are right.
use Rattle.std.proofs.Common.{◌≡◌, ℕ, suc, ◌+◌, ◌/◌, ◌<◌, ◌≤◌, Bool, true, false, List, [], ◌∷◌, ◌++◌, length, sym, refl, ap, ◌∙◌, subst, append_assoc, append-nil, add-one, arith, length-append}
use mathlib.Core.Option.{some}
use Rattle.isa.specs.Words.{pick}
use Rattle.isa.specs.Manual.{Code, Mem, device, S, Ret, Ev, asks, stops, Run, run, asked, wrote, after1}
use Rattle.isa.specs.Runs.{At, more_answers}
use Rattle.isa.specs.Executing.{work, enact}
use Rattle.isa.specs.declared.reg.Reg.{Reg}
use Rattle.isa.specs.declared.execute.Outcome.TheVariants.{Load as Loads}
use Rattle.isa.proofs.Does.{step_is}
use Rattle.isa.proofs.RunSteps.{run_laws, evs_suc}
use Rattle.pins.specs.Says.{Front, none_yet, and_so, first}
use Rattle.pins.specs.View.{View, RightView}
use Rattle.pins.specs.declared.held.Store.{Store}
use Rattle.pins.specs.declared.held.Reading.{Reading}
use Rattle.pins.specs.declared.held.Reading.TheVariants.{Idle, Waiting, Answered}
use Rattle.first.specs.Model.{Model}
use Rattle.first.proofs.Buffered.{row_evs, row_evs_length, final}
use Rattle.first.proofs.Invariant.{unread, asked_ev, stands_at, Works, Halts, Runs, Inv}
use Rattle.first.proofs.AnswerKept.{more_run}

front : {A : Type 0} (xs ys : List A) → Front xs (xs ++ ys)
front [] ys = none_yet
front (x ∷ xs) ys = and_so (front xs ys)

-- a device is asked by the next instruction
asks_step : (c : Code) (s : S) (n : ℕ) (u : S) (r : Reg) (b y : ℕ) (ys : List ℕ) → At c s n u → work u.regs u.pc (c (u.pc / 4)) ≡ Loads r b → device b ≡ true → u.answers ≡ y ∷ ys
    → (run c s (suc n)).evs ≡ (run c s n).evs ++ (asks b ∷ [])
asks_step c s n u r b y ys p q d w =
    evs_suc p
    (step_is c u ∙ ap (enact u) q
    ∙ ap (λ (x : Bool). pick x (asked u r.number b u.answers) (wrote u r.number (u.mem (b / 4)) (after1 u))) d
    ∙ ap (asked u r.number b) w)

module _ (c : Code) (m : Mem) (a : ℕ) (k : Model) (f : Mem) (told : List ℕ) (rets : List Ret) (evs : List Ev) (h : Runs c m a k f told rets evs) where
  abbrev ran : List ℕ → ℕ → Run
  ran xs n = run c (first a m (told ++ xs)) n

  -- the reading of a device at work is the next instruction's, if the device answers
  NextAsks : Reading → Type 0
  NextAsks l = (xs : List ℕ) × (fs : List Ev) × ((ran xs (suc (length rets))).evs ≡ ((run c (first a m told) (length rets)).evs ++ asked_ev l) ++ fs)

  asks_nothing : (l : Reading) → asked_ev l ≡ [] → NextAsks l
  unfolding NextAsks
  asks_nothing l e =
      let b = run_laws.evs_begin c (first a m told) (length rets) 1 in (
        [],
        b.rest,
        ap (λ (ts : List ℕ). (run c (first a m ts) (suc (length rets))).evs) (append-nil told)
            ∙ ap (λ (n : ℕ). (run c (first a m told) n).evs) (sym (add-one (length rets)))
            ∙ b.is
            ∙ ap (λ (es : List Ev). es ++ b.rest) (sym (append-nil (run c (first a m told) (length rets)).evs) ∙ ap (λ (es : List Ev). (run c (first a m told) (length rets)).evs ++ es) (sym e)),
      )

  works_at : (l : Reading) → k.lsu.load ≡ l → Works c k.regs k.pc f l
  works_at l e = subst (Works c k.regs k.pc f) e h.works

  asks_waiting : (b : ℕ) → k.lsu.load ≡ Waiting b → (dv : Bool) → device b ≡ dv → NextAsks (Waiting b)
  unfolding NextAsks
  asks_waiting b e false dv = asks_nothing (Waiting b) (ap (λ (x : Bool). pick x (asks b ∷ []) []) dv)
  asks_waiting b e true dv =
      let r = more_run (0 ∷ []) h.at in
      let w = works_at (Waiting b) e in (
        0 ∷ [],
        [],
        asks_step c (first a m (told ++ (0 ∷ []))) (length rets) (more_answers (stands_at k f) (0 ∷ [])) w.0 b 0 [] r.at w.1 dv (ap (λ (l : Reading). unread l ++ (0 ∷ [])) e)
            ∙ ap (λ (es : List Ev). es ++ (asks b ∷ [])) (sym r.evs) ∙ sym (append-nil _)
            ∙ ap (λ (x : Bool). ((run c (first a m told) (length rets)).evs ++ pick x (asks b ∷ []) []) ++ []) (sym dv),
      )

  asks_answered : (b x : ℕ) → k.lsu.load ≡ Answered b x → (dv : Bool) → device b ≡ dv → NextAsks (Answered b x)
  unfolding NextAsks
  asks_answered b x e false dv = asks_nothing (Answered b x) (ap (λ (y : Bool). pick y (asks b ∷ []) []) dv)
  asks_answered b x e true dv =
      let w = works_at (Answered b x) e in (
        [],
        [],
        ap (λ (ts : List ℕ). (run c (first a m ts) (suc (length rets))).evs) (append-nil told)
            ∙ asks_step c (first a m told) (length rets) (stands_at k f) w.0 b x [] h.at w.1 dv (ap unread e ∙ ap (λ (y : Bool). pick y (x ∷ []) []) dv)
            ∙ sym (append-nil _) ∙ ap (λ (y : Bool). ((run c (first a m told) (length rets)).evs ++ pick y (asks b ∷ []) []) ++ []) (sym dv),
      )

  asks_now : (l : Reading) → k.lsu.load ≡ l → NextAsks l
  asks_now Idle e = asks_nothing Idle refl
  asks_now (Waiting b) e = asks_waiting b e (device b) refl
  asks_now (Answered b x) e = asks_answered b x e (device b) refl

  asked_now : (xs : List ℕ) × Front evs (ran xs (suc (length rets))).evs
  unfolding NextAsks
  asked_now =
      let q = asks_now k.lsu.load refl in
      (q.0, subst (Front evs) (sym (append_assoc evs (row_evs k.lsu.row) q.1) ∙ ap (λ (es : List Ev). es ++ q.1) h.did ∙ sym q.2) (front evs (row_evs k.lsu.row ++ q.1)))

  behind_now : length k.lsu.row ≤ 8 → length (run c (first a m told) (length rets)).evs ≤ length evs + 8
  behind_now room =
      let e = simp (length-append, row_evs_length) at (ap length h.did) in
      omega arith

  stop_now : (j : ℕ) → k.stop ≡ some j → (j < 3) × ((run c (first a m told) (suc (length rets))).is ≡ stops j) × (evs ≡ (run c (first a m told) (length rets)).evs)
  stop_now j e =
      let s = subst (Halts c k f) e h.halts in (
        s.0,
        ap (λ (r : Run). r.is) (run_laws.one_more h.at s.1),
        sym (append-nil evs) ∙ sym (ap (λ (r : List Store). evs ++ row_evs r) s.2) ∙ h.did ∙ ap (λ (l : Reading). (run c (first a m told) (length rets)).evs ++ asked_ev l) s.3 ∙ append-nil (run c (first a m told) (length rets)).evs,
      )

pub right_now : (c : Code) (m : Mem) (a : ℕ) (k : Model) (v : View) → Inv c m a k v → v.stopped ≡ k.stop → RightView c m a v
right_now c m a k v h e =
    let f = final v k.lsu.row in
    record {
      done = h.runs.done;
      asked = asked_now c m a k f v.told v.rets v.evs h.runs;
      behind = behind_now c m a k f v.told v.rets v.evs h.runs h.room;
      stop = λ j q. stop_now c m a k f v.told v.rets v.evs h.runs j (sym e ∙ q);
      few_codes = h.fetched.few;
      few_datas = h.few;
    }
