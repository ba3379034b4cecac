-- The rule of the instruction at work keeps the invariant.
use Rattle.std.proofs.Common.{◌≡◌, ℕ, suc, ◌/◌, ◌<◌, ◌≤◌, Bool, true, false, eqb, ltb, List, [], ◌∷◌, ◌++◌, length, sym, refl, ap, ◌∙◌, subst, append_assoc, append-nil, arith, length-append}
use mathlib.Core.Option.{Option, some, none}
use Rattle.std.proofs.lemmas.Bool.{ltb-true, eqb-true, true≢false}
use Rattle.isa.specs.Words.{pick, add, opt, put}
use Rattle.isa.specs.Manual.{Code, Mem, device, S, Ret, Ev, writes, asks, goes, run, step, asked, wrote, after1}
use Rattle.isa.specs.Runs.{At}
use Rattle.isa.specs.Traces.{effect}
use Rattle.isa.specs.Executing.{work, enact, how}
use Rattle.isa.specs.declared.reg.Reg.{Reg}
use Rattle.isa.specs.declared.execute.Stop.{Stop}
use Rattle.isa.specs.declared.execute.Stop.TheVariants.{EnvCall, Illegal, Misaligned}
use Rattle.isa.specs.declared.execute.Outcome.{Outcome}
use Rattle.isa.specs.declared.execute.Outcome.TheVariants.{Write as Writes, Jump as Jumps, Load as Loads, Store as Stores, Halt as Halts}
use Rattle.isa.proofs.Does.{step_is}
use Rattle.isa.proofs.RunSteps.{at_suc, rets_suc, evs_suc}
use Rattle.pins.specs.Ports.{reads}
use Rattle.pins.specs.Says.{first}
use Rattle.pins.specs.View.{View, ask_data}
use Rattle.pins.specs.View as view
use Rattle.pins.specs.Settled.{from_device, that_word, due, dues, flushed}
use Rattle.pins.proofs.Settling.{settled_laws}
use Rattle.pins.specs.declared.held.Store.{Store}
use Rattle.first.specs.declared.state.Open.{Open}
use Rattle.first.specs.declared.state.Open.TheVariants.{Load as ForLoad}
use Rattle.pins.specs.declared.held.Reading.{Reading}
use Rattle.pins.specs.declared.held.Reading.TheVariants.{Idle, Waiting, Answered}
use Rattle.first.specs.declared.state.Action.TheVariants.{Wait, Halt, Write, Push, Ask}
use Rattle.first.specs.Model.{Fetching, Model, lookup, if_drained, loading, act, work_on, decide, Did, retired, apply}
use Rattle.first.proofs.Fetched.{refetch_kept, at_word}
use Rattle.first.proofs.Buffered.{row_evs, row_evs_snoc, final, final_push, final_ask, lookup_right}
use Rattle.first.proofs.Requested.{Acks, Tags, tags_count, acks_load}
use Rattle.first.proofs.Invariant.{asked_ev, stands_at, Halts as HaltsAt, Runs, Inv}

-- the view after what was done
abbrev pub did_view : Did → View → View
did_view d v = ask_data d.req (view.retire d.rets v)

length_snoc : {A : Type 0} (xs : List A) (x : A) → suc (length xs) ≡ length (xs ++ (x ∷ []))
length_snoc xs x = omega (arith, length-append xs (x ∷ []))

module _ (c : Code) (m : Mem) (a : ℕ) where
  -- one instruction is done
  retire_kept : (k : Model) (v : View) (w : ℕ) (us : List ℕ) → k.fetch.words ≡ w ∷ us → k.stop ≡ none → Acks k.lsu.opens (dues v) → Inv c m a k v
      → (gs : List ℕ) (b : ℕ) (row : List Store) (t : Ret) (es : List Ev)
      → step c (stands_at k (final v k.lsu.row)) ≡ goes (record { regs = gs; pc = b; mem = final v row; answers = [] }) t es
      → v.evs ++ row_evs row ≡ (run c (first a m v.told) (length v.rets)).evs ++ es
      → length row ≤ 8
      → Inv c m a (retired k gs b row t).core (view.retire (t ∷ []) v)
  retire_kept k v w us ws st ak h gs b row t es q e room =
      let s0 = first a m v.told in
      let u : S = record { regs = gs; pc = b; mem = final v row; answers = [] } in
      let k' = (retired k gs b row t).core in
      let n : suc (length v.rets) ≡ length (v.rets ++ (t ∷ [])) = length_snoc v.rets t in
      record {
        fetched = refetch_kept c k.pc b w us k.fetch (eqb b (add k.pc 4)) v.codes ws (eqb-true b (add k.pc 4)) h.fetched;
        tags = ak;
        few = h.few;
        room = room;
        runs = record {
          at = subst (λ (j : ℕ). At c s0 j u) n (at_suc h.runs.at q);
          done = ap (λ (l : List Ret). l ++ (t ∷ [])) h.runs.done ∙ sym (rets_suc h.runs.at q) ∙ ap (λ (j : ℕ). (run c s0 j).rets) n;
          did = e ∙ sym (evs_suc h.runs.at q) ∙ ap (λ (j : ℕ). (run c s0 j).evs) n ∙ sym (append-nil (run c s0 (length (v.rets ++ (t ∷ [])))).evs);
          works = tt;
          halts = subst (λ (o : Option ℕ). HaltsAt c k' (final v row) o) (sym st) tt;
        };
      }

-- an instruction that is no load is at work with nothing requested
abbrev is_load : Outcome → Bool
is_load (Writes r x a) = false
is_load (Jumps a) = false
is_load (Loads r a) = true
is_load (Stores a x) = false
is_load (Halts h) = false

no_load : (x y : Outcome) (r : Reg) (b : ℕ) → x ≡ y → x ≡ Loads r b → is_load y ≡ false → ⊥
no_load x y r b e q n = true≢false (sym (ap is_load q) ∙ (ap is_load e ∙ n))

how_few : (h : Stop) → how h < 3
how_few EnvCall = omega arith
how_few Illegal = omega arith
how_few Misaligned = omega arith

-- a device's reading joins what was asked: then no store waits
ask_evs : (x y : List Ev) (row : List Store) (b : ℕ) (dv : Bool) → (dv ≡ true → row ≡ []) → x ++ row_evs row ≡ y ++ []
    → (x ++ pick dv (asks b ∷ []) []) ++ row_evs row ≡ y ++ pick dv (asks b ∷ []) []
ask_evs x y row b true d h =
    let e : row ≡ [] = d refl in
    let xy : x ≡ y = sym (append-nil x) ∙ sym (ap (λ (r : List Store). x ++ row_evs r) e) ∙ h ∙ append-nil y in
    ap (λ (r : List Store). (x ++ (asks b ∷ [])) ++ row_evs r) e ∙ append-nil (x ++ (asks b ∷ [])) ∙ ap (λ (l : List Ev). l ++ (asks b ∷ [])) xy
ask_evs x y row b false d h = ap (λ (l : List Ev). l ++ row_evs row) (append-nil x) ∙ h

-- a load that was answered: a device's word, or what memory holds
answered_is : (s : S) (r d x : ℕ) (dv : Bool) → (dv ≡ false → x ≡ s.mem (d / 4)) → s.answers ≡ pick dv (x ∷ []) []
    → pick dv (asked s r d s.answers) (wrote s r (s.mem (d / 4)) (after1 s))
    ≡ goes (record { regs = put s.regs r x; pc = add s.pc 4; mem = s.mem; answers = [] }) (record { pc = s.pc; reg = r; val = pick (eqb r 0) 0 x }) (pick dv (asks d ∷ []) [])
answered_is s r d x true g e = ap (asked s r d) e
answered_is s r d x false g e =
    ap (λ (y : ℕ). wrote s r y (after1 s)) (sym (g refl))
    ∙ ap (λ (l : List ℕ). goes (record { regs = put s.regs r x; pc = add s.pc 4; mem = s.mem; answers = l }) (record { pc = s.pc; reg = r; val = pick (eqb r 0) 0 x }) []) e

module _ (c : Code) (m : Mem) (a : ℕ) (v : View) where
  abbrev Keeps : Did → Type 0
  Keeps d = Inv c m a d.core (did_view d v)

  module _ (gs : List ℕ) (p : ℕ) (f : Fetching) (row : List Store) (ks : List Open) (w : ℕ) (us : List ℕ) (ws : f.words ≡ w ∷ us) where
    abbrev K : Reading → Model
    K l = record { regs = gs; pc = p; fetch = f; lsu = record { row = row; opens = ks; load = l }; stop = none }

    abbrev outcome : Outcome
    outcome = work gs p (c (p / 4))

    abbrev here : Reading → S
    here l = stands_at (K l) (final v row)

    -- what the manual does here
    steps : (l : Reading) (x : Outcome) → outcome ≡ x → step c (here l) ≡ enact (here l) x
    steps l x e = step_is c (here l) ∙ ap (enact (here l)) e

    halt_kept : (s : Stop) → Inv c m a (K Idle) v → outcome ≡ Halts s → (r : List Store) → row ≡ r → Keeps (apply (K Idle) (if_drained r (Halt s)))
    halt_kept s h e [] q =
        record {
          fetched = h.fetched;
          tags = h.tags;
          few = h.few;
          room = h.room;
          runs = record { at = h.runs.at; done = h.runs.done; did = h.runs.did; works = tt; halts = (how_few s, steps Idle (Halts s) e, q, refl) };
        }
    halt_kept s h e (x ∷ r) q = h

    push_kept : (b x : ℕ) → Inv c m a (K Idle) v → outcome ≡ Stores b x → (t : Bool) → (t ≡ true → length row < 8) → Keeps (apply (K Idle) (pick t (Push (record { address = b; value = x })) Wait))
    push_kept b x h e true t =
        let lt : length row < 8 = t refl in
        let s : Store = record { address = b; value = x } in
        let fp : final v (row ++ (s ∷ [])) ≡ effect (final v row) (writes b x) = final_push v row s in
        retire_kept c m a (K Idle) v w us ws refl h.tags h gs (add p 4) (row ++ (s ∷ [])) (record { pc = p; reg = 0; val = 0 }) (writes b x ∷ [])
        (steps Idle (Stores b x) e ∙ ap (λ (g : Mem). goes (record { regs = gs; pc = add p 4; mem = g; answers = [] }) (record { pc = p; reg = 0; val = 0 }) (writes b x ∷ [])) (sym fp))
        (ap (λ (l : List Ev). v.evs ++ l) (row_evs_snoc row s) ∙ sym (append_assoc v.evs (row_evs row) (writes b x ∷ [])) ∙ ap (λ (l : List Ev). l ++ (writes b x ∷ [])) (h.runs.did ∙ append-nil (run c (first a m v.told) (length v.rets)).evs))
        (omega (arith, length_snoc row s))
    push_kept b x h e false t = h

    ask_kept : (r : Reg) (b : ℕ) → Inv c m a (K Idle) v → outcome ≡ Loads r b → (t : Bool) → (t ≡ true → length ks < 4)
        → (device b ≡ false → flushed v (b / 4) ≡ final v row (b / 4)) → (device b ≡ true → row ≡ []) → Keeps (apply (K Idle) (pick t (Ask b) Wait))
    ask_kept r b h e true t g d =
        let lt : length ks < 4 = t refl in
        let v' = ask_data (some (reads b)) v in
        let fa : final v' row ≡ final v row = final_ask v b row in
        let dn : dues v' ≡ dues v ++ (due (flushed v) (reads b) ∷ []) = settled_laws.asked (some (reads b)) v in
        let same : due (flushed v) (reads b) ≡ due (final v' row) (reads b) = due_same (flushed v) (final v' row) b (λ n. g n ∙ ap (λ (x : Mem). x (b / 4)) (sym fa)) in
        let ct = tags_count Idle (final v row) ks (dues v) h.tags in
        record {
          fetched = h.fetched;
          tags = subst (λ ds. Tags (Waiting b) (final v' row) (ks ++ (ForLoad ∷ [])) ds) (ap (λ x. dues v ++ (x ∷ [])) (sym same) ∙ sym dn) (acks_load (due (final v' row) (reads b)) ks (dues v) h.tags);
          few = omega (arith, length-append v.datas (reads b ∷ []), settled_laws.number v);
          room = h.room;
          runs = subst (λ (g : Mem). Runs c m a (record { regs = gs; pc = p; fetch = f; lsu = record { row = row; opens = ks ++ (ForLoad ∷ []); load = Waiting b }; stop = none }) g v.told v.rets v'.evs) (sym fa)
              (record {
                at = h.runs.at;
                done = h.runs.done;
                did = ask_evs v.evs (run c (first a m v.told) (length v.rets)).evs row b (device b) d h.runs.did;
                works = (r, e);
                halts = tt;
              });
        }
      where
        due_same : (g h : Mem) (b : ℕ) → (device b ≡ false → g (b / 4) ≡ h (b / 4)) → due g (reads b) ≡ due h (reads b)
        due_same g h b e = by (device b) e
          where
            by : (dv : Bool) → (dv ≡ false → g (b / 4) ≡ h (b / 4)) → pick dv from_device (that_word (g (b / 4))) ≡ pick dv from_device (that_word (h (b / 4)))
            by true e = refl
            by false e = ap that_word (e refl)
    ask_kept r b h e false t g d = h

    answered_kept : (r : Reg) (b d x : ℕ) → Inv c m a (K (Answered d x)) v → outcome ≡ Loads r b → d ≡ b → Keeps (apply (K (Answered d x)) (Write r x (add p 4)))
    answered_kept r b d x h e q =
        retire_kept c m a (K (Answered d x)) v w us ws refl h.tags h (put gs r.number x) (add p 4) row (record { pc = p; reg = r.number; val = pick (eqb r.number 0) 0 x }) (asked_ev (Answered d x))
        (steps (Answered d x) (Loads r d) (e ∙ ap (Loads r) (sym q)) ∙ answered_is (here (Answered d x)) r.number d x (device d) h.runs.works.2 refl)
        h.runs.did h.room

    device_kept : (r : Reg) (b : ℕ) → Inv c m a (K Idle) v → outcome ≡ Loads r b → device b ≡ true → (t : Bool) → (t ≡ true → length ks < 4) → (rr : List Store) → row ≡ rr → Keeps (apply (K Idle) (pick t (if_drained rr (Ask b)) Wait))
    device_kept r b h e dv true t [] q = ask_kept r b h e true t (λ n. absurd (true≢false (sym dv ∙ n))) (λ n. q)
    device_kept r b h e dv true t (s ∷ rr) q = h
    device_kept r b h e dv false t rr q = h

    data_kept : (r : Reg) (b : ℕ) → Inv c m a (K Idle) v → outcome ≡ Loads r b → device b ≡ false → (t : Bool) → (t ≡ true → length ks < 4) → (o : Option ℕ) → lookup row b ≡ o
        → Keeps (apply (K Idle) (opt o (pick t (Ask b) Wait) (λ x. Write r x (add p 4))))
    data_kept r b h e dv t lt none q =
        ask_kept r b h e t lt (λ n. sym (lookup_right (flushed v) row b n ∙ ap (λ (o : Option ℕ). opt o (flushed v (b / 4)) (λ x. x)) q)) (λ n. absurd (true≢false (sym n ∙ dv)))
    data_kept r b h e dv t lt (some x) q =
        let is_x : final v row (b / 4) ≡ x = lookup_right (flushed v) row b dv ∙ ap (λ (o : Option ℕ). opt o (flushed v (b / 4)) (λ x. x)) q in
        retire_kept c m a (K Idle) v w us ws refl h.tags h (put gs r.number x) (add p 4) row (record { pc = p; reg = r.number; val = pick (eqb r.number 0) 0 x }) []
        (steps Idle (Loads r b) e
        ∙ ap (λ (d : Bool). pick d (asked (here Idle) r.number b []) (wrote (here Idle) r.number (final v row (b / 4)) (add p 4))) dv
        ∙ ap (λ (y : ℕ). wrote (here Idle) r.number y (add p 4)) is_x)
        h.runs.did h.room

    load_kept : (r : Reg) (b : ℕ) (l : Reading) → Inv c m a (K l) v → outcome ≡ Loads r b → Keeps (apply (K l) (loading (K l) r b l))
    load_kept r b (Waiting d) h e = h
    load_kept r b (Answered d x) h e = let q = h.runs.works.1 in answered_kept r b d x h e (cc)
    load_kept r b Idle h e = by (device b) refl
      where
        by : (dv : Bool) → device b ≡ dv → Keeps (apply (K Idle) (pick dv (pick (ltb (length ks) 4) (if_drained row (Ask b)) Wait) (opt (lookup row b) (pick (ltb (length ks) 4) (Ask b) Wait) (λ x. Write r x (add p 4)))))
        by true dv = device_kept r b h e dv (ltb (length ks) 4) (ltb-true (length ks) 4) row refl
        by false dv = data_kept r b h e dv (ltb (length ks) 4) (ltb-true (length ks) 4) (lookup row b) refl

    -- a requested load is the instruction at work, so that no other is
    not_load : (d : ℕ) (r : Reg) (x : Outcome) {A : Type 0} → outcome ≡ x → outcome ≡ Loads r d → is_load x ≡ false → A
    not_load d r x e q n = absurd (no_load outcome x r d e q n)

    act_kept : (l : Reading) → Inv c m a (K l) v → (x : Outcome) → outcome ≡ x → Keeps (apply (K l) (act (K l) x))
    act_kept l h (Loads r b) e = load_kept r b l h e
    act_kept Idle h (Writes r x b) e = retire_kept c m a (K Idle) v w us ws refl h.tags h (put gs r.number x) b row _ [] (steps Idle (Writes r x b) e) h.runs.did h.room
    act_kept Idle h (Jumps b) e = retire_kept c m a (K Idle) v w us ws refl h.tags h gs b row _ [] (steps Idle (Jumps b) e) h.runs.did h.room
    act_kept Idle h (Stores b x) e = push_kept b x h e (ltb (length row) 8) (ltb-true (length row) 8)
    act_kept Idle h (Halts s) e = halt_kept s h e row refl
    act_kept (Waiting d) h (Writes r x b) e = not_load d h.runs.works.0 (Writes r x b) e h.runs.works.1 refl
    act_kept (Waiting d) h (Jumps b) e = not_load d h.runs.works.0 (Jumps b) e h.runs.works.1 refl
    act_kept (Waiting d) h (Stores b x) e = not_load d h.runs.works.0 (Stores b x) e h.runs.works.1 refl
    act_kept (Waiting d) h (Halts s) e = not_load d h.runs.works.0 (Halts s) e h.runs.works.1 refl
    act_kept (Answered d y) h (Writes r x b) e = not_load d h.runs.works.0 (Writes r x b) e h.runs.works.1 refl
    act_kept (Answered d y) h (Jumps b) e = not_load d h.runs.works.0 (Jumps b) e h.runs.works.1 refl
    act_kept (Answered d y) h (Stores b x) e = not_load d h.runs.works.0 (Stores b x) e h.runs.works.1 refl
    act_kept (Answered d y) h (Halts s) e = not_load d h.runs.works.0 (Halts s) e h.runs.works.1 refl

  abbrev with_stop : Model → Option ℕ → Model
  with_stop k o = record { regs = k.regs; pc = k.pc; fetch = k.fetch; lsu = k.lsu; stop = o }

  word_kept : (k : Model) → Inv c m a (with_stop k none) v → (xs : List ℕ) → k.fetch.words ≡ xs → Keeps (apply (with_stop k none) (work_on (with_stop k none) xs))
  word_kept k h [] q = h
  word_kept k h (w ∷ us) q =
      act_kept k.regs k.pc k.fetch k.lsu.row k.lsu.opens w us q k.lsu.load h (work k.regs k.pc w)
      (ap (work k.regs k.pc) (sym (at_word c k.pc k.fetch.words _ _ w us q h.fetched.chain)))

  pub work_kept : (k : Model) → Inv c m a k v → Keeps (apply k (decide k))
  work_kept k h = by k.stop h
    where
      by : (o : Option ℕ) → Inv c m a (with_stop k o) v → Keeps (apply (with_stop k o) (decide (with_stop k o)))
      by none h = word_kept k h k.fetch.words refl
      by (some j) h = h
