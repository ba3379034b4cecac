-- The first core goes on.
use Rattle.std.proofs.Common.{◌≡◌, ℕ, suc, ◌+◌, ◌/◌, ◌<◌, ◌≤◌, List, [], ◌∷◌, ◌++◌, length, sym, refl, ap, ◌∙◌, subst, arith, length-append}
use mathlib.Core.Option.{Option, some, none}
use Rattle.isa.specs.Words.{opt}
use Rattle.isa.specs.Manual.{Code, Mem}
use Rattle.isa.specs.Executing.{work}
use Rattle.pins.specs.Ports.{In, Out, Req}
use Rattle.pins.specs.Outside.{Io, O, Want, Wish, after, ev_of, evs, stopped}
use Rattle.pins.specs.Says.{here, GoesOn}
use Rattle.pins.specs.View.{View, view, pop, addrs, reqs, CodeAllowed, DataAllowed, Allowed}
use Rattle.pins.specs.View as views
use Rattle.pins.specs.Waits.{ages, ages1, aged, age0}
use Rattle.pins.specs.Reach.{clock_io, clocked}
use Rattle.pins.specs.Settled.{Due, dues}
use Rattle.pins.specs.Progress.{Point, around, Clock, Retires, Owes, DrainsEach, rank_each}
use Rattle.pins.specs.Progress as progress
use Rattle.pins.proofs.Histories.{history_laws}
use Rattle.pins.proofs.ViewClock.{view_laws}
use Rattle.pins.proofs.Waiting.{wait_laws}
use Rattle.pins.proofs.Settling.{settled_laws}
use Rattle.pins.proofs.Invariants.{invariant_laws}
use Rattle.pins.proofs.Progressing.{progress_laws}
use Rattle.first.specs.declared.state.Core.{Core}
use Rattle.pins.specs.declared.held.Reading.{Reading}
use Rattle.pins.specs.declared.held.Reading.TheVariants.{Idle, Waiting, Answered}
use Rattle.first.specs.declared.state.Action.TheVariants.{Wait}
use Rattle.first.specs.declared.state.Open.{Open}
use Rattle.first.specs.Layout.{decode}
use Rattle.first.specs.Model.{Model, taken, work_on, decide, act, loading, apply, model_next}
use Rattle.first.specs.Stands.{machine, Stands}
use Rattle.first.proofs.ModelOf.{model_of}
use Rattle.first.proofs.ClockModel.{clock_is, ClockIs}
use Rattle.first.proofs.Fetched.{at_word}
use Rattle.first.proofs.Buffered.{row_evs, row_evs_length, final}
use Rattle.first.proofs.Requested.{Tags, tags_count}
use Rattle.first.proofs.Invariant.{asked_ev, Works, Inv}
use Rattle.first.proofs.AnswerKept.{answer_kept}
use Rattle.first.proofs.AlwaysRight.{InvCore, invariant}
use Rattle.first.proofs.Left.{AskedFor, Young, young_codes, young_datas}
use Rattle.first.proofs.DataFalls.{Busy}
use Rattle.first.proofs.RankFalls.{rank, rank_most, Bounded, falls}
use Rattle.first.proofs.StoresOut.{to_wait, store_rank, store_most, store_falls, rows_kept}

-- lengths by addresses, requests and ages
addrs_ages : (ws : List Want) → length (addrs ws) ≡ length (ages ws)
addrs_ages [] = refl
addrs_ages (w ∷ ws) = ap suc (addrs_ages ws)

reqs_ages : (ws : List Wish) → length (reqs ws) ≡ length (ages1 ws)
reqs_ages [] = refl
reqs_ages (w ∷ ws) = ap suc (reqs_ages ws)

pop_length : {A : Type 0} (x : Option ℕ) (p : List A) (q : List ℕ) → length p ≡ length q → length (pop x p) ≡ length (pop x q)
pop_length none p q e = e
pop_length (some x) [] [] e = refl
pop_length (some x) [] (g ∷ q) e = absurd (omega arith)
pop_length (some x) (y ∷ p) [] e = absurd (omega arith)
pop_length (some x) (y ∷ p) (g ∷ q) e = omega arith

code_asked : (c : Code) (x : Option ℕ) (p q : List ℕ) → length p ≡ length q → CodeAllowed c x p → AskedFor x q
code_asked c none p q e r = tt
code_asked c (some x) [] q e r = absurd r
code_asked c (some x) (a ∷ p) [] e r = absurd (omega arith)
code_asked c (some x) (a ∷ p) (g ∷ q) e r = tt

data_asked : (m : Mem) (x : Option ℕ) (p : List Req) (q : List ℕ) → length p ≡ length q → DataAllowed m x p → AskedFor x q
data_asked m none p q e r = tt
data_asked m (some x) [] q e r = absurd r
data_asked m (some x) (a ∷ p) [] e r = absurd (omega arith)
data_asked m (some x) (a ∷ p) (g ∷ q) e r = tt

-- the invariant bounds the numbers
bounded_by : (c : Code) (m : Mem) (a : ℕ) (k : Model) (v : View) (qc qd : List ℕ) → length v.codes ≡ length qc → length v.datas ≡ length qd → Inv c m a k v → Bounded k qc qd
bounded_by c m a k v qc qd ec ed h =
    record {
      codes = h.fetched.count ∙ ec;
      few_codes = omega (arith, h.fetched.few);
      opens = tags_count k.lsu.load (final v k.lsu.row) k.lsu.opens (dues v) h.tags ∙ settled_laws.number v ∙ ed;
      few_datas = omega (arith, h.few);
      room = h.room;
    }

-- a load that was requested is open, and while it is nothing is done
busy_by : (p : Reading) (f : Mem) (ks : List Open) (ds : List Due) → Tags p f ks ds → Busy p ks
busy_by Idle f ks ds h = tt
busy_by (Answered a x) f ks ds h = tt
busy_by (Waiting a) f [] ds h = absurd h
busy_by (Waiting a) f (k ∷ ks) ds h = omega arith

waits_by : (c : Code) (m : Mem) (a l : ℕ) (k : Model) (v : View) → Inv c m a k v → to_wait l k.lsu.load ≡ 0 → decide k ≡ Wait
waits_by c m a l k v h z = by k.stop k.fetch.words refl
  where
    at_load : (p : Reading) → k.lsu.load ≡ p → to_wait l p ≡ 0 → Works c k.regs k.pc (final v k.lsu.row) p → (w : ℕ) → w ≡ c (k.pc / 4) → act k (work k.regs k.pc w) ≡ Wait
    at_load Idle e z n w q = absurd (omega arith)
    at_load (Answered b x) e z n w q = absurd (omega arith)
    at_load (Waiting b) e z (r, n) w q = ap (act k) (ap (work k.regs k.pc) q ∙ n) ∙ ap (loading k r b) e

    by : (o : Option ℕ) (ws : List ℕ) → k.fetch.words ≡ ws → opt o (work_on k ws) (λ j. Wait) ≡ Wait
    by (some j) ws e = refl
    by none [] e = refl
    by none (w ∷ us) e = at_load k.lsu.load refl z h.runs.works w (at_word c k.pc k.fetch.words _ _ w us e h.fetched.chain)

-- the ranks, over the core's state and the outside
abbrev core_rank : ℕ → Core → O → ℕ
core_rank l k o = rank l (model_of k) (ages o.codes) (ages1 o.datas)

abbrev core_store_rank : ℕ → Core → O → ℕ
core_store_rank l k o = store_rank l (model_of k) (ages1 o.datas)

abbrev owed : Core → ℕ
owed k = length (model_of k).lsu.row

module _ {l : ℕ} (p : Point machine l) where
  holds : InvCore p.code p.mem p.start p.state (view p.mem p.hist)
  holds = (invariant_laws invariant).holds p.reach

  point_bounded : Bounded (model_of p.state) (ages (around p).codes) (ages1 (around p).datas)
  point_bounded = bounded_by p.code p.mem p.start (model_of p.state) (view p.mem p.hist) (ages (around p).codes) (ages1 (around p).datas) (addrs_ages (around p).codes) (reqs_ages (around p).datas) holds.model

-- one clock, with the ages before and after it
module _ {l : ℕ} (x : Clock machine l) where
  abbrev p : Point machine l
  p = x.at

  abbrev k : Model
  k = model_of p.state

  abbrev i : In
  i = x.answers

  abbrev v : View
  v = view p.mem p.hist

  abbrev qc : List ℕ
  qc = ages (around p).codes

  abbrev qd : List ℕ
  qd = ages1 (around p).datas

  abbrev io : Io
  io = clock_io machine p.state i

  is : ClockIs p.state i (model_next k i)
  is = clock_is p.state i (holds p).sized

  allowed : Allowed p.code v i
  allowed = view_laws.allowed x.allowed

  -- with the answer to a request taken
  inside : Inv p.code p.mem p.start (taken k i) (views.take_data i.data1 v)
  inside = answer_kept p.code p.mem p.start k v i.data1 allowed.data1 (holds p).model

  inside_bounded : Bounded (taken k i) qc (pop i.data1 qd)
  inside_bounded = bounded_by p.code p.mem p.start (taken k i) (views.take_data i.data1 v) qc (pop i.data1 qd) (addrs_ages (around p).codes) (pop_length i.data1 v.datas qd (reqs_ages (around p).datas)) inside

  -- after it
  codes_later : ages (after (around p) io).codes ≡ aged i.code (age0 (model_next k i).out.code) qc
  codes_later = wait_laws.codes_aged (around p) io ∙ ap (λ (u : Out). aged i.code (age0 u.code) qc) is.out

  datas_later : ages1 (after (around p) io).datas ≡ aged i.data1 (age0 (model_next k i).out.data1) qd
  datas_later = wait_laws.datas_aged (around p) io ∙ ap (λ (u : Out). aged i.data1 (age0 u.data1) qd) is.out

  after_bounded : Bounded (model_next k i).core (aged i.code (age0 (model_next k i).out.code) qc) (aged i.data1 (age0 (model_next k i).out.data1) qd)
  after_bounded =
      let n = (invariant_laws invariant).holds (clocked i p.reach x.allowed) in
      let o = history_laws.outside_clock p.mem p.hist io in
      bounded_by p.code p.mem p.start (model_next k i).core (view p.mem (p.hist ++ (io ∷ []))) _ _
      (ap (λ (z : O). length (addrs z.codes)) o ∙ addrs_ages (after (around p) io).codes ∙ ap length codes_later)
      (ap (λ (z : O). length (reqs z.datas)) o ∙ reqs_ages (after (around p) io).datas ∙ ap length datas_later)
      (subst (λ (m : Model). Inv p.code p.mem p.start m (view p.mem (p.hist ++ (io ∷ [])))) is.core n.model)

  codes_young : Young l (aged i.code (age0 (model_next k i).out.code) qc)
  codes_young = subst (Young l) codes_later (young_codes l (after (around p) io).codes x.calm.0)

  datas_young : Young l (aged i.data1 (age0 (model_next k i).out.data1) qd)
  datas_young = subst (Young l) datas_later (young_datas l (after (around p) io).datas x.calm.1)

  rank_falls : (progress.shown x).rets ≡ [] → (progress.shown x).stopped ≡ none → core_rank l (progress.next_state x) (progress.next_around x) < core_rank l p.state (around p)
  rank_falls u w =
      let same : core_rank l (progress.next_state x) (progress.next_around x) ≡ rank l (model_next k i).core (aged i.code (age0 (model_next k i).out.code) qc) (aged i.data1 (age0 (model_next k i).out.data1) qd) =
      λ j. rank l (is.core j) (codes_later j) (datas_later j) in
      let f = falls l k i qc qd (point_bounded p) inside_bounded
      (busy_by (taken k i).lsu.load _ (taken k i).lsu.opens _ inside.tags)
      (code_asked p.code i.code v.codes qc (addrs_ages (around p).codes) allowed.code)
      (data_asked v.mem i.data1 v.datas qd (reqs_ages (around p).datas) allowed.data1)
      (young_codes l (around p).codes p.calm.0) codes_young datas_young after_bounded
      (sym (ap (λ (o : Out). o.rets) is.out) ∙ u) (sym (ap (λ (o : Out). o.stopped) is.out) ∙ w) in
      omega arith

  stop_stays : (j : ℕ) → stopped p.hist ≡ some j → (n : ℕ) × ((progress.shown x).stopped ≡ some n)
  stop_stays j e =
      let s : k.stop ≡ some j = sym (holds p).stop ∙ e in
      let w : decide (taken k i) ≡ Wait = ap (λ (o : Option ℕ). opt o (work_on (taken k i) (taken k i).fetch.words) (λ n. Wait)) s in
      (j, ap (λ (o : Out). o.stopped) is.out ∙ ap (λ y. (apply (taken k i) y).core.stop) w ∙ s)

  shows_same : progress.effects_shown x ≡ length (ev_of (model_next k i).out.data1)
  shows_same = ap (λ (o : Out). length (ev_of o.data1)) is.out

  stores_wait : to_wait l (taken k i).lsu.load ≡ 0 → decide (taken k i) ≡ Wait
  stores_wait z = waits_by p.code p.mem p.start l (taken k i) (views.take_data i.data1 v) inside z

  rd : AskedFor i.data1 qd
  rd = data_asked v.mem i.data1 v.datas qd (reqs_ages (around p).datas) allowed.data1

  store_rank_falls : 0 < owed p.state → progress.effects_shown x ≡ 0 → core_store_rank l (progress.next_state x) (progress.next_around x) < core_store_rank l p.state (around p)
  store_rank_falls r z =
      let same : core_store_rank l (progress.next_state x) (progress.next_around x) ≡ store_rank l (model_next k i).core (aged i.data1 (age0 (model_next k i).out.data1) qd) = λ j. store_rank l (is.core j) (datas_later j) in
      let f = store_falls l k i qc qd (point_bounded p) inside_bounded rd stores_wait r datas_young (sym shows_same ∙ z) in
      omega arith

  owed_kept : owed p.state ≤ owed (progress.next_state x) + progress.effects_shown x
  owed_kept =
      let n : owed (progress.next_state x) ≡ length (model_next k i).core.lsu.row = ap (λ (m : Model). length m.lsu.row) is.core in
      omega (arith, rows_kept l k i qc qd (point_bounded p) inside_bounded rd stores_wait, shows_same)

retires : Retires machine core_rank
retires =
    record {
      bounded = λ {l} p. omega (arith, rank_most l (model_of p.state) (ages (around p).codes) (ages1 (around p).datas) (point_bounded p));
      falls = λ x u w. rank_falls x u w;
      stays = λ x j e. stop_stays x j e;
    }

owes : Owes machine owed
owes =
    record {
      behind = λ p.
          let h = (holds p).model.runs.did in
          let k = model_of p.state in
          omega (arith, ap length h, length-append (evs p.hist) (row_evs k.lsu.row), row_evs_length k.lsu.row, length-append (here p.code p.mem p.start p.hist).evs (asked_ev k.lsu.load));
      kept = λ x. owed_kept x;
    }

drains : DrainsEach machine owed core_store_rank
drains =
    record {
      owes = owes;
      few = λ p. (point_bounded p).room;
      bounded = λ {l} p. omega (arith, store_most l (model_of p.state) (ages1 (around p).datas));
      waits = λ x r z. store_rank_falls x r z;
    }

pub goes_on : GoesOn Stands
goes_on = (progress_laws Core).goes_on machine decode core_rank owed (rank_each core_store_rank) retires ((progress_laws Core).each machine owed core_store_rank drains)
