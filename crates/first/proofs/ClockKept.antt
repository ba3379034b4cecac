-- The other rules keep the invariant, and so does a clock.
use Rattle.std.proofs.Common.{◌≡◌, ℕ, ◌<◌, Bool, true, false, ltb, List, [], ◌∷◌, ◌++◌, length, sym, refl, ◌∙◌, subst, append_assoc, arith, length-append}
use mathlib.Core.Option.{Option, some, none}
use Rattle.std.proofs.lemmas.Bool.{ltb-true}
use Rattle.isa.specs.Manual.{Code, Mem, Ev, Ret}
use Rattle.pins.specs.Ports.{In, Req, writes1}
use Rattle.pins.specs.View.{View, take_in, add_out, ask_data, want_code, show_stop, CodeAllowed, DataAllowed, Allowed}
use Rattle.pins.specs.View as view
use Rattle.pins.specs.Settled.{dues}
use Rattle.pins.proofs.Settling.{settled_laws}
use Rattle.pins.specs.declared.held.Store.{Store}
use Rattle.first.specs.declared.state.Open.{Open}
use Rattle.first.specs.declared.state.Open.TheVariants.{Acknowledgment}
use Rattle.pins.specs.declared.held.Reading.{Reading}
use Rattle.first.specs.Model.{Fetching, Model, decide, apply, take_code, latched, taken, drain, drain_one, drain_if, want, ending, model_next}
use Rattle.first.proofs.Fetched.{code_kept, want_kept}
use Rattle.first.proofs.Buffered.{write_ev, row_evs, final, final_drain}
use Rattle.first.proofs.Requested.{Tags, tags_store, tags_count}
use Rattle.first.proofs.Invariant.{Halts, Runs, Inv}
use Rattle.first.proofs.AnswerKept.{with_storing, answer_kept}
use Rattle.first.proofs.WorkKept.{did_view, work_kept}

abbrev with_fetching : Model → Fetching → Model
with_fetching k f = record { regs = k.regs; pc = k.pc; fetch = f; lsu = k.lsu; stop = k.stop }

module _ (c : Code) (m : Mem) (a : ℕ) where
  -- the run does not look at the fetch unit
  halts_fetch : (k : Model) (g : Mem) (f : Fetching) (o : Option ℕ) → Halts c k g o → Halts c (with_fetching k f) g o
  halts_fetch k g f none h = tt
  halts_fetch k g f (some j) h = h

  runs_fetch : (k : Model) (g : Mem) (f : Fetching) (told : List ℕ) (rets : List Ret) (evs : List Ev) → Runs c m a k g told rets evs → Runs c m a (with_fetching k f) g told rets evs
  runs_fetch k g f told rets evs h = record { at = h.at; done = h.done; did = h.did; works = h.works; halts = halts_fetch k g f k.stop h.halts }

  -- a word of code comes
  latch_kept : (k : Model) (v : View) (x : Option ℕ) → CodeAllowed c x v.codes → Inv c m a k v → Inv c m a (with_fetching k (take_code x k.fetch)) (view.take_code x v)
  latch_kept k v x r h =
      record {
        fetched = code_kept c k.pc x k.fetch v.codes r h.fetched;
        tags = h.tags;
        few = h.few;
        room = h.room;
        runs = runs_fetch k (final v k.lsu.row) (take_code x k.fetch) v.told v.rets v.evs h.runs;
      }

  -- the next word is wanted
  wanted_kept : (k : Model) (v : View) → Inv c m a k v → Inv c m a (with_fetching k (want k.fetch).fetch) (want_code (want k.fetch).want v)
  wanted_kept k v h =
      record {
        fetched = want_kept c k.pc k.fetch v.codes h.fetched;
        tags = h.tags;
        few = h.few;
        room = h.room;
        runs = runs_fetch k (final v k.lsu.row) (want k.fetch).fetch v.told v.rets v.evs h.runs;
      }

  -- a store goes out
  module _ (gs : List ℕ) (p : ℕ) (f : Fetching) (ks : List Open) (l : Reading) (st : Option ℕ) (v : View) where
    abbrev K : List Store → Model
    K row = record { regs = gs; pc = p; fetch = f; lsu = record { row = row; opens = ks; load = l }; stop = st }

    -- a core that has stopped has no store
    halts_row : (g : Mem) (s : Store) (row : List Store) (k' : Model) (o : Option ℕ) → Halts c (K (s ∷ row)) g o → Halts c k' g o
    halts_row g s row k' none h = tt
    halts_row g s row k' (some j) h = let e = h.2 in let z : ◌≡◌ {A = ℕ} 0 1 = cc in absurd (omega arith)

    sent_kept : (s : Store) (row : List Store) (b : Bool) → (b ≡ true → length ks < 4) → Inv c m a (K (s ∷ row)) v
        → Inv c m a (with_storing (K (s ∷ row)) (drain_if (record { row = s ∷ row; opens = ks; load = l }) s row b).lsu) (ask_data (drain_if (record { row = s ∷ row; opens = ks; load = l }) s row b).req v)
    sent_kept s row true t h =
        let r = some (writes1 s.address s.value) in
        let v' = ask_data r v in
        let fd : final v' row ≡ final v (s ∷ row) = final_drain v s row in
        let k' : Model = record { regs = gs; pc = p; fetch = f; lsu = record { row = row; opens = ks ++ (Acknowledgment ∷ []); load = l }; stop = st } in
        let lt : length ks < 4 = t refl in
        let ct = tags_count l (final v (s ∷ row)) ks (dues v) h.tags in
        record {
          fetched = h.fetched;
          tags = subst (λ (g : Mem). Tags l g (ks ++ (Acknowledgment ∷ [])) (dues v')) (sym fd)
              (subst (Tags l (final v (s ∷ row)) (ks ++ (Acknowledgment ∷ []))) (sym (settled_laws.asked r v)) (tags_store l (final v (s ∷ row)) ks (dues v) h.tags));
          few = omega (arith, length-append v.datas (writes1 s.address s.value ∷ []), settled_laws.number v);
          room = omega (arith, h.room);
          runs = subst (λ (g : Mem). Runs c m a k' g v.told v.rets v'.evs) (sym fd)
              (record {
                at = h.runs.at;
                done = h.runs.done;
                did = append_assoc v.evs (write_ev s ∷ []) (row_evs row) ∙ h.runs.did;
                works = h.runs.works;
                halts = halts_row (final v (s ∷ row)) s row k' st h.runs.halts;
              });
        }
    sent_kept s row false t h = h

    drain_kept : (row : List Store) → Inv c m a (K row) v → Inv c m a (with_storing (K row) (drain_one (K row).lsu row).lsu) (ask_data (drain_one (K row).lsu row).req v)
    drain_kept [] h = h
    drain_kept (s ∷ row) h = sent_kept s row (ltb (length ks) 4) (ltb-true (length ks) 4) h

  -- what the clock shows from there, with the request that the instruction made or else a store's
  drained_kept : (k : Model) (v : View) (r : Option Req) → Inv c m a k (ask_data r v) → Inv c m a (with_storing k (drain r k.lsu).lsu) (ask_data (drain r k.lsu).req v)
  drained_kept k v none h = drain_kept k.regs k.pc k.fetch k.lsu.opens k.lsu.load k.stop v k.lsu.row h
  drained_kept k v (some q) h = h

  pub clock_kept : (k : Model) (v : View) (i : In) → Allowed c v i → Inv c m a k v → Inv c m a (model_next k i).core (add_out (model_next k i).out (take_in i v))
  clock_kept k v i r h =
      let d = apply (taken k i) (decide (taken k i)) in
      let v1 = view.take_data i.data1 v in
      let after_work = work_kept c m a v1 (taken k i) (answer_kept c m a k v i.data1 r.data1 h) in
      let after_code = latch_kept d.core (did_view d v1) i.code r.code after_work in
      let l = latched i.code d in
      let v2 = view.retire d.rets (take_in i v) in
      let after_drain = drained_kept l.core v2 d.req after_code in
      shown (ending l).core _ (wanted_kept (with_storing l.core (drain d.req l.core.lsu).lsu) (ask_data (drain d.req l.core.lsu).req v2) after_drain)
    where
      -- what was shown of stopping says nothing of the core
      shown : (k : Model) (v : View) {o : Option ℕ} → Inv c m a k v → Inv c m a k (show_stop o v)
      shown k v h = record { fetched = h.fetched; tags = h.tags; few = h.few; room = h.room; runs = h.runs }
