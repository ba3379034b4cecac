-- The rule that takes an answer to a request keeps the invariant.
use Rattle.std.proofs.Common.{◌≡◌, ℕ, ◌/◌, ◌≤◌, Bool, true, false, List, [], ◌∷◌, ◌++◌, length, sym, refl, ap, ◌∙◌, subst, append-nil, arith}
use mathlib.Core.Option.{Option, some, none}
use Rattle.isa.specs.Words.{pick}
use Rattle.isa.specs.Manual.{Code, Mem, device, S, Ret, Ev, asks, Run, run}
use Rattle.isa.specs.Traces.{effects}
use Rattle.isa.specs.Runs.{At, more_answers}
use Rattle.isa.proofs.RunSteps.{goes_not_stops}
use Rattle.isa.proofs.MoreAnswers.{answer_laws}
use Rattle.pins.specs.Ports.{reads}
use Rattle.pins.specs.View.{View, pop, DataAllowed}
use Rattle.pins.specs.View as view
use Rattle.pins.specs.Settled.{Due, any_word, from_device, that_word, due, dues, Meets, tells}
use Rattle.pins.proofs.Settling.{settled_laws}
use Rattle.pins.specs.declared.held.Store.{Store}
use Rattle.first.specs.declared.state.Open.{Open}
use Rattle.first.specs.declared.state.Open.TheVariants.{Acknowledgment, Load as ForLoad}
use Rattle.pins.specs.declared.held.Reading.{Reading}
use Rattle.pins.specs.declared.held.Reading.TheVariants.{Idle, Waiting, Answered}
use Rattle.first.specs.Model.{Fetching, Storing, Model, answer, take_data}
use Rattle.first.proofs.Buffered.{row_evs, final}
use Rattle.first.proofs.Requested.{Tags}
use Rattle.first.proofs.Invariant.{Halts, Runs, Inv}

abbrev pub with_storing : Model → Storing → Model
with_storing k d = record { regs = k.regs; pc = k.pc; fetch = k.fetch; lsu = d; stop = k.stop }

-- the run with one more word of a device behind
pub record More (c : Code) (s : S) (n : ℕ) (u : S) (xs : List ℕ) : Type 0 where
  pub at : At c (more_answers s xs) n (more_answers u xs)
  pub rets : (run c s n).rets ≡ (run c (more_answers s xs) n).rets
  pub evs : (run c s n).evs ≡ (run c (more_answers s xs) n).evs

pub more_run : {c : Code} {s u : S} {n : ℕ} (xs : List ℕ) → At c s n u → More c s n u xs
more_run {c} {s} {u} {n} xs h =
    let e = answer_laws.run c s xs n (λ q. goes_not_stops h.is q) in
    record { at = answer_laws.at xs h; rets = sym (ap (λ (r : Run). r.rets) e); evs = sym (ap (λ (r : Run). r.evs) e) }

-- the load's answer is a word of the device, or what memory holds
abbrev Answers : Mem → ℕ → ℕ → Type 0
Answers f b x = device b ≡ false → x ≡ f (b / 4)

answers_due : (f : Mem) (b x : ℕ) (e : Due) (ds : List Due) → e ≡ due f (reads b) → Meets (some x) (e ∷ ds) → Answers f b x
answers_due f b x e ds q h n = by (device b) n (subst (λ d. Meets (some x) (d ∷ ds)) q h)
  where
    by : (d : Bool) → d ≡ false → Meets (some x) (pick d from_device (that_word (f (b / 4))) ∷ ds) → x ≡ f (b / 4)
    by true n h = let z : ◌≡◌ {A = ℕ} 0 1 = cc in absurd (omega arith)
    by false n h = h.1

told_due : (f : Mem) (b x : ℕ) (e : Due) (ds : List Due) → e ≡ due f (reads b) → tells (some x) (e ∷ ds) ≡ pick (device b) (x ∷ []) []
told_due f b x e ds q = ap (λ d. tells (some x) (d ∷ ds)) q ∙ by (device b)
  where
    by : (d : Bool) → tells (some x) (pick d from_device (that_word (f (b / 4))) ∷ ds) ≡ pick d (x ∷ []) []
    by true = refl
    by false = refl

module _ (c : Code) (m : Mem) (a : ℕ) (gs : List ℕ) (p : ℕ) (f : Fetching) (row : List Store) (st : Option ℕ) where
  abbrev K : List Open → Reading → Model
  K ks l = record { regs = gs; pc = p; fetch = f; lsu = record { row = row; opens = ks; load = l }; stop = st }

  -- only a store's acknowledgment: nothing but the queue changes
  runs_acked : (ks ks' : List Open) (l : Reading) (g : Mem) (told : List ℕ) (rets : List Ret) (evs : List Ev) → Runs c m a (K ks l) g told rets evs → Runs c m a (K ks' l) g (told ++ []) rets evs
  runs_acked ks ks' l g told rets evs h =
      let r : Runs c m a (K ks' l) g told rets evs = record { at = h.at; done = h.done; did = h.did; works = h.works; halts = h.halts } in
      subst (λ (ts : List ℕ). Runs c m a (K ks' l) g ts rets evs) (sym (append-nil told)) r

  halts_never : (g : Mem) (k' : Model) (g' : Mem) (ks : List Open) (b : ℕ) (o : Option ℕ) → Halts c (K ks (Waiting b)) g o → Halts c k' g' o
  halts_never g k' g' ks b none h = tt
  halts_never g k' g' ks b (some j) h = let e = h.3 in let z : ◌≡◌ {A = ℕ} 0 1 = cc in absurd (omega arith)

  runs_answered : (ks ks' : List Open) (b x : ℕ) (g : Mem) (told : List ℕ) (rets : List Ret) (evs : List Ev) → Answers g b x
      → Runs c m a (K ks (Waiting b)) g told rets evs → Runs c m a (K ks' (Answered b x)) g (told ++ pick (device b) (x ∷ []) []) rets evs
  runs_answered ks ks' b x g told rets evs q h =
      let r = more_run (pick (device b) (x ∷ []) []) h.at in
      record {
        at = r.at;
        done = h.done ∙ r.rets;
        did = h.did ∙ ap (λ (l : List Ev). l ++ pick (device b) (asks b ∷ []) []) r.evs;
        works = (h.works.0, h.works.1, q);
        halts = halts_never g (K ks' (Answered b x)) g ks b st h.halts;
      }

  -- what an answer does, by the oldest open request
  abbrev after : ℕ → List Open → Reading → Storing
  after x ks l = answer x (record { row = row; opens = ks; load = l }) ks

  pub record Taken (g : Mem) (x : ℕ) (ks : List Open) (l : Reading) (ds : List Due) (told : List ℕ) (rets : List Ret) (evs : List Ev) : Type 0 where
    pub row_is : (after x ks l).row ≡ row
    pub tags : Tags (after x ks l).load g (after x ks l).opens (pop (some x) ds)
    pub runs : Runs c m a (with_storing (K ks l) (after x ks l)) g (told ++ tells (some x) ds) rets evs

  pub taken : (g : Mem) (x : ℕ) (ks : List Open) (l : Reading) (ds : List Due) (told : List ℕ) (rets : List Ret) (evs : List Ev)
      → Meets (some x) ds → Tags l g ks ds → Runs c m a (K ks l) g told rets evs → Taken g x ks l ds told rets evs
  taken g x ks l [] told rets evs n t h = absurd n
  taken g x [] Idle (d ∷ ds) told rets evs n t h = absurd t
  taken g x [] (Waiting b) (d ∷ ds) told rets evs n t h = absurd t
  taken g x [] (Answered b y) (d ∷ ds) told rets evs n t h = absurd t
  taken g x (Acknowledgment ∷ ks) Idle (any_word ∷ ds) told rets evs n t h = record { row_is = refl; tags = t; runs = runs_acked (Acknowledgment ∷ ks) ks Idle g told rets evs h }
  taken g x (Acknowledgment ∷ ks) (Waiting b) (any_word ∷ ds) told rets evs n t h = record { row_is = refl; tags = t; runs = runs_acked (Acknowledgment ∷ ks) ks (Waiting b) g told rets evs h }
  taken g x (Acknowledgment ∷ ks) (Answered b y) (any_word ∷ ds) told rets evs n t h = record { row_is = refl; tags = t; runs = runs_acked (Acknowledgment ∷ ks) ks (Answered b y) g told rets evs h }
  taken g x (Acknowledgment ∷ ks) Idle (from_device ∷ ds) told rets evs n t h = absurd t
  taken g x (Acknowledgment ∷ ks) (Waiting b) (from_device ∷ ds) told rets evs n t h = absurd t
  taken g x (Acknowledgment ∷ ks) (Answered b y) (from_device ∷ ds) told rets evs n t h = absurd t
  taken g x (Acknowledgment ∷ ks) Idle (that_word z ∷ ds) told rets evs n t h = absurd t
  taken g x (Acknowledgment ∷ ks) (Waiting b) (that_word z ∷ ds) told rets evs n t h = absurd t
  taken g x (Acknowledgment ∷ ks) (Answered b y) (that_word z ∷ ds) told rets evs n t h = absurd t
  taken g x (ForLoad ∷ ks) Idle (d ∷ ds) told rets evs n t h = absurd t
  taken g x (ForLoad ∷ ks) (Answered b y) (d ∷ ds) told rets evs n t h = absurd t
  taken g x (ForLoad ∷ ks) (Waiting b) (d ∷ ds) told rets evs n (e, t) h =
      record {
        row_is = refl;
        tags = t;
        runs = subst (λ (ts : List ℕ). Runs c m a (K ks (Answered b x)) g (told ++ ts) rets evs) (sym (told_due g b x d ds e)) (runs_answered (ForLoad ∷ ks) ks b x g told rets evs (answers_due g b x d ds e n) h);
      }

pop_length : (x : ℕ) (ds : List Due) → length (pop (some x) ds) ≤ length ds
pop_length x [] = omega arith
pop_length x (d ∷ ds) = omega arith

pub answer_kept : (c : Code) (m : Mem) (a : ℕ) (k : Model) (v : View) (i : Option ℕ) → DataAllowed v.mem i v.datas → Inv c m a k v → Inv c m a (with_storing k (take_data i k.lsu)) (view.take_data i v)
answer_kept c m a k v none r h = h
answer_kept c m a k v (some x) r h =
    let t = taken c m a k.regs k.pc k.fetch k.lsu.row k.stop (final v k.lsu.row) x k.lsu.opens k.lsu.load (dues v) v.told v.rets v.evs (settled_laws.meets (some x) v r) h.tags h.runs in
    let d = take_data (some x) k.lsu in
    let v' = view.take_data (some x) v in
    let mem : final v' d.row ≡ final v k.lsu.row = ap (final v') t.row_is ∙ ap (λ (n : Mem). effects n (row_evs k.lsu.row)) (settled_laws.flushed_answered (some x) v) in
    let due_now = settled_laws.answered (some x) v in
    record {
      fetched = h.fetched;
      tags = subst (λ (g : Mem). Tags d.load g d.opens (dues v')) (sym mem) (subst (Tags d.load (final v k.lsu.row) d.opens) (sym due_now) t.tags);
      few = omega (arith, settled_laws.number v, settled_laws.number v', ap length due_now, pop_length x (dues v), h.few);
      room = subst (λ (l : List Store). length l ≤ 8) (sym t.row_is) h.room;
      runs = subst (λ (g : Mem). Runs c m a (with_storing k d) g v'.told v.rets v.evs) (sym mem)
          (subst (λ (ts : List ℕ). Runs c m a (with_storing k d) (final v k.lsu.row) ts v.rets v.evs) (sym (settled_laws.told (some x) v)) t.runs);
    }
