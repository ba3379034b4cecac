-- The pipeline's schedule is fair.
use Rattle.std.proofs.Common.{◌≡◌, ℕ, ◌/◌, ◌<◌, ◌≤◌, Bool, true, false, not, ◌&&◌, ltb, ◌⊎◌, List, [], ◌∷◌, length, Some, None, sym, refl, ap, ◌∙◌, subst, inl, inr, arith, Option}
use mathlib.Core.Option.{some, none}
use Rattle.std.proofs.lemmas.Bool.{ltb-false, lt-ltb}
use Rattle.isa.specs.Words.{pick, add}
use Rattle.isa.specs.Manual.{device}
use Rattle.isa.specs.declared.reg.Reg.{Reg}
use Rattle.isa.specs.declared.execute.Outcome.{Outcome}
use Rattle.isa.specs.declared.execute.Outcome.TheVariants.{Write as Writes, Jump as Jumps, Load as Loads, Store as Stores, Halt as Halts}
use Rattle.pins.specs.Ports.{In}
use Rattle.window.specs.declared.entry.Entry.{Entry}
use Rattle.window.specs.declared.entry.Source.TheVariants.{Memory}
use Rattle.window.specs.Newest.{row_source}
use Rattle.window.specs.Machine.{Core, retire, next_pc}
use Rattle.window.specs.Clocks.{retires, loads, drains, room, State, heard, ruled, chosen_port, posted, chosen_fetch, next}
use Rattle.window.specs.Rings.{size}
use Rattle.window.specs.Fairness.{has, any, load_open, needs_drain, Served, FairClock, Fair}
use Rattle.window.proofs.Cases.{clash}
use Rattle.window.proofs.Onward.{More, not_yet, not_loaded, Onward, onward_then, move_onward, HeadGrown, head_grown, head_more, nil_left}
use Rattle.window.proofs.Taken.{took}
use Rattle.window.proofs.OldestReady.{needs_less, head_needs, head_most, next_needs, not_ready, not_ready_before, uses_left, uses_most}
use Rattle.pipeline.specs.declared.stages.Ask.{Ask}
use Rattle.pipeline.specs.declared.stages.Ask.TheVariants.{Device}
use Rattle.pipeline.specs.Step.{store_goes}
use Rattle.pipeline.specs.Schedule.{Tables, ask_port, schedule}
use Rattle.pipeline.proofs.OldestLearns.{stages_onward, learns}
use Rattle.pipeline.proofs.OldestAsks.{memory_stage, memory_ask, memory_onward, asks_device_read, halt_asks, asks_load, not_in_stores, port_for, goes_or_loads, goes_full, load_port}

module _ (z : State Tables) (i : In) where
  -- at the clock's beginning; after the answers; after writing; after the memory stage; after the rules
  abbrev k0 : Core
  k0 = z.core

  abbrev k1 : Core
  k1 = heard schedule z i

  abbrev kw : Core
  kw = (retire k1).core

  abbrev km : Core
  km = memory_stage kw

  abbrev k2 : Core
  k2 = (ruled schedule z i).core

  abbrev turn : Bool
  turn = z.tables.turn

  -- how many stores wait at the port
  abbrev waiting : ℕ
  waiting = length k2.stores

  -- does one of them go out? The stages after it leave what the memory stage asks for
  abbrev goes : Bool
  goes = store_goes turn waiting (memory_ask kw)

  drains_if : goes ≡ true → chosen_port schedule z i ≡ drains
  drains_if g = ap (λ b. pick b drains (ask_port (memory_ask kw))) g

  module _ (quiet : (ruled schedule z i).rets ≡ []) where
    none_retired1 : (retire k1).rets ≡ []
    none_retired1 = nil_left (retire k1).rets _ quiet

    on_write : Onward k1 kw
    on_write = move_onward retires k1 none_retired1

    on_last : Onward km k2
    on_last = stages_onward km

    on : Onward kw k2
    on = onward_then kw km k2 (memory_onward kw) on_last

    module _ (e : Entry) (es : List Entry) (w0 : k0.window ≡ e ∷ es) (d : Entry) (ds : List Entry) (w2 : k2.window ≡ d ∷ ds) where
      -- the oldest on its way
      h1 : HeadGrown e k1.window
      h1 = head_grown k0.window k1.window e es w0 (took i k0).window

      hw : HeadGrown h1.head kw.window
      hw = head_grown k1.window kw.window h1.head h1.tail h1.is on_write.window

      hm : HeadGrown hw.head km.window
      hm = head_grown kw.window km.window hw.head hw.tail hw.is (memory_onward kw).window

      m2 : More hm.head d
      m2 = head_more km.window k2.window hm.head d hm.tail ds hm.is w2 on_last.window

      -- with its word it has less to learn
      works : has e.word ≡ true → d.outcome ≡ None → head_needs (next schedule z i).core.window < head_needs k0.window
      works word od =
          let n = learns km hm.head hm.tail hm.is (not_yet hm.head d m2 od) (hm.more.word (hw.more.word (h1.more.word word))) d ds w2 od in
          let n1 = needs_less e h1.head h1.more in
          let nw = needs_less h1.head hw.head hw.more in
          let nm = needs_less hw.head hm.head hm.more in
          let a = next_needs schedule z i d ds w2 in
          let b = ap head_needs w0 in
          omega arith

      -- with its outcome known when the memory stage comes
      module _ (o : Outcome) (ow : hw.head.outcome ≡ Some o) where
        load_served : (r : Reg) (b : ℕ) → o ≡ Loads r b → device b ≡ false → d.loaded ≡ None → load_open 0 k2 ≡ false
            → (row_source (b / 4) Memory k2.stores ≡ Memory) × ((chosen_port schedule z i ≡ loads 0) ⊎ ((chosen_port schedule z i ≡ drains) × (0 < waiting)))
        load_served r b q dv dl unasked =
            let ol = ow ∙ ap Some q in
            let nl = ap any (sym on.loads) ∙ unasked in
            let ml = not_loaded hm.head d m2 dl in
            let a = asks_load kw hw.head hm.head hw.tail hm.tail hw.is hm.is r b ol dv nl ml in
            let s = not_in_stores kw hw.head hm.head hw.tail hm.tail hw.is hm.is r b ol dv nl ml in (
              ap (row_source (b / 4) Memory) on.stores ∙ s,
              subst (λ (x : Option Ask). (port_for turn waiting x ≡ loads 0) ⊎ ((port_for turn waiting x ≡ drains) × (0 < waiting))) (sym a) (load_port turn waiting),
            )

        reads_device : (r : Reg) (b : ℕ) → o ≡ Loads r b → device b ≡ true → memory_ask kw ≡ Some Device
        reads_device r b q dv = asks_device_read kw hw.head hm.head hw.tail hm.tail hw.is hm.is r b (ow ∙ ap Some q) dv

      -- where it waits for stores, one goes
      drained : (o : Outcome) → hw.head.outcome ≡ Some o → needs_drain k2 o ≡ true → 0 < waiting → goes ≡ true
      drained (Writes r x b) ow n h = clash n refl
      drained (Jumps b) ow n h = clash n refl
      drained (Loads r b) ow n h = ap (store_goes turn waiting) (reads_device (Loads r b) ow r b refl (and_left (device b) _ n)) ∙ lt-ltb 0 waiting h
        where
          and_left : (a b : Bool) → a && b ≡ true → a ≡ true
          and_left true b h = refl
          and_left false b h = clash h refl
      drained (Stores b x) ow n h = goes_full turn waiting (memory_ask kw) (ltb-false waiting 8 (full (ltb waiting 8) n))
        where
          full : (b : Bool) → not b ≡ true → b ≡ false
          full true h = clash h refl
          full false h = refl
      drained (Halts s) ow n h = ap (store_goes turn waiting) (halt_asks kw hw.head hm.head hw.tail hm.tail hw.is hm.is s ow) ∙ lt-ltb 0 waiting h

      served : (o : Outcome) → e.outcome ≡ Some o → Served k0 k2 e d o (chosen_port schedule z i)
      served o eo =
          let o1 = h1.more.outcome o eo in
          let ow = hw.more.outcome o o1 in
          record {
            retires = not_ready_before i k0 e h1.head h1.more o (not_ready k1 h1.head h1.tail o h1.is o1 none_retired1);
            loads = load_served o ow;
            reads = λ r b q dv _ st j. port_for turn (length (st j)) (reads_device o ow r b q dv j);
            drains = λ n h. drains_if (drained o ow n h);
          }

  -- the stores' turn
  abbrev later_turn : Bool
  later_turn = (next schedule z i).tables.turn

  fair_turn : 0 < waiting → room k2 ≡ true → (chosen_port schedule z i ≡ drains) ⊎ (uses_left later_turn < uses_left turn)
  fair_turn n r = by goes refl (goes_or_loads turn waiting (memory_ask kw) n)
    where
      by : (b : Bool) → goes ≡ b → (goes ≡ true) ⊎ (turn ≡ false) → (chosen_port schedule z i ≡ drains) ⊎ (uses_left later_turn < uses_left turn)
      by true g x = inl (drains_if g)
      by false g (inl h) = clash h g
      by false g (inr t) =
          let a = ap uses_left t in
          let b : uses_left later_turn ≡ 0 = λ j. uses_left (pick (r j) (not (g j)) turn) in
          inr (omega arith)

  turn_stays : room k2 ≡ false → uses_left later_turn ≤ uses_left turn
  turn_stays r = let a : uses_left later_turn ≡ uses_left turn = ap (λ b. uses_left (pick b (not goes) turn)) r in omega arith

  fetches : (posted schedule z i).core.window ≡ [] → (g : ℕ) × (chosen_fetch schedule z i ≡ some g)
  fetches w = let g = add (next_pc (posted schedule z i).core) 4 in (g, ap (λ (es : List Entry). pick (ltb (length es) size) (some g) none) w)

  fair_clock : FairClock schedule (λ y. head_needs y.core.window) (λ y. 0) (λ y. uses_left y.tables.turn) z i
  fair_clock = record {
    works = λ q e es w0 word eo d ds w2 od. works q e es w0 d ds w2 word od;
    serves = λ q e es w0 o eo d ds w2 od. inr (omega arith, served q e es w0 d ds w2 o eo);
    fetches = λ _ w. fetches w;
    turn = fair_turn;
    turn_kept = turn_stays;
  }

pub fair : Fair schedule
fair = record {
  work = λ z. head_needs z.core.window;
  late = λ z. 0;
  turns = λ z. uses_left z.tables.turn;
  work_most = λ z. head_most z.core.window;
  late_most = λ z. omega arith;
  turns_most = λ z. uses_most z.tables.turn;
  clocks = λ c m a h z i _ _. fair_clock z i;
}
