-- The pipeline's clock is the machine's at its schedule.
use Rattle.std.proofs.Common.{◌≡◌, not, List, [], ◌∷◌, ◌++◌, length, Some, None, Option, sym, refl, ap, ◌∙◌, subst}
use Rattle.isa.specs.Words.{pick}
use Rattle.pins.specs.Ports.{In}
use Rattle.pins.specs.PortWords.{inputs_of, done_list, shown}
use Rattle.pins.specs.declared.ports.Inputs.{Inputs}
use Rattle.pins.specs.declared.ports.Retired.{Retired}
use Rattle.window.specs.Machine.{Core, learn, read_left, read_right, execute, forward, retire, halted}
use Rattle.window.specs.Clocks.{Move, drains, move, answered, request_if, room, want, State, machine as window_machine, ruled}
use Rattle.window.specs.Clocks as clocks
use Rattle.window.specs.Datapaths.{lists, SizedDatapath}
use Rattle.window.specs.Retiring.{done, rets_of}
use Rattle.window.specs.Refining.{RefinesWith}
use Rattle.window.proofs.DatapathList.{datapath_laws}
use Rattle.window.proofs.RetiringList.{retiring_laws}
use Rattle.window.proofs.AskingList.{asking_laws}
use Rattle.pipeline.specs.declared.state.Core.{Core as Pipeline}
use Rattle.pipeline.specs.declared.stages.Ask.{Ask}
use Rattle.pipeline.specs.Stages.{ask_of}
use Rattle.pipeline.specs.Step.{done_of, heard, wrote, ask, staged, posted, port_request, fetch_stage, fetch_want, store_goes, next, outputs}
use Rattle.pipeline.specs.Schedule.{tables, at_memory, at_execute, at_read, the_entry, redirect_move, ask_port, schedule}
use Rattle.pipeline.specs.Stands.{machine, window_of}
use Rattle.pipeline.proofs.Staged.{Is, code_is, data_is, retire_is, memory_is, ask_is, redirect_rets, execute_is, read_is}
use Rattle.pipeline.proofs.AtPort.{Asks, port_is, turn_is, Fetches, fetch_is}

module _ (k : Pipeline) (j : In) (sized : SizedDatapath k.path) where
  abbrev i : Inputs
  i = inputs_of j

  -- the machine's states within the clock
  abbrev c1 : Core
  c1 = answered j (lists k.path)

  abbrev c2 : Core
  c2 = (retire c1).core

  abbrev c3 : Core
  c3 = learn forward (at_memory c2) c2

  abbrev c4 : Core
  c4 = learn execute (at_execute c3) c3

  abbrev c5 : Core
  c5 = (move (redirect_move c4 (at_execute c3)) c4).core

  abbrev c6 : Core
  c6 = learn read_right (at_read c5) (learn read_left (at_read c5) c5)

  abbrev asks : Option Ask
  asks = ask_of (at_memory c2) (the_entry c3 (at_memory c2))

  heard_is : Is (heard k i) c1
  heard_is = data_is _ _ j.data1 (code_is _ _ j.code (record { sized = sized; lists = refl }))

  wrote_is : Is (wrote k i) c2
  wrote_is = retire_is _ _ heard_is

  staged_is : Is (staged k i).path c6
  staged_is = read_is _ _ (execute_is _ _ (memory_is _ _ wrote_is))

  asks_is : ask k i ≡ asks
  asks_is = ask_is _ _ wrote_is

  posted_is : Asks (posted k i).path (port_request (staged k i) (ask k i)) (clocks.posted schedule (window_of k) j)
  posted_is = subst (λ a. Asks (posted k i).path (port_request (staged k i) (ask k i)) (request_if (room c6) (pick (store_goes k.turn (length c6.stores) a) drains (ask_port a)) c6)) asks_is
      (port_is (staged k i) c6 (ask k i) staged_is)

  turned : (posted k i).turn ≡ pick (room c6) (not (store_goes k.turn (length c6.stores) asks)) k.turn
  turned = turn_is (staged k i) c6 (ask k i) staged_is ∙ ap (λ a. pick (room c6) (not (store_goes k.turn (length c6.stores) a)) k.turn) asks_is

  abbrev c7 : Core
  c7 = (clocks.posted schedule (window_of k) j).core

  fetched_is : Fetches (fetch_stage (posted k i).path) (fetch_want (posted k i).path) (clocks.fetched schedule (window_of k) j).core (clocks.fetched schedule (window_of k) j).code
  fetched_is = fetch_is (posted k i).path c7 posted_is.path

  -- what is done
  shown_done : (r : Option Retired) → done_list (done_of r) ≡ rets_of r
  shown_done None = refl
  shown_done (Some r) = refl

  append_none : {A : Type 0} (xs : List A) → xs ++ [] ≡ xs
  append_none [] = refl
  append_none (x ∷ xs) = ap (λ ys. x ∷ ys) (append_none xs)

  rets_is : done_list (done_of (done (heard k i))) ≡ (ruled schedule (window_of k) j).rets
  rets_is =
      shown_done (done (heard k i)) ∙ retiring_laws.shows (heard k i) heard_is.sized ∙ ap (λ c. (retire c).rets) heard_is.lists
      ∙ sym (ap (λ ts. (retire c1).rets ++ (ts ++ [])) (redirect_rets c4 (at_execute c3)) ∙ append_none (retire c1).rets)

  pub next_same : window_of (next k i) ≡ clocks.next schedule (window_of k) j
  unfolding next
  next_same = λ n. record { core = fetched_is.path.lists n; tables = tables (turned n) }

  pub out_same : shown (outputs k i) ≡ clocks.shown schedule (window_of k) j
  unfolding outputs next
  out_same = λ n. record {
    code = fetched_is.code n;
    data1 = posted_is.req n;
    rets = rets_is n;
    stopped = (asking_laws.stops (fetch_stage (posted k i).path) ∙ ap halted fetched_is.path.lists) n;
  }

  pub next_sized : SizedDatapath (next k i).path
  unfolding next
  next_sized = fetched_is.path.sized

pub refines : RefinesWith machine (window_machine schedule) window_of (λ k. SizedDatapath k.path)
refines = record {
  first = λ a n. record { core = datapath_laws.start a n; tables = schedule.begin };
  good_first = λ a. datapath_laws.start_sized a;
  clocks = λ c m a h s j _ _ g. (record { next = next_same s j g; out = out_same s j g }, next_sized s j g);
}
