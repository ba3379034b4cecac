-- The request port and fetching, on the datapath's arrays, are the machine's on the lists.
use Rattle.std.proofs.Common.{◌≡◌, ℕ, ◌<◌, Bool, true, false, cond, not, ◌&&◌, ltb, leb, length, Some, None, Option, sym, refl, ap, ◌∙◌, subst}
use mathlib.Core.Option.{Option as Opt, some, none}
use Rattle.std.proofs.lemmas.Bool.{ltb-true, leb-false, lt-ltb, le-ltb, leb-true}
use Rattle.isa.specs.Words.{pick, add}
use Rattle.pins.specs.PortWords.{plain, request_of}
use Rattle.pins.specs.declared.ports.Request.{Request}
use Rattle.window.specs.declared.datapath.Datapath.{Datapath}
use Rattle.window.specs.Machine.{Core, Asked, next_pc}
use Rattle.window.specs.Machine as rules
use Rattle.window.specs.Clocks.{drains, request, request_if, room, fetch_if, fetch_room, want}
use Rattle.window.specs.Rings.{size}
use Rattle.window.specs.Datapaths.{next_pc_of, wanted}
use Rattle.window.specs.Retiring.{drained, drain_request}
use Rattle.window.proofs.DatapathList.{datapath_laws}
use Rattle.window.proofs.RetiringList.{retiring_laws}
use Rattle.window.proofs.AskingList.{asking_laws}
use Rattle.window.proofs.QueueList.{queue_laws}
use Rattle.window.proofs.BufferList.{buffer_laws}
use Rattle.window.proofs.RingList.{ring_laws}
use Rattle.pipeline.specs.declared.state.Core.{Core as Pipeline}
use Rattle.pipeline.specs.declared.stages.Ask.{Ask}
use Rattle.pipeline.specs.declared.stages.Ask.TheVariants.{Load, Device}
use Rattle.pipeline.specs.Step.{store_goes, goes, asked_path, asked_request, ported, port_request, fetch_stage, fetch_want}
use Rattle.pipeline.specs.Step as step
use Rattle.pipeline.specs.Schedule.{ask_port}
use Rattle.pipeline.proofs.Staged.{Is}

-- a request: the datapath after it, what is asked
pub record Asks (k : Datapath) (q : Option Request) (a : Asked) : Type 0 where
  pub path : Is k a.core
  pub req : request_of q ≡ a.req

module _ (k : Pipeline) (c : Core) (a : Option Ask) (s : Is k.path c) where
  drain_asks : k.path.requests.count < 4 → Asks (drained k.path) (drain_request k.path) (rules.drain c)
  drain_asks l = record {
    path = record { sized = retiring_laws.drain_sized k.path s.sized; lists = retiring_laws.drains k.path s.sized l ∙ ap (λ c. (rules.drain c).core) s.lists };
    req = retiring_laws.asks k.path s.sized ∙ ap (λ c. (rules.drain c).req) s.lists;
  }

  ask_asks : k.path.requests.count < 4 → (a : Option Ask) → Asks (asked_path k.path a) (asked_request k.path a) (request (ask_port a) c)
  ask_asks l None = record { path = s; req = refl }
  ask_asks l (Some (Load n)) = record {
    path = record { sized = asking_laws.load_sized k.path n s.sized; lists = asking_laws.load k.path n s.sized l ∙ ap (λ c. (rules.ask_load n c).core) s.lists };
    req = asking_laws.load_asks k.path n s.sized l ∙ ap (λ c. (rules.ask_load n c).req) s.lists;
  }
  ask_asks l (Some Device) = record {
    path = record { sized = asking_laws.reading_sized k.path s.sized; lists = asking_laws.reading k.path s.sized l ∙ ap (λ c. (rules.ask_device c).core) s.lists };
    req = asking_laws.reading_asks k.path s.sized l ∙ ap (λ c. (rules.ask_device c).req) s.lists;
  }

  -- with room or without, a store or what the memory stage asks for
  abbrev after_port : Bool → Bool → Pipeline
  after_port r g = cond r (cond g (record { path = drained k.path; turn = false }) (record { path = asked_path k.path a; turn = true })) k

  abbrev the_request : Bool → Bool → Option Request
  the_request r g = cond r (cond g (drain_request k.path) (asked_request k.path a)) None

  port_by : (r g : Bool) → (r ≡ true → k.path.requests.count < 4) → Asks (after_port r g).path (the_request r g) (request_if r (pick g drains (ask_port a)) c)
  port_by true true l = drain_asks (l refl)
  port_by true false l = ask_asks (l refl) a
  port_by false g l = record { path = s; req = refl }

  turn_by : (r g : Bool) → (after_port r g).turn ≡ pick r (not g) k.turn
  turn_by true true = refl
  turn_by true false = refl
  turn_by false g = refl

  room_is : step.room k ≡ room c
  room_is = ap (λ n. ltb n 4) (sym (queue_laws.requests.count k.path.requests s.sized.requests) ∙ ap (λ (c : Core). length c.requests) s.lists)

  goes_is : goes k a ≡ store_goes k.turn (length c.stores) a
  goes_is = ap (λ n. store_goes k.turn n a) (sym (buffer_laws.list.count k.path.stores) ∙ ap (λ (c : Core). length c.stores) s.lists)

  pub port_is : Asks (ported k a).path (port_request k a) (request_if (room c) (pick (store_goes k.turn (length c.stores) a) drains (ask_port a)) c)
  port_is =
      subst (λ r. Asks (ported k a).path (port_request k a) (request_if r (pick (store_goes k.turn (length c.stores) a) drains (ask_port a)) c)) room_is
      (subst (λ g. Asks (ported k a).path (port_request k a) (request_if (step.room k) (pick g drains (ask_port a)) c)) goes_is
      (port_by (step.room k) (goes k a) (λ e. ltb-true k.path.requests.count 4 e)))

  pub turn_is : (ported k a).turn ≡ pick (room c) (not (store_goes k.turn (length c.stores) a)) k.turn
  turn_is = turn_by (step.room k) (goes k a) ∙ (λ j. pick (room_is j) (not (goes_is j)) k.turn)

-- fetching
pub record Fetches (k : Datapath) (w : Option ℕ) (c : Core) (p : Opt ℕ) : Type 0 where
  pub path : Is k c
  pub code : plain w ≡ p

module _ (k : Datapath) (c : Core) (s : Is k c) where
  next_is : next_pc_of k ≡ next_pc c
  next_is = datapath_laws.next_pc k ∙ ap next_pc s.lists

  abbrev straight : Bool → Opt ℕ
  straight f = pick (not f) (some (add (next_pc c) 4)) none

  fetch_by : (r f : Bool) → (r ≡ true → k.fetches.count < 4) → (f ≡ false → k.window.count < size)
      → Fetches (cond (r && not f) (wanted k (add (next_pc_of k) 4)) k) (cond (r && not f) (Some (next_pc_of k)) None) (fetch_if r (straight f) c).core (fetch_if r (straight f) c).code
  fetch_by true true lr lf = record { path = s; code = refl }
  fetch_by true false lr lf = record {
    path = record {
      sized = datapath_laws.fetch_sized k (add (next_pc_of k) 4) s.sized;
      lists = datapath_laws.fetch k (add (next_pc_of k) 4) s.sized (lf refl) (lr refl) ∙ (λ j. rules.fetch (add (next_is j) 4) (s.lists j));
    };
    code = ap some next_is;
  }
  fetch_by false true lr lf = record { path = s; code = refl }
  fetch_by false false lr lf = record { path = s; code = refl }

  fetch_room_is : ltb k.fetches.count 4 ≡ fetch_room c
  fetch_room_is = ap (λ n. ltb n 4) (sym (queue_laws.fetches.count k.fetches s.sized.fetches) ∙ ap (λ (c : Core). length c.fetches) s.lists)

  not_full : not (leb size k.window.count) ≡ ltb (length c.window) size
  not_full = by (leb size k.window.count) refl ∙ ap (λ n. ltb n size) (sym (ring_laws.list.count k.window) ∙ ap (λ (c : Core). length c.window) s.lists)
    where
      by : (b : Bool) → leb size k.window.count ≡ b → not b ≡ ltb k.window.count size
      by true e = sym (le-ltb k.window.count size (leb-true size k.window.count e))
      by false e = sym (lt-ltb k.window.count size (leb-false size k.window.count e))

  abbrev the_fetch : Opt ℕ
  the_fetch = pick (ltb (length c.window) size) (some (add (next_pc c) 4)) none

  pub fetch_is : Fetches (fetch_stage k) (fetch_want k) (want the_fetch c).core (want the_fetch c).code
  fetch_is =
      subst (λ g. Fetches (fetch_stage k) (fetch_want k) (want g c).core (want g c).code) (ap (λ b. pick b (some (add (next_pc c) 4)) none) not_full)
      (subst (λ r. Fetches (fetch_stage k) (fetch_want k) (fetch_if r (straight (leb size k.window.count)) c).core (fetch_if r (straight (leb size k.window.count)) c).code) fetch_room_is
      (fetch_by (ltb k.fetches.count 4) (leb size k.window.count) (λ e. ltb-true k.fetches.count 4 e) (λ e. leb-false size k.window.count e)))
