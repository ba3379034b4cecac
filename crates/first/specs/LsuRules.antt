-- The load-store unit's rules.
use Rattle.std.specs.Prelude.{ℕ, ◌-◌, ◌%◌, Bool, cond, ◌&&◌, [], ◌∷◌, replicate, Some, None, Option, ◌==◌, nat_lt, slice_index_or, slice_set}
use Rattle.isa.specs.Words.{add}
use Rattle.rings.specs.declared.queue.Queue.{Queue}
use Rattle.pins.specs.declared.ports.Request.{Request}
use Rattle.first.specs.declared.state.Open.{Open}
use Rattle.first.specs.declared.state.Open.TheVariants.{Acknowledgment, Load as ForLoad}
use Rattle.pins.specs.Held.{write_of, with_answer}
use Rattle.pins.specs.declared.held.Reading.{Reading}
use Rattle.pins.specs.declared.held.Reading.TheVariants.{Idle, Waiting}
use Rattle.first.specs.declared.state.Lsu.{Lsu}
use Rattle.first.specs.StoreRules.{buffer_start, entry, buffer_pop}

-- the open requests: a queue of four
abbrev pub OpenRequests : Type 0
OpenRequests = Queue Open 4

abbrev pub open_start : OpenRequests
open_start = record { count = 0; at = replicate 4 Acknowledgment }

abbrev pub open_at : OpenRequests → ℕ → Open
open_at q n = slice_index_or q.at n Acknowledgment

abbrev pub open_push : OpenRequests → Open → OpenRequests
open_push q o = record { count = add q.count 1; at = slice_set q.at (q.count % 4) o }

abbrev pub open_pop : OpenRequests → OpenRequests
open_pop q = record { count = q.count - 1; at = open_at q 1 ∷ open_at q 2 ∷ open_at q 3 ∷ open_at q 3 ∷ [] }

abbrev pub lsu_start : Lsu
lsu_start = record { stores = buffer_start; requests = open_start; load = Idle }

-- an answer comes: to a store it says nothing, to the load it is the word
abbrev pub load_answered : Reading → ℕ → Reading
load_answered d x = with_answer x d

abbrev pub lsu_answered : Lsu → ℕ → Open → Lsu
lsu_answered d x Acknowledgment = record { stores = d.stores; requests = open_pop d.requests; load = d.load }
lsu_answered d x ForLoad = record { stores = d.stores; requests = open_pop d.requests; load = load_answered d.load x }

abbrev pub lsu_take : Lsu → Option ℕ → Lsu
lsu_take d None = d
lsu_take d (Some x) = cond (d.requests.count == 0) d (lsu_answered d x (open_at d.requests 0))

-- the load at work is requested
abbrev pub lsu_ask : Lsu → ℕ → Lsu
lsu_ask d a = record { stores = d.stores; requests = open_push d.requests ForLoad; load = Waiting a }

-- the oldest waiting store is requested, if the port is free in this clock and fewer than four are open
abbrev pub lsu_room : Lsu → Bool
lsu_room d = nat_lt d.requests.count 4

abbrev pub drains : Lsu → Bool
drains d = nat_lt 0 d.stores.count && lsu_room d

abbrev pub lsu_sent : Lsu → Lsu
lsu_sent d = record { stores = buffer_pop d.stores; requests = open_push d.requests Acknowledgment; load = d.load }

abbrev pub lsu_drain : Lsu → Option Request → Lsu
lsu_drain d None = cond (drains d) (lsu_sent d) d
lsu_drain d (Some r) = d

abbrev pub drain_request : Lsu → Option Request → Option Request
drain_request d None = cond (drains d) (Some (write_of (entry d.stores 0))) None
drain_request d (Some r) = Some r
