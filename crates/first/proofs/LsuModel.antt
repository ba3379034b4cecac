-- The load-store unit's rules are the model's.
use Rattle.std.proofs.Common.{◌≡◌, ℕ, ◌-◌, ◌%◌, ◌<◌, Bool, true, false, cond, ◌&&◌, eqb, ltb, List, [], ◌∷◌, ◌++◌, length, take, drop, Some, None, Option, sym, refl, ap, ◌∙◌, subst, arith, length-set}
use mathlib.Core.Option.{Option as Opt, some, none}
use Rattle.std.proofs.lemmas.List.{length-take-le}
use Rattle.std.proofs.lemmas.Bool.{eqb-true, eqb-false, ltb-true, ltb-false, and_parts, cond_both}
use Rattle.pins.specs.PortWords.{optional, request_of}
use Rattle.pins.specs.declared.ports.Request.{Request}
use Rattle.pins.specs.declared.ports.Request.TheVariants.{Read, Write}
use Rattle.pins.specs.declared.held.Store.{Store}
use Rattle.first.specs.declared.state.Open.{Open}
use Rattle.first.specs.declared.state.Open.TheVariants.{Acknowledgment, Load as ForLoad}
use Rattle.pins.specs.declared.held.Reading.{Reading}
use Rattle.pins.specs.declared.held.Reading.TheVariants.{Idle, Waiting, Answered}
use Rattle.first.specs.declared.state.Lsu.{Lsu}
use Rattle.first.specs.StoreRules.{no_store, entry, buffer_pop}
use Rattle.pins.specs.Held.{write_of}
use Rattle.first.specs.LsuRules.{OpenRequests, open_at, open_push, open_pop, load_answered, lsu_answered, lsu_take, lsu_room, drains, lsu_sent, lsu_drain, drain_request}
use Rattle.first.specs.Model.{Storing, answer_load, answer, take_data, drain_if, drain_one, drain}
use Rattle.first.proofs.Ring.{ring}
use Rattle.first.proofs.Queues.{pushed_behind, oldest_taken, four_up}
use Rattle.first.proofs.ModelOf.{waiting, opened, storing, SizedStores, SizedRequests}
use Rattle.first.proofs.StoreModel.{pop_is, pop_sized}

-- the queue of open requests
pub opened_length : (q : OpenRequests) → SizedRequests q → length (opened q) ≡ q.count
opened_length q h = length-take-le q.count q.at (omega (arith, h.array, h.few))

pub opened_push : (q : OpenRequests) (o : Open) → SizedRequests q → q.count < 4 → opened (open_push q o) ≡ opened q ++ (o ∷ [])
opened_push q o h l = pushed_behind q.count 4 q.at o h.array l (omega arith)

pub push_sized : (q : OpenRequests) (o : Open) → SizedRequests q → q.count < 4 → SizedRequests (open_push q o)
push_sized q o h l = record { array = length-set q.at (q.count % 4) o ∙ h.array; few = omega arith }

opened_pop : (q : OpenRequests) → SizedRequests q → 0 < q.count → opened q ≡ open_at q 0 ∷ opened (open_pop q)
opened_pop q h l =
    oldest_taken q.at (drop 3 q.at) q.count Acknowledgment l (omega (arith, h.array, h.few))
    ∙ ap (λ (others : List Open). open_at q 0 ∷ take (q.count - 1) others) (four_up q.at Acknowledgment h.array)

open_pop_sized : (q : OpenRequests) → SizedRequests q → SizedRequests (open_pop q)
open_pop_sized q h = record { array = refl; few = omega (arith, h.few) }

same_storing : {r s : List Store} {o p : List Open} {a b : Reading} → r ≡ s → o ≡ p → a ≡ b
    → ◌≡◌ {A = Storing} (record { row = r; opens = o; load = a }) (record { row = s; opens = p; load = b })
same_storing e f g = λ i. record { row = e i; opens = f i; load = g i }

-- an answer comes
answered_is : (d : Lsu) (x : ℕ) (o : Open) → storing (lsu_answered d x o) ≡ answer x (storing d) (o ∷ opened (open_pop d.requests))
answered_is d x Acknowledgment = refl
answered_is d x ForLoad = same_storing refl refl (load_is d.load)
  where
    load_is : (l : Reading) → load_answered l x ≡ answer_load x l
    load_is Idle = refl
    load_is (Waiting a) = refl
    load_is (Answered a y) = refl

taken_is : (d : Lsu) (x : ℕ) → SizedRequests d.requests → (b : Bool) → eqb d.requests.count 0 ≡ b
    → storing (cond b d (lsu_answered d x (open_at d.requests 0))) ≡ answer x (storing d) (opened d.requests)
taken_is d x h true e =
    let z = eqb-true d.requests.count 0 e in
    sym (ap (answer x (storing d)) (ap (λ n. take n d.requests.at) z))
taken_is d x h false e =
    let l : 0 < d.requests.count = omega (arith, eqb-false d.requests.count 0 e) in
    answered_is d x (open_at d.requests 0) ∙ ap (answer x (storing d)) (sym (opened_pop d.requests h l))

pub take_is : (d : Lsu) (x : Opt ℕ) → SizedRequests d.requests → storing (lsu_take d (optional x)) ≡ take_data x (storing d)
take_is d none h = refl
take_is d (some x) h = taken_is d x h (eqb d.requests.count 0) refl

pub record SizedLsu (d : Lsu) : Type 0 where
  pub stores : SizedStores d.stores
  pub requests : SizedRequests d.requests

answered_sized : (d : Lsu) (x : ℕ) (o : Open) → SizedLsu d → SizedLsu (lsu_answered d x o)
answered_sized d x Acknowledgment h = record { stores = h.stores; requests = open_pop_sized d.requests h.requests }
answered_sized d x ForLoad h = record { stores = h.stores; requests = open_pop_sized d.requests h.requests }

pub take_sized : (d : Lsu) (x : Option ℕ) → SizedLsu d → SizedLsu (lsu_take d x)
take_sized d None h = h
take_sized d (Some x) h = cond_both (eqb d.requests.count 0) _ _ SizedLsu (λ e. h) (λ e. answered_sized d x (open_at d.requests 0) h)

-- there is room for a request
pub room_is : (d : Lsu) → SizedRequests d.requests → lsu_room d ≡ ltb (length (opened d.requests)) 4
room_is d h = ap (λ n. ltb n 4) (sym (opened_length d.requests h))

-- a store goes out
pub record DrainIs (d : Lsu) (r : Option Request) : Type 0 where
  pub lsu : storing (lsu_drain d r) ≡ (drain (request_of r) (storing d)).lsu
  pub req : request_of (drain_request d r) ≡ (drain (request_of r) (storing d)).req
  pub sized : SizedLsu (lsu_drain d r)

drain_sent : (d : Lsu) → SizedLsu d → drains d ≡ true → DrainIs d None
drain_sent d h e =
    let l : 0 < d.stores.count = ltb-true 0 d.stores.count (and_parts (ltb 0 d.stores.count) (lsu_room d) e).0 in
    let r : lsu_room d ≡ true = (and_parts (ltb 0 d.stores.count) (lsu_room d) e).1 in
    let l4 : d.requests.count < 4 = ltb-true d.requests.count 4 r in
    let p = pop_is d.stores l in
    let t : ltb (length (opened d.requests)) 4 ≡ true = sym (room_is d h.requests) ∙ r in
    let q = ap (drain_one (storing d)) p ∙ ap (drain_if (storing d) (entry d.stores 0) (waiting (buffer_pop d.stores))) t in
    record {
      lsu = ap (λ b. storing (cond b (lsu_sent d) d)) e ∙ same_storing refl (opened_push d.requests Acknowledgment h.requests l4) refl ∙ sym (ap (λ x. x.lsu) q);
      req = ap (λ b. request_of (cond b (Some (write_of (entry d.stores 0))) None)) e ∙ sym (ap (λ x. x.req) q);
      sized = subst (λ b. SizedLsu (cond b (lsu_sent d) d)) (sym e) (record { stores = pop_sized d.stores h.stores; requests = push_sized d.requests Acknowledgment h.requests l4 });
    }

-- none goes out: no store waits, or there is no room
drain_stays : (d : Lsu) → SizedRequests d.requests → (b : Bool) → ltb 0 d.stores.count ≡ b → drains d ≡ false → drain_one (storing d) (waiting d.stores) ≡ record { lsu = storing d; req = none }
drain_stays d h true e f =
    let p = pop_is d.stores (ltb-true 0 d.stores.count e) in
    let r : lsu_room d ≡ false = sym (ap (λ b. b && lsu_room d) e) ∙ f in
    ap (drain_one (storing d)) p ∙ ap (drain_if (storing d) (entry d.stores 0) (waiting (buffer_pop d.stores))) (sym (room_is d h) ∙ r)
drain_stays d h false e f =
    let z : d.stores.count ≡ 0 = omega (arith, ltb-false 0 d.stores.count e) in
    ap (drain_one (storing d)) (no_waiting z)
  where
    no_waiting : d.stores.count ≡ 0 → waiting d.stores ≡ []
    no_waiting z = ap (λ n. ring no_store d.stores.at d.stores.begin n) z

drain_kept : (d : Lsu) → SizedLsu d → drains d ≡ false → DrainIs d None
drain_kept d h e =
    let q = drain_stays d h.requests (ltb 0 d.stores.count) refl e in
    record {
      lsu = ap (λ b. storing (cond b (lsu_sent d) d)) e ∙ sym (ap (λ x. x.lsu) q);
      req = ap (λ b. request_of (cond b (Some (write_of (entry d.stores 0))) None)) e ∙ sym (ap (λ x. x.req) q);
      sized = subst (λ b. SizedLsu (cond b (lsu_sent d) d)) (sym e) h;
    }

drain_free : (d : Lsu) → SizedLsu d → (b : Bool) → drains d ≡ b → DrainIs d None
drain_free d h true e = drain_sent d h e
drain_free d h false e = drain_kept d h e

pub drain_is : (d : Lsu) (r : Option Request) → SizedLsu d → DrainIs d r
drain_is d None h = drain_free d h (drains d) refl
drain_is d (Some (Read a)) h = record { lsu = refl; req = refl; sized = h }
drain_is d (Some (Write a x)) h = record { lsu = refl; req = refl; sized = h }
