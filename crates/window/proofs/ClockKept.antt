-- A clock keeps the invariant, whatever is chosen.
use Rattle.std.proofs.Common.{◌≡◌, ℕ, Bool, true, false, List, [], ◌∷◌, ◌++◌, sym, refl, subst}
use mathlib.Core.Option.{Option as Opt, some, none}
use Rattle.isa.specs.Manual.{Code, Mem, Ret}
use Rattle.pins.specs.Ports.{In}
use Rattle.pins.specs.View.{View, rets_then, clock_view, Allowed}
use Rattle.pins.specs.View as views
use Rattle.pins.specs.Reach.{clock_io}
use Rattle.pins.proofs.Settling.{settled_laws}
use Rattle.window.specs.Machine.{Core}
use Rattle.window.specs.Clocks.{Move, rest, reads_left, reads_right, executes, forwards, redirects, retires, move, Port, leaves, loads, drains, asks_device, room, request_if, fetch_if, fetch_room, answer_code, answered, Schedule, State, run_rules, heard, ruled, chosen_port, posted, chosen_fetch, next, machine}
use Rattle.window.proofs.Invariant.{Seen, seen, retired, requested, wanted, seen_data, seen_request, Inv}
use Rattle.window.proofs.LearnKept.{left_kept, right_kept, execute_kept, forward_kept}
use Rattle.window.proofs.AskKept.{load_kept, drain_kept, device_kept}
use Rattle.window.proofs.AnswerKept.{data_kept, code_kept, fetch_kept}
use Rattle.window.proofs.RetireKept.{retire_kept, redirect_kept}

rets_append : (ts us rs : List Ret) → rets_then us (rets_then ts rs) ≡ rets_then (ts ++ us) rs
rets_append [] us rs = refl
rets_append (t ∷ ts) us rs = rets_append ts us (rs ++ (t ∷ []))

module _ (c : Code) (m : Mem) (a : ℕ) where
  pub move_kept : (x : Move) (k : Core) (v : Seen) → Inv c m a k v → Inv c m a (move x k).core (retired v (move x k).rets)
  move_kept rest k v h = h
  move_kept (reads_left n) k v h = left_kept c m a k v h n
  move_kept (reads_right n) k v h = right_kept c m a k v h n
  move_kept (executes n) k v h = execute_kept c m a k v h n
  move_kept (forwards n) k v h = forward_kept c m a k v h n
  move_kept (redirects n g) k v h = redirect_kept c m a k v h n g
  move_kept retires k v h = retire_kept c m a k v h

  pub rules_kept : {T : Type 0} (rs : List (T → Core → Move × T)) (t : T) (k : Core) (v : Seen) → Inv c m a k v
      → Inv c m a (run_rules rs t k).core (retired v (run_rules rs t k).rets)
  rules_kept [] t k v h = h
  rules_kept (r ∷ rs) t k v h =
      let x = (r t k).0 in
      let z = run_rules rs (r t k).1 (move x k).core in
      subst (λ us. Inv c m a z.core (record { codes = v.codes; dues = v.dues; mem = v.mem; told = v.told; rets = us; evs = v.evs }))
      (rets_append (move x k).rets z.rets v.rets)
      (rules_kept rs (r t k).1 (move x k).core (retired v (move x k).rets) (move_kept x k v h))

  port_kept : (b : Bool) (p : Port) (k : Core) (v : Seen) → Inv c m a k v → Inv c m a (request_if b p k).core (requested v (request_if b p k).req)
  port_kept false p k v h = h
  port_kept true leaves k v h = h
  port_kept true (loads n) k v h = load_kept c m a k v h n
  port_kept true drains k v h = drain_kept c m a k v h
  port_kept true asks_device k v h = device_kept c m a k v h

  fetch_if_kept : (b : Bool) (g : Opt ℕ) (k : Core) (v : Seen) → Inv c m a k v → Inv c m a (fetch_if b g k).core (wanted v (fetch_if b g k).code)
  fetch_if_kept true none k v h = h
  fetch_if_kept false none k v h = h
  fetch_if_kept false (some g) k v h = h
  fetch_if_kept true (some g) k v h = fetch_kept c m a k v g h

  -- with the answers taken
  pub answered_kept : (i : In) (k : Core) (v : View) → Allowed c v i → Inv c m a k (seen v) → Inv c m a (answered i k) (seen (views.take_in i v))
  answered_kept i k v r h =
      let w = views.take_code i.code v in
      let j = answer_code i.code k in
      subst (Inv c m a (answered i k)) (sym (seen_data i.data1 w))
      (data_kept c m a i.data1 j (seen w) (settled_laws.meets i.data1 w r.data1) (code_kept c m a i.code k (seen v) r.code h))

  module _ {T : Type 0} (s : Schedule T) (z : State T) (i : In) (v : View) (r : Allowed c v i) (h : Inv c m a z.core (seen v)) where
    -- after the rules
    pub ruled_kept : Inv c m a (ruled s z i).core (seen (views.retire (ruled s z i).rets (views.take_in i v)))
    ruled_kept = rules_kept s.rules (s.hears i z.tables z.core) (heard s z i) (seen (views.take_in i v)) (answered_kept i z.core v r h)

    pub clock_kept : Inv c m a (next s z i).core (seen (clock_view (clock_io (machine s) z i) v))
    clock_kept =
        let w = views.retire (ruled s z i).rets (views.take_in i v) in
        let k = (ruled s z i).core in
        let j = (posted s z i).core in
        let p = port_kept (room k) (chosen_port s z i) k (seen w) ruled_kept in
        let q = subst (Inv c m a j) (sym (seen_request (posted s z i).req w)) p in
        fetch_if_kept (fetch_room j) (chosen_fetch s z i) j (seen (views.ask_data (posted s z i).req w)) q
