-- The oldest instruction waits for nothing inside the core: what a schedule's fairness is shown from.
use Rattle.std.proofs.Common.{◌≡◌, ℕ, ◌+◌, ◌/◌, ◌<◌, ◌≤◌, Bool, true, false, ◌||◌, eqb, ltb, List, [], ◌∷◌, ◌++◌, length, Some, None, Option, sym, refl, ap, ◌∙◌, subst, append_assoc, arith}
use Rattle.isa.specs.Words.{pick, opt, nth, put, add}
use Rattle.isa.specs.Manual.{Ret, device}
use Rattle.isa.specs.Registers.{value_in}
use Rattle.isa.specs.declared.reg.Reg.{Reg}
use Rattle.isa.specs.declared.execute.Outcome.{Outcome}
use Rattle.isa.specs.declared.execute.Outcome.TheVariants.{Write as Writes, Jump as Jumps, Load as Loads, Store as Stores, Halt as Halts}
use Rattle.pins.specs.Ports.{In}
use Rattle.window.specs.declared.entry.Entry.{Entry}
use Rattle.pins.specs.declared.held.Store.{Store}
use Rattle.pins.specs.declared.held.Reading.{Reading}
use Rattle.pins.specs.declared.held.Reading.TheVariants.{Idle, Waiting, Answered}
use Rattle.window.specs.declared.entry.Source.{Source}
use Rattle.window.specs.declared.entry.Source.TheVariants.{Unknown, Memory, Forwarded}
use Rattle.window.specs.Entries.{given, with_left, with_right, with_outcome, with_loaded}
use Rattle.window.specs.Operands.{left_register, right_register, work_with}
use Rattle.window.specs.Newest.{newest, by_store, row_source}
use Rattle.window.specs.Machine.{Core, with_window, learn, read_left, read_right, executed, execute, forwarded, forward_outcome, forward, none_retired, finish, write_ret, retire_device, retire_store, retire_outcome, retire_oldest, retire}
use Rattle.window.specs.Clocks.{Move, reads_left, reads_right, move, room, fetch_room, answered, Schedule, State, run_rules, ruled, chosen_port, posted, chosen_fetch, next}
use Rattle.window.specs.Fairness.{has, is_answered, store_room, ready}
use Rattle.window.proofs.Cases.{clash, some_not_none}
use Rattle.window.proofs.Onward.{More, Onward, move_onward, head_grown}
use Rattle.window.proofs.Taken.{took}
use Rattle.window.proofs.Fed.{port_window}
use Rattle.window.proofs.Clocked.{also}

-- its operands are in the register file
pub newest_oldest : (gs : List ℕ) (es : List Entry) (r : ℕ) → newest gs es 0 r ≡ Some (value_in gs r)
newest_oldest gs es r = by (eqb r 0) refl
  where
    by : (b : Bool) → eqb r 0 ≡ b → pick b (Some 0) (Some (value_in gs r)) ≡ Some (value_in gs r)
    by true e = rw e
    by false e = refl

-- and its load's word is in memory, or with a waiting store
abbrev Decided : Source → Type 0
Decided Unknown = ⊥
Decided Memory = Unit {0}
Decided (Forwarded x) = Unit {0}

row_decided : (i : ℕ) (k : Source) (ps : List Store) → Decided k → Decided (row_source i k ps)
row_decided i k [] h = h
row_decided i k (p ∷ ps) h = row_decided i (by_store i p.address p.value k) ps (by (device p.address) (eqb (p.address / 4) i))
  where
    by : (b d : Bool) → Decided (pick b k (pick d (Forwarded p.value) k))
    by true d = h
    by false true = tt
    by false false = h

-- the oldest learns
pub learn_oldest : (f : Core → ℕ → Entry → Option Entry) (k : Core) (e : Entry) (es : List Entry) (d : Entry) → k.window ≡ e ∷ es → f k 0 e ≡ Some d
    → (learn f 0 k).window ≡ d ∷ es
learn_oldest f k e es d we fe =
    ap (λ w. (opt (nth w 0) k (λ x. given (f k 0 x) k (λ y. with_window k (put k.window 0 y)))).window) we
    ∙ ap (λ o. (given o k (λ y. with_window k (put k.window 0 y))).window) fe
    ∙ ap (λ w. put w 0 d) we

pub learn_nothing : (f : Core → ℕ → Entry → Option Entry) (k : Core) (e : Entry) (es : List Entry) → k.window ≡ e ∷ es → f k 0 e ≡ None → learn f 0 k ≡ k
learn_nothing f k e es we fe =
    ap (λ w. opt (nth w 0) k (λ x. given (f k 0 x) k (λ y. with_window k (put k.window 0 y)))) we
    ∙ ap (λ o. given o k (λ y. with_window k (put k.window 0 y))) fe

-- what it still has to learn, once its word is there
abbrev pub lack : {A : Type 0} → Option A → ℕ
lack None = 1
lack (Some x) = 0

abbrev pub needs : Entry → ℕ
needs e = lack e.left + (lack e.right + lack e.outcome)

lack_most : {A : Type 0} (o : Option A) → lack o ≤ 1
lack_most None = omega arith
lack_most (Some x) = omega arith

pub needs_most : (e : Entry) → needs e ≤ 3
needs_most e = let a = lack_most e.left in let b = lack_most e.right in let c = lack_most e.outcome in omega arith

lack_less : {A : Type 0} (o p : Option A) → (has o ≡ true → has p ≡ true) → lack p ≤ lack o
lack_less None p f = lack_most p
lack_less (Some x) (Some y) f = omega arith
lack_less (Some x) None f = clash (f refl) refl

lack_outcome : (o p : Option Outcome) → ((q : Outcome) → o ≡ Some q → p ≡ Some q) → lack p ≤ lack o
lack_outcome None p f = lack_most p
lack_outcome (Some q) p f = let z = ap lack (f q refl) in omega arith

pub needs_less : (e d : Entry) → More e d → needs d ≤ needs e
needs_less e d m =
    let a = lack_less e.left d.left m.left in
    let b = lack_less e.right d.right m.right in
    let c = lack_outcome e.outcome d.outcome m.outcome in
    omega arith

abbrev pub head_needs : List Entry → ℕ
head_needs [] = 0
head_needs (e ∷ es) = needs e

pub head_most : (es : List Entry) → head_needs es ≤ 38
head_most [] = omega arith
head_most (e ∷ es) = let a = needs_most e in omega arith

-- the port and fetching leave the oldest
pub next_needs : {T : Type 0} (s : Schedule T) (z : State T) (i : In) (d : Entry) (ds : List Entry) → (ruled s z i).core.window ≡ d ∷ ds → head_needs (next s z i).core.window ≡ needs d
next_needs s z i d ds w2 =
    let k3 = (posted s z i).core in
    let al = also (fetch_room k3) (chosen_fetch s z i) k3 in
    let pw = port_window (room (ruled s z i).core) (chosen_port s z i) (ruled s z i).core in
    ap head_needs (al.window ∙ ap (λ (w : List Entry). w ++ al.more) (pw.window ∙ w2))

-- with its word, one of the three moves teaches it something
abbrev pub three : Core → Core
three k = learn read_right 0 (learn read_left 0 (learn execute 0 k))

pub record Gains (k : Core) (e : Entry) : Type 0 where
  pub head : Entry
  pub tail : List Entry
  pub window : k.window ≡ head ∷ tail
  pub less : needs head < needs e

gained : {k j : Core} (e : Entry) → Gains k e → Onward k j → Gains j e
gained {k} {j} e g on =
    let h = head_grown k.window j.window g.head g.tail g.window on.window in
    let a = needs_less g.head h.head h.more in
    let b = g.less in
    record { head = h.head; tail = h.tail; window = h.is; less = omega arith }

pub gains : (k : Core) (e : Entry) (es : List Entry) → k.window ≡ e ∷ es → has e.word ≡ true → e.outcome ≡ None → Gains (three k) e
gains k e es we hw eo = by e.word refl hw e.left refl e.right refl
  where
    left_on : (j : Core) → Onward j (learn read_left 0 j)
    left_on j = move_onward (reads_left 0) j refl

    right_on : (j : Core) → Onward j (learn read_right 0 j)
    right_on j = move_onward (reads_right 0) j refl

    -- the parts of its rules, by what is known of it
    executes_to : {o : Option Entry} → executed e ≡ o → execute k 0 e ≡ o
    executes_to q = ap (λ o. given o (executed e) (λ _. None)) eo ∙ q

    by : (w : Option ℕ) → e.word ≡ w → has w ≡ true → (l : Option ℕ) → e.left ≡ l → (r : Option ℕ) → e.right ≡ r → Gains (three k) e
    by None ew h l el r er = clash h refl
    by (Some w) ew h (Some x) el (Some y) er =
        let d = with_outcome e (work_with e.pc w x y) in
        let q : executed e ≡ Some d = λ i. given (ew i) None (λ w. given (el i) None (λ x. given (er i) None (λ y. Some (with_outcome e (work_with e.pc w x y))))) in
        let n = ap lack eo in
        let g : Gains (learn execute 0 k) e = record { head = d; tail = es; window = learn_oldest execute k e es d we (executes_to q); less = omega arith } in
        gained e (gained e g (left_on (learn execute 0 k))) (right_on (learn read_left 0 (learn execute 0 k)))
    by (Some w) ew h None el r er =
        let q : executed e ≡ None = λ i. given (ew i) None (λ w. given (el i) None (λ x. given e.right None (λ y. Some (with_outcome e (work_with e.pc w x y))))) in
        let same = learn_nothing execute k e es we (executes_to q) in
        let v = value_in k.regs (left_register w) in
        let t : read_left k 0 e ≡ Some (with_left e v) =
        (λ i. given (el i) (given (ew i) None (λ w. given (newest k.regs k.window 0 (left_register w)) None (λ x. Some (with_left e x)))) (λ _. None))
        ∙ ap (λ o. given o None (λ x. Some (with_left e x))) (newest_oldest k.regs k.window (left_register w)) in
        let n = ap lack el in
        let g : Gains (learn read_left 0 k) e = record { head = with_left e v; tail = es; window = learn_oldest read_left k e es (with_left e v) we t; less = omega arith } in
        subst (λ j. Gains (learn read_right 0 (learn read_left 0 j)) e) (sym same) (gained e g (right_on (learn read_left 0 k)))
    by (Some w) ew h (Some x) el None er =
        let q : executed e ≡ None = λ i. given (ew i) None (λ w. given (el i) None (λ x. given (er i) None (λ y. Some (with_outcome e (work_with e.pc w x y))))) in
        let same = learn_nothing execute k e es we (executes_to q) in
        let t : read_left k 0 e ≡ None =
        λ i. given (el i) (given e.word None (λ w. given (newest k.regs k.window 0 (left_register w)) None (λ x. Some (with_left e x)))) (λ _. None) in
        let same1 = learn_nothing read_left k e es we t in
        let v = value_in k.regs (right_register w) in
        let u : read_right k 0 e ≡ Some (with_right e v) =
        (λ i. given (er i) (given (ew i) None (λ w. given (newest k.regs k.window 0 (right_register w)) None (λ x. Some (with_right e x)))) (λ _. None))
        ∙ ap (λ o. given o None (λ x. Some (with_right e x))) (newest_oldest k.regs k.window (right_register w)) in
        let n = ap lack er in
        let g : Gains (learn read_right 0 k) e = record { head = with_right e v; tail = es; window = learn_oldest read_right k e es (with_right e v) we u; less = omega arith } in
        subst (λ j. Gains (learn read_right 0 j) e) (sym (ap (learn read_left 0) same ∙ same1)) g

-- a word that a waiting store has for its load is forwarded to it
pub not_forwarded : (k : Core) (e : Entry) (es : List Entry) (r : Reg) (b : ℕ) → k.window ≡ e ∷ es → e.outcome ≡ Some (Loads r b) → device b ≡ false
    → (d : Entry) (ds : List Entry) → (learn forward 0 k).window ≡ d ∷ ds → d.loaded ≡ None → row_source (b / 4) Memory k.stores ≡ Memory
not_forwarded k e es r b we eo dv d ds wd dl = by e.loaded refl (row_source (b / 4) Memory k.stores) refl (row_decided (b / 4) Memory k.stores tt)
  where
    heads : {x y : Entry} {xs ys : List Entry} → x ∷ xs ≡ y ∷ ys → x ≡ y
    heads q = cc

    by : (g : Option ℕ) → e.loaded ≡ g → (q : Source) → row_source (b / 4) Memory k.stores ≡ q → Decided q → q ≡ Memory
    by g el Memory q h = refl
    by g el Unknown q h = absurd h
    by (Some y) el (Forwarded x) q h =
        let t : forward k 0 e ≡ None = λ i. given (el i) (given e.outcome None (forward_outcome k 0 e)) (λ _. None) in
        let same = learn_nothing forward k e es we t in
        let z : e ≡ d = heads (sym we ∙ sym (ap (λ (j : Core). j.window) same) ∙ wd) in
        some_not_none (sym (ap (λ (y : Entry). y.loaded) z) ∙ el) dl
    by None el (Forwarded x) q h =
        let t : forward k 0 e ≡ Some (with_loaded e x) =
        (λ i. given (el i) (given (eo i) None (forward_outcome k 0 e)) (λ _. None)) ∙ (λ i. pick (dv i) None (forwarded e (q i))) in
        let z : with_loaded e x ≡ d = heads (sym (learn_oldest forward k e es (with_loaded e x) we t) ∙ wd) in
        some_not_none (sym (ap (λ (y : Entry). y.loaded) z)) dl

-- what is not retired could not be
no_rets : {t : Ret} {ts : List Ret} → ◌≡◌ {A = List Ret} (t ∷ ts) [] → ⊥
no_rets h = let z : ◌≡◌ {A = ℕ} 0 1 = cc in omega arith

pub not_ready : (k : Core) (e : Entry) (es : List Entry) (o : Outcome) → k.window ≡ e ∷ es → e.outcome ≡ Some o → (retire k).rets ≡ [] → ready k e o ≡ false
not_ready k e es o we eo h = by o (subst (λ (o : Option Outcome). (given o (none_retired k) (retire_outcome k e es)).rets ≡ []) eo (subst (λ (w : List Entry). (retire_oldest k w).rets ≡ []) we h))
  where
    device_by : (d : ℕ) (q : Reading) → (retire_device k e es d q).rets ≡ [] → is_answered q ≡ false
    device_by d Idle h = refl
    device_by d (Waiting b) h = refl
    device_by d (Answered b x) h = absurd (no_rets h)

    load_by : (d : ℕ) (g : Option ℕ) → (given g (retire_device k e es d k.device) (λ x. finish k e es (put k.regs d x) (add k.pc 4) k.stores (write_ret k d x))).rets ≡ []
        → has g || is_answered k.device ≡ false
    load_by d None h = device_by d k.device h
    load_by d (Some x) h = absurd (no_rets h)

    store_by : (p : Store) (b : Bool) → (retire_store k e es p b).rets ≡ [] → b ≡ false
    store_by p true h = absurd (no_rets h)
    store_by p false h = refl

    by : (o : Outcome) → (retire_outcome k e es o).rets ≡ [] → ready k e o ≡ false
    by (Writes d x b) h = absurd (no_rets h)
    by (Jumps b) h = absurd (no_rets h)
    by (Loads d b) h = load_by d.number e.loaded h
    by (Stores b x) h = store_by (record { address = b; value = x }) (store_room k) h
    by (Halts j) h = refl

-- what could be retired before the answers could be after them
pub not_ready_before : (i : In) (k : Core) (e d : Entry) → More e d → (o : Outcome) → ready (answered i k) d o ≡ false → ready k e o ≡ false
not_ready_before i k e d m (Writes r x b) h = h
not_ready_before i k e d m (Jumps b) h = h
not_ready_before i k e d m (Loads r b) h = both (has e.loaded) refl k.device refl
  where
    or_left : (a b : Bool) → a || b ≡ false → a ≡ false
    or_left true b h = clash refl h
    or_left false b h = refl

    or_right : (a b : Bool) → a || b ≡ false → b ≡ false
    or_right true b h = clash refl h
    or_right false b h = h

    unanswered : is_answered (answered i k).device ≡ false
    unanswered = or_right (has d.loaded) (is_answered (answered i k).device) h

    same : (answered i k).device ≡ k.device
    same = ((took i k).device unanswered).same

    both : (a : Bool) → has e.loaded ≡ a → (q : Reading) → k.device ≡ q → a || is_answered q ≡ false
    both true ea q eq = clash (m.loaded ea) (or_left (has d.loaded) (is_answered (answered i k).device) h)
    both false ea q eq = ap is_answered (sym (same ∙ eq)) ∙ unanswered
not_ready_before i k e d m (Stores b x) h = ap (λ (ps : List Store). ltb (length ps) 8) (sym (took i k).stores) ∙ h
not_ready_before i k e d m (Halts s) h = h

-- other uses of the port before a store's turn; t: it is its turn
abbrev pub uses_left : Bool → ℕ
uses_left true = 0
uses_left false = 1

pub uses_most : (t : Bool) → uses_left t ≤ 5
uses_most true = omega arith
uses_most false = omega arith

-- some rules, and then others
pub rules_core : {T : Type 0} (rs us : List (T → Core → Move × T)) (t : T) (k : Core)
    → (run_rules (rs ++ us) t k).core ≡ (run_rules us (run_rules rs t k).tables (run_rules rs t k).core).core
rules_core [] us t k = refl
rules_core (r ∷ rs) us t k = rules_core rs us (r t k).1 (move (r t k).0 k).core

pub rules_rets : {T : Type 0} (rs us : List (T → Core → Move × T)) (t : T) (k : Core)
    → (run_rules (rs ++ us) t k).rets ≡ (run_rules rs t k).rets ++ (run_rules us (run_rules rs t k).tables (run_rules rs t k).core).rets
rules_rets [] us t k = refl
rules_rets (r ∷ rs) us t k =
    ap (λ z. (move (r t k).0 k).rets ++ z) (rules_rets rs us (r t k).1 (move (r t k).0 k).core)
    ∙ sym (append_assoc (move (r t k).0 k).rets _ _)
