-- An instruction without its word has a fetch open.
use Rattle.std.proofs.Common.{◌≡◌, ℕ, zero, suc, ◌<◌, Bool, true, false, ◌||◌, eqb, ◌⊎◌, List, [], ◌∷◌, ◌++◌, map, length, take, Some, None, Option, sym, refl, ap, ◌∙◌, subst, inl, inr, arith}
use mathlib.Core.List.{map-append}
use mathlib.Core.Option.{Option as Opt, some, none}
use Rattle.std.proofs.lemmas.Bool.{eq-eqb, ne_eqb}
use Rattle.isa.specs.Words.{nth, put}
use Rattle.pins.specs.Ports.{In}
use Rattle.window.specs.declared.entry.Entry.{Entry}
use Rattle.window.specs.declared.entry.Number.{Number}
use Rattle.window.specs.declared.entry.Tag.{Tag}
use Rattle.window.specs.declared.entry.Tag.TheVariants.{Acknowledgment, Load, Stale, Device}
use Rattle.pins.specs.declared.held.Store.{Store}
use Rattle.window.specs.Entries.{fresh, with_word, with_predicted}
use Rattle.window.specs.Machine.{Core, with_requests, with_fetches, learn, read_left, read_right, execute, forward, kept, renumbers, redirect, Retired, leave, Asked, take_data, get_data, take_code, get_code, next_pc}
use Rattle.window.specs.Clocks.{Move, rest, reads_left, reads_right, executes, forwards, redirects, retires, move, Port, room, request_if, fetch_if, fetch_room, answer_code, answer_data, Schedule, State, run_rules, heard, ruled, chosen_port, posted, chosen_fetch, next}
use Rattle.window.specs.Fairness.{has, any}
use Rattle.window.proofs.Cases.{opt_cases, some_none, clash}
use Rattle.window.proofs.RuleCases.{learn_by, retire_by, request_by}
use Rattle.window.proofs.Marks.{is_fetch, any_append, any_last, fetches_kept, fetches_popped}
use Rattle.window.proofs.Onward.{More, MaybeMore, left_more, right_more, execute_more, loaded_more, forward_more}

-- the n-th, where it has no word
abbrev pub Fed : List Entry → List (Option Number) → Type 0
Fed es fs = (n : ℕ) (e : Entry) → nth es n ≡ some e → has e.word ≡ false → any (map (is_fetch n) fs) ≡ true

abbrev pub FedCore : Core → Type 0
FedCore k = Fed k.window k.fetches

pub fed_none : (fs : List (Option Number)) → Fed [] fs
fed_none fs n e at w = some_none at refl

-- the j-th after a change of the n-th
nth_put : (es : List Entry) (n : ℕ) (d : Entry) (j : ℕ) (x : Entry) → nth (put es n d) j ≡ some x → ((j ≡ n → ⊥) × (nth es j ≡ some x)) ⊎ ((j ≡ n) × (x ≡ d))
nth_put [] n d j x at = some_none at refl
nth_put (e ∷ es) zero d zero x at = inr (refl, cc)
nth_put (e ∷ es) zero d (suc j) x at = inl (λ q. omega arith, at)
nth_put (e ∷ es) (suc n) d zero x at = inl (λ q. omega arith, at)
nth_put (e ∷ es) (suc n) d (suc j) x at = by (nth_put es n d j x at)
  where
    by : ((j ≡ n → ⊥) × (nth es j ≡ some x)) ⊎ ((j ≡ n) × (x ≡ d)) → ((suc j ≡ suc n → ⊥) × (nth es j ≡ some x)) ⊎ ((suc j ≡ suc n) × (x ≡ d))
    by (inl (p, q)) = inl (λ r. p (omega arith), q)
    by (inr (p, q)) = inr (ap suc p, q)

-- an entry learns something and keeps its word
fed_put : (es : List Entry) (fs : List (Option Number)) (n : ℕ) (e d : Entry) → nth es n ≡ some e → (has d.word ≡ false → has e.word ≡ false) → Fed es fs → Fed (put es n d) fs
fed_put es fs n e d at f h j x ax w = by (nth_put es n d j x ax)
  where
    by : ((j ≡ n → ⊥) × (nth es j ≡ some x)) ⊎ ((j ≡ n) × (x ≡ d)) → any (map (is_fetch j) fs) ≡ true
    by (inl (p, q)) = h j x q w
    by (inr (p, q)) = h j e (rw p at) (f (subst (λ (y : Entry). has y.word ≡ false) q w))

no_word : (e d : Entry) → More e d → has d.word ≡ false → has e.word ≡ false
no_word e d m h = by (has e.word) refl
  where
    by : (b : Bool) → has e.word ≡ b → has e.word ≡ false
    by true q = clash (m.word q) h
    by false q = q

learn_fed : (f : Core → ℕ → Entry → Option Entry) (n : ℕ) (k : Core) → ((e : Entry) → MaybeMore e (f k n e)) → FedCore k → FedCore (learn f n k)
learn_fed f n k g h = learn_by FedCore f n k h (λ e d at ed. fed_put k.window k.fetches n e d at (no_word e d (subst (MaybeMore e) ed (g e))) h)

-- retired, or all flushed
leave_fed : (k : Core) (e : Entry) (es : List Entry) (gs : List ℕ) (b : ℕ) (ps : List Store) (x : Bool) → Fed (e ∷ es) k.fetches → FedCore (leave k es gs b ps x)
leave_fed k e es gs b ps true h n d at w = rw fetches_popped (h (suc n) d at w)
leave_fed k e es gs b ps false h n d at w = some_none at refl

nth_redirect : (n : ℕ) (es : List Entry) (e d : Entry) (j : ℕ) (x : Entry) → nth es n ≡ some e → nth (take n es ++ (d ∷ [])) j ≡ some x
    → (j < suc n) × ((nth es j ≡ some x) ⊎ ((nth es j ≡ some e) × (x ≡ d)))
nth_redirect n [] e d j x at ax = some_none at refl
nth_redirect zero (y ∷ es) e d zero x at ax = (omega arith, inr (at, cc))
nth_redirect zero (y ∷ es) e d (suc j) x at ax = some_none ax refl
nth_redirect (suc n) (y ∷ es) e d zero x at ax = (omega arith, inl ax)
nth_redirect (suc n) (y ∷ es) e d (suc j) x at ax = let r = nth_redirect n es e d j x at ax in let l = r.0 in (omega arith, r.1)

redirect_fed : (n g : ℕ) (k : Core) → FedCore k → FedCore (redirect n g k)
redirect_fed n g k h = opt_cases FedCore (nth k.window n) (λ _. h) (λ e at j x ax w. by e j x w (nth_redirect n k.window e (with_predicted e g) j x at ax))
  where
    by : (e : Entry) (j : ℕ) (x : Entry) → has x.word ≡ false → (j < suc n) × ((nth k.window j ≡ some x) ⊎ ((nth k.window j ≡ some e) × (x ≡ with_predicted e g)))
        → any (map (is_fetch j) (renumbers (kept (suc n)) k.fetches)) ≡ true
    by e j x w (l, inl p) = rw (fetches_kept j (suc n) k.fetches l) (h j x p w)
    by e j x w (l, inr (p, q)) = rw (fetches_kept j (suc n) k.fetches l) (h j e p (subst (λ (y : Entry). has y.word ≡ false) q w))

pub move_fed : (x : Move) (k : Core) → FedCore k → FedCore (move x k).core
move_fed rest k h = h
move_fed (reads_left n) k h = learn_fed read_left n k (left_more k n) h
move_fed (reads_right n) k h = learn_fed read_right n k (right_more k n) h
move_fed (executes n) k h = learn_fed execute n k (execute_more k n) h
move_fed (forwards n) k h = learn_fed forward n k (forward_more k n) h
move_fed (redirects n g) k h = redirect_fed n g k h
move_fed retires k h =
    retire_by (λ (d : Retired). FedCore d.core) k h
    (λ e es gs b ps t f. leave_fed k e es gs b ps (eqb b e.predicted) (rw f.window at h))

rules_fed : {T : Type 0} (rs : List (T → Core → Move × T)) (t : T) (k : Core) → FedCore k → FedCore (run_rules rs t k).core
rules_fed [] t k h = h
rules_fed (r ∷ rs) t k h = rules_fed rs (r t k).1 (move (r t k).0 k).core (move_fed (r t k).0 k h)

-- at the port nothing of the window changes
pub record SameWindow (k j : Core) : Type 0 where
  pub window : j.window ≡ k.window
  pub fetches : j.fetches ≡ k.fetches

pub port_window : (b : Bool) (p : Port) (k : Core) → SameWindow k (request_if b p k).core
port_window false p k = record { window = refl; fetches = refl }
port_window true p k =
    request_by (λ (d : Asked). SameWindow k d.core) k (record { window = refl; fetches = refl })
    (λ n b d. record { window = refl; fetches = refl }) (λ q ps s. record { window = refl; fetches = refl }) (λ b d i s. record { window = refl; fetches = refl }) p

port_fed : (b : Bool) (p : Port) (k : Core) → FedCore k → FedCore (request_if b p k).core
port_fed b p k h = let s = port_window b p k in rw (s.window, s.fetches) h

nth_push : (es : List Entry) (d : Entry) (j : ℕ) (x : Entry) → nth (es ++ (d ∷ [])) j ≡ some x → (nth es j ≡ some x) ⊎ (j ≡ length es)
nth_push [] d zero x at = inr refl
nth_push [] d (suc j) x at = inl at
nth_push (e ∷ es) d zero x at = inl at
nth_push (e ∷ es) d (suc j) x at = by (nth_push es d j x at)
  where
    by : (nth es j ≡ some x) ⊎ (j ≡ length es) → (nth es j ≡ some x) ⊎ (suc j ≡ suc (length es))
    by (inl p) = inl p
    by (inr p) = inr (ap suc p)

fetch_fed : (b : Bool) (g : Opt ℕ) (k : Core) → FedCore k → FedCore (fetch_if b g k).core
fetch_fed true none k h = h
fetch_fed false none k h = h
fetch_fed false (some g) k h = h
fetch_fed true (some g) k h = λ j x ax w. rw map-append (by j x w (nth_push k.window (fresh (next_pc k) g) j x ax))
  where
    by : (j : ℕ) (x : Entry) → has x.word ≡ false → (nth k.window j ≡ some x) ⊎ (j ≡ length k.window) → any (map (is_fetch j) k.fetches ++ (eqb (length k.window) j ∷ [])) ≡ true
    by j x w (inl p) = any_append (map (is_fetch j) k.fetches) _ (h j x p w)
    by j x w (inr p) = rw (eq-eqb (length k.window) j (sym p)) (any_last (map (is_fetch j) k.fetches))

-- answers
or_false : (b c : Bool) → b ≡ false → b || c ≡ true → c ≡ true
or_false true c e h = clash refl e
or_false false c e h = h

code_fed : (x n : ℕ) (k : Core) (fs : List (Option Number)) (m : Number) → m.0 ≡ n → k.fetches ≡ Some m ∷ fs → FedCore k → FedCore (learn (get_code x) n (with_fetches k fs))
code_fed x n k fs m e f h =
    opt_cases FedCore (nth k.window n)
    (λ z j y ay w. pass j y ay w (λ q. some_none ay (rw q z)))
    (λ d ad j y ay w. by d j y w (nth_put k.window n (with_word d x) j y ay))
  where
    pass : (j : ℕ) (y : Entry) → nth k.window j ≡ some y → has y.word ≡ false → (j ≡ n → ⊥) → any (map (is_fetch j) fs) ≡ true
    pass j y ay w ne =
        or_false (eqb m.0 j) (any (map (is_fetch j) fs)) (ne_eqb m.0 j (λ q. ne (sym q ∙ e)))
        (subst (λ (z : List (Option Number)). any (map (is_fetch j) z) ≡ true) f (h j y ay w))

    by : (d : Entry) (j : ℕ) (y : Entry) → has y.word ≡ false → ((j ≡ n → ⊥) × (nth k.window j ≡ some y)) ⊎ ((j ≡ n) × (y ≡ with_word d x)) → any (map (is_fetch j) fs) ≡ true
    by d j y w (inl (p, q)) = pass j y q w p
    by d j y w (inr (p, q)) = clash (ap (λ (z : Entry). has z.word) q) w

answer_code_fed : (x : Opt ℕ) (k : Core) → FedCore k → FedCore (answer_code x k)
answer_code_fed none k h = h
answer_code_fed (some x) k h = by k.fetches refl
  where
    by : (fs : List (Option Number)) → k.fetches ≡ fs → FedCore (take_code x k fs)
    by [] e = h
    by (None ∷ fs) e = λ j y ay w. subst (λ (z : List (Option Number)). any (map (is_fetch j) z) ≡ true) e (h j y ay w)
    by (Some n ∷ fs) e = code_fed x n.0 k fs n refl e h

answer_data_fed : (x : Opt ℕ) (k : Core) → FedCore k → FedCore (answer_data x k)
answer_data_fed none k h = h
answer_data_fed (some x) k h = by k.requests
  where
    by : (ts : List Tag) → FedCore (take_data x k ts)
    by [] = h
    by (Acknowledgment ∷ ts) = h
    by (Load n ∷ ts) = learn_fed (get_data x) n.0 (with_requests k ts) (λ e. loaded_more e x) h
    by (Stale ∷ ts) = h
    by (Device ∷ ts) = h

pub clock_fed : {T : Type 0} (s : Schedule T) (z : State T) (i : In) → FedCore z.core → FedCore (next s z i).core
clock_fed s z i h =
    let a = answer_data_fed i.data1 (answer_code i.code z.core) (answer_code_fed i.code z.core h) in
    let r = rules_fed s.rules (s.hears i z.tables z.core) (heard s z i) a in
    let p = port_fed (room (ruled s z i).core) (chosen_port s z i) (ruled s z i).core r in
    fetch_fed (fetch_room (posted s z i).core) (chosen_fetch s z i) (posted s z i).core p
