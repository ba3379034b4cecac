-- What the rules of a clock leave of the oldest, where none is retired: it only knows more, and what is open for it stays so.
use Rattle.std.proofs.Common.{◌≡◌, ℕ, zero, suc, ◌/◌, true, List, [], ◌∷◌, ◌++◌, map, take, Some, None, Option, sym, refl, ap, ◌∙◌, subst, arith}
use mathlib.Core.Option.{some}
use Rattle.isa.specs.Words.{nth, put}
use Rattle.isa.specs.Manual.{Ret, device}
use Rattle.isa.specs.declared.execute.Outcome.{Outcome}
use Rattle.isa.specs.declared.execute.Outcome.TheVariants.{Write as Writes, Jump as Jumps, Load as Loads, Store as Stores, Halt as Halts}
use Rattle.window.specs.declared.entry.Entry.{Entry}
use Rattle.window.specs.declared.entry.Source.{Source}
use Rattle.window.specs.declared.entry.Source.TheVariants.{Unknown, Memory, Forwarded}
use Rattle.window.specs.Entries.{with_loaded, with_predicted}
use Rattle.window.specs.Operands.{left_register, right_register}
use Rattle.window.specs.Newest.{newest, source}
use Rattle.window.specs.Machine.{Core, learn, read_left, read_right, execute, forwarded, forward_outcome, forward, kept, Retired, retire}
use Rattle.window.specs.Clocks.{Move, rest, reads_left, reads_right, executes, forwards, redirects, retires, move, run_rules}
use Rattle.window.specs.Fairness.{has, is_load}
use Rattle.window.proofs.Cases.{pick_cases, opt_cases, given_cases, clash, some_none, some_not_none}
use Rattle.window.proofs.RuleCases.{learn_by, retire_by}
use Rattle.window.proofs.Marks.{is_device, is_fetch, loads_kept, fetches_kept, devices_retagged}

pub record More (e d : Entry) : Type 0 where
  pub word : has e.word ≡ true → has d.word ≡ true
  pub left : has e.left ≡ true → has d.left ≡ true
  pub right : has e.right ≡ true → has d.right ≡ true
  pub outcome : (o : Outcome) → e.outcome ≡ Some o → d.outcome ≡ Some o
  pub loaded : has e.loaded ≡ true → has d.loaded ≡ true

pub more_same : (e : Entry) → More e e
more_same e = record { word = λ h. h; left = λ h. h; right = λ h. h; outcome = λ o h. h; loaded = λ h. h }

more_then : {e d b : Entry} → More e d → More d b → More e b
more_then p q = record {
  word = λ h. q.word (p.word h);
  left = λ h. q.left (p.left h);
  right = λ h. q.right (p.right h);
  outcome = λ o h. q.outcome o (p.outcome o h);
  loaded = λ h. q.loaded (p.loaded h);
}

-- what is not known later was not known before
pub not_yet : (e d : Entry) → More e d → d.outcome ≡ None → e.outcome ≡ None
not_yet e d m h = by e.outcome refl
  where
    by : (o : Option Outcome) → e.outcome ≡ o → e.outcome ≡ None
    by None q = q
    by (Some o) q = some_not_none (m.outcome o q) h

pub not_loaded : (e d : Entry) → More e d → d.loaded ≡ None → e.loaded ≡ None
not_loaded e d m h = by e.loaded refl
  where
    by : (o : Option ℕ) → e.loaded ≡ o → e.loaded ≡ None
    by None q = q
    by (Some x) q = clash (m.loaded (ap has q)) (ap has h)

-- of two windows: the oldest
abbrev pub Grows : List Entry → List Entry → Type 0
Grows [] ds = ds ≡ []
Grows (e ∷ es) [] = ⊥
Grows (e ∷ es) (d ∷ ds) = More e d

pub grows_same : (es : List Entry) → Grows es es
grows_same [] = refl
grows_same (e ∷ es) = more_same e

pub grows_then : (es ds bs : List Entry) → Grows es ds → Grows ds bs → Grows es bs
grows_then [] ds bs p q = grows_none ds bs p q
  where
    grows_none : (ds bs : List Entry) → ds ≡ [] → Grows ds bs → bs ≡ []
    grows_none [] bs p q = q
    grows_none (d ∷ ds) bs p q = absurd (let z : ◌≡◌ {A = ℕ} 0 1 = cc in omega arith)
grows_then (e ∷ es) [] bs p q = absurd p
grows_then (e ∷ es) (d ∷ ds) [] p q = q
grows_then (e ∷ es) (d ∷ ds) (b ∷ bs) p q = more_then p q

pub record Onward (k j : Core) : Type 0 where
  pub window : Grows k.window j.window
  pub stores : j.stores ≡ k.stores
  pub device : j.device ≡ k.device
  pub loads : map (is_load 0) j.requests ≡ map (is_load 0) k.requests
  pub devices : map is_device j.requests ≡ map is_device k.requests
  pub fetches : map (is_fetch 0) j.fetches ≡ map (is_fetch 0) k.fetches

pub onward_same : (k : Core) → Onward k k
onward_same k = record { window = grows_same k.window; stores = refl; device = refl; loads = refl; devices = refl; fetches = refl }

pub onward_then : (k j i : Core) → Onward k j → Onward j i → Onward k i
onward_then k j i p q = record {
  window = grows_then k.window j.window i.window p.window q.window;
  stores = q.stores ∙ p.stores;
  device = q.device ∙ p.device;
  loads = q.loads ∙ p.loads;
  devices = q.devices ∙ p.devices;
  fetches = q.fetches ∙ p.fetches;
}

-- what is younger than the oldest may change as it may
pub put_grows : (es : List Entry) (n : ℕ) (e d : Entry) → nth es n ≡ some e → More e d → Grows es (put es n d)
put_grows [] n e d at m = refl
put_grows (x ∷ es) zero e d at m = let same : x ≡ e = cc in subst (λ y. More y d) (sym same) m
put_grows (x ∷ es) (suc n) e d at m = more_same x

abbrev pub MaybeMore : Entry → Option Entry → Type 0
MaybeMore e None = Unit {0}
MaybeMore e (Some d) = More e d

pub learn_grows : (f : Core → ℕ → Entry → Option Entry) (n : ℕ) (k : Core) → ((e : Entry) → MaybeMore e (f k n e)) → Grows k.window (learn f n k).window
learn_grows f n k g =
    learn_by (λ (z : Core). Grows k.window z.window) f n k (grows_same k.window)
    (λ e d at ed. put_grows k.window n e d at (subst (MaybeMore e) ed (g e)))

learn_onward : (f : Core → ℕ → Entry → Option Entry) (n : ℕ) (k : Core) → ((e : Entry) → MaybeMore e (f k n e)) → Onward k (learn f n k)
learn_onward f n k g =
    learn_by (Onward k) f n k (onward_same k) (λ e d at ed.
    record { window = put_grows k.window n e d at (subst (MaybeMore e) ed (g e)); stores = refl; device = refl; loads = refl; devices = refl; fetches = refl })

pub left_more : (k : Core) (n : ℕ) (e : Entry) → MaybeMore e (read_left k n e)
left_more k n e =
    given_cases (MaybeMore e) e.left
    (λ _. given_cases (MaybeMore e) e.word (λ _. tt) (λ w _.
    given_cases (MaybeMore e) (newest k.regs k.window n (left_register w)) (λ _. tt) (λ x _.
    record { word = λ h. h; left = λ h. refl; right = λ h. h; outcome = λ o h. h; loaded = λ h. h })))
    (λ _ _. tt)

pub right_more : (k : Core) (n : ℕ) (e : Entry) → MaybeMore e (read_right k n e)
right_more k n e =
    given_cases (MaybeMore e) e.right
    (λ _. given_cases (MaybeMore e) e.word (λ _. tt) (λ w _.
    given_cases (MaybeMore e) (newest k.regs k.window n (right_register w)) (λ _. tt) (λ x _.
    record { word = λ h. h; left = λ h. h; right = λ h. refl; outcome = λ o h. h; loaded = λ h. h })))
    (λ _ _. tt)

pub execute_more : (k : Core) (n : ℕ) (e : Entry) → MaybeMore e (execute k n e)
execute_more k n e =
    given_cases (MaybeMore e) e.outcome (λ q.
    given_cases (MaybeMore e) e.word (λ _. tt) (λ w _.
    given_cases (MaybeMore e) e.left (λ _. tt) (λ x _.
    given_cases (MaybeMore e) e.right (λ _. tt) (λ y _.
    record { word = λ h. h; left = λ h. h; right = λ h. h; outcome = λ o h. some_not_none h q; loaded = λ h. h }))))
    (λ _ _. tt)

pub loaded_more : (e : Entry) (x : ℕ) → More e (with_loaded e x)
loaded_more e x = record { word = λ h. h; left = λ h. h; right = λ h. h; outcome = λ o h. h; loaded = λ h. refl }

pub forward_more : (k : Core) (n : ℕ) (e : Entry) → MaybeMore e (forward k n e)
forward_more k n e = given_cases (MaybeMore e) e.loaded (λ _. given_cases (MaybeMore e) e.outcome (λ _. tt) (λ o _. by o)) (λ _ _. tt)
  where
    from : (q : Source) → MaybeMore e (forwarded e q)
    from Unknown = tt
    from Memory = tt
    from (Forwarded x) = loaded_more e x

    by : (o : Outcome) → MaybeMore e (forward_outcome k n e o)
    by (Writes r x b) = tt
    by (Jumps b) = tt
    by (Loads r b) = pick_cases (MaybeMore e) (device b) (λ _. tt) (λ _. from (source k.stores k.window n (b / 4)))
    by (Stores b x) = tt
    by (Halts h) = tt

redirect_grows : (n g : ℕ) (es : List Entry) (e : Entry) → nth es n ≡ some e → Grows es (take n es ++ (with_predicted e g ∷ []))
redirect_grows n g [] e at = some_none at refl
redirect_grows zero g (x ∷ es) e at =
    let same : x ≡ e = cc in
    subst (λ y. More y (with_predicted e g)) (sym same) (record { word = λ h. h; left = λ h. h; right = λ h. h; outcome = λ o h. h; loaded = λ h. h })
redirect_grows (suc n) g (x ∷ es) e at = more_same x

-- a retirement is shown, or nothing was done
some_rets : {A : Type 0} {t : Ret} {ts : List Ret} → ◌≡◌ {A = List Ret} (t ∷ ts) [] → A
some_rets h = let z : ◌≡◌ {A = ℕ} 0 1 = cc in absurd (omega arith)

pub retire_rest : (k : Core) → (retire k).rets ≡ [] → (retire k).core ≡ k
retire_rest k = retire_by (λ (d : Retired). d.rets ≡ [] → d.core ≡ k) k (λ _. refl) (λ e es gs b ps t f h. some_rets h)

pub move_onward : (x : Move) (k : Core) → (move x k).rets ≡ [] → Onward k (move x k).core
move_onward rest k q = onward_same k
move_onward (reads_left n) k q = learn_onward read_left n k (left_more k n)
move_onward (reads_right n) k q = learn_onward read_right n k (right_more k n)
move_onward (executes n) k q = learn_onward execute n k (execute_more k n)
move_onward (forwards n) k q = learn_onward forward n k (forward_more k n)
move_onward (redirects n g) k q =
    opt_cases (Onward k) (nth k.window n) (λ _. onward_same k) (λ e at. record {
      window = redirect_grows n g k.window e at;
      stores = refl;
      device = refl;
      loads = loads_kept 0 (suc n) k.requests (omega arith);
      devices = devices_retagged (kept (suc n)) k.requests;
      fetches = fetches_kept 0 (suc n) k.fetches (omega arith);
    })
move_onward retires k q = subst (Onward k) (sym (retire_rest k q)) (onward_same k)

pub nil_left : {A : Type 0} (xs ys : List A) → xs ++ ys ≡ [] → xs ≡ []
nil_left [] ys h = refl
nil_left (x ∷ xs) ys h = absurd (let z : ◌≡◌ {A = ℕ} 0 1 = cc in omega arith)

pub nil_right : {A : Type 0} (xs ys : List A) → xs ++ ys ≡ [] → ys ≡ []
nil_right [] ys h = h
nil_right (x ∷ xs) ys h = absurd (let z : ◌≡◌ {A = ℕ} 0 1 = cc in omega arith)

pub rules_onward : {T : Type 0} (rs : List (T → Core → Move × T)) (t : T) (k : Core) → (run_rules rs t k).rets ≡ [] → Onward k (run_rules rs t k).core
rules_onward [] t k q = onward_same k
rules_onward (r ∷ rs) t k q =
    let x = (r t k).0 in
    let j = (move x k).core in
    onward_then k j (run_rules rs (r t k).1 j).core (move_onward x k (nil_left (move x k).rets _ q)) (rules_onward rs (r t k).1 j (nil_right (move x k).rets _ q))

-- the oldest of a window that grew
pub record HeadGrown (e : Entry) (ds : List Entry) : Type 0 where
  pub head : Entry
  pub tail : List Entry
  pub is : ds ≡ head ∷ tail
  pub more : More e head

pub head_grown : (es ds : List Entry) (e : Entry) (xs : List Entry) → es ≡ e ∷ xs → Grows es ds → HeadGrown e ds
head_grown [] ds e xs q g = absurd (let z : ◌≡◌ {A = ℕ} 0 1 = cc in omega arith)
head_grown (z ∷ es) [] e xs q g = absurd g
head_grown (z ∷ es) (d ∷ ds) e xs q g = let s : z ≡ e = cc in record { head = d; tail = ds; is = refl; more = subst (λ w. More w d) s g }

pub head_more : (es ds : List Entry) (e d : Entry) (xs ys : List Entry) → es ≡ e ∷ xs → ds ≡ d ∷ ys → Grows es ds → More e d
head_more es ds e d xs ys p q g = subst (λ (w : List Entry). Grows w (d ∷ ys)) p (subst (Grows es) q g)
