-- Which of the open requests is for the oldest, and how long it has waited: a queue of marks beside a queue of ages.
use Rattle.std.proofs.Common.{◌≡◌, ℕ, zero, suc, ◌+◌, ◌<◌, ◌≤◌, Bool, true, false, eqb, ltb, List, [], ◌∷◌, ◌++◌, map, length, get_or, Some, None, Option, sym, refl, ap, ◌∙◌, arith, ltb-false, eqb-true}
use mathlib.Core.Option.{Option as Opt, some, none}
use borrow.Author.Tests.{eqb-false}
use Rattle.std.proofs.lemmas.Bool.{eq-eqb, ne_eqb}
use Rattle.isa.specs.Words.{pick}
use Rattle.pins.specs.View.{pop, push}
use Rattle.pins.specs.Waits.{aged}
use Rattle.window.specs.declared.entry.Number.{Number}
use Rattle.window.specs.declared.entry.Tag.{Tag}
use Rattle.window.specs.declared.entry.Tag.TheVariants.{Acknowledgment, Load, Stale, Device}
use Rattle.window.specs.Entries.{given, number}
use Rattle.window.specs.Machine.{popped, kept, retags, renumbers}
use Rattle.window.specs.Fairness.{is_load, any}
use Rattle.window.proofs.Cases.{some_none, clash}

abbrev pub is_device : Tag → Bool
is_device Acknowledgment = false
is_device (Load n) = false
is_device Stale = false
is_device Device = true

abbrev pub is_fetch : ℕ → Option Number → Bool
is_fetch n None = false
is_fetch n (Some k) = eqb k.0 n

-- the age of the first that is marked
abbrev pub spot : List Bool → List ℕ → Opt ℕ
spot [] q = none
spot (true ∷ bs) [] = none
spot (true ∷ bs) (a ∷ q) = some a
spot (false ∷ bs) [] = none
spot (false ∷ bs) (a ∷ q) = spot bs q

-- nothing in a queue of ages is older than l
abbrev pub Young : ℕ → List ℕ → Type 0
Young l q = (n : ℕ) → get_or q n 0 ≤ l

pub spot_any : (bs : List Bool) (q : List ℕ) → any bs ≡ true → length bs ≡ length q → (a : ℕ) × (spot bs q ≡ some a)
spot_any [] q h e = clash h refl
spot_any (true ∷ bs) [] h e = absurd (omega arith)
spot_any (true ∷ bs) (a ∷ q) h e = (a, refl)
spot_any (false ∷ bs) [] h e = absurd (omega arith)
spot_any (false ∷ bs) (a ∷ q) h e = spot_any bs q h (omega arith)

pub spot_none : (bs : List Bool) (q : List ℕ) → any bs ≡ false → spot bs q ≡ none
spot_none [] q h = refl
spot_none (true ∷ bs) q h = clash refl h
spot_none (false ∷ bs) [] h = refl
spot_none (false ∷ bs) (a ∷ q) h = spot_none bs q h

spot_older : (bs : List Bool) (q : List ℕ) (a : ℕ) → spot bs q ≡ some a → spot bs (map (λ n. n + 1) q) ≡ some (a + 1)
spot_older [] q a h = some_none h refl
spot_older (true ∷ bs) [] a h = some_none h refl
spot_older (true ∷ bs) (x ∷ q) a h = let e : x ≡ a = cc in ap (λ z. some (z + 1)) e
spot_older (false ∷ bs) [] a h = some_none h refl
spot_older (false ∷ bs) (x ∷ q) a h = spot_older bs q a h

spot_append : (bs cs : List Bool) (q : List ℕ) (y : Opt ℕ) (a : ℕ) → spot bs q ≡ some a → spot (bs ++ cs) (push y q) ≡ some a
spot_append [] cs q y a h = some_none h refl
spot_append (true ∷ bs) cs [] y a h = some_none h refl
spot_append (true ∷ bs) cs (x ∷ q) none a h = h
spot_append (true ∷ bs) cs (x ∷ q) (some y) a h = h
spot_append (false ∷ bs) cs [] y a h = some_none h refl
spot_append (false ∷ bs) cs (x ∷ q) none a h = spot_append bs cs q none a h
spot_append (false ∷ bs) cs (x ∷ q) (some y) a h = spot_append bs cs q (some y) a h

-- what is asked for now has waited for no clock
pub spot_new : (bs : List Bool) (q : List ℕ) (y : ℕ) → any bs ≡ false → length bs ≡ length q → spot (bs ++ (true ∷ [])) (q ++ (y ∷ [])) ≡ some y
spot_new [] [] y h e = refl
spot_new [] (x ∷ q) y h e = absurd (omega arith)
spot_new (true ∷ bs) q y h e = clash refl h
spot_new (false ∷ bs) [] y h e = absurd (omega arith)
spot_new (false ∷ bs) (x ∷ q) y h e = spot_new bs q y h (omega arith)

pub spot_young : (l : ℕ) (bs : List Bool) (q : List ℕ) (a : ℕ) → Young l q → spot bs q ≡ some a → a ≤ l
spot_young l [] q a v h = some_none h refl
spot_young l (true ∷ bs) [] a v h = some_none h refl
spot_young l (true ∷ bs) (x ∷ q) a v h = let e : x ≡ a = cc in let u = v 0 in omega arith
spot_young l (false ∷ bs) [] a v h = some_none h refl
spot_young l (false ∷ bs) (x ∷ q) a v h = spot_young l bs q a (λ n. v (suc n)) h

-- the answer is for none that is marked
abbrev pub Spared : Opt ℕ → List Bool → Type 0
Spared none bs = Unit {0}
Spared (some x) [] = Unit {0}
Spared (some x) (b ∷ bs) = b ≡ false

spot_pop : (i : Opt ℕ) (bs : List Bool) (q : List ℕ) (a : ℕ) → Spared i bs → spot bs q ≡ some a → spot (pop i bs) (pop i q) ≡ some a
spot_pop none bs q a s h = h
spot_pop (some x) [] q a s h = some_none h refl
spot_pop (some x) (true ∷ bs) q a s h = clash refl s
spot_pop (some x) (false ∷ bs) [] a s h = some_none h refl
spot_pop (some x) (false ∷ bs) (y ∷ q) a s h = h

-- one that is marked and not answered waits a clock more
pub spot_on : (i r : Opt ℕ) (bs cs : List Bool) (q : List ℕ) (a : ℕ) → Spared i bs → spot bs q ≡ some a → spot (pop i bs ++ cs) (aged i r q) ≡ some (a + 1)
spot_on i r bs cs q a s h = spot_append (pop i bs) cs (map (λ n. n + 1) (pop i q)) r (a + 1) (spot_older (pop i bs) (pop i q) a (spot_pop i bs q a s h))

pub any_pop : (i : Opt ℕ) (bs : List Bool) → any bs ≡ false → any (pop i bs) ≡ false
any_pop none bs h = h
any_pop (some x) [] h = h
any_pop (some x) (true ∷ bs) h = clash refl h
any_pop (some x) (false ∷ bs) h = h

pub any_append : (bs cs : List Bool) → any bs ≡ true → any (bs ++ cs) ≡ true
any_append [] cs h = clash h refl
any_append (true ∷ bs) cs h = refl
any_append (false ∷ bs) cs h = any_append bs cs h

pub any_last : (bs : List Bool) → any (bs ++ (true ∷ [])) ≡ true
any_last [] = refl
any_last (true ∷ bs) = refl
any_last (false ∷ bs) = any_last bs

pub pop_length : {A B : Type 0} (i : Opt ℕ) (xs : List A) (ys : List B) → length xs ≡ length ys → length (pop i xs) ≡ length (pop i ys)
pop_length none xs ys e = e
pop_length (some x) [] [] e = e
pop_length (some x) [] (b ∷ ys) e = absurd (omega arith)
pop_length (some x) (a ∷ xs) [] e = absurd (omega arith)
pop_length (some x) (a ∷ xs) (b ∷ ys) e = omega arith

-- what is kept is marked as it was
kept_mark : (n m k : ℕ) → n < m → {A : Type 0} (f : A → Bool) (g : ℕ → A) (d : A) → f d ≡ false → ((j : ℕ) → f (g j) ≡ eqb j n)
    → f (given (kept m k) d g) ≡ eqb k n
kept_mark n m k h f g d e q = by (ltb k m) refl
  where
    by : (b : Bool) → ltb k m ≡ b → f (given (pick b (Some k) None) d g) ≡ eqb k n
    by true t = q k
    by false t = let z = ltb-false k m t in e ∙ sym (ne_eqb k n (λ s. omega arith))

pub loads_kept : (n m : ℕ) (ts : List Tag) → n < m → map (is_load n) (retags (kept m) ts) ≡ map (is_load n) ts
loads_kept n m [] h = refl
loads_kept n m (Acknowledgment ∷ ts) h = ap (λ z. false ∷ z) (loads_kept n m ts h)
loads_kept n m (Load k ∷ ts) h = λ i. kept_mark n m k.0 h (is_load n) (λ j. Load (number j)) Stale refl (λ j. refl) i ∷ loads_kept n m ts h i
loads_kept n m (Stale ∷ ts) h = ap (λ z. false ∷ z) (loads_kept n m ts h)
loads_kept n m (Device ∷ ts) h = ap (λ z. false ∷ z) (loads_kept n m ts h)

pub fetches_kept : (n m : ℕ) (fs : List (Option Number)) → n < m → map (is_fetch n) (renumbers (kept m) fs) ≡ map (is_fetch n) fs
fetches_kept n m [] h = refl
fetches_kept n m (None ∷ fs) h = ap (λ z. false ∷ z) (fetches_kept n m fs h)
fetches_kept n m (Some k ∷ fs) h = λ i. kept_mark n m k.0 h (is_fetch n) (λ j. Some (number j)) None refl (λ j. refl) i ∷ fetches_kept n m fs h i

pub fetches_popped : (n : ℕ) (fs : List (Option Number)) → map (is_fetch n) (renumbers popped fs) ≡ map (is_fetch (suc n)) fs
fetches_popped n [] = refl
fetches_popped n (None ∷ fs) = ap (λ z. false ∷ z) (fetches_popped n fs)
fetches_popped n (Some k ∷ fs) = λ i. by k.0 i ∷ fetches_popped n fs i
  where
    same : (k : ℕ) (b : Bool) → eqb k n ≡ b → b ≡ eqb (suc k) (suc n)
    same k true e = sym (eq-eqb (suc k) (suc n) (ap suc (eqb-true k n e)))
    same k false e = sym (ne_eqb (suc k) (suc n) (λ q. eqb-false k n e (omega arith)))

    by : (k : ℕ) → is_fetch n (given (popped k) None (λ j. Some (number j))) ≡ eqb k (suc n)
    by zero = sym (ne_eqb 0 (suc n) (λ q. omega arith))
    by (suc k) = same k (eqb k n) refl

pub devices_retagged : (g : ℕ → Option ℕ) (ts : List Tag) → map is_device (retags g ts) ≡ map is_device ts
devices_retagged g [] = refl
devices_retagged g (Acknowledgment ∷ ts) = ap (λ z. false ∷ z) (devices_retagged g ts)
devices_retagged g (Load k ∷ ts) = λ i. by (g k.0) i ∷ devices_retagged g ts i
  where
    by : (o : Option ℕ) → is_device (given o Stale (λ j. Load (number j))) ≡ false
    by None = refl
    by (Some j) = refl
devices_retagged g (Stale ∷ ts) = ap (λ z. false ∷ z) (devices_retagged g ts)
devices_retagged g (Device ∷ ts) = ap (λ z. true ∷ z) (devices_retagged g ts)
