-- The store buffer's rules are the model's.
use Rattle.std.proofs.Common.{◌≡◌, ℕ, zero, suc, ◌+◌, ◌-◌, ◌/◌, ◌%◌, ◌<◌, ◌≤◌, min, Bool, true, false, cond, ◌&&◌, eqb, ◌⊎◌, List, [], ◌∷◌, ◌++◌, length, get_or, set, Some, sym, refl, ap, ◌∙◌, inl, inr, arith, length-set}
use mathlib.Core.Option.{Option as Opt, some, none}
use Rattle.std.proofs.lemmas.Bool.{lt-ltb, le-ltb, cases_lt}
use Rattle.isa.specs.Words.{add, pick, opt}
use Rattle.pins.specs.PortWords.{plain}
use Rattle.pins.specs.declared.held.Store.{Store}
use Rattle.first.specs.StoreRules.{StoreBuffer, no_store, slot, entry, buffer_push, buffer_pop, here, newest_below, newest, value_at, forwarded}
use Rattle.first.specs.Model.{lookup}
use Rattle.first.proofs.Ring.{ring, ring_length, ring_turn, ring_push, ring_last}
use Rattle.first.proofs.ModelOf.{waiting, SizedStores}

pub waiting_length : (b : StoreBuffer) → length (waiting b) ≡ b.count
waiting_length b = ring_length no_store b.at b.begin b.count

pub push_is : (b : StoreBuffer) (s : Store) → SizedStores b → b.count < 8 → waiting (buffer_push b s) ≡ waiting b ++ (s ∷ [])
push_is b s h l =
    let n : add b.count 1 ≡ suc b.count = omega arith in
    ap (ring no_store (set b.at (slot b b.count) s) b.begin) n
    ∙ ring_push no_store b.at b.begin b.count (slot b b.count) s h.array l (omega arith)

pub push_sized : (b : StoreBuffer) (s : Store) → SizedStores b → b.count < 8 → SizedStores (buffer_push b s)
push_sized b s h l = record { array = length-set b.at (slot b b.count) s ∙ h.array; few = omega arith }

pop_ring : (xs : List Store) (g n : ℕ) → 0 < n → ring no_store xs g n ≡ get_or xs ((g % 8 + 0 % 8) % 8) no_store ∷ ring no_store xs ((g % 8 + 1) % 8) (n - 1)
pop_ring xs g zero l = absurd (omega arith)
pop_ring xs g (suc n) l =
    let p : g % 8 ≡ (g % 8 + 0 % 8) % 8 = omega arith in
    let q : ring no_store xs (suc g) n ≡ ring no_store xs ((g % 8 + 1) % 8) (suc n - 1) = ring_turn no_store xs (suc g) ((g % 8 + 1) % 8) n (omega arith) ∙ ap (ring no_store xs ((g % 8 + 1) % 8)) (omega arith) in
    λ i. get_or xs (p i) no_store ∷ q i

pub pop_is : (b : StoreBuffer) → 0 < b.count → waiting b ≡ entry b 0 ∷ waiting (buffer_pop b)
pop_is b l = pop_ring b.at b.begin b.count l

pub pop_sized : (b : StoreBuffer) → SizedStores b → SizedStores (buffer_pop b)
pop_sized b h = record { array = h.array; few = omega (arith, h.few) }

-- the newest store: the last of the list
lookup_last : (xs : List Store) (p : Store) (a : ℕ) → lookup (xs ++ (p ∷ [])) a ≡ pick (eqb (p.address / 4) (a / 4)) (some p.value) (lookup xs a)
lookup_last [] p a = opt_some (pick (eqb (p.address / 4) (a / 4)) (some p.value) none)
  where
    opt_some : (o : Opt ℕ) → opt none o some ≡ o
    opt_some o = refl
lookup_last (x ∷ xs) p a = ap (λ o. opt o (pick (eqb (x.address / 4) (a / 4)) (some x.value) none) some) (lookup_last xs p a) ∙ by (eqb (p.address / 4) (a / 4))
  where
    by : (t : Bool) → opt (pick t (some p.value) (lookup xs a)) (pick (eqb (x.address / 4) (a / 4)) (some x.value) none) some ≡ pick t (some p.value) (opt (lookup xs a) (pick (eqb (x.address / 4) (a / 4)) (some x.value) none) some)
    by true = refl
    by false = refl

module _ (b : StoreBuffer) (a : ℕ) where
  -- of the n oldest places, as far as they hold stores
  Found : ℕ → Type 0
  Found n = plain (value_at b (newest_below b a n)) ≡ lookup (ring no_store b.at b.begin (min n b.count)) a

  found_next : (n : ℕ) → Found n → (n < b.count) ⊎ (b.count ≤ n) → Found (suc n)
  unfolding Found
  found_next n ih (inl l) =
      let p = entry b n in
      let same : get_or b.at ((b.begin + n) % 8) no_store ≡ p = ap (λ z. get_or b.at z no_store) (omega arith) in
      let m : min (suc n) b.count ≡ suc n = omega arith in
      let m' : min n b.count ≡ n = omega arith in
      let e : here b a n ≡ eqb (p.address / 4) (a / 4) = ap (λ t. t && eqb (p.address / 4) (a / 4)) (lt-ltb n b.count l) in
      let r = ring_last no_store b.at b.begin n in
      ap (λ t. plain (value_at b (cond t (Some n) (newest_below b a n)))) e
      ∙ by (eqb (p.address / 4) (a / 4)) (ih ∙ ap (λ k. lookup (ring no_store b.at b.begin k) a) m')
      ∙ sym (ap (λ k. lookup (ring no_store b.at b.begin k) a) m ∙ ap (λ l. lookup l a) (r ∙ ap (λ q. ring no_store b.at b.begin n ++ (q ∷ [])) same) ∙ lookup_last (ring no_store b.at b.begin n) p a)
    where
      by : (t : Bool) → plain (value_at b (newest_below b a n)) ≡ lookup (ring no_store b.at b.begin n) a
          → plain (value_at b (cond t (Some n) (newest_below b a n))) ≡ pick t (some (entry b n).value) (lookup (ring no_store b.at b.begin n) a)
      by true h = refl
      by false h = h
  found_next n ih (inr l) =
      let e : here b a n ≡ false = ap (λ t. t && eqb ((entry b n).address / 4) (a / 4)) (le-ltb n b.count l) in
      let m : min n b.count ≡ min (suc n) b.count = omega arith in
      ap (λ t. plain (value_at b (cond t (Some n) (newest_below b a n)))) e ∙ ih ∙ ap (λ k. lookup (ring no_store b.at b.begin k) a) m

  found : (n : ℕ) → Found n
  unfolding Found
  found zero = let m : 0 ≡ min 0 b.count = omega arith in ap (λ k. lookup (ring no_store b.at b.begin k) a) m
  found (suc n) = found_next n (found n) (cases_lt n b.count)

  pub forward_is : SizedStores b → plain (forwarded b a) ≡ lookup (waiting b) a
  unfolding newest Found
  forward_is h = let m : min 8 b.count ≡ b.count = omega (arith, h.few) in found 8 ∙ ap (λ k. lookup (ring no_store b.at b.begin k) a) m
