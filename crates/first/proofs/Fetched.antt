-- Code: what was fetched, and what is still to come, follows the core's address; each rule on it keeps that.
use Rattle.std.proofs.Common.{◌≡◌, ℕ, zero, suc, ◌+◌, ◌/◌, ◌<◌, ◌≤◌, Bool, true, false, ◌&&◌, ltb, List, [], ◌∷◌, ◌++◌, length, drop, sym, refl, ap, ◌∙◌, subst, arith, length-append, drop_of_length-le}
use mathlib.Core.Option.{Option, some, none}
use Rattle.std.proofs.lemmas.Bool.{ltb-true, and_parts}
use Rattle.isa.specs.Words.{add}
use Rattle.isa.specs.Manual.{Code}
use Rattle.pins.specs.View.{pop, push, CodeAllowed}
use Rattle.first.specs.Model.{Fetching, took, took_use, take_code, rest, refetch, want, want_if}

-- the words stand at p and onward, then come the wanted addresses, then the next address to want
abbrev pub Chain : Code → ℕ → List ℕ → List ℕ → ℕ → Type 0
Chain c p (x ∷ xs) ws f = (x ≡ c (p / 4)) × Chain c (add p 4) xs ws f
Chain c p [] (w ∷ ws) f = (w ≡ p) × Chain c (add p 4) [] ws f
Chain c p [] [] f = f ≡ p

-- of the open wants the oldest are stale, and the rest are of use
pub record Fetched (c : Code) (p : ℕ) (f : Fetching) (ws : List ℕ) : Type 0 where
  pub chain : Chain c p f.words (drop f.stale ws) f.at
  pub count : f.stale + f.coming ≡ length ws
  pub few : length ws ≤ 4

-- a wanted word comes
chain_came : (c : Code) (p : ℕ) (xs : List ℕ) (x w : ℕ) (ws : List ℕ) (f : ℕ) → x ≡ c (w / 4) → Chain c p xs (w ∷ ws) f → Chain c p (xs ++ (x ∷ [])) ws f
chain_came c p [] x w ws f e (q, h) = (e ∙ ap (λ (y : ℕ). c (y / 4)) q, h)
chain_came c p (y ∷ xs) x w ws f e (q, h) = (q, chain_came c (add p 4) xs x w ws f e h)

use_kept : (c : Code) (p x : ℕ) (f : Fetching) (n w : ℕ) (ws : List ℕ) → f.stale ≡ 0 → f.coming ≡ n → x ≡ c (w / 4)
    → Chain c p f.words (w ∷ ws) f.at → f.coming ≡ length (w ∷ ws) → length (w ∷ ws) ≤ 4 → Fetched c p (took_use x f n) ws
use_kept c p x f zero w ws s q e ch ct fw = absurd (omega arith)
use_kept c p x f (suc n) w ws s q e ch ct fw =
    record { chain = subst (λ (t : ℕ). Chain c p (f.words ++ (x ∷ [])) (drop t ws) f.at) (sym s) (chain_came c p f.words x w ws f.at e ch); count = omega arith; few = omega arith }

took_kept : (c : Code) (p x : ℕ) (f : Fetching) (n w : ℕ) (ws : List ℕ) → f.stale ≡ n → x ≡ c (w / 4)
    → Chain c p f.words (drop n (w ∷ ws)) f.at → n + f.coming ≡ length (w ∷ ws) → length (w ∷ ws) ≤ 4 → Fetched c p (took x f n) ws
took_kept c p x f zero w ws z e ch ct fw = use_kept c p x f f.coming w ws z refl e ch (omega arith) fw
took_kept c p x f (suc n) w ws z e ch ct fw = record { chain = ch; count = omega arith; few = omega arith }

pub code_kept : (c : Code) (p : ℕ) (i : Option ℕ) (f : Fetching) (ws : List ℕ) → CodeAllowed c i ws → Fetched c p f ws → Fetched c p (take_code i f) (pop i ws)
code_kept c p none f ws r h = h
code_kept c p (some x) f [] r h = absurd r
code_kept c p (some x) f (w ∷ ws) r h = took_kept c p x f f.stale w ws refl r h.chain h.count h.few

-- one word more is wanted
chain_want : (c : Code) (p : ℕ) (xs ws : List ℕ) (f : ℕ) → Chain c p xs ws f → Chain c p xs (ws ++ (f ∷ [])) (add f 4)
chain_want c p (x ∷ xs) ws f (q, h) = (q, chain_want c (add p 4) xs ws f h)
chain_want c p [] (w ∷ ws) f (q, h) = (q, chain_want c (add p 4) [] ws f h)
chain_want c p [] [] f h = (h, ap (λ (y : ℕ). add y 4) h)

drop_snoc : {A : Type 0} (n : ℕ) (ws : List A) (x : A) → n ≤ length ws → drop n (ws ++ (x ∷ [])) ≡ drop n ws ++ (x ∷ [])
drop_snoc zero ws x h = refl
drop_snoc (suc n) [] x h = absurd (omega arith)
drop_snoc (suc n) (w ∷ ws) x h = drop_snoc n ws x (omega arith)

want_if_kept : (c : Code) (p : ℕ) (f : Fetching) (ws : List ℕ) → Fetched c p f ws → (b : Bool) → (b ≡ true → f.stale + f.coming < 4) → Fetched c p (want_if f b).fetch (push (want_if f b).want ws)
want_if_kept c p f ws h true t =
    let lt : f.stale + f.coming < 4 = t refl in
    let le : f.stale ≤ length ws = omega arith in
    record {
      chain = rw (drop_snoc f.stale ws f.at le) (chain_want c p f.words (drop f.stale ws) f.at h.chain);
      count = simp length-append (omega arith);
      few = simp length-append (omega arith);
    }
want_if_kept c p f ws h false t = h

pub want_kept : (c : Code) (p : ℕ) (f : Fetching) (ws : List ℕ) → Fetched c p f ws → Fetched c p (want f).fetch (push (want f).want ws)
want_kept c p f ws h =
    let ahead = ltb (length f.words + f.coming) 2 in
    let few = ltb (f.stale + f.coming) 4 in
    want_if_kept c p f ws h (ahead && few) (λ e. ltb-true (f.stale + f.coming) 4 (and_parts ahead few e).1)

-- the next instruction is at a: behind this one, or elsewhere, and then all that is open is stale
chain_rest : (c : Code) (p : ℕ) (xs ws : List ℕ) (f w : ℕ) (us : List ℕ) → xs ≡ w ∷ us → Chain c p xs ws f → Chain c (add p 4) (rest xs) ws f
chain_rest c p [] ws f w us e h = let z : ◌≡◌ {A = ℕ} 0 1 = cc in absurd (omega arith)
chain_rest c p (x ∷ xs) ws f w us e h = h.1

pub refetch_kept : (c : Code) (p a w : ℕ) (us : List ℕ) (f : Fetching) (b : Bool) (ws : List ℕ) → f.words ≡ w ∷ us → (b ≡ true → a ≡ add p 4) → Fetched c p f ws → Fetched c a (refetch b a f) ws
refetch_kept c p a w us f true ws e t h = record { chain = rw (t refl) (chain_rest c p f.words _ _ w us e h.chain); count = h.count; few = h.few }
refetch_kept c p a w us f false ws e t h =
    let le : length ws ≤ f.stale + f.coming = omega arith in
    record { chain = rw (drop_of_length-le ws le) refl; count = omega arith; few = h.few }

-- the word of the instruction at work is the code's
pub at_word : (c : Code) (p : ℕ) (xs ws : List ℕ) (f w : ℕ) (us : List ℕ) → xs ≡ w ∷ us → Chain c p xs ws f → w ≡ c (p / 4)
at_word c p [] ws f w us e h = let z : ◌≡◌ {A = ℕ} 0 1 = cc in absurd (omega arith)
at_word c p (x ∷ xs) ws f w us e h = let g = h.0 in cc
