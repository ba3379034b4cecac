-- The queues of open requests: each tag with what is claimed of it and of what it stands for.
use Rattle.std.proofs.Common.{◌≡◌, ℕ, zero, suc, ◌<◌, Bool, true, false, ltb, List, [], ◌∷◌, ◌++◌, length, Some, None, Option, refl, ap, arith, ltb-true}
use Rattle.isa.specs.Words.{pick}
use Rattle.pins.specs.Settled.{Due, any_word, from_device, that_word}
use Rattle.window.specs.declared.entry.Number.{Number}
use Rattle.window.specs.declared.entry.Tag.{Tag}
use Rattle.window.specs.declared.entry.Tag.TheVariants.{Acknowledgment, Load, Stale, Device}
use Rattle.window.specs.Entries.{given, number}
use Rattle.window.specs.Machine.{popped, kept, retag, retags, renumber, renumbers}
use Rattle.window.proofs.Cases.{some_not_none}

-- two queues, of the same length, and a claim about each pair
pub data Each {A B : Type 0} (P : A → B → Type 0) : List A → List B → Type 0 where
  no_more : Each P [] []
  and : {x : A} {y : B} {xs : List A} {ys : List B} → P x y → Each P xs ys → Each P (x ∷ xs) (y ∷ ys)

abbrev pub Head : {A B : Type 0} → (A → B → Type 0) → List A → B → List B → Type 0
Head P [] y ys = ⊥
Head P (x ∷ xs) y ys = P x y × Each P xs ys

module _ {A B : Type 0} {P : A → B → Type 0} where
  pub each_head : {xs : List A} {y : B} {ys : List B} → Each P xs (y ∷ ys) → Head P xs y ys
  each_head (and p o) = (p, o)

  pub each_push : {xs : List A} {ys : List B} {x : A} {y : B} → Each P xs ys → P x y → Each P (xs ++ (x ∷ [])) (ys ++ (y ∷ []))
  each_push no_more p = and p no_more
  each_push (and q o) p = and q (each_push o p)

  pub each_length : {xs : List A} {ys : List B} → Each P xs ys → length xs ≡ length ys
  each_length no_more = refl
  each_length (and p o) = ap suc (each_length o)

  pub each_map : {Q : A → B → Type 0} {xs : List A} {ys : List B} → ((x : A) (y : B) → P x y → Q x y) → Each P xs ys → Each Q xs ys
  each_map f no_more = no_more
  each_map f (and p o) = and (f _ _ p) (each_map f o)

-- a request's tag and what it is due; of a load, that L holds of its number and its word
abbrev pub Request : (ℕ → ℕ → Type 0) → Tag → Due → Type 0
Request L Acknowledgment any_word = Unit {0}
Request L Acknowledgment from_device = ⊥
Request L Acknowledgment (that_word x) = ⊥
Request L (Load n) any_word = ⊥
Request L (Load n) from_device = ⊥
Request L (Load n) (that_word x) = L n.0 x
Request L Stale any_word = ⊥
Request L Stale from_device = ⊥
Request L Stale (that_word x) = Unit {0}
Request L Device any_word = ⊥
Request L Device from_device = Unit {0}
Request L Device (that_word x) = ⊥

-- a wanted word of code and its address
abbrev pub Fetch : (ℕ → ℕ → Type 0) → Option Number → ℕ → Type 0
Fetch F None a = Unit {0}
Fetch F (Some n) a = F n.0 a

pub request_map : {L M : ℕ → ℕ → Type 0} → ((n x : ℕ) → L n x → M n x) → (t : Tag) (d : Due) → Request L t d → Request M t d
request_map f Acknowledgment any_word p = p
request_map f Acknowledgment from_device p = p
request_map f Acknowledgment (that_word x) p = p
request_map f (Load n) any_word p = p
request_map f (Load n) from_device p = p
request_map f (Load n) (that_word x) p = f n.0 x p
request_map f Stale any_word p = p
request_map f Stale from_device p = p
request_map f Stale (that_word x) p = p
request_map f Device any_word p = p
request_map f Device from_device p = p
request_map f Device (that_word x) p = p

pub fetch_map : {F G : ℕ → ℕ → Type 0} → ((n a : ℕ) → F n a → G n a) → (t : Option Number) (a : ℕ) → Fetch F t a → Fetch G t a
fetch_map f None a p = p
fetch_map f (Some n) a p = f n.0 a p

-- numbers become others, or none
module _ {L M : ℕ → ℕ → Type 0} (g : ℕ → Option ℕ) (f : (n x j : ℕ) → g n ≡ Some j → L n x → M j x) where
  retag_load : (n x : ℕ) → L n x → Request M (given (g n) Stale (λ j. Load (number j))) (that_word x)
  retag_load n x p = by (g n) refl
    where
      by : (o : Option ℕ) → g n ≡ o → Request M (given o Stale (λ j. Load (number j))) (that_word x)
      by None e = tt
      by (Some j) e = f n x j e p

  request_retag : (t : Tag) (d : Due) → Request L t d → Request M (retag g t) d
  request_retag Acknowledgment any_word p = p
  request_retag Acknowledgment from_device p = p
  request_retag Acknowledgment (that_word x) p = p
  request_retag (Load n) any_word p = absurd p
  request_retag (Load n) from_device p = absurd p
  request_retag (Load n) (that_word x) p = retag_load n.0 x p
  request_retag Stale any_word p = p
  request_retag Stale from_device p = p
  request_retag Stale (that_word x) p = p
  request_retag Device any_word p = p
  request_retag Device from_device p = p
  request_retag Device (that_word x) p = p

  pub requests_retag : {ts : List Tag} {ds : List Due} → Each (Request L) ts ds → Each (Request M) (retags g ts) ds
  requests_retag no_more = no_more
  requests_retag (and {x} {y} p o) = and (request_retag x y p) (requests_retag o)

  fetch_renumber : (t : Option Number) (a : ℕ) → Fetch L t a → Fetch M (renumber g t) a
  fetch_renumber None a p = p
  fetch_renumber (Some n) a p = by (g n.0) refl
    where
      by : (o : Option ℕ) → g n.0 ≡ o → Fetch M (given o None (λ j. Some (number j))) a
      by None e = tt
      by (Some j) e = f n.0 a j e p

  pub fetches_renumber : {ts : List (Option Number)} {qs : List ℕ} → Each (Fetch L) ts qs → Each (Fetch M) (renumbers g ts) qs
  fetches_renumber no_more = no_more
  fetches_renumber (and {x} {y} p o) = and (fetch_renumber x y p) (fetches_renumber o)

pub popped_is : (k j : ℕ) → popped k ≡ Some j → k ≡ suc j
popped_is zero j e = some_not_none e refl
popped_is (suc k) j e = cc

pub kept_is : (n k j : ℕ) → kept n k ≡ Some j → (k ≡ j) × (k < n)
kept_is n k j e = by (ltb k n) refl e
  where
    by : (b : Bool) → ltb k n ≡ b → pick b (Some k) None ≡ Some j → (k ≡ j) × (k < n)
    by true t q = (cc, ltb-true k n t)
    by false t q = some_not_none q refl

-- all flushed: nothing is claimed any more
pub kept_none : {A : Type 0} (k j : ℕ) → kept 0 k ≡ Some j → A
kept_none k j e = let h = (kept_is 0 k j e).1 in absurd (omega arith)
