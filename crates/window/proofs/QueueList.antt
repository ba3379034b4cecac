-- What each change of a queue is to its list, for queues of every size and element; and that its numbers change as the machine's do.
use Rattle.std.proofs.Common.{◌≡◌, ℕ, zero, suc, ◌+◌, ◌-◌, ◌<◌, ◌≤◌, List, [], ◌∷◌, ◌++◌, map, length, get_or, take, drop, set, Some, None, Option, refl, ap, ◌∙◌, add-one, sub-one, arith, length-set, length-append, length-take-le, take-suc-set}
use Rattle.std.proofs.lemmas.List.{length-map, length-replicate}
use Rattle.isa.specs.Words.{nth}
use Rattle.pins.specs.PortWords.{optional}
use Rattle.rings.specs.declared.queue.Queue.{Queue}
use Rattle.window.specs.declared.entry.Number.{Number}
use Rattle.window.specs.declared.entry.Tag.TheVariants.{Acknowledgment}
use Rattle.window.specs.Machine.{retag, renumber}
use Rattle.window.specs.Rings.{rest}
use Rattle.window.specs.Queues.{queued, SizedQueue, QueueListLaws, QueueLaws}
use Rattle.window.proofs.Circle.{by_test}

-- N places, of which the first n are there
module _ {A : Type 0} (N : ℕ) (d : A) where
  push_behind : (xs : List A) (n : ℕ) (x : A) → length xs ≡ N → n < N → take (n + 1) (set xs n x) ≡ take n xs ++ (x ∷ [])
  push_behind xs n x e h = rw add-one (take-suc-set xs n x (omega arith))

  first_there : (xs : List A) (n : ℕ) → 0 < length xs → 0 < n → Some (get_or xs 0 d) ≡ optional (nth (take n xs) 0)
  first_there [] n e h = absurd (omega arith)
  first_there (x ∷ xs) zero e h = absurd (omega arith)
  first_there (x ∷ xs) (suc n) e h = refl

  none_there : (xs : List A) (n : ℕ) → n ≤ 0 → None ≡ optional (nth (take n xs) 0)
  none_there xs zero h = refl
  none_there xs (suc n) h = absurd (omega arith)

  take_inside : (xs ys : List A) (n : ℕ) → n ≤ length xs → take n (xs ++ ys) ≡ take n xs
  take_inside xs ys zero h = refl
  take_inside [] ys (suc n) h = absurd (omega arith)
  take_inside (x ∷ xs) ys (suc n) h = ap (λ z. x ∷ z) (take_inside xs ys n (omega arith))

  pop_front : (xs : List A) (n : ℕ) → n ≤ length xs → take (n - 1) (drop 1 xs ++ (d ∷ [])) ≡ rest (take n xs)
  pop_front xs zero h = refl
  pop_front [] (suc n) h = absurd (omega arith)
  pop_front (x ∷ xs) (suc n) h = rw sub-one (take_inside xs (d ∷ []) n (omega arith))

  take_map : (f : A → A) (n : ℕ) (xs : List A) → take n (map f xs) ≡ map f (take n xs)
  take_map f zero xs = refl
  take_map f (suc n) [] = refl
  take_map f (suc n) (x ∷ xs) = ap (λ z. f x ∷ z) (take_map f n xs)

  shifted_length : (xs : List A) → length xs ≡ N → 0 < N → length (drop 1 xs ++ (d ∷ [])) ≡ N
  shifted_length [] e h = absurd (omega arith)
  shifted_length (x ∷ xs) e h = let a = length-append xs (d ∷ []) in omega arith

  pub queue_list_laws : 0 < N → QueueListLaws N d
  unfolding queued
  queue_list_laws h = record {
    start = refl;
    count = λ q s. length-take-le q.count q.at (let a = s.slots in let b = s.count in omega arith);
    push = λ q x s l. by_test (λ (z : Queue A N). queued z ≡ queued q ++ (x ∷ [])) q.count N _ _ (λ _. push_behind q.at q.count x s.slots l) (λ g. absurd (omega arith));
    oldest = λ q s. by_test (λ o. o ≡ optional (nth (queued q) 0)) 0 q.count _ _ (λ l. let a = s.slots in first_there q.at q.count (omega arith) l) (λ l. none_there q.at q.count l);
    pop = λ q s. let a = s.slots in let b = s.count in pop_front q.at q.count (omega arith);
    by = λ f q s. take_map f q.count q.at;
    start_sized = record { slots = length-replicate N d; count = omega arith };
    push_sized = λ q x s. by_test SizedQueue q.count N _ _ (λ l. record { slots = length-set q.at _ x ∙ s.slots; count = omega arith }) (λ l. s);
    pop_sized = λ q s. let c = s.count in record { slots = shifted_length q.at s.slots h; count = omega arith };
    by_sized = λ f q s. record { slots = length-map q.at f ∙ s.slots; count = s.count };
  }

pub queue_laws : QueueLaws
queue_laws =
    let requests = queue_list_laws 4 Acknowledgment (omega arith) in
    let fetches = queue_list_laws {A = Option Number} 4 None (omega arith) in
    record { requests = requests; fetches = fetches; tags_by = λ g q s. requests.by (retag g) q s; wants_by = λ g q s. fetches.by (renumber g) q s }
