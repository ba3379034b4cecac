-- What each change of a ring is to its list, for rings of every size and element.
use Rattle.std.proofs.Common.{◌≡◌, ℕ, zero, suc, ◌<◌, ◌≤◌, List, [], ◌∷◌, ◌++◌, length, get_or, take, sym, refl, ap, ◌∙◌, add-one, arith, length-set}
use Rattle.std.proofs.lemmas.List.{length-replicate}
use mathlib.Core.Option.{some}
use Rattle.isa.specs.Words.{nth, put}
use Rattle.pins.specs.PortWords.{optional}
use Rattle.rings.specs.declared.ring.Ring.{Ring}
use Rattle.rings.specs.RingRules.{slot}
use Rattle.rings.specs.Places.{pushed_if_room, popped_if_any, held, put_at, cut_to}
use Rattle.window.specs.Rings.{around, rest, element, listed, Sized, ListLaws}
use Rattle.window.proofs.Cases.{some_none}
use Rattle.window.proofs.Circle.{by_test, slot_is, around_length, around_push, around_pop, around_none, around_put, put_beyond, around_take, take_beyond, around_nth, nth_beyond}

-- the first n of a list, and its n-th changed
take_put : {A : Type 0} (xs : List A) (n : ℕ) (x : A) → n < length xs → take (suc n) (put xs n x) ≡ take n xs ++ (x ∷ [])
take_put [] n x h = absurd (omega arith)
take_put (y ∷ xs) zero x h = refl
take_put (y ∷ xs) (suc n) x h = ap (λ z. y ∷ z) (take_put xs n x (omega arith))

module _ {A : Type 0} (N : ℕ) (positive : 0 < N) (d : A) where
  list_push : (w : Ring A N) (x : A) → Sized w → w.count < N → listed d (pushed_if_room w x) ≡ listed d w ++ (x ∷ [])
  unfolding listed
  list_push w x s l =
      by_test (λ (v : Ring A N). listed d v ≡ listed d w ++ (x ∷ [])) w.count N _ _
      (λ _. rw (add-one w.count) (around_push N positive d w.at w.begin w.count _ x s.slots l (slot_is N w.begin w.count)))
      (λ g. absurd (omega arith))

  list_pop : (w : Ring A N) → listed d (popped_if_any w) ≡ rest (listed d w)
  unfolding listed
  list_pop w =
      by_test (λ (v : Ring A N). listed d v ≡ rest (listed d w)) 0 w.count _ _
      (λ l. around_pop N positive d w.at w.begin w.count l)
      (λ l. around_none N positive d w.at w.begin w.count l)

  list_cut : (w : Ring A N) (n : ℕ) → listed d (cut_to w n) ≡ take n (listed d w)
  unfolding listed
  list_cut w n =
      by_test (λ (v : Ring A N). listed d v ≡ take n (listed d w)) n w.count _ _
      (λ l. around_take N positive d w.at w.begin w.count n (omega arith))
      (λ l. sym (take_beyond N positive d w.at w.begin w.count n l))

  list_put : (w : Ring A N) (n : ℕ) (x : A) → Sized w → listed d (put_at w n x) ≡ put (listed d w) n x
  unfolding listed
  list_put w n x s =
      by_test (λ (v : Ring A N). listed d v ≡ put (listed d w) n x) n w.count _ _
      (λ l. around_put N positive d w.at w.begin w.count n (slot w n) x s.slots s.count l (slot_is N w.begin n))
      (λ l. sym (put_beyond N positive d w.at w.begin w.count n x l))

  pub list_nth : (w : Ring A N) (n : ℕ) → n < w.count → nth (listed d w) n ≡ some (element d w n)
  unfolding listed
  list_nth w n l = around_nth N positive d w.at w.begin w.count n l ∙ ap (λ z. some (get_or w.at z d)) (sym (slot_is N w.begin n))

  list_get : (w : Ring A N) (n : ℕ) → held d w n ≡ optional (nth (listed d w) n)
  unfolding listed
  list_get w n =
      by_test (λ o. o ≡ optional (nth (listed d w) n)) n w.count _ _
      (λ l. sym (ap optional (list_nth w n l)))
      (λ l. sym (ap optional (nth_beyond N positive d w.at w.begin w.count n l)))

  list_length : (w : Ring A N) → length (listed d w) ≡ w.count
  unfolding listed
  list_length w = around_length N positive d w.at w.begin w.count

  list_oldest : (w : Ring A N) → 0 < w.count → listed d w ≡ element d w 0 ∷ listed d (popped_if_any w)
  list_oldest w l = by (listed d w) refl
    where
      by : (xs : List A) → listed d w ≡ xs → listed d w ≡ element d w 0 ∷ listed d (popped_if_any w)
      by [] e = some_none (list_nth w 0 l) (ap (λ (z : List A). nth z 0) e)
      by (x ∷ xs) e =
          let h : some x ≡ some (element d w 0) = sym (ap (λ (z : List A). nth z 0) e) ∙ list_nth w 0 l in
          let same : x ≡ element d w 0 = cc in
          let tail : xs ≡ listed d (popped_if_any w) = sym (list_pop w ∙ ap rest e) in
          e ∙ (λ i. same i ∷ tail i)

  list_empty : (w : Ring A N) → w.count ≤ 0 → listed d w ≡ []
  unfolding listed
  list_empty w h = let e : w.count ≡ 0 = omega arith in ap (λ n. around N d w.at w.begin n) e

  list_redirect : (w : Ring A N) (n : ℕ) (x : A) → Sized w → n < w.count → listed d (cut_to (put_at w n x) (suc n)) ≡ take n (listed d w) ++ (x ∷ [])
  list_redirect w n x s l =
      let e = list_length w in
      list_cut (put_at w n x) (suc n) ∙ ap (take (suc n)) (list_put w n x s) ∙ take_put (listed d w) n x (omega arith)

  pub list_laws : ListLaws N d
  unfolding listed
  list_laws = record {
    start = refl;
    count = list_length;
    push = list_push;
    pop = list_pop;
    cut = list_cut;
    put = list_put;
    get = list_get;
    oldest = list_oldest;
    empty = list_empty;
    redirect = list_redirect;
    start_sized = record { slots = length-replicate N d; count = omega arith };
    push_sized = λ w x s. by_test Sized w.count N _ _ (λ l. record { slots = length-set w.at _ x ∙ s.slots; count = omega arith }) (λ l. s);
    pop_sized = λ w s. by_test Sized 0 w.count _ _ (λ l. let m = s.count in record { slots = s.slots; count = omega arith }) (λ l. s);
    cut_sized = λ w n s. by_test Sized n w.count _ _ (λ l. let m = s.count in record { slots = s.slots; count = omega arith }) (λ l. s);
    put_sized = λ w n x s. by_test Sized n w.count _ _ (λ l. record { slots = length-set w.at _ x ∙ s.slots; count = s.count }) (λ l. s);
  }
