-- A queue each of whose elements is changed by a closure that stays as it is.
use Rattle.std.proofs.Common.{◌≡◌, ℕ, zero, suc, ◌+◌, ◌<◌, ◌≤◌, ◌⊎◌, List, map, length, get_or, sym, ap, ◌∙◌, subst, inl, inr, arith}
use Rattle.std.proofs.lemmas.Bool.{cases_lt}
use Rattle.std.proofs.lemmas.List.{length-map, get_or-map, ext_get_or}
use denote.Param.Members.{Mut, Called}
use Rattle.std.specs.Array.{MapsFrom, IsMapOf}
use Rattle.rings.specs.declared.queue.Queue.{Queue}
use Rattle.window.specs.Queues.{queue_by}

module _ {F A : Type 0} (g : Mut F (A × Unit {0}) A) (h : F) (f : A → A) (d : A) (gives : (x y : A) (q : F) → Called g h (x, tt) y q → (q ≡ h) × (y ≡ f x)) where
  at_place : (xs ys : List A) (i n : ℕ) → MapsFrom g h xs ys i n → (j : ℕ) → i ≤ j → j < i + n → get_or ys j (f d) ≡ f (get_or xs j d)
  at_place xs ys i zero m j a b = absurd (omega arith)
  at_place xs ys i (suc n) m j a b =
      by (cases_lt i j) (λ l. at_place xs ys (i + 1) n (subst (λ q. MapsFrom g q xs ys (i + 1) n) (gives m.1 m.2 m.0 m.5).0 m.6) j (omega arith) (omega arith))
    where
      by : (i < j) ⊎ (j ≤ i) → (i < j → get_or ys j (f d) ≡ f (get_or xs j d)) → get_or ys j (f d) ≡ f (get_or xs j d)
      by (inl l) others = others l
      by (inr l) others =
          let e : j ≡ i = omega arith in
          ap (λ z. get_or ys z (f d)) e ∙ m.4.1 (f d) ∙ (gives m.1 m.2 m.0 m.5).1 ∙ ap f (sym (m.3.1 d)) ∙ ap (λ z. f (get_or xs z d)) (sym e)

  map_of : {N : ℕ} (xs ys : List A) → length xs ≡ N → IsMapOf g h xs ys N → ys ≡ map f xs
  map_of {N} xs ys e m =
      let n = m.long in
      let l = length-map xs f in
      ext_get_or (f d) ys (map f xs) (omega arith) (λ i b. at_place xs ys 0 N m.each i (omega arith) (omega arith) ∙ sym (get_or-map f xs i d (f d) (omega arith)))

  pub map_is : {N : ℕ} (q r : Queue A N) → length q.at ≡ N → r.count ≡ q.count → IsMapOf g h q.at r.at N → r ≡ queue_by f q
  map_is q r e c m = λ i. record { count = c i; at = map_of q.at r.at e m i }
