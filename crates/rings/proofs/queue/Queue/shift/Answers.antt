use Rattle.std.proofs.Common.{rules, ◌≡◌, ℕ, zero, suc, ◌-◌, ◌<◌, List, [], ◌∷◌, ◌++◌, length, drop, set, refl, ap, ◌∙◌, arith, length-drop}
use Rattle.std.proofs.lemmas.List.{set-append_right}
use Rattle.rings.proofs.queue.Queue.shift.Goals as goal

one : {A : Type 0} (zs : List A) (i : ℕ) (x : A) → length zs ≡ 1 → i ≡ 0 → set zs i x ≡ x ∷ []
one [] i x e h = absurd (omega arith)
one (z ∷ []) zero x e h = refl
one (z ∷ []) (suc i) x e h = absurd (omega arith)
one (z ∷ y ∷ zs) i x e h = absurd (omega arith)

-- behind those that moved up
behind : {A : Type 0} (xs : List A) (n : ℕ) (x : A) → length xs ≡ n → 0 < n → set (drop 1 xs ++ drop (n - 1) xs) (n - 1) x ≡ drop 1 xs ++ (x ∷ [])
behind xs n x e h =
    let a = length-drop 1 xs in
    let b = length-drop (n - 1) xs in
    set-append_right (drop 1 xs) (drop (n - 1) xs) (n - 1) (n - 1) x (omega arith) (omega arith)
    ∙ ap (λ zs. drop 1 xs ++ zs) (one (drop (n - 1) xs) (n - 1 - (n - 1)) x (omega arith) (omega arith))

pub returns-clause-rest : goal.returns-clause-rest
returns-clause-rest g c =
    rw c.pop-oldest.ensures.rest
    (ap (λ xs. record { count = c.args.self.now.count - 1; at = xs }) (behind c.args.self.now.at g.row.N c.args.fill (search rules) c.requires))
