-- What is read of twenty words is what the ports show by them.
use Rattle.std.proofs.Common.{◌≡◌, ℕ, zero, suc, ◌+◌, ◌≤◌, min, true, List, [], ◌∷◌, get_or, drop, sym, refl, ap, ◌∙◌, ap₂, arith, get_or-drop, drop-drop}
use mathlib.Core.Option.{Option as Opt, some, none}
use Rattle.std.proofs.lemmas.Bool.Decides.{nat_tests}
use Rattle.isa.specs.Manual.{Ret}
use Rattle.isa.proofs.Lists.{nth_get_d}
use Rattle.pins.specs.declared.ports.Retired.{Retired}
use Rattle.pins.specs.Ports.{at, rets_of, req_of, flagged}
use Rattle.pins.specs.PortWords.{optional, plain, legal_out, ret_of, rets_from}

-- an instruction's three words stand at a place
abbrev pub StandsAt : List ℕ → ℕ → Retired → Type 0
StandsAt w k r = (r.pc ≡ get_or w k 0) × (r.reg ≡ get_or w (k + 1) 0) × (r.value ≡ get_or w (k + 2) 0)

at_drop : (w : List ℕ) (k n : ℕ) → at (drop k w) n ≡ get_or w (k + n) 0
at_drop w k n = nth_get_d (drop k w) n ∙ get_or-drop k w n 0

ret_at : (w : List ℕ) (k : ℕ) (r : Retired) → StandsAt w k r → ret_of r ≡ record { pc = at (drop k w) 0; reg = at (drop k w) 1; val = at (drop k w) 2 }
ret_at w k r (p, q, v) =
    let p' : r.pc ≡ at (drop k w) 0 = p ∙ sym (at_drop w k 0 ∙ ap (λ (n : ℕ). get_or w n 0) (omega arith)) in
    let q' : r.reg ≡ at (drop k w) 1 = q ∙ sym (at_drop w k 1) in
    let v' : r.value ≡ at (drop k w) 2 = v ∙ sym (at_drop w k 2) in
    λ i. record { pc = p' i; reg = q' i; val = v' i }

-- n instructions from a place on, at most as many as there are
more : {x y : Ret} {xs ys : List Ret} → x ≡ y → xs ≡ ys → x ∷ xs ≡ y ∷ ys
more p q = ap₂ ◌∷◌ p q

next : (w : List ℕ) (k n : ℕ) → rets_of n (drop (k + 3) w) ≡ rets_of n (drop 3 (drop k w))
next w k n = ap (rets_of n) (sym (drop-drop 3 k w))

pub rets_read : (w : List ℕ) (n : ℕ) (a b c d : Retired) → n ≤ 4 → StandsAt w 8 a → StandsAt w 11 b → StandsAt w 14 c → StandsAt w 17 d
    → rets_from (min n 4) 0 (a ∷ b ∷ c ∷ d ∷ []) ≡ rets_of n (drop 8 w)
rets_read w zero a b c d h p q r s = refl
rets_read w (suc zero) a b c d h p q r s = more (ret_at w 8 a p) refl
rets_read w (suc (suc zero)) a b c d h p q r s = more (ret_at w 8 a p) (more (ret_at w 11 b q) refl ∙ next w 8 1)
rets_read w (suc (suc (suc zero))) a b c d h p q r s =
    more (ret_at w 8 a p) (more (ret_at w 11 b q) (more (ret_at w 14 c r) refl ∙ next w 11 1) ∙ next w 8 2)
rets_read w (suc (suc (suc (suc zero)))) a b c d h p q r s =
    more (ret_at w 8 a p) (more (ret_at w 11 b q) (more (ret_at w 14 c r) (more (ret_at w 17 d s) refl ∙ next w 14 1) ∙ next w 11 2) ∙ next w 8 3)
rets_read w (suc (suc (suc (suc (suc n))))) a b c d h p q r s = absurd (omega arith)

pub plain_optional : {A : Type 0} (o : Opt A) → plain (optional o) ≡ o
plain_optional none = refl
plain_optional (some x) = refl

-- the words, as the ports and as the code name them
pub flagged_at : (w : List ℕ) (f x : ℕ) → flagged (get_or w f 0) (get_or w x 0) ≡ flagged (at w f) (at w x)
flagged_at w f x = sym (ap₂ flagged (nth_get_d w f) (nth_get_d w x))

pub req_at : (w : List ℕ) → req_of (get_or w 2 0) (get_or w 3 0) (get_or w 4 0) ≡ req_of (at w 2) (at w 3) (at w 4)
req_at w = rw (sym (nth_get_d w 2), sym (nth_get_d w 3), sym (nth_get_d w 4))

pub rets_at : (w : List ℕ) → rets_of (get_or w 7 0) (drop 8 w) ≡ rets_of (at w 7) (drop 8 w)
rets_at w = sym (ap (λ (n : ℕ). rets_of n (drop 8 w)) (nth_get_d w 7))

-- what legal words say
pub legal_count : (w : List ℕ) → legal_out w ≡ true → get_or w 7 0 ≤ 4
legal_count w l = grind (arith, nat_tests)

pub legal_stop : (w : List ℕ) → legal_out w ≡ true → get_or w 5 0 ≡ 1 → get_or w 6 0 ≤ 2
legal_stop w l e = grind (arith, nat_tests)
