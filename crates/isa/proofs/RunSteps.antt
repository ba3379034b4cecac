-- The run, one instruction after the other.
use Rattle.std.proofs.Common.{◌≡◌, ℕ, zero, suc, ◌+◌, ◌⊎◌, List, [], ◌∷◌, ◌++◌, length, sym, refl, ap, ◌∙◌, subst, inl, inr, append_assoc, append-nil, add-zero, add-suc, arith, length-append}
use Rattle.isa.specs.Manual.{Code, S, Ret, Ev, Next, goes, stops, step, Run, more, run}
use Rattle.isa.specs.Runs.{At, Before, with_step, Begins, RunLaws}

pub at_zero : {c : Code} {s : S} → At c s 0 s
at_zero = record { last = record { pc = 0; reg = 0; val = 0 }; did = []; is = refl }

pub goes_not_stops : {u : S} {t : Ret} {es : List Ev} {k : ℕ} {x : Next} → x ≡ goes u t es → x ≡ stops k → ⊥
goes_not_stops p q = let z : ◌≡◌ {A = ℕ} 0 1 = cc in omega arith

one_more : {c : Code} {s u : S} {n : ℕ} (x : Next) → At c s n u → step c u ≡ x → run c s (suc n) ≡ with_step (run c s n) x
one_more (goes v t es) p e = rw (p.is, e)
one_more (stops k) p e = rw (p.is, e)

stays_one : (c : Code) (s : S) (n : ℕ) {k : ℕ} → (run c s n).is ≡ stops k → run c s (suc n) ≡ run c s n
stays_one c s n e = ap (more c (run c s n)) e

stays : (c : Code) (s : S) (n : ℕ) {k : ℕ} → (run c s n).is ≡ stops k → (j : ℕ) → run c s (n + j) ≡ run c s n
stays c s n e zero = rw add-zero
stays c s n e (suc j) =
    let r = stays c s n e j in
    rw add-suc (stays_one c s (n + j) (ap (λ (z : Run). z.is) r ∙ e) ∙ r)

somewhere : (c : Code) (s : S) (n : ℕ) → ((u : S) × At c s n u) ⊎ ((k : ℕ) × ((run c s n).is ≡ stops k))
somewhere c s n = by (run c s n).is refl
  where
    by : (x : Next) → (run c s n).is ≡ x → ((u : S) × At c s n u) ⊎ ((k : ℕ) × ((run c s n).is ≡ stops k))
    by (goes u t es) e = inl (u, record { last = t; did = es; is = e })
    by (stops k) e = inr (k, e)

one_state : {c : Code} {s u v : S} {n : ℕ} → At c s n u → At c s n v → u ≡ v
one_state p q = let e = p.is in let f = q.is in cc

-- the three parts of one more, where it goes
module _ {c : Code} {s u v : S} {n : ℕ} {t : Ret} {es : List Ev} (p : At c s n u) (e : step c u ≡ goes v t es) where
  pub at_suc : At c s (suc n) v
  at_suc = record { last = t; did = es; is = ap (λ (r : Run). r.is) (one_more (goes v t es) p e) }

  pub rets_suc : (run c s (suc n)).rets ≡ (run c s n).rets ++ (t ∷ [])
  rets_suc = ap (λ (r : Run). r.rets) (one_more (goes v t es) p e)

  pub evs_suc : (run c s (suc n)).evs ≡ (run c s n).evs ++ es
  evs_suc = ap (λ (r : Run). r.evs) (one_more (goes v t es) p e)

before : {c : Code} {s v : S} {n : ℕ} → At c s (suc n) v → Before c s n v
before {c} {s} {v} {n} q = by (somewhere c s n)
  where
    by_step : (u : S) → At c s n u → (x : Next) → step c u ≡ x → Before c s n v
    by_step u p (goes w t es) e = record { from = u; ret = t; evs = es; at = p; went = e ∙ ap (λ z. goes z t es) (one_state (at_suc p e) q) }
    by_step u p (stops k) e = absurd (goes_not_stops q.is (ap (λ (r : Run). r.is) (one_more (stops k) p e)))

    by : ((u : S) × At c s n u) ⊎ ((k : ℕ) × ((run c s n).is ≡ stops k)) → Before c s n v
    by (inl (u, p)) = by_step u p (step c u) refl
    by (inr (k, e)) = absurd (goes_not_stops q.is (ap (λ (r : Run). r.is) (stays_one c s n e) ∙ e))

-- what holds at the start, and is kept by each step with what the run then did, holds wherever the run stands
pub along : {c : Code} {s : S} (P : ℕ → S → Type 0) → P 0 s
    → ((n : ℕ) (u v : S) (t : Ret) (es : List Ev) → P n u → At c s n u → step c u ≡ goes v t es → P (suc n) v)
    → (n : ℕ) {u : S} → At c s n u → P n u
along P start kept zero q = subst (P 0) (one_state at_zero q) start
along P start kept (suc n) q = let b = before q in kept n b.from _ b.ret b.evs (along P start kept n b.at) b.at b.went

count : {c : Code} {s u : S} {n : ℕ} → At c s n u → length (run c s n).rets ≡ n
count {c} {s} {n = n} p =
    along (λ n u. length (run c s n).rets ≡ n) refl
    (λ n u v t es h q e. ap length (rets_suc q e) ∙ length-append (run c s n).rets (t ∷ []) ∙ omega arith)
    n p

begins_more : {A : Type 0} {xs ys : List A} (zs : List A) → Begins xs ys → Begins xs (ys ++ zs)
begins_more {xs = xs} zs b = record { rest = b.rest ++ zs; is = ap (λ l. l ++ zs) b.is ∙ append_assoc xs b.rest zs }

pub begins_here : {A : Type 0} (xs : List A) → Begins xs xs
begins_here xs = record { rest = []; is = sym (append-nil xs) }

-- any part of the run to which a step only adds
module _ {A : Type 0} (part : Run → List A) (adds : (r : Run) (x : Next) → Begins (part r) (part (with_step r x))) where
  begins_suc : (c : Code) (s : S) (n : ℕ) → Begins (part (run c s n)) (part (run c s (suc n)))
  begins_suc c s n = by (somewhere c s n)
    where
      by : ((u : S) × At c s n u) ⊎ ((k : ℕ) × ((run c s n).is ≡ stops k)) → Begins (part (run c s n)) (part (run c s (suc n)))
      by (inl (u, p)) = let b = adds (run c s n) (step c u) in record { rest = b.rest; is = ap part (one_more (step c u) p refl) ∙ b.is }
      by (inr (k, e)) = record { rest = []; is = ap part (stays_one c s n e) ∙ sym (append-nil (part (run c s n))) }

  begins : (c : Code) (s : S) (n k : ℕ) → Begins (part (run c s n)) (part (run c s (n + k)))
  begins c s n zero = rw add-zero (begins_here (part (run c s n)))
  begins c s n (suc k) = let b = begins_suc c s (n + k) in rw (add-suc, b.is) (begins_more b.rest (begins c s n k))

rets_grow : (r : Run) (x : Next) → Begins r.rets (with_step r x).rets
rets_grow r (goes u t es) = record { rest = t ∷ []; is = refl }
rets_grow r (stops k) = begins_here r.rets

evs_grow : (r : Run) (x : Next) → Begins r.evs (with_step r x).evs
evs_grow r (goes u t es) = record { rest = es; is = refl }
evs_grow r (stops k) = begins_here r.evs

pub run_laws : RunLaws
run_laws = record {
  one_more = λ p e. one_more _ p e;
  stays = λ c s n e j. stays c s n e j;
  somewhere = somewhere;
  one_state = λ p q. one_state p q;
  before = λ p. before p;
  count = λ p. count p;
  rets_begin = begins (λ r. r.rets) rets_grow;
  evs_begin = begins (λ r. r.evs) evs_grow;
}
