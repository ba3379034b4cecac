-- With more answers behind, the manual does the same as far as it went.
use Rattle.std.proofs.Common.{◌≡◌, ℕ, zero, suc, ◌/◌, Bool, true, false, ◌⊎◌, List, [], ◌∷◌, ◌++◌, sym, refl, ap, ◌∙◌, inl, inr}
use Rattle.isa.specs.Words.{pick}
use Rattle.isa.specs.Manual.{Code, S, Next, goes, stops, asked, wrote, device, after1, step, Run, more, run}
use Rattle.isa.specs.Executing.{work, enact}
use Rattle.isa.specs.Runs.{At, with_step, more_answers, next_more, run_more, AnswerLaws}
use Rattle.isa.specs.declared.execute.Outcome.{Outcome}
use Rattle.isa.specs.declared.execute.Outcome.TheVariants.{Write, Jump, Load as Read, Store as Save, Halt}
use Rattle.isa.proofs.Does.{step_is}
use Rattle.isa.proofs.RunSteps.{run_laws, goes_not_stops}

asked_more : (s : S) (r a : ℕ) (xs ys : List ℕ) → (asked s r a ys ≡ stops 3 → ⊥)
    → asked (more_answers s xs) r a (ys ++ xs) ≡ next_more (asked s r a ys) xs
asked_more s r a xs [] h = absurd (h refl)
asked_more s r a xs (y ∷ ys) h = refl

-- a load, from a device or from memory
abbrev loaded : Bool → S → ℕ → ℕ → Next
loaded b s r a = pick b (asked s r a s.answers) (wrote s r (s.mem (a / 4)) (after1 s))

loaded_more : (b : Bool) (s : S) (r a : ℕ) (xs : List ℕ) → (loaded b s r a ≡ stops 3 → ⊥)
    → loaded b (more_answers s xs) r a ≡ next_more (loaded b s r a) xs
loaded_more true s r a xs h = asked_more s r a xs s.answers h
loaded_more false s r a xs h = refl

enact_more : (s : S) (xs : List ℕ) (o : Outcome) → (enact s o ≡ stops 3 → ⊥) → enact (more_answers s xs) o ≡ next_more (enact s o) xs
enact_more s xs (Write rd v n) h = refl
enact_more s xs (Jump n) h = refl
enact_more s xs (Read rd a) h = loaded_more (device a) s rd.number a xs h
enact_more s xs (Save a v) h = refl
enact_more s xs (Halt k) h = refl

step_more : (c : Code) (s : S) (xs : List ℕ) → (step c s ≡ stops 3 → ⊥) → step c (more_answers s xs) ≡ next_more (step c s) xs
step_more c s xs h =
    let e = step_is c s in
    step_is c (more_answers s xs) ∙ enact_more s xs (work s.regs s.pc (c (s.pc / 4))) (λ q. h (e ∙ q)) ∙ ap (λ n. next_more n xs) (sym e)

with_step_more : (r : Run) (x : Next) (xs : List ℕ) → with_step (run_more r xs) (next_more x xs) ≡ run_more (with_step r x) xs
with_step_more r (goes u t es) xs = refl
with_step_more r (stops k) xs = refl

with_step_is : (r : Run) (x : Next) → (with_step r x).is ≡ x
with_step_is r (goes u t es) = refl
with_step_is r (stops k) = refl

at_more : {c : Code} {s u : S} {n : ℕ} (xs : List ℕ) → run c (more_answers s xs) n ≡ run_more (run c s n) xs → At c s n u
    → At c (more_answers s xs) n (more_answers u xs)
at_more xs q p = record { last = p.last; did = p.did; is = ap (λ (r : Run). r.is) q ∙ ap (λ n. next_more n xs) p.is }

run_more_is : (c : Code) (s : S) (xs : List ℕ) (n : ℕ) → ((run c s n).is ≡ stops 3 → ⊥) → run c (more_answers s xs) n ≡ run_more (run c s n) xs
run_more_is c s xs zero h = refl
run_more_is c s xs (suc n) h = by (run_laws.somewhere c s n) (run_more_is c s xs n)
  where
    by : ((u : S) × At c s n u) ⊎ ((k : ℕ) × ((run c s n).is ≡ stops k))
        → (((run c s n).is ≡ stops 3 → ⊥) → run c (more_answers s xs) n ≡ run_more (run c s n) xs)
        → run c (more_answers s xs) (suc n) ≡ run_more (run c s (suc n)) xs
    by (inl (u, p)) ih =
        let q = ih (λ e. goes_not_stops p.is e) in
        let g = run_laws.one_more p refl in
        let k = step_more c u xs (λ e. h (ap (λ (r : Run). r.is) g ∙ with_step_is (run c s n) (step c u) ∙ e)) in
        run_laws.one_more (at_more xs q p) k ∙ ap (λ r. with_step r (next_more (step c u) xs)) q
        ∙ with_step_more (run c s n) (step c u) xs ∙ ap (λ r. run_more r xs) (sym g)
    by (inr (k, e)) ih =
        let g : run c s (suc n) ≡ run c s n = ap (more c (run c s n)) e in
        let q = ih (λ f. h (ap (λ (r : Run). r.is) g ∙ f)) in
        let f : (run c (more_answers s xs) n).is ≡ stops k = ap (λ (r : Run). r.is) q ∙ ap (λ x. next_more x xs) e in
        ap (more c (run c (more_answers s xs) n)) f ∙ q ∙ ap (λ r. run_more r xs) (sym g)

at_any : {c : Code} {s u : S} {n : ℕ} (xs : List ℕ) → At c s n u → At c (more_answers s xs) n (more_answers u xs)
at_any {c} {s} {n = n} xs p = at_more xs (run_more_is c s xs n (λ e. goes_not_stops p.is e)) p

pub answer_laws : AnswerLaws
answer_laws = record { step = step_more; run = run_more_is; at = λ xs p. at_any xs p }
