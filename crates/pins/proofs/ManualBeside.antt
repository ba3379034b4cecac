-- The manual beside a view, rule by rule.
use Rattle.std.proofs.Common.{◌≡◌, ℕ, suc, List, [], ◌∷◌, ◌++◌, length, sym, refl, ap, ◌∙◌, subst, append_assoc, append-nil, add-one, length-append}
use Rattle.isa.specs.Manual.{Code, Mem, S, Ret, Ev, goes, stops, step, Run, run}
use Rattle.isa.specs.Traces.{effects}
use Rattle.isa.specs.Runs.{Begins, more_answers, run_more}
use Rattle.isa.proofs.RunSteps.{at_zero, at_suc, rets_suc, evs_suc, run_laws, goes_not_stops}
use Rattle.isa.proofs.RunByTrace.{run_by_trace}
use Rattle.isa.proofs.MoreAnswers.{answer_laws}
use Rattle.pins.specs.Says.{Front, first}
use Rattle.pins.specs.Beside.{Beside, Asked, BesideLaws}
use Rattle.pins.proofs.Beginnings.{front_laws}

begins_then : {A : Type 0} {xs ys zs : List A} → Begins xs ys → Begins ys zs → Begins xs zs
begins_then {xs = xs} b d = record { rest = b.rest ++ d.rest; is = d.is ∙ ap (λ l. l ++ d.rest) b.is ∙ append_assoc xs b.rest d.rest }

length_one : {A : Type 0} (xs : List A) (x : A) → length (xs ++ (x ∷ [])) ≡ suc (length xs)
length_one xs x = length-append xs (x ∷ []) ∙ add-one (length xs)

module _ {c : Code} {m : Mem} {a : ℕ} {ts : List ℕ} {rs : List Ret} {u : S} {es : List Ev} (b : Beside c m a ts rs u es) where
  same : (xs : List ℕ) → run c (first a m (ts ++ xs)) (length rs) ≡ run_more (run c (first a m ts) (length rs)) xs
  same xs = answer_laws.run c (first a m ts) xs (length rs) (λ e. goes_not_stops b.at.is e)

  tells : (xs : List ℕ) → Beside c m a (ts ++ xs) rs (more_answers u xs) es
  tells xs = record {
    at = answer_laws.at xs b.at;
    done = b.done ∙ sym (ap (λ (r : Run). r.rets) (same xs));
    did = ap (λ (r : Run). r.evs) (same xs) ∙ b.did;
  }

  retires : {w : S} {t : Ret} {fs : List Ev} → step c u ≡ goes w t fs → Beside c m a ts (rs ++ (t ∷ [])) w (es ++ fs)
  retires {w} {t} {fs} e =
      let n = length_one rs t in
      record {
        at = rw n (at_suc b.at e);
        done = rw n (ap (λ l. l ++ (t ∷ [])) b.done ∙ sym (rets_suc b.at e));
        did = rw n (evs_suc b.at e ∙ ap (λ l. l ++ fs) b.did);
      }

  stops_next : {k : ℕ} → step c u ≡ stops k → (run c (first a m ts) (suc (length rs))).is ≡ stops k
  stops_next e = ap (λ (r : Run). r.is) (run_laws.one_more b.at e)

  asked_done : {ws : List Ev} → Begins ws es → Asked c m a ts rs ws
  asked_done {ws} d =
      let s = first a m ts in
      let g : Begins (run c s (length rs)).evs (run c s (suc (length rs))).evs = rw add-one at (run_laws.evs_begin c s (length rs) 1) in
      let f = (front_laws Ev).front (begins_then (subst (Begins ws) (sym b.did) d) g) in
      ([], subst (λ z. Front ws (run c (first a m z) (suc (length rs))).evs) (sym (append-nil ts)) f)

  asked_next : {w : S} {t : Ret} {fs ws : List Ev} (xs : List ℕ) → step c (more_answers u xs) ≡ goes w t fs → Begins ws (es ++ fs) → Asked c m a ts rs ws
  asked_next {fs = fs} {ws = ws} xs e d =
      let p = tells xs in
      (xs, (front_laws Ev).front (subst (Begins ws) (sym (evs_suc p.at e ∙ ap (λ l. l ++ fs) p.did)) d))

pub beside_laws : BesideLaws
beside_laws = record {
  starts = λ c m a. record { at = at_zero; done = refl; did = refl };
  tells = λ xs b. tells b xs;
  retires = λ b e. retires b e;
  mem = λ {c} {m} {a} {ts} {rs} {u} b. (run_by_trace c (first a m ts) u (length rs) b.at).mem ∙ ap (effects m) b.did;
  stops_next = λ b e. stops_next b e;
  asked_done = λ b d. asked_done b d;
  asked_next = λ xs b e d. asked_next b xs e d;
}
