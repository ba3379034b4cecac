-- The state after n instructions, by what they did to the outside.
use Rattle.std.proofs.Common.{◌≡◌, ℕ, ◌+◌, List, [], ◌∷◌, ◌++◌, sym, refl, ap, ◌∙◌, subst, append_assoc, zero-add, arith, length-append}
use Rattle.isa.specs.Manual.{Mem, S, Ret, Ev, writes, asks, run}
use Rattle.isa.specs.Traces.{effect, effects, device_reads, Takes, Traced}
use Rattle.isa.specs.Runs.{Ran, RunByTrace}
use Rattle.isa.proofs.StepByTrace.{step_laws}
use Rattle.isa.proofs.RunSteps.{along, evs_suc}

pub effects_append : (m : Mem) (es fs : List Ev) → effects m (es ++ fs) ≡ effects (effects m es) fs
effects_append m [] fs = refl
effects_append m (e ∷ es) fs = effects_append (effect m e) es fs

pub reads_append : (es fs : List Ev) → device_reads (es ++ fs) ≡ device_reads es + device_reads fs
reads_append [] fs = sym (zero-add (device_reads fs))
reads_append (writes a x ∷ es) fs = reads_append es fs
reads_append (asks a ∷ es) fs = let h = reads_append es fs in omega arith

takes_append : (es fs : List Ev) (now then last : List ℕ) → Takes es now then → Takes fs then last → Takes (es ++ fs) now last
takes_append es fs now then last (xs, n, e) (ys, k, f) =
    let l = length-append xs ys in
    let r = reads_append es fs in
    (xs ++ ys, omega arith, e ∙ ap (λ zs. xs ++ zs) f ∙ sym (append_assoc xs ys last))

and_then : (s u v : S) (t : Ret) (es fs : List Ev) → Ran s u es → Traced u v t fs → Ran s v (es ++ fs)
and_then s u v t es fs r d = record {
  mem = d.mem ∙ ap (λ m. effects m fs) r.mem ∙ sym (effects_append s.mem es fs);
  answers = takes_append es fs s.answers u.answers v.answers r.answers d.answers;
  width = d.width ∙ r.width;
}

pub run_by_trace : RunByTrace
run_by_trace c s u n p =
    along (λ k v. Ran s v (run c s k).evs) (record { mem = refl; answers = ([], refl, refl); width = refl })
    (λ k v w t es r q e. subst (Ran s w) (sym (evs_suc q e)) (and_then s v w t (run c s k).evs es r (step_laws.by_trace c v e)))
    n p
