-- The waiting stores: what they will do to memory, and what a load finds among them.
use Rattle.std.proofs.Common.{◌≡◌, ℕ, suc, ◌/◌, ◌<◌, ◌≤◌, Bool, true, false, eqb, List, [], ◌∷◌, ◌++◌, length, refl, ap, ◌∙◌, arith}
use mathlib.Core.Option.{Option, some, none}
use Rattle.std.proofs.lemmas.Bool.{eqb-true, leb-true, leb-false}
use Rattle.isa.specs.Words.{pick, opt}
use Rattle.isa.specs.Manual.{Mem, store, device, Ev, writes}
use Rattle.isa.specs.Traces.{effect, effects}
use Rattle.isa.proofs.RunByTrace.{effects_append}
use Rattle.pins.specs.Ports.{reads, writes1}
use Rattle.pins.specs.View.{View, ask_data}
use Rattle.pins.specs.Settled.{flushed}
use Rattle.pins.proofs.Settling.{settled_laws}
use Rattle.pins.specs.declared.held.Store.{Store}
use Rattle.first.specs.Model.{lookup}

-- the writes of a row of stores
abbrev pub write_ev : Store → Ev
write_ev s = writes s.address s.value

abbrev pub row_evs : List Store → List Ev
row_evs [] = []
row_evs (s ∷ row) = write_ev s ∷ row_evs row

pub row_evs_snoc : (row : List Store) (s : Store) → row_evs (row ++ (s ∷ [])) ≡ row_evs row ++ (write_ev s ∷ [])
row_evs_snoc [] s = refl
row_evs_snoc (r ∷ row) s = ap (λ (l : List Ev). write_ev r ∷ l) (row_evs_snoc row s)

pub row_evs_length : (row : List Store) → length (row_evs row) ≡ length row
row_evs_length [] = refl
row_evs_length (s ∷ row) = ap suc (row_evs_length row)

-- memory when all requests are answered, and the waiting stores done
abbrev pub final : View → List Store → Mem
final v row = effects (flushed v) (row_evs row)

pub final_push : (v : View) (row : List Store) (s : Store) → final v (row ++ (s ∷ [])) ≡ effect (final v row) (write_ev s)
final_push v row s = ap (effects (flushed v)) (row_evs_snoc row s) ∙ effects_append (flushed v) (row_evs row) (write_ev s ∷ [])

-- a store goes from the row to the requests; a load's request changes nothing
pub final_drain : (v : View) (s : Store) (row : List Store) → final (ask_data (some (writes1 s.address s.value)) v) row ≡ final v (s ∷ row)
final_drain v s row = ap (λ (m : Mem). effects m (row_evs row)) (settled_laws.flushed_asked (some (writes1 s.address s.value)) v)

pub final_ask : (v : View) (a : ℕ) (row : List Store) → final (ask_data (some (reads a)) v) row ≡ final v row
final_ask v a row = ap (λ (m : Mem). effects m (row_evs row)) (settled_laws.flushed_asked (some (reads a)) v)

-- what a load finds among the waiting stores, or else in memory
hit : (m : Mem) (s : Store) (a : ℕ) → device a ≡ false → (b d : Bool) → eqb (s.address / 4) (a / 4) ≡ b → device s.address ≡ d
    → pick d m (store m (s.address / 4) s.value) (a / 4) ≡ opt (pick b (some s.value) none) (m (a / 4)) (λ x. x)
hit m s a n true true e q =
    let same : s.address / 4 ≡ a / 4 = eqb-true (s.address / 4) (a / 4) e in
    let hi : 2147483648 ≤ s.address = leb-true 2147483648 s.address q in
    let lo : a < 2147483648 = leb-false 2147483648 a n in
    absurd (omega arith)
hit m s a n true false e q = rw e
hit m s a n false true e q = refl
hit m s a n false false e q = rw e

found : (m : Mem) (s : Store) (a : ℕ) → device a ≡ false → (o : Option ℕ)
    → opt o (effect m (write_ev s) (a / 4)) (λ x. x) ≡ opt (opt o (pick (eqb (s.address / 4) (a / 4)) (some s.value) none) some) (m (a / 4)) (λ x. x)
found m s a n none = hit m s a n (eqb (s.address / 4) (a / 4)) (device s.address) refl refl
found m s a n (some x) = refl

pub lookup_right : (m : Mem) (row : List Store) (a : ℕ) → device a ≡ false → effects m (row_evs row) (a / 4) ≡ opt (lookup row a) (m (a / 4)) (λ x. x)
lookup_right m [] a n = refl
lookup_right m (s ∷ row) a n = lookup_right (effect m (write_ev s)) row a n ∙ found m s a n (lookup row a)
