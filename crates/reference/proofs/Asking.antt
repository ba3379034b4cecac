-- A device's next answer, in the manual.
use Rattle.std.proofs.Common.{◌≡◌, ℕ, zero, suc, ◌+◌, ◌<◌, ◌≤◌, List, [], ◌∷◌, length, get_or, drop, sym, refl, ap, ◌∙◌, ap₂, add-one, arith, drop-cons}
use Rattle.isa.specs.Words.{add}
use Rattle.isa.specs.Manual.{goes, stops, asks, asked}
use Rattle.reference.specs.declared.machine.Machine.{Machine}
use Rattle.pins.specs.declared.ports.Retired.{Retired}
use Rattle.pins.specs.PortWords.{ret_of}
use Rattle.reference.specs.Machine.{state, written, traced}

drop_past : (l : List ℕ) (n : ℕ) → length l ≤ n → drop n l ≡ []
drop_past [] zero h = refl
drop_past [] (suc n) h = refl
drop_past (x ∷ l) zero h = absurd (omega arith)
drop_past (x ∷ l) (suc n) h = drop_past l n (omega arith)

-- one more answer is read
abbrev pub read_on : Machine → Machine
read_on m = record { regs = m.regs; pc = m.pc; memory = m.memory; used = m.used + 1 }

module _ (m : Machine) (answers : List ℕ) (r a : ℕ) where
  pub no_answer : length answers ≤ m.used → stops 3 ≡ asked (state m answers) r a (drop m.used answers)
  no_answer h = ap (asked (state m answers) r a) (sym (drop_past answers m.used h))

  pub answered : m.used < length answers → (v : ℕ) → v ≡ get_or answers m.used 0
      → (n : Machine) → n ≡ written (read_on m) r v (add m.pc 4) → (t : Retired) → t ≡ traced m.pc r v
      → goes (state n answers) (ret_of t) (asks a ∷ []) ≡ asked (state m answers) r a (drop m.used answers)
  answered h v ev n en t et =
      ap₂ (λ (u : Machine) (w : Retired). goes (state u answers) (ret_of w) (asks a ∷ [])) en et
      ∙ ap (λ k. asked (state m answers) r a (v ∷ drop k answers)) (add-one m.used)
      ∙ ap (λ x. asked (state m answers) r a (x ∷ drop (suc m.used) answers)) ev
      ∙ ap (asked (state m answers) r a) (sym (drop-cons answers m.used 0 h))
