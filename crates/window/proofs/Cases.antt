-- A test chooses, an option is given or not: what holds either way.
use Rattle.std.proofs.Common.{◌≡◌, ℕ, Bool, true, false, Some, None, Option, sym, refl, ◌∙◌, arith}
use mathlib.Core.Option.{Option as Opt, some, none}
use Rattle.isa.specs.Words.{pick, opt}
use Rattle.window.specs.Entries.{given}

pub pick_cases : {A : Type 0} (P : A → Type 0) (b : Bool) {x y : A} → (b ≡ true → P x) → (b ≡ false → P y) → P (pick b x y)
pick_cases P true p q = p refl
pick_cases P false p q = q refl

pub opt_cases : {A B : Type 0} (P : B → Type 0) (o : Opt A) {n : B} {f : A → B} → (o ≡ none → P n) → ((x : A) → o ≡ some x → P (f x)) → P (opt o n f)
opt_cases P none p q = p refl
opt_cases P (some x) p q = q x refl

pub given_cases : {A B : Type 0} (P : B → Type 0) (o : Option A) {n : B} {f : A → B} → (o ≡ None → P n) → ((x : A) → o ≡ Some x → P (f x)) → P (given o n f)
given_cases P None p q = p refl
given_cases P (Some x) p q = q x refl

-- what can't be
pub clash : {A : Type 0} {b : Bool} → b ≡ true → b ≡ false → A
clash p q = let t : true ≡ false = sym p ∙ q in let z : ◌≡◌ {A = ℕ} 0 1 = cc in absurd (omega arith)

pub some_none : {A B : Type 0} {o : Opt A} {x : A} → o ≡ some x → o ≡ none → B
some_none p q = let t : some _ ≡ none = sym p ∙ q in let z : ◌≡◌ {A = ℕ} 0 1 = cc in absurd (omega arith)

pub some_not_none : {A B : Type 0} {o : Option A} {x : A} → o ≡ Some x → o ≡ None → B
some_not_none p q = let t : Some _ ≡ None = sym p ∙ q in let z : ◌≡◌ {A = ℕ} 0 1 = cc in absurd (omega arith)
