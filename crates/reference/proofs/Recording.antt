-- A history with one instruction more.
use Rattle.std.proofs.Common.{◌≡◌, List, [], ◌∷◌, ◌++◌, map, Some, None, Option, sym, ap, ◌∙◌, append-nil}
use mathlib.Core.List.{map-append}
use Rattle.isa.specs.Manual.{Ev}
use Rattle.reference.specs.declared.trace.Effect.{Effect}
use Rattle.reference.specs.Machine.{event_of, events_of}

pub one_more : {A B : Type 0} (f : A → B) (xs : List A) {ys : List A} (x : A) → ys ≡ xs ++ x ∷ [] → map f ys ≡ map f xs ++ f x ∷ []
one_more f xs x e = ap (map f) e ∙ map-append f xs (x ∷ [])

pub one_effect : {o : Option Effect} (xs : List Effect) {ys : List Effect} (e : Effect) → o ≡ Some e → ys ≡ xs ++ e ∷ [] → map event_of ys ≡ map event_of xs ++ events_of o
one_effect xs e eo ey = one_more event_of xs e ey ∙ ap (λ o. map event_of xs ++ events_of o) (sym eo)

pub no_effect : {o : Option Effect} (es : List Ev) → o ≡ None → es ≡ es ++ events_of o
no_effect es eo = sym (append-nil es) ∙ ap (λ o. es ++ events_of o) (sym eo)
