-- A front and what stands behind it.
use Rattle.std.proofs.Common.{List, [], ◌∷◌, ◌++◌, sym, refl, ap, subst}
use Rattle.isa.specs.Runs.{Begins}
use Rattle.pins.specs.Says.{Front, none_yet, and_so}
use Rattle.pins.specs.Fronts.{FrontLaws}

module _ {A : Type 0} where
  front_append : (xs ys : List A) → Front xs (xs ++ ys)
  front_append [] ys = none_yet
  front_append (x ∷ xs) ys = and_so (front_append xs ys)

  begins : {xs ys : List A} → Front xs ys → Begins xs ys
  begins {ys = ys} none_yet = record { rest = ys; is = refl }
  begins (and_so {x = x} p) = let b = begins p in record { rest = b.rest; is = ap (λ l. x ∷ l) b.is }

pub front_laws : (A : Type 0) → FrontLaws A
front_laws A = record {
  front = λ {xs} {ys} b. subst (Front xs) (sym b.is) (front_append xs b.rest);
  begins = λ p. begins p;
}
