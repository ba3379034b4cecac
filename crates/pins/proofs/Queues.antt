-- What is open is two queues: over a clock the oldest goes if it is answered, the others get older, and a new one stands behind.
use Rattle.std.proofs.Common.{◌≡◌, ℕ, ◌+◌, List, [], ◌∷◌, map, refl, ap, ◌∙◌}
use mathlib.Core.List.{map-map}
use mathlib.Core.Option
use mathlib.Core.Option.{Option, some, none, map-map as option-map-map}
use Rattle.pins.specs.Ports.{Req}
use Rattle.pins.specs.Outside.{Io, Want, Wish, O, older, older1, code_by, data_by, wanted, wished, after}
use Rattle.pins.specs.View.{pop, push, mem_then, told_then, reqs}

-- a function of what stands in a queue
pub map_pop : {A B : Type 0} (f : A → B) (x : Option ℕ) (q : List A) → map f (pop x q) ≡ pop x (map f q)
map_pop f none q = refl
map_pop f (some x) [] = refl
map_pop f (some x) (y ∷ q) = refl

map_push : {A B : Type 0} (f : A → B) (y : Option A) (q : List A) → map f (push y q) ≡ push (Option.map f y) (map f q)
map_push f none q = refl
map_push f (some y) [] = refl
map_push f (some y) (z ∷ q) = ap (λ l. f z ∷ l) (map_push f (some y) q)

-- the same over a clock, in which what stays gets older and a fresh one is pushed
pub map_clock : {A B C : Type 0} (f : A → C) (fresh : B → A) (older : A → A) (y : Option B) (q : List A)
    → map f (push (Option.map fresh y) (map older q)) ≡ push (Option.map (λ b. f (fresh b)) y) (map (λ a. f (older a)) q)
map_clock f fresh older y q =
    map_push f (Option.map fresh y) (map older q)
    ∙ ap (λ z. push z (map f (map older q))) (option-map-map f fresh y)
    ∙ ap (push (Option.map (λ b. f (fresh b)) y)) (map-map f older q)

pub option_same : {A : Type 0} (y : Option A) → Option.map (λ x. x) y ≡ y
option_same none = refl
option_same (some x) = refl

-- one that has waited a clock more, and a new one
abbrev pub waited : Want → Want
waited w = record { addr = w.addr; age = w.age + 1 }

abbrev pub waited1 : Wish → Wish
waited1 w = record { req = w.req; age = w.age + 1 }

abbrev pub new : ℕ → Want
new a = record { addr = a; age = 0 }

abbrev pub new1 : Req → Wish
new1 r = record { req = r; age = 0 }

older_is : (ws : List Want) → older ws ≡ map waited ws
older_is [] = refl
older_is (w ∷ ws) = ap (λ l. waited w ∷ l) (older_is ws)

older1_is : (ws : List Wish) → older1 ws ≡ map waited1 ws
older1_is [] = refl
older1_is (w ∷ ws) = ap (λ l. waited1 w ∷ l) (older1_is ws)

wanted_is : (a : Option ℕ) (ws : List Want) → wanted a ws ≡ push (Option.map new a) ws
wanted_is none ws = refl
wanted_is (some a) ws = refl

wished_is : (r : Option Req) (ws : List Wish) → wished r ws ≡ push (Option.map new1 r) ws
wished_is none ws = refl
wished_is (some r) ws = refl

code_by_is : (x : Option ℕ) (ws : List Want) → code_by x ws ≡ pop x ws
code_by_is none ws = refl
code_by_is (some x) [] = refl
code_by_is (some x) (w ∷ ws) = refl

-- the parts of the outside after an answer to a request
module _ (o : O) where
  data_codes : (x : Option ℕ) (ws : List Wish) → (data_by x ws o).codes ≡ o.codes
  data_codes none ws = refl
  data_codes (some x) [] = refl
  data_codes (some x) (w ∷ ws) = refl

  data_datas : (x : Option ℕ) (ws : List Wish) → o.datas ≡ ws → (data_by x ws o).datas ≡ pop x ws
  data_datas none ws e = e
  data_datas (some x) [] e = e
  data_datas (some x) (w ∷ ws) e = refl

  data_mem : (x : Option ℕ) (ws : List Wish) → (data_by x ws o).mem ≡ mem_then x (reqs ws) o.mem
  data_mem none ws = refl
  data_mem (some x) [] = refl
  data_mem (some x) (w ∷ ws) = refl

  data_told : (x : Option ℕ) (ws : List Wish) → (data_by x ws o).told ≡ told_then x (reqs ws) o.told
  data_told none ws = refl
  data_told (some x) [] = refl
  data_told (some x) (w ∷ ws) = refl

-- the outside after a clock
pub record ClockedTo (o : O) (x : Io) : Type 0 where
  pub codes : (after o x).codes ≡ push (Option.map new x.out1.code) (map waited (pop x.in1.code o.codes))
  pub datas : (after o x).datas ≡ push (Option.map new1 x.out1.data1) (map waited1 (pop x.in1.data1 o.datas))
  pub mem : (after o x).mem ≡ mem_then x.in1.data1 (reqs o.datas) o.mem
  pub told : (after o x).told ≡ told_then x.in1.data1 (reqs o.datas) o.told

pub clocked_to : (o : O) (x : Io) → ClockedTo o x
clocked_to o x = record {
  codes =
      wanted_is x.out1.code _
      ∙ ap (push (Option.map new x.out1.code)) (older_is _ ∙ ap (map waited) (data_codes _ x.in1.data1 o.datas ∙ code_by_is x.in1.code o.codes));
  datas =
      wished_is x.out1.data1 _
      ∙ ap (push (Option.map new1 x.out1.data1)) (older1_is _ ∙ ap (map waited1) (data_datas _ x.in1.data1 o.datas refl));
  mem = data_mem _ x.in1.data1 o.datas;
  told = data_told _ x.in1.data1 o.datas;
}
