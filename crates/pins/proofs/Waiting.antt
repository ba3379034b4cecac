-- Ages of what is open, and that all is answered in time: argued once, of any queue of ages.
use Rattle.std.proofs.Common.{◌≡◌, ℕ, zero, suc, ◌+◌, ◌<◌, ◌≤◌, Bool, true, false, ◌&&◌, leb, ◌⊎◌, List, [], ◌∷◌, ◌++◌, map, length, get_or, sym, refl, ap, ◌∙◌, subst, inl, inr, append-nil, arith, leb-true}
use mathlib.Core.List.{map-map}
use mathlib.Core.Option.{Option, some, none}
use lib.ListN.{length-map}
use Rattle.std.proofs.lemmas.Bool.{cases_lt}
use Rattle.isa.specs.Manual.{Mem}
use Rattle.pins.specs.Outside.{Io, Hist, Want, Wish, O, after, onward, outside, young, young1, Prompt}
use Rattle.pins.specs.View.{pop, push, ones}
use Rattle.pins.specs.Waits.{ages, ages1, aged, age0, Calm, answers, code_answers, data_answers, WaitLaws}
use Rattle.pins.proofs.Queues.{map_pop, map_clock, waited, waited1, new, new1, clocked_to}
use Rattle.pins.proofs.Histories.{history_laws}

-- what stays is one clock older
older_is : {A : Type 0} (age : A → ℕ) (x : Option ℕ) (q : List A) → map (λ w. age w + 1) (pop x q) ≡ map (λ n. n + 1) (pop x (map age q))
older_is age x q = sym (map-map (λ n. n + 1) age (pop x q)) ∙ ap (map (λ n. n + 1)) (map_pop age x q)

codes_aged : (o : O) (x : Io) → ages (after o x).codes ≡ aged x.in1.code (age0 x.out1.code) (ages o.codes)
codes_aged o x =
    let age : Want → ℕ = λ w. w.age in
    ap ages (clocked_to o x).codes
    ∙ map_clock age new waited x.out1.code (pop x.in1.code o.codes)
    ∙ ap (push (age0 x.out1.code)) (older_is age x.in1.code o.codes)

datas_aged : (o : O) (x : Io) → ages1 (after o x).datas ≡ aged x.in1.data1 (age0 x.out1.data1) (ages1 o.datas)
datas_aged o x =
    let age : Wish → ℕ = λ w. w.age in
    ap ages1 (clocked_to o x).datas
    ∙ map_clock age new1 waited1 x.out1.data1 (pop x.in1.data1 o.datas)
    ∙ ap (push (age0 x.out1.data1)) (older_is age x.in1.data1 o.datas)

older : (x y : Option ℕ) (q : List ℕ) (n : ℕ) → n < length (pop x q) → get_or (aged x y q) n 0 ≡ get_or (pop x q) n 0 + 1
older x y q n h = of (pop x q) y n h
  where
    of : (q : List ℕ) (y : Option ℕ) (n : ℕ) → n < length q → get_or (push y (map (λ n. n + 1) q)) n 0 ≡ get_or q n 0 + 1
    of [] y n h = absurd (omega arith)
    of (a ∷ q) none zero h = refl
    of (a ∷ q) (some y) zero h = refl
    of (a ∷ q) none (suc n) h = of q none n (omega arith)
    of (a ∷ q) (some y) (suc n) h = of q (some y) n (omega arith)

both : (a b : Bool) → a && b ≡ true → (a ≡ true) × (b ≡ true)
both true b e = (refl, e)
both false b e = let z : ◌≡◌ {A = ℕ} 0 1 = cc in absurd (omega arith)

codes_young : (l : ℕ) (ws : List Want) → young l ws ≡ true → (n : ℕ) → get_or (ages ws) n 0 ≤ l
codes_young l [] e n = omega arith
codes_young l (w ∷ ws) e zero = leb-true w.age l (both (leb w.age l) (young l ws) e).0
codes_young l (w ∷ ws) e (suc n) = codes_young l ws (both (leb w.age l) (young l ws) e).1 n

datas_young : (l : ℕ) (ws : List Wish) → young1 l ws ≡ true → (n : ℕ) → get_or (ages1 ws) n 0 ≤ l
datas_young l [] e n = omega arith
datas_young l (w ∷ ws) e zero = leb-true w.age l (both (leb w.age l) (young1 l ws) e).0
datas_young l (w ∷ ws) e (suc n) = datas_young l ws (both (leb w.age l) (young1 l ws) e).1 n

-- the first k of a queue are there and at least n old
abbrev Old : ℕ → ℕ → List ℕ → Type 0
Old n zero q = Unit {0}
Old n (suc k) [] = ⊥
Old n (suc k) (a ∷ q) = (n ≤ a) × Old n k q

old_clock : (n k : ℕ) (y : Option ℕ) (q : List ℕ) → Old n k q → Old (suc n) k (push y (map (λ n. n + 1) q))
old_clock n zero y q h = tt
old_clock n (suc k) y [] h = absurd h
old_clock n (suc k) none (a ∷ q) (h, t) = (omega arith, old_clock n k none q t)
old_clock n (suc k) (some y) (a ∷ q) (h, t) = (omega arith, old_clock n k (some y) q t)

all_old : (q : List ℕ) → Old 0 (length q) q
all_old [] = tt
all_old (a ∷ q) = (omega arith, all_old q)

-- any queue of ages in the outside, with the answers that it gets
module _ (queue : O → List ℕ) (answer asked : Io → Option ℕ) (clock : (o : O) (x : Io) → queue (after o x) ≡ aged (answer x) (asked x) (queue o)) where
  -- with too few answers for the first k, one of them is as old as the history is long, and more
  waits : (g : Hist) (o : O) (n k : ℕ) → Old n k (queue o) → answers answer g < k → n + length g ≤ get_or (queue (onward o g)) 0 0
  waits [] o n k h few = by k (queue o) h few
    where
      by : (k : ℕ) (q : List ℕ) → Old n k q → 0 < k → n + 0 ≤ get_or q 0 0
      by zero q h few = absurd (omega arith)
      by (suc k) [] h few = absurd h
      by (suc k) (a ∷ q) (h, t) few = omega arith
  waits (x ∷ g) o n k h few = by (λ j t f. waits g (after o x) (suc n) j t f) (answer x) refl k (queue o) refl h few
    where
      by : ((j : ℕ) → Old (suc n) j (queue (after o x)) → answers answer g < j → suc n + length g ≤ get_or (queue (onward (after o x) g)) 0 0)
          → (y : Option ℕ) → answer x ≡ y → (k : ℕ) (q : List ℕ) → queue o ≡ q → Old n k q → ones y + answers answer g < k
          → n + suc (length g) ≤ get_or (queue (onward (after o x) g)) 0 0
      by on y e zero q f h few = absurd (omega arith)
      by on y e (suc k) [] f h few = absurd h
      by on none e (suc k) (a ∷ q) f h few =
          let t = subst (Old (suc n) (suc k)) (sym (clock o x ∙ λ i. aged (e i) (asked x) (f i))) (old_clock n (suc k) (asked x) (a ∷ q) h) in
          omega (arith, on (suc k) t (omega arith))
      by on (some y) e (suc k) (a ∷ q) f (h, t) few =
          let t = subst (Old (suc n) k) (sym (clock o x ∙ λ i. aged (e i) (asked x) (f i))) (old_clock n k (asked x) q t) in
          omega (arith, on k t (omega arith))

  -- so where the oldest is at most l old at the end, l + 1 clocks have answered all
  in_time : (l : ℕ) (g : Hist) (o : O) → get_or (queue (onward o g)) 0 0 ≤ l → l < length g → length (queue o) ≤ answers answer g
  in_time l g o young long = by (cases_lt (answers answer g) (length (queue o)))
    where
      by : (answers answer g < length (queue o)) ⊎ (length (queue o) ≤ answers answer g) → length (queue o) ≤ answers answer g
      by (inl few) = let w = waits g o 0 (length (queue o)) (all_old (queue o)) few in absurd (omega arith)
      by (inr e) = e

calm : (l : ℕ) (m : Mem) (h g : Hist) → Prompt l m (h ++ g) → Calm l (outside m h)
calm l m h g p = p h g refl

calm_end : (l : ℕ) (m : Mem) (h g : Hist) → Prompt l m (h ++ g) → Calm l (onward (outside m h) g)
calm_end l m h g p = subst (Calm l) (history_laws.outside_append m h g) (p (h ++ g) [] (sym (append-nil (h ++ g))))

codes_answered : (l : ℕ) (m : Mem) (h g : Hist) → Prompt l m (h ++ g) → l < length g → length (outside m h).codes ≤ code_answers g
codes_answered l m h g p n =
    let o = outside m h in
    let y = codes_young l (onward o g).codes (calm_end l m h g p).0 0 in
    let a = in_time (λ (o : O). ages o.codes) (λ x. x.in1.code) (λ x. age0 x.out1.code) codes_aged l g o y n in
    omega (arith, length-map o.codes (λ (w : Want). w.age))

datas_answered : (l : ℕ) (m : Mem) (h g : Hist) → Prompt l m (h ++ g) → l < length g → length (outside m h).datas ≤ data_answers g
datas_answered l m h g p n =
    let o = outside m h in
    let y = datas_young l (onward o g).datas (calm_end l m h g p).1 0 in
    let a = in_time (λ (o : O). ages1 o.datas) (λ x. x.in1.data1) (λ x. age0 x.out1.data1) datas_aged l g o y n in
    omega (arith, length-map o.datas (λ (w : Wish). w.age))

pub wait_laws : WaitLaws
wait_laws = record {
  codes_aged = codes_aged;
  datas_aged = datas_aged;
  older = older;
  codes_young = codes_young;
  datas_young = datas_young;
  calm = calm;
  codes_answered = codes_answered;
  datas_answered = datas_answered;
}
