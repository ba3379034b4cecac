-- How long what is open has waited, and that all is answered in time.
use Rattle.std.specs.Prelude.{◌≡◌, ℕ, ◌+◌, ◌<◌, ◌≤◌, true, List, [], ◌∷◌, ◌++◌, map, length, slice_index}
use Rattle.std.proofs.Math.Option
use Rattle.std.proofs.Math.Option.{Option}
use Rattle.isa.specs.Manual.{Mem}
use Rattle.pins.specs.Outside.{Io, Hist, Want, Wish, O, after, outside, young, young1, Prompt}
use Rattle.pins.specs.View.{pop, push, ones}

abbrev pub ages : List Want → List ℕ
ages ws = map (λ w. w.age) ws

abbrev pub ages1 : List Wish → List ℕ
ages1 ws = map (λ w. w.age) ws

-- a queue of ages over one clock: the oldest is answered or not, the others get older, a new one stands behind
abbrev pub aged : Option ℕ → Option ℕ → List ℕ → List ℕ
aged x y q = push y (map (λ n. n + 1) (pop x q))

abbrev pub age0 : {A : Type 0} → Option A → Option ℕ
age0 y = Option.map (λ _. 0) y

-- nothing has waited for more than l clocks
abbrev pub Calm : ℕ → O → Type 0
Calm l o = (young l o.codes ≡ true) × (young1 l o.datas ≡ true)

-- how many answers a history brings, of code and of data
abbrev pub answers : (Io → Option ℕ) → Hist → ℕ
answers answer [] = 0
answers answer (x ∷ h) = ones (answer x) + answers answer h

abbrev pub code_answers : Hist → ℕ
code_answers h = answers (λ x. x.in1.code) h

abbrev pub data_answers : Hist → ℕ
data_answers h = answers (λ x. x.in1.data1) h

pub record WaitLaws : Type 0 where
  pub codes_aged : (o : O) (x : Io) → ages (after o x).codes ≡ aged x.in1.code (age0 x.out1.code) (ages o.codes)
  pub datas_aged : (o : O) (x : Io) → ages1 (after o x).datas ≡ aged x.in1.data1 (age0 x.out1.data1) (ages1 o.datas)
  -- what stays open gets one clock older
  pub older : (x y : Option ℕ) (q : List ℕ) (n : ℕ) → n < length (pop x q) → slice_index (aged x y q) n ≡ slice_index (pop x q) n + 1
  -- and in a calm outside nothing is older than l
  pub codes_young : (l : ℕ) (ws : List Want) → young l ws ≡ true → (n : ℕ) → slice_index (ages ws) n ≤ l
  pub datas_young : (l : ℕ) (ws : List Wish) → young1 l ws ≡ true → (n : ℕ) → slice_index (ages1 ws) n ≤ l
  pub calm : (l : ℕ) (m : Mem) (h g : Hist) → Prompt l m (h ++ g) → Calm l (outside m h)
  -- all that is open after h is answered, in order, by the l + 1 clocks that follow
  pub codes_answered : (l : ℕ) (m : Mem) (h g : Hist) → Prompt l m (h ++ g) → l < length g → length (outside m h).codes ≤ code_answers g
  pub datas_answered : (l : ℕ) (m : Mem) (h g : Hist) → Prompt l m (h ++ g) → l < length g → length (outside m h).datas ≤ data_answers g
