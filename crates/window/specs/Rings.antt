-- The window and the store buffer as rings: what the code does with them, and what that is to their lists.
use Rattle.std.specs.Prelude.{◌≡◌, ℕ, zero, suc, ◌-◌, ◌/◌, ◌%◌, ◌<◌, ◌≤◌, Bool, cond, ◌&&◌, List, [], ◌∷◌, ◌++◌, length, take, Some, None, Option, ◌==◌, nat_lt, slice_index_or}
use Rattle.isa.specs.Words.{nth, put}
use Rattle.isa.specs.Registers.{value_in}
use Rattle.isa.specs.declared.execute.Outcome.{Outcome}
use Rattle.pins.specs.PortWords.{optional}
use Rattle.rings.specs.Searches.{newest_below}
use Rattle.rings.specs.declared.ring.Ring.{Ring}
use Rattle.rings.specs.RingRules.{ring_of, slot}
use Rattle.rings.specs.Places.{pushed_if_room, popped_if_any, held, put_at, cut_to}
use Rattle.window.specs.declared.entry.Entry.{Entry}
use Rattle.pins.specs.declared.held.Store.{Store}
use Rattle.window.specs.declared.entry.Source.{Source}
use Rattle.window.specs.declared.entry.Source.TheVariants.{Memory, Forwarded}
use Rattle.window.specs.Entries.{given, fresh}
use Rattle.window.specs.Newest.{newest, row_source, source}
use Rattle.window.specs.Scans.{hits, leaves, decides}
use Rattle.window.specs.Machine.{Core, with_window, learn, tip}

-- n elements of xs from place h on, around a circle of N; d stands for what is not there
abbrev pub around : {A : Type 0} → ℕ → A → List A → ℕ → ℕ → List A
around N d xs h zero = []
around N d xs h (suc n) = slice_index_or xs (h % N) d ∷ around N d xs (suc h) n

abbrev pub rest : {A : Type 0} → List A → List A
rest [] = []
rest (x ∷ xs) = xs

module _ {A : Type 0} {N : ℕ} where
  -- what stands in the slot of the n-th oldest
  abbrev pub element : A → Ring A N → ℕ → A
  element d w n = slice_index_or w.at (slot w n) d

  -- the list that a ring stands for, oldest first: shut, for the laws
  unfoldable pub listed : A → Ring A N → List A
  listed d w = around N d w.at w.begin w.count

  pub record Sized (w : Ring A N) : Type 0 where
    pub slots : length w.at ≡ N
    pub count : w.count ≤ N

-- what each change of a ring is to its list
pub record ListLaws {A : Type 0} (N : ℕ) (d : A) : Type 0 where
  pub start : listed d (ring_of {n = N} d) ≡ []
  pub count : (w : Ring A N) → length (listed d w) ≡ w.count
  pub push : (w : Ring A N) (x : A) → Sized w → w.count < N → listed d (pushed_if_room w x) ≡ listed d w ++ (x ∷ [])
  pub pop : (w : Ring A N) → listed d (popped_if_any w) ≡ rest (listed d w)
  pub cut : (w : Ring A N) (n : ℕ) → listed d (cut_to w n) ≡ take n (listed d w)
  pub put : (w : Ring A N) (n : ℕ) (x : A) → Sized w → listed d (put_at w n x) ≡ put (listed d w) n x
  pub get : (w : Ring A N) (n : ℕ) → held d w n ≡ optional (nth (listed d w) n)
  -- the oldest, and the others; none
  pub oldest : (w : Ring A N) → 0 < w.count → listed d w ≡ element d w 0 ∷ listed d (popped_if_any w)
  pub empty : (w : Ring A N) → w.count ≤ 0 → listed d w ≡ []
  -- the n-th changed, and the newer ones dropped
  pub redirect : (w : Ring A N) (n : ℕ) (x : A) → Sized w → n < w.count → listed d (cut_to (put_at w n x) (suc n)) ≡ take n (listed d w) ++ (x ∷ [])
  -- sizes are kept
  pub start_sized : Sized (ring_of {n = N} d)
  pub push_sized : (w : Ring A N) (x : A) → Sized w → Sized (pushed_if_room w x)
  pub pop_sized : (w : Ring A N) → Sized w → Sized (popped_if_any w)
  pub cut_sized : (w : Ring A N) (n : ℕ) → Sized w → Sized (cut_to w n)
  pub put_sized : (w : Ring A N) (n : ℕ) (x : A) → Sized w → Sized (put_at w n x)

-- the window: how many instructions can be at work
abbrev pub size : ℕ
size = 16

abbrev pub Window : Type 0
Window = Ring Entry size

abbrev pub no_entry : Entry
no_entry = fresh 0 0

abbrev pub ring_start : Window
ring_start = ring_of no_entry

abbrev pub entry : Window → ℕ → Entry
entry w n = element no_entry w n

abbrev pub entry_at : Window → ℕ → Option Entry
entry_at w n = held no_entry w n

abbrev pub outcome_at : Window → ℕ → Option Outcome
outcome_at w n = given (entry_at w n) None (λ e. e.outcome)

abbrev pub items : Window → List Entry
items w = listed no_entry w

-- the newest before the n-th that may write the register
abbrev pub writer_below : Window → ℕ → ℕ → Option ℕ
writer_below w r n = newest_below (λ k. hits r (entry w k)) n

abbrev pub operand_by : Window → List ℕ → ℕ → Option ℕ → Option ℕ
operand_by w gs r None = Some (value_in gs r)
operand_by w gs r (Some k) = leaves (entry w k)

abbrev pub operand : Window → List ℕ → ℕ → ℕ → Option ℕ
operand w gs r n = cond (r == 0) (Some 0) (operand_by w gs r (writer_below w r n))

-- and which decides where a word of data is
abbrev pub store_below : Window → ℕ → ℕ → Option Source
store_below w i zero = None
store_below w i (suc n) = given (decides i (entry w n)) (store_below w i n) Some

-- the store buffer: eight stores
abbrev pub StoreBuffer : Type 0
StoreBuffer = Ring Store 8

abbrev pub no_store : Store
no_store = record { address = 0; value = 0 }

abbrev pub buffer_start : StoreBuffer
buffer_start = ring_of no_store

abbrev pub buffer_entry : StoreBuffer → ℕ → Store
buffer_entry b n = element no_store b n

abbrev pub waiting : StoreBuffer → List Store
waiting b = listed no_store b

abbrev pub matches : StoreBuffer → ℕ → ℕ → Bool
matches b i n = nat_lt (buffer_entry b n).address 2147483648 && (buffer_entry b n).address / 4 == i

abbrev pub row_below : StoreBuffer → ℕ → ℕ → Source
row_below b i zero = Memory
row_below b i (suc n) = cond (matches b i n) (Forwarded (buffer_entry b n).value) (row_below b i n)

abbrev pub buffer_source : StoreBuffer → ℕ → Source
buffer_source b i = row_below b i b.count

abbrev pub source_in : Window → StoreBuffer → ℕ → ℕ → Source
source_in w b i n = given (store_below w i n) (buffer_source b i) (λ s. s)

pub record RingLaws : Type 0 where
  pub list : ListLaws size no_entry
  -- where the next is
  pub next : (w : Window) (p : ℕ) → given (entry_at w (w.count - 1)) p (λ e. e.predicted) ≡ tip p (items w)
  -- all rules by which the n-th learns: look it up, put what it learns
  pub learn : (f : Core → ℕ → Entry → Option Entry) (n : ℕ) (k : Core) (w : Window) → Sized w → k.window ≡ items w
      → learn f n k ≡ with_window k (items (given (entry_at w n) w (λ e. given (f k n e) w (put_at w n))))
  -- the operand and the source that are found are the machine's
  pub operand : (w : Window) (gs : List ℕ) (r n : ℕ) → n ≤ w.count → operand w gs r n ≡ newest gs (items w) n r
  pub source : (w : Window) (b : StoreBuffer) (i n : ℕ) → n ≤ w.count → source_in w b i n ≡ source (waiting b) (items w) n i

pub record BufferLaws : Type 0 where
  pub list : ListLaws 8 no_store
  pub source : (b : StoreBuffer) (i : ℕ) → buffer_source b i ≡ row_source i Memory (waiting b)
