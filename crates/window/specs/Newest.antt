-- What an instruction in the window finds before it: a register's newest value, and the newest store to a word.
use Rattle.std.specs.Prelude.{ℕ, ◌/◌, List, [], ◌∷◌, take, Some, None, Option, ◌==◌}
use Rattle.isa.specs.Words.{pick}
use Rattle.isa.specs.Manual.{device}
use Rattle.isa.specs.Registers.{value_in}
use Rattle.isa.specs.declared.execute.Outcome.{Outcome}
use Rattle.isa.specs.declared.execute.Outcome.TheVariants.{Write as Writes, Jump as Jumps, Load as Loads, Store as Stores, Halt as Halts}
use Rattle.window.specs.declared.entry.Entry.{Entry}
use Rattle.pins.specs.declared.held.Store.{Store}
use Rattle.window.specs.declared.entry.Source.{Source}
use Rattle.window.specs.declared.entry.Source.TheVariants.{Unknown, Memory, Forwarded}
use Rattle.window.specs.Entries.{given}
use Rattle.window.specs.Operands.{written_register, may_store}

-- any knowledge, carried over the instructions from the oldest on
abbrev pub sweep : {K : Type 0} → (Entry → K → K) → K → List Entry → K
sweep over k [] = k
sweep over k (e ∷ es) = sweep over (over e k) es

-- a register's value after an instruction, by what is known of it; None: wait
abbrev pub after_outcome : ℕ → Option ℕ → Option ℕ → Outcome → Option ℕ
after_outcome r loaded k (Writes d x a) = pick (d.number == r) (Some x) k
after_outcome r loaded k (Jumps a) = k
after_outcome r loaded k (Loads d a) = pick (d.number == r) loaded k
after_outcome r loaded k (Stores a x) = k
after_outcome r loaded k (Halts h) = None

abbrev pub after_word : ℕ → Option ℕ → Option ℕ → Option ℕ
after_word r k None = None
after_word r k (Some w) = pick (written_register w == r) None k

abbrev pub over_register : ℕ → Entry → Option ℕ → Option ℕ
over_register r e k = given e.outcome (after_word r k e.word) (after_outcome r e.loaded k)

-- the register file, then the instructions before the n-th
abbrev pub newest : List ℕ → List Entry → ℕ → ℕ → Option ℕ
newest gs es n r = pick (r == 0) (Some 0) (sweep (over_register r) (Some (value_in gs r)) (take n es))

-- where the word with number n stands after a store; stores to devices leave memory alone
abbrev pub by_store : ℕ → ℕ → ℕ → Source → Source
by_store n a x k = pick (device a) k (pick (a / 4 == n) (Forwarded x) k)

abbrev pub source_outcome : ℕ → Source → Outcome → Source
source_outcome n k (Writes d x a) = k
source_outcome n k (Jumps a) = k
source_outcome n k (Loads d a) = k
source_outcome n k (Stores a x) = by_store n a x k
source_outcome n k (Halts h) = k

abbrev pub source_word : Source → Option ℕ → Source
source_word k None = Unknown
source_word k (Some w) = pick (may_store w) Unknown k

abbrev pub over_memory : ℕ → Entry → Source → Source
over_memory n e k = given e.outcome (source_word k e.word) (source_outcome n k)

abbrev pub row_source : ℕ → Source → List Store → Source
row_source n k [] = k
row_source n k (p ∷ ps) = row_source n (by_store n p.address p.value k) ps

-- memory, then the waiting stores, then the instructions before the k-th
abbrev pub source : List Store → List Entry → ℕ → ℕ → Source
source ps es k n = sweep (over_memory n) (row_source n Memory ps) (take k es)
