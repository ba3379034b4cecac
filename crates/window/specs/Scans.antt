-- What one instruction leaves for those behind it: as the searches from the newest on ask for it.
use Rattle.std.specs.Prelude.{ℕ, ◌/◌, Bool, true, false, Some, None, Option, ◌==◌}
use Rattle.isa.specs.Words.{pick}
use Rattle.isa.specs.Manual.{device}
use Rattle.isa.specs.declared.execute.Outcome.{Outcome}
use Rattle.isa.specs.declared.execute.Outcome.TheVariants.{Write as Writes, Jump as Jumps, Load as Loads, Store as Stores, Halt as Halts}
use Rattle.window.specs.declared.entry.Entry.{Entry}
use Rattle.window.specs.declared.entry.Source.{Source}
use Rattle.window.specs.declared.entry.Source.TheVariants.{Unknown, Forwarded}
use Rattle.window.specs.Entries.{given}
use Rattle.window.specs.Operands.{written_register, may_store}

-- it may write the register r
abbrev pub hits_outcome : ℕ → Outcome → Bool
hits_outcome r (Writes d x a) = d.number == r
hits_outcome r (Jumps a) = false
hits_outcome r (Loads d a) = d.number == r
hits_outcome r (Stores a x) = false
hits_outcome r (Halts h) = true

abbrev pub hits_word : ℕ → Option ℕ → Bool
hits_word r None = true
hits_word r (Some w) = written_register w == r

abbrev pub hits : ℕ → Entry → Bool
hits r e = given e.outcome (hits_word r e.word) (hits_outcome r)

-- what it leaves there; None: wait
abbrev pub leaves_outcome : Option ℕ → Outcome → Option ℕ
leaves_outcome loaded (Writes d x a) = Some x
leaves_outcome loaded (Jumps a) = None
leaves_outcome loaded (Loads d a) = loaded
leaves_outcome loaded (Stores a x) = None
leaves_outcome loaded (Halts h) = None

abbrev pub leaves : Entry → Option ℕ
leaves e = given e.outcome None (leaves_outcome e.loaded)

-- where the word of data with number n is, if this instruction decides it
abbrev pub stored_at : ℕ → ℕ → ℕ → Option Source
stored_at n a x = pick (device a) None (pick (a / 4 == n) (Some (Forwarded x)) None)

abbrev pub stored : ℕ → Outcome → Option Source
stored n (Writes d x a) = None
stored n (Jumps a) = None
stored n (Loads d a) = None
stored n (Stores a x) = stored_at n a x
stored n (Halts h) = None

abbrev pub decides_word : Option ℕ → Option Source
decides_word None = Some Unknown
decides_word (Some w) = pick (may_store w) (Some Unknown) None

abbrev pub decides : ℕ → Entry → Option Source
decides n e = given e.outcome (decides_word e.word) (stored n)
