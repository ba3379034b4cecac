-- A memory as a function from word numbers.
use Rattle.std.specs.Prelude.{ℕ}
use Rattle.std.specs.BTreeMap.{BTreeMap}
use Rattle.std.specs.BTreeMap.{get}
use Rattle.std.specs.Ordering.{nat_cmp}
use Rattle.std.specs.Option.{unwrap_or}
use Rattle.isa.specs.Manual.{Mem}
use Rattle.reference.specs.declared.memory.Memory.{Memory}

-- a map as a function: 0 where it has no key
abbrev pub reads : BTreeMap ℕ ℕ → Mem
reads m = λ k. unwrap_or (get nat_cmp m k) 0

unfoldable pub words_of : Memory → Mem
words_of m = reads m.words
