-- The store buffer's rules.
use Rattle.std.specs.Prelude.{ℕ, ◌+◌, ◌-◌, ◌/◌, ◌%◌, Bool, ◌&&◌, replicate, Some, None, Option, ◌==◌, nat_lt, slice_index_or, slice_set}
use Rattle.isa.specs.Words.{add}
use Rattle.rings.specs.Searches.{newest_below as newest_of}
use Rattle.rings.specs.declared.ring.Ring.{Ring}
use Rattle.pins.specs.declared.held.Store.{Store}

-- a ring of eight stores
abbrev pub StoreBuffer : Type 0
StoreBuffer = Ring Store 8

abbrev pub no_store : Store
no_store = record { address = 0; value = 0 }

abbrev pub buffer_start : StoreBuffer
buffer_start = record { begin = 0; count = 0; at = replicate 8 no_store }

-- the slot of the n-th oldest, and what stands there
abbrev pub slot : StoreBuffer → ℕ → ℕ
slot b n = (b.begin % 8 + n % 8) % 8

abbrev pub entry : StoreBuffer → ℕ → Store
entry b n = slice_index_or b.at (slot b n) no_store

abbrev pub buffer_push : StoreBuffer → Store → StoreBuffer
buffer_push b s = record { begin = b.begin; count = add b.count 1; at = slice_set b.at (slot b b.count) s }

abbrev pub buffer_pop : StoreBuffer → StoreBuffer
buffer_pop b = record { begin = (b.begin % 8 + 1) % 8; count = b.count - 1; at = b.at }

-- the place of the newest store to the word at an address, among the n oldest
abbrev pub here : StoreBuffer → ℕ → ℕ → Bool
here b a n = nat_lt n b.count && (entry b n).address / 4 == a / 4

abbrev pub newest_below : StoreBuffer → ℕ → ℕ → Option ℕ
newest_below b a n = newest_of (here b a) n

unfoldable pub newest : StoreBuffer → ℕ → Option ℕ
newest b a = newest_below b a 8

-- its word
abbrev pub value_at : StoreBuffer → Option ℕ → Option ℕ
value_at b None = None
value_at b (Some n) = Some (entry b n).value

abbrev pub forwarded : StoreBuffer → ℕ → Option ℕ
forwarded b a = value_at b (newest b a)
