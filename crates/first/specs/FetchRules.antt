-- The fetch unit's rules.
use Rattle.std.specs.Prelude.{ℕ, ◌-◌, ◌%◌, Bool, cond, ◌&&◌, [], ◌∷◌, replicate, Some, None, Option, ◌==◌, nat_lt, slice_index, slice_set}
use Rattle.isa.specs.Words.{add}
use Rattle.first.specs.declared.state.Fetch.{Fetch}

abbrev pub fetch_start : ℕ → Fetch
fetch_start a = record { words = record { count = 0; at = replicate 2 0 }; coming = 0; stale = 0; next = a }

-- a word of code came: dropped if it is stale, kept if one is wanted, else ignored
abbrev pub fetch_drop : Fetch → Fetch
fetch_drop f = record { words = f.words; coming = f.coming; stale = f.stale - 1; next = f.next }

abbrev pub fetch_keep : Fetch → ℕ → Fetch
fetch_keep f x = record { words = record { count = add f.words.count 1; at = slice_set f.words.at (f.words.count % 2) x }; coming = f.coming - 1; stale = f.stale; next = f.next }

abbrev pub fetch_take : Fetch → Option ℕ → Fetch
fetch_take f None = f
fetch_take f (Some x) = cond (nat_lt 0 f.stale) (fetch_drop f) (cond (nat_lt 0 f.coming) (fetch_keep f x) f)

-- the oldest word, if there is one
abbrev pub fetch_head : Fetch → Option ℕ
fetch_head f = cond (f.words.count == 0) None (Some (slice_index f.words.at 0))

-- go on: drop the word just used
abbrev pub fetch_pop : Fetch → Fetch
fetch_pop f = record { words = record { count = f.words.count - 1; at = slice_index f.words.at 1 ∷ slice_index f.words.at 1 ∷ [] }; coming = f.coming; stale = f.stale; next = f.next }

-- go elsewhere: what was fetched ahead is thrown away, what is still to come is stale
abbrev pub fetch_flush : Fetch → ℕ → Fetch
fetch_flush f a = record { words = record { count = 0; at = f.words.at }; coming = 0; stale = add f.stale f.coming; next = a }

-- the instruction at pc is done, and the next is at a
abbrev pub fetch_goto : Fetch → ℕ → ℕ → Fetch
fetch_goto f pc a = cond (a == add pc 4) (fetch_pop f) (fetch_flush f a)

-- the next word is wanted while fewer than two are kept or coming, and fewer than four are open
abbrev pub fetch_room : Fetch → Bool
fetch_room f = nat_lt (add f.words.count f.coming) 2 && nat_lt (add f.stale f.coming) 4

abbrev pub fetch_more : Fetch → Fetch
fetch_more f = record { words = f.words; coming = add f.coming 1; stale = f.stale; next = add f.next 4 }

abbrev pub fetch_wanted : Fetch → Fetch
fetch_wanted f = cond (fetch_room f) (fetch_more f) f

abbrev pub fetch_want : Fetch → Option ℕ
fetch_want f = cond (fetch_room f) (Some f.next) None
