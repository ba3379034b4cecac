-- A ring of n places: the oldest stands at begin, the next in the place after it, around the end.
use Rattle.std.specs.Prelude.{ℕ, ◌+◌, ◌-◌, ◌%◌, ◌^◌, replicate, slice_set}
use Rattle.rings.specs.declared.ring.Ring.{Ring}

module _ {T : Type 0} {n : ℕ} where
  -- nothing held
  abbrev pub ring_of : T → Ring T n
  ring_of x = record { begin = 0; count = 0; at = replicate n x }

  -- the place of the i-th oldest
  abbrev pub slot : Ring T n → ℕ → ℕ
  slot r i = (r.begin % n + i % n) % n

  -- one more behind the newest
  abbrev pub pushed : Ring T n → T → Ring T n
  pushed r x = record { begin = r.begin; count = (r.count + 1) % 2 ^ 32; at = slice_set r.at (slot r r.count) x }

  -- without the oldest
  abbrev pub popped : Ring T n → Ring T n
  popped r = record { begin = (r.begin % n + 1) % n; count = r.count - 1; at = r.at }
