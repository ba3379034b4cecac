-- A queue of n places: the oldest stands in front.
use Rattle.std.specs.Prelude.{ℕ, ◌+◌, ◌-◌, ◌%◌, ◌^◌, ◌++◌, drop, replicate, slice_set}
use Rattle.rings.specs.declared.queue.Queue.{Queue}

module _ {T : Type 0} {n : ℕ} where
  -- nothing held
  abbrev pub queue_of : T → Queue T n
  queue_of x = record { count = 0; at = replicate n x }

  -- one more behind the newest
  abbrev pub queue_pushed : Queue T n → T → Queue T n
  queue_pushed q x = record { count = (q.count + 1) % 2 ^ 32; at = slice_set q.at (q.count % n) x }

  -- without the oldest: the others move up, and the last stands twice
  abbrev pub queue_popped : Queue T n → Queue T n
  queue_popped q = record { count = q.count - 1; at = drop 1 q.at ++ drop (n - 1) q.at }
