-- What stands in a ring and in a queue, by its number; d stands for what is not there.
use Rattle.std.specs.Prelude.{ℕ, ◌+◌, ◌-◌, ◌%◌, cond, [], ◌∷◌, ◌++◌, drop, Some, None, Option, nat_lt, slice_index_or, slice_set}
use Rattle.rings.specs.declared.ring.Ring.{Ring}
use Rattle.rings.specs.declared.queue.Queue.{Queue}
use Rattle.rings.specs.RingRules.{slot}

module _ {T : Type 0} {n : ℕ} where
  -- one more behind the newest; a full ring stays as it is
  abbrev pub pushed_if_room : Ring T n → T → Ring T n
  pushed_if_room r x = cond (nat_lt r.count n) (record { begin = r.begin; count = r.count + 1; at = slice_set r.at (slot r r.count) x }) r

  -- without the oldest; an empty ring stays as it is
  abbrev pub popped_if_any : Ring T n → Ring T n
  popped_if_any r = cond (nat_lt 0 r.count) (record { begin = (r.begin % n + 1) % n; count = r.count - 1; at = r.at }) r

  -- the i-th oldest
  abbrev pub held : T → Ring T n → ℕ → Option T
  held d r i = cond (nat_lt i r.count) (Some (slice_index_or r.at (slot r i) d)) None

  -- with another in its place
  abbrev pub put_at : Ring T n → ℕ → T → Ring T n
  put_at r i x = cond (nat_lt i r.count) (record { begin = r.begin; count = r.count; at = slice_set r.at (slot r i) x }) r

  -- the i oldest alone
  abbrev pub cut_to : Ring T n → ℕ → Ring T n
  cut_to r i = cond (nat_lt i r.count) (record { begin = r.begin; count = i; at = r.at }) r

  -- one more behind the newest; a full queue stays as it is
  abbrev pub queue_pushed_if_room : Queue T n → T → Queue T n
  queue_pushed_if_room q x = cond (nat_lt q.count n) (record { count = q.count + 1; at = slice_set q.at q.count x }) q

  -- what stands in front
  abbrev pub queue_oldest : T → Queue T n → Option T
  queue_oldest d q = cond (nat_lt 0 q.count) (Some (slice_index_or q.at 0 d)) None

  -- without the oldest: the others move up, and x stands behind them
  abbrev pub queue_shifted : Queue T n → T → Queue T n
  queue_shifted q x = record { count = q.count - 1; at = drop 1 q.at ++ (x ∷ []) }
