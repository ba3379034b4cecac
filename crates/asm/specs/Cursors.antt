-- Where a cursor stands.
use Rattle.std.specs.Prelude.{ℕ, cond}
use Rattle.std.specs.Option.{unwrap_or}
use Rattle.asm.specs.declared.cursor.Cursor.{Cursor}

-- the address of its next word
abbrev pub here : Cursor → ℕ
here c = cond c.in_data (unwrap_or c.«data» 0) c.code
