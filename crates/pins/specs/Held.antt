-- What a core keeps of a request, and what becomes of it.
use Rattle.std.specs.Prelude.{ℕ, Some, None, Option}
use Rattle.pins.specs.declared.ports.Request.{Request}
use Rattle.pins.specs.declared.ports.Request.TheVariants.{Write}
use Rattle.pins.specs.declared.held.Store.{Store}
use Rattle.pins.specs.declared.held.Reading.{Reading}
use Rattle.pins.specs.declared.held.Reading.TheVariants.{Idle, Waiting, Answered}

abbrev pub write_of : Store → Request
write_of s = Write s.address s.value

abbrev pub with_answer : ℕ → Reading → Reading
with_answer x Idle = Idle
with_answer x (Waiting a) = Answered a x
with_answer x (Answered a y) = Answered a y

abbrev pub answer_of : Reading → Option ℕ
answer_of Idle = None
answer_of (Waiting a) = None
answer_of (Answered a x) = Some x
