-- The worked examples, by computing.
use Rattle.std.proofs.Common.{refl}
use Rattle.pins.specs.Cases.{words, program, sevens, last, two, Worked}

pub worked : Worked
unfolding words program sevens last two
worked = record { at_end = refl; outside_did = refl; read_back = refl; no_answer = refl; branch_to_itself = refl; noughts = refl; noughts_do_nothing = refl; load_from_2 = refl; divu_by_0 = refl; remu_by_0 = refl; ports = refl; waits = refl; did = refl }
