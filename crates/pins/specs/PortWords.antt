-- The code's inputs and outputs as the ports' words, and as what the ports show.
use Rattle.std.specs.Prelude.{◌≡◌, ℕ, zero, suc, ◌+◌, min, Bool, true, false, ◌&&◌, ◌||◌, List, [], ◌∷◌, length, get_or, replicate, Some, None, Option, ◌==◌, nat_le, slice_index, slice_index_or}
use Rattle.std.proofs.Math.Option.{Option as Opt, some, none}
use Rattle.isa.specs.Manual.{Ret}
use Rattle.isa.specs.Executing.{how}
use Rattle.isa.specs.declared.execute.Stop.{Stop}
use Rattle.pins.specs.Ports.{In, Out, Req, reads, writes1, in_of, out_of}
use Rattle.pins.specs.declared.ports.Inputs.{Inputs}
use Rattle.pins.specs.declared.ports.Request.{Request}
use Rattle.pins.specs.declared.ports.Request.TheVariants.{Read, Write}
use Rattle.pins.specs.declared.ports.Retired.{Retired}
use Rattle.pins.specs.declared.ports.Done.{Done}
use Rattle.pins.specs.declared.ports.Outputs.{Outputs}

-- the statements' options and the code's
abbrev pub optional : {A : Type 0} → Opt A → Option A
optional none = None
optional (some x) = Some x

abbrev pub plain : {A : Type 0} → Option A → Opt A
plain None = none
plain (Some x) = some x

abbrev pub inputs_of : In → Inputs
inputs_of i = record { code = optional i.code; answer = optional i.data1 }

-- what is read of the words in
abbrev pub ReadsInputs : List ℕ → Option Inputs → Type 0
ReadsInputs w None = length w ≡ 4 → ⊥
ReadsInputs w (Some i) = (length w ≡ 4) × (i ≡ inputs_of (in_of w))

-- what the ports show by given outputs
abbrev pub stop_word : Option Stop → Option ℕ
stop_word None = None
stop_word (Some h) = Some (how h)

abbrev pub request_of : Option Request → Opt Req
request_of None = none
request_of (Some (Read a)) = some (reads a)
request_of (Some (Write a x)) = some (writes1 a x)

abbrev pub no_retired : Retired
no_retired = record { pc = 0; reg = 0; value = 0 }

abbrev pub ret_of : Retired → Ret
ret_of r = record { pc = r.pc; reg = r.reg; val = r.value }

-- n of them, from the i-th on
abbrev pub rets_from : ℕ → ℕ → List Retired → List Ret
rets_from zero i l = []
rets_from (suc n) i l = ret_of (slice_index_or l i no_retired) ∷ rets_from n (i + 1) l

abbrev pub done_list : Done → List Ret
done_list d = rets_from (min d.count 4) 0 d.at

abbrev pub shown : Outputs → Out
shown o = record { code = plain o.want; data1 = request_of o.request; rets = done_list o.done; stopped = plain (stop_word o.stopped) }

-- words that a core can show: sound, and how it stopped is 0, 1 or 2
abbrev pub legal_out : List ℕ → Bool
legal_out w = length w == 20 && (nat_le (slice_index w 0) 1 && (nat_le (slice_index w 2) 2 && (nat_le (slice_index w 5) 1 && (nat_le (slice_index w 7) 4 && (slice_index w 5 == 0 || nat_le (slice_index w 6) 2)))))

-- what is read of the words out
abbrev pub ReadsOutputs : List ℕ → Option Outputs → Type 0
ReadsOutputs w None = legal_out w ≡ false
ReadsOutputs w (Some o) = (legal_out w ≡ true) × (shown o ≡ out_of w)

abbrev pub done_none : Done
done_none = record { count = 0; at = replicate 4 no_retired }

abbrev pub done_one : Retired → Done
done_one r = record { count = 1; at = r ∷ no_retired ∷ no_retired ∷ no_retired ∷ [] }

-- the words
abbrev pub flag_of : Option ℕ → ℕ
flag_of None = 0
flag_of (Some x) = 1

abbrev pub word_of : Option ℕ → ℕ
word_of None = 0
word_of (Some x) = x

abbrev pub kind_of : Option Request → ℕ
kind_of None = 0
kind_of (Some (Read a)) = 1
kind_of (Some (Write a x)) = 2

abbrev pub address_of : Option Request → ℕ
address_of None = 0
address_of (Some (Read a)) = a
address_of (Some (Write a x)) = a

abbrev pub value_of : Option Request → ℕ
value_of None = 0
value_of (Some (Read a)) = 0
value_of (Some (Write a x)) = x

abbrev pub retired_words : List Retired → ℕ → List ℕ → List ℕ
retired_words l n rest = (get_or l n no_retired).pc ∷ (get_or l n no_retired).reg ∷ (get_or l n no_retired).value ∷ rest

unfoldable pub port_words : Outputs → List ℕ
port_words o = flag_of o.want ∷ word_of o.want ∷ kind_of o.request ∷ address_of o.request ∷ value_of o.request ∷ flag_of (stop_word o.stopped) ∷ word_of (stop_word o.stopped) ∷ min o.done.count 4
    ∷ retired_words o.done.at 0 (retired_words o.done.at 1 (retired_words o.done.at 2 (retired_words o.done.at 3 [])))
