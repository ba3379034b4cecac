-- The words at the ports, read by the definitions of the ports, are what the outputs show.
use Rattle.std.proofs.Common.{◌≡◌, ℕ, zero, suc, ◌≤◌, min, Bool, true, ◌&&◌, leb, List, [], get_or, Some, None, Option, refl, ap₂, arith}
use mathlib.Core.Option.{Option as Opt}
use Rattle.std.proofs.lemmas.Bool.{le-leb}
use Rattle.isa.specs.Manual.{Ret}
use Rattle.isa.proofs.Lists.{nth_get_d}
use Rattle.pins.specs.declared.ports.Request.{Request}
use Rattle.pins.specs.declared.ports.Request.TheVariants.{Read, Write}
use Rattle.pins.specs.declared.ports.Retired.{Retired}
use Rattle.pins.specs.declared.ports.Outputs.{Outputs}
use Rattle.pins.specs.Ports.{Out, Req, in_of, out_of, flagged, req_of, rets_of, sound_out}
use Rattle.pins.specs.PortWords.{plain, request_of, rets_from, shown, flag_of, word_of, kind_of, address_of, value_of, retired_words, port_words, stop_word}

pub code_is : (s : List ℕ) → (in_of s).code ≡ flagged (get_or s 0 0) (get_or s 1 0)
code_is s = ap₂ flagged (nth_get_d s 0) (nth_get_d s 1)

pub data_is : (s : List ℕ) → (in_of s).data1 ≡ flagged (get_or s 2 0) (get_or s 3 0)
data_is s = ap₂ flagged (nth_get_d s 2) (nth_get_d s 3)

-- each part read back
flag_back : (w : Option ℕ) → flagged (flag_of w) (word_of w) ≡ plain w
flag_back None = refl
flag_back (Some x) = refl

request_back : (r : Option Request) → req_of (kind_of r) (address_of r) (value_of r) ≡ request_of r
request_back None = refl
request_back (Some (Read a)) = refl
request_back (Some (Write a x)) = refl

rets_back : (n : ℕ) (l : List Retired) → n ≤ 4 → rets_of n (retired_words l 0 (retired_words l 1 (retired_words l 2 (retired_words l 3 [])))) ≡ rets_from n 0 l
rets_back zero l h = refl
rets_back (suc zero) l h = refl
rets_back (suc (suc zero)) l h = refl
rets_back (suc (suc (suc zero))) l h = refl
rets_back (suc (suc (suc (suc zero)))) l h = refl
rets_back (suc (suc (suc (suc (suc n))))) l h = absurd (omega arith)

pub out_same : {a a' b b' : Opt ℕ} {r r' : Opt Req} {t t' : List Ret} → a ≡ a' → r ≡ r' → t ≡ t' → b ≡ b'
    → ◌≡◌ {A = Out} (record { code = a; data1 = r; rets = t; stopped = b }) (record { code = a'; data1 = r'; rets = t'; stopped = b' })
out_same p q e f = λ i. record { code = p i; data1 = q i; rets = e i; stopped = f i }

pub out_back : (o : Outputs) → out_of (port_words o) ≡ shown o
unfolding port_words
out_back o = out_same (flag_back o.want) (request_back o.request) (rets_back (min o.done.count 4) o.done.at (omega arith)) (flag_back (stop_word o.stopped))

-- the flags and the count are in range
flag_small : (w : Option ℕ) → leb (flag_of w) 1 ≡ true
flag_small None = refl
flag_small (Some x) = refl

kind_small : (r : Option Request) → leb (kind_of r) 2 ≡ true
kind_small None = refl
kind_small (Some (Read a)) = refl
kind_small (Some (Write a x)) = refl

all_true : {a b c d : Bool} → a ≡ true → b ≡ true → c ≡ true → d ≡ true → (a && (b && (c && d))) ≡ true
all_true p q r s = rw (p, q, r, s)

pub sound_back : (o : Outputs) → sound_out (port_words o) ≡ true
unfolding port_words
sound_back o = all_true (flag_small o.want) (kind_small o.request) (flag_small (stop_word o.stopped)) (le-leb (min o.done.count 4) 4 (omega arith))
