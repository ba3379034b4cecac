-- One core with a window of eight, run by computing: out of order, wrong branches put right when they are executed, loads asked for ahead.
use Rattle.std.specs.Prelude.{◌≡◌, ℕ, zero, suc, ◌+◌, ◌/◌, Bool, true, false, not, ◌&&◌, List, [], ◌∷◌, ◌++◌, length, ◌==◌, nat_le}
use Rattle.std.proofs.Math.Option.{Option as Opt, some, none}
use Rattle.isa.specs.Words.{pick, opt, add}
use Rattle.isa.specs.Manual.{Code}
use Rattle.isa.specs.declared.execute.Outcome.{Outcome}
use Rattle.isa.specs.declared.execute.Outcome.TheVariants.{Write as Writes, Jump as Jumps, Load as Loads, Store as Stores, Halt as Halts}
use Rattle.pins.specs.Ports.{In, Req, reads, writes1}
use Rattle.pins.specs.Outside.{Want, Wish, O, begin, after}
use Rattle.pins.specs.Cases.{words, program, sevens}
use Rattle.window.specs.declared.entry.Entry.{Entry}
use Rattle.window.specs.Entries.{given}
use Rattle.window.specs.Machine.{Core, next_pc, begun}
use Rattle.window.specs.Clocks.{Move, rest, reads_left, reads_right, executes, forwards, redirects, Port, leaves, loads, State, next, shown}
use Rattle.window.specs.Fairness.{has, load_open}
use Rattle.window.specs.OldestFirst.{Policy, oldest_first}

-- where it goes on, if that is known and not what was predicted
abbrev pub next_of : Entry → Outcome → Opt ℕ
next_of e (Writes r x b) = some b
next_of e (Jumps b) = some b
next_of e (Loads r b) = some (add e.pc 4)
next_of e (Stores b x) = some (add e.pc 4)
next_of e (Halts h) = none

abbrev pub differs : ℕ → Opt ℕ → Opt ℕ
differs g none = none
differs g (some b) = pick (b == g) none (some b)

abbrev pub wrong : Entry → Opt ℕ
wrong e = given e.outcome none (λ o. differs e.predicted (next_of e o))

-- the first wrong one from the n-th on
abbrev pub redirect_from : ℕ → List Entry → Move
redirect_from n [] = rest
redirect_from n (e ∷ es) = opt (wrong e) (redirect_from (suc n) es) (λ g. redirects n g)

-- a younger load that is known and not asked for
abbrev pub is_load_outcome : Outcome → Bool
is_load_outcome (Writes r x b) = false
is_load_outcome (Jumps b) = false
is_load_outcome (Loads r b) = true
is_load_outcome (Stores b x) = false
is_load_outcome (Halts h) = false

abbrev pub load_from : Core → ℕ → List Entry → Port
load_from k n [] = leaves
load_from k n (e ∷ es) = pick (given e.outcome false is_load_outcome && (not (has e.loaded) && not (load_open n k))) (loads n) (load_from k (suc n) es)

abbrev pub move_always : Move → Unit {0} → Core → Move × Unit {0}
move_always x t k = (x, t)

abbrev pub works_on : ℕ → List (Unit {0} → Core → Move × Unit {0})
works_on n = move_always (executes n) ∷ move_always (reads_left n) ∷ move_always (reads_right n) ∷ move_always (forwards n) ∷ []

abbrev pub eight : Policy (Unit {0})
eight = record {
  begin = tt;
  hears = λ i t k. t;
  others = (λ t k. (redirect_from 0 k.window, t)) ∷ (works_on 1 ++ (works_on 2 ++ (works_on 3 ++ works_on 4)));
  young = λ t k. (load_from k 0 k.window, t);
  size = 8;
  predicts = λ t k. (add (next_pc k) 4, t);
}

-- answers after n clocks
abbrev pub code_in : ℕ → Code → List Want → Opt ℕ
code_in n c [] = none
code_in n c (w ∷ ws) = pick (nat_le n w.age) (some (c (w.addr / 4))) none

abbrev pub word_for : O → Req → ℕ
word_for o (reads a) = o.mem (a / 4)
word_for o (writes1 a x) = 0

abbrev pub data_in : ℕ → O → List Wish → Opt ℕ
data_in n o [] = none
data_in n o (w ∷ ws) = pick (nat_le n w.age) (some (word_for o w.req)) none

-- how many are retired in t clocks
abbrev pub retired_in : ℕ → ℕ → Code → State (Bool × Unit {0}) → O → ℕ
retired_in zero n c z o = 0
retired_in (suc t) n c z o =
    let i : In = record { code = code_in n c o.codes; data1 = data_in n o o.datas } in
    length (shown (oldest_first eight) z i).rets + retired_in t n c (next (oldest_first eight) z i) (after o (record { in1 = i; out1 = shown (oldest_first eight) z i }))

abbrev pub eight_retires : ℕ → ℕ → Code → ℕ
eight_retires t n c = retired_in t n c (record { core = begun 0; tables = (false, tt) }) (begin sevens)

-- with answers in the next clock: sums that each need the one before, one a clock after the first; the program of the worked examples, to its end;
-- a branch to itself, which is predicted wrong each time
pub record EightRuns : Type 0 where
  pub sums : eight_retires 24 0 (λ n. 1213075) ≡ 21
  pub works : eight_retires 50 0 (words program) ≡ 18
  pub branch : eight_retires 32 0 (λ n. 99) ≡ 15
  -- with answers after seven clocks more
  pub late : eight_retires 40 7 (λ n. 1213075) ≡ 16
