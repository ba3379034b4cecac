-- The core's count of instructions is the count of those that are done.
use Rattle.std.proofs.Common.{◌≡◌, ℕ, ◌+◌, ◌%◌, List, [], ◌∷◌, ◌++◌, length, sym, ap, ◌∙◌, arith, length-append}
use Rattle.isa.specs.Manual.{Ret}
use Rattle.pins.specs.Ports.{In}
use Rattle.pins.specs.PortWords.{inputs_of, shown, done_list}
use Rattle.pins.specs.View.{View, take_in, add_out, rets_then}
use Rattle.first.specs.declared.state.Core.{Core}
use Rattle.first.specs.declared.state.Action.{Action}
use Rattle.first.specs.declared.state.Action.TheVariants.{Wait, Halt, Write, Jump, Push, Ask}
use Rattle.first.specs.WorkRules.{action, act, effect}
use Rattle.first.specs.Step.{answered, next, outputs}

rets_length : (ts rs : List Ret) → length (rets_then ts rs) ≡ length rs + length ts
rets_length [] rs = omega arith
rets_length (t ∷ ts) rs = let e = rets_length ts (rs ++ (t ∷ [])) in omega (arith, length-append rs (t ∷ []))

act_counts : (k : Core) (x : Action) (n : ℕ) → k.number.0 ≡ n % 4294967296 → (act k x).number.0 ≡ (n + length (done_list (effect k x).done)) % 4294967296
act_counts k Wait n e = omega arith
act_counts k (Halt s) n e = omega arith
act_counts k (Write r x a) n e = omega arith
act_counts k (Jump a) n e = omega arith
act_counts k (Push s) n e = omega arith
act_counts k (Ask a) n e = omega arith

pub next_counts : (k : Core) (i : In) (v : View) → k.number.0 ≡ length v.rets % 4294967296
    → (next k (inputs_of i)).number.0 ≡ length (add_out (shown (outputs k (inputs_of i))) (take_in i v)).rets % 4294967296
unfolding next outputs
next_counts k i v e =
    let j = answered k (inputs_of i).answer in
    act_counts j (action j) (length v.rets) e ∙ ap (λ n. n % 4294967296) (sym (rets_length (done_list (effect j (action j)).done) v.rets))
