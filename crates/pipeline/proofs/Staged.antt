-- Each stage, on the datapath's arrays, is the machine's rule on the lists that they stand for.
use Rattle.std.proofs.Common.{◌≡◌, ℕ, [], Some, None, Option, refl, ap, ◌∙◌, subst}
use mathlib.Core.Option.{Option as Opt, some, none}
use Rattle.pins.specs.PortWords.{optional}
use Rattle.window.specs.declared.entry.Entry.{Entry}
use Rattle.window.specs.declared.datapath.Datapath.{Datapath}
use Rattle.window.specs.Entries.{given}
use Rattle.window.specs.Machine.{Core, learn, read_left, read_right, execute, forward, retire}
use Rattle.window.specs.Clocks.{rest, redirects, move, answer_code, answer_data}
use Rattle.window.specs.Rings.{entry_at}
use Rattle.window.specs.Datapaths.{lists, SizedDatapath, left_for, right_for, outcome_for, forward_for, ruled, redirected}
use Rattle.window.specs.Retiring.{retired}
use Rattle.window.proofs.DatapathList.{datapath_laws}
use Rattle.window.proofs.RetiringList.{retiring_laws}
use Rattle.window.proofs.RingList.{ring_laws}
use Rattle.pipeline.specs.declared.stages.Stage.TheVariants.{Read, Execute, Memory}
use Rattle.pipeline.specs.Stages.{at_stage, ask_of, ask_at}
use Rattle.pipeline.specs.Step.{code_in, data_in, memory_stage, memory_ask, mispredicted, redirect_by, executed, execute_stage, read_stage}
use Rattle.pipeline.specs.Schedule.{at_memory, at_execute, at_read, the_entry, redirect_move}
use Rattle.pipeline.proofs.AtStages.{memory_at, execute_at, read_at}

-- the datapath stands for the machine's state, and its counts are within its arrays
pub record Is (k : Datapath) (c : Core) : Type 0 where
  pub sized : SizedDatapath k
  pub lists : lists k ≡ c

-- answers
pub code_is : (k : Datapath) (c : Core) (x : Opt ℕ) → Is k c → Is (code_in k (optional x)) (answer_code x c)
code_is k c none s = s
code_is k c (some x) s = record {
  sized = datapath_laws.code_sized k x s.sized;
  lists = datapath_laws.take_code k x s.sized ∙ ap (λ c. answer_code (some x) c) s.lists;
}

pub data_is : (k : Datapath) (c : Core) (x : Opt ℕ) → Is k c → Is (data_in k (optional x)) (answer_data x c)
data_is k c none s = s
data_is k c (some x) s = record {
  sized = datapath_laws.data_sized k x s.sized;
  lists = datapath_laws.take_data k x s.sized ∙ ap (λ c. answer_data (some x) c) s.lists;
}

-- writing
pub retire_is : (k : Datapath) (c : Core) → Is k c → Is (retired k) (retire c).core
retire_is k c s = record { sized = retiring_laws.retire_sized k s.sized; lists = retiring_laws.retires k s.sized ∙ ap (λ c. (retire c).core) s.lists }

-- memory
pub memory_is : (k : Datapath) (c : Core) → Is k c → Is (memory_stage k) (learn forward (at_memory c) c)
memory_is k c s = record {
  sized = datapath_laws.ruled_sized forward_for k (at_stage Memory k) s.sized;
  lists = datapath_laws.forward k (at_stage Memory k) s.sized ∙ ap (λ n. learn forward n (lists k)) (memory_at k s.sized) ∙ ap (λ c. learn forward (at_memory c) c) s.lists;
}

entry_is : (k : Datapath) (c : Core) (n : ℕ) → Is k c → entry_at k.window n ≡ the_entry c n
entry_is k c n s = ring_laws.list.get k.window n ∙ ap (λ (c : Core). the_entry c n) s.lists

pub ask_is : (k : Datapath) (c : Core) → Is k c → memory_ask k ≡ ask_of (at_memory c) (the_entry (learn forward (at_memory c) c) (at_memory c))
ask_is k c s =
    let m : at_stage Memory k ≡ at_memory c = memory_at k s.sized ∙ ap at_memory s.lists in
    ap (ask_at (memory_stage k)) m ∙ ap (ask_of (at_memory c)) (entry_is (memory_stage k) (learn forward (at_memory c) c) (at_memory c) (memory_is k c s))

-- executing
executed_is : (k : Datapath) (c : Core) → Is k c → Is (executed k (at_stage Execute k)) (learn execute (at_execute c) c)
executed_is k c s = record {
  sized = datapath_laws.ruled_sized (λ _ _ e. outcome_for e) k (at_stage Execute k) s.sized;
  lists = datapath_laws.execute k (at_stage Execute k) s.sized ∙ ap (λ n. learn execute n (lists k)) (execute_at k) ∙ ap (λ c. learn execute (at_execute c) c) s.lists;
}

redirect_is : (k : Datapath) (c : Core) (n : ℕ) → Is k c → Is (redirect_by k n) (move (redirect_move c n) c).core
redirect_is k c n s = subst (λ o. Is (redirect_by k n) (move (given o rest (λ e. given (mispredicted e) rest (redirects n))) c).core) (entry_is k c n s) (by (entry_at k.window n))
  where
    to : (o : Option ℕ) → Is (given o k (redirected k n)) (move (given o rest (redirects n)) c).core
    to None = s
    to (Some g) = record { sized = datapath_laws.redirect_sized k n g s.sized; lists = datapath_laws.redirect k n g s.sized ∙ ap (λ c. (move (redirects n g) c).core) s.lists }

    by : (o : Option Entry)
        → Is (given o k (λ e. given (mispredicted e) k (redirected k n))) (move (given o rest (λ e. given (mispredicted e) rest (redirects n))) c).core
    by None = s
    by (Some e) = to (mispredicted e)

pub redirect_rets : (c : Core) (n : ℕ) → (move (redirect_move c n) c).rets ≡ []
redirect_rets c n = by (the_entry c n)
  where
    to : (o : Option ℕ) → (move (given o rest (redirects n)) c).rets ≡ []
    to None = refl
    to (Some g) = refl

    by : (o : Option Entry) → (move (given o rest (λ e. given (mispredicted e) rest (redirects n))) c).rets ≡ []
    by None = refl
    by (Some e) = to (mispredicted e)

pub execute_is : (k : Datapath) (c : Core) → Is k c
    → Is (execute_stage k) (move (redirect_move (learn execute (at_execute c) c) (at_execute c)) (learn execute (at_execute c) c)).core
execute_is k c s =
    let n : at_stage Execute k ≡ at_execute c = execute_at k ∙ ap at_execute s.lists in
    let j = learn execute (at_execute c) c in
    subst (λ m. Is (execute_stage k) (move (redirect_move j m) j).core) n (redirect_is (executed k (at_stage Execute k)) j (at_stage Execute k) (executed_is k c s))

-- reading registers
pub read_is : (k : Datapath) (c : Core) → Is k c → Is (read_stage k) (learn read_right (at_read c) (learn read_left (at_read c) c))
read_is k c s =
    let n = at_stage Read k in
    let m : n ≡ at_read c = read_at k ∙ ap at_read s.lists in
    let l = ruled left_for k n in
    let sl = datapath_laws.ruled_sized left_for k n s.sized in
    record {
      sized = datapath_laws.ruled_sized right_for l n sl;
      lists = datapath_laws.read_right l n sl
          ∙ ap (learn read_right n) (datapath_laws.read_left k n s.sized)
          ∙ (λ j. learn read_right (m j) (learn read_left (m j) (s.lists j)));
    }
