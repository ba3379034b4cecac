-- Where the stages stand in the ring is where they stand in its list.
use Rattle.std.proofs.Common.{◌≡◌, ℕ, zero, suc, ◌+◌, ◌%◌, Bool, ◌||◌, List, [], ◌∷◌, map, get_or, take, refl, ap, ◌∙◌, arith}
use Rattle.std.specs.List.{list_any}
use Rattle.isa.specs.Words.{pick}
use Rattle.window.specs.declared.entry.Entry.{Entry}
use Rattle.window.specs.declared.entry.Tag.{Tag}
use Rattle.window.specs.declared.datapath.Datapath.{Datapath}
use Rattle.window.specs.Rings.{size, Window, no_entry, entry, around, listed, items}
use Rattle.window.specs.Queues.{Requests, queued, tags}
use Rattle.window.specs.Fairness.{is_load, any, load_open}
use Rattle.window.specs.Datapaths.{lists, SizedDatapath}
use Rattle.window.proofs.Circle.{slot_is}
use Rattle.pipeline.specs.declared.stages.Stage.TheVariants.{Read, Execute, Memory}
use Rattle.pipeline.specs.Stages.{asked, waits, lacks_operand, lacks_outcome, first_from, at_stage}
use Rattle.pipeline.specs.Schedule.{first_in, at_memory, at_execute, at_read}

first_around : (p : ℕ → Entry → Bool) (w : Window) (n r : ℕ) → first_from (λ i. p i (entry w i)) n r ≡ first_in p n (around size no_entry w.at (w.begin + n) r)
first_around p w n zero = refl
first_around p w n (suc r) =
    let e : entry w n ≡ get_or w.at ((w.begin + n) % size) no_entry = ap (λ i. get_or w.at i no_entry) (slot_is size w.begin n) in
    let s : w.begin + (n + 1) ≡ suc (w.begin + n) = omega arith in
    let q = first_around p w (n + 1) r ∙ ap (λ i. first_in p (n + 1) (around size no_entry w.at i r)) s in
    λ i. pick (p n (e i)) n (q i)

first_items : (p : ℕ → Entry → Bool) (w : Window) → first_from (λ i. p i (entry w i)) 0 w.count ≡ first_in p 0 (items w)
unfolding listed
first_items p w =
    let s : w.begin + 0 ≡ w.begin = omega arith in
    first_around p w 0 w.count ∙ ap (λ i. first_in p 0 (around size no_entry w.at i w.count)) s

-- what is asked for is open
any_mapped : (p : Tag → Bool) (ts : List Tag) → list_any p ts ≡ any (map p ts)
any_mapped p [] = refl
any_mapped p (t ∷ ts) = ap (λ b. p t || b) (any_mapped p ts)

asked_tags : (q : Requests) (n : ℕ) → asked q n ≡ any (map (is_load n) (tags q))
unfolding queued
asked_tags q n = any_mapped (is_load n) (take q.count q.at)

pub memory_at : (k : Datapath) → SizedDatapath k → at_stage Memory k ≡ at_memory (lists k)
memory_at k s =
    (λ j. first_from (λ n. waits (asked_tags k.requests n j) (entry k.window n)) 0 k.window.count)
    ∙ first_items (λ n e. waits (load_open n (lists k)) e) k.window

pub execute_at : (k : Datapath) → at_stage Execute k ≡ at_execute (lists k)
execute_at k = first_items (λ n e. lacks_outcome e) k.window

pub read_at : (k : Datapath) → at_stage Read k ≡ at_read (lists k)
read_at k = first_items (λ n e. lacks_operand e) k.window
