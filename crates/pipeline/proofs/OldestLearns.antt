-- The oldest instruction in the stages that execute and read registers: with its word it learns something in each clock.
use Rattle.std.proofs.Common.{◌≡◌, ℕ, ◌<◌, Bool, true, cond, ◌||◌, eqb, List, [], ◌∷◌, Some, None, Option, sym, refl, ap, ◌∙◌, arith}
use Rattle.isa.specs.Words.{pick, nth}
use Rattle.pins.specs.PortWords.{optional}
use Rattle.window.specs.declared.entry.Entry.{Entry}
use Rattle.window.specs.Entries.{given, with_outcome}
use Rattle.window.specs.Operands.{work_with}
use Rattle.window.specs.Machine.{Core, learn, read_left, read_right, executed, execute}
use Rattle.window.specs.Clocks.{Move, rest, reads_left, reads_right, executes, redirects, move}
use Rattle.window.specs.Fairness.{has}
use Rattle.window.proofs.Cases.{clash, some_not_none, given_cases}
use Rattle.window.proofs.Onward.{grows_same, Onward, onward_then, move_onward, head_more}
use Rattle.window.proofs.OldestReady.{needs, needs_less, three, gains, learn_oldest, learn_nothing}
use Rattle.pipeline.specs.Stages as stages
use Rattle.pipeline.specs.Stages.{lacks_operand, lacks_outcome}
use Rattle.pipeline.specs.Step.{next_after, mispredicted}
use Rattle.pipeline.specs.Schedule.{first_in, at_execute, at_read, the_entry, redirect_move}

-- a stage stands at the oldest, if that has to pass it
pub at_oldest : (p : ℕ → Entry → Bool) (es : List Entry) (e : Entry) (xs : List Entry) → es ≡ e ∷ xs → p 0 e ≡ true → first_in p 0 es ≡ 0
at_oldest p es e xs we h = ap (first_in p 0) we ∙ ap (λ b. pick b 0 (first_in p 1 xs)) h

-- executed; where its prediction was wrong, put right; registers read
abbrev execute_stage : Core → Core
execute_stage k = learn execute (at_execute k) k

abbrev redirect_stage : Core → Core
redirect_stage k = (move (redirect_move (execute_stage k) (at_execute k)) (execute_stage k)).core

abbrev read_at : Core → ℕ → Core
read_at k n = learn read_right n (learn read_left n k)

abbrev read_stage : Core → Core
read_stage k = read_at k (at_read k)

abbrev pub stages_on : Core → Core
stages_on k = read_stage (redirect_stage k)

-- a redirect retires nothing
redirect_quiet : (k : Core) (n : ℕ) → (move (redirect_move k n) k).rets ≡ []
redirect_quiet k n =
    given_cases (λ (x : Move). (move x k).rets ≡ []) (the_entry k n) (λ _. refl)
    (λ e _. given_cases (λ (x : Move). (move x k).rets ≡ []) (mispredicted e) (λ _. refl) (λ g _. refl))

read_onward : (k : Core) → Onward k (read_stage k)
read_onward k =
    let j = learn read_left (at_read k) k in
    onward_then k j (read_stage k) (move_onward (reads_left (at_read k)) k refl) (move_onward (reads_right (at_read k)) j refl)

-- from the execute stage on
executed_onward : (k : Core) → Onward (execute_stage k) (stages_on k)
executed_onward k =
    let j = execute_stage k in
    onward_then j (redirect_stage k) (stages_on k) (move_onward (redirect_move j (at_execute k)) j (redirect_quiet j (at_execute k))) (read_onward (redirect_stage k))

pub stages_onward : (k : Core) → Onward k (stages_on k)
stages_onward k = onward_then k (execute_stage k) (stages_on k) (move_onward (executes (at_execute k)) k refl) (executed_onward k)

module _ (k : Core) (e : Entry) (es : List Entry) (we : k.window ≡ e ∷ es) (eo : e.outcome ≡ None) where
  executes_oldest : at_execute k ≡ 0
  executes_oldest = at_oldest (λ n e. lacks_outcome e) k.window e es we (ap stages.none eo)

  execute_is : {o : Option Entry} → executed e ≡ o → execute k 0 e ≡ o
  execute_is q = ap (λ o. given o (executed e) (λ _. None)) eo ∙ q

  -- without its outcome it is not redirected
  no_redirect : redirect_move k 0 ≡ rest
  no_redirect =
      ap (λ (w : List Entry). given (optional (nth w 0)) rest (λ e. given (mispredicted e) rest (redirects 0))) we
      ∙ ap (λ o. given (given o None (λ o. given (next_after e o) None (λ b. cond (eqb b e.predicted) None (Some b)))) rest (redirects 0)) eo

  -- without an operand it is not executed, and reads
  reads_operands : lacks_operand e ≡ true → executed e ≡ None → three k ≡ stages_on k
  reads_operands lo q =
      let same : learn execute 0 k ≡ k = learn_nothing execute k e es we (execute_is q) in
      let stays : redirect_stage k ≡ k =
      ap (λ n. (move (redirect_move (learn execute n k) n) (learn execute n k)).core) executes_oldest
      ∙ ap (λ j. (move (redirect_move j 0) j).core) same ∙ ap (λ m. (move m k).core) no_redirect in
      let at : at_read k ≡ 0 = at_oldest (λ n e. lacks_operand e) k.window e es we lo in
      ap (λ j. read_at j 0) same ∙ sym (ap (read_at k) at) ∙ sym (ap read_stage stays)

  -- with its word, it has its outcome after these stages or less to learn
  pub learns : has e.word ≡ true → (d : Entry) (ds : List Entry) → (stages_on k).window ≡ d ∷ ds → d.outcome ≡ None → needs d < needs e
  learns hw d ds wd od = by e.word refl hw e.left refl e.right refl
    where
      reads : lacks_operand e ≡ true → executed e ≡ None → needs d < needs e
      reads lo q =
          let g = gains k e es we hw eo in
          let w3 = ap (λ (j : Core). j.window) (reads_operands lo q) ∙ wd in
          let n1 = needs_less g.head d (head_more (three k).window (three k).window g.head d g.tail ds g.window w3 (grows_same (three k).window)) in
          let n2 = g.less in
          omega arith

      by : (w : Option ℕ) → e.word ≡ w → has w ≡ true → (l : Option ℕ) → e.left ≡ l → (r : Option ℕ) → e.right ≡ r → needs d < needs e
      by None ew h l el r er = clash h refl
      by (Some w) ew h (Some x) el (Some y) er =
          let o = work_with e.pc w x y in
          let q : executed e ≡ Some (with_outcome e o) = λ i. given (ew i) None (λ w. given (el i) None (λ x. given (er i) None (λ y. Some (with_outcome e (work_with e.pc w x y))))) in
          let wx : (execute_stage k).window ≡ with_outcome e o ∷ es =
          ap (λ n. (learn execute n k).window) executes_oldest ∙ learn_oldest execute k e es (with_outcome e o) we (execute_is q) in
          some_not_none ((head_more (execute_stage k).window (stages_on k).window (with_outcome e o) d es ds wx wd (executed_onward k).window).outcome o refl) od
      by (Some w) ew h None el r er =
          reads (ap (λ o. stages.none o || stages.none e.right) el)
          (λ i. given (ew i) None (λ w. given (el i) None (λ x. given e.right None (λ y. Some (with_outcome e (work_with e.pc w x y))))))
      by (Some w) ew h (Some x) el None er =
          reads (λ i. stages.none (el i) || stages.none (er i))
          (λ i. given (ew i) None (λ w. given (el i) None (λ x. given (er i) None (λ y. Some (with_outcome e (work_with e.pc w x y))))))
