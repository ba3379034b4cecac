-- Where a load finds its word is where the manual's memory has it from.
use Rattle.std.proofs.Common.{◌≡◌, ℕ, ◌/◌, Bool, true, false, eqb, List, [], ◌∷◌, take, Some, None, Option, sym, refl, ◌∙◌, subst}
use Rattle.isa.specs.Words.{pick}
use Rattle.isa.specs.Manual.{Code, Mem, S, Ret, Ev, writes, Next, goes, stops, step, asked, wrote, after1, device}
use Rattle.isa.specs.Executing.{enact}
use Rattle.isa.specs.declared.reg.Reg.{Reg}
use Rattle.isa.specs.declared.execute.Outcome.{Outcome}
use Rattle.isa.specs.declared.execute.Outcome.TheVariants.{Write as Writes, Jump as Jumps, Load as Loads, Store as Stores, Halt as Halts}
use Rattle.pins.specs.Ports.{writes1}
use Rattle.pins.specs.Outside.{mem_by}
use Rattle.window.specs.declared.entry.Entry.{Entry}
use Rattle.pins.specs.declared.held.Store.{Store}
use Rattle.window.specs.declared.entry.Source.{Source}
use Rattle.window.specs.declared.entry.Source.TheVariants.{Unknown, Memory, Forwarded}
use Rattle.window.specs.Entries.{given}
use Rattle.window.specs.Operands.{may_store, work_with, code_at, left_of, right_of, plan}
use Rattle.window.specs.Newest.{by_store, source_outcome, source_word, over_memory, row_source, source}
use Rattle.window.proofs.Outcomes.{step_plan, plan_with, work_cases}
use Rattle.window.proofs.Lines.{Known, Agrees, Line, Reaches, predictions, sweep_at}

-- f is what memory will hold there when all that was requested is done, m what the manual has
abbrev pub Is : ℕ → Source → ℕ → Type 0
Is f Unknown m = Unit {0}
Is f Memory m = f ≡ m
Is f (Forwarded x) m = x ≡ m

by_store_is : (f n a x : ℕ) (k : Source) (m : Mem) → Is f k (m n) → Is f (by_store n a x k) (mem_by m (writes1 a x) n)
by_store_is f n a x k m h = by (device a) (eqb (a / 4) n) refl
  where
    by : (b d : Bool) → eqb (a / 4) n ≡ d → Is f (pick b k (pick d (Forwarded x) k)) (pick b m (λ j. pick (eqb (a / 4) j) x (m j)) n)
    by true d e = h
    by false true e = rw e
    by false false e = rw e h

module _ (f n : ℕ) where
  -- what a step leaves, if it goes on
  abbrev Leaves : Source → Next → Type 0
  Leaves k (goes u t fs) = Is f k (u.mem n)
  Leaves k (stops j) = Unit {0}

  load_leaves : (s : S) (d : Reg) (a : ℕ) (k : Source) (b : Bool) → Is f k (s.mem n)
      → Leaves k (pick b (asked s d.number a s.answers) (wrote s d.number (s.mem (a / 4)) (after1 s)))
  load_leaves s d a k false h = h
  load_leaves s d a k true h = by s.answers
    where
      by : (zs : List ℕ) → Leaves k (asked s d.number a zs)
      by [] = tt
      by (x ∷ zs) = h

  enact_leaves : (s : S) (k : Source) (o : Outcome) → Is f k (s.mem n) → Leaves (source_outcome n k o) (enact s o)
  enact_leaves s k (Writes d x a) h = h
  enact_leaves s k (Jumps a) h = h
  enact_leaves s k (Loads d a) h = load_leaves s d a k (device a) h
  enact_leaves s k (Stores a x) h = by_store_is f n a x k s.mem h
  enact_leaves s k (Halts j) h = tt

  unknown : (n : Next) → Leaves Unknown n
  unknown (goes u t fs) = tt
  unknown (stops j) = tt

  unless : (b : Bool) (k : Source) (n : Next) → (b ≡ false → Leaves k n) → Leaves (pick b Unknown k) n
  unless true k n h = unknown n
  unless false k n h = h refl

  word_leaves : (s : S) (k : Source) (w p x y : ℕ) → Is f k (s.mem n) → Leaves (pick (may_store w) Unknown k) (enact s (work_with p w x y))
  word_leaves s k w p x y h =
      work_cases w (λ o. Leaves (pick (may_store w) Unknown k) (enact s o))
      (λ d z a _. unless (may_store w) k (enact s (Writes d z a)) (λ _. h))
      (λ a. unless (may_store w) k (enact s (Jumps a)) (λ _. h))
      (λ d a _. unless (may_store w) k (enact s (Loads d a)) (λ _. load_leaves s d a k (device a) h))
      (λ a z e. rw e tt)
      (λ j. tt) p x y

  pub source_sound : (c : Code) (s : S) (e : Entry) (k : Source) (u : S) (t : Ret) (fs : List Ev) → Agrees c s e → step c s ≡ goes u t fs
      → Is f k (s.mem n) → Is f (over_memory n e k) (u.mem n)
  source_sound c s e k u t fs g q h =
      subst (Leaves (over_memory n e k)) (sym (step_plan c s) ∙ q) (by e.outcome e.word g.outcome g.word)
    where
      at_word : Leaves (pick (may_store (code_at c s)) Unknown k) (enact s (plan c s))
      at_word =
          subst (λ o. Leaves (pick (may_store (code_at c s)) Unknown k) (enact s o)) (plan_with c s)
          (word_leaves s k (code_at c s) s.pc (left_of c s) (right_of c s) h)

      by : (o : Option Outcome) (w : Option ℕ) → Known o (plan c s) → Known w (code_at c s)
          → Leaves (given o (source_word k w) (source_outcome n k)) (enact s (plan c s))
      by (Some o) w x y = subst (λ z. Leaves (source_outcome n k z) (enact s (plan c s))) (sym x) (enact_leaves s k (plan c s) h)
      by None None x y = unknown (enact s (plan c s))
      by None (Some w) x y = subst (λ z. Leaves (pick (may_store z) Unknown k) (enact s (plan c s))) (sym y) at_word

-- memory with the waiting stores done; and what they do
abbrev pub with_stores : Mem → List Store → Mem
with_stores m [] = m
with_stores m (p ∷ ps) = with_stores (mem_by m (writes1 p.address p.value)) ps

abbrev pub store_evs : List Store → List Ev
store_evs [] = []
store_evs (p ∷ ps) = writes p.address p.value ∷ store_evs ps

row_is : (f n : ℕ) (k : Source) (m : Mem) (ps : List Store) → Is f k (m n) → Is f (row_source n k ps) (with_stores m ps n)
row_is f n k m [] h = h
row_is f n k m (p ∷ ps) h =
    row_is f n (by_store n p.address p.value k) (mem_by m (writes1 p.address p.value)) ps (by_store_is f n p.address p.value k m h)

pub source_right : (c : Code) (fl : Mem) (ps : List Store) (s v : S) (es : List Entry) (k n : ℕ) → with_stores fl ps ≡ s.mem → Line c s es
    → Reaches c s (take k (predictions es)) v → Is (fl n) (source ps es k n) (v.mem n)
source_right c fl ps s v es k n e l w =
    sweep_at c Source (λ q z. Is (fl n) q (z.mem n)) (over_memory n) (source_sound (fl n) n c) s v es k (row_source n Memory ps) l w
    (subst (λ (z : Mem). Is (fl n) (row_source n Memory ps) (z n)) e (row_is (fl n) n Memory fl ps refl))
