-- A register's newest value is the manual's.
use Rattle.std.proofs.Common.{◌≡◌, ℕ, ◌/◌, ◌<◌, Bool, true, false, eqb, List, [], ◌∷◌, length, take, Some, None, Option, sym, refl, ap, ◌∙◌, subst, arith}
use Rattle.isa.specs.Words.{pick, put}
use Rattle.isa.specs.Manual.{Code, Mem, S, Ret, Ev, Next, goes, stops, step, asked, wrote, after1, device}
use Rattle.isa.specs.Registers.{value_in}
use Rattle.isa.specs.Executing.{enact}
use Rattle.isa.specs.declared.reg.Reg.{Reg}
use Rattle.isa.specs.declared.execute.Outcome.{Outcome}
use Rattle.isa.specs.declared.execute.Outcome.TheVariants.{Write as Writes, Jump as Jumps, Load as Loads, Store as Stores, Halt as Halts}
use Rattle.isa.proofs.Lists.{value_put}
use Rattle.isa.proofs.StepByTrace.{put_length}
use Rattle.window.specs.declared.entry.Entry.{Entry}
use Rattle.window.specs.Entries.{given}
use Rattle.window.specs.Operands.{written_register, work_with, code_at, left_of, right_of, plan}
use Rattle.window.specs.Newest.{sweep, after_outcome, after_word, over_register, newest}
use Rattle.window.proofs.Outcomes.{step_plan, plan_with, work_cases}
use Rattle.window.proofs.Lines.{Known, Loaded, Agrees, Line, Reaches, predictions, sweep_at}

-- the meaning of what is known of register r at a state
pub record RegisterIs (r : ℕ) (k : Option ℕ) (s : S) : Type 0 where
  pub size : length s.regs ≡ 32
  pub is : Known k (value_in s.regs r)

module _ (r : ℕ) (nz : eqb r 0 ≡ false) (low : r < 32) where
  -- what a step leaves, if it goes on
  abbrev Leaves : Option ℕ → Next → Type 0
  Leaves k (goes u t fs) = RegisterIs r k u
  Leaves k (stops j) = Unit {0}

  value_after : (gs : List ℕ) (d x : ℕ) → d < length gs → value_in (put gs d x) r ≡ pick (eqb d r) x (value_in gs r)
  value_after gs d x h = value_put gs d x r h ∙ ap (λ b. pick b 0 (pick (eqb d r) x (value_in gs r))) nz

  -- register d gets x
  put_is : (s : S) (d : Reg) (x : ℕ) (got k : Option ℕ) → Known got x → RegisterIs r k s → (p : ℕ) (m : Mem) (zs : List ℕ)
      → RegisterIs r (pick (eqb d.number r) got k) (record { regs = put s.regs d.number x; pc = p; mem = m; answers = zs })
  put_is s d x got k g h p m zs = record {
    size = put_length s.regs d.number x ∙ h.size;
    is = subst (Known (pick (eqb d.number r) got k)) (sym (value_after s.regs d.number x (rw h.size d.low))) (by (eqb d.number r));
  }
    where
      by : (b : Bool) → Known (pick b got k) (pick b x (value_in s.regs r))
      by true = g
      by false = h.is

  asked_is : (s : S) (d : Reg) (a : ℕ) (k : Option ℕ) (zs : List ℕ) → RegisterIs r k s → Leaves (pick (eqb d.number r) None k) (asked s d.number a zs)
  asked_is s d a k [] h = tt
  asked_is s d a k (x ∷ zs) h = put_is s d x None k tt h _ _ _

  load_is : (s : S) (d : Reg) (a : ℕ) (got k : Option ℕ) (b : Bool) → device a ≡ b → Loaded got s a → RegisterIs r k s
      → Leaves (pick (eqb d.number r) got k) (pick b (asked s d.number a s.answers) (wrote s d.number (s.mem (a / 4)) (after1 s)))
  load_is s d a None k true e g h = asked_is s d a k s.answers h
  load_is s d a (Some x) k true e g h = absurd (let z : true ≡ false = sym e ∙ g.0 in let y : ◌≡◌ {A = ℕ} 0 1 = cc in omega arith)
  load_is s d a None k false e g h = put_is s d (s.mem (a / 4)) None k tt h _ _ _
  load_is s d a (Some x) k false e g h = put_is s d (s.mem (a / 4)) (Some x) k g.1 h _ _ _

  enact_is : (s : S) (got k : Option ℕ) (o : Outcome) → ((d : Reg) (a : ℕ) → o ≡ Loads d a → Loaded got s a) → RegisterIs r k s
      → Leaves (after_outcome r got k o) (enact s o)
  enact_is s got k (Writes d x a) g h = put_is s d x (Some x) k refl h _ _ _
  enact_is s got k (Jumps a) g h = record { size = h.size; is = h.is }
  enact_is s got k (Loads d a) g h = load_is s d a got k (device a) refl (g d a refl) h
  enact_is s got k (Stores a x) g h = record { size = h.size; is = h.is }
  enact_is s got k (Halts j) g h = tt

  -- less is known
  forget : (k : Option ℕ) (n : Next) → Leaves k n → Leaves None n
  forget k (goes u t fs) h = record { size = h.size; is = tt }
  forget k (stops j) h = tt

  forget_if : (b : Bool) (k j : Option ℕ) (n : Next) → (b ≡ true → Leaves j n) → (b ≡ false → Leaves k n) → Leaves (pick b None k) n
  forget_if true k j n g h = forget j n (g refl)
  forget_if false k j n g h = h refl

  word_is : (s : S) (k : Option ℕ) (w p x y : ℕ) → RegisterIs r k s → Leaves (pick (eqb (written_register w) r) None k) (enact s (work_with p w x y))
  word_is s k w p x y h =
      work_cases w (λ o. Leaves (pick (eqb (written_register w) r) None k) (enact s o))
      (λ d z a e. by d e (enact s (Writes d z a)) (some_of z) (enact_is s None k (Writes d z a) (λ _ _ _. tt) h))
      (λ a. keep (enact s (Jumps a)) (enact_is s None k (Jumps a) (λ _ _ _. tt) h))
      (λ d a e. by d e (enact s (Loads d a)) None (enact_is s None k (Loads d a) (λ _ _ _. tt) h))
      (λ a z e. keep (enact s (Stores a z)) (enact_is s None k (Stores a z) (λ _ _ _. tt) h))
      (λ j. tt) p x y
    where
      some_of : ℕ → Option ℕ
      some_of z = Some z

      keep : (n : Next) → Leaves k n → Leaves (pick (eqb (written_register w) r) None k) n
      keep n g = forget_if (eqb (written_register w) r) k k n (λ _. g) (λ _. g)

      by : (d : Reg) → d.number ≡ written_register w → (n : Next) (j : Option ℕ) → Leaves (pick (eqb d.number r) j k) n
          → Leaves (pick (eqb (written_register w) r) None k) n
      by d e n j g =
          let f = subst (λ z. Leaves (pick (eqb z r) j k) n) e g in
          forget_if (eqb (written_register w) r) k j n (λ q. subst (λ b. Leaves (pick b j k) n) q f) (λ q. subst (λ b. Leaves (pick b j k) n) q f)

  pub register_sound : (c : Code) (s : S) (e : Entry) (k : Option ℕ) (u : S) (t : Ret) (fs : List Ev) → Agrees c s e → step c s ≡ goes u t fs
      → RegisterIs r k s → RegisterIs r (over_register r e k) u
  register_sound c s e k u t fs f q h =
      subst (Leaves (over_register r e k)) (sym (step_plan c s) ∙ q) (by e.outcome e.word f.outcome f.word)
    where
      at_word : Leaves (pick (eqb (written_register (code_at c s)) r) None k) (enact s (plan c s))
      at_word =
          subst (λ o. Leaves (pick (eqb (written_register (code_at c s)) r) None k) (enact s o)) (plan_with c s)
          (word_is s k (code_at c s) s.pc (left_of c s) (right_of c s) h)

      by : (o : Option Outcome) (w : Option ℕ) → Known o (plan c s) → Known w (code_at c s)
          → Leaves (given o (after_word r k w) (after_outcome r e.loaded k)) (enact s (plan c s))
      by (Some o) w x y =
          subst (λ z. Leaves (after_outcome r e.loaded k z) (enact s (plan c s))) (sym x) (enact_is s e.loaded k (plan c s) (λ d a g. f.loaded d a g) h)
      by None None x y = forget _ (enact s (plan c s)) at_word
      by None (Some w) x y = subst (λ z. Leaves (pick (eqb (written_register z) r) None k) (enact s (plan c s))) (sym y) at_word

pub newest_right : (c : Code) (s v : S) (es : List Entry) (n r : ℕ) → length s.regs ≡ 32 → r < 32 → Line c s es
    → Reaches c s (take n (predictions es)) v → Known (newest s.regs es n r) (value_in v.regs r)
newest_right c s v es n r size low l w = by (eqb r 0) refl
  where
    by : (b : Bool) → eqb r 0 ≡ b → Known (pick b (Some 0) (sweep (over_register r) (Some (value_in s.regs r)) (take n es))) (value_in v.regs r)
    by true e = rw e
    by false e =
        (sweep_at c (Option ℕ) (RegisterIs r) (over_register r) (register_sound r e low c) s v es n (Some (value_in s.regs r)) l w
        (record { size = size; is = refl })).is
