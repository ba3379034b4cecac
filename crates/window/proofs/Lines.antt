-- The instructions at work beside the manual's states: each thing known of one is what the manual has there, if no older prediction was wrong.
use Rattle.std.proofs.Common.{◌≡◌, ℕ, zero, suc, ◌/◌, false, List, [], ◌∷◌, ◌++◌, take, Some, None, Option, sym, refl, ap, ◌∙◌, subst}
use mathlib.Core.Option.{some}
use Rattle.isa.specs.Words.{nth, put}
use Rattle.isa.specs.Manual.{Code, S, Ret, Ev, device, goes, step}
use Rattle.isa.specs.declared.reg.Reg.{Reg}
use Rattle.isa.specs.declared.execute.Outcome.TheVariants.{Load as Loads}
use Rattle.window.specs.declared.entry.Entry.{Entry}
use Rattle.window.specs.Operands.{code_at, left_of, right_of, plan}
use Rattle.window.specs.Newest.{sweep}
use Rattle.window.proofs.Cases.{some_none}

-- if it is known, it is that
abbrev pub Known : {A : Type 0} → Option A → A → Type 0
Known None a = Unit {0}
Known (Some b) a = b ≡ a

pub known : {A : Type 0} {o : Option A} {x a : A} → Known o a → o ≡ Some x → x ≡ a
known {A} {o} {x} {a} h e = subst (λ z. Known z a) e h

-- a word that is there for a load of a is the manual's, and no device's
abbrev pub Loaded : Option ℕ → S → ℕ → Type 0
Loaded None s a = Unit {0}
Loaded (Some x) s a = (device a ≡ false) × (x ≡ s.mem (a / 4))

-- what is known of an entry is what the manual has at that state; nothing of it speaks of the devices' answers
pub record Agrees (c : Code) (s : S) (e : Entry) : Type 0 where
  pub here : e.pc ≡ s.pc
  pub word : Known e.word (code_at c s)
  pub left : Known e.left (left_of c s)
  pub right : Known e.right (right_of c s)
  pub outcome : Known e.outcome (plan c s)
  pub loaded : (d : Reg) (a : ℕ) → plan c s ≡ Loads d a → Loaded e.loaded s a

-- if no prediction was wrong, each entry is the manual's
unfoldable pub Line : Code → S → List Entry → Type 0
Line c s [] = Unit {0}
Line c s (e ∷ es) = Agrees c s e × ((u : S) (t : Ret) (fs : List Ev) → step c s ≡ goes u t fs → u.pc ≡ e.predicted → Line c u es)

-- where the manual comes with these predictions, if none was wrong
unfoldable pub Reaches : Code → S → List ℕ → S → Type 0
Reaches c s [] v = s ≡ v
Reaches c s (g ∷ gs) v = (u : S) × (t : Ret) × (fs : List Ev) × (step c s ≡ goes u t fs) × (u.pc ≡ g) × Reaches c u gs v

abbrev pub predictions : List Entry → List ℕ
predictions [] = []
predictions (e ∷ es) = e.predicted ∷ predictions es

pub predictions_take : (n : ℕ) (es : List Entry) → predictions (take n es) ≡ take n (predictions es)
predictions_take zero es = refl
predictions_take (suc n) [] = refl
predictions_take (suc n) (e ∷ es) = ap (λ z. e.predicted ∷ z) (predictions_take n es)

pub line_nil : (c : Code) (s : S) → Line c s []
unfolding Line
line_nil c s = tt

-- all younger than the first n flushed
pub line_take : (c : Code) (n : ℕ) (s : S) (es : List Entry) → Line c s es → Line c s (take n es)
unfolding Line
line_take c zero s es l = tt
line_take c (suc n) s [] l = tt
line_take c (suc n) s (e ∷ es) l = (l.0, λ u t fs q r. line_take c n u es (l.1 u t fs q r))

-- the oldest is retired, and its prediction was right
pub line_tail : (c : Code) (s u : S) (t : Ret) (fs : List Ev) (e : Entry) (es : List Entry) → Line c s (e ∷ es)
    → step c s ≡ goes u t fs → u.pc ≡ e.predicted → Line c u es
unfolding Line
line_tail c s u t fs e es l q r = l.1 u t fs q r

pub line_head : (c : Code) (s : S) (e : Entry) (es : List Entry) → Line c s (e ∷ es) → Agrees c s e
unfolding Line
line_head c s e es l = l.0

-- one more at the end
pub line_push : (c : Code) (s : S) (es : List Entry) (e : Entry) → Line c s es → ((v : S) → Reaches c s (predictions es) v → Agrees c v e)
    → Line c s (es ++ (e ∷ []))
unfolding Line Reaches
line_push c s [] e l f = (f s refl, λ u t fs q r. tt)
line_push c s (d ∷ es) e l f = (l.0, λ u t fs q r. line_push c u es e (l.1 u t fs q r) (λ v w. f v (u, t, fs, q, r, w)))

-- the n-th, where the manual comes to it
pub line_at : (c : Code) (s : S) (es : List Entry) (n : ℕ) (e : Entry) (v : S) → nth es n ≡ some e → Line c s es
    → Reaches c s (take n (predictions es)) v → Agrees c v e
unfolding Line Reaches
line_at c s [] n e v at l w = some_none at refl
line_at c s (x ∷ xs) zero e v at l w = let same : x ≡ e = cc in subst (λ y. Agrees c v y) same (subst (λ z. Agrees c z x) w l.0)
line_at c s (x ∷ xs) (suc n) e v at l w = line_at c w.0 xs n e v at (l.1 w.0 w.1 w.2 w.3 w.4) w.5

-- one entry learns more, with the same prediction
pub line_learn : (c : Code) (s : S) (es : List Entry) (n : ℕ) (d e : Entry) → nth es n ≡ some d → Line c s es → d.predicted ≡ e.predicted
    → ((v : S) → Reaches c s (take n (predictions es)) v → Agrees c v d → Agrees c v e)
    → Line c s (put es n e)
unfolding Line Reaches
line_learn c s [] n d e at l p f = l
line_learn c s (x ∷ xs) zero d e at l p f =
    let same : x ≡ d = cc in (
      f s refl (subst (λ y. Agrees c s y) same l.0),
      λ u t fs q r. l.1 u t fs q (r ∙ sym p ∙ ap (λ (y : Entry). y.predicted) (sym same)),
    )
line_learn c s (x ∷ xs) (suc n) d e at l p f =
    (l.0, λ u t fs q r. line_learn c u xs n d e at (l.1 u t fs q r) p (λ v w. f v (u, t, fs, q, r, w)))

-- any knowledge K with a meaning at a state, carried soundly over one entry, is carried over the window
module _ (c : Code) (K : Type 0) (Means : K → S → Type 0) (over : Entry → K → K)
    (sound : (s : S) (e : Entry) (k : K) (u : S) (t : Ret) (fs : List Ev) → Agrees c s e → step c s ≡ goes u t fs → Means k s → Means (over e k) u) where
  pub sweep_right : (s v : S) (es : List Entry) (k : K) → Line c s es → Reaches c s (predictions es) v → Means k s → Means (sweep over k es) v
  unfolding Line Reaches
  sweep_right s v [] k l w m = subst (Means k) w m
  sweep_right s v (e ∷ es) k l w m =
      sweep_right w.0 v es (over e k) (l.1 w.0 w.1 w.2 w.3 w.4) w.5 (sound s e k w.0 w.1 w.2 l.0 w.3 m)

  -- up to the n-th
  pub sweep_at : (s v : S) (es : List Entry) (n : ℕ) (k : K) → Line c s es → Reaches c s (take n (predictions es)) v → Means k s
      → Means (sweep over k (take n es)) v
  sweep_at s v es n k l w m = sweep_right s v (take n es) k (line_take c n s es l) (rw predictions_take w) m
