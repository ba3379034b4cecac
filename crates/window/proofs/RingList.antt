-- The ring's methods are the machine's rules on the list of its entries.
use Rattle.std.proofs.Common.{◌≡◌, ℕ, zero, suc, ◌-◌, ◌/◌, ◌<◌, ◌≤◌, Bool, true, false, cond, eqb, List, [], ◌∷◌, length, take, Some, None, Option, sym, refl, ap, ◌∙◌, sub-one, arith}
use mathlib.Core.Option.{Option as Opt, some, none}
use Rattle.isa.specs.Words.{pick, opt, nth, put}
use Rattle.isa.specs.Manual.{device}
use Rattle.isa.specs.Registers.{value_in}
use Rattle.isa.specs.declared.execute.Outcome.{Outcome}
use Rattle.isa.specs.declared.execute.Outcome.TheVariants.{Write as Writes, Jump as Jumps, Load as Loads, Store as Stores, Halt as Halts}
use Rattle.pins.specs.PortWords.{optional}
use Rattle.window.specs.declared.entry.Entry.{Entry}
use Rattle.window.specs.declared.entry.Source.{Source}
use Rattle.window.specs.declared.entry.Source.TheVariants.{Unknown, Forwarded}
use Rattle.window.specs.Entries.{given}
use Rattle.window.specs.Operands.{written_register, may_store}
use Rattle.window.specs.Newest.{sweep, after_outcome, after_word, over_register, newest, source_outcome, source_word, over_memory}
use Rattle.window.specs.Machine.{Core, with_window, learn, tip}
use Rattle.window.specs.Scans.{hits_outcome, hits_word, hits, leaves_outcome, leaves, stored, decides_word, decides}
use Rattle.rings.specs.Places.{put_at}
use Rattle.window.specs.Rings.{size, Window, no_entry, entry, entry_at, items, writer_below, operand_by, operand, store_below, buffer_source, Sized, ListLaws, RingLaws}
use Rattle.window.proofs.Cases.{some_none}
use Rattle.window.proofs.ListOf.{list_nth, list_laws}
use Rattle.window.proofs.BufferList.{buffer_laws}

window_list : ListLaws size no_entry
window_list = list_laws size (omega arith) no_entry

item : (w : Window) (n : ℕ) → n < w.count → nth (items w) n ≡ some (entry w n)
item w n l = list_nth size (omega arith) no_entry w n l

-- one instruction more in front of the place
sweep_suc : {K : Type 0} (over : Entry → K → K) (k : K) (es : List Entry) (n : ℕ) (e : Entry) → nth es n ≡ some e
    → sweep over k (take (suc n) es) ≡ over e (sweep over k (take n es))
sweep_suc over k [] n e at = some_none at refl
sweep_suc over k (x ∷ es) zero e at = let same : x ≡ e = cc in ap (λ y. over y k) same
sweep_suc over k (x ∷ es) (suc n) e at = sweep_suc over (over x k) es n e at

-- an instruction that writes the register leaves its value, whatever was known; another leaves what was known
abbrev EitherWay : Bool → Option ℕ → Option ℕ → Option ℕ → Type 0
EitherWay true k z o = z ≡ o
EitherWay false k z o = z ≡ k

picked : (b : Bool) (x k : Option ℕ) → EitherWay b k (pick b x k) x
picked true x k = refl
picked false x k = refl

hit_outcome : (r : ℕ) (g k : Option ℕ) (o : Outcome) → EitherWay (hits_outcome r o) k (after_outcome r g k o) (leaves_outcome g o)
hit_outcome r g k (Writes d x a) = picked (eqb d.number r) (Some x) k
hit_outcome r g k (Jumps a) = refl
hit_outcome r g k (Loads d a) = picked (eqb d.number r) g k
hit_outcome r g k (Stores a x) = refl
hit_outcome r g k (Halts h) = refl

hit : (r : ℕ) (k : Option ℕ) (e : Entry) → EitherWay (hits r e) k (over_register r e k) (leaves e)
hit r k e = by e.outcome e.word
  where
    by : (o : Option Outcome) (w : Option ℕ)
        → EitherWay (given o (hits_word r w) (hits_outcome r)) k (given o (after_word r k w) (after_outcome r e.loaded k)) (given o None (leaves_outcome e.loaded))
    by (Some o) w = hit_outcome r e.loaded k o
    by None None = refl
    by None (Some w) = picked (eqb (written_register w) r) None k

operand_swept : (w : Window) (gs : List ℕ) (r n : ℕ) → n ≤ w.count
    → operand_by w gs r (writer_below w r n) ≡ sweep (over_register r) (Some (value_in gs r)) (take n (items w))
operand_swept w gs r zero l = refl
operand_swept w gs r (suc n) l =
    by (hits r (entry w n)) (hit r _ (entry w n)) (operand_swept w gs r n (omega arith)) ∙ sym (sweep_suc (over_register r) _ (items w) n (entry w n) (item w n l))
  where
    by : (b : Bool) {z y : Option ℕ} → EitherWay b z y (leaves (entry w n)) → operand_by w gs r (writer_below w r n) ≡ z
        → operand_by w gs r (cond b (Some n) (writer_below w r n)) ≡ y
    by true e q = sym e
    by false e q = q ∙ sym e

operand_is : (w : Window) (gs : List ℕ) (r n : ℕ) → n ≤ w.count → operand w gs r n ≡ newest gs (items w) n r
operand_is w gs r n l = by (eqb r 0)
  where
    by : (b : Bool) → cond b (Some 0) (operand_by w gs r (writer_below w r n)) ≡ pick b (Some 0) (sweep (over_register r) (Some (value_in gs r)) (take n (items w)))
    by true = refl
    by false = operand_swept w gs r n l

-- an instruction decides where a word is, whatever was known; or leaves what was known
decided : (i : ℕ) (k : Source) (e : Entry) → over_memory i e k ≡ given (decides i e) k (λ s. s)
decided i k e = by e.outcome e.word
  where
    at_store : (b d : Bool) (x : ℕ) → pick b k (pick d (Forwarded x) k) ≡ given (pick b None (pick d (Some (Forwarded x)) None)) k (λ s. s)
    at_store true d x = refl
    at_store false true x = refl
    at_store false false x = refl

    at_outcome : (o : Outcome) → source_outcome i k o ≡ given (stored i o) k (λ s. s)
    at_outcome (Writes d x a) = refl
    at_outcome (Jumps a) = refl
    at_outcome (Loads d a) = refl
    at_outcome (Stores a x) = at_store (device a) (eqb (a / 4) i) x
    at_outcome (Halts h) = refl

    at_word : (b : Bool) → pick b Unknown k ≡ given (pick b (Some Unknown) None) k (λ s. s)
    at_word true = refl
    at_word false = refl

    by : (o : Option Outcome) (w : Option ℕ) → given o (source_word k w) (source_outcome i k) ≡ given (given o (decides_word w) (stored i)) k (λ s. s)
    by (Some o) w = at_outcome o
    by None None = refl
    by None (Some w) = at_word (may_store w)

source_swept : (w : Window) (q : Source) (i n : ℕ) → n ≤ w.count → given (store_below w i n) q (λ s. s) ≡ sweep (over_memory i) q (take n (items w))
source_swept w q i zero l = refl
source_swept w q i (suc n) l =
    by (decides i (entry w n))
    ∙ ap (λ z. given (decides i (entry w n)) z (λ s. s)) (source_swept w q i n (omega arith))
    ∙ sym (decided i (sweep (over_memory i) q (take n (items w))) (entry w n))
    ∙ sym (sweep_suc (over_memory i) q (items w) n (entry w n) (item w n l))
  where
    by : (o : Option Source) → given (given o (store_below w i n) Some) q (λ s. s) ≡ given o (given (store_below w i n) q (λ s. s)) (λ s. s)
    by None = refl
    by (Some s) = refl

-- the last one's prediction
tip_last : (es : List Entry) (p : ℕ) → given (optional (nth es (length es - 1))) p (λ e. e.predicted) ≡ tip p es
tip_last [] p = refl
tip_last (x ∷ []) p = refl
tip_last (x ∷ y ∷ es) p = rw (sub-one (length (x ∷ y ∷ es))) (by (sub-one (length (y ∷ es))) (tip_last (y ∷ es) x.predicted))
  where
    by : length (y ∷ es) - 1 ≡ length es → given (optional (nth (y ∷ es) (length (y ∷ es) - 1))) x.predicted (λ e. e.predicted) ≡ tip x.predicted (y ∷ es)
        → given (optional (nth (y ∷ es) (length es))) p (λ e. e.predicted) ≡ tip x.predicted (y ∷ es)
    by e h = some_there (y ∷ es) (length es) (omega arith) ∙ ap (λ n. given (optional (nth (y ∷ es) n)) x.predicted (λ e. e.predicted)) (sym e) ∙ h
      where
        some_there : (xs : List Entry) (n : ℕ) → n < length xs → given (optional (nth xs n)) p (λ e. e.predicted) ≡ given (optional (nth xs n)) x.predicted (λ e. e.predicted)
        some_there [] n h = absurd (omega arith)
        some_there (z ∷ xs) zero h = refl
        some_there (z ∷ xs) (suc n) h = some_there xs n (omega arith)

items_next : (w : Window) (p : ℕ) → given (entry_at w (w.count - 1)) p (λ e. e.predicted) ≡ tip p (items w)
items_next w p =
    ap (λ o. given o p (λ e. e.predicted)) (window_list.get w (w.count - 1) ∙ ap (λ n. optional (nth (items w) (n - 1))) (sym (window_list.count w))) ∙ tip_last (items w) p

items_learn : (f : Core → ℕ → Entry → Option Entry) (n : ℕ) (k : Core) (w : Window) → Sized w → k.window ≡ items w
    → learn f n k ≡ with_window k (items (given (entry_at w n) w (λ e. given (f k n e) w (put_at w n))))
items_learn f n k w s e =
    ap (λ o. opt o k (λ x. given (f k n x) k (λ y. with_window k (put k.window n y)))) (ap (λ (z : List Entry). nth z n) e)
    ∙ by (nth (items w) n)
    ∙ sym (ap (λ (o : Option Entry). with_window k (items (given o w (λ x. given (f k n x) w (put_at w n))))) (window_list.get w n))
  where
    same : k ≡ with_window k (items w)
    same = ap (with_window k) e

    put_is : (o : Option Entry) → given o k (λ y. with_window k (put k.window n y)) ≡ with_window k (items (given o w (put_at w n)))
    put_is None = same
    put_is (Some y) = ap (with_window k) (ap (λ (z : List Entry). put z n y) e ∙ sym (window_list.put w n y s))

    by : (o : Opt Entry) → opt o k (λ x. given (f k n x) k (λ y. with_window k (put k.window n y)))
        ≡ with_window k (items (given (optional o) w (λ x. given (f k n x) w (put_at w n))))
    by none = same
    by (some x) = put_is (f k n x)

pub ring_laws : RingLaws
ring_laws = record {
  list = window_list;
  next = items_next;
  learn = items_learn;
  operand = operand_is;
  source = λ w b i n l. source_swept w (buffer_source b i) i n l ∙ ap (λ q. sweep (over_memory i) q (take n (items w))) (buffer_laws.source b i);
}
