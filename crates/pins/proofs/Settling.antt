-- Requests are a queue, and so is what each will be answered with.
use Rattle.std.proofs.Common.{◌≡◌, ℕ, suc, ◌+◌, ◌/◌, Bool, true, false, List, [], ◌∷◌, ◌++◌, length, sym, refl, ap, ◌∙◌, append-nil, zero-add, arith, length-append}
use mathlib.Core.Option.{Option, some, none, map}
use Rattle.isa.specs.Words.{pick}
use Rattle.isa.specs.Manual.{Mem, device, Ev, asks}
use Rattle.isa.specs.Traces.{effects, device_reads}
use Rattle.isa.proofs.RunByTrace.{effects_append, reads_append}
use Rattle.pins.specs.Ports.{Req, reads, writes1}
use Rattle.pins.specs.Outside.{Io, Hist, mem_by, told_by, IsWord, ev_of, evs}
use Rattle.pins.specs.View.{View, view, pop, push, mem_then, told_then, evs_then, take_in, clock_view, ReadAllowed, DataAllowed}
use Rattle.pins.specs.Settled.{flush, flushed, mem_with, Due, any_word, from_device, that_word, due, dues_of, dues, Meets, tells, device_dues, SettledLaws}
use Rattle.pins.proofs.ViewClock.{view_laws, by_views}

-- a request behind the others
flush_push : (m : Mem) (r : Option Req) (q : List Req) → flush m (push r q) ≡ mem_with (flush m q) r
flush_push m none q = refl
flush_push m (some r) [] = refl
flush_push m (some r) (p ∷ q) = flush_push (mem_by m p) (some r) q

dues_push : (m : Mem) (r : Option Req) (q : List Req) → dues_of m (push r q) ≡ push (map (due (flush m q)) r) (dues_of m q)
dues_push m none q = refl
dues_push m (some r) [] = refl
dues_push m (some r) (p ∷ q) = ap (λ l. due m p ∷ l) (dues_push (mem_by m p) (some r) q)

dues_length : (m : Mem) (q : List Req) → length (dues_of m q) ≡ length q
dues_length m [] = refl
dues_length m (r ∷ q) = ap suc (dues_length (mem_by m r) q)

-- an answer moves the oldest request from the queue into memory
flush_pop : (x : Option ℕ) (m : Mem) (q : List Req) → flush (mem_then x q m) (pop x q) ≡ flush m q
flush_pop none m q = refl
flush_pop (some x) m [] = refl
flush_pop (some x) m (r ∷ q) = refl

dues_pop : (x : Option ℕ) (m : Mem) (q : List Req) → dues_of (mem_then x q m) (pop x q) ≡ pop x (dues_of m q)
dues_pop none m q = refl
dues_pop (some x) m [] = refl
dues_pop (some x) m (r ∷ q) = refl

meets_due : (m : Mem) (r : Req) (x : ℕ) (q : List Due) → IsWord x → ReadAllowed m r x → Meets (some x) (due m r ∷ q)
meets_due m (reads a) x q w r = by (device a) r
  where
    by : (b : Bool) → (b ≡ false → x ≡ m (a / 4)) → Meets (some x) (pick b from_device (that_word (m (a / 4))) ∷ q)
    by true f = w
    by false f = (w, f refl)
meets_due m (writes1 a y) x q w r = w

meets : (m : Mem) (x : Option ℕ) (q : List Req) → DataAllowed m x q → Meets x (dues_of m q)
meets m none q r = tt
meets m (some x) [] r = r
meets m (some x) (p ∷ q) (w, r) = meets_due m p x (dues_of (mem_by m p) q) w r

-- what devices have told
told_due : (ts : List ℕ) (m : Mem) (r : Req) (x : ℕ) (q : List Due) → told_by ts r x ≡ ts ++ tells (some x) (due m r ∷ q)
told_due ts m (reads a) x q = by (device a)
  where
    by : (b : Bool) → pick b (ts ++ (x ∷ [])) ts ≡ ts ++ tells (some x) (pick b from_device (that_word (m (a / 4))) ∷ q)
    by true = refl
    by false = sym (append-nil ts)
told_due ts m (writes1 a y) x q = sym (append-nil ts)

told_is : (x : Option ℕ) (m : Mem) (q : List Req) (ts : List ℕ) → told_then x q ts ≡ ts ++ tells x (dues_of m q)
told_is none m q ts = sym (append-nil ts)
told_is (some x) m [] ts = sym (append-nil ts)
told_is (some x) m (r ∷ q) ts = told_due ts m r x (dues_of (mem_by m r) q)

-- a request's effect
effect_of : (m : Mem) (r : Option Req) → effects m (ev_of r) ≡ mem_with m r
effect_of m none = refl
effect_of m (some (reads a)) = by (device a)
  where
    by : (b : Bool) → effects m (pick b (asks a ∷ []) []) ≡ m
    by true = refl
    by false = refl
effect_of m (some (writes1 a x)) = refl

effects_then : (m : Mem) (r : Option Req) (es : List Ev) → effects m (evs_then r es) ≡ mem_with (effects m es) r
effects_then m none es = refl
effects_then m (some r) es = effects_append m es (ev_of (some r)) ∙ effect_of (effects m es) (some r)

-- how many devices were asked
device_push : (q : List Due) (d : Due) → device_dues (q ++ (d ∷ [])) ≡ device_dues q + device_dues (d ∷ [])
device_push [] d = sym (zero-add (device_dues (d ∷ [])))
device_push (any_word ∷ q) d = device_push q d
device_push (from_device ∷ q) d = let h = device_push q d in omega arith
device_push (that_word y ∷ q) d = device_push q d

device_due : (m : Mem) (r : Req) → device_dues (due m r ∷ []) ≡ device_reads (ev_of (some r))
device_due m (reads a) = by (device a)
  where
    by : (b : Bool) → device_dues (pick b from_device (that_word (m (a / 4))) ∷ []) ≡ device_reads (pick b (asks a ∷ []) [])
    by true = refl
    by false = refl
device_due m (writes1 a x) = refl

device_asked : (m : Mem) (r : Option Req) (q : List Due) (es : List Ev) (n : ℕ) → n + device_dues q ≡ device_reads es
    → n + device_dues (push (map (due m) r) q) ≡ device_reads (evs_then r es)
device_asked m none q es n e = e
device_asked m (some r) q es n e =
    let p = device_push q (due m r) in
    let d = device_due m r in
    let s = reads_append es (ev_of (some r)) in
    omega arith

device_answered : (x : Option ℕ) (q : List Due) → length (tells x q) + device_dues (pop x q) ≡ device_dues q
device_answered none q = omega arith
device_answered (some x) [] = refl
device_answered (some x) (any_word ∷ q) = omega arith
device_answered (some x) (from_device ∷ q) = omega arith
device_answered (some x) (that_word y ∷ q) = omega arith

module _ (m : Mem) where
  flushed_is : (h : Hist) → flushed (view m h) ≡ effects m (evs h)
  flushed_is h = by_views m (λ v. flushed v ≡ effects m v.evs) refl kept h
    where
      kept : (v : View) (x : Io) → flushed v ≡ effects m v.evs → flushed (clock_view x v) ≡ effects m (clock_view x v).evs
      kept v x e =
          let r = x.out1.data1 in
          flush_push (take_in x.in1 v).mem r (take_in x.in1 v).datas
          ∙ ap (λ n. mem_with n r) (flush_pop x.in1.data1 v.mem v.datas ∙ e)
          ∙ sym (effects_then m r v.evs)

  told_count : (h : Hist) → length (view m h).told + device_dues (dues (view m h)) ≡ device_reads (evs h)
  told_count h = by_views m (λ v. length v.told + device_dues (dues v) ≡ device_reads v.evs) refl kept h
    where
      kept : (v : View) (x : Io) → length v.told + device_dues (dues v) ≡ device_reads v.evs
          → length (clock_view x v).told + device_dues (dues (clock_view x v)) ≡ device_reads (clock_view x v).evs
      kept v x e =
          let y = x.in1.data1 in
          let u = take_in x.in1 v in
          let p = ap length (told_is y v.mem v.datas v.told) ∙ length-append v.told (tells y (dues v)) in
          let q = ap device_dues (dues_pop y v.mem v.datas) in
          let r = device_answered y (dues v) in
          ap (λ l. length u.told + device_dues l) (dues_push u.mem x.out1.data1 u.datas)
          ∙ device_asked (flush u.mem u.datas) x.out1.data1 (dues u) v.evs (length u.told) (omega arith)

pub settled_laws : SettledLaws
settled_laws = record {
  answered = λ x v. dues_pop x v.mem v.datas;
  asked = λ r v. dues_push v.mem r v.datas;
  number = λ v. dues_length v.mem v.datas;
  meets = λ x v r. meets v.mem x v.datas r;
  flushed_answered = λ x v. flush_pop x v.mem v.datas;
  flushed_asked = λ r v. flush_push v.mem r v.datas;
  flushed_is = flushed_is;
  told = λ x v. told_is x v.mem v.datas v.told;
  told_clock = λ m h x. (let v = view m h in ap (λ (u : View). u.told) (view_laws.one_clock m h x) ∙ told_is x.in1.data1 v.mem v.datas v.told);
  told_count = told_count;
}
