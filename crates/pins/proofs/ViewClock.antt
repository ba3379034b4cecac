-- A clock more in the history is its answers taken from the view and what it shows added.
use Rattle.std.proofs.Common.{◌≡◌, ℕ, ◌+◌, List, [], ◌∷◌, ◌++◌, length, sym, refl, ap, ◌∙◌, subst, append_assoc, append-nil, arith, length-append}
use mathlib.Core.Option.{Option, some, none}
use lib.ListN.{length-map}
use Rattle.isa.specs.Manual.{Code, Mem, Ret, Ev}
use Rattle.pins.specs.Ports.{In, Req, reads, writes1}
use Rattle.pins.specs.Outside.{Io, Hist, Want, Wish, O, after, outside, ev_of, CodeRight, ReadRight, DataRight, RightIn}
use Rattle.pins.specs.Says.{Right}
use Rattle.pins.specs.View.{View, addrs, reqs, view, pop, push, evs_then, rets_then, clock_view, ones, ViewLaws}
use Rattle.pins.specs.View.{CodeAllowed, ReadAllowed, DataAllowed, Allowed, RightView}
use Rattle.pins.proofs.Queues.{map_pop, map_clock, option_same, waited, waited1, new, new1, clocked_to}
use Rattle.pins.proofs.Histories.{history_laws, by_clocks}

-- the queues without ages
codes_clock : (o : O) (x : Io) → addrs (after o x).codes ≡ push x.out1.code (pop x.in1.code (addrs o.codes))
codes_clock o x =
    let addr : Want → ℕ = λ w. w.addr in
    ap addrs (clocked_to o x).codes
    ∙ map_clock addr new waited x.out1.code (pop x.in1.code o.codes)
    ∙ (λ i. push (option_same x.out1.code i) (map_pop addr x.in1.code o.codes i))

datas_clock : (o : O) (x : Io) → reqs (after o x).datas ≡ push x.out1.data1 (pop x.in1.data1 (reqs o.datas))
datas_clock o x =
    let req : Wish → Req = λ w. w.req in
    ap reqs (clocked_to o x).datas
    ∙ map_clock req new1 waited1 x.out1.data1 (pop x.in1.data1 o.datas)
    ∙ (λ i. push (option_same x.out1.data1 i) (map_pop req x.in1.data1 o.datas i))

evs_more : (r : Option Req) (es : List Ev) → es ++ ev_of r ≡ evs_then r es
evs_more none es = append-nil es
evs_more (some r) es = refl

rets_more : (ts rs : List Ret) → rs ++ ts ≡ rets_then ts rs
rets_more [] rs = append-nil rs
rets_more (t ∷ ts) rs = sym (append_assoc rs (t ∷ []) ts) ∙ rets_more ts (rs ++ (t ∷ []))

one_clock : (m : Mem) (h : Hist) (x : Io) → view m (h ++ (x ∷ [])) ≡ clock_view x (view m h)
one_clock m h x = λ i. record {
  codes = (ap (λ (o : O). addrs o.codes) e ∙ codes_clock (outside m h) x) i;
  datas = (ap (λ (o : O). reqs o.datas) e ∙ datas_clock (outside m h) x) i;
  mem = (ap (λ (o : O). o.mem) e ∙ (clocked_to (outside m h) x).mem) i;
  told = (ap (λ (o : O). o.told) e ∙ (clocked_to (outside m h) x).told) i;
  rets = (history_laws.rets_clock h x ∙ rets_more x.out1.rets _) i;
  evs = (history_laws.evs_clock h x ∙ evs_more x.out1.data1 _) i;
  stopped = history_laws.stopped_clock h x i;
}
  where
    e : outside m (h ++ (x ∷ [])) ≡ after (outside m h) x
    e = history_laws.outside_clock m h x

-- an answer that is allowed after a history is allowed at its view
code_allowed : (c : Code) (x : Option ℕ) (ws : List Want) → CodeRight c x ws → CodeAllowed c x (addrs ws)
code_allowed c none ws r = r
code_allowed c (some x) [] r = r
code_allowed c (some x) (w ∷ ws) r = r

read_allowed : (o : O) (q : Req) (x : ℕ) → ReadRight o q x → ReadAllowed o.mem q x
read_allowed o (reads a) x r = r
read_allowed o (writes1 a y) x r = r

data_allowed : (o : O) (x : Option ℕ) (ws : List Wish) → DataRight o x ws → DataAllowed o.mem x (reqs ws)
data_allowed o none ws r = r
data_allowed o (some x) [] r = r
data_allowed o (some x) (w ∷ ws) r = (r.0, read_allowed o w.req x r.1)

allowed : {c : Code} {m : Mem} {h : Hist} {i : In} → RightIn c m h i → Allowed c (view m h) i
allowed {c} {m} {h} {i} r = record {
  code = code_allowed c i.code (outside m h).codes r.code;
  data1 = data_allowed (outside m h) i.data1 (outside m h).datas r.data1;
}

-- and a view that is right is that of a right history
right_history : {c : Code} {m : Mem} {a : ℕ} {h : Hist} → RightView c m a (view m h) → Right c m a h
right_history {m = m} {h = h} r = record {
  done = r.done;
  asked = r.asked;
  behind = r.behind;
  stop = r.stop;
  few_codes = let n = length-map (outside m h).codes (λ (w : Want). w.addr) in let f = r.few_codes in omega arith;
  few_datas = let n = length-map (outside m h).datas (λ (w : Wish). w.req) in let f = r.few_datas in omega arith;
}

-- the numbers open
codes_left : (c : Code) (x : Option ℕ) (q : List ℕ) → CodeAllowed c x q → ones x + length (pop x q) ≡ length q
codes_left c none q r = omega arith
codes_left c (some x) [] r = absurd r
codes_left c (some x) (a ∷ q) r = omega arith

datas_left : (m : Mem) (x : Option ℕ) (q : List Req) → DataAllowed m x q → ones x + length (pop x q) ≡ length q
datas_left m none q r = omega arith
datas_left m (some x) [] r = absurd r
datas_left m (some x) (a ∷ q) r = omega arith

pushed : {A : Type 0} (y : Option A) (q : List A) → length (push y q) ≡ length q + ones y
pushed none q = omega arith
pushed (some y) q = length-append q (y ∷ [])

pub view_laws : ViewLaws
view_laws = record {
  at_start = λ m. refl;
  one_clock = one_clock;
  allowed = λ r. allowed r;
  right = λ r. right_history r;
  codes_answered = λ {c} {v} {i} r. codes_left c i.code v.codes r.code;
  datas_answered = λ {c} {v} {i} r. datas_left v.mem i.data1 v.datas r.data1;
  codes_asked = λ o v. pushed o.code v.codes;
  datas_asked = λ o v. pushed o.data1 v.datas;
}

-- what a clock keeps of a view holds after every history
pub by_views : (m : Mem) (P : View → Type 0) → P (view m []) → ((v : View) (x : Io) → P v → P (clock_view x v)) → (h : Hist) → P (view m h)
by_views m P start clock h = by_clocks (λ g. P (view m g)) start (λ g x p. subst P (sym (one_clock m g x)) (clock (view m g) x p)) h
