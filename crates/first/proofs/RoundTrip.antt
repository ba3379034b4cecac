-- What is written into the words is read back.
use Rattle.std.proofs.Common.{◌≡◌, ℕ, ◌≤◌, false, ltb, List, ◌++◌, length, take, drop, Some, Option, refl, ap, ◌∙◌, append_assoc, arith, length-append, length-drop}
use Rattle.std.proofs.lemmas.List.{take_at, drop_at}
use Rattle.std.proofs.lemmas.Bool.{le-ltb}
use Rattle.std.proofs.lemmas.Bool.Decides.{nat_tests}
use Rattle.isa.specs.declared.execute.Stop.{Stop}
use Rattle.first.specs.declared.state.Fetch.{Fetch}
use Rattle.pins.specs.declared.held.Reading.{Reading}
use Rattle.pins.specs.declared.held.Reading.TheVariants.{Idle, Waiting, Answered}
use Rattle.first.specs.declared.state.Core.{Core}
use Rattle.first.specs.StoreRules.{StoreBuffer}
use Rattle.first.specs.LsuRules.{OpenRequests}
use Rattle.first.specs.Back.{stop_back, fetch_back, load_back, requests_back, stores_back}
use Rattle.first.specs.Layout.{word, mark, fetch_words, load_of, load_words, requests_of, requests_words, stores_of, stores_words, head_words, core_of, core_words, decode, Shaped}

-- part by part
stores_length : (b : StoreBuffer) → length (stores_words b) ≡ 18
unfolding stores_words
stores_length b = refl

load_length : (d : Reading) → length (load_words d) ≡ 3
load_length Idle = refl
load_length (Waiting a) = refl
load_length (Answered a x) = refl

-- a part that begins at a, of k words, behind others
at_part : (p x q w : List ℕ) (a k : ℕ) → w ≡ p ++ (x ++ q) → length p ≡ a → length x ≡ k → take k (drop a w) ≡ x
at_part p x q w a k e h l = rw e (rw (drop_at p (x ++ q) a h) (take_at x q k l))

core_same :
    (k : Core) {g : List ℕ} {f : Fetch} {b : StoreBuffer} {q : OpenRequests} {d : Reading} {h : Option Stop}
    → g ≡ k.regs.values → f ≡ k.fetch → b ≡ k.lsu.stores → q ≡ k.lsu.requests → d ≡ k.lsu.load → h ≡ k.stopped
    → ◌≡◌ {A = Core} (record { regs = record { values = g }; pc = k.pc; number = record { 0 = k.number.0 }; fetch = f; lsu = record { stores = b; requests = q; load = d }; stopped = h }) k
core_same k eg ef eb eq ed eh =
    λ i. record { regs = record { values = eg i }; pc = k.pc; number = record { 0 = k.number.0 }; fetch = ef i; lsu = record { stores = eb i; requests = eq i; load = ed i }; stopped = eh i }

core_back : (k : Core) (rest : List ℕ) → Shaped k → core_of (core_words k ++ rest) ≡ k
unfolding core_of core_words
core_back k rest s =
    let A = head_words k in
    let B = fetch_words k.fetch in
    let C = load_words k.lsu.load in
    let D = requests_words k.lsu.requests in
    let E = stores_words k.lsu.stores in
    let F = k.regs.values in
    let w = (A ++ (B ++ (C ++ (D ++ (E ++ F))))) ++ rest in
    let lc = load_length k.lsu.load in
    let le = stores_length k.lsu.stores in
    let l3 : length ((A ++ B) ++ C) ≡ 13 = length-append (A ++ B) C ∙ omega arith in
    let l4 : length (((A ++ B) ++ C) ++ D) ≡ 18 = length-append ((A ++ B) ++ C) D ∙ omega arith in
    let l5 : length ((((A ++ B) ++ C) ++ D) ++ E) ≡ 36 = length-append (((A ++ B) ++ C) ++ D) E ∙ omega arith in
    let c = at_part (A ++ B) C (D ++ (E ++ (F ++ rest))) w 10 3 (simp append_assoc) refl lc in
    let d = at_part ((A ++ B) ++ C) D (E ++ (F ++ rest)) w 13 5 (simp append_assoc) l3 refl in
    let e = at_part (((A ++ B) ++ C) ++ D) E (F ++ rest) w 18 18 (simp append_assoc) l4 le in
    let f = at_part ((((A ++ B) ++ C) ++ D) ++ E) F rest w 36 32 (simp append_assoc) l5 s.regs in
    core_same k f (fetch_back k.fetch s.fetch) (ap stores_of e ∙ stores_back k.lsu.stores s.stores) (ap requests_of d ∙ requests_back k.lsu.requests s.requests) (ap load_of c ∙ load_back k.lsu.load tt) (stop_back k.stopped tt)

words_length : (k : Core) → Shaped k → length (core_words k) ≡ 68
unfolding core_words
words_length k s =
    let C = load_words k.lsu.load in
    let D = requests_words k.lsu.requests in
    let E = stores_words k.lsu.stores in
    let F = k.regs.values in
    let c = length-append C (D ++ (E ++ F)) in
    let e = length-append E F in
    omega (arith, c, e, load_length k.lsu.load, stores_length k.lsu.stores, s.regs)

marked : (k : Core) (rest : List ℕ) → word (core_words k ++ rest) 0 ≡ mark
unfolding core_words
marked k rest = refl

-- the words that are written stand for the state, whatever stands behind them
pub words_back : (k : Core) (w : List ℕ) → Shaped k → 65536 ≤ length w → decode (core_words k ++ drop 68 w) ≡ Some k
unfolding decode
words_back k w s n =
    let v = core_words k ++ drop 68 w in
    let l : 65536 ≤ length v = let a = words_length k s in simp (length-append, length-drop) (omega arith) in
    let t : ltb (length v) 65536 ≡ false = le-ltb (length v) 65536 l in
    rw (t, marked k (drop 68 w), core_back k (drop 68 w) s)

-- words that are a core are enough
pub long : (w : List ℕ) (k : Core) → decode w ≡ Some k → 65536 ≤ length w
unfolding decode
long w k e = grind (arith, nat_tests)

-- a state written over words that were long enough
pub written : (w w' : List ℕ) (k k' : Core) → 65536 ≤ length w → k ≡ k' → w' ≡ core_words k ++ drop 68 w → Shaped k → decode w' ≡ Some k'
written w w' k k' n e f s = ap decode f ∙ words_back k w s n ∙ ap Some e
