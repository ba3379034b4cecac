-- The window's part of the invariant: the instructions at work beside the manual, whatever devices will answer, and what the open requests are for.
use Rattle.std.proofs.Common.{◌≡◌, ℕ, zero, suc, ◌/◌, ◌<◌, ◌≤◌, false, List, [], ◌∷◌, ◌++◌, length, take, Option, sym, refl, ap, ◌∙◌, arith, length-append, length-take-le}
use mathlib.Core.Option.{some}
use lib.Seq.{take-append-le}
use Rattle.isa.specs.Words.{nth, put}
use Rattle.isa.specs.Manual.{Code, S, Ret, Ev, device, goes, step}
use Rattle.isa.specs.declared.reg.Reg.{Reg}
use Rattle.isa.specs.declared.execute.Outcome.TheVariants.{Load as Loads}
use Rattle.pins.specs.Settled.{Due}
use Rattle.window.specs.declared.entry.Entry.{Entry}
use Rattle.window.specs.declared.entry.Number.{Number}
use Rattle.window.specs.declared.entry.Tag.{Tag}
use Rattle.window.specs.Operands.{plan}
use Rattle.window.specs.Machine.{popped, kept, retags, renumbers}
use Rattle.window.proofs.Cases.{some_none}
use Rattle.window.proofs.Claims.{Each, each_map, Request, Fetch, request_map, fetch_map, requests_retag, fetches_renumber, popped_is, kept_is}
use Rattle.window.proofs.Lines.{Agrees, Line, Reaches, predictions, predictions_take, line_take, line_tail, line_push, line_learn}

-- x is what the n-th instruction loads, which reads no device, if it is a load; stands: where the manual is, by the answers still to come
pub record LoadsWord (c : Code) (stands : List ℕ → S) (gs : List ℕ) (n x : ℕ) : Type 0 where
  pub inside : n < length gs
  pub is : (zs : List ℕ) (v : S) → Reaches c (stands zs) (take n gs) v → (d : Reg) (a : ℕ) → plan c v ≡ Loads d a
      → (device a ≡ false) × (x ≡ v.mem (a / 4))

-- the n-th instruction is at a
abbrev pub IsAt : List ℕ → ℕ → ℕ → Type 0
IsAt ps n a = nth ps n ≡ some a

abbrev pub addresses : List Entry → List ℕ
addresses [] = []
addresses (e ∷ es) = e.pc ∷ addresses es

pub record Held (c : Code) (stands : List ℕ → S) (es : List Entry) (ts : List Tag) (ds : List Due) (fs : List (Option Number)) (qs : List ℕ) : Type 0 where
  pub line : (zs : List ℕ) → Line c (stands zs) es
  pub datas : Each (Request (LoadsWord c stands (predictions es))) ts ds
  pub codes : Each (Fetch (IsAt (addresses es))) fs qs

-- lists
pub nth_inside : {A : Type 0} (xs : List A) (n : ℕ) {x : A} → nth xs n ≡ some x → n < length xs
nth_inside [] n e = some_none e refl
nth_inside (y ∷ xs) zero e = omega arith
nth_inside (y ∷ xs) (suc n) e = let h = nth_inside xs n e in omega arith

nth_append : {A : Type 0} (xs ys : List A) (n : ℕ) {x : A} → nth xs n ≡ some x → nth (xs ++ ys) n ≡ some x
nth_append [] ys n e = some_none e refl
nth_append (y ∷ xs) ys zero e = e
nth_append (y ∷ xs) ys (suc n) e = nth_append xs ys n e

take_take : {A : Type 0} (j n : ℕ) (xs : List A) → j ≤ n → take j (take n xs) ≡ take j xs
take_take zero n xs h = refl
take_take (suc j) zero xs h = absurd (omega arith)
take_take (suc j) (suc n) [] h = refl
take_take (suc j) (suc n) (x ∷ xs) h = ap (λ z. x ∷ z) (take_take j n xs (omega arith))

-- the predictions and addresses of the window
predictions_put : (es : List Entry) (n : ℕ) (d e : Entry) → nth es n ≡ some d → d.predicted ≡ e.predicted → predictions (put es n e) ≡ predictions es
predictions_put [] n d e at q = refl
predictions_put (x ∷ es) zero d e at q = let same : x ≡ d = cc in ap (λ z. z ∷ predictions es) (sym q ∙ ap (λ (y : Entry). y.predicted) (sym same))
predictions_put (x ∷ es) (suc n) d e at q = ap (λ z. x.predicted ∷ z) (predictions_put es n d e at q)

addresses_put : (es : List Entry) (n : ℕ) (d e : Entry) → nth es n ≡ some d → d.pc ≡ e.pc → addresses (put es n e) ≡ addresses es
addresses_put [] n d e at q = refl
addresses_put (x ∷ es) zero d e at q = let same : x ≡ d = cc in ap (λ z. z ∷ addresses es) (sym q ∙ ap (λ (y : Entry). y.pc) (sym same))
addresses_put (x ∷ es) (suc n) d e at q = ap (λ z. x.pc ∷ z) (addresses_put es n d e at q)

predictions_append : (xs ys : List Entry) → predictions (xs ++ ys) ≡ predictions xs ++ predictions ys
predictions_append [] ys = refl
predictions_append (x ∷ xs) ys = ap (λ z. x.predicted ∷ z) (predictions_append xs ys)

pub addresses_append : (xs ys : List Entry) → addresses (xs ++ ys) ≡ addresses xs ++ addresses ys
addresses_append [] ys = refl
addresses_append (x ∷ xs) ys = ap (λ z. x.pc ∷ z) (addresses_append xs ys)

pub predictions_length : (xs : List Entry) → length (predictions xs) ≡ length xs
predictions_length [] = refl
predictions_length (x ∷ xs) = ap suc (predictions_length xs)

pub addresses_length : (xs : List Entry) → length (addresses xs) ≡ length xs
addresses_length [] = refl
addresses_length (x ∷ xs) = ap suc (addresses_length xs)

addresses_take : (n : ℕ) (es : List Entry) → addresses (take n es) ≡ take n (addresses es)
addresses_take zero es = refl
addresses_take (suc n) [] = refl
addresses_take (suc n) (e ∷ es) = ap (λ z. e.pc ∷ z) (addresses_take n es)

module _ {c : Code} {stands : List ℕ → S} {es : List Entry} {ts : List Tag} {ds : List Due} {fs : List (Option Number)} {qs : List ℕ}
    (h : Held c stands es ts ds fs qs) where
  -- an entry learns more
  pub held_learn : (n : ℕ) (d e : Entry) → nth es n ≡ some d → d.predicted ≡ e.predicted → d.pc ≡ e.pc
      → ((zs : List ℕ) (v : S) → Reaches c (stands zs) (take n (predictions es)) v → Agrees c v d → Agrees c v e)
      → Held c stands (put es n e) ts ds fs qs
  held_learn n d e at b p f = record {
    line = λ zs. line_learn c (stands zs) es n d e at (h.line zs) b (f zs);
    datas = rw (predictions_put es n d e at b) h.datas;
    codes = rw (addresses_put es n d e at p) h.codes;
  }

  -- one more at the end
  loads_push : (e : Entry) (n x : ℕ) → LoadsWord c stands (predictions es) n x → LoadsWord c stands (predictions es ++ (e.predicted ∷ [])) n x
  loads_push e n x p = let i = p.inside in record {
    inside = rw length-append (omega arith);
    is = rw (take-append-le n (predictions es) (e.predicted ∷ []) (omega arith)) p.is;
  }

  pub held_push : (e : Entry) → ((zs : List ℕ) (v : S) → Reaches c (stands zs) (predictions es) v → Agrees c v e)
      → Held c stands (es ++ (e ∷ [])) ts ds fs qs
  held_push e f = record {
    line = λ zs. line_push c (stands zs) es e (h.line zs) (f zs);
    datas = rw predictions_append (each_map (λ t d p. request_map (λ n x q. loads_push e n x q) t d p) h.datas);
    codes = rw addresses_append (each_map (λ t a p. fetch_map (λ n b q. nth_append (addresses es) (e.pc ∷ []) n q) t a p) h.codes);
  }

-- another prediction for the n-th: what is younger is flushed, and what was asked for the n-th itself stays
nth_split : {A : Type 0} (xs : List A) (n k : ℕ) (x y z : A) → nth xs n ≡ some x → x ≡ y → k < suc n → nth xs k ≡ some z → nth (take n xs ++ (y ∷ [])) k ≡ some z
nth_split [] n k x y z at e l f = some_none at refl
nth_split (a ∷ xs) zero zero x y z at e l f = ap some (sym e) ∙ sym at ∙ f
nth_split (a ∷ xs) zero (suc k) x y z at e l f = absurd (omega arith)
nth_split (a ∷ xs) (suc n) zero x y z at e l f = f
nth_split (a ∷ xs) (suc n) (suc k) x y z at e l f = nth_split xs n k x y z at e (omega arith) f

take_split : {A : Type 0} (xs : List A) (n k : ℕ) (y : A) → n < length xs → k < suc n → take k (take n xs ++ (y ∷ [])) ≡ take k xs
take_split xs n k y h l = let e = length-take-le n xs (omega arith) in take-append-le k (take n xs) (y ∷ []) (omega arith) ∙ take_take k n xs (omega arith)

nth_addresses : (es : List Entry) (n : ℕ) (e : Entry) → nth es n ≡ some e → nth (addresses es) n ≡ some e.pc
nth_addresses [] n e at = some_none at refl
nth_addresses (x ∷ es) zero e at = let same : x ≡ e = cc in ap (λ (y : Entry). some y.pc) same
nth_addresses (x ∷ es) (suc n) e at = nth_addresses es n e at

module _ {c : Code} {stands : List ℕ → S} {es : List Entry} {ts : List Tag} {ds : List Due} {fs : List (Option Number)} {qs : List ℕ}
    (h : Held c stands es ts ds fs qs) (n : ℕ) (e d : Entry) (at : nth es n ≡ some e) (pc : e.pc ≡ d.pc) where
  redirected_predictions : predictions (take n es ++ (d ∷ [])) ≡ take n (predictions es) ++ (d.predicted ∷ [])
  redirected_predictions = predictions_append (take n es) (d ∷ []) ∙ ap (λ z. z ++ (d.predicted ∷ [])) (predictions_take n es)

  redirected_addresses : addresses (take n es ++ (d ∷ [])) ≡ take n (addresses es) ++ (d.pc ∷ [])
  redirected_addresses = addresses_append (take n es) (d ∷ []) ∙ ap (λ z. z ++ (d.pc ∷ [])) (addresses_take n es)

  inside_all : n < length (predictions es)
  inside_all = rw predictions_length (nth_inside es n at)

  loads_redirect : (k x j : ℕ) → (k ≡ j) × (k < suc n) → LoadsWord c stands (predictions es) k x → LoadsWord c stands (predictions (take n es ++ (d ∷ []))) j x
  loads_redirect k x j (q, l) p =
      let i = inside_all in
      rw (← q, redirected_predictions) (record {
        inside = rw (length-append (take n (predictions es)) (d.predicted ∷ [])) (let e = length-take-le n (predictions es) (omega arith) in omega arith);
        is = rw (take_split (predictions es) n k d.predicted i l) p.is;
      })

  at_redirect : (k a j : ℕ) → (k ≡ j) × (k < suc n) → IsAt (addresses es) k a → IsAt (addresses (take n es ++ (d ∷ []))) j a
  at_redirect k a j (q, l) p = rw (← q, redirected_addresses) (nth_split (addresses es) n k e.pc d.pc a (nth_addresses es n e at) pc l p)

  pub held_redirect : ((zs : List ℕ) (v : S) → Reaches c (stands zs) (take n (predictions es)) v → Agrees c v d)
      → Held c stands (take n es ++ (d ∷ [])) (retags (kept (suc n)) ts) ds (renumbers (kept (suc n)) fs) qs
  held_redirect f = record {
    line = λ zs. line_push c (stands zs) (take n es) d (line_take c n (stands zs) es (h.line zs)) (λ v r. f zs v (rw predictions_take at r));
    datas = requests_retag (kept (suc n)) (λ k x j q p. loads_redirect k x j (kept_is (suc n) k j q) p) h.datas;
    codes = fetches_renumber (kept (suc n)) (λ k a j q p. at_redirect k a j (kept_is (suc n) k j q) p) h.codes;
  }

-- the oldest is retired, and its prediction was right
module _ (c : Code) (before now : List ℕ → S) (e : Entry) (es : List Entry)
    (w : (zs : List ℕ) → (t : Ret) × (fs : List Ev) × (step c (before zs) ≡ goes (now zs) t fs) × ((now zs).pc ≡ e.predicted)) where
  loads_pop : (k x j : ℕ) → k ≡ suc j → LoadsWord c before (predictions (e ∷ es)) k x → LoadsWord c now (predictions es) j x
  unfolding Reaches
  loads_pop k x j q p = by (rw q at p)
    where
      by : LoadsWord c before (predictions (e ∷ es)) (suc j) x → LoadsWord c now (predictions es) j x
      by p = let i = p.inside in record { inside = omega arith; is = λ zs v r. p.is zs v (now zs, (w zs).0, (w zs).1, (w zs).2, (w zs).3, r) }

  at_pop : (k a j : ℕ) → k ≡ suc j → IsAt (addresses (e ∷ es)) k a → IsAt (addresses es) j a
  at_pop k a j q p = rw q at p

  pub held_pop : {ts : List Tag} {ds : List Due} {fs : List (Option Number)} {qs : List ℕ} → Held c before (e ∷ es) ts ds fs qs
      → Held c now es (retags popped ts) ds (renumbers popped fs) qs
  held_pop h = record {
    line = λ zs. line_tail c (before zs) (now zs) (w zs).0 (w zs).1 e es (h.line zs) (w zs).2 (w zs).3;
    datas = requests_retag popped (λ k x j q p. loads_pop k x j (popped_is k j q) p) h.datas;
    codes = fetches_renumber popped (λ k a j q p. at_pop k a j (popped_is k j q) p) h.codes;
  }
