-- Code comes in time: while no word is there, the wait for it falls.
use Rattle.std.proofs.Common.{◌≡◌, ℕ, zero, suc, ◌+◌, ◌-◌, ◌*◌, ◌<◌, ◌≤◌, Bool, true, false, ◌&&◌, eqb, ltb, List, [], ◌∷◌, ◌++◌, length, sym, refl, ap, ◌∙◌, subst, arith, length-append}
use mathlib.Core.Option.{Option, some, none}
use Rattle.std.proofs.lemmas.Bool.{ltb-true, ltb-false, lt-ltb, ne_eqb, eq-eqb, and_parts}
use Rattle.pins.specs.View.{push}
use Rattle.pins.specs.Waits.{aged, age0}
use Rattle.first.specs.Model.{Fetching, took, took_use, take_code, want, want_if}
use Rattle.first.proofs.Left.{AskedFor, Young, older, left, older_length, young_push, left_older, left_push, left_new, left_past, left_most}

-- the first want that is of use; if four stale ones fill the port, first one of these
abbrev pub if_full : Bool → ℕ → ℕ
if_full true n = n
if_full false n = 0

abbrev pub code_rank : ℕ → Fetching → List ℕ → ℕ
code_rank l f q = left l f.stale q + if_full (eqb f.stale 4) (left l 0 q)

pub code_most : (l : ℕ) (f : Fetching) (q : List ℕ) → code_rank l f q ≤ 2 * (l + 2)
code_most l f q = by (eqb f.stale 4)
  where
    by : (b : Bool) → left l f.stale q + if_full b (left l 0 q) ≤ 2 * (l + 2)
    by true = omega (arith, left_most l f.stale q, left_most l 0 q)
    by false = omega (arith, left_most l f.stale q)

-- the rule that wants, with the ages of a clock later
module _ (l : ℕ) (f : Fetching) (q : List ℕ) (ct : f.stale + f.coming ≡ length q) (fw : length q ≤ 4) where
  abbrev later : Bool → List ℕ
  later b = push (age0 (want_if f b).want) (older q)

  -- some want is of use: it is older by a clock
  one_coming : 1 ≤ f.coming → (b : Bool) → Young l (later b) → code_rank l (want_if f b).fetch (later b) < code_rank l f q
  one_coming h b y =
      let lt : f.stale < length q = omega arith in
      let ol = older_length q in
      let ne : eqb f.stale 4 ≡ false = ne_eqb f.stale 4 (λ e. omega arith) in
      let st : (want_if f b).fetch.stale ≡ f.stale = stale_same b in
      let p = left_push l f.stale (age0 (want_if f b).want) (older q) (omega arith) in
      let o = left_older l f.stale q lt (young_push l (age0 (want_if f b).want) (older q) y) in
      rw (st, ne) (omega arith)
    where
      stale_same : (b : Bool) → (want_if f b).fetch.stale ≡ f.stale
      stale_same true = refl
      stale_same false = refl

  -- none is, and there is room: one is wanted now
  none_coming : f.coming ≡ 0 → f.stale < 4 → code_rank l (want_if f true).fetch (later true) < code_rank l f q
  none_coming h r =
      let is : f.stale ≡ length (older q) = omega (arith, older_length q) in
      let ne : eqb f.stale 4 ≡ false = ne_eqb f.stale 4 (λ e. omega arith) in
      let nw : left l f.stale (older q ++ (0 ∷ [])) ≡ suc l - 0 = rw is (left_new l 0 (older q)) in
      let ps : left l f.stale q ≡ l + 2 = left_past l f.stale q (omega arith) in
      rw (ne, nw, ps) (omega arith)

  -- none is, and there is no room: the oldest is older by a clock
  all_stale : f.coming ≡ 0 → f.stale ≡ 4 → Young l (older q) → code_rank l f (older q) < code_rank l f q
  all_stale h r y =
      let ps : left l f.stale q ≡ l + 2 = left_past l f.stale q (omega arith) in
      let ps' : left l f.stale (older q) ≡ l + 2 = left_past l f.stale (older q) (omega (arith, older_length q)) in
      let ee : eqb f.stale 4 ≡ true = eq-eqb f.stale 4 r in
      rw (ee, ps, ps') (omega (arith, left_older l 0 q (omega arith) y))

  falls_if : (n : ℕ) → f.coming ≡ n → (b : Bool) → (b ≡ true → f.stale + f.coming < 4) → (b ≡ false → f.coming ≡ 0 → 4 ≤ f.stale) → Young l (later b) → code_rank l (want_if f b).fetch (later b) < code_rank l f q
  falls_if (suc n) e b t u y = one_coming (omega arith) b y
  falls_if zero e true t u y = none_coming e (omega (arith, t refl))
  falls_if zero e false t u y = all_stale e (omega (arith, u refl e)) y

  want_falls : length f.words ≡ 0 → Young l (push (age0 (want f).want) (older q)) → code_rank l (want f).fetch (push (age0 (want f).want) (older q)) < code_rank l f q
  want_falls e y =
      let ahead = ltb (length f.words + f.coming) 2 in
      let few = ltb (f.stale + f.coming) 4 in
      falls_if f.coming refl (ahead && few)
      (λ t. ltb-true (f.stale + f.coming) 4 (and_parts ahead few t).1)
      (λ t z. omega (arith, ltb-false (f.stale + f.coming) 4 (sym (ap (λ b. b && few) (lt-ltb (length f.words + f.coming) 2 (omega arith))) ∙ t)))
      y

-- a whole clock, while no word is there after its answer
took_some : (x : ℕ) (f : Fetching) (n : ℕ) → f.coming ≡ n → 0 < f.coming → length (took_use x f n).words ≡ 0 → ⊥
took_some x f zero e h q = omega arith
took_some x f (suc n) e h q = let r = length-append f.words (x ∷ []) in omega arith

took_falls : (l x : ℕ) (f : Fetching) (n g : ℕ) (q : List ℕ) → f.stale ≡ n → n + f.coming ≡ length (g ∷ q) → length (g ∷ q) ≤ 4 → length (took x f n).words ≡ 0
    → Young l (push (age0 (want (took x f n)).want) (older q)) → code_rank l (want (took x f n)).fetch (push (age0 (want (took x f n)).want) (older q)) < code_rank l f (g ∷ q)
took_falls l x f zero g q s ct fw e y = absurd (took_some x f f.coming refl (omega arith) e)
took_falls l x f (suc n) g q s ct fw e y =
    let r = want_falls l (took x f (suc n)) q (omega arith) (omega arith) e y in
    let ne : eqb n 4 ≡ false = ne_eqb n 4 (λ e. omega arith) in
    let r' : code_rank l (want (took x f (suc n))).fetch (push (age0 (want (took x f (suc n))).want) (older q)) < left l n q + 0 =
    subst (λ (b : Bool). code_rank l (want (took x f (suc n))).fetch (push (age0 (want (took x f (suc n))).want) (older q)) < left l n q + if_full b (left l 0 q)) ne r in
    rw s (omega arith)

pub code_falls : (l : ℕ) (f : Fetching) (i : Option ℕ) (q : List ℕ) → f.stale + f.coming ≡ length q → length q ≤ 4 → AskedFor i q → length (take_code i f).words ≡ 0
    → Young l (aged i (age0 (want (take_code i f)).want) q) → code_rank l (want (take_code i f)).fetch (aged i (age0 (want (take_code i f)).want) q) < code_rank l f q
code_falls l f none q ct fw s e y = want_falls l f q ct fw e y
code_falls l f (some x) [] ct fw s e y = absurd s
code_falls l f (some x) (g ∷ q) ct fw s e y = took_falls l x f f.stale g q refl ct fw e y
