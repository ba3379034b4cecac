-- What the answers of a clock leave of the oldest.
use Rattle.std.proofs.Common.{◌≡◌, ℕ, zero, suc, Bool, true, false, eqb, List, [], ◌∷◌, map, Some, None, Option, sym, refl, ap, ◌∙◌, subst, arith}
use mathlib.Core.Option.{Option as Opt, some, none}
use Rattle.std.proofs.lemmas.Bool.{ne_eqb}
use Rattle.isa.specs.Words.{nth, put}
use Rattle.pins.specs.Ports.{In}
use Rattle.pins.specs.View.{pop}
use Rattle.window.specs.declared.entry.Entry.{Entry}
use Rattle.window.specs.declared.entry.Number.{Number}
use Rattle.window.specs.declared.entry.Tag.{Tag}
use Rattle.window.specs.declared.entry.Tag.TheVariants.{Acknowledgment, Load, Stale, Device}
use Rattle.pins.specs.declared.held.Reading.{Reading}
use Rattle.pins.specs.declared.held.Reading.TheVariants.{Idle, Waiting, Answered}
use Rattle.window.specs.Entries.{with_word, with_loaded}
use Rattle.window.specs.Machine.{Core, with_requests, with_fetches, learn, device_answered, get_data, take_data, get_code, take_code}
use Rattle.window.specs.Clocks.{answer_code, answer_data, answered}
use Rattle.window.specs.Fairness.{has, is_load, is_answered}
use Rattle.window.proofs.Cases.{opt_cases, some_none, clash}
use Rattle.window.proofs.RuleCases.{learn_by}
use Rattle.window.proofs.Marks.{is_device, is_fetch, Spared}
use Rattle.window.proofs.Onward.{More, Grows, grows_same, grows_then, learn_grows, loaded_more, head_grown}

abbrev pub head_word : List Entry → Bool
head_word [] = false
head_word (e ∷ es) = has e.word

abbrev pub head_loaded : List Entry → Bool
head_loaded [] = false
head_loaded (e ∷ es) = has e.loaded

grows_word : (es ds : List Entry) → Grows es ds → head_word es ≡ true → head_word ds ≡ true
grows_word [] ds g h = clash h refl
grows_word (e ∷ es) [] g h = absurd g
grows_word (e ∷ es) (d ∷ ds) g h = g.word h

word_more : (e : Entry) (x : ℕ) → More e (with_word e x)
word_more e x = record { word = λ h. refl; left = λ h. h; right = λ h. h; outcome = λ o h. h; loaded = λ h. h }

-- the parts that learning leaves as they are
learn_part : {A : Type 0} (part : Core → A) (f : Core → ℕ → Entry → Option Entry) (n : ℕ) (k : Core)
    → ((es : List Entry) → part (Rattle.window.specs.Machine.with_window k es) ≡ part k) → part (learn f n k) ≡ part k
learn_part part f n k s = learn_by (λ (z : Core). part z ≡ part k) f n k refl (λ e d at ed. s (put k.window n d))

-- a word of code
pub record Coded (i : Opt ℕ) (k j : Core) : Type 0 where
  pub window : Grows k.window j.window
  pub stores : j.stores ≡ k.stores
  pub device : j.device ≡ k.device
  pub requests : j.requests ≡ k.requests
  pub fetches : j.fetches ≡ pop i k.fetches

coded : (i : Opt ℕ) (k : Core) → Coded i k (answer_code i k)
coded none k = record { window = grows_same k.window; stores = refl; device = refl; requests = refl; fetches = refl }
coded (some x) k = by k.fetches refl
  where
    by : (fs : List (Option Number)) → k.fetches ≡ fs → Coded (some x) k (take_code x k fs)
    by [] e = record { window = grows_same k.window; stores = refl; device = refl; requests = refl; fetches = e ∙ sym (ap (pop (some x)) e) }
    by (None ∷ fs) e = record { window = grows_same k.window; stores = refl; device = refl; requests = refl; fetches = sym (ap (pop (some x)) e) }
    by (Some n ∷ fs) e =
        let j = with_fetches k fs in
        record {
          window = learn_grows (get_code x) n.0 j (λ d. word_more d x);
          stores = learn_part (λ z. z.stores) (get_code x) n.0 j (λ _. refl);
          device = learn_part (λ z. z.device) (get_code x) n.0 j (λ _. refl);
          requests = learn_part (λ z. z.requests) (get_code x) n.0 j (λ _. refl);
          fetches = learn_part (λ z. z.fetches) (get_code x) n.0 j (λ _. refl) ∙ sym (ap (pop (some x)) e);
        }

-- an answer to a request
pub record Got (i : Opt ℕ) (k j : Core) : Type 0 where
  pub window : Grows k.window j.window
  pub stores : j.stores ≡ k.stores
  pub fetches : j.fetches ≡ k.fetches
  pub requests : j.requests ≡ pop i k.requests

got : (i : Opt ℕ) (k : Core) → Got i k (answer_data i k)
got none k = record { window = grows_same k.window; stores = refl; fetches = refl; requests = refl }
got (some x) k = by k.requests refl
  where
    by : (ts : List Tag) → k.requests ≡ ts → Got (some x) k (take_data x k ts)
    by [] e = record { window = grows_same k.window; stores = refl; fetches = refl; requests = e ∙ sym (ap (pop (some x)) e) }
    by (Acknowledgment ∷ ts) e = record { window = grows_same k.window; stores = refl; fetches = refl; requests = sym (ap (pop (some x)) e) }
    by (Stale ∷ ts) e = record { window = grows_same k.window; stores = refl; fetches = refl; requests = sym (ap (pop (some x)) e) }
    by (Device ∷ ts) e = record { window = grows_same k.window; stores = refl; fetches = refl; requests = sym (ap (pop (some x)) e) }
    by (Load n ∷ ts) e =
        let j = with_requests k ts in
        record {
          window = learn_grows (get_data x) n.0 j (λ d. loaded_more d x);
          stores = learn_part (λ z. z.stores) (get_data x) n.0 j (λ _. refl);
          fetches = learn_part (λ z. z.fetches) (get_data x) n.0 j (λ _. refl);
          requests = learn_part (λ z. z.requests) (get_data x) n.0 j (λ _. refl) ∙ sym (ap (pop (some x)) e);
        }

-- the oldest has what came, or the answer was for another
head_learns : (test : List Entry → Bool) (f : Core → ℕ → Entry → Option Entry) (g : Entry → Entry) → ((k : Core) (n : ℕ) (e : Entry) → f k n e ≡ Some (g e))
    → ((e : Entry) (es : List Entry) → test (g e ∷ es) ≡ true) → (k : Core) (e : Entry) (es : List Entry) → k.window ≡ e ∷ es → test (learn f 0 k).window ≡ true
head_learns test f g fg tg k e es we =
    opt_cases (λ (z : Core). test z.window ≡ true) (nth k.window 0) (λ n. some_none (ap (λ w. nth w 0) we) n)
    (λ d at. rw (fg k 0 d, we) (tg d es))

code_spared : (i : Opt ℕ) (k : Core) (e : Entry) (es : List Entry) → k.window ≡ e ∷ es → head_word (answer_code i k).window ≡ false → Spared i (map (is_fetch 0) k.fetches)
code_spared none k e es we h = tt
code_spared (some x) k e es we h = by k.fetches h
  where
    at : (n : ℕ) (fs : List (Option Number)) → head_word (learn (get_code x) n (with_fetches k fs)).window ≡ false → eqb n 0 ≡ false
    at zero fs h = clash (head_learns head_word (get_code x) (λ d. with_word d x) (λ k n e. refl) (λ e es. refl) (with_fetches k fs) e es we) h
    at (suc n) fs h = ne_eqb (suc n) 0 (λ q. omega arith)

    by : (fs : List (Option Number)) → head_word (take_code x k fs).window ≡ false → Spared (some x) (map (is_fetch 0) fs)
    by [] h = tt
    by (None ∷ fs) h = refl
    by (Some n ∷ fs) h = at n.0 fs h

load_spared : (i : Opt ℕ) (k : Core) (e : Entry) (es : List Entry) → k.window ≡ e ∷ es → head_loaded (answer_data i k).window ≡ false → Spared i (map (is_load 0) k.requests)
load_spared none k e es we h = tt
load_spared (some x) k e es we h = by k.requests h
  where
    at : (n : ℕ) (ts : List Tag) → head_loaded (learn (get_data x) n (with_requests k ts)).window ≡ false → eqb n 0 ≡ false
    at zero ts h = clash (head_learns head_loaded (get_data x) (λ d. with_loaded d x) (λ k n e. refl) (λ e es. refl) (with_requests k ts) e es we) h
    at (suc n) ts h = ne_eqb (suc n) 0 (λ q. omega arith)

    by : (ts : List Tag) → head_loaded (take_data x k ts).window ≡ false → Spared (some x) (map (is_load 0) ts)
    by [] h = tt
    by (Acknowledgment ∷ ts) h = refl
    by (Load n ∷ ts) h = at n.0 ts h
    by (Stale ∷ ts) h = refl
    by (Device ∷ ts) h = refl

-- the reading of a device
pub record Unanswered (i : Opt ℕ) (k : Core) (q : Reading) : Type 0 where
  pub same : q ≡ k.device
  pub spared : (b : ℕ) → k.device ≡ Waiting b → Spared i (map is_device k.requests)

device_spared : (i : Opt ℕ) (k : Core) → is_answered (answer_data i k).device ≡ false → Unanswered i k (answer_data i k).device
device_spared none k h = record { same = refl; spared = λ b e. tt }
device_spared (some x) k h = let r = by k.requests h in record { same = r.0; spared = r.1 }
  where
    answer : (q : Reading) → is_answered (device_answered x q) ≡ false → (device_answered x q ≡ q) × ((b : ℕ) → q ≡ Waiting b → ⊥)
    answer Idle h = (refl, λ b e. (let z : ◌≡◌ {A = ℕ} 0 1 = cc in omega arith))
    answer (Waiting b) h = clash refl h
    answer (Answered b y) h = (refl, λ b e. (let z : ◌≡◌ {A = ℕ} 0 1 = cc in omega arith))

    by : (ts : List Tag) → is_answered (take_data x k ts).device ≡ false
        → ((take_data x k ts).device ≡ k.device) × ((b : ℕ) → k.device ≡ Waiting b → Spared (some x) (map is_device ts))
    by [] h = (refl, λ b e. tt)
    by (Acknowledgment ∷ ts) h = (refl, λ b e. refl)
    by (Stale ∷ ts) h = (refl, λ b e. refl)
    by (Load n ∷ ts) h = (learn_part (λ z. z.device) (get_data x) n.0 (with_requests k ts) (λ _. refl), λ b e. refl)
    by (Device ∷ ts) h = let a = answer k.device h in (a.0, λ b e. absurd (a.1 b e))

-- all of it
pub record Took (i : In) (k j : Core) : Type 0 where
  pub window : Grows k.window j.window
  pub stores : j.stores ≡ k.stores
  pub requests : j.requests ≡ pop i.data1 k.requests
  pub fetches : j.fetches ≡ pop i.code k.fetches
  pub word : (e : Entry) (es : List Entry) → k.window ≡ e ∷ es → head_word j.window ≡ false → Spared i.code (map (is_fetch 0) k.fetches)
  pub loaded : (e : Entry) (es : List Entry) → k.window ≡ e ∷ es → head_loaded j.window ≡ false → Spared i.data1 (map (is_load 0) k.requests)
  pub device : is_answered j.device ≡ false → Unanswered i.data1 k j.device

not_true : (b : Bool) → (b ≡ true → ⊥) → b ≡ false
not_true true f = absurd (f refl)
not_true false f = refl

pub took : (i : In) (k : Core) → Took i k (answered i k)
took i k =
    let j = answer_code i.code k in
    let cd = coded i.code k in
    let ft = got i.data1 j in
    record {
      window = grows_then k.window j.window (answered i k).window cd.window ft.window;
      stores = ft.stores ∙ cd.stores;
      requests = ft.requests ∙ ap (pop i.data1) cd.requests;
      fetches = ft.fetches ∙ cd.fetches;
      word = λ e es we h. code_spared i.code k e es we (not_true (head_word j.window) (λ t. clash (grows_word j.window (answered i k).window ft.window t) h));
      loaded = λ e es we h.
          let d = head_grown k.window j.window e es we cd.window in
          subst (λ (z : List Tag). Spared i.data1 (map (is_load 0) z)) cd.requests (load_spared i.data1 j d.head d.tail d.is h);
      device = λ h.
          let u = device_spared i.data1 j h in
          record {
            same = u.same ∙ cd.device;
            spared = λ b e. subst (λ (z : List Tag). Spared i.data1 (map is_device z)) cd.requests (u.spared b (cd.device ∙ e));
          };
    }
