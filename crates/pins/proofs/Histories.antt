-- Histories put together.
use Rattle.std.proofs.Common.{◌≡◌, [], ◌∷◌, ◌++◌, sym, refl, ap, ◌∙◌, append_assoc, append-nil}
use Rattle.pins.specs.Outside.{Io, Hist, O, begin, after, onward, rets, ev_of, evs, stopped}
use Rattle.pins.specs.History.{HistoryLaws}

onward_append : (o : O) (h g : Hist) → onward o (h ++ g) ≡ onward (onward o h) g
onward_append o [] g = refl
onward_append o (x ∷ h) g = onward_append (after o x) h g

rets_append : (h g : Hist) → rets (h ++ g) ≡ rets h ++ rets g
rets_append [] g = refl
rets_append (x ∷ h) g = ap (λ l. x.out1.rets ++ l) (rets_append h g) ∙ sym (append_assoc x.out1.rets (rets h) (rets g))

evs_append : (h g : Hist) → evs (h ++ g) ≡ evs h ++ evs g
evs_append [] g = refl
evs_append (x ∷ h) g =
    let es = ev_of x.out1.data1 in
    ap (λ l. es ++ l) (evs_append h g) ∙ sym (append_assoc es (evs h) (evs g))

stopped_append : (h : Hist) (x : Io) (g : Hist) → stopped (h ++ (x ∷ g)) ≡ stopped (x ∷ g)
stopped_append [] x g = refl
stopped_append (y ∷ []) x g = refl
stopped_append (y ∷ z ∷ h) x g = stopped_append (z ∷ h) x g

pub history_laws : HistoryLaws
history_laws = record {
  onward_append = onward_append;
  outside_append = λ m h g. onward_append (begin m) h g;
  rets_append = rets_append;
  evs_append = evs_append;
  outside_clock = λ m h x. onward_append (begin m) h (x ∷ []);
  rets_clock = λ h x. rets_append h (x ∷ []) ∙ ap (λ l. rets h ++ l) (append-nil x.out1.rets);
  evs_clock = λ h x. evs_append h (x ∷ []) ∙ ap (λ l. evs h ++ l) (append-nil (ev_of x.out1.data1));
  stopped_append = stopped_append;
  stopped_clock = λ h x. stopped_append h x [];
}

-- an induction over histories from their last clock
pub by_clocks : (P : Hist → Type 0) → P [] → ((h : Hist) (x : Io) → P h → P (h ++ (x ∷ []))) → (h : Hist) → P h
by_clocks P start clock h = from [] h start
  where
    from : (b g : Hist) → P b → P (b ++ g)
    from b [] p = rw append-nil p
    from b (x ∷ g) p = rw (← append_assoc b (x ∷ []) g) (from (b ++ (x ∷ [])) g (clock b x p))
