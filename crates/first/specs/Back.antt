-- A part of the core that is written into its words is read back: the laws of the parts.
use Rattle.std.specs.Prelude.{◌≡◌, ℕ, length, Some, None, Option, ⊤, refl}
use Rattle.std.proofs.Common.{get_or, sym}
use Rattle.std.proofs.lemmas.List.FromFn.{fill_by_all}
use Rattle.isa.specs.declared.regs.Regs.{Regs}
use Rattle.isa.specs.declared.execute.Stop.{Stop}
use Rattle.isa.specs.declared.execute.Stop.TheVariants.{EnvCall, Illegal, Misaligned}
use Rattle.first.specs.declared.state.Fetch.{Fetch}
use Rattle.first.specs.declared.state.Open.{Open}
use Rattle.first.specs.declared.state.Open.TheVariants.{Acknowledgment, Load as ForLoad}
use Rattle.pins.specs.declared.held.Reading.{Reading}
use Rattle.pins.specs.declared.held.Reading.TheVariants.{Idle, Waiting, Answered}
use Rattle.first.specs.StoreRules.{StoreBuffer, no_store}
use Rattle.first.specs.LsuRules.{OpenRequests, open_at}
use Rattle.first.specs.Layout.{stop_of, stop_tag, regs_of, fetch_of, fetch_words, load_of, load_words, open_of, open_tag, requests_of, requests_words, stores_of, stores_words}

pub regs_back : (g : Regs) → length g.values ≡ 32 → regs_of g.values ≡ g
regs_back g h = refl

pub stop_back : (h : Option Stop) → ⊤ → stop_of (stop_tag h) ≡ h
stop_back None t = refl
stop_back (Some EnvCall) t = refl
stop_back (Some Illegal) t = refl
stop_back (Some Misaligned) t = refl

pub fetch_back : (f : Fetch) → length f.words.at ≡ 2 → fetch_of (fetch_words f) ≡ f
fetch_back f h =
    let e = fill_by_all (λ (k : ℕ). get_or f.words.at k 0) f.words.at 2 0 h (λ k l. refl) in
    λ i. record { words = record { count = f.words.count; at = sym e i }; coming = f.coming; stale = f.stale; next = f.next }

pub load_back : (d : Reading) → ⊤ → load_of (load_words d) ≡ d
load_back Idle t = refl
load_back (Waiting a) t = refl
load_back (Answered a x) t = refl

open_back : (o : Open) → open_of (open_tag o) ≡ o
open_back Acknowledgment = refl
open_back ForLoad = refl

pub requests_back : (q : OpenRequests) → length q.at ≡ 4 → requests_of (requests_words q) ≡ q
requests_back q h =
    let e = fill_by_all (λ (k : ℕ). open_of (open_tag (open_at q k))) q.at 4 Acknowledgment h (λ k l. sym (open_back (open_at q k))) in
    λ i. record { count = q.count; at = sym e i }

pub stores_back : (b : StoreBuffer) → length b.at ≡ 8 → stores_of (stores_words b) ≡ b
unfolding stores_of stores_words
stores_back b h =
    let e = fill_by_all (λ (k : ℕ). get_or b.at k no_store) b.at 8 no_store h (λ k l. refl) in
    λ i. record { begin = b.begin; count = b.count; at = sym e i }
