-- The model that a core's state is, part by part.
use Rattle.std.proofs.Common.{◌≡◌, ℕ, ◌+◌, ◌≤◌, List, length, take}
use Rattle.pins.specs.PortWords.{plain, stop_word}
use Rattle.first.specs.declared.state.Fetch.{Fetch}
use Rattle.pins.specs.declared.held.Store.{Store}
use Rattle.first.specs.declared.state.Open.{Open}
use Rattle.first.specs.declared.state.Lsu.{Lsu}
use Rattle.first.specs.declared.state.Core.{Core}
use Rattle.first.specs.StoreRules.{StoreBuffer, no_store}
use Rattle.first.specs.Model.{Fetching, Storing, Model}
use Rattle.first.proofs.Ring.{ring}
use Rattle.first.specs.LsuRules.{OpenRequests}

-- arrays as lists
abbrev pub kept : Fetch → List ℕ
kept f = take f.words.count f.words.at

abbrev pub waiting : StoreBuffer → List Store
waiting b = ring no_store b.at b.begin b.count

abbrev pub opened : OpenRequests → List Open
opened q = take q.count q.at

abbrev pub fetching : Fetch → Fetching
fetching f = record { words = kept f; coming = f.coming; stale = f.stale; at = f.next }

abbrev pub storing : Lsu → Storing
storing d = record { row = waiting d.stores; opens = opened d.requests; load = d.load }

abbrev pub model_of : Core → Model
model_of k = record { regs = k.regs.values; pc = k.pc; fetch = fetching k.fetch; lsu = storing k.lsu; stop = plain (stop_word k.stopped) }

-- the counts are within their arrays, and no sum of them wraps
pub record SizedFetch (f : Fetch) : Type 0 where
  pub array : length f.words.at ≡ 2
  pub ahead : f.words.count + f.coming ≤ 2
  pub asked : f.stale + f.coming ≤ 4

pub record SizedStores (b : StoreBuffer) : Type 0 where
  pub array : length b.at ≡ 8
  pub few : b.count ≤ 8

pub record SizedRequests (q : OpenRequests) : Type 0 where
  pub array : length q.at ≡ 4
  pub few : q.count ≤ 4

pub record Sized (k : Core) : Type 0 where
  pub fetch : SizedFetch k.fetch
  pub stores : SizedStores k.lsu.stores
  pub requests : SizedRequests k.lsu.requests
