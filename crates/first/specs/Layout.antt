-- Where the first core stands in its words.
--    0      mark: these words are a first core
--    1      pc
--    2      number of the instruction at work
--    3      0 while it runs, else 1 and how it stopped added
--    4..10  fetch unit: words kept, the two words, words to come, stale words to come, next address
--   10..13  load at work: 0 idle, 1 waiting, 2 answered; address; value
--   13..18  open requests: how many; 0 acknowledgment or 1 load, four times
--   18..36  store buffer: begin, how many; address and value, eight times
--   36..68  registers
use Rattle.std.specs.Prelude.{◌≡◌, ℕ, ◌+◌, cond, List, [], ◌∷◌, ◌++◌, length, take, drop, Some, None, Option, ◌==◌, nat_lt, slice_index, slice_index_or}
use Rattle.isa.specs.Executing.{how}
use Rattle.isa.specs.declared.regs.Regs.{Regs}
use Rattle.isa.specs.declared.execute.Stop.{Stop}
use Rattle.isa.specs.declared.execute.Stop.TheVariants.{EnvCall, Illegal, Misaligned}
use Rattle.first.specs.declared.state.Fetch.{Fetch}
use Rattle.pins.specs.declared.held.Store.{Store}
use Rattle.first.specs.declared.state.Open.{Open}
use Rattle.first.specs.declared.state.Open.TheVariants.{Acknowledgment, Load as ForLoad}
use Rattle.pins.specs.declared.held.Reading.{Reading}
use Rattle.pins.specs.declared.held.Reading.TheVariants.{Idle, Waiting, Answered}
use Rattle.first.specs.declared.state.Core.{Core}
use Rattle.first.specs.StoreRules.{StoreBuffer, no_store}
use Rattle.first.specs.LsuRules.{OpenRequests, open_at}

abbrev pub word : List ℕ → ℕ → ℕ
word w i = slice_index w i

abbrev pub mark : ℕ
mark = 1179210323

-- words to state, part by part
abbrev pub stop_of : ℕ → Option Stop
stop_of x = cond (x == 0) None (Some (cond (x == 1) EnvCall (cond (x == 2) Illegal Misaligned)))

abbrev pub regs_of : List ℕ → Regs
regs_of w = record { values = w }

abbrev pub fetch_of : List ℕ → Fetch
fetch_of w = record { words = record { count = word w 0; at = word w 1 ∷ word w 2 ∷ [] }; coming = word w 3; stale = word w 4; next = word w 5 }

abbrev pub load_of : List ℕ → Reading
load_of w = cond (word w 0 == 0) Idle (cond (word w 0 == 1) (Waiting (word w 1)) (Answered (word w 1) (word w 2)))

abbrev pub open_of : ℕ → Open
open_of x = cond (x == 0) Acknowledgment ForLoad

abbrev pub requests_of : List ℕ → OpenRequests
requests_of w = record { count = word w 0; at = open_of (word w 1) ∷ open_of (word w 2) ∷ open_of (word w 3) ∷ open_of (word w 4) ∷ [] }

abbrev pub store_of : List ℕ → ℕ → Store
store_of w i = record { address = word w i; value = word w (i + 1) }

unfoldable pub stores_of : List ℕ → StoreBuffer
stores_of w = record { begin = word w 0; count = word w 1; at = store_of w 2 ∷ store_of w 4 ∷ store_of w 6 ∷ store_of w 8 ∷ store_of w 10 ∷ store_of w 12 ∷ store_of w 14 ∷ store_of w 16 ∷ [] }

unfoldable pub core_of : List ℕ → Core
core_of w =
    record {
      regs = record { values = take 32 (drop 36 w) };
      pc = word w 1;
      number = record { 0 = word w 2 };
      fetch = fetch_of (take 6 (drop 4 w));
      lsu = record { stores = stores_of (take 18 (drop 18 w)); requests = requests_of (take 5 (drop 13 w)); load = load_of (take 3 (drop 10 w)) };
      stopped = stop_of (word w 3);
    }

-- none where the words are too few or have another mark
unfoldable pub decode : List ℕ → Option Core
decode w = cond (nat_lt (length w) 65536) None (cond (word w 0 == mark) (Some (core_of w)) None)

-- state to words
abbrev pub stop_tag : Option Stop → ℕ
stop_tag None = 0
stop_tag (Some h) = 1 + how h

abbrev pub head_words : Core → List ℕ
head_words k = mark ∷ k.pc ∷ k.number.0 ∷ stop_tag k.stopped ∷ []

abbrev pub fetch_words : Fetch → List ℕ
fetch_words f = f.words.count ∷ word f.words.at 0 ∷ word f.words.at 1 ∷ f.coming ∷ f.stale ∷ f.next ∷ []

abbrev pub load_words : Reading → List ℕ
load_words Idle = 0 ∷ 0 ∷ 0 ∷ []
load_words (Waiting a) = 1 ∷ a ∷ 0 ∷ []
load_words (Answered a x) = 2 ∷ a ∷ x ∷ []

abbrev pub open_tag : Open → ℕ
open_tag Acknowledgment = 0
open_tag ForLoad = 1

abbrev pub requests_words : OpenRequests → List ℕ
requests_words q = q.count ∷ open_tag (open_at q 0) ∷ open_tag (open_at q 1) ∷ open_tag (open_at q 2) ∷ open_tag (open_at q 3) ∷ []

unfoldable pub stores_words : StoreBuffer → List ℕ
stores_words b = b.begin ∷ b.count ∷ a 0 ∷ v 0 ∷ a 1 ∷ v 1 ∷ a 2 ∷ v 2 ∷ a 3 ∷ v 3 ∷ a 4 ∷ v 4 ∷ a 5 ∷ v 5 ∷ a 6 ∷ v 6 ∷ a 7 ∷ v 7 ∷ []
  where
    a : ℕ → ℕ
    a i = (slice_index_or b.at i no_store).address

    v : ℕ → ℕ
    v i = (slice_index_or b.at i no_store).value

unfoldable pub core_words : Core → List ℕ
core_words k = head_words k ++ (fetch_words k.fetch ++ (load_words k.lsu.load ++ (requests_words k.lsu.requests ++ (stores_words k.lsu.stores ++ k.regs.values))))

-- arrays of the right lengths
pub record Shaped (k : Core) : Type 0 where
  pub regs : length k.regs.values ≡ 32
  pub fetch : length k.fetch.words.at ≡ 2
  pub requests : length k.lsu.requests.at ≡ 4
  pub stores : length k.lsu.stores.at ≡ 8
