-- What the world does in a clock, in the terms of the outside.
use Rattle.std.specs.Prelude.{◌≡◌, ℕ, ◌/◌, ◌≤◌, false, List, [], ◌∷◌, ◌++◌, Some, None, vec_items, Option}
use Rattle.std.specs.VecDeque.{deque_items}
use Rattle.isa.specs.Manual.{device}
use Rattle.pins.specs.Ports.{Req, reads, writes1}
use Rattle.pins.specs.Outside.{mem_by, told_by}
use Rattle.pins.specs.declared.ports.Inputs.{Inputs}
use Rattle.pins.specs.declared.ports.Outputs.{Outputs}
use Rattle.pins.specs.declared.ports.Request.{Request}
use Rattle.pins.specs.declared.ports.Request.TheVariants.{Read, Write}
use Rattle.reference.specs.Memory.{words_of}
use Rattle.sim.specs.declared.queue.Open.{Open}
use Rattle.sim.specs.declared.world.World.{World}

abbrev pub open_wants : World → List (Open ℕ)
open_wants w = deque_items w.wants.items

abbrev pub open_requests : World → List (Open Request)
open_requests w = deque_items w.requests.items

-- what stays when code is fetched, and when a request is answered
pub record KeepsData (b f : World) : Type 0 where
  pub code_same : f.code ≡ b.code
  pub data_same : f.«data» ≡ b.«data»
  pub requests_same : f.requests ≡ b.requests
  pub told_same : f.told ≡ b.told
  pub clock_same : f.clock ≡ b.clock

pub record KeepsCode (b f : World) : Type 0 where
  pub code_same : f.code ≡ b.code
  pub wants_same : f.wants ≡ b.wants
  pub requests_same : f.requests ≡ b.requests
  pub clock_same : f.clock ≡ b.clock

pub record KeepsOpen (b f : World) : Type 0 where
  pub code_same : f.code ≡ b.code
  pub data_same : f.«data» ≡ b.«data»
  pub wants_same : f.wants ≡ b.wants
  pub requests_same : f.requests ≡ b.requests
  pub told_same : f.told ≡ b.told
  pub clock_same : f.clock ≡ b.clock

-- the word of code that was wanted longest, or none
abbrev pub Fetches : World → World → Option ℕ → Type 0
Fetches b f None = open_wants f ≡ open_wants b
Fetches b f (Some x) = (w : Open ℕ) × (open_wants b ≡ w ∷ open_wants f) × (w.due ≤ b.clock) × (x ≡ words_of b.code (w.asked / 4))

abbrev pub as_req : Request → Req
as_req (Read a) = reads a
as_req (Write a x) = writes1 a x

-- of data what memory holds
abbrev pub RightWord : World → Request → ℕ → Type 0
RightWord b (Read a) x = device a ≡ false → x ≡ words_of b.«data» (a / 4)
RightWord b (Write a y) x = Unit {0}

-- an answer x to a request: the right word, with its effect on memory and on what devices told
abbrev pub Answers : World → World → Request → ℕ → Type 0
Answers b f q x = RightWord b q x × (words_of f.«data» ≡ mem_by (words_of b.«data») (as_req q)) × (vec_items f.told ≡ told_by (vec_items b.told) (as_req q) x)

-- an answer to the oldest request, or none
abbrev pub Replies : World → World → Option ℕ → Type 0
Replies b f None = (open_requests f ≡ open_requests b) × (f.«data» ≡ b.«data») × (f.told ≡ b.told)
Replies b f (Some x) = (w : Open Request) × (open_requests b ≡ w ∷ open_requests f) × (w.due ≤ b.clock) × Answers b f w.asked x

-- the answers of a clock
pub record Gives (b f : World) (i : Inputs) : Type 0 where
  pub fetches : Fetches b f i.code
  pub replies : Replies b f i.answer
  pub code_same : f.code ≡ b.code
  pub clock_same : f.clock ≡ b.clock

-- what is asked comes last
abbrev pub Adds : {T : Type 0} → List (Open T) → List (Open T) → Option T → Type 0
Adds before later None = later ≡ before
Adds {T} before later (Some x) = (w : Open T) × (w.asked ≡ x) × (later ≡ before ++ w ∷ [])

-- what is asked in a clock
pub record Takes (b f : World) (o : Outputs) : Type 0 where
  pub wants_more : Adds (open_wants b) (open_wants f) o.want
  pub requests_more : Adds (open_requests b) (open_requests f) o.request
  pub code_same : f.code ≡ b.code
  pub data_same : f.«data» ≡ b.«data»
  pub told_same : f.told ≡ b.told
