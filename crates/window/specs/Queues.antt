-- The queues of open requests and of wanted words of code, at most four of each: what the code does with them, and what that is to their lists.
use Rattle.std.specs.Prelude.{◌≡◌, ℕ, ◌<◌, ◌≤◌, List, [], ◌∷◌, ◌++◌, map, length, take, None, Option}
use Rattle.isa.specs.Words.{nth}
use Rattle.pins.specs.PortWords.{optional}
use Rattle.rings.specs.declared.queue.Queue.{Queue}
use Rattle.rings.specs.QueueRules.{queue_of}
use Rattle.rings.specs.Places.{queue_pushed_if_room, queue_oldest, queue_shifted}
use Rattle.window.specs.declared.entry.Number.{Number}
use Rattle.window.specs.declared.entry.Tag.{Tag}
use Rattle.window.specs.declared.entry.Tag.TheVariants.{Acknowledgment}
use Rattle.window.specs.Machine.{retag, retags, renumber, renumbers}
use Rattle.window.specs.Rings.{rest}

module _ {A : Type 0} {N : ℕ} where
  -- each changed
  abbrev pub queue_by : (A → A) → Queue A N → Queue A N
  queue_by f q = record { count = q.count; at = map f q.at }

  -- the list that a queue stands for, oldest first: shut, for the laws
  unfoldable pub queued : Queue A N → List A
  queued q = take q.count q.at

  pub record SizedQueue (q : Queue A N) : Type 0 where
    pub slots : length q.at ≡ N
    pub count : q.count ≤ N

-- what each change of a queue is to its list; d stands in its free places
pub record QueueListLaws {A : Type 0} (N : ℕ) (d : A) : Type 0 where
  pub start : queued (queue_of {n = N} d) ≡ []
  pub count : (q : Queue A N) → SizedQueue q → length (queued q) ≡ q.count
  pub push : (q : Queue A N) (x : A) → SizedQueue q → q.count < N → queued (queue_pushed_if_room q x) ≡ queued q ++ (x ∷ [])
  pub oldest : (q : Queue A N) → SizedQueue q → queue_oldest d q ≡ optional (nth (queued q) 0)
  pub pop : (q : Queue A N) → SizedQueue q → queued (queue_shifted q d) ≡ rest (queued q)
  pub by : (f : A → A) (q : Queue A N) → SizedQueue q → queued (queue_by f q) ≡ map f (queued q)
  -- sizes are kept
  pub start_sized : SizedQueue (queue_of {n = N} d)
  pub push_sized : (q : Queue A N) (x : A) → SizedQueue q → SizedQueue (queue_pushed_if_room q x)
  pub pop_sized : (q : Queue A N) → SizedQueue q → SizedQueue (queue_shifted q d)
  pub by_sized : (f : A → A) (q : Queue A N) → SizedQueue q → SizedQueue (queue_by f q)

-- what the open requests are for
abbrev pub Requests : Type 0
Requests = Queue Tag 4

abbrev pub requests_start : Requests
requests_start = queue_of Acknowledgment

abbrev pub request_oldest : Requests → Option Tag
request_oldest q = queue_oldest Acknowledgment q

abbrev pub request_popped : Requests → Requests
request_popped q = queue_shifted q Acknowledgment

abbrev pub requests_by : (ℕ → Option ℕ) → Requests → Requests
requests_by g q = queue_by (retag g) q

abbrev pub tags : Requests → List Tag
tags q = queued q

-- which instructions the wanted words of code are for
abbrev pub Fetches : Type 0
Fetches = Queue (Option Number) 4

abbrev pub fetches_start : Fetches
fetches_start = queue_of None

abbrev pub fetch_oldest : Fetches → Option (Option Number)
fetch_oldest q = queue_oldest None q

abbrev pub fetch_popped : Fetches → Fetches
fetch_popped q = queue_shifted q None

abbrev pub fetches_by : (ℕ → Option ℕ) → Fetches → Fetches
fetches_by g q = queue_by (renumber g) q

abbrev pub wants : Fetches → List (Option Number)
wants q = queued q

pub record QueueLaws : Type 0 where
  pub requests : QueueListLaws 4 Acknowledgment
  pub fetches : QueueListLaws {A = Option Number} 4 None
  pub tags_by : (g : ℕ → Option ℕ) (q : Requests) → SizedQueue q → tags (requests_by g q) ≡ retags g (tags q)
  pub wants_by : (g : ℕ → Option ℕ) (q : Fetches) → SizedQueue q → wants (fetches_by g q) ≡ renumbers g (wants q)
