-- The queues of a cell, port by port: what waits, what is taken, and what is sent.
-- Trusted for `no_queue`, `queue_on`, `tokens_of`, `capacities_of` and `AreWithin` alone: part of what a promise
-- means.
use Rattle.std.specs.Prelude.{◌≡◌, ℕ, ◌+◌, ◌≤◌, ◌<◌, ◌==◌, ℤ, List, [], ◌++◌, length, drop, map, slice_index_or, Option, None, Some, if◌then◌else◌}
use Rattle.rvc_base.specs.Lawful.{tokens_on}
use Rattle.token_ring.specs.Queue.{Queue}
use Rattle.lowered_actor.specs.Actor.{Action, number_on}
use Rattle.lowered_actor.specs.Facts.{cells_from}
use Rattle.net_model.specs.Cell.{unread_room}

-- a queue for no token, as behind a port that nobody reads
abbrev pub no_queue : Queue
no_queue = record { tokens = []; capacity = 0 }

abbrev pub queue_of : Option Queue → Queue
queue_of None = no_queue
queue_of (Some queue) = queue

-- a queue that is there has room for a token at least
abbrev pub IsRoomy : Option Queue → Type 0
IsRoomy None = Unit {0}
IsRoomy (Some queue) = 1 ≤ queue.capacity

abbrev pub queue_on : List Queue → ℕ → Queue
queue_on queues p = slice_index_or queues p no_queue

-- the tokens, and the capacities, of all ports
abbrev pub tokens_of : List Queue → List (List ℤ)
tokens_of queues = map (λ q. q.tokens) queues

abbrev pub capacities_of : List Queue → List ℕ
capacities_of queues = map (λ q. q.capacity) queues

-- the tokens before a port
abbrev pub tokens_before : List Queue → ℕ → List ℤ
tokens_before queues p = tokens_on (tokens_of queues) p

-- each queue holds at most what it can
abbrev pub AreWithin : List Queue → Type 0
AreWithin queues = (p : ℕ) → p < length queues
    → length (queue_on queues p).tokens ≤ (queue_on queues p).capacity

-- there are as many tokens in each queue as these numbers say
abbrev pub AreThere : List ℕ → List Queue → Type 0
AreThere needs queues = (p : ℕ) → p < length queues
    → number_on needs p ≤ length (queue_on queues p).tokens

abbrev pub taken_from : ℕ → Queue → Queue
taken_from n queue = record { tokens = drop n queue.tokens; capacity = queue.capacity }

-- from each queue its first tokens were taken, as many as these numbers say
pub record AreTaken (needs : List ℕ) (old new : List Queue) : Type 0 where
  pub size : length new ≡ length old
  pub each : (p : ℕ) → p < length old
      → queue_on new p ≡ taken_from (number_on needs p) (queue_on old p)

-- these tokens were sent; if nobody reads the port they are dropped
abbrev pub sent_to : Queue → List ℤ → Queue
sent_to queue tokens = if queue.capacity == 0 then queue
    else record { tokens = queue.tokens ++ tokens; capacity = queue.capacity }

-- a queue has room for so many tokens more, or nobody reads it
abbrev pub HasRoomFor : Queue → ℕ → Type 0
HasRoomFor queue n = 0 < queue.capacity → length queue.tokens + n ≤ queue.capacity

-- each queue has room for what an action gives
abbrev pub HaveRoomFor : List ℕ → List Queue → Type 0
HaveRoomFor gives queues = (p : ℕ) → p < length queues
    → HasRoomFor (queue_on queues p) (number_on gives p)

-- in each queue what a firing left in its cells was sent
pub record AreSent (action : Action) (cells : List ℤ) (old new : List Queue) : Type 0 where
  pub size : length new ≡ length old
  pub each : (p : ℕ) → p < length old → queue_on new p
      ≡ sent_to (queue_on old p) (cells_from cells (number_on action.sends p)
      (number_on action.gives p))

-- nothing is in these queues any more
pub record AreEmptied (old new : List Queue) : Type 0 where
  pub size : length new ≡ length old
  pub each : (p : ℕ) → p < length old
      → queue_on new p ≡ record { tokens = []; capacity = (queue_on old p).capacity }

-- empty queues of these capacities
pub record AreFresh (capacities : List ℕ) (queues : List Queue) : Type 0 where
  pub size : length queues ≡ length capacities
  pub each : (p : ℕ) → p < length capacities
      → queue_on queues p ≡ record { tokens = []; capacity = number_on capacities p }

-- a queue can hold so many tokens; if nobody reads it, the room is the one that is named then
pub record MayHold (queue : Queue) (room : ℕ) : Type 0 where
  pub read : 0 < queue.capacity → room ≤ queue.capacity
  pub unread : queue.capacity ≡ 0 → room ≡ unread_room

-- the same of the first n queues and rooms
abbrev pub MayHoldEach : List Queue → List ℕ → ℕ → Type 0
MayHoldEach queues rooms n = (p : ℕ) → p < n → MayHold (queue_on queues p) (number_on rooms p)

-- what a queue holds once an action has given its tokens is within the room of its port
abbrev pub IsInRoom : List Queue → List ℕ → List ℕ → ℕ → Type 0
IsInRoom queues gives rooms p =
    length (queue_on queues p).tokens + number_on gives p ≤ number_on rooms p

abbrev pub AreInRoom : List Queue → List ℕ → List ℕ → Type 0
AreInRoom queues gives rooms = (p : ℕ) → p < length queues → IsInRoom queues gives rooms p

-- p is the first port at which it isn't
pub record IsFirstLacking (queues : List Queue) (gives rooms : List ℕ) (p : ℕ) : Type 0 where
  pub there : p < length queues
  pub lacks : number_on rooms p < length (queue_on queues p).tokens + number_on gives p
  pub first : (q : ℕ) → q < p → IsInRoom queues gives rooms q
