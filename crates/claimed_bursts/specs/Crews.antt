-- The workers of a round, and what they leave of the pieces that they claim.
-- Trusted but for `IsFree` and `HasEnded`: part of what a promise means.
use Rattle.std.specs.Prelude.{◌≡◌, ℕ, ◌+◌, ◌<◌, Bool, true, List, length, None}
use Rattle.claim_board.specs.Pieces.{IsWorked}
use Rattle.claim_board.specs.Seen.{AtEachPlace, BoardSeen, IsPassOf, PassSeen}
use Rattle.claimed_bursts.specs.declared.crew.Crew.{Crew}

-- each worker of a crew has arrived at the gate in its round
abbrev pub HaveArrived : (arrived : ℕ → ℕ → Type 0) → Crew → Type 0
HaveArrived arrived crew = (k : ℕ) → k < crew.count → arrived crew.round (crew.first + k)

-- each piece stands at the place where it was put, worked once
pub record AreAllWorked {P X : Type 0} (state : P → X) (marked : P → Bool)
    (gives : X → X → Type 0) (put done : List P) : Type 0 where
  pub places : length done ≡ length put
  pub each : AtEachPlace (IsWorked state marked gives put) done

-- a pass of the board that holds no piece
pub record IsFree {P : Type 0} (board : BoardSeen P) (pass : PassSeen P) : Type 0 where
  pub own : IsPassOf board pass
  pub free : pass.held ≡ None

-- .. and was answered that no piece is left
pub record HasEnded {P : Type 0} (board : BoardSeen P) (pass : PassSeen P) : Type 0 where
  pub own : IsPassOf board pass
  pub free : pass.held ≡ None
  pub ended : pass.ended ≡ true
