-- Pacing: which lines the rounds of a run write, by its policy, burst and budget. The number of workers isn't
-- among what they depend on.
-- Trusted: part of what a promise means.
use Rattle.std.specs.Prelude.{◌≡◌, ℕ, suc, ◌+◌, ◌-◌, ◌<◌, ◌⊎◌, ◌==◌, ◌||◌, ◌&&◌, nat_le, Bool, true, false, List, [], ◌∷◌, ◌++◌, length, map, flat_map, min, slice_get, Option, None, Some, if◌then◌else◌, MatchBool}
use Rattle.rvc_base.specs.declared.trap.Trap.{Trap as TrapName}
use Rattle.rvc_base.specs.declared.round_kind.RoundKind.{RoundKind}
use Rattle.rvc_base.specs.Picks.{picks}
use Rattle.rvc_base.specs.Shares.{allowed}
use Rattle.rvc_base.specs.Behaviour.{TrapsInBody, Waits, Picks, Faults}
use Rattle.trace_text.specs.declared.line.Line.{Line}
use Rattle.trace_text.specs.declared.line.Line.TheVariants.{Fire as FireLine, Deliver as DeliverLine, Grow as GrowLine, Quiet, Trap as TrapLine, Stall, Budget}
use Rattle.net_model.specs.declared.wiring.End.{End}
use Rattle.net_model.specs.declared.wiring.End.TheVariants.{Leaf as AtLeaf, Net as AtNet}
use Rattle.net_model.specs.declared.wiring.Link.{Link}
use Rattle.net_model.specs.Network.{Network}
use Rattle.net_model.specs.State.{Flow, State, effect_at, choice_at, give_of}
use Rattle.net_model.specs.Event.{Fire, happens}
use Rattle.net_model.specs.Ends.{IsQuiet, IsStuck, Grows, IsBetween}
use Rattle.net_model.specs.Trace.{after_delivery, held_since, played, OnNext}

-- what a run is paced by
pub record Pace : Type 0 where
  -- the policy that picks leaves
  pub kind : RoundKind
  -- the most firings of a leaf in one round, and of all leaves in the run
  pub burst : ℕ
  pub budget : ℕ
  -- the greatest capacity that a link may grow to at a stall; 0 if none may grow
  pub grow : ℕ

-- where a run stands between two rounds
pub record Moment (X : Type 0) : Type 0 where
  pub state : State X
  -- the number of the next round, counted from 1
  pub round : ℕ
  -- a round was made, and the last one fired nothing
  pub idle : Bool
  -- how many firings are left of the budget
  pub left : ℕ

-- where a run begins
abbrev pub first_moment : {X : Type 0} → Pace → State X → Moment X
first_moment pace s = record { state = s; round = 1; idle = false; left = pace.budget }

-- what closes a round: nothing, a link that grows, or the end of the run
pub data Close : Type 0 where
  GoesOn : Close
  Widens : (l capacity : ℕ) → Close
  Ends : Line → Close

-- a round: the actions that each leaf fires, by leaf, and what closes it
pub record Block : Type 0 where
  pub bursts : List (List ℕ)
  pub close : Close

-- the lines of firings, from leaf i on
abbrev pub fire_lines : ℕ → List (List ℕ) → List Line
fire_lines i [] = []
fire_lines i (actions ∷ bursts) = map (FireLine i) actions ++ fire_lines (suc i) bursts

abbrev pub close_lines : Close → List Line
close_lines GoesOn = []
close_lines (Widens l capacity) = GrowLine l capacity ∷ []
close_lines (Ends line) = line ∷ []

abbrev pub lines_of : Block → List Line
lines_of block = DeliverLine ∷ fire_lines 0 block.bursts ++ close_lines block.close

-- how many firings a round has
abbrev pub count_of : List (List ℕ) → ℕ
count_of [] = 0
count_of (actions ∷ bursts) = length actions + count_of bursts

-- Which leaves are picked.

abbrev pub none_of : List Bool → Bool
none_of [] = true
none_of (true ∷ marks) = false
none_of (false ∷ marks) = none_of marks

-- those that the policy picks; all if it picks none, or if the round before fired nothing
abbrev pub picked : {X : Type 0} → Network X → Pace → Moment X → List Bool
picked net pace at =
    if at.idle || none_of (picks pace.kind (length net.leaves) at.round)
    then map (λ leaf. true) net.leaves
    else picks pace.kind (length net.leaves) at.round

abbrev pub count_picked : List Bool → ℕ
count_picked [] = 0
count_picked (true ∷ marks) = suc (count_picked marks)
count_picked (false ∷ marks) = count_picked marks

-- How often a leaf may fire: the k-th of the picked ones, if the lower ones fired so often in the round.
-- If fewer firings are left than leaves are picked, they are given out one leaf after another.
abbrev pub limit_of : ℕ → ℕ → ℕ → ℕ → ℕ → ℕ
limit_of burst left picks k fired = if nat_le picks left then allowed left picks burst k
    else min burst (left - fired)

-- Room.

-- a link leads from port p of leaf i, and what the action gives there passes its capacity, with what was
-- untaken when the round was opened and what was sent in the round
abbrev pub PassesRoom : (ℕ → ℕ) → ℕ → Flow → Flow → End → Type 0
PassesRoom gives i opened flow (AtLeaf inst port) =
    (i ≡ inst.0) × (flow.capacity < held_since opened flow + gives port)
PassesRoom gives i opened flow (AtNet port) = ⊥

abbrev pub PassesOn : (ℕ → ℕ) → ℕ → Option Link → Option Flow → Option Flow → Type 0
PassesOn gives i (Some link) (Some opened) (Some flow) = PassesRoom gives i opened flow link.from
PassesOn gives i (Some link) (Some opened) None = ⊥
PassesOn gives i (Some link) None flow = ⊥
PassesOn gives i None opened flow = ⊥

-- what action a of leaf i gives passes the room of link l
abbrev pub PassesLink : {X : Type 0} → Network X → State X → State X → ℕ → ℕ → ℕ → Type 0
PassesLink net opened s i a l =
    PassesOn (give_of (slice_get net.leaves i) a) i (slice_get net.links l)
    (slice_get opened.flows l) (slice_get s.flows l)

-- action a of leaf i has room on each link
abbrev pub HasRoomIn : {X : Type 0} → Network X → State X → State X → ℕ → ℕ → Type 0
HasRoomIn net opened s i a = (l : ℕ) → PassesLink net opened s i a l → ⊥

-- Bursts.

-- why a leaf fires no more in a round
pub data Halt : Type 0 where
  Unpicked : Halt
  Spent : Halt
  Waiting : Halt
  NoRoom : Halt
  Trapping : ℕ → TrapName → Halt

-- the choice is to trap, or to fire an action that has room and then traps
abbrev pub TrapsIn : {X : Type 0} → Network X → State X → State X → ℕ → ℕ → TrapName → Type 0
TrapsIn net opened s i a cause = (choice_at net s i ≡ Faults a cause)
    ⊎ ((choice_at net s i ≡ Picks a) × HasRoomIn net opened s i a
    × (effect_at net s i a ≡ Some (TrapsInBody cause)))

-- leaf i may fire so often still, and this is why it fires no more
abbrev pub HaltsAt : {X : Type 0} → Network X → State X → ℕ → ℕ → State X → Halt → Type 0
HaltsAt net opened i limit s Unpicked = ⊥
HaltsAt net opened i limit s Spent = limit ≡ 0
HaltsAt net opened i limit s Waiting = (0 < limit) × (choice_at net s i ≡ Waits)
HaltsAt net opened i limit s NoRoom =
    (0 < limit) × ((a : ℕ) × (l : ℕ) × (choice_at net s i ≡ Picks a)
    × PassesLink net opened s i a l)
HaltsAt net opened i limit s (Trapping a cause) = (0 < limit) × TrapsIn net opened s i a cause

-- Leaf i fires its choices, each with room, up to the first moment at which it halts.
abbrev pub IsBurst : {X : Type 0} → Network X → State X → ℕ → ℕ → State X → List ℕ → Halt → State X
    → Type 0
IsBurst net opened i limit s [] halt last = HaltsAt net opened i limit s halt × (s ≡ last)
IsBurst net opened i limit s (a ∷ actions) halt last =
    (0 < limit) × (choice_at net s i ≡ Picks a) × HasRoomIn net opened s i a
    × OnNext (happens net s (Fire i a))
    (λ next. IsBurst net opened i (limit - 1) next actions halt last)

-- the bursts of a round whose share is by these numbers
pub record Share : Type 0 where
  pub burst : ℕ
  pub left : ℕ
  pub picks : ℕ

-- The leaves from i on fire one after another, those that are picked. k of the lower ones were picked and
-- fired so often.
abbrev pub AreBursts : {X : Type 0} → Network X → State X → Share → List Bool → ℕ → ℕ → ℕ → State X
    → List (List ℕ) → List Halt → State X → Type 0
AreBursts net opened share [] i k fired s [] [] last = s ≡ last
AreBursts {X} net opened share (true ∷ marks) i k fired s (actions ∷ bursts) (halt ∷ halts) last =
    (next : State X)
    × IsBurst net opened i (limit_of share.burst share.left share.picks k fired) s actions halt next
    × AreBursts net opened share marks (suc i) (suc k)
    (fired + length actions) next bursts halts last
AreBursts net opened share (false ∷ marks) i k fired s (actions ∷ bursts) (halt ∷ halts) last =
    (actions ≡ []) × (halt ≡ Unpicked)
    × AreBursts net opened share marks (suc i) k fired s bursts halts last
AreBursts net opened share marks i k fired s bursts halts last = ⊥

-- Closing.

-- the lowest leaf that traps, from leaf i on
abbrev pub first_trap : ℕ → List Halt → Option Line
first_trap i [] = None
first_trap i (Trapping a cause ∷ halts) = Some (TrapLine i a cause)
first_trap i (Unpicked ∷ halts) = first_trap (suc i) halts
first_trap i (Spent ∷ halts) = first_trap (suc i) halts
first_trap i (Waiting ∷ halts) = first_trap (suc i) halts
first_trap i (NoRoom ∷ halts) = first_trap (suc i) halts

-- the budget is spent: the run ends quiet, stuck or by its budget
abbrev pub ClosesSpent : {X : Type 0} → Network X → ℕ → State X → Close → Type 0
ClosesSpent net grow s (Ends Quiet) = IsQuiet net s
ClosesSpent net grow s (Ends (Stall i a l)) = IsStuck net grow s i a l
ClosesSpent net grow s (Ends Budget) = IsBetween net grow s
ClosesSpent net grow s close = ⊥

-- all were picked and nothing fired: the run ends quiet or stuck, or a link grows
abbrev pub ClosesIdle : {X : Type 0} → Network X → ℕ → State X → Close → Type 0
ClosesIdle net grow s (Ends Quiet) = IsQuiet net s
ClosesIdle net grow s (Ends (Stall i a l)) = IsStuck net grow s i a l
ClosesIdle net grow s (Widens l capacity) = Grows net grow s l capacity
ClosesIdle net grow s close = ⊥

abbrev pub ClosesUntrapped : {X : Type 0} → Network X → ℕ → List Bool → List (List ℕ) → State X
    → Close → Type 0
ClosesUntrapped net grow marks bursts s close =
    MatchBool ((count_picked marks == length marks) && (count_of bursts == 0))
    (ClosesIdle net grow s close) (close ≡ GoesOn)

-- the lowest leaf's trap ends the run
abbrev pub ClosesBy : {X : Type 0} → Network X → ℕ → List Bool → List (List ℕ) → Option Line
    → State X → Close → Type 0
ClosesBy net grow marks bursts (Some line) s close = close ≡ Ends line
ClosesBy net grow marks bursts None s close = ClosesUntrapped net grow marks bursts s close

abbrev pub Closes : {X : Type 0} → Network X → Pace → Moment X → Block → List Halt → State X
    → Type 0
Closes net pace at block halts s = MatchBool (at.left == 0)
    (ClosesSpent net pace.grow s block.close)
    (ClosesBy net pace.grow (picked net pace at) block.bursts (first_trap 0 halts) s block.close)

-- Rounds.

abbrev pub share_of : {X : Type 0} → Network X → Pace → Moment X → Share
share_of net pace at =
    record { burst = pace.burst; left = at.left; picks = count_picked (picked net pace at) }

-- one round: a delivery, the bursts of the picked leaves, and what closes it
pub record IsRound {X : Type 0} (net : Network X) (pace : Pace) (at : Moment X) (block : Block)
    (last : State X) : Type 0 where
  pub untrapped : at.state.trapped ≡ false
  pub halts : List Halt
  pub fired : State X
  pub bursts :
      AreBursts net (after_delivery net at.state) (share_of net pace at) (picked net pace at) 0 0 0
      (after_delivery net at.state) block.bursts halts fired
  pub closes : Closes net pace at block halts fired
  pub leads : played net fired (close_lines block.close) ≡ Some last

-- where the run stands after a round that led to this state
abbrev pub next_moment : {X : Type 0} → Moment X → Block → State X → Moment X
next_moment at block last = record {
  state = last;
  round = suc at.round;
  idle = count_of block.bursts == 0;
  left = at.left - count_of block.bursts;
}

abbrev pub EndsRun : Close → Type 0
EndsRun GoesOn = ⊥
EndsRun (Widens l capacity) = ⊥
EndsRun (Ends line) = Unit {0}

-- rounds one after another, none of which ends the run
abbrev pub AreRounds : {X : Type 0} → Network X → Pace → Moment X → List Block → Moment X → Type 0
AreRounds net pace at [] reached = at ≡ reached
AreRounds {X} net pace at (block ∷ blocks) reached =
    (last : State X) × IsRound net pace at block last × (EndsRun block.close → ⊥)
    × AreRounds net pace (next_moment at block last) blocks reached

-- Lines are begun from a state: they are whole rounds, perhaps none, and no end has come yet.
pub record IsBegun {X : Type 0} (net : Network X) (pace : Pace) (s : State X) (lines : List Line)
    (reached : Moment X) : Type 0 where
  pub blocks : List Block
  pub rounds : AreRounds net pace (first_moment pace s) blocks reached
  pub lines_are : lines ≡ flat_map lines_of blocks

-- Lines are paced from a state: they are begun, and one round more ends the run.
pub record IsPaced {X : Type 0} (net : Network X) (pace : Pace) (s : State X) (lines : List Line)
    (last : State X) : Type 0 where
  pub blocks : List Block
  pub reached : Moment X
  pub rounds : AreRounds net pace (first_moment pace s) blocks reached
  pub final : Block
  pub ending : IsRound net pace reached final last
  pub ends : EndsRun final.close
  pub lines_are : lines ≡ flat_map lines_of blocks ++ lines_of final
