-- What a runner asks of its callers, and what its calls leave, by what the code holds.
-- Trusted: part of what a promise means.
use Rattle.std.specs.Prelude.{◌≡◌, ◌⊎◌, ℕ, ◌+◌, ◌-◌, ◌*◌, ◌≤◌, Bool, true, false, List, [], ◌∷◌, length, map, slice_get, slice_index_or, Option, None, Some}
use Rattle.rvc_base.specs.declared.round_kind.RoundKind.{RoundKind}
use Rattle.rvc_base.specs.declared.scalar.Scalar.{Scalar}
use Rattle.rvc_base.specs.Storing.{IsSize}
use Rattle.rvc_io.specs.Channels.{Channels, WriteFails}
use Rattle.rvc_io.specs.Feeds.{Inputs, ReadFails}
use Rattle.port_files.specs.Coming.{Reading}
use Rattle.net_model.specs.declared.wiring.End.{End}
use Rattle.net_model.specs.declared.wiring.End.TheVariants.{Leaf as AtLeaf, Net as AtNet}
use Rattle.net_model.specs.declared.wiring.Link.{Link}
use Rattle.net_model.specs.declared.wiring.Port.{Port}
use Rattle.net_model.specs.declared.wiring.Wiring.{Wiring}
use Rattle.net_model.specs.Network.{Network}
use Rattle.net_model.specs.State.{State}
use Rattle.net_model.specs.Cell.{Cell}
use Rattle.net_model.specs.Counted.{IsCounted}
use Rattle.net_model.specs.PacingLaws.{CanBegin}
use Rattle.net_model.specs.Ready.{IsNetworkOf, IsReady, given_state}
use Rattle.net_state.specs.Beginning.{HaveSizes, NoneUnlinked}
use Rattle.net_state.specs.Held.{seen}
use Rattle.net_state.specs.Moving.{SameActors}
use Rattle.round_runner.specs.declared.outcome.Plan.{Plan}
use Rattle.round_runner.specs.declared.outcome.RoundEnd.{RoundEnd}
use Rattle.round_runner.specs.declared.outcome.RoundEnd.TheVariants as round
use Rattle.round_runner.specs.declared.outcome.RunEnd.{RunEnd}
use Rattle.round_runner.specs.declared.outcome.RunEnd.TheVariants as end
use Rattle.round_runner.specs.Rounds.{Leaves, RunLeaves}
use Rattle.round_runner.specs.Running.{Running, StandsWith, buffer, feed_of, has_feed}
use Rattle.network_runner.specs.Sending.{max_outlets}

-- a runner with all that is seen of each cell
abbrev pub seen_run : {C X : Type 0} → (C → Cell X) → Running C → Running (Cell X)
seen_run cell run = record {
  held = seen cell run.held;
  ins = run.ins;
  outs = run.outs;
  reads = run.reads;
  writes = run.writes;
  readings = run.readings;
  kind = run.kind;
  burst = run.burst;
  grow = run.grow;
  workers = run.workers;
  rounds = run.rounds;
  idle = run.idle;
  trace = run.trace;
  buffers = run.buffers;
  counts = run.counts;
  ended = run.ended;
}

-- What is asked of cells, wiring and plan.

abbrev pub kinds_of : List Port → List Scalar
kinds_of ports = map (λ port. port.kind) ports

-- each port has a type of tokens
abbrev pub HavePortSizes : List Port → Type 0
HavePortSizes ports = (p : ℕ) (port : Port) → slice_get ports p ≡ Some port → IsSize port.kind

-- Cells and wiring that can be run by a plan: they make a network that is ready to be run.
pub record CanRun {X : Type 0} (cells : List (Cell X)) (wiring : Wiring) (plan : Plan) :
    Type 0 where
  pub net : Network X
  pub is_of : IsNetworkOf net cells wiring
  pub ready : IsReady net plan.grow plan.burst cells
  pub sizes : HaveSizes wiring.links.items
  pub in_sizes : HavePortSizes wiring.ins.items
  pub out_sizes : HavePortSizes wiring.outs.items
  pub unlinked : NoneUnlinked cells wiring.links.items
  pub few_outs : length wiring.outs.items ≤ max_outlets
  pub workers : (1 ≤ plan.workers) × (plan.workers ≤ 64)
  pub bursts : (1 ≤ plan.burst) × (plan.burst ≤ 65536)

-- The start of a run.

-- The bytes of an input's file are what is left on its feed; without a feed there are none.
abbrev pub HasInput : List (List ℕ) → Bool → ℕ → Option (List ℕ) → Type 0
HasInput inputs true port left = left ≡ Some (slice_index_or inputs port [])
HasInput inputs false port left = slice_index_or inputs port [] ≡ []

abbrev pub HasInputOn : List (List ℕ) → List Bool → End → Option (List ℕ) → Type 0
HasInputOn inputs reads (AtLeaf inst port) left = Unit {0}
HasInputOn inputs reads (AtNet port) left =
    HasInput inputs (slice_index_or reads port false) port left

-- the same of each input link
abbrev pub HaveInputs : List (List ℕ) → List Link → List Bool → Inputs → Type 0
HaveInputs inputs links reads feeds = (l : ℕ) (link : Link) → slice_get links l ≡ Some link
    → HasInputOn inputs reads link.from (feeds.left (feed_of links l))

-- The runner stands at a state in which a run may begin, and its numbers count no line.
pub record IsAtStart {X : Type 0} (net : Network X) (inputs : List (List ℕ))
    (run : Running (Cell X)) (feeds : Inputs) (s : State X) : Type 0 where
  pub stands : StandsWith net inputs run feeds s
  pub may_begin : CanBegin net s
  pub counted : IsCounted net inputs s [] s run.counts

-- A runner that was just made stands at the start of a run from its cells, and nothing was read or written yet.
pub record Begins {X : Type 0} (cells : List (Cell X)) (wiring : Wiring) (plan : Plan)
    (kind : RoundKind) (run : Running (Cell X)) : Type 0 where
  pub cells_are : run.held.cells ≡ cells
  pub links_are : run.held.links ≡ wiring.links.items
  pub ins : run.ins ≡ kinds_of wiring.ins.items
  pub outs : run.outs ≡ kinds_of wiring.outs.items
  pub reads : run.reads ≡ wiring.open_ins.items
  pub writes : run.writes ≡ wiring.open_outs.items
  pub kind_is : run.kind ≡ kind
  pub burst : run.burst ≡ plan.burst
  pub grow : run.grow ≡ plan.grow
  pub workers : run.workers ≡ plan.workers
  pub rounds : run.rounds ≡ 0
  pub idle : run.idle ≡ false
  pub unread : (l : ℕ) (reading : Reading) → slice_get run.readings l ≡ Some (Some reading)
      → (reading.pulled ≡ []) × (reading.ended ≡ false)
  pub no_lines : run.trace ≡ []
  pub no_output : (p : ℕ) → buffer run p ≡ []
  pub no_firings : run.counts.firings ≡ 0
  pub no_rounds : run.counts.rounds ≡ 0
  pub going : run.ended ≡ None
  pub states : (net : Network X) (inputs : List (List ℕ)) (feeds : Inputs)
      → IsNetworkOf net cells wiring → IsReady net plan.grow plan.burst cells
      → HaveInputs inputs run.held.links run.reads feeds
      → IsAtStart net inputs run feeds (given_state net cells inputs)

-- What rounds ask of the outside.

-- the trace's channel is open, and that of each output that a word names
pub record ChannelsFit {C : Type 0} (run : Running C) (channels : Channels) : Type 0 where
  pub trace : channels.is_open 1 ≡ true
  pub outputs : (p : ℕ) → slice_index_or run.writes p false ≡ true
      → channels.is_open (2 + p) ≡ true

-- What rounds leave.

-- the end that a round answers
abbrev pub end_of : RoundEnd → Option RunEnd
end_of (round.Fired n) = None
end_of round.Idle = None
end_of (round.Grew link capacity) = None
end_of (round.End how) = Some how

-- how many firings a round answers that it made; one that ends the run doesn't say it
abbrev pub FiringsTo : RoundEnd → ℕ → ℕ → Type 0
FiringsTo (round.Fired n) old new = new ≡ old + n
FiringsTo round.Idle old new = new ≡ old
FiringsTo (round.Grew link capacity) old new = new ≡ old
FiringsTo (round.End how) old new = old ≤ new

-- how much links of these capacities may still grow, together
abbrev pub growth_left : ℕ → List ℕ → ℕ
growth_left grow [] = 0
growth_left grow (capacity ∷ capacities) = (grow - capacity) + growth_left grow capacities

abbrev pub one_if : Bool → ℕ
one_if true = 1
one_if false = 0

-- A round brings the run nearer to its end: it fires, or a link grows, or it is the first that fires nothing.
abbrev pub Advances : {C : Type 0} → Running C → Running C → Type 0
Advances old new =
    1 + 2 * growth_left new.grow new.held.capacities + one_if old.idle + 2 * old.counts.firings
    ≤ 2 * growth_left old.grow old.held.capacities + one_if new.idle + 2 * new.counts.firings

-- the feed of an input link that has one, and a channel that is written
abbrev pub IsFeed : {C : Type 0} → Running C → ℕ → Type 0
IsFeed run feed = (l : ℕ) × (link : Link) × (slice_get run.held.links l ≡ Some link)
    × (has_feed run.reads link.from ≡ true) × (feed ≡ feed_of run.held.links l)

abbrev pub IsChannel : {C : Type 0} → Running C → ℕ → Type 0
IsChannel run channel = (channel ≡ 1)
    ⊎ ((p : ℕ) × (slice_index_or run.writes p false ≡ true) × (channel ≡ 2 + p))

-- what no round changes
pub record IsSameRun {X : Type 0} (old new : Running (Cell X)) : Type 0 where
  pub same_links : new.held.links ≡ old.held.links
  pub same_actors : SameActors old.held.cells new.held.cells
  pub same_ins : new.ins ≡ old.ins
  pub same_outs : new.outs ≡ old.outs
  pub same_reads : new.reads ≡ old.reads
  pub same_writes : new.writes ≡ old.writes
  pub same_kind : new.kind ≡ old.kind
  pub same_burst : new.burst ≡ old.burst
  pub same_grow : new.grow ≡ old.grow
  pub same_workers : new.workers ≡ old.workers

-- no channel was opened or closed, and those that don't belong to the run hold what they held
pub record WritesWithin {C : Type 0} (run : Running C) (old new : Channels) : Type 0 where
  pub same_telling : new.tells ≡ old.tells
  pub same_open : (channel : ℕ) → new.is_open channel ≡ old.is_open channel
  pub same_others : old.tells ≡ true → (channel : ℕ) → (IsChannel run channel → ⊥)
      → new.held channel ≡ old.held channel
  pub faults_stay : old.faults ≤ new.faults

module _ {C S T X : Type 0} (cell : C → Cell X) (feeds : S → Inputs) (channels : T → Channels)
    (old new : Running C) (feeds_old feeds_new : S) (drains_old drains_new : T) where
  -- a fault of reading or writing comes only if the count of faults of its object rose, and only where it is read or
  -- written
  abbrev pub FaultIsTrue : Option RunEnd → Type 0
  FaultIsTrue None = Unit {0}
  FaultIsTrue (Some (end.ReadFault feed)) = ReadFails feeds feeds_old feeds_new × IsFeed old feed
  FaultIsTrue (Some (end.WriteFault channel)) = WriteFails channels drains_old drains_new
      × IsChannel old channel
  FaultIsTrue (Some end.Quiet) = Unit {0}
  FaultIsTrue (Some (end.Trapped inst action trap)) = Unit {0}
  FaultIsTrue (Some (end.Stalled inst action link)) = Unit {0}
  FaultIsTrue (Some end.Budget) = Unit {0}

  -- a call touched nothing
  abbrev pub IsUntouched : Type 0
  IsUntouched = (new ≡ old) × (feeds_new ≡ feeds_old) × (drains_new ≡ drains_old)

  -- what a round leaves, by its answer, from each state at which the runner stands, if the run hasn't ended
  abbrev pub RoundLeaves : ℕ → RoundEnd → Type 0
  RoundLeaves left answer = old.ended ≡ None → (net : Network X) (inputs : List (List ℕ))
      (budget : ℕ) (s : State X) → StandsWith net inputs (seen_run cell old) (feeds feeds_old) s
      → Leaves net inputs budget left s answer (seen_run cell old) (seen_run cell new)
      (feeds feeds_new) (channels drains_old) (channels drains_new)

  -- the same of a run
  abbrev pub EndLeaves : ℕ → RunEnd → Type 0
  EndLeaves budget how = old.ended ≡ None → (net : Network X) (inputs : List (List ℕ))
      (s : State X) → StandsWith net inputs (seen_run cell old) (feeds feeds_old) s
      → RunLeaves net inputs budget s how (seen_run cell old) (seen_run cell new)
      (feeds feeds_new) (channels drains_old) (channels drains_new)
