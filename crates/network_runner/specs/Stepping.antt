-- The steps of a round of a runner, and what it leaves before what is buffered is put.
-- Not trusted: no promise is read with it.
use Rattle.std.specs.Prelude.{◌≡◌, ◌⊎◌, ℕ, suc, ◌+◌, ◌≤◌, ◌==◌, true, false, List, [], ◌∷◌, ℤ, drop, slice_index_or, if◌then◌else◌}
use Rattle.rvc_io.specs.Channels.{Appends, Channels}
use Rattle.rvc_io.specs.Feeds.{Inputs}
use Rattle.channel_writer.specs.Held.{AppendsFront}
use Rattle.net_model.specs.declared.wiring.Link.{Link}
use Rattle.net_model.specs.Network.{Network, is_net_port, kind_at}
use Rattle.net_model.specs.State.{Flow, State, sent_to}
use Rattle.net_model.specs.Cell.{Cell}
use Rattle.net_model.specs.Paced.{Block, IsRound, lines_of}
use Rattle.net_model.specs.PortFile.{all_encoded}
use Rattle.net_state.specs.declared.filling.Filled.{Filled}
use Rattle.net_state.specs.Standing.{StandsIn}
use Rattle.net_state.specs.Working.{IsAtRest}
use Rattle.round_runner.specs.declared.outcome.RoundEnd.{RoundEnd}
use Rattle.round_runner.specs.declared.outcome.RoundEnd.TheVariants as round
use Rattle.round_runner.specs.declared.outcome.RunEnd.{RunEnd}
use Rattle.round_runner.specs.declared.outcome.RunEnd.TheVariants as end
use Rattle.round_runner.specs.Firings.{journals}
use Rattle.round_runner.specs.Rounds.{Answers, BrokenOff, CountsOn, EachOut, Made, OutGetsFront, OutGetsSome, TraceGetsFront, TraceGetsSome, text_of}
use Rattle.round_runner.specs.Pulling.{NeedsPull}
use Rattle.round_runner.specs.Running.{IsRunOf, Running, StandsWith, buffer, moment_of, pace_of}
use Rattle.network_runner.specs.declared.firing.Turn.{Turn}
use Rattle.network_runner.specs.Asking.{seen_run}
use Rattle.network_runner.specs.Counting.{arrived_with, rests_with, sent_with}
use Rattle.network_runner.specs.Delivering.{IsDelivered}
use Rattle.network_runner.specs.Rounding.{CountsTo, MakesRound}

-- What is sent out.

-- a runner for whose channels this is buffered
abbrev pub with_buffers : {C : Type 0} → Running C → List ℕ → List (List ℕ) → Running C
with_buffers run trace buffers = record run { trace = trace; buffers = buffers }

-- the tokens that were sent to network output p and haven't arrived, and their bytes
abbrev pub left_to : ℕ → List Link → List Flow → List ℤ
left_to p [] flows = []
left_to p (link ∷ links) [] = []
left_to p (link ∷ links) (flow ∷ flows) =
    if is_net_port p link.to then drop flow.arrived flow.sent else left_to p links flows

abbrev pub left_bytes : {X : Type 0} → Network X → State X → ℕ → List ℕ
left_bytes net s p = all_encoded (kind_at net.outs p) (left_to p net.links s.flows)

-- each output that is written got these bytes
abbrev pub EachWritten : {C : Type 0} → Running C → (ℕ → List ℕ → Type 0) → (ℕ → List ℕ) → Type 0
EachWritten run P text = (p : ℕ) → slice_index_or run.writes p false ≡ true → P p (text p)

-- in each state that stands: each output got what was sent there and hasn't arrived; it got a prefix
abbrev pub SendsOut : {X : Type 0} → Running (Cell X) → Running (Cell X) → Channels → Channels
    → Type 0
SendsOut {X} run new old now = (net : Network X) (s : State X) → IsRunOf net run
    → StandsIn net run.held s → EachWritten run (OutGetsSome run new old now) (left_bytes net s)

abbrev pub SendsFront : {X : Type 0} → Running (Cell X) → Channels → Channels → Type 0
SendsFront {X} run old now = (net : Network X) (s : State X) → IsRunOf net run
    → StandsIn net run.held s → EachWritten run (OutGetsFront run old now) (left_bytes net s)

-- What a round that is answered so sent to outputs was written, and its lines were, which its firings name.
pub record WritesRound {X : Type 0} (answer : RoundEnd) (run new : Running (Cell X)) (old now : Channels) : Type 0 where
  pub lines : (block : Block) → Answers answer block → journals run.held.cells ≡ block.bursts
      → TraceGetsSome run new old now (text_of (lines_of block))
  pub outputs : SendsOut run new old now

-- each channel got a prefix of that
pub record WritesFront {X : Type 0} (answer : RoundEnd) (run : Running (Cell X)) (old now : Channels) : Type 0 where
  pub lines : (block : Block) → Answers answer block → journals run.held.cells ≡ block.bursts
      → TraceGetsFront run old now (text_of (lines_of block))
  pub outputs : SendsFront run old now

-- the channel of an output that is written
abbrev pub IsOutChannel : {C : Type 0} → Running C → ℕ → Type 0
IsOutChannel run channel =
    (p : ℕ) × (slice_index_or run.writes p false ≡ true) × (channel ≡ 2 + p)

-- each channel of the run got what was buffered for it; it got a prefix
pub record PutsAll {C : Type 0} (run : Running C) (old now : Channels) : Type 0 where
  pub trace : Appends 1 old now run.trace
  pub outputs : (p : ℕ) → slice_index_or run.writes p false ≡ true
      → Appends (2 + p) old now (buffer run p)

pub record PutsFronts {C : Type 0} (run : Running C) (old now : Channels) : Type 0 where
  pub trace : AppendsFront 1 old now run.trace
  pub outputs : (p : ℕ) → slice_index_or run.writes p false ≡ true
      → AppendsFront (2 + p) old now (buffer run p)

-- What is put at an end: nothing where the run goes on or a write has failed, else all, or a prefix if a write fails now.
abbrev pub PutsBy : {C : Type 0} → RoundEnd → RoundEnd → Running C → Channels → Channels → Type 0
PutsBy (round.End (end.WriteFault channel)) result run old now =
    (result ≡ round.End (end.WriteFault channel)) × (now ≡ old)
PutsBy (round.End how) result run old now = ((result ≡ round.End how) × PutsAll run old now)
    ⊎ ((channel : ℕ) × (result ≡ round.End (end.WriteFault channel)) × PutsFronts run old now)
PutsBy answer result run old now = (result ≡ answer) × (now ≡ old)

-- nothing but what is buffered and the end has changed
abbrev pub SameButEnd : {C : Type 0} → Running C → Running C → Type 0
SameButEnd old new =
    new ≡ record old { trace = new.trace; buffers = new.buffers; ended = new.ended }

-- A delivery was made and counted.
pub record DeliversRun {X : Type 0} (run new : Running (Cell X)) (feeds_old feeds_new : Inputs) :
    Type 0 where
  pub rests : IsAtRest new.held
  pub few_held : (l : ℕ) → slice_index_or run.held.capacities l 0 ≤ 4294967295
  pub came : List Filled
  pub arrived : new.counts.arrived.items ≡ arrived_with came run.counts.arrived.items
  pub rests_are : new.counts.rests.items ≡ rests_with came run.counts.rests.items
  pub sent : new.counts.sent.items ≡ run.counts.sent.items
  pub firings : new.counts.firings ≡ run.counts.firings
  pub rounds : new.counts.rounds ≡ run.counts.rounds
  pub states : (net : Network X) (inputs : List (List ℕ)) (s : State X)
      → StandsWith net inputs run feeds_old s
      → IsDelivered net inputs s new.held new.readings feeds_new came

-- It couldn't be, since of this feed, from which it has to pull, nothing could be read.
abbrev pub StopsRun : {X : Type 0} → Running (Cell X) → (feed : ℕ) → Inputs → Inputs → Type 0
StopsRun {X} run feed feeds_old feeds_new = (net : Network X) (inputs : List (List ℕ)) (s : State X)
    → StandsWith net inputs run feeds_old s → NeedsPull net inputs s feed feeds_new

-- by what the next round is made
abbrev pub turn_of : {C : Type 0} → Running C → ℕ → Turn
turn_of run left = record {
  round = suc run.rounds;
  idle = run.idle;
  left = left;
  burst = run.burst;
  grow = run.grow;
}

-- The firings of a round were made and counted, behind its delivery.
pub record FiresRun {X : Type 0} (left : ℕ) (answer : RoundEnd) (run new : Running (Cell X)) :
    Type 0 where
  pub fired : ℕ
  pub makes : MakesRound run.kind (turn_of run left) answer fired run.held new.held
  pub within : fired ≤ left
  pub counted : CountsTo answer fired
  pub rounds : new.rounds ≡ suc run.rounds
  pub idle : new.idle ≡ (fired == 0)
  pub firings : new.counts.firings ≡ run.counts.firings + fired
  pub count : new.counts.rounds ≡ suc run.counts.rounds
  pub arrived : new.counts.arrived.items ≡ run.counts.arrived.items
  pub rests : new.counts.rests.items ≡ run.counts.rests.items
  pub sent : new.counts.sent.items
      ≡ sent_with new.held.cells new.held.links run.counts.sent.items

-- what a delivery doesn't change
pub record KeepsOthers {C : Type 0} (run new : Running C) : Type 0 where
  pub rounds : new.rounds ≡ run.rounds
  pub idle : new.idle ≡ run.idle
  pub trace : new.trace ≡ run.trace
  pub buffers : new.buffers ≡ run.buffers
  pub ended : new.ended ≡ run.ended

-- A round before what is buffered is put.

-- a round was made, which ended the run
pub record ClosedSoFar {X : Type 0} (net : Network X) (inputs : List (List ℕ)) (budget left : ℕ)
    (s : State X) (how : RunEnd) (run new : Running (Cell X)) (old now : Channels) : Type 0 where
  pub block : Block
  pub last : State X
  pub is_round : IsRound net (pace_of run budget) (moment_of run s left) block last
  pub answers : Answers (round.End how) block
  pub trace : TraceGetsSome run new old now (text_of (lines_of block))
  pub outputs : EachOut net run (OutGetsSome run new old now) s (λ p. sent_to p net.links last.flows)
  pub counts : CountsOn net inputs s (lines_of block) last run.counts new.counts

-- a feed couldn't be read, of which the delivery has to pull
pub record CutSoFar {X : Type 0} (net : Network X) (inputs : List (List ℕ)) (s : State X) (feed : ℕ)
    (run new : Running (Cell X)) (feeds : Inputs) (old now : Channels) : Type 0 where
  pub needs : NeedsPull net inputs s feed feeds
  pub trace : TraceGetsSome run new old now []
  pub outputs : EachOut net run (OutGetsSome run new old now) s (λ p. sent_to p net.links s.flows)
  pub counts : new.counts ≡ run.counts

-- what a round leaves so far, by its answer
abbrev pub LeavesSoFar : {X : Type 0} → Network X → List (List ℕ) → ℕ → ℕ → State X → RoundEnd
    → Running (Cell X) → Running (Cell X) → Inputs → Channels → Channels → Type 0
LeavesSoFar net inputs budget left s (round.Fired n) run new feeds old now =
    Made net inputs budget left s (round.Fired n) run new feeds old now
LeavesSoFar net inputs budget left s round.Idle run new feeds old now =
    Made net inputs budget left s round.Idle run new feeds old now
LeavesSoFar net inputs budget left s (round.Grew link capacity) run new feeds old now =
    Made net inputs budget left s (round.Grew link capacity) run new feeds old now
LeavesSoFar net inputs budget left s (round.End end.Quiet) run new feeds old now =
    ClosedSoFar net inputs budget left s end.Quiet run new old now
LeavesSoFar net inputs budget left s (round.End (end.Trapped inst action trap)) run new feeds old now =
    ClosedSoFar net inputs budget left s (end.Trapped inst action trap) run new old now
LeavesSoFar net inputs budget left s (round.End (end.Stalled inst action link)) run new feeds old now =
    ClosedSoFar net inputs budget left s (end.Stalled inst action link) run new old now
LeavesSoFar net inputs budget left s (round.End end.Budget) run new feeds old now =
    ClosedSoFar net inputs budget left s end.Budget run new old now
LeavesSoFar net inputs budget left s (round.End (end.ReadFault feed)) run new feeds old now =
    CutSoFar net inputs s feed run new feeds old now
LeavesSoFar net inputs budget left s (round.End (end.WriteFault channel)) run new feeds old now =
    BrokenOff net budget left s run old now

-- the same from each state at which it stands
module _ {C S T X : Type 0} (cell : C → Cell X) (feeds : S → Inputs) (channels : T → Channels)
    (old new : Running C) (feeds_old feeds_new : S) (drains_old drains_new : T) where
  abbrev pub RoundLeavesSoFar : ℕ → RoundEnd → Type 0
  RoundLeavesSoFar left answer = (net : Network X) (inputs : List (List ℕ)) (budget : ℕ)
      (s : State X) → StandsWith net inputs (seen_run cell old) (feeds feeds_old) s
      → LeavesSoFar net inputs budget left s answer (seen_run cell old) (seen_run cell new)
      (feeds feeds_new) (channels drains_old) (channels drains_new)
