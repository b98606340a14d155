-- What the firings of a round do to the network, and how the round is closed.
-- Trusted but for `ClosedBy` and `MayClose`: part of what a promise means.
use Rattle.std.specs.Prelude.{◌≡◌, ℕ, ◌<◌, Bool, true, false, List, slice_get, slice_index_or, Option, None, Some}
use Rattle.rvc_base.specs.declared.round_kind.RoundKind.{RoundKind}
use Rattle.net_model.specs.declared.wiring.Link.{Link}
use Rattle.net_model.specs.Network.{Network}
use Rattle.net_model.specs.State.{State}
use Rattle.net_model.specs.Cell.{Cell}
use Rattle.net_model.specs.Laws.{AreLawful}
use Rattle.net_model.specs.Trace.{after_delivery}
use Rattle.net_model.specs.Paced.{Block, IsRound, Moment, Pace, count_of}
use Rattle.net_model.specs.Wired.{IsWired}
use Rattle.net_state.specs.Held.{Held, IsReader}
use Rattle.net_state.specs.Moving.{IsWriter}
use Rattle.net_state.specs.Standing.{StandsSince}
use Rattle.net_state.specs.Working.{AreFed, CanHold, IsAtRest, LacksAt}
use Rattle.net_state.specs.declared.made.Lacking.{Lacking}
use Rattle.net_state.specs.declared.made.Trapped.{Trapped}
use Rattle.round_runner.specs.declared.outcome.RoundEnd.{RoundEnd}
use Rattle.round_runner.specs.declared.outcome.RoundEnd.TheVariants as round
use Rattle.round_runner.specs.declared.outcome.RunEnd.TheVariants as end
use Rattle.round_runner.specs.Bursting.{NamesIts}
use Rattle.round_runner.specs.Firings.{journals}
use Rattle.round_runner.specs.Rounds.{Answers}
use Rattle.network_runner.specs.declared.firing.Turn.{Turn}
use Rattle.network_runner.specs.Closing.{ClosesAllIdle, MayGrow}

-- How a round is closed by what came of its bursts: by the lowest trap; else, if something fired or not all were
-- picked, it goes on; else it is idle.
pub record ClosedBy {X : Type 0} (trap : Option Trapped) (fired : ℕ) (lacks : Option Lacking)
    (all : Bool) (grow : ℕ) (answer : RoundEnd) (old new : Held (Cell X)) : Type 0 where
  pub by_trap : (trapped : Trapped) → trap ≡ Some trapped
      → (answer ≡ round.End (end.Trapped trapped.inst trapped.action trapped.trap)) × (new ≡ old)
  pub by_firing : trap ≡ None → 0 < fired → (answer ≡ round.Fired fired) × (new ≡ old)
  pub by_others : trap ≡ None → fired ≡ 0 → all ≡ false → (answer ≡ round.Idle) × (new ≡ old)
  pub by_none : trap ≡ None → fired ≡ 0 → all ≡ true → ClosesAllIdle grow lacks answer old new
  pub same_cells : new.cells ≡ old.cells

-- what is asked if all were picked and nothing fired
pub record MayClose {X : Type 0} (grow : ℕ) (lacks : Option Lacking) (held : Held (Cell X)) :
    Type 0 where
  pub rest : IsAtRest held
  pub named : NamesIts held.cells lacks
  pub queues : MayGrow grow held

-- both ends of a link are there
abbrev pub HasEnds : {X : Type 0} → List (Cell X) → Option Link → Type 0
HasEnds cells None = ⊥
HasEnds cells (Some link) = IsWriter cells link.from × IsReader cells link.to

-- Each link on which an action lacks room can hold some tokens, and its queues what the link may grow to.
abbrev pub CanGrow : {X : Type 0} → ℕ → Held (Cell X) → Type 0
CanGrow grow held = (i a l : ℕ) → LacksAt held i a l
    → HasEnds held.cells (slice_get held.links l) × CanHold held.cells grow (slice_get held.links l)
    × (0 < slice_index_or held.capacities l 0)

-- whether a trap ends the run
abbrev pub is_trap : RoundEnd → Bool
is_trap (round.Fired n) = false
is_trap round.Idle = false
is_trap (round.Grew link capacity) = false
is_trap (round.End end.Quiet) = false
is_trap (round.End (end.Trapped inst action trap)) = true
is_trap (round.End (end.Stalled inst action link)) = false
is_trap (round.End end.Budget) = false
is_trap (round.End (end.ReadFault feed)) = false
is_trap (round.End (end.WriteFault channel)) = false

-- a round wasn't cut short by a fault of reading or writing
abbrev pub IsNoFault : RoundEnd → Type 0
IsNoFault (round.Fired n) = Unit {0}
IsNoFault round.Idle = Unit {0}
IsNoFault (round.Grew link capacity) = Unit {0}
IsNoFault (round.End end.Quiet) = Unit {0}
IsNoFault (round.End (end.Trapped inst action trap)) = Unit {0}
IsNoFault (round.End (end.Stalled inst action link)) = Unit {0}
IsNoFault (round.End end.Budget) = Unit {0}
IsNoFault (round.End (end.ReadFault feed)) = ⊥
IsNoFault (round.End (end.WriteFault channel)) = ⊥

-- if the run goes on, this is so
abbrev pub IfGoing : RoundEnd → Type 0 → Type 0
IfGoing (round.Fired n) P = P
IfGoing round.Idle P = P
IfGoing (round.Grew link capacity) P = P
IfGoing (round.End how) P = Unit {0}

-- how many firings there were, as far as an answer says it
abbrev pub CountsTo : RoundEnd → ℕ → Type 0
CountsTo (round.Fired n) fired = (fired ≡ n) × (0 < n)
CountsTo round.Idle fired = fired ≡ 0
CountsTo (round.Grew link capacity) fired = fired ≡ 0
CountsTo (round.End how) fired = Unit {0}

-- by what a round is paced, and the moment at which it is made
abbrev pub pace_by : RoundKind → ℕ → Turn → Pace
pace_by kind budget turn =
    record { kind = kind; burst = turn.burst; budget = budget; grow = turn.grow }

abbrev pub moment_by : {X : Type 0} → Turn → State X → Moment X
moment_by turn s = record { state = s; round = turn.round; idle = turn.idle; left = turn.left }

-- A round was made from a moment: its firings and what closes it, how many they are, and the answer. The journals name
-- the firings. The state to which it led stands, but for the mark of a trap.
pub record IsRoundMade {X : Type 0} (net : Network X) (pace : Pace) (at : Moment X)
    (answer : RoundEnd) (fired : ℕ) (held : Held (Cell X)) : Type 0 where
  pub block : Block
  pub last : State X
  pub is_round : IsRound net pace at block last
  pub answers : Answers answer block
  pub fired_are : count_of block.bursts ≡ fired
  pub kept : State X
  pub stands : StandsSince net held (after_delivery net at.state) kept
  pub flows_are : last.flows ≡ kept.flows
  pub untrapped : is_trap answer ≡ false → last ≡ kept
  pub noted : journals held.cells ≡ block.bursts

-- .. from each moment of a wired network of lawful actors whose round's delivery was made
abbrev pub MakesRound : {X : Type 0} → RoundKind → Turn → RoundEnd → ℕ → Held (Cell X)
    → Held (Cell X) → Type 0
MakesRound {X} kind turn answer fired old new = (net : Network X) (s : State X) (budget : ℕ)
    → StandsSince net old (after_delivery net s) (after_delivery net s)
    → s.trapped ≡ false → IsWired net → AreLawful net → AreFed net (after_delivery net s)
    → IsRoundMade net (pace_by kind budget turn) (moment_by turn s) answer fired new
