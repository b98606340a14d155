-- A run of the cells of lowered actors is a run of the network of the sources for which they stand.
-- Trusted: part of what a promise means.
use Rattle.std.specs.Prelude.{◌≡◌, ℕ, ◌≤◌, ◌↔◌, List, map}
use Rattle.rvc_io.specs.Channels.{Channels}
use Rattle.rvc_io.specs.Feeds.{Inputs}
use Rattle.trace_text.specs.declared.line.Line.{Line}
use Rattle.cal_model.specs.Actor.{Actor}
use Rattle.cal_model.specs.Selection.{State}
use Rattle.cal_model.specs.Sound.{Each, IsSound}
use Rattle.lowered_actor.specs.Actor as coded
use Rattle.lowered_actor.specs.Meaning as lowered
use Rattle.net_model.specs.declared.wiring.Wiring.{Wiring}
use Rattle.net_model.specs.Network.{Network}
use Rattle.net_model.specs.State as model
use Rattle.net_model.specs.State.{Flow, start_of}
use Rattle.net_model.specs.Cell.{Cell}
use Rattle.net_model.specs.Alike.{AreAlike, BytesAreAlike, LinesKeepAlike, PacedAlike, StatesAlike, TextsAreAlike}
use Rattle.net_model.specs.Laws.{AreLawful}
use Rattle.net_model.specs.Limits.{max_grow}
use Rattle.net_model.specs.Paced.{IsPaced, Pace}
use Rattle.net_model.specs.Ready.{IsNetworkOf, IsReady, given_state}
use Rattle.net_model.specs.Wired.{IsWired}
use Rattle.fnl_tree.specs.Sound.{IsSound as IsSoundTree}
use Rattle.fnl_tree.specs.Tree.{Tree}
use Rattle.fnl_flatten.specs.Flattened.{IsFlattened}
use Rattle.fnl_flatten.specs.declared.flat.Flat.{Flat}
use Rattle.round_runner.specs.declared.outcome.Plan.{Plan}
use Rattle.round_runner.specs.declared.outcome.RunEnd.{RunEnd}
use Rattle.round_runner.specs.Running.{Running}
use Rattle.network_runner.specs.Asking.{CanRun}
use Rattle.network_runner.specs.FromStart.{RunsFromStart}
use Rattle.fnl_source.specs.Actors.{head_of}
use Rattle.fnl_source.specs.Answers.{HasWiring}
use Rattle.fnl_source.specs.Source.{AreActors, Files, IsSourceNetwork, IsTree}
use Rattle.lower_actor.specs.Leaves.{StandForActors}
use Rattle.net_cells.specs.Cells.{AreCellsOf}
use Rattle.net_cells.specs.Runnable.{CanBeWired, IsPlanFor, IsWiringOf}
use Rattle.net_cells.specs.LinesAlike.{BegunAlike, CountedAlike}
use Rattle.net_cells.specs.RunAlike.{without_cells}
use Rattle.net_cells.specs.Sources.{IsActorNetwork, lowered_network, may_come_at, stands_at}

-- The actors at the leaves of the tree of a class, joined as its flattening answers, are the network of these actors.
abbrev pub AnswersAreActorNetworks : Type 0
AnswersAreActorNetworks = (files : Files) (class : List ℕ) (tree : Tree) (actors : List Actor)
    (flat : Flat) (net : Network State) → IsTree files class tree → IsSoundTree tree
    → Each IsSound actors → AreActors files tree.leaves actors net.leaves
    → IsFlattened tree (map head_of actors) flat → HasWiring flat net
    → IsActorNetwork actors net

-- .. and so are those that are the source network of a class, if its leaves are these actors
abbrev pub SourcesAreActorNetworks : Type 0
SourcesAreActorNetworks = (files : Files) (class : List ℕ) (net : Network State) (tree : Tree)
    (actors : List Actor) → IsSourceNetwork files class net → IsTree files class tree
    → AreActors files tree.leaves actors net.leaves → Each IsSound actors
    → IsActorNetwork actors net

-- Such a network is wired and its actors are lawful, so that at most one list of lines is paced from a state of it.
abbrev pub ActorNetworksAreLawful : Type 0
ActorNetworksAreLawful = (actors : List Actor) (net : Network State) → IsActorNetwork actors net
    → IsWired net × AreLawful net

-- Lowered actors that stand for the actors of a network can be wired as it is, whichever of its ports are open.
abbrev pub LoweredCanBeWired : Type 0
LoweredCanBeWired = (actors : List Actor) (codes : List coded.Actor) (net : Network State)
    (wiring : Wiring) → IsActorNetwork actors net → StandForActors actors codes
    → IsWiringOf net wiring → CanBeWired codes wiring

-- .. and then the network of the lowered actors and that of the actors are alike
abbrev pub LoweredAreAlike : Type 0
LoweredAreAlike = (actors : List Actor) (codes : List coded.Actor) (net : Network State)
    → IsActorNetwork actors net → StandForActors actors codes
    → AreAlike (stands_at actors) (may_come_at actors) (lowered_network codes net) net

-- .. so that lines which are begun or paced from a state of the one are so from a state of the other that is alike, the
-- same numbers count them, ..
abbrev pub LoweredLinesAlike : Type 0
LoweredLinesAlike = (actors : List Actor) → BegunAlike (stands_at actors) (may_come_at actors)
    × PacedAlike (stands_at actors) (may_come_at actors)
    × LinesKeepAlike (stands_at actors) (may_come_at actors)
    × CountedAlike (stands_at actors) (may_come_at actors)

-- .. and the text of a trace and the bytes of each output are the same
abbrev pub LoweredTextsAlike : Type 0
LoweredTextsAlike = (actors : List Actor) → TextsAreAlike (stands_at actors) (may_come_at actors)
    × BytesAreAlike (stands_at actors) (may_come_at actors)

-- A network of sources that was compiled: its actors, the lowered actors and the cells that are made for them, and by which
-- wiring and which numbers these are to be run.
pub record Compiled : Type 0 where
  pub net : Network State
  pub actors : List Actor
  pub codes : List coded.Actor
  pub cells : List (Cell lowered.ActorState)
  pub wiring : Wiring
  pub burst : ℕ
  pub grow : ℕ

-- the network of its lowered actors
abbrev pub lowered_of : Compiled → Network lowered.ActorState
lowered_of c = lowered_network c.codes c.net

-- The lowered actors stand for the actors, and the cells are theirs, made for the links of the network.
pub record IsCompiled (c : Compiled) : Type 0 where
  pub actor_network : IsActorNetwork c.actors c.net
  pub stand : StandForActors c.actors c.codes
  pub wiring_of : IsWiringOf c.net c.wiring
  pub cells_of : AreCellsOf c.codes c.net.links c.burst c.grow c.cells
  pub few_grown : c.grow ≤ max_grow

-- its cells can be run, whichever ports are open
abbrev pub CellsCanRun : Type 0
CellsCanRun = (c : Compiled) (plan : Plan) → IsCompiled c → IsPlanFor c.burst c.grow plan
    → CanRun c.cells c.wiring plan

-- the state in which a run from the cells begins, and a state of the sources that is alike to one of the lowered actors
abbrev pub cells_start : Compiled → List (List ℕ) → model.State lowered.ActorState
cells_start c inputs = given_state (lowered_of c) c.cells inputs

abbrev pub SourcesAlike : Compiled → model.State lowered.ActorState → model.State State → Type 0
SourcesAlike c s that = StatesAlike (stands_at c.actors) (may_come_at c.actors) (lowered_of c) s that

-- The network of the cells is that of the lowered actors, which is ready to be run. A run from the cells begins at its
-- start, which is alike to the start of the sources over the same files.
pub record BeginAlike (c : Compiled) : Type 0 where
  pub is_of : IsNetworkOf (lowered_of c) c.cells c.wiring
  pub ready : IsReady (lowered_of c) c.grow c.burst c.cells
  pub at_start : (inputs : List (List ℕ)) → cells_start c inputs ≡ start_of (lowered_of c) inputs
  pub starts_alike : (inputs : List (List ℕ))
      → SourcesAlike c (cells_start c inputs) (start_of c.net inputs)

abbrev pub CellsBeginAlike : Type 0
CellsBeginAlike = (c : Compiled) → IsCompiled c → BeginAlike c

-- so these lines are paced from a state, with these tokens on the links at the end
pub record PacesTo {X : Type 0} (net : Network X) (pace : Pace) (s : model.State X)
    (lines : List Line) (flows : List Flow) : Type 0 where
  pub last : model.State X
  pub paced : IsPaced net pace s lines last
  pub flows_are : last.flows ≡ flows

-- The lines that are paced from the cells are exactly those that are paced from the start of the sources, and leave the
-- same tokens on the links.
abbrev pub SamePacedLines : Type 0
SamePacedLines = (c : Compiled) (inputs : List (List ℕ)) (pace : Pace) (lines : List Line)
    (flows : List Flow) → IsCompiled c
    → PacesTo (lowered_of c) pace (cells_start c inputs) lines flows
    ↔ PacesTo c.net pace (start_of c.net inputs) lines flows

-- What a run of the cells leaves, from their start to its end, is what a run of the sources leaves from their start.
abbrev pub CellsRunAsSources : Type 0
CellsRunAsSources = (c : Compiled) (inputs : List (List ℕ)) (budget : ℕ) (how : RunEnd)
    (run new : Running (Cell lowered.ActorState)) (feeds : Inputs) (old now : Channels)
    → IsCompiled c
    → RunsFromStart (lowered_of c) inputs budget (cells_start c inputs) how run new feeds old now
    → RunsFromStart c.net inputs budget (start_of c.net inputs) how (without_cells run)
    (without_cells new) feeds old now
