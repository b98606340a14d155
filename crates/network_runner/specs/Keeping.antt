-- What a runner keeps between its calls.
-- Trusted for `running_of` alone: part of what a promise means.
use Rattle.std.specs.Prelude.{◌≡◌, ℕ, ◌+◌, ◌*◌, ◌≤◌, ◌<◌, Bool, true, false, List, length, map, slice_get, slice_index_or, Option, None, Some}
use Rattle.rvc_base.specs.declared.round_kind.RoundKind.{RoundKind}
use Rattle.rvc_base.specs.declared.scalar.Scalar.{Scalar}
use Rattle.rvc_base.specs.Storing.{IsSize}
use Rattle.port_files.specs.Coming.{Reading}
use Rattle.net_model.specs.declared.wiring.Counts.{Counts}
use Rattle.net_model.specs.declared.wiring.End.{End}
use Rattle.net_model.specs.declared.wiring.End.TheVariants.{Leaf as AtLeaf, Net as AtNet}
use Rattle.net_model.specs.declared.wiring.Link.{Link}
use Rattle.net_model.specs.declared.wiring.Port.{Port}
use Rattle.net_model.specs.Network.{is_input, is_output}
use Rattle.net_model.specs.Cell.{Cell}
use Rattle.net_model.specs.Limits.{max_grow, max_instances, max_links}
use Rattle.net_state.specs.Held.{Held, IsReader}
use Rattle.net_state.specs.Moving.{IsWriter}
use Rattle.net_state.specs.Surveyed.{AreUntrapped}
use Rattle.net_state.specs.Working.{CanHold, gives_of}
use Rattle.round_runner.specs.declared.outcome.Plan.{Plan}
use Rattle.round_runner.specs.declared.outcome.RunEnd.{RunEnd}
use Rattle.round_runner.specs.Running.{Running, has_feed}
use Rattle.network_runner.specs.declared.sending.Outlet.{Outlet}
use Rattle.network_runner.specs.Asking.{growth_left, kinds_of, one_if}
use Rattle.network_runner.specs.Sending.{HasOutlet, max_outlets}

-- a runner as contracts see it, by its parts
abbrev pub running_of : {C : Type 0} → Held C → List Port → List Bool → List Outlet
    → List (Option Reading) → RoundKind → Plan → Bool → List ℕ → List (List ℕ) → Counts
    → Option RunEnd → Running C
running_of held ins reads outlets readings kind plan idle trace writers counts ended = record {
  held = held;
  ins = kinds_of ins;
  outs = map (λ outlet. outlet.kind) outlets;
  reads = reads;
  writes = map (λ outlet. outlet.is_open) outlets;
  readings = readings;
  kind = kind;
  burst = plan.burst;
  grow = plan.grow;
  workers = plan.workers;
  rounds = counts.rounds;
  idle = idle;
  trace = trace;
  buffers = writers;
  counts = counts;
  ended = ended;
}

-- the reader of a link's feed is there exactly if it has a feed
abbrev pub ReaderFits : Bool → Option Reading → Type 0
ReaderFits true None = ⊥
ReaderFits true (Some reading) = Unit {0}
ReaderFits false None = Unit {0}
ReaderFits false (Some reading) = ⊥

-- a reader gives tokens of the type of the network's port
abbrev pub ReadsKind : List Scalar → End → Scalar → Type 0
ReadsKind ins (AtLeaf inst port) kind = ⊥
ReadsKind ins (AtNet port) kind = slice_get ins port ≡ Some kind

-- the parts of a runner that no call changes fit each other
pub record HasParts {C : Type 0} (run : Running C) (links : List Link) (outlets : List Outlet)
    (came writers cells : ℕ) : Type 0 where
  pub links_are : run.held.links ≡ links
  pub few_links : length links ≤ max_links
  pub cells_are : cells ≡ length run.held.cells
  pub few_cells : cells ≤ max_instances
  pub came_for_each : came ≡ length links
  pub writer_for_each : writers ≡ length outlets
  pub few_outlets : length outlets ≤ max_outlets
  pub sizes : (p : ℕ) (outlet : Outlet) → slice_get outlets p ≡ Some outlet → IsSize outlet.kind
  pub led_to : (l : ℕ) (link : Link) → slice_get links l ≡ Some link
      → HasOutlet outlets link link.to
  pub reader_for_each : length run.readings ≡ length links
  pub readers : (l : ℕ) (link : Link) (reader : Option Reading) → slice_get links l ≡ Some link
      → slice_get run.readings l ≡ Some reader → ReaderFits (has_feed run.reads link.from) reader
  pub kinds : (l : ℕ) (link : Link) (reading : Reading) → slice_get links l ≡ Some link
      → slice_get run.readings l ≡ Some (Some reading)
      → ReadsKind run.ins link.from reading.kind
  pub bursts : (1 ≤ run.burst) × (run.burst ≤ 65536)
  pub arrived_for_each : length run.counts.arrived.items ≡ length links
  pub rest_for_each : length run.counts.rests.items ≡ length links
  pub sent_for_each : length run.counts.sent.items ≡ length outlets
  pub few_grown : run.grow ≤ max_grow

-- no more rounds can come than firings and growths make room for
abbrev pub most_growth : ℕ
most_growth = 4294967296

-- each cell's journal has room for a burst
abbrev pub HaveJournals : {X : Type 0} → ℕ → List (Cell X) → Type 0
HaveJournals {X} burst cells = (i : ℕ) (cell : Cell X) → slice_get cells i ≡ Some cell
    → burst ≤ cell.journal_room

-- what any action gives at a writing end fits the link
abbrev pub GivesWithin : {X : Type 0} → List (Cell X) → ℕ → End → Type 0
GivesWithin cells capacity (AtLeaf inst port) =
    (a : ℕ) → gives_of (slice_get cells inst.0) a port ≤ capacity
GivesWithin cells capacity (AtNet port) = Unit {0}

-- what holds of a link of a run that goes on
pub record IsOpenLink {X : Type 0} (cells : List (Cell X)) (grow capacity : ℕ) (link : Link) :
    Type 0 where
  pub writer : IsWriter cells link.from
  pub reader : IsReader cells link.to
  pub gives : GivesWithin cells capacity link.from
  pub queues : is_input link ≡ false → is_output link ≡ false → CanHold cells grow (Some link)

-- what holds of a run that goes on
pub record GoesOn {X : Type 0} (run : Running (Cell X)) (marks asked instances : ℕ) :
    Type 0 where
  pub untrapped : AreUntrapped run.held.cells
  pub journals : HaveJournals run.burst run.held.cells
  pub few_held : (l : ℕ) → slice_index_or run.held.capacities l 0 ≤ 4294967295
  pub holds_each : length run.held.capacities ≡ length run.held.links
  pub joined : (l : ℕ) (link : Link) → slice_get run.held.links l ≡ Some link
      → IsOpenLink run.held.cells run.grow (slice_index_or run.held.capacities l 0) link
  pub mark_for_each : marks ≡ length run.held.cells
  pub asked_each_round : 0 < length run.held.cells → asked ≡ run.rounds
  pub same_instances : 0 < asked → marks ≡ instances
  pub few_rounds : run.rounds + 2 * growth_left run.grow run.held.capacities
      ≤ 2 * run.counts.firings + one_if run.idle + 2 * most_growth
  pub few_firings : run.counts.firings ≤ 1000000000000
