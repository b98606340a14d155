-- Networks that are alike are run alike: what a run of the one leaves, from its start to its end, a run of the other
-- leaves.
-- Trusted: part of what a promise means.
use Rattle.std.specs.Prelude.{ℕ, List, []}
use Rattle.rvc_io.specs.Channels.{Channels}
use Rattle.rvc_io.specs.Feeds.{Inputs}
use Rattle.net_model.specs.Network.{Network}
use Rattle.net_model.specs.State.{State}
use Rattle.net_model.specs.Cell.{Cell}
use Rattle.net_model.specs.Alike.{Allowed, AreAlike, StatesAlike}
use Rattle.round_runner.specs.declared.outcome.RunEnd.{RunEnd}
use Rattle.round_runner.specs.Running.{Running}
use Rattle.network_runner.specs.FromStart.{RunsFromStart}

-- a runner but for its cells: its policy and plan, what is buffered, and its numbers
abbrev pub without_cells : {C D : Type 0} → Running C → Running D
without_cells run = record {
  held = record {
    cells = [];
    links = run.held.links;
    capacities = run.held.capacities;
    waited = run.held.waited;
  };
  ins = run.ins;
  outs = run.outs;
  reads = run.reads;
  writes = run.writes;
  readings = run.readings;
  kind = run.kind;
  burst = run.burst;
  grow = run.grow;
  workers = run.workers;
  rounds = run.rounds;
  idle = run.idle;
  trace = run.trace;
  buffers = run.buffers;
  counts = run.counts;
  ended = run.ended;
}

-- what a run leaves from a state of the one, to its end, it leaves from a state of the other that is alike
abbrev pub RunsAlike : {X Y : Type 0} → (ℕ → X → Y → Type 0) → Allowed → Type 0
RunsAlike {X} {Y} related allowed = (net : Network X) (other : Network Y) (inputs : List (List ℕ))
    (budget : ℕ) (s : State X) (that : State Y) (how : RunEnd) (run new : Running (Cell X))
    (feeds : Inputs) (old now : Channels) → AreAlike related allowed net other
    → StatesAlike related allowed net s that
    → RunsFromStart net inputs budget s how run new feeds old now
    → RunsFromStart other inputs budget that how (without_cells run) (without_cells new) feeds
    old now
