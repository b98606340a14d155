-- Cells that can be run can replay a trace.
use Rattle.std.proofs.Common.{◌≡◌, ℕ, List, length, arith}
use Rattle.rvc_io.specs.Feeds.{Inputs}
use Rattle.net_model.specs.declared.wiring.Wiring.{Wiring}
use Rattle.net_model.specs.Cell.{Cell}
use Rattle.net_model.specs.Network.{Network}
use Rattle.net_model.specs.Ready.{IsReady}
use Rattle.round_runner.specs.declared.outcome.Plan.{Plan}
use Rattle.network_runner.specs.Asking.{CanRun}
use Rattle.trace_replay.specs.Replaying.{CanReplay}
use Rattle.test_replay.specs.Open.{AreOpenFor}

ready_so : {X : Type 0} (net : Network X) (grow burst : ℕ) (cells : List (Cell X)) → IsReady net grow burst cells → IsReady net grow 0 cells
ready_so net grow burst cells ready = record {
  wired = ready.wired;
  few_grown = ready.few_grown;
  fresh = λ i cell at. (let was = ready.fresh i cell at in record { untrapped = was.untrapped; nothing_out = was.nothing_out; journal = omega arith });
  queues = ready.queues;
  read = ready.read;
}

pub can_replay : {X : Type 0} (cells : List (Cell X)) (wiring : Wiring) (plan : Plan) (names : List (List ℕ)) (feeds : Inputs) → CanRun cells wiring plan → length names ≡ length cells → AreOpenFor wiring feeds
    → CanReplay cells wiring plan.grow names feeds
can_replay cells wiring plan names feeds can named are_open = record {
  ready = (can.net, record { is_of = can.is_of; ready = ready_so can.net plan.grow plan.burst cells can.ready });
  sizes = can.sizes;
  input_sizes = can.in_sizes;
  unlinked = can.unlinked;
  named = named;
  trace_open = are_open.trace;
  inputs_open = are_open.inputs;
}
