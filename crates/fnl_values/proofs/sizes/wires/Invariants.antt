use Rattle.std.proofs.Common.{◌≡◌, ◌++◌, map, length}
use Rattle.const_env.specs.Held.{names_in}
use Rattle.fnl_bind.specs.Values.{connections_broken, wires_of}
use Rattle.fnl_frames.specs.Views.{connection_of}
use Rattle.fnl_tree.specs.View.{wire_of}
use Rattle.fnl_values.proofs.sizes.wires.Given as goal

abbrev pub invariant-connections : goal.invariant-connections
invariant-connections l = record {
  broken : connections_broken (map connection_of l.rest) (names_in l.env) ≡ connections_broken (map connection_of l.initial.rest) (names_in l.env);
  wires : map wire_of l.wires.items ++ wires_of (map connection_of l.rest) (names_in l.env) ≡ wires_of (map connection_of l.initial.rest) (names_in l.env);
}

abbrev pub decreases-connections : goal.decreases-connections
decreases-connections l = length l.rest
