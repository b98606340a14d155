use Rattle.std.proofs.Common.{◌≡◌, ◌++◌, ◌+◌, ◌≤◌, map, length}
use Rattle.std.specs.Prelude.{string_bytes}
use Rattle.cmd_run_network.specs.Network.{instances_named}
use Rattle.cmd_run_network.proofs.head.push_instances.Given as goal

abbrev pub invariant-instances : goal.invariant-instances
invariant-instances l = record {
  written : l.head.items ++ instances_named l.number (map string_bytes l.rest) (map string_bytes l.names)
      ≡ l.initial.head.items ++ instances_named 0 (map string_bytes l.initial.rest) (map string_bytes l.initial.names);
  few : l.number + length l.rest ≤ 4294967295;
}

abbrev pub decreases-instances : goal.decreases-instances
decreases-instances l = length l.rest
