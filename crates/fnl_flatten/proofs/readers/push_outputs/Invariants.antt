use Rattle.std.proofs.Common.{◌≡◌, ◌+◌, ◌++◌}
use Rattle.fnl_flatten.specs.Readers.{outputs_from}
use Rattle.fnl_flatten.proofs.readers.push_outputs.Given as goal

abbrev pub invariant-ports : goal.invariant-ports
invariant-ports l = record {
  so_far : l.readers.items ++ outputs_from l.port l.left ≡ l.initial.readers.items ++ outputs_from 0 l.initial.left;
  sum : l.port + l.left ≡ l.initial.left;
}

abbrev pub decreases-ports : goal.decreases-ports
decreases-ports l = l.left
