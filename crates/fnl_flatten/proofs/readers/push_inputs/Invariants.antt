use Rattle.std.proofs.Common.{◌≡◌, ◌+◌, ◌++◌}
use Rattle.fnl_flatten.specs.Readers.{inputs_from}
use Rattle.fnl_flatten.proofs.readers.push_inputs.Given as goal

abbrev pub invariant-ports : goal.invariant-ports
invariant-ports l = record {
  so_far : l.readers.items ++ inputs_from l.leaf l.port l.left ≡ l.initial.readers.items ++ inputs_from l.leaf 0 l.initial.left;
  sum : l.port + l.left ≡ l.initial.left;
}

abbrev pub decreases-ports : goal.decreases-ports
decreases-ports l = l.left
