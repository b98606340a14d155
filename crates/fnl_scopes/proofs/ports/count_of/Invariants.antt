use Rattle.std.proofs.Common.{◌≡◌, ◌+◌, ◌≤◌, map, length}
use Rattle.fnl_bind.specs.Library.{ports_of}
use Rattle.fnl_frames.specs.Views.{port_of}
use Rattle.fnl_scopes.proofs.ports.count_of.Given as goal

abbrev pub invariant-ports : goal.invariant-ports
invariant-ports l = record {
  same : l.count + length (ports_of l.input (map port_of l.rest)) ≡ length (ports_of l.input (map port_of l.initial.rest));
  few : l.count + length l.rest ≤ length l.initial.rest;
}

abbrev pub decreases-ports : goal.decreases-ports
decreases-ports l = length l.rest
