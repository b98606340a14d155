use Rattle.std.proofs.Common.{◌≡◌, ◌+◌, ◌*◌, ◌≤◌, length}
use Rattle.fnl_flatten.specs.Links.{capacities}
use Rattle.fnl_flatten.proofs.limits.capacities.Given as goal

abbrev pub invariant-links : goal.invariant-links
invariant-links l = record {
  so_far : l.sum + capacities l.rest ≡ capacities l.initial.rest;
  small : l.sum + length l.rest * 4294967296 ≤ 17592186044416;
}

abbrev pub decreases-links : goal.decreases-links
decreases-links l = length l.rest
