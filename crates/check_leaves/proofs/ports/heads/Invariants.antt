use Rattle.std.proofs.Common.{◌≡◌, ◌<◌, ◌++◌, length, map}
use Rattle.std.specs.Prelude.{All}
use Rattle.fnl_flatten.specs.View.{heads_of}
use Rattle.fnl_source.specs.Actors.{head_of}
use Rattle.check_leaves.specs.Leaves.{actors_at_leaves, at_places, distinct_actors}
use Rattle.check_leaves.proofs.ports.heads.Given as goal

abbrev pub invariant-leaves : goal.invariant-leaves
invariant-leaves l = record {
  within : All (λ p. p < length l.found.actors.items) l.rest;
  told : heads_of l.heads.items ++ map head_of (at_places (distinct_actors l.found) l.rest) ≡ map head_of (actors_at_leaves l.found);
}

abbrev pub decreases-leaves : goal.decreases-leaves
decreases-leaves l = length l.rest
