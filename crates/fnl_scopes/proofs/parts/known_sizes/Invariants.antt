use Rattle.std.proofs.Common.{◌≡◌, map, length}
use Rattle.fnl_bind.specs.Scopes.{unknown_in_sizes}
use Rattle.fnl_frames.specs.Views.{size_of}
use Rattle.fnl_scopes.proofs.parts.known_sizes.Given as goal

abbrev pub invariant-sizes : goal.invariant-sizes
invariant-sizes l = unknown_in_sizes (map size_of l.rest) l.names ≡ unknown_in_sizes (map size_of l.initial.rest) l.names

abbrev pub decreases-sizes : goal.decreases-sizes
decreases-sizes l = length l.rest
