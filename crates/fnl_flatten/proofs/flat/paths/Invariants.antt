use Rattle.std.proofs.Common.{◌≡◌, ◌++◌, map, length}
use Rattle.std.specs.Prelude.{string_bytes}
use Rattle.fnl_tree.specs.View.{leaf_of}
use Rattle.fnl_flatten.proofs.flat.paths.Given as goal

abbrev pub invariant-leaves : goal.invariant-leaves
invariant-leaves l = map string_bytes l.paths.items ++ map (λ leaf. leaf.path) (map leaf_of l.rest) ≡ map (λ leaf. leaf.path) (map leaf_of l.initial.rest)

abbrev pub decreases-leaves : goal.decreases-leaves
decreases-leaves l = length l.rest
