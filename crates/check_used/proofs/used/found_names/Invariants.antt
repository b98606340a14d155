use Rattle.std.proofs.Common.{◌≡◌, ◌≤◌, length, map}
use Rattle.cal_ast.specs.View.{actor_tree}
use Rattle.cal_check.specs.Actors.{Source}
use Rattle.check_used.specs.Using.{IsFound, IsSettled, IsSourceOf, outer_view}
use Rattle.check_used.proofs.used.found_names.Given as goal

abbrev pub invariant-rounds : goal.invariant-rounds
invariant-rounds l =
    ((s : Source) → IsSourceOf s (actor_tree l.actor) (map outer_view l.decls) → IsFound s l.names (map outer_view l.left.items))
    × (length l.left.items ≤ l.before) × (length l.left.items ≡ l.before → IsSettled l.names (map outer_view l.left.items))

abbrev pub decreases-rounds : goal.decreases-rounds
decreases-rounds l = l.before
