use Rattle.std.proofs.Common.{◌≡◌, ◌++◌, length}
use Rattle.lower_actor.specs.Coded.{all_entries}
use Rattle.lower_actor.proofs.code.entries_of.Given as goal

abbrev pub invariant-actions : goal.invariant-actions
invariant-actions l = l.entries.items ++ all_entries l.left ≡ all_entries l.actions

abbrev pub decreases-actions : goal.decreases-actions
decreases-actions l = length l.left
