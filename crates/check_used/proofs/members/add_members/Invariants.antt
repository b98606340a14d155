use Rattle.std.proofs.Common.{◌≡◌, length}
use Rattle.check_used.specs.Naming.{members_tree, with_names}
use Rattle.check_used.proofs.members.add_members.Given as goal

abbrev pub invariant-members : goal.invariant-members
invariant-members l = with_names (members_tree l.rest) l.names ≡ with_names (members_tree l.initial.rest) l.initial.names

abbrev pub decreases-members : goal.decreases-members
decreases-members l = length l.rest
