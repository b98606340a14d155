use Rattle.std.proofs.Common.{◌≡◌, length}
use Rattle.check_used.specs.Naming.{outputs_tree, with_names}
use Rattle.check_used.proofs.members.add_outputs.Given as goal

abbrev pub invariant-outputs : goal.invariant-outputs
invariant-outputs l = with_names (outputs_tree l.rest) l.names ≡ with_names (outputs_tree l.initial.rest) l.initial.names

abbrev pub decreases-outputs : goal.decreases-outputs
decreases-outputs l = length l.rest
