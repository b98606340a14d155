use Rattle.std.proofs.Common.{◌≡◌, length}
use Rattle.check_used.specs.Naming.{params_tree, with_names}
use Rattle.check_used.proofs.members.add_params.Given as goal

abbrev pub invariant-params : goal.invariant-params
invariant-params l = with_names (params_tree l.rest) l.names ≡ with_names (params_tree l.initial.rest) l.initial.names

abbrev pub decreases-params : goal.decreases-params
decreases-params l = length l.rest
