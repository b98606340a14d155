use Rattle.std.proofs.Common.{◌≡◌, length}
use Rattle.lower_actor.specs.Calls.{vars_tree, with_calls}
use Rattle.lower_actor.proofs.call_stmts.add_vars.Given as goal

abbrev pub invariant-vars : goal.invariant-vars
invariant-vars l = with_calls l.b (vars_tree l.rest) l.calls ≡ with_calls l.b (vars_tree l.initial.rest) l.initial.calls

abbrev pub decreases-vars : goal.decreases-vars
decreases-vars l = length l.rest
