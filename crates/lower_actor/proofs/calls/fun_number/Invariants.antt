use Rattle.std.proofs.Common.{◌≡◌, ◌+◌, length, map}
use Rattle.cal_model.specs.Actor.{Fun}
use Rattle.cal_model.specs.View.{fun_view}
use Rattle.lower_actor.specs.Calls.{fun_number, number_from}
use Rattle.lower_actor.proofs.calls.fun_number.Given as goal

abbrev pub invariant-funs : goal.invariant-funs
invariant-funs l = (number_from (λ (f : Fun). f.name) l.k l.text (map fun_view l.rest) ≡ fun_number l.text (map fun_view l.funs)) × (l.k + length l.rest ≡ length l.funs)

abbrev pub decreases-funs : goal.decreases-funs
decreases-funs l = length l.rest
