use Rattle.std.proofs.Common.{◌≡◌, ◌+◌, length, map}
use Rattle.cal_model.specs.Actor.{Proc}
use Rattle.cal_model.specs.View.{proc_view}
use Rattle.lower_actor.specs.Calls.{number_from, proc_number}
use Rattle.lower_actor.proofs.calls.proc_number.Given as goal

abbrev pub invariant-procs : goal.invariant-procs
invariant-procs l = (number_from (λ (p : Proc). p.name) l.k l.text (map proc_view l.rest) ≡ proc_number l.text (map proc_view l.procs)) × (l.k + length l.rest ≡ length l.procs)

abbrev pub decreases-procs : goal.decreases-procs
decreases-procs l = length l.rest
