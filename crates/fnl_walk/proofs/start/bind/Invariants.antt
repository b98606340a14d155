use Rattle.fnl_walk.specs.Steps.{Keeps, steps_left}
use Rattle.fnl_walk.specs.View.{walk_view}
use Rattle.fnl_bind.specs.View.{networks}
use Rattle.fnl_walk.proofs.start.bind.Given as goal

abbrev pub invariant-steps : goal.invariant-steps
invariant-steps l = Keeps (networks l.nets) (walk_view l.initial.walk) (walk_view l.walk)

abbrev pub decreases-steps : goal.decreases-steps
decreases-steps l = steps_left (walk_view l.walk)
