use Rattle.std.proofs.Common.{◌≡◌, map}
use Rattle.cal_model.specs.Kinding.{known_as}
use Rattle.const_env.specs.Counting.{inner_variables, known_variable}
use Rattle.const_env.proofs.inside.meant_inside.Given as goal

abbrev pub invariant-outwards : goal.invariant-outwards
invariant-outwards l = known_as l.name (map known_variable (inner_variables l.at)) ≡ known_as l.name (map known_variable (inner_variables l.initial.at))
