use Rattle.std.proofs.Common.{◌≡◌, ◌++◌, map, length}
use Rattle.cal_model.specs.View.{port_view}
use Rattle.fnl_tree.specs.View.{own_of}
use Rattle.fnl_source.specs.Lone as lone
use Rattle.network_check.proofs.lone.own_ends.Given as goal

abbrev pub invariant-ports : goal.invariant-ports
invariant-ports l = map own_of l.ends.items ++ map lone.own_of (map port_view l.rest) ≡ map lone.own_of (map port_view l.initial.rest)

abbrev pub decreases-ports : goal.decreases-ports
decreases-ports l = length l.rest
