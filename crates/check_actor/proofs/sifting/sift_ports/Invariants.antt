use Rattle.std.proofs.Common.{length}
use Rattle.const_env.specs.Counting.{names_view}
use Rattle.cal_check.specs.Ports.{each_port}
use Rattle.cal_check.specs.Variables.{found_in}
use Rattle.cal_check.specs.Violations.{all_broken}
use Rattle.check_variable.specs.Views.{ports_tree}
use Rattle.check_actor.specs.Sifting.{IsLeft}
use Rattle.check_actor.proofs.sifting.sift_ports.Given as goal

abbrev pub invariant-ports : goal.invariant-ports
invariant-ports l = IsLeft (found_in l.file (all_broken (each_port (ports_tree l.rest) (names_view l.names))))
    (found_in l.file (all_broken (each_port (ports_tree l.initial.rest) (names_view l.names))))

abbrev pub decreases-ports : goal.decreases-ports
decreases-ports l = length l.rest
