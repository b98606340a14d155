use Rattle.std.proofs.Common.{◌≡◌, true, false, map, length}
use Rattle.cal_check.specs.Violations.{all_broken, all_fine}
use Rattle.const_env.specs.Held.{names_in}
use Rattle.fnl_bind.specs.Library.{ports_of}
use Rattle.fnl_bind.specs.Values.{ends_judged}
use Rattle.fnl_frames.specs.Views.{port_of}
use Rattle.fnl_tree.specs.View.{own_of}
use Rattle.fnl_values.specs.Judging.{behind}
use Rattle.fnl_values.proofs.ends.typed_ports.Given as goal

abbrev pub invariant-ports : goal.invariant-ports
invariant-ports l = record {
  broken : all_broken (ends_judged (map port_of l.rest) (names_in l.env)) ≡ all_broken (ends_judged (map port_of l.initial.rest) (names_in l.env));
  ins : behind (map own_of l.ends.ins.items) (all_fine (ends_judged (ports_of true (map port_of l.rest)) (names_in l.env)))
      ≡ all_fine (ends_judged (ports_of true (map port_of l.initial.rest)) (names_in l.env));
  outs : behind (map own_of l.ends.outs.items) (all_fine (ends_judged (ports_of false (map port_of l.rest)) (names_in l.env)))
      ≡ all_fine (ends_judged (ports_of false (map port_of l.initial.rest)) (names_in l.env));
}

abbrev pub decreases-ports : goal.decreases-ports
decreases-ports l = length l.rest
