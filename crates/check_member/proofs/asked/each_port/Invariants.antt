use Rattle.std.proofs.Common.{◌≡◌, drop, length}
use Rattle.cal_check.specs.Ports.{ports_from}
use Rattle.check_member.specs.Asking.{asked_views, port_views}
use Rattle.check_member.proofs.Judged.{behind}
use Rattle.check_member.proofs.asked.each_port.Given as goal

abbrev pub invariant-loop-part : goal.invariant-loop-part
invariant-loop-part l =
    behind l.numbers.items (ports_from l.named (length l.numbers.items) (asked_views (drop l.part-index l.asked)) (port_views l.ports))
    ≡ ports_from l.named 0 (asked_views l.asked) (port_views l.ports)
