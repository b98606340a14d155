use Rattle.std.proofs.Common.{length, ap, ◌∙◌}
use Rattle.check_member.specs.Asking.{asked_views, port_views}
use Rattle.check_member.proofs.AskedParts.{ports-count, views-count}
use Rattle.cal_check.specs.Ports.{is_named}
use Rattle.check_member.proofs.asked.ports_meant.Goals as goal

pub check_once-requires : goal.check_once-requires
check_once-requires c =
    ap length c.deref.ensures.value
    ∙ ports-count (is_named (asked_views c.args.asked.now)) 0 (asked_views c.args.asked.now) (port_views c.args.ports.now) c.in_ok-numbers.numbers.items c.in_ok-numbers.ensures
    ∙ views-count c.args.asked.now
