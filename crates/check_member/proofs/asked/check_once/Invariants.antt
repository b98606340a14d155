use Rattle.std.proofs.Common.{◌≡◌, take, drop}
use Rattle.std.specs.Prelude.{◌==◌}
use Rattle.rvc_base.specs.Rules.{port_named_twice}
use Rattle.cal_check.specs.Ports.{keyed_numbers, numbers_twice}
use Rattle.cal_check.specs.Violations.{twice}
use Rattle.check_member.specs.Asking.{asked_views}
use Rattle.check_member.proofs.asked.check_once.Given as goal

abbrev pub invariant-loop-k : goal.invariant-loop-k
invariant-loop-k l =
    twice (λ p q. p == q) port_named_twice (take l.k l.numbers) (keyed_numbers (drop l.k l.numbers) (asked_views (drop l.k l.asked)))
    ≡ numbers_twice l.numbers (asked_views l.asked)
