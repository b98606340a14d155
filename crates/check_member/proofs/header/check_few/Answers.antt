use Rattle.std.proofs.Common.{sym, subst, ap, arith}
use Rattle.std.specs.Prelude.{nat_le}
use Rattle.rvc_base.specs.Rules.{too_many_ports}
use Rattle.cal_model.specs.Rates.{parts}
use Rattle.cal_model.specs.Sound.{max_ports}
use Rattle.cal_check.specs.Violations.{unless}
use Rattle.check_member.specs.Judging.{Refuses}
use Rattle.check_member.specs.Parts.{ports_tree}
use Rattle.check_member.proofs.Broken.{refuses-unless}
use Rattle.check_member.proofs.PortNames.{few-parts, many-parts}
use Rattle.check_member.proofs.header.check_few.Goals as goal

pub returns-then-ports-gt-MAX_PORTS : goal.returns-then-ports-gt-MAX_PORTS
returns-then-ports-gt-MAX_PORTS c =
    subst (λ f. Refuses f (unless (nat_le (parts (ports_tree c.args.ports.now)) max_ports) too_many_ports c.args.at)) (sym c.broken.ensures)
    (refuses-unless (nat_le (parts (ports_tree c.args.ports.now)) max_ports) too_many_ports c.args.at (many-parts c.args.ports.now (omega arith)))

pub returns : goal.returns
returns c = ap (λ b. unless b too_many_ports c.args.at) (few-parts c.args.ports.now (omega arith))
