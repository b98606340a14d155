use Rattle.std.proofs.Common.{None, suc, take, drop, get_or, sym, subst, ◌∙◌}
use Rattle.std.specs.Prelude.{◌==◌}
use Rattle.rvc_base.specs.Rules.{port_named_twice}
use Rattle.cal_check.specs.Ports.{keyed_numbers, numbers_twice}
use Rattle.cal_check.specs.Violations.{twice}
use Rattle.check_member.specs.Asking.{asked_views}
use Rattle.check_member.specs.Judging.{Refuses}
use Rattle.check_member.specs.declared.asked.AskedPort.{AskedPort}
use Rattle.check_member.proofs.Broken.{refuses-first}
use Rattle.check_member.proofs.Once.{once-all, once-more, once-twice}
use Rattle.check_member.proofs.asked.check_once.Goals as goal

abbrev none : AskedPort
none = record { name = None; at = 0 }

pub returns-then-contains : goal.returns-then-contains
returns-then-contains c =
    let ns = c.args.numbers.now in
    let asked = c.args.asked.now in
    let k = c.loop-k.k in
    subst (λ f. Refuses f (numbers_twice ns (asked_views asked))) (sym c.broken.ensures)
    (refuses-first port_named_twice (get_or asked k none).at (numbers_twice ns (asked_views asked))
    (twice (λ p q. p == q) port_named_twice (take k ns) (keyed_numbers (drop (suc k) ns) (asked_views (drop (suc k) asked))))
    (sym c.loop-k.invariant ∙ once-twice k ns asked none c.loop-k-test.true c.requires (sym c.contains.ensures.value ∙ c.if-contains.true)))

pub loop-k-preserved : goal.loop-k-preserved
loop-k-preserved c =
    once-more c.loop-k.k c.args.numbers.now c.args.asked.now none c.loop-k-test.true c.requires (sym c.contains.ensures.value ∙ c.if-contains.false)
    ∙ c.loop-k.invariant

pub returns : goal.returns
returns c = sym c.loop-k.invariant ∙ once-all c.loop-k.k c.args.numbers.now c.args.asked.now c.loop-k-test.false
