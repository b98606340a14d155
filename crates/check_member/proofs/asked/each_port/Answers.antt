use Rattle.std.proofs.Common.{◌≡◌, None, Err, get_or, length, ap, sym, subst, ◌∙◌, rules}
use Rattle.cal_model.specs.Kinding.{Fine}
use Rattle.cal_check.specs.Ports.{port_of, ports_asked, ports_from}
use Rattle.check_member.specs.Asking.{asked_view, asked_views, port_views}
use Rattle.check_member.specs.Judging.{Breaks, Judges}
use Rattle.check_member.specs.declared.asked.AskedPort.{AskedPort}
use Rattle.check_member.proofs.AskedParts.{ports-all, ports-breaks, ports-next}
use Rattle.check_member.proofs.asked.each_port.Goals as goal

abbrev none : AskedPort
none = record { name = None; at = 0 }

pub loop-part-preserved : goal.loop-part-preserved
loop-part-preserved c =
    let part = get_or c.args.asked.now c.loop-part.part-index none in
    let ports = port_views c.args.ports.now in
    let count : c.len.result ≡ length c.loop-part.numbers.items = search rules in
    ports-next c.is_named-named.result c.loop-part.numbers.items c.push.new.self.items c.args.asked.now c.loop-part.part-index c.in_ok-number.number none ports
    c.loop-part-test.true c.in_ok-push.ensures.items
    (subst (λ n. port_of c.is_named-named.result n (asked_view part) (asked_view part).name ports ≡ Fine c.in_ok-number.number) count c.in_ok-number.ensures)
    ∙ c.loop-part.invariant

pub returns-in_err-number : goal.returns-in_err-number
returns-in_err-number c =
    let same : c.from_residual.result ≡ Err c.in_err-number.field-0.0 = search rules in
    let part = get_or c.args.asked.now c.loop-part.part-index none in
    let ports = port_views c.args.ports.now in
    let count : c.len.result ≡ length c.loop-part.numbers.items = search rules in
    subst (λ r. Judges (λ numbers. numbers.items) r (ports_asked (asked_views c.args.asked.now) ports)) (sym same)
    (subst (λ j. Breaks c.in_err-number.field-0.0 j) (c.loop-part.invariant ∙ ap (λ b. ports_from b 0 (asked_views c.args.asked.now) ports) c.is_named-named.ensures)
    (ports-breaks c.in_err-number.field-0.0 c.is_named-named.result c.loop-part.numbers.items c.args.asked.now c.loop-part.part-index none ports c.loop-part-test.true
    (subst (λ n. Breaks c.in_err-number.field-0.0 (port_of c.is_named-named.result n (asked_view part) (asked_view part).name ports)) count c.in_err-number.ensures)))

pub returns : goal.returns
returns c =
    let ports = port_views c.args.ports.now in
    sym (ap (λ b. ports_from b 0 (asked_views c.args.asked.now) ports) c.is_named-named.ensures)
    ∙ sym c.loop-part.invariant
    ∙ ports-all c.is_named-named.result c.loop-part.numbers.items c.args.asked.now c.loop-part.part-index ports c.loop-part-test.false
