use Rattle.std.proofs.Common.{◌≡◌, true, false, sym, ap, subst, ◌∙◌}
use Rattle.rvc_base.specs.Rules.{port_named_twice}
use Rattle.cal_model.specs.Tags.{is_seen, with_seen}
use Rattle.check_member.specs.Judging.{Refuses}
use Rattle.check_member.proofs.Broken.{refuses-first}
use Rattle.check_member.proofs.PortNames.{names_twice, of-not, of-not-false, port-new, port-old, port_name}
use Rattle.check_member.proofs.header.name_once.Goals as goal

pub ports-preserved : goal.ports-preserved
ports-preserved c = λ more.
    let first = c.in-Some.first.now in
    let others = c.in-Some.others.now in
    let met = c.ports.names in
    let new : is_seen (port_name first) met ≡ false =
    ap (λ n. is_seen n met) (sym c.as_str.ensures.value) ∙ of-not (is_seen c.as_str.result.now met) (sym c.if-not-branch.false ∙ c.in_ok-add.ensures.is_new) in
    c.ports.invariant more
    ∙ ap (λ r. names_twice met r more) c.in-Some.ensures.cases.0
    ∙ port-new first others met more new
    ∙ ap (λ n. names_twice (with_seen met n) others more) (sym c.as_str.ensures.value)
    ∙ ap (λ ns. names_twice ns others more) (sym c.in_ok-add.ensures.added)

pub returns-then-not-branch-clause-broken : goal.returns-then-not-branch-clause-broken
returns-then-not-branch-clause-broken c = λ more.
    let first = c.in-Some.first.now in
    let others = c.in-Some.others.now in
    let met = c.ports.names in
    let old : is_seen (port_name first) met ≡ true =
    ap (λ n. is_seen n met) (sym c.as_str.ensures.value) ∙ of-not-false (is_seen c.as_str.result.now met) (sym c.if-not-branch.true ∙ c.in_ok-add.ensures.is_new) in
    subst (λ f. Refuses f (names_twice c.args.names.now c.args.ports.now more)) (sym c.broken.ensures)
    (refuses-first port_named_twice first.at (names_twice c.args.names.now c.args.ports.now more) (names_twice met others more)
    (c.ports.invariant more ∙ ap (λ r. names_twice met r more) c.in-Some.ensures.cases.0 ∙ port-old first others met more old))
