use Rattle.std.proofs.Common.{◌≡◌, Err, map, [], ◌∷◌, refl, sym, ap, subst, ◌∙◌, arith, rules}
use Rattle.std.proofs.lemmas.List.{map-append}
use Rattle.cal_ast.specs.Tree.{listed}
use Rattle.cal_ast.specs.View.{member_tree}
use Rattle.cal_scope.specs.Judging.{Breaks, Judges}
use Rattle.cal_scope.specs.Members.{members_resolved}
use Rattle.cal_scope.specs.PortView.{ports_view}
use Rattle.cal_scope.specs.View.{names_view}
use Rattle.cal_scope.proofs.Each.{stay}
use Rattle.cal_scope.proofs.EachOf.{members_each, member_part}
use Rattle.cal_scope.proofs.Loops.{judged_breaks, judged_done, judged_next, judged_start}
use Rattle.cal_scope.proofs.member.members.Goals as goal

pub loop-m-init : goal.loop-m-init
loop-m-init c = judged_start (member_part (ports_view c.args.ports.now)) stay c.args.list.now (names_view c.args.names.now) (map member_tree c.new-found.result.items) (ap (map member_tree) c.new-found.ensures.items)

pub returns-in_err-member : goal.returns-in_err-member
returns-in_err-member c =
    let same : c.from_residual.result ≡ Err c.in_err-member.field-0.0 = search rules in
    subst (λ r. Judges (λ found. map member_tree found.items) r (members_resolved (listed (map member_tree c.args.list.now)) (ports_view c.args.ports.now) (names_view c.args.names.now))) (sym same)
    (subst (λ o. Breaks c.in_err-member.field-0.0 o) (sym (members_each c.args.list.now (ports_view c.args.ports.now) (names_view c.args.names.now)))
    (judged_breaks (member_part (ports_view c.args.ports.now)) stay c.args.list.now c.loop-m.m-index c.m-item.result (names_view c.args.names.now) (names_view c.args.names.now) (map member_tree c.loop-m.found.items) c.in_err-member.field-0.0 (omega arith)
    (subst (λ x. Breaks c.in_err-member.field-0.0 (member_part (ports_view c.args.ports.now) x (names_view c.args.names.now))) c.m-item.is c.in_err-member.ensures) c.loop-m.invariant))

pub loop-m-preserved : goal.loop-m-preserved
loop-m-preserved c =
    judged_next (member_part (ports_view c.args.ports.now)) stay c.args.list.now c.loop-m.m-index c.m-item.result (names_view c.args.names.now) (names_view c.args.names.now) (names_view c.args.names.now)
    (member_tree c.in_ok-member.field-0) (map member_tree c.loop-m.found.items) (map member_tree c.push.new.self.items) (omega arith)
    (ap (λ x. member_part (ports_view c.args.ports.now) x (names_view c.args.names.now)) (sym c.m-item.is) ∙ c.in_ok-member.ensures) refl
    (ap (map member_tree) c.in_ok-push.ensures.items ∙ map-append member_tree c.loop-m.found.items (c.in_ok-member.field-0 ∷ []))
    c.loop-m.invariant

pub returns : goal.returns
returns c =
    members_each c.args.list.now (ports_view c.args.ports.now) (names_view c.args.names.now)
    ∙ judged_done (member_part (ports_view c.args.ports.now)) stay c.args.list.now c.loop-m.m-index (names_view c.args.names.now) (names_view c.args.names.now) (map member_tree c.loop-m.found.items) c.loop-m-test.false c.loop-m.invariant
