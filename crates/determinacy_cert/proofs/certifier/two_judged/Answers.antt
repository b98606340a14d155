use Rattle.std.proofs.Common.{◌≡◌, Some, ◌<◌, sym, ◌∙◌, subst}
use Rattle.std.specs.Prelude.{slice_get}
use Rattle.priority_order.specs.Ranking.{is_above}
use Rattle.cal_model.specs.View.{action_view, actor_of}
use Rattle.determinacy_cert.proofs.Pairs.{at_place, have_ports, is_c1, is_c2, is_fine}
use Rattle.determinacy_cert.proofs.certifier.two_judged.Goals as goal
use Rattle.determinacy_cert.proofs.certifier.two_judged.Goals.{After-index-two}

one_at : (c : After-index-two) → slice_get (actor_of c.args.t.now.actor.now).actions c.args.a ≡ Some (action_view c.index-one.result.now)
one_at c = at_place c.args.t.now.actor.now c.args.a c.from.result c.index-one.result.now c.from.ensures (subst (λ n. c.args.a < n) c.requires.table.actions c.requires.one) c.index-one.ensures

two_at : (c : After-index-two) → slice_get (actor_of c.args.t.now.actor.now).actions c.args.b ≡ Some (action_view c.index-two.result.now)
two_at c = at_place c.args.t.now.actor.now c.args.b c.from-2.result c.index-two.result.now c.from-2.ensures (subst (λ n. c.args.b < n) c.requires.table.actions c.requires.two) c.index-two.ensures

pub is_settled-requires-clause-ports : goal.is_settled-requires-clause-ports
is_settled-requires-clause-ports c =
    have_ports c.args.t.now.actor.now c.args.a c.from.result c.index-one.result.now c.from.ensures (subst (λ n. c.args.a < n) c.requires.table.actions c.requires.one) c.index-one.ensures c.requires.table.sound

pub is_settled-requires-clause-other_ports : goal.is_settled-requires-clause-other_ports
is_settled-requires-clause-other_ports c =
    have_ports c.args.t.now.actor.now c.args.b c.from-2.result c.index-two.result.now c.from-2.ensures (subst (λ n. c.args.b < n) c.requires.table.actions c.requires.two) c.index-two.ensures c.requires.table.sound

pub returns-then-is_settled : goal.returns-then-is_settled
returns-then-is_settled c =
    let d : After-index-two = (goal.at.returns-then-is_settled c).After-index-two in
    is_fine (actor_of c.args.t.now.actor.now) (is_above c.args.t.now.order) c.args.a c.args.b (action_view c.index-one.result.now) (action_view c.index-two.result.now) (one_at d) (two_at d)
    (sym c.is_settled.ensures ∙ c.if-is_settled.true)

pub returns-then-is_ranked : goal.returns-then-is_ranked
returns-then-is_ranked c =
    let d : After-index-two = (goal.at.returns-then-is_ranked c).After-index-two in
    is_c1 (actor_of c.args.t.now.actor.now) (is_above c.args.t.now.order) c.args.a c.args.b (action_view c.index-one.result.now) (action_view c.index-two.result.now) (one_at d) (two_at d)
    (sym c.is_settled.ensures ∙ c.if-is_settled.false) (sym c.is_ranked.ensures ∙ c.if-is_ranked.true)

pub returns-else-is_ranked : goal.returns-else-is_ranked
returns-else-is_ranked c =
    let d : After-index-two = (goal.at.returns-else-is_ranked c).After-index-two in
    is_c2 (actor_of c.args.t.now.actor.now) (is_above c.args.t.now.order) c.args.a c.args.b (action_view c.index-one.result.now) (action_view c.index-two.result.now) (one_at d) (two_at d)
    (sym c.is_settled.ensures ∙ c.if-is_settled.false) (sym c.is_ranked.ensures ∙ c.if-is_ranked.false)
