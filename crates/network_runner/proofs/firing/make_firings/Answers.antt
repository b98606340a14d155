use Rattle.std.proofs.Common.{rules, ◌≡◌, ◌<◌, length, map, sym, ap, ◌∙◌}
use Rattle.std.proofs.lemmas.List.{length-map}
use Rattle.net_state.specs.Held.{seen}
use Rattle.net_state.specs.Surveyed.{AreUntrapped}
use Rattle.network_runner.proofs.Empty.{if_going, none_made}
use Rattle.network_runner.proofs.firing.make_firings.Goals as goal

pub returns-then-is_empty-clause-makes : goal.returns-then-is_empty-clause-makes
returns-then-is_empty-clause-makes g c = λ net s budget since untrapped wired lawful fed.
    let old = seen g.A.Firing.cell c.args.net.now in
    let new = seen g.A.Firing.cell c.close_idle.new.net in
    let none : length c.args.marks.now ≡ 0 = search rules in
    let left : 0 < c.args.turn.now.left = search rules in
    none_made net s (g.P.Policy.kind c.args.policy.now) budget c.args.turn.now c.close_idle.result old new since untrapped left
    (length-map c.args.net.now.cells g.A.Firing.cell ∙ (sym c.requires.as_many ∙ none)) (ap (map g.A.Firing.cell) c.close_idle.ensures.cells) c.close_idle.ensures.closes

pub returns-clause-untrapped : goal.returns-clause-untrapped
returns-clause-untrapped g c = if_going c.fire_round.result.answer (AreUntrapped (map g.A.Firing.cell c.fire_round.new.net.cells)) c.fire_round.ensures.untrapped

pub returns-clause-asked : goal.returns-clause-asked
returns-clause-asked g c = if_going c.fire_round.result.answer _ (λ _. c.fire_round.ensures.rounds)

pub returns-clause-instances : goal.returns-clause-instances
returns-clause-instances g c = if_going c.fire_round.result.answer _ (λ _. c.fire_round.ensures.instances)
