use Rattle.std.proofs.Common.{◌≡◌, ◌++◌, [], Err, map, length, drop, sym, ap, subst, ◌∙◌, arith, rules}
use Rattle.std.specs.Prelude.{IfOk}
use Rattle.std.proofs.lemmas.List.{take_at}
use Rattle.cal_check.specs.Schedules.{moves_broken, moves_listed, transitions_of}
use Rattle.check_member.specs.Judging.{Checks, Refuses}
use Rattle.check_member.specs.Parts.{action_views, actor_with, move_of_step, transitions_tree}
use Rattle.check_member.specs.Targets.{AreSeen, Tells}
use Rattle.check_member.proofs.Moves.{moves-added, moves-fine, moves-refused}
use Rattle.check_member.proofs.schedule.moves_of.Goals as goal

pub moves-init : goal.moves-init
moves-init c =
    let actor = actor_with (action_views c.args.actions.now) c.args.states.now in
    record {
      seen = c.requires.seen;
      told = subst (λ n. Tells n (length c.args.actions.now) c.in_ok-targets.targets.items (map move_of_step c.new-steps.result.items)) c.count.ensures
          (subst (λ xs. Tells c.count.result (length c.args.actions.now) c.in_ok-targets.targets.items (map move_of_step xs)) (sym c.new-steps.ensures.items) c.in_ok-targets.ensures);
      broken = ap (λ xs. moves_broken (transitions_tree c.args.moves.now) (map move_of_step xs) actor) c.new-steps.ensures.items;
      added = ap (λ xs. map move_of_step xs ++ moves_listed actor (transitions_of (transitions_tree c.args.moves.now))) c.new-steps.ensures.items;
    }

pub add_moves-requires : goal.add_moves-requires
add_moves-requires c =
    record {
      few_actions = c.requires.few_actions;
      few_states = c.requires.few_states;
      seen = (subst (λ r. AreSeen c.args.states.now (transitions_of (transitions_tree r))) c.in-Some.ensures.cases.0 c.moves.invariant.seen).0;
      told = subst (λ t. Tells (length c.args.states.now) (length c.args.actions.now) t (map move_of_step c.moves.steps.items)) (sym c.deref_mut.ensures.value) c.moves.invariant.told;
    }

pub moves-preserved : goal.moves-preserved
moves-preserved c =
    let actor = actor_with (action_views c.args.actions.now) c.args.states.now in
    let before = map move_of_step c.moves.steps.items in
    let grown = map move_of_step c.add_moves.new.steps.items in
    let table = c.add_moves.new.targets in
    let size : length table ≡ c.moves.targets.len = omega (arith, c.in_ok-add_moves.ensures.size, ap length c.deref_mut.ensures.value, c.moves.targets.ok.0) in
    record {
      seen = (subst (λ r. AreSeen c.args.states.now (transitions_of (transitions_tree r))) c.in-Some.ensures.cases.0 c.moves.invariant.seen).1;
      told = subst (λ t. Tells (length c.args.states.now) (length c.args.actions.now) t grown)
          (sym (take_at table (drop (length table) c.moves.targets.items) c.moves.targets.len size)) c.in_ok-add_moves.ensures.told;
      broken = moves-fine actor c.in-Some.first.now c.in-Some.others.now before grown c.in_ok-add_moves.ensures.tags c.in_ok-add_moves.ensures.one_target c.in_ok-add_moves.ensures.added
          ∙ ap (λ r. moves_broken (transitions_tree r) before actor) (sym c.in-Some.ensures.cases.0)
          ∙ c.moves.invariant.broken;
      added = moves-added actor c.in-Some.first.now c.in-Some.others.now before grown c.in_ok-add_moves.ensures.added
          ∙ ap (λ r. before ++ moves_listed actor (transitions_of (transitions_tree r))) (sym c.in-Some.ensures.cases.0)
          ∙ c.moves.invariant.added;
    }

pub returns-in_err-add_moves : goal.returns-in_err-add_moves
returns-in_err-add_moves c =
    let actor = actor_with (action_views c.args.actions.now) c.args.states.now in
    let before = map move_of_step c.moves.steps.items in
    let f = c.in_err-add_moves.field-0.0 in
    let same : c.from_residual-in_err-add_moves.result ≡ Err f = search rules in
    record {
      checked = subst (λ r. Checks r (moves_broken (transitions_tree c.args.moves.now) [] actor)) (sym same)
          (subst (λ vs. Refuses f vs) (ap (λ r. moves_broken (transitions_tree r) before actor) (sym c.in-Some.ensures.cases.0) ∙ c.moves.invariant.broken)
          (moves-refused actor c.in-Some.first.now c.in-Some.others.now before f c.in_err-add_moves.ensures.broken));
      moves = subst (λ r. IfOk r (λ steps. map move_of_step steps.items ≡ moves_listed actor (transitions_of (transitions_tree c.args.moves.now)))) (sym same) tt;
    }
