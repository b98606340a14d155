use Rattle.std.proofs.Common.{◌≡◌, ◌∙◌, [], length, map, reverse, sym, subst, arith, rules}
use Rattle.cal_ast.specs.View.{actor_tree}
use Rattle.check_used.specs.Naming.{with_names}
use Rattle.check_used.specs.Using.{IsFound, outer_view}
use Rattle.check_used.proofs.Found.{round_done, round_few, round_is, start_found, turned_found, turned_length}
use Rattle.check_used.proofs.used.found_names.Goals as goal

pub rounds-init : goal.rounds-init
rounds-init c =
    let ds = map outer_view c.args.decls.now in
    let before = c.add_actor.new.names in
    let first : before ≡ with_names (actor_tree c.args.actor.now) [] = search rules in (
      λ s is. round_is s before c.round.new.names ds (map outer_view c.in_ok-left.left.items) c.in_ok-left.ensures.names c.in_ok-left.ensures.left
          (subst (λ n. IsFound s n ds) (sym first) (start_found s (actor_tree c.args.actor.now) ds is)),
      (let few = round_few outer_view before c.args.decls.now c.in_ok-left.left.items c.in_ok-left.ensures.left in omega arith),
      λ e. round_done outer_view before c.args.decls.now c.in_ok-left.left.items c.in_ok-left.ensures.left c.round.new.names c.in_ok-left.ensures.names (omega arith),
    )

pub rounds-preserved : goal.rounds-preserved
rounds-preserved c =
    let items = c.rounds.left.items in
    let turned = c.deref.result.now in
    let found = c.in_ok-left-2.left.items in
    let other_way : turned ≡ reverse items = c.deref.ensures.value ∙ c.reverse.ensures.items in
    let as_many : length turned ≡ length items = turned_length items turned other_way in (
      λ s is. round_is s c.rounds.names c.round-in-rounds.new.names (map outer_view turned) (map outer_view found) c.in_ok-left-2.ensures.names c.in_ok-left-2.ensures.left
          (turned_found outer_view s c.rounds.names items turned other_way (c.rounds.invariant.0 s is)),
      (let few = round_few outer_view c.rounds.names turned found c.in_ok-left-2.ensures.left in omega arith),
      λ e. round_done outer_view c.rounds.names turned found c.in_ok-left-2.ensures.left c.round-in-rounds.new.names c.in_ok-left-2.ensures.names (omega arith),
    )

pub returns : goal.returns
returns c = λ s is.
    let few = c.rounds.invariant.1 in
    (map outer_view c.rounds.left.items, c.rounds.invariant.0 s is, c.rounds.invariant.2 (omega arith))
