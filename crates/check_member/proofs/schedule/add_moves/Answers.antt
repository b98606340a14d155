use Rattle.std.proofs.Common.{◌≡◌, ◌++◌, true, false, not, map, length, sym, ap, subst, ◌∙◌}
use Rattle.rvc_base.specs.Rules.{ambiguous_transition}
use Rattle.cal_ast.specs.View.{move_tree}
use Rattle.cal_model.specs.Tags.{moves_by, moves_of}
use Rattle.cal_check.specs.Schedules.{some_conflict, tags_broken, tags_listed, transition_of}
use Rattle.cal_check.specs.Violations.{unless}
use Rattle.check_member.specs.Judging.{Refuses}
use Rattle.check_member.specs.Parts.{action_views, actor_with, move_of_step, tags_tree}
use Rattle.check_member.specs.Targets.{Tells, meant_by_tags}
use Rattle.check_member.specs.declared.fault.MemberFault.TheVariants as fault
use Rattle.check_member.proofs.Broken.{refuses-right, refuses-unless}
use Rattle.check_member.proofs.Meant.{in-table, meant-in, own-moves}
use Rattle.check_member.proofs.schedule.add_moves.Goals as goal

pub conflicts_with-requires : goal.conflicts_with-requires
conflicts_with-requires c =
    let tags = tags_listed (tags_tree c.args.transition.now.tags.items) in
    let acts = action_views c.args.actions.now in
    let meant = c.deref-3.result.now in
    let is : meant ≡ meant_by_tags tags acts = c.deref-3.ensures.value ∙ c.in_ok-meant.ensures ∙ ap (λ ts. meant_by_tags (tags_listed (tags_tree ts)) acts) c.deref-2.ensures.value in
    record {
      in_table = in-table (length c.args.states.now) (length c.args.actions.now) c.state_number-from.result c.args.targets.now (map move_of_step c.args.steps.now.items) meant
          c.requires.told c.state_number-from.ensures.in_range (meant-in tags c.args.actions.now meant is);
    }

pub returns-then-conflicts_with : goal.returns-then-conflicts_with
returns-then-conflicts_with c =
    let t = transition_of (move_tree c.args.transition.now) in
    let acts = action_views c.args.actions.now in
    let meant = c.deref-3.result.now in
    let before = map move_of_step c.args.steps.now.items in
    let is : meant ≡ meant_by_tags t.tags acts = c.deref-3.ensures.value ∙ c.in_ok-meant.ensures ∙ ap (λ ts. meant_by_tags (tags_listed (tags_tree ts)) acts) c.deref-2.ensures.value in
    let own : moves_by c.state_number-from.result meant c.state_number-to.result ≡ moves_of (actor_with acts c.args.states.now) t =
    own-moves acts c.args.states.now t c.state_number-from.result c.state_number-to.result meant c.state_number-from.ensures.number c.state_number-to.ensures.number is in
    let conflicts_with : some_conflict (moves_of (actor_with acts c.args.states.now) t) before ≡ true =
    ap (λ ms. some_conflict ms before) (sym own)
    ∙ c.conflicts_with.ensures.elsewhere c.if-conflicts_with.true (length c.args.states.now) before c.state_number-from.ensures.in_range (meant-in t.tags c.args.actions.now meant is) c.requires.told in
    record {
      tags = tt;
      one_target = tt;
      added = tt;
      told = tt;
      broken = subst (λ f. Refuses f (tags_broken (tags_tree c.args.transition.now.tags.items) acts
          ++ unless (not (some_conflict (moves_of (actor_with acts c.args.states.now) t) before)) ambiguous_transition c.args.transition.now.at)) (sym c.broken.ensures)
          (refuses-right (fault.Broken ambiguous_transition c.args.transition.now.at) (tags_broken (tags_tree c.args.transition.now.tags.items) acts)
          (unless (not (some_conflict (moves_of (actor_with acts c.args.states.now) t) before)) ambiguous_transition c.args.transition.now.at)
          (refuses-unless (not (some_conflict (moves_of (actor_with acts c.args.states.now) t) before)) ambiguous_transition c.args.transition.now.at (ap not conflicts_with)));
      size = c.conflicts_with.ensures.size;
    }

pub returns : goal.returns
returns c =
    let t = transition_of (move_tree c.args.transition.now) in
    let acts = action_views c.args.actions.now in
    let meant = c.deref-3.result.now in
    let before = map move_of_step c.args.steps.now.items in
    let is : meant ≡ meant_by_tags t.tags acts = c.deref-3.ensures.value ∙ c.in_ok-meant.ensures ∙ ap (λ ts. meant_by_tags (tags_listed (tags_tree ts)) acts) c.deref-2.ensures.value in
    let own : moves_by c.state_number-from.result meant c.state_number-to.result ≡ moves_of (actor_with acts c.args.states.now) t =
    own-moves acts c.args.states.now t c.state_number-from.result c.state_number-to.result meant c.state_number-from.ensures.number c.state_number-to.ensures.number is in
    let in_range = meant-in t.tags c.args.actions.now meant is in
    let added : map move_of_step c.add_steps.new.steps.items ≡ before ++ moves_of (actor_with acts c.args.states.now) t =
    c.in_ok-add_steps.ensures
    ∙ ap (λ ms. before ++ moves_by c.state_number-from.result ms c.state_number-to.result) (c.deref-4.ensures.value ∙ sym c.deref-3.ensures.value)
    ∙ ap (λ ms. before ++ ms) own in
    record {
      tags = ap (λ ts. tags_broken (tags_tree ts) acts) (sym c.deref.ensures.value) ∙ c.in_ok-check_tags.ensures;
      one_target = ap (λ ms. some_conflict ms before) (sym own)
          ∙ c.conflicts_with.ensures.nowhere c.if-conflicts_with.false (length c.args.states.now) before c.state_number-from.ensures.in_range in_range c.requires.told;
      added = added;
      told = subst (λ ms. Tells (length c.args.states.now) (length c.args.actions.now) c.conflicts_with.new.targets ms)
          (ap (λ ms. before ++ ms) own ∙ sym added)
          (c.conflicts_with.ensures.entered c.if-conflicts_with.false (length c.args.states.now) before c.state_number-from.ensures.in_range in_range c.requires.told);
      broken = tt;
      size = c.conflicts_with.ensures.size;
    }
