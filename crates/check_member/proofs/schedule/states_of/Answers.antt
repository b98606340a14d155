use Rattle.std.proofs.Common.{◌≡◌, [], sym, ap, subst, ◌∙◌}
use Rattle.cal_model.specs.Tags.{seen_in}
use Rattle.cal_check.specs.Schedules.{transitions_of}
use Rattle.check_member.specs.Parts.{transitions_tree}
use Rattle.check_member.specs.Targets.{AreSeen}
use Rattle.cal_check.proofs.Lists.{none-left}
use Rattle.cal_check.proofs.SeenStates.{all-seen}
use Rattle.check_member.proofs.schedule.states_of.Goals as goal

pub returns-clause-seen : goal.returns-clause-seen
returns-clause-seen c =
    let moves = c.args.schedule.now.moves.items in
    let done : c.moves.rest.now ≡ [] = none-left c.moves.rest.now c.in_default.ensures.cases in
    let whole : c.moves.states ≡ seen_in c.add.new.self (transitions_of (transitions_tree moves)) =
    sym (ap (λ r. seen_in c.moves.states (transitions_of (transitions_tree r))) done) ∙ c.moves.invariant
    ∙ ap (λ r. seen_in c.add.new.self (transitions_of (transitions_tree r))) c.as_slice-rest.ensures.value in
    subst (λ s. AreSeen s (transitions_of (transitions_tree moves))) (sym whole) (all-seen c.add.new.self (transitions_of (transitions_tree moves)))
