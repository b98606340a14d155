use Rattle.std.proofs.Common.{◌≡◌, ℕ, ◌+◌, ◌*◌, ◌≤◌, Some, length, set, take, drop, List, Option, Bool, ap, arith}
use Rattle.std.proofs.lemmas.List.{take_at, length-set, take_all}
use Rattle.std.proofs.lemmas.Result.{err_from_is_err_and}
use Rattle.schedule_fsm.specs.declared.fsm.Step.{Step}
use Rattle.schedule_fsm.specs.Automaton.{entry}
use Rattle.schedule_fsm.specs.Fault.{IsTaken}
use Rattle.schedule_fsm.proofs.Built.{IsBuilt, step_at, built_more, two_targets, one_target, target_in_range, cause_from_taken}
use Rattle.schedule_fsm.proofs.fsm.build.Goals as goal

-- the table once all steps are in
all_in : (steps : List Step) (free : List Bool) (states i : ℕ) (table : List (Option ℕ)) → length steps ≤ i → IsBuilt (take i steps) free states table → IsBuilt steps free states table
all_in steps free states i table all built = rw (take_all i steps all) at built

pub loop-step-preserved : goal.loop-step-preserved
loop-step-preserved c =
    let steps = c.args.steps.now in
    let free = c.args.free.now in
    let step = step_at steps c.loop-step.step-index in
    let before = c.loop-step.targets.items in
    let place : ℕ = step.from * length free + step.action in
    let more : IsBuilt (take (c.loop-step.step-index + 1) steps) free c.args.states (set before place (Some step.to)) =
    built_more steps free c.args.states c.requires.states_in_range c.requires.actions_in_range c.requires.free_take_no_step before c.loop-step.step-index c.loop-step-test.true c.loop-step.invariant
    (λ to e. c.in_ok-add_step.ensures.the_same to (rw c.deref_mut.ensures.value e)) in
    let same : c.add_step.new.targets ≡ set before place (Some step.to) = rw (← c.deref_mut.ensures.value) c.in_ok-add_step.ensures.entered in
    let size : length c.add_step.new.targets ≡ c.loop-step.targets.len =
    omega (arith, ap length same, length-set before place (Some step.to), c.loop-step.targets.ok.0) in
    rw (take_at c.add_step.new.targets (drop (length c.add_step.new.targets) before) c.loop-step.targets.len size, same) more

pub returns-in_err-add_step-clause-ambiguous : goal.returns-in_err-add_step-clause-ambiguous
returns-in_err-add_step-clause-ambiguous c =
    let steps = c.args.steps.now in
    let free = c.args.free.now in
    let step = step_at steps c.loop-step.step-index in
    let before = c.loop-step.targets.items in
    let p = err_from_is_err_and c.from_residual-in_err-add_step.result c.from_residual-in_err-add_step.ensures.1 in
    let taken : IsTaken step (entry (length free) before step.from step.action) c.in_err-add_step.field-0.0 = rw (← c.deref_mut.ensures.value) c.in_err-add_step.ensures.another in
    rw (p.1, p.2) (cause_from_taken steps step (entry (length free) before step.from step.action) c.in_err-add_step.field-0.0 taken
    (two_targets steps free c.args.states c.requires.states_in_range c.requires.actions_in_range c.requires.free_take_no_step before c.loop-step.step-index c.loop-step-test.true c.loop-step.invariant))

pub invariant_of-result : goal.invariant_of-result
invariant_of-result c =
    let built = all_in c.args.steps.now c.args.free.now c.args.states c.loop-step.step-index c.loop-step.targets.items c.loop-step-test.false c.loop-step.invariant in
    record {
      size = built.size;
      in_range = target_in_range c.args.steps.now c.args.free.now c.args.states c.loop-step.targets.items built c.requires.states_in_range;
    }

pub returns-clause-leads : goal.returns-clause-leads
returns-clause-leads c =
    let built = all_in c.args.steps.now c.args.free.now c.args.states c.loop-step.step-index c.loop-step.targets.items c.loop-step-test.false c.loop-step.invariant in
    built.leads

pub returns-clause-unambiguous : goal.returns-clause-unambiguous
returns-clause-unambiguous c =
    let built = all_in c.args.steps.now c.args.free.now c.args.states c.loop-step.step-index c.loop-step.targets.items c.loop-step-test.false c.loop-step.invariant in
    one_target c.args.steps.now c.args.free.now c.args.states c.loop-step.targets.items built c.requires.states_in_range c.requires.actions_in_range
