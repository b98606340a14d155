use Rattle.trace_text.proofs.Numbering.{behind_instances, behind_growing, behind_growing_links, behind_limit, behind_grown, behind_instance, behind_firing, behind_trapping, behind_trap, behind_stalled, behind_link}
use Rattle.std.proofs.Common.{◌≤◌, subst}
use Rattle.trace_text.specs.declared.place.Field.{Field}
use Rattle.trace_text.specs.Waiting.{least_of}
use Rattle.trace_text.proofs.advance.behind.Goals as goal

pub returns-in-Instances : goal.returns-in-Instances
returns-in-Instances c = rw (c.in-Instances.is, c.at_number.ensures) (behind_instances c.args.number)

pub returns-in-GrowingInstances : goal.returns-in-GrowingInstances
returns-in-GrowingInstances c = rw (c.in-GrowingInstances.is, c.at_number-in-GrowingInstances.ensures) (behind_growing c.args.number)

pub returns-in-GrowingLinks : goal.returns-in-GrowingLinks
returns-in-GrowingLinks c =
    rw (c.in-GrowingLinks.is, c.at_number-in-GrowingLinks.ensures) (behind_growing_links c.in-GrowingLinks.instances c.args.number)

pub returns-in-Limit : goal.returns-in-Limit
returns-in-Limit c =
    rw c.in-Limit.is (behind_limit c.in-Limit.instances c.in-Limit.links c.args.number
    (subst (λ (field : Field). least_of field ≤ c.args.number) c.in-Limit.is c.requires.high))

pub returns-in-GrownLink : goal.returns-in-GrownLink
returns-in-GrownLink c = rw (c.in-GrownLink.is, c.at_number-in-GrownLink.ensures) (behind_grown c.args.number)

pub returns-in-Instance : goal.returns-in-Instance
returns-in-Instance c = rw c.in-Instance.is (behind_instance c.args.number)

pub returns-in-FiringInst : goal.returns-in-FiringInst
returns-in-FiringInst c = rw (c.in-FiringInst.is, c.at_number-in-FiringInst.ensures) (behind_firing c.args.number)

pub returns-in-TrappingInst : goal.returns-in-TrappingInst
returns-in-TrappingInst c = rw (c.in-TrappingInst.is, c.at_number-in-TrappingInst.ensures) (behind_trapping c.args.number)

pub returns-in-TrappingAction : goal.returns-in-TrappingAction
returns-in-TrappingAction c = rw c.in-TrappingAction.is (behind_trap c.in-TrappingAction.inst c.args.number)

pub returns-in-StalledInst : goal.returns-in-StalledInst
returns-in-StalledInst c = rw (c.in-StalledInst.is, c.at_number-in-StalledInst.ensures) (behind_stalled c.args.number)

pub returns-in-StalledAction : goal.returns-in-StalledAction
returns-in-StalledAction c = rw (c.in-StalledAction.is, c.at_number-in-StalledAction.ensures) (behind_link c.in-StalledAction.inst c.args.number)
