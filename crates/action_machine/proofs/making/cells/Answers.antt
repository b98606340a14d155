use Rattle.std.proofs.Common.{◌∙◌, ap, length}
use Rattle.action_machine.proofs.Zeros.{made-for}
use Rattle.action_machine.proofs.making.cells.Goals as goal

pub returns-clause-made : goal.returns-clause-made
returns-clause-made c =
    made-for c.args.code.now _ c.most_operands.result (length c.routines-routines.result.now) (ap length c.routines-routines.ensures) c.most_operands.ensures.most
    (c.in-Ok.ensures.size ∙ c.cells.ensures) (c.in-Ok-zeros.ensures.size ∙ c.room-room.ensures) c.in-Ok-no_calls.ensures
