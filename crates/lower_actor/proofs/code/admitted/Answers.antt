use Rattle.std.proofs.Common.{◌++◌, refl, subst, sym}
use Rattle.code_ir.specs.Code.{Code, begins}
use Rattle.code_ir.specs.Typing.{IsCause}
use Rattle.lower_actor.specs.Drafted.{starts}
use Rattle.lower_actor.specs.Fitting.{AreBodies}
use Rattle.lower_actor.proofs.Rowed.{never-bad}
use Rattle.lower_actor.proofs.code.admitted.Goals as goal

pub admit-requires-clause-sized : goal.admit-requires-clause-sized
admit-requires-clause-sized c =
    let whole : Code = record { instrs = c.args.draft.instrs.items; routines = c.args.draft.routines.items; entries = c.in_ok-entries.entries.items; cells = c.args.draft.cells } in
    let rows : AreBodies whole 0 0 (begins whole) = subst (λ es. AreBodies whole 0 0 (starts c.args.draft ++ es)) (sym c.in_ok-entries.ensures) (c.requires.bodies whole refl refl refl) in
    (c.bodies_are_admitted.ensures whole rows).1

pub unreachable-requires : goal.unreachable-requires
unreachable-requires c =
    let whole : Code = record { instrs = c.args.draft.instrs.items; routines = c.args.draft.routines.items; entries = c.in_ok-entries.entries.items; cells = c.args.draft.cells } in
    let rows : AreBodies whole 0 0 (begins whole) = subst (λ es. AreBodies whole 0 0 (starts c.args.draft ++ es)) (sym c.in_ok-entries.ensures) (c.requires.bodies whole refl refl refl) in
    never-bad whole c.in-Err-Bad.field-0-0 (c.bodies_are_admitted.ensures whole rows).0 (subst (IsCause whole) c.in-Err-Bad.field-0-is c.in-Err-Bad.ensures.bad)
