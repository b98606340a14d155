use Rattle.std.proofs.Common.{rules, ◌∷◌, pos, sym, ap, SFits, ◌∙◌}
use Rattle.std.proofs.lemmas.Int.{to_z-of_z}
use Rattle.rvc_base.specs.Width.{num_width}
use Rattle.code_ir.specs.Effect.{Leaves, cell}
use Rattle.action_machine.specs.Stacks.{top_first}
use Rattle.action_machine.proofs.Arms.{cells-there}
use Rattle.action_machine.proofs.loads.load.Goals as goal

pub returns : goal.returns
returns c = λ tokens.
    let fits : SFits num_width (cell c.args.cells.now c.args.cell) = search rules in
    cells-there c.args.cells.now c.args.cell 1 _ _ c.requires.inside
    (ap (λ s. Leaves s c.args.cells.now) (sym (c.push.ensures.operands ∙ ap (λ x. x ∷ top_first (pos 0) c.args.top.now c.args.stack.now) (to_z-of_z num_width (cell c.args.cells.now c.args.cell) fits))))
