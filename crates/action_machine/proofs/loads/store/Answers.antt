use Rattle.std.proofs.Common.{rules, ◌≡◌, pos, sym, ap, set, to_z, of_z, SFits, ◌∙◌}
use Rattle.std.proofs.lemmas.Int.{to_z-of_z}
use Rattle.rvc_base.specs.Width.{num_width}
use Rattle.code_ir.specs.Effect.{Leaves, stored}
use Rattle.action_machine.specs.Stacks.{top_first}
use Rattle.action_machine.proofs.Arms.{cells-there, popped}
use Rattle.action_machine.proofs.loads.store.Goals as goal

pub returns-clause-effect : goal.returns-clause-effect
returns-clause-effect c = λ tokens.
    let f : SFits num_width c.stored.result = search rules in
    let g : SFits num_width c.pop-v.result = search rules in
    let same : to_z num_width (of_z num_width c.stored.result) ≡ stored c.args.t c.pop-v.result =
    to_z-of_z num_width c.stored.result f ∙ (c.stored.ensures ∙ ap (stored c.args.t) (to_z-of_z num_width c.pop-v.result g)) in
    popped _ _ c.pop-v.result _ _ c.pop-v.ensures.operands (cells-there c.args.cells.now c.args.cell 1 _ _ c.requires.inside
    (ap (λ x. Leaves (top_first (pos 0) c.pop-v.new.top c.args.stack.now) (set c.args.cells.now c.args.cell x)) (sym same)))
