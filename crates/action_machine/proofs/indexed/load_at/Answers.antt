use Rattle.std.proofs.Common.{rules, ◌∷◌, ◌+◌, ℕ, pos, SFits, ◌∙◌}
use Rattle.rvc_base.specs.Width.{num_width}
use Rattle.code_ir.specs.Effect.{Effect, Leaves, cell, with_cells}
use Rattle.action_machine.specs.Stacks.{top_first}
use Rattle.action_machine.proofs.Arms.{popped, offset-none, offset-some}
use Rattle.action_machine.proofs.indexed.load_at.Goals as goal

pub returns-in-None : goal.returns-in-None
returns-in-None c = λ tokens.
    let g : SFits num_width c.pop-o.result = search rules in
    let next : ℕ → Effect = λ k. with_cells c.args.cells.now (c.args.source + k) 1 (Leaves (cell c.args.cells.now (c.args.source + k) ∷ top_first (pos 0) c.pop-o.new.top c.args.stack.now) c.args.cells.now) in
    popped _ _ c.pop-o.result _ _ c.pop-o.ensures.operands (offset-none c.pop-o.result 1 c.args.len next g c.in-None.ensures.effect)

pub returns-in-Some : goal.returns-in-Some
returns-in-Some c = λ tokens.
    let g : SFits num_width c.pop-o.result = search rules in
    let next : ℕ → Effect = λ k. with_cells c.args.cells.now (c.args.source + k) 1 (Leaves (cell c.args.cells.now (c.args.source + k) ∷ top_first (pos 0) c.pop-o.new.top c.args.stack.now) c.args.cells.now) in
    popped _ _ c.pop-o.result _ _ c.pop-o.ensures.operands (offset-some c.pop-o.result 1 c.args.len c.in-Some.k next g c.in-Some.ensures.effect ∙ c.load.ensures tokens)
