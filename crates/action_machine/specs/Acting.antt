-- What carrying out an instruction that goes to the next place comes to.
-- Not trusted: no promise is read with it.
use Rattle.std.specs.Prelude.{◌≡◌, ℕ, ℤ, List}
use Rattle.code_ir.specs.declared.instr.Instr.{Instr}
use Rattle.code_ir.specs.Effect.{Effect, Leaves, Fails, effect}
use Rattle.action_machine.specs.declared.stack.Acted.{Acted}
use Rattle.action_machine.specs.declared.stack.Acted.TheVariants as acted

abbrev pub effect_of : Acted → List ℤ → List ℤ → Effect
effect_of acted.On stack cells = Leaves stack cells
effect_of (acted.Fails trap) stack cells = Fails trap

-- if it fails, this holds
abbrev pub OnFails : Acted → Type 0 → Type 0
OnFails acted.On P = Unit {0}
OnFails (acted.Fails trap) P = P

-- whatever the tokens are, the instruction comes to this on these operands and cells
abbrev pub Moves : Instr → List ℤ → List ℤ → Effect → Type 0
Moves instr operands cells left = (tokens : ℕ → List ℤ) → effect tokens instr operands cells ≡ left

-- whatever the tokens and the cells are, it comes to this on these operands: others, and the same cells, or a trap
abbrev pub Computes : Instr → List ℤ → Acted → List ℤ → Type 0
Computes instr operands acted left = (cells : List ℤ)
    → Moves instr operands cells (effect_of acted left cells)

-- whatever the operands are, it comes to this on these cells: the same operands, and other cells
abbrev pub Rewrites : Instr → List ℤ → Acted → List ℤ → Type 0
Rewrites instr cells acted left = (operands : List ℤ)
    → Moves instr operands cells (effect_of acted operands left)
