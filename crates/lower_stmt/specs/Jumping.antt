-- What setting the target of one jump makes of instructions.
-- Not trusted: no promise is read with it.
use Rattle.std.specs.Prelude.{◌≡◌, ℕ, List, ◌∷◌, ◌++◌, length}
use Rattle.code_ir.specs.declared.instr.Instr.{Instr}
use Rattle.code_ir.specs.declared.instr.Instr.TheVariants as op

-- the jump at a place leads to its target
abbrev pub SetsJump : List Instr → List Instr → ℕ → ℕ → Type 0
SetsJump old new place target =
    (before rest : List Instr) (i : Instr) → old ≡ before ++ i ∷ rest → place ≡ length before
    → new ≡ before ++ op.Jump target ∷ rest

abbrev pub SetsExit : List Instr → List Instr → ℕ → ℕ → Type 0
SetsExit old new place target =
    (before rest : List Instr) (i : Instr) → old ≡ before ++ i ∷ rest → place ≡ length before
    → new ≡ before ++ op.JumpIfNot target ∷ rest
