-- What setting the targets of jumps makes of instructions.
-- Not trusted: no promise is read with it.
use Rattle.std.specs.Prelude.{◌≡◌, ℕ, ◌+◌, List, ◌∷◌, ◌++◌, length, map}
use Rattle.code_ir.specs.declared.instr.Instr.{Instr}
use Rattle.code_ir.specs.declared.instr.Instr.TheVariants as op
use Rattle.lower_base.specs.Coding.{aimed}

-- the jumps of a condition lead out of it, and the jump behind the first branch to the end
abbrev pub Links : List Instr → List Instr → ℕ → ℕ → ℕ → ℕ → ℕ → Type 0
Links old new start exits out jump end =
    (before test first other : List Instr) (i : Instr)
    → old ≡ before ++ (test ++ (first ++ i ∷ other))
    → start ≡ length before → exits ≡ start + length test → jump ≡ exits + length first
    → new ≡ before ++ (map (aimed out) test ++ (first ++ op.Jump end ∷ other))

-- the jumps of a condition lead out of it
abbrev pub Closes : List Instr → List Instr → ℕ → ℕ → ℕ → Type 0
Closes old new start exits out =
    (before test rest : List Instr)
    → old ≡ before ++ (test ++ rest) → start ≡ length before → exits ≡ start + length test
    → new ≡ before ++ (map (aimed out) test ++ rest)
