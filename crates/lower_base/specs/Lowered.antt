-- What a call that lowers an expression gives.
-- Trusted but for `IsPut`: part of what a promise means.
use Rattle.std.specs.Prelude.{◌≡◌, ℕ, ◌+◌, ◌≤◌, List, ◌++◌, length}
use Rattle.cal_ast.specs.Tree.{Tree}
use Rattle.code_ir.specs.declared.instr.Instr.{Instr}
use Rattle.code_ir.specs.Code.{Code}
use Rattle.lower_base.specs.declared.draft.Draft.{Draft}
use Rattle.lower_base.specs.Names.{Name}
use Rattle.lower_base.specs.Following.{Evaluates}
use Rattle.lower_base.specs.Fitting.{Fits}
use Rattle.lower_base.specs.Placed.{StandsAt}

-- these instructions were put at the end of a draft, and nothing else changed
pub record IsPut (code : List Instr) (old new : Draft) : Type 0 where
  pub is : new.instrs.items ≡ old.instrs.items ++ code
  pub routines : new.routines.items ≡ old.routines.items
  pub cells : new.cells ≡ old.cells

-- instructions were added to a draft, such that this holds of where they stand, of the cells that there were and
-- are, and of them
pub record Adds (P : ℕ → ℕ → List Instr → ℕ → Type 0) (old new : Draft) : Type 0 where
  pub code : List Instr
  pub is : new.instrs.items ≡ old.instrs.items ++ code
  pub routines : new.routines.items ≡ old.routines.items
  pub has : P (length old.instrs.items) old.cells code new.cells

-- The instructions evaluate the expression and push its value. In any code they fit if one operand more fits.
pub record IsLowered (names : List Name) (e : Tree) (base n : ℕ) (code : List Instr) (m : ℕ) :
    Type 0 where
  pub cells : n ≤ m
  pub evaluates : Evaluates names e base n m code
  pub fits : (whole : Code) (callable h : ℕ) → StandsAt whole.instrs base code
      → Fits whole callable m base h code (h + 1) (base + length code) (h + 1)
