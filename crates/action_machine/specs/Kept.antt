-- What a run keeps its numbers in.
-- Trusted: part of what a promise means.
use Rattle.std.specs.Prelude.{◌≡◌, ℕ, ◌+◌, ◌*◌, ◌<◌, ◌≤◌, ℤ, pos, List, length, Some, slice_get}
use Rattle.code_ir.specs.Code.{Code}
use Rattle.code_ir.specs.Typing.{Way}

pub record Kept : Type 0 where
  -- the cells
  pub numbers : List ℤ
  -- how many operands, and how many open calls, there is room for
  pub operands : ℕ
  pub calls : ℕ

-- the list is so long, and each number is 0
pub record AreZeros (n : ℕ) (numbers : List ℤ) : Type 0 where
  pub size : length numbers ≡ n
  pub zero : (k : ℕ) → k < n → slice_get numbers k ≡ Some (pos 0)

-- there is a number for each cell of the code, and room for each run of it: each body that is open at once has
-- at most the greatest height, and besides the entry's body each routine's is open once at most
pub record IsMadeFor (code : Code) (kept : Kept) : Type 0 where
  pub size : length kept.numbers ≡ code.cells
  pub operands : (p h : ℕ) → Way code p h → h * (length code.routines + 1) ≤ kept.operands
  pub calls : length code.routines ≤ kept.calls
