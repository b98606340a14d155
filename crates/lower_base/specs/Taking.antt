-- What taking a cell makes of a draft.
-- Not trusted: no promise is read with it.
use Rattle.std.specs.Prelude.{◌≡◌, ℕ, ◌+◌}
use Rattle.lower_base.specs.declared.draft.Draft.{Draft}

-- one cell was added, and nothing else changed
pub record HasOneMore (old new : Draft) (c : ℕ) : Type 0 where
  pub is : c ≡ old.cells
  pub instrs : new.instrs.items ≡ old.instrs.items
  pub routines : new.routines.items ≡ old.routines.items
  pub cells : new.cells ≡ old.cells + 1
