-- What taking cells for a `foreach` or for a list makes of a draft.
-- Not trusted: no promise is read with it.
use Rattle.std.specs.Prelude.{◌≡◌, ◌<◌, ◌^◌, ℕ, ◌+◌}
use Rattle.rvc_base.specs.declared.scalar.Scalar.{Scalar}
use Rattle.lower_base.specs.declared.draft.Draft.{Draft}
use Rattle.lower_stmt.specs.declared.counter.Counter.{Counter}
use Rattle.lower_stmt.specs.Stating.{counter_at}

-- three cells were added to a draft, and nothing else changed
pub record HasTaken (kind : Scalar) (old new : Draft) (c : Counter) : Type 0 where
  pub is : c ≡ counter_at old.cells kind
  pub instrs : new.instrs.items ≡ old.instrs.items
  pub routines : new.routines.items ≡ old.routines.items
  pub cells : new.cells ≡ old.cells + 3

-- so many cells were added, and nothing else changed
pub record HasMore (count : ℕ) (old new : Draft) (c : ℕ) : Type 0 where
  pub is : c ≡ old.cells
  pub instrs : new.instrs.items ≡ old.instrs.items
  pub routines : new.routines.items ≡ old.routines.items
  pub cells : new.cells ≡ old.cells + count
  pub room : c + count < 2 ^ 32
