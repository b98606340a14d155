-- What taking cells makes of a draft.
-- Not trusted: no promise is read with it.
use Rattle.std.specs.Prelude.{◌≡◌, ◌<◌, ◌^◌, ℕ, ◌+◌, nat_eq, if◌then◌else◌}
use Rattle.lower_base.specs.declared.draft.Draft.{Draft}

-- a number, or 1 in place of 0
abbrev pub one_at_least : ℕ → ℕ
one_at_least n = if nat_eq n 0 then 1 else n

-- so many cells were added, and nothing else changed
pub record HasMore (count : ℕ) (old new : Draft) (c : ℕ) : Type 0 where
  pub is : c ≡ old.cells
  pub instrs : new.instrs.items ≡ old.instrs.items
  pub routines : new.routines.items ≡ old.routines.items
  pub cells : new.cells ≡ old.cells + count
  pub room : c + count < 2 ^ 32
