-- What comes behind an element of a comprehension.
-- Not trusted: no promise is read with it.
use Rattle.std.specs.Prelude.{◌≡◌, ℕ, length}
use Rattle.cal_ast.specs.Tree.{Tree}
use Rattle.lower_base.specs.declared.draft.Draft.{Draft}
use Rattle.lower_base.specs.Lowered.{IsPut}
use Rattle.expr_lower.specs.Filling.{next_number}
use Rattle.lower_base.specs.Generators.{Counted}

-- what leads to the next number of a generator was added, and on to the place behind it
pub record GoesOn (k : ℕ) (x : Counted) (gens : Tree) (turn : ℕ) (old new : Draft) : Type 0 where
  pub out : ℕ
  pub end : out ≡ length new.instrs.items
  pub put : IsPut (next_number k x gens turn out) old new
