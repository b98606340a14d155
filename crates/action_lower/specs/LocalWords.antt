-- The words of the contracts of the parts that lower locals.
-- Not trusted: no promise is read with it.
use Rattle.std.specs.Prelude.{◌≡◌, ℕ, List, ◌∷◌, string_bytes}
use Rattle.cal_model.specs.declared.bound.BoundLocal.{BoundLocal}
use Rattle.cal_model.specs.View.{shape_view}
use Rattle.lower_base.specs.declared.names.Named.{Named}
use Rattle.lower_base.specs.Names.{names_view}
use Rattle.lower_stmt.specs.ListStarting.{local_of}

-- the name of a local, which stands in the cells from one on, was put in front of names
abbrev pub IsInFrontAt : BoundLocal → ℕ → List Named → List Named → Type 0
IsInFrontAt x c old new =
    names_view new ≡ local_of (string_bytes x.name) (shape_view x.shape) c ∷ names_view old

-- .. which stands in some cells
abbrev pub IsInFront : BoundLocal → List Named → List Named → Type 0
IsInFront x old new = (c : ℕ) × IsInFrontAt x c old new
