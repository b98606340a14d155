-- Names that may be assigned, and cells that stay where they are.
-- Trusted: part of what a promise means.
use Rattle.std.specs.Prelude.{◌≡◌, ℕ, ◌+◌, ◌<◌, ◌≤◌, ◌⊎◌, ℤ, List, [], ◌∷◌, ◌++◌, length, if◌then◌else◌, false, Option, None, Some, slice_get}
use Rattle.std.specs.Str.{bytes_eq}
use Rattle.cal_model.specs.Value.{Shape, IsType, scalars_of_type}
use Rattle.cal_model.specs.Env.{Var, Env}
use Rattle.lower_base.specs.declared.names.Seat.{Seat}
use Rattle.lower_base.specs.declared.names.Seat.TheVariants.{Cell, Tokens}
use Rattle.lower_base.specs.Names.{Name, named}
use Rattle.lower_base.specs.Held.{AreApart, Holds, SeatIsApart}

-- the variable that a text means among these, of which the first hides the others
abbrev pub var_named : List ℕ → List Var → Option Var
var_named text [] = None
var_named text (x ∷ xs) = if bytes_eq x.name text then Some x else var_named text xs

-- what may be assigned is stored in the type of its name
abbrev pub AreStored : List Name → Env → Type 0
AreStored names env = (text : List ℕ) (x : Name) (u : Var) (t : Shape) → named text names ≡ Some x
    → var_named text (env.locals ++ env.globals) ≡ Some u → u.kept ≡ Some t → t ≡ x.shape

-- the cells and the tokens hold what each of the names means, and what may be assigned is stored in its type
abbrev pub HoldsVars : List Name → (ℕ → List ℤ) → List ℤ → Env → Type 0
HoldsVars names tokens cells env = Holds names tokens cells env × AreStored names env

-- the type of each of the names is one
abbrev pub AreTyped : List Name → Type 0
AreTyped names = (text : List ℕ) (x : Name) → named text names ≡ Some x → IsType x.shape

-- no cell of the first seat is one of the other
abbrev pub SeatsApart : Seat → ℕ → Seat → ℕ → Type 0
SeatsApart (Cell c) size other n = SeatIsApart c (c + size) n other
SeatsApart (Tokens port first step) size other n = Unit {0}

-- no two of the names share a cell
abbrev pub NamesApart : List Name → Type 0
NamesApart names = (text other : List ℕ) (x y : Name) → named text names ≡ Some x
    → named other names ≡ Some y
    → bytes_eq text other ≡ false → SeatsApart x.seat (scalars_of_type x.shape) y.seat
    (scalars_of_type y.shape)

-- the cell is of none of the names
abbrev pub IsOfNone : List Name → ℕ → Type 0
IsOfNone names c = (text : List ℕ) (x : Name) → named text names ≡ Some x
    → SeatIsApart c (c + 1) (scalars_of_type x.shape) x.seat

-- of the cells, only those of the names, those from n to m and those from low to high may have changed
pub record KeepsBut (names : List Name) (n m low high : ℕ) (before after : List ℤ) : Type 0 where
  pub size : length after ≡ length before
  pub cell : (c : ℕ) → (c < n) ⊎ (m ≤ c) → AreApart c (c + 1) low high → IsOfNone names c
      → slice_get after c ≡ slice_get before c
