-- Cells and tokens that hold an environment.
-- Trusted: part of what a promise means.
use Rattle.std.specs.Prelude.{◌≡◌, ℕ, ◌+◌, ◌*◌, ◌≤◌, ◌<◌, ◌⊎◌, ℤ, List, length, Option, Some, slice_get}
use Rattle.cal_model.specs.Value.{Value, HasKind, kind_of_type, scalars_of_type}
use Rattle.cal_model.specs.Env.{Env, look_up}
use Rattle.lower_base.specs.declared.names.Seat.{Seat}
use Rattle.lower_base.specs.declared.names.Seat.TheVariants.{Cell, Tokens}
use Rattle.lower_base.specs.Names.{Name, named}
use Rattle.lower_base.specs.Flat.{flat}

-- the k-th number of what stands at a seat
abbrev pub at_seat : Seat → (ℕ → List ℤ) → List ℤ → ℕ → Option ℤ
at_seat (Cell c) tokens cells k = slice_get cells (c + k)
at_seat (Tokens port first step) tokens cells k = slice_get (tokens port) (first + k * step)

-- these numbers stand at a seat
abbrev pub StandAt : Seat → (ℕ → List ℤ) → List ℤ → List ℤ → Type 0
StandAt seat tokens cells zs = (k : ℕ) (z : ℤ) → slice_get zs k ≡ Some z
    → at_seat seat tokens cells k ≡ Some z

-- the text means a value of the name's type, which stands at the name's seat
pub record HoldsName (tokens : ℕ → List ℤ) (cells : List ℤ) (env : Env) (text : List ℕ) (x : Name) :
    Type 0 where
  pub value : Value
  pub meant : look_up text env ≡ Some value
  pub of_type : HasKind (kind_of_type x.shape) value
  pub stands : StandAt x.seat tokens cells (flat value)

-- the cells and the tokens hold what each of the names means in the environment
abbrev pub Holds : List Name → (ℕ → List ℤ) → List ℤ → Env → Type 0
Holds names tokens cells env = (text : List ℕ) (x : Name) → named text names ≡ Some x
    → HoldsName tokens cells env text x

-- a range of cells ends before another begins
abbrev pub AreApart : ℕ → ℕ → ℕ → ℕ → Type 0
AreApart from to low high = (to ≤ low) ⊎ (high ≤ from)

-- the cells of a seat lie below n
abbrev pub SeatIsBelow : ℕ → ℕ → Seat → Type 0
SeatIsBelow n size (Cell c) = c + size ≤ n
SeatIsBelow n size (Tokens port first step) = Unit {0}

-- .. so for each of the names
abbrev pub AreBelow : ℕ → List Name → Type 0
AreBelow n names = (text : List ℕ) (x : Name) → named text names ≡ Some x
    → SeatIsBelow n (scalars_of_type x.shape) x.seat

-- none of the cells of a seat is among those from low to high
abbrev pub SeatIsApart : ℕ → ℕ → ℕ → Seat → Type 0
SeatIsApart low high size (Cell c) = AreApart c (c + size) low high
SeatIsApart low high size (Tokens port first step) = Unit {0}

-- .. so for each of the names
abbrev pub AllApart : ℕ → ℕ → List Name → Type 0
AllApart low high names = (text : List ℕ) (x : Name) → named text names ≡ Some x
    → SeatIsApart low high (scalars_of_type x.shape) x.seat

-- of the cells, only those from n to m and those from low to high may have changed
pub record Keeps (n m low high : ℕ) (before after : List ℤ) : Type 0 where
  pub size : length after ≡ length before
  pub cell : (c : ℕ) → (c < n) ⊎ (m ≤ c) → AreApart c (c + 1) low high
      → slice_get after c ≡ slice_get before c
