-- What an order is seen as.
-- Trusted: part of what a promise means.
use Rattle.std.specs.Prelude.{◌≡◌, ℕ, ◌+◌, ◌*◌, ◌<◌, Bool, false, List, length, slice_index_or, IsTrue}
use Rattle.rvc_base.specs.Line.{IsLine}

-- how many numbers are ranked, which of them is above which (a row for the number above, a column for
-- the number below), and their line
pub record Ranking : Type 0 where
  pub count : ℕ
  pub cells : List Bool
  pub line : List ℕ

-- the cell of a row and a column in a table with so many columns
abbrev pub cell : ℕ → List Bool → ℕ → ℕ → Bool
cell columns cells row column = slice_index_or cells (row * columns + column) false

-- whether a is above b
abbrev pub is_above : Ranking → ℕ → ℕ → Bool
is_above order a b = cell order.count order.cells a b

-- a table of n numbers in which none is above itself, and what is above another is above all below that
pub record IsStrict (n : ℕ) (cells : List Bool) : Type 0 where
  pub size : length cells ≡ n * n
  pub not_itself : (a : ℕ) → a < n → ¬ IsTrue (cell n cells a a)
  pub carries : (a b c : ℕ) → a < n → b < n → c < n → IsTrue (cell n cells a b)
      → IsTrue (cell n cells b c) → IsTrue (cell n cells a c)

-- a is above b by the table
abbrev pub Above : ℕ → List Bool → ℕ → ℕ → Type 0
Above n cells a b = IsTrue (cell n cells a b)

-- what each order keeps
pub record IsOrder (order : Ranking) : Type 0 where
  pub strict : IsStrict order.count order.cells
  pub lined : IsLine order.count (Above order.count order.cells) order.line
