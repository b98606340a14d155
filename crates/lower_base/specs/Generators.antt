-- Generators of comprehensions as they are written.
-- Trusted: part of what a promise means.
use Rattle.std.specs.Prelude.{◌≡◌, ℕ, ◌*◌, ◌^◌, ℤ, Bool, false, ◌||◌, nat_lt, int_lt, if◌then◌else◌, List, Option, None, Some}
use Rattle.rvc_base.specs.declared.scalar.Scalar.{Scalar}
use Rattle.cal_ast.specs.Tree as tree
use Rattle.cal_ast.specs.Tree.{Tree}
use Rattle.cal_model.specs.Expression.{span}
use Rattle.lower_base.specs.Bounds.{bound_of}
use Rattle.lower_base.specs.Meant.{single_meant}

-- a variable, its type, and the numbers that it is: all from the first to the last
pub record Counted : Type 0 where
  pub text : List ℕ
  pub kind : Scalar
  pub low : ℤ
  pub high : ℤ

abbrev pub ranged : List ℕ → Option Scalar → Option ℤ → Option ℤ → Option Counted
ranged text (Some t) (Some low) (Some high) =
    Some (record { text = text; kind = t; low = low; high = high })
ranged text t low high = None

-- the numbers from the first to the last of a generator, which may be none, if its type and its bounds are written out
abbrev pub ranged_by : Tree → Option Counted
ranged_by (tree.gen shape (tree.ident text place) from to at) =
    ranged text (single_meant shape) (bound_of from) (bound_of to)
ranged_by other = None

-- .. if there is one number at least
abbrev pub some_counted : Option Counted → Option Counted
some_counted None = None
some_counted (Some x) = if int_lt x.high x.low then None else Some x

-- what a generator counts, if that is written out and there is one number at least
abbrev pub counted_by : Tree → Option Counted
counted_by g = some_counted (ranged_by g)

-- A generator counts no number, and those in front of it are written out. Those behind it aren't looked at, since
-- nothing of them is evaluated.
abbrev pub makes_none : Tree → Bool
makes_none (tree.cons g gens) = elim (ranged_by g)
    [ None ↦ false | Some x ↦ int_lt x.high x.low || makes_none gens ]
makes_none other = false

-- how many numbers there are from the first to the last, if 32 bits hold that
abbrev pub spanned : ℤ → ℤ → Option ℕ
spanned low high = if nat_lt (span low high) (2 ^ 32) then Some (span low high) else None

abbrev pub times : Option ℕ → Option ℕ → Option ℕ
times (Some a) (Some b) = if nat_lt (a * b) (2 ^ 32) then Some (a * b) else None
times a b = None

-- how many elements generators make, if 32 bits hold this number and that of each generator
abbrev pub how_many : Tree → Option ℕ
how_many tree.nil = Some 1
how_many (tree.cons g gens) = elim (counted_by g)
    [ None ↦ None | Some x ↦ times (spanned x.low x.high) (how_many gens) ]
how_many other = None

-- .. or none, if one of them counts no number
abbrev pub made_by : Tree → Option ℕ
made_by gens = if makes_none gens then Some 0 else how_many gens

-- each of these generators counts
abbrev pub AllCount : Tree → Type 0
AllCount (tree.cons g gens) = ((x : Counted) × (counted_by g ≡ Some x)) × AllCount gens
AllCount other = Unit {0}
