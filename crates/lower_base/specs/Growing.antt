-- What a call that adds to a draft answers.
-- Trusted but for `IsOpposite` and `IsNegative`: part of what a promise means.
use Rattle.std.specs.Prelude.{◌≡◌, ◌+◌, ◌^◌, ◌≤◌, ℕ, ℤ, pos, neg_ℤ, Bool, true, false, not, ◌&&◌, nat_eq, if◌then◌else◌, List, [], ◌∷◌, length, Option, None, Some}
use Rattle.rvc_base.specs.Width.{is_num}
use Rattle.cal_ast.specs.declared.expr.PrefixOp.{PrefixOp}
use Rattle.cal_ast.specs.declared.expr.PrefixOp.TheVariants.{Neg}
use Rattle.cal_ast.specs.declared.expr.BinOp.{BinOp}
use Rattle.cal_ast.specs.declared.expr.BinOp.TheVariants as binaries
use Rattle.cal_ast.specs.Tree as tree
use Rattle.cal_ast.specs.Tree.{Tree}
use Rattle.rvc_base.specs.declared.scalar.Scalar.TheVariants as scalar
use Rattle.cal_model.specs.Value.{Shape, Single, Many}
use Rattle.lower_base.specs.declared.names.Seat.{Seat}
use Rattle.lower_base.specs.declared.names.Seat.TheVariants.{Cell, Tokens}
use Rattle.lower_base.specs.declared.draft.Draft.{Draft}
use Rattle.lower_base.specs.declared.fault.LowerFault.{LowerFault}
use Rattle.lower_base.specs.declared.fault.LowerFault.TheVariants.{Memory, TooLong, TooManyCells, NotLowered}
use Rattle.lower_base.specs.Callees.{Function, function_for}
use Rattle.lower_base.specs.Generators.{counted_by, made_by, makes_none}
use Rattle.lower_base.specs.ItemsSeen.{items_seen}
use Rattle.lower_base.specs.Names.{Name, local, named}
use Rattle.lower_base.specs.Listed.{list_named}
use Rattle.lower_base.specs.Parted.{alike, deep_named, number_of, part_named, sized}
use Rattle.lower_base.specs.Truths.{is_truth}

-- the first of two that is there
infixr 40 ◌or_else◌
abbrev pub ◌or_else◌ : Option ℕ → Option ℕ → Option ℕ
◌or_else◌ None y = y
◌or_else◌ (Some x) y = Some x

-- an operator whose right side may not be evaluated
abbrev pub is_short : BinOp → Bool
is_short binaries.Or = true
is_short binaries.And = true
is_short o = false

-- a single value: which one it is doesn't matter to what is left out
abbrev pub one : Shape
one = Single scalar.Bool

-- what is left out of an expression of a single value, or its place where a list is meant
abbrev pub where_one : Shape → ℕ → Option ℕ → Option ℕ
where_one (Single t) at left = left
where_one (Many n items) at left = Some at

-- the place of a name unless it stands for a single value
abbrev pub left_out_name : Option Name → ℕ → Option ℕ
left_out_name None at = Some at
left_out_name (Some x) at = elim x.shape [ Single t ↦ None | Many n items ↦ Some at ]

-- a name, where a list is meant: of another one, with as many items at each depth
abbrev pub left_out_whole : List Name → Shape → List ℕ → ℕ → Option ℕ
left_out_whole names t text at = elim (part_named names (tree.variable text at))
    [ None ↦ Some at | Some p ↦ if alike t p.shape then None else Some at ]

abbrev pub left_out_named : List Name → Shape → List ℕ → ℕ → Option ℕ
left_out_named names (Single t) text at = left_out_name (named text names) at
left_out_named names (Many n items) text at = left_out_whole names (Many n items) text at

-- the first cell of a seat in cells
abbrev pub first_cell : Seat → Option ℕ
first_cell (Cell c) = Some c
first_cell (Tokens port first step) = None

-- .. and in a list that is written out, or that generators make, which has as many items
abbrev pub left_out_many : Shape → ℕ → Option ℕ → (Shape → Option ℕ) → Option ℕ
left_out_many (Single t) at many inside = Some at
left_out_many (Many n items) at None inside = Some at
left_out_many (Many n items) at (Some k) inside = if nat_eq k n then inside items else Some at

-- an element: of a single value, or of a list
abbrev pub left_out_element : Shape → Option ℕ → Option ℕ → Option ℕ
left_out_element (Single t) value list = value
left_out_element (Many n items) value list = list

-- what sees the variables of generators
abbrev pub left_out_gens : List Name → Tree → (List Name → Option ℕ) → Option ℕ
left_out_gens names (tree.cons g gens) inside = elim (counted_by g) [
  | None ↦ None
  | Some x ↦ left_out_gens (local x.text x.kind 0 ∷ names) gens inside
]
left_out_gens names other inside = inside names

-- .. if it is evaluated at all
abbrev pub left_out_made : List Name → Tree → (List Name → Option ℕ) → Option ℕ
left_out_made names gens inside = if makes_none gens then None else left_out_gens names gens inside

-- what is left out of an item of a list that is filled apart: of the list, which is seen to have so many items, each of a
-- type, and then of the place
abbrev pub left_out_apart : Option ℕ → Shape → ℕ → (Shape → Option ℕ) → Option ℕ → Option ℕ
left_out_apart None t at list place = Some at
left_out_apart (Some n) t at list place =
    elim (sized (Many n t)) [ None ↦ Some at | Some size ↦ list (Many n t) or_else place ]

abbrev mutual
  -- The place of the first part of an expression for which no code is made, if it is to be of this type but for the sizes
  -- of its numbers. Of a single value that is a call of what is none of these functions or that has not as many
  -- arguments, a list, a name that isn't that of a single value, an index on what isn't seen to be a list, or an `and` or
  -- `or` whose left side isn't seen to be a truth value. Of a list it is a number, an operation, a call, a name, a part or
  -- a list with another number of items, a part of a list of tokens, or a comprehension whose generators aren't written
  -- out. Nothing is left out of the elements of one that makes none. Which cells names have doesn't matter here.
  pub left_out_fill : List Function → List Name → Shape → Tree → Option ℕ
  left_out_fill fs names t (tree.number k at) = where_one t at None
  left_out_fill fs names t (tree.truth b at) = where_one t at None
  left_out_fill fs names t (tree.variable text at) = left_out_named names t text at
  left_out_fill fs names t (tree.paren e at) = left_out_fill fs names t e
  left_out_fill fs names t (tree.if_expr test first other at) = left_out_fill fs names one test
      or_else (left_out_fill fs names t first or_else left_out_fill fs names t other)
  left_out_fill fs names t (tree.prefix o e at) = where_one t at (left_out_fill fs names one e)
  left_out_fill fs names t (tree.binary o l r at) =
      where_one t at (if is_short o && not (is_truth fs names l) then Some at
      else left_out_fill fs names one l or_else left_out_fill fs names one r)
  left_out_fill fs names t (tree.call text args at) =
      where_one t at (elim (function_for text (number_of args) fs)
      [ None ↦ Some at | Some f ↦ left_out_args fs names args ])
  left_out_fill fs names t (tree.list es at) =
      left_out_many t at (Some (number_of es)) (λ items. left_out_fills fs names items es)
  left_out_fill fs names t (tree.comp item gens at) = left_out_many t at (made_by gens)
      (λ items. left_out_made names gens
      (λ inner. left_out_element items (left_out_fill fs inner one item) (left_out_fill fs inner items item)))
  left_out_fill fs names t (tree.index base place at) = elim t [
    | Single s ↦ elim (list_named names base) [
      | Some l ↦ left_out_fill fs names one place
      | None ↦ elim (deep_named names (tree.index base place at)) [
        | Some l ↦ left_out_places fs names base or_else left_out_fill fs names one place
        | None ↦ left_out_apart (items_seen names base 0) one at
            (λ list. left_out_fill fs names list base) (left_out_fill fs names one place)
      ]
    ]
    | Many n items ↦ elim (part_named names (tree.index base place at)) [
      | Some p ↦ if alike (Many n items) p.shape then elim (first_cell p.seat) [
        | None ↦ Some at
        | Some c ↦ left_out_places fs names base
            or_else left_out_fill fs names one place
      ] else Some at
      | None ↦ left_out_apart (items_seen names base 0) (Many n items) at
          (λ list. left_out_fill fs names list base) (left_out_fill fs names one place)
    ]
  ]
  left_out_fill fs names t other = Some 0

  pub left_out_fills : List Function → List Name → Shape → Tree → Option ℕ
  left_out_fills fs names t (tree.cons e es) =
      left_out_fill fs names t e or_else left_out_fills fs names t es
  left_out_fills fs names t other = None

  -- .. of the indexes of a chain
  pub left_out_places : List Function → List Name → Tree → Option ℕ
  left_out_places fs names (tree.index base place at) =
      left_out_places fs names base or_else left_out_fill fs names one place
  left_out_places fs names other = None

  -- .. of arguments
  pub left_out_args : List Function → List Name → Tree → Option ℕ
  left_out_args fs names (tree.cons e es) =
      left_out_fill fs names one e or_else left_out_args fs names es
  left_out_args fs names other = None

-- .. of an expression of a single value
abbrev pub left_out_in : List Function → List Name → Tree → Option ℕ
left_out_in fs names e = left_out_fill fs names one e

-- .. if there are no functions
abbrev pub left_out : List Name → Tree → Option ℕ
left_out names e = left_out_in [] names e

-- why nothing was lowered: the place is that of the first part that is left out, and the draft has too many
-- instructions for a jump to name their places, or too many cells for three more
abbrev pub IsFault : Option ℕ → Draft → LowerFault → Type 0
IsFault left draft Memory = Unit {0}
IsFault left draft TooLong = 2 ^ 32 ≤ length draft.instrs.items
IsFault left draft TooManyCells = 2 ^ 32 ≤ draft.cells + 3
IsFault left draft (NotLowered at) = left ≡ Some at

-- ---- negative literals

-- a number is the opposite of one that a literal may be
abbrev pub IsOpposite : ℕ → ℤ → Type 0
IsOpposite k z = (is_num (pos k) ≡ true) × (z ≡ neg_ℤ (pos k))

-- the operator is the minus sign, and the tree a literal
abbrev pub IsNegative : PrefixOp → Tree → ℤ → Type 0
IsNegative Neg (tree.number k at) z = IsOpposite k z
IsNegative o e z = ⊥
