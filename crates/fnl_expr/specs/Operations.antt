-- How a row of operands and operators is grouped: by the levels of the operators, each level from
-- the left.
--
-- An operand waits with the operator behind it until an operator comes that isn't tighter, or the
-- end.
-- Trusted: part of what a promise means.
use Rattle.std.specs.Prelude.{ℕ, List, [], ◌∷◌, Bool, false, if◌then◌else◌, nat_le, Option, None, Some}
use Rattle.cal_ast.specs.Tree.{Tree, binary}
use Rattle.cal_ast.specs.Places.{begins}
use Rattle.cal_ast.specs.declared.expr.BinOp.{BinOp}
use Rattle.cal_grammar.specs.Operators.{height, max_height}
use Rattle.fnl_expr.specs.Operators.{level}

-- an operand that waits for what stands behind its operator
pub data Pending : Type 0 where
  pending : (left : Tree) (op : BinOp) → Pending

-- the tree isn't too high
abbrev pub fits : Tree → Bool
fits t = nat_le (height t) max_height

-- an expression, unless it is too high
abbrev pub made : Tree → Option Tree
made t = if fits t then Some t else None

-- what is made of a tree, if there is one
abbrev pub on : {A : Type 0} → Option Tree → (Tree → Option A) → Option A
on None next = None
on (Some t) next = next t

-- an operand that waits, with what stands behind its operator; it begins where that operand does
abbrev pub joined : Pending → Tree → Option Tree
joined (pending left op) right = made (binary op left right (begins left))

-- whether the operand that waits last waits for no looser operator than this
abbrev pub is_due : BinOp → List Pending → Bool
is_due op [] = false
is_due op (pending left waits ∷ waiting) = nat_le (level waits) (level op)

-- what waits before an operator, with that operator: none where an operation is too high
abbrev pub before_operator : BinOp → List Pending → Tree → Option (List Pending)
before_operator op [] right = Some (pending right op ∷ [])
before_operator op (pending left waits ∷ waiting) right =
    if nat_le (level waits) (level op)
    then on (joined (pending left waits) right) (λ t. before_operator op waiting t)
    else Some (pending right op ∷ pending left waits ∷ waiting)

-- the whole row, which stands at an offset: none where an operation is too high
abbrev pub grouped : ℕ → List Pending → Tree → Option Tree
grouped at [] right = None
grouped at (pending left op ∷ []) right = made (binary op left right at)
grouped at (pending left op ∷ next ∷ waiting) right =
    on (joined (pending left op) right) (λ t. grouped at (next ∷ waiting) t)
