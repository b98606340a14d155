-- How a row of operands and operators is grouped: by the levels of the operators, each level from the left.
-- Trusted: part of what a promise means.
use Rattle.std.specs.Prelude.{◌≡◌, ℕ, suc, List, [], ◌∷◌, ◌++◌}
use Rattle.cal_ast.specs.Tree.{Tree, binary}
use Rattle.cal_ast.specs.Places.{begins}
use Rattle.cal_ast.specs.declared.expr.BinOp.{BinOp}
use Rattle.fnl_expr.specs.Operators.{level}

pub data Item : Type 0 where
  operand : Tree → Item
  operator : BinOp → Item

-- the level of the loosest operators
abbrev pub loosest : ℕ
loosest = 10

-- the tree of a row whose operators are of a level or of tighter ones
pub data Groups : ℕ → List Item → Tree → Type 0 where
  the_operand : {t : Tree} → Groups 0 (operand t ∷ []) t
  -- Level = Tighter {Operator Tighter}
  the_tighter : {n : ℕ} {row : List Item} {t : Tree} → Groups n row t → Groups (suc n) row t
  the_operation : {n : ℕ} {row others : List Item} {op : BinOp} {left right : Tree}
      → Groups (suc n) row left → level op ≡ suc n → Groups n others right
      → Groups (suc n) (row ++ operator op ∷ others) (binary op left right (begins left))

-- there is an operator
abbrev pub AreSeveral : List Item → Type 0
AreSeveral (first ∷ second ∷ others) = Unit {0}
AreSeveral row = ⊥
