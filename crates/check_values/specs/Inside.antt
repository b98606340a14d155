-- The expressions that must be constant inside parts as they lie in memory.
-- Not trusted: no promise is read with it.
use Rattle.std.specs.Prelude.{List, ◌∷◌, map}
use Rattle.cal_ast.specs.Tree.{Tree, listed}
use Rattle.cal_ast.specs.View.{expr_tree, gen_tree}
use Rattle.cal_ast.specs.declared.expr.Expr.{Expr}
use Rattle.cal_ast.specs.declared.expr.Gen.{Gen}
use Rattle.cal_check.specs.Constants.{constants_in}

abbrev pub inside : Expr → List Tree
inside e = constants_in (expr_tree e)

abbrev pub inside_gens : List Gen → List Tree
inside_gens gens = constants_in (listed (map gen_tree gens))

-- an expression that must be constant itself, and those inside it
abbrev pub from_outside : Expr → List Tree
from_outside e = expr_tree e ∷ constants_in (expr_tree e)
