-- Operations that their left side decides.
-- Not trusted: no promise is read with it.
use Rattle.std.specs.Prelude.{Bool, false, not}
use Rattle.cal_ast.specs.declared.expr.BinOp.{BinOp}
use Rattle.cal_ast.specs.declared.expr.BinOp.TheVariants.{Or, And}
use Rattle.cal_model.specs.Value.{Value, Truth}

abbrev pub decides : BinOp → Value → Bool
decides And (Truth b) = not b
decides Or (Truth b) = b
decides op v = false
