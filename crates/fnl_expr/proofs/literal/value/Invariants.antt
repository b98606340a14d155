use Rattle.std.proofs.Common.{◌≡◌, ◌<◌, ◌^◌, take}
use Rattle.cal_lexer.specs.Lexis.{value_of}
use Rattle.fnl_expr.proofs.literal.value.Given as goal

abbrev pub invariant-loop-b : goal.invariant-loop-b
invariant-loop-b l = (l.value ≡ value_of 10 (take l.b-index l.digits)) × (l.value < 2 ^ 128)
